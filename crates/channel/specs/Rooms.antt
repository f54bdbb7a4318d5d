-- The rooms: four, each free or with a question that waits, and what makes them sound.
use Rattle.std.specs.Prelude.{ℕ, ◌+◌, Bool, true, false, cond, not, ◌&&◌, ◌||◌, List, [], ◌∷◌, leb, eqb, length, get_or}
use Rattle.channel.specs.declared.rooms.Wait.{Wait}
use Rattle.channel.specs.declared.rooms.Room.{Room}

-- the number of what a question waits for: nobody, in a free room; the user; the cancel of U-SETUP
abbrev pub wait_number : Wait → ℕ
wait_number Wait.Nobody = 0
wait_number Wait.User = 1
wait_number Wait.Cancel = 2

-- all of a free room is 0
abbrev pub free_room : Room
free_room = record { wait = Wait.Nobody; number = 0; call = 0 }

abbrev pub fresh_rooms : List Room
fresh_rooms = free_room ∷ free_room ∷ free_room ∷ free_room ∷ []

abbrev pub room_at : List Room → ℕ → Room
room_at rooms k = get_or rooms k free_room

unfoldable pub is_free : Room → Bool
is_free r = eqb (wait_number r.wait) 0

-- a question of a number waits there, for something, and of a call
unfoldable pub has_number : ℕ → Room → Bool
has_number n r = not (is_free r) && eqb r.number n

unfoldable pub waits_for : ℕ → Wait → Room → Bool
waits_for n w r = has_number n r && eqb (wait_number r.wait) (wait_number w)

unfoldable pub of_call : ℕ → Room → Bool
of_call c r = not (is_free r) && eqb r.call c

-- a call is an identifier
unfoldable pub room_fits : Room → Bool
room_fits r = cond (is_free r) (eqb r.number 0 && eqb r.call 0) (leb r.call 16383)

-- two rooms do not hold one number
unfoldable pub apart_from : Room → Room → Bool
apart_from r s = is_free r || not (has_number r.number s)

abbrev pub some? : (Room → Bool) → List Room → Bool
some? p [] = false
some? p (r ∷ rs) = p r || some? p rs

abbrev pub every? : (Room → Bool) → List Room → Bool
every? p [] = true
every? p (r ∷ rs) = p r && every? p rs

-- no two rooms hold one number
abbrev pub apart : List Room → Bool
apart [] = true
apart (r ∷ rs) = every? (apart_from r) rs && apart rs

-- four rooms, each fits, no number in two
unfoldable pub rooms_sound : List Room → Bool
rooms_sound rooms = eqb (length rooms) 4 && (every? room_fits rooms && apart rooms)

-- the first room of which something holds gets another content
abbrev pub in_first : (Room → Bool) → Room → List Room → List Room
in_first p x [] = []
in_first p x (r ∷ rs) = cond (p r) (x ∷ rs) (r ∷ in_first p x rs)

-- a room with its question answered, if that is of a call; and all rooms so
unfoldable pub freed : ℕ → Room → Room
freed c r = cond (of_call c r) free_room r

abbrev pub all_freed : ℕ → List Room → List Room
all_freed c [] = []
all_freed c (r ∷ rs) = freed c r ∷ all_freed c rs

-- in how many rooms something holds
abbrev pub count : (Room → Bool) → List Room → ℕ
count p [] = 0
count p (r ∷ rs) = cond (p r) 1 0 + count p rs
