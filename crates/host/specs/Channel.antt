-- The rooms of waiting channel questions as a host's 20 bytes: four times what the question waits for u8 (0 a free room, 1 the user, 2 the cancel),
-- its number u16 and its call u16; little-endian. What the entries return, and what they leave. A result is answer * 2^24 + count.
use Rattle.std.specs.Prelude.{ℕ, ◌+◌, ◌*◌, Bool, cond, ◌&&◌, List, [], ◌∷◌, ◌++◌, leb, eqb, length, get_or, Result, Ok, Err}
use Rattle.std.proofs.Math.Option.{Option, none, some}
use Rattle.std.proofs.lemmas.List.Edits.{sets}
use Rattle.records.specs.Bytes.{number, bytes}
use Rattle.channel.specs.declared.rooms.Wait.{Wait}
use Rattle.channel.specs.declared.rooms.Room.{Room}
use Rattle.channel.specs.declared.questions.ChannelRefusal.{ChannelRefusal}
use Rattle.channel.specs.declared.questions.Answered.{Answered}
use Rattle.channel.specs.Rooms.{wait_number, fresh_rooms, room_at}
use Rattle.channel.specs.Questions.{Outcome, channel_number}
use Rattle.host.specs.Entries.{ANSWER}

unfoldable pub packed_room : Room → List ℕ
packed_room r = wait_number r.wait ∷ (bytes 2 r.number ++ bytes 2 r.call)

unfoldable pub packed_rooms : List Room → List ℕ
packed_rooms rooms = packed_room (room_at rooms 0) ++ (packed_room (room_at rooms 1) ++ (packed_room (room_at rooms 2) ++ packed_room (room_at rooms 3)))

-- the bytes are rooms: 20 of them, each waiting for one of three. That a free room is zeros is for the rooms' own answer 1
unfoldable pub is_rooms : List ℕ → Bool
is_rooms s = eqb (length s) 20 && leb (get_or s 0 0) 2 && leb (get_or s 5 0) 2 && leb (get_or s 10 0) 2 && leb (get_or s 15 0) 2

abbrev pub wait_is : ℕ → Wait
wait_is n = cond (eqb n 1) Wait.User (cond (eqb n 2) Wait.Cancel Wait.Nobody)

-- the rooms that some bytes hold
unfoldable pub held_room : List ℕ → ℕ → Room
held_room s at = record { wait = wait_is (get_or s at 0); number = number 2 s (at + 1); call = number 2 s (at + 3) }

unfoldable pub held_rooms : List ℕ → List Room
held_rooms s = held_room s 0 ∷ held_room s 5 ∷ held_room s 10 ∷ held_room s 15 ∷ []

unfoldable pub unpacked_rooms : List ℕ → Option (List Room)
unpacked_rooms s = cond (is_rooms s) (some (held_rooms s)) none

abbrev pub rooms_word : ℕ → ℕ → ℕ
rooms_word answer count = answer * ANSWER + count

-- what an entry leaves: the result, the rooms' bytes and the lent buffer, which is none for fresh rooms
pub record RoomsLeft : Type 0 where
  pub result : ℕ
  pub rooms : List ℕ
  pub out : List ℕ

-- four free rooms into 20 bytes; 1 for another length
unfoldable pub rooms_freshened : List ℕ → RoomsLeft
rooms_freshened s =
    cond (eqb (length s) 20) (record { result = rooms_word 0 20; rooms = sets s 0 (packed_rooms fresh_rooms); out = [] })
    (record { result = rooms_word 1 0; rooms = s; out = [] })

-- a call on the rooms: a refused one leaves the bytes
abbrev pub rooms_left_by : List ℕ → Outcome → RoomsLeft
rooms_left_by s o =
    record
    { result = rooms_word o.answer o.count; rooms = cond (eqb o.answer 0) (sets s 0 (packed_rooms o.rooms)) s; out = o.buffer }

-- bytes that are no rooms are answer 1, before all others
abbrev pub rooms_asked : List ℕ → List ℕ → (List Room → Outcome) → Option (List Room) → RoomsLeft
rooms_asked s out call none = record { result = rooms_word 1 0; rooms = s; out = out }
rooms_asked s out call (some rooms) = rooms_left_by s (call rooms)

unfoldable pub on_rooms : List ℕ → List ℕ → (List Room → Outcome) → RoomsLeft
on_rooms s out call = rooms_asked s out call (unpacked_rooms s)

-- what the code gives back, as result and bytes
abbrev pub leaving : List ℕ → Result Answered ChannelRefusal → ℕ × List ℕ
leaving s (Ok r) = (rooms_word 0 r.count, sets s 0 (packed_rooms r.rooms.rooms))
leaving s (Err e) = (rooms_word (channel_number e) 0, s)
