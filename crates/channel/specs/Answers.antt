-- Which refusals apply to a turn, each told without a look at the others, and the order in which the first of them is given.
use Rattle.std.specs.Prelude.{ℕ, ◌*◌, ◌≡◌, Bool, false, cond, not, ◌&&◌, ◌||◌, List, [], ◌∷◌, ltb, eqb, length}
use Rattle.channel.specs.declared.rooms.Wait.{Wait}
use Rattle.channel.specs.declared.rooms.Room.{Room}
use Rattle.channel.specs.Rooms.{is_free, has_number, waits_for, of_call, some?, rooms_sound, count}
use Rattle.channel.specs.Runs.{Turn, question, decision, end, lent_by, outcome}

-- 4: a call over 16383, asked over 7, a decision over 4
abbrev pub out_of_range : Turn → Bool
out_of_range (question n c a b) = ltb 16383 c || ltb 7 a
out_of_range (decision n d b) = ltb 4 d
out_of_range (end c b) = ltb 16383 c

-- 50: the number waits already
abbrev pub already_waits : List Room → Turn → Bool
already_waits rooms (question n c a b) = some? (has_number n) rooms
already_waits rooms (decision n d b) = false
already_waits rooms (end c b) = false

-- 51: it would have to wait, being a group D-SETUP for the user or for the cancel, and no room is free
abbrev pub none_free : List Room → Turn → Bool
none_free rooms (question n c a b) = (eqb a 2 || eqb a 3) && not (some? is_free rooms)
none_free rooms (decision n d b) = false
none_free rooms (end c b) = false

-- 53: a group that we are calling, otherwise
abbrev pub is_open : Turn → Bool
is_open (question n c a b) = eqb a 4
is_open (decision n d b) = false
is_open (end c b) = false

-- 52: no waiting question of the number waits for the decision. 0, 1 and 2 are for the user's, 3 and 4 for the cancel's
abbrev pub nobody_waits : List Room → Turn → Bool
nobody_waits rooms (question n c a b) = false
nobody_waits rooms (decision n d b) = not (some? (waits_for n (cond (ltb d 3) Wait.User Wait.Cancel)) rooms)
nobody_waits rooms (end c b) = false

-- 7: an answer takes 7 bytes, CANCEL 4. A question for the user writes nothing, an end an answer for each waiting question of its call
abbrev pub takes : List Room → Turn → ℕ
takes rooms (question n c a b) = cond (eqb a 2) 0 (cond (eqb a 3) 4 7)
takes rooms (decision n d b) = 7
takes rooms (end c b) = 7 * count (of_call c) rooms

unfoldable pub applies : ℕ → List Room → Turn → Bool
applies n rooms t =
    cond (eqb n 1) (not (rooms_sound rooms))
    (cond (eqb n 4) (out_of_range t)
    (cond (eqb n 50) (already_waits rooms t)
    (cond (eqb n 51) (none_free rooms t)
    (cond (eqb n 53) (is_open t) (cond (eqb n 52) (nobody_waits rooms t) (ltb (length (lent_by t)) (takes rooms t)))))))

-- the first of some numbers that applies, 0 if none does
abbrev pub first_of : (ℕ → Bool) → List ℕ → ℕ
first_of p [] = 0
first_of p (n ∷ ns) = cond (p n) n (first_of p ns)

-- 1 and 4, then the request's in its order, then 7; and none otherwise
abbrev pub AnsweredInOrder : Type 0
AnsweredInOrder =
    (rooms : List Room) (t : Turn) →
    (outcome rooms t).answer ≡ first_of (λ n. applies n rooms t) (1 ∷ 4 ∷ 50 ∷ 51 ∷ 53 ∷ 52 ∷ 7 ∷ [])
