-- That the claims are not true for the wrong reason: runs in which each of them happens, turn by turn.
use Rattle.std.specs.Prelude.{ℕ, ◌≡◌, cond, List, [], ◌∷◌, replicate}
use Rattle.channel.specs.declared.rooms.Room.{Room}
use Rattle.channel.specs.Rooms.{fresh_rooms, is_free}
use Rattle.channel.specs.Runs.{Turn, question, decision, end, outcome, next, written_by}

-- a turn; then the answer, the bytes written, and the numbers that wait, rooms rising
pub record Line : Type 0 where
  pub turn : Turn
  pub answer : ℕ
  pub bytes : List ℕ
  pub waiting : List ℕ

abbrev pub line : Turn → ℕ → List ℕ → List ℕ → Line
line t a bs ns = record { turn = t; answer = a; bytes = bs; waiting = ns }

abbrev pub numbers_in : List Room → List ℕ
numbers_in [] = []
numbers_in (r ∷ rs) = cond (is_free r) (numbers_in rs) (r.number ∷ numbers_in rs)

abbrev pub lines_of : List Room → List Turn → List Line
lines_of rooms [] = []
lines_of rooms (t ∷ ts) = line t (outcome rooms t).answer (written_by rooms t) (numbers_in (next rooms t)) ∷ lines_of (next rooms t) ts

abbrev pub turns_of : List Line → List Turn
turns_of [] = []
turns_of (l ∷ ls) = l.turn ∷ turns_of ls

-- a run of the turns goes as the lines say
abbrev pub GoesSo : List Line → Type 0
GoesSo ls = lines_of fresh_rooms (turns_of ls) ≡ ls

-- so many bytes lent
abbrev pub lent : ℕ → List ℕ
lent k = replicate k 255

-- a record 0606, and CANCEL
abbrev pub told : ℕ → ℕ → List ℕ
told n v = 7 ∷ 0 ∷ 6 ∷ 6 ∷ n ∷ 0 ∷ v ∷ []

abbrev pub cancels : List ℕ
cancels = 4 ∷ 0 ∷ 4 ∷ 6 ∷ []

-- four wait, the fifth gets 51; one is answered, and the fifth waits in its room
abbrev pub four_wait : List Line
four_wait =
    line (question 1 21 2 (lent 0)) 0 [] (1 ∷ [])
    ∷ line (question 2 22 3 (lent 7)) 0 cancels (1 ∷ 2 ∷ [])
    ∷ line (question 3 23 2 (lent 7)) 0 [] (1 ∷ 2 ∷ 3 ∷ [])
    ∷ line (question 4 21 2 (lent 7)) 0 [] (1 ∷ 2 ∷ 3 ∷ 4 ∷ [])
    ∷ line (question 5 25 2 (lent 7)) 51 [] (1 ∷ 2 ∷ 3 ∷ 4 ∷ [])
    ∷ line (decision 2 4 (lent 7)) 0 (told 2 2) (1 ∷ 3 ∷ 4 ∷ [])
    ∷ line (question 5 25 2 (lent 7)) 0 [] (1 ∷ 5 ∷ 3 ∷ 4 ∷ [])
    -- the user's answers, T330, and the end of a call that two wait for
    ∷ line (decision 3 0 (lent 7)) 0 (told 3 0) (1 ∷ 5 ∷ 4 ∷ [])
    ∷ line (decision 5 1 (lent 7)) 0 (told 5 1) (1 ∷ 4 ∷ [])
    ∷ line (question 6 26 2 (lent 7)) 0 [] (1 ∷ 6 ∷ 4 ∷ [])
    ∷ line (decision 6 2 (lent 7)) 0 (told 6 1) (1 ∷ 4 ∷ [])
    ∷ line (end 21 (lent 14)) 0 (7 ∷ 0 ∷ 6 ∷ 6 ∷ 1 ∷ 0 ∷ 1 ∷ 7 ∷ 0 ∷ 6 ∷ 6 ∷ 4 ∷ 0 ∷ 1 ∷ []) []
    ∷ []

-- what does not wait is answered while four do; each refusal, and that 50 comes before 51 and 53
abbrev pub at_once : List Line
at_once =
    line (question 1 21 2 (lent 7)) 0 [] (1 ∷ [])
    ∷ line (question 2 21 2 (lent 7)) 0 [] (1 ∷ 2 ∷ [])
    ∷ line (question 3 21 2 (lent 7)) 0 [] (1 ∷ 2 ∷ 3 ∷ [])
    ∷ line (question 4 21 3 (lent 3)) 7 [] (1 ∷ 2 ∷ 3 ∷ [])
    ∷ line (question 4 21 3 (lent 4)) 0 cancels (1 ∷ 2 ∷ 3 ∷ 4 ∷ [])
    ∷ line (question 5 9 0 (lent 7)) 0 (told 5 0) (1 ∷ 2 ∷ 3 ∷ 4 ∷ [])
    ∷ line (question 5 9 1 (lent 7)) 0 (told 5 1) (1 ∷ 2 ∷ 3 ∷ 4 ∷ [])
    ∷ line (question 5 9 5 (lent 7)) 0 (told 5 0) (1 ∷ 2 ∷ 3 ∷ 4 ∷ [])
    ∷ line (question 5 9 6 (lent 7)) 0 (told 5 2) (1 ∷ 2 ∷ 3 ∷ 4 ∷ [])
    ∷ line (question 5 9 7 (lent 7)) 0 (told 5 1) (1 ∷ 2 ∷ 3 ∷ 4 ∷ [])
    ∷ line (question 5 9 0 (lent 6)) 7 [] (1 ∷ 2 ∷ 3 ∷ 4 ∷ [])
    ∷ line (question 5 9 4 (lent 7)) 53 [] (1 ∷ 2 ∷ 3 ∷ 4 ∷ [])
    ∷ line (question 4 9 4 (lent 7)) 50 [] (1 ∷ 2 ∷ 3 ∷ 4 ∷ [])
    ∷ line (question 4 9 2 (lent 7)) 50 [] (1 ∷ 2 ∷ 3 ∷ 4 ∷ [])
    ∷ line (question 4 9 0 (lent 7)) 50 [] (1 ∷ 2 ∷ 3 ∷ 4 ∷ [])
    ∷ line (question 5 9 3 (lent 7)) 51 [] (1 ∷ 2 ∷ 3 ∷ 4 ∷ [])
    ∷ line (question 5 16384 2 (lent 7)) 4 [] (1 ∷ 2 ∷ 3 ∷ 4 ∷ [])
    ∷ line (question 5 9 8 (lent 7)) 4 [] (1 ∷ 2 ∷ 3 ∷ 4 ∷ [])
    -- a decision of the user for a question that waits for the cancel, and the other way round; an end that finds none
    ∷ line (decision 4 0 (lent 7)) 52 [] (1 ∷ 2 ∷ 3 ∷ 4 ∷ [])
    ∷ line (decision 1 3 (lent 7)) 52 [] (1 ∷ 2 ∷ 3 ∷ 4 ∷ [])
    ∷ line (decision 5 0 (lent 7)) 52 [] (1 ∷ 2 ∷ 3 ∷ 4 ∷ [])
    ∷ line (decision 5 5 (lent 7)) 4 [] (1 ∷ 2 ∷ 3 ∷ 4 ∷ [])
    ∷ line (decision 1 0 (lent 6)) 7 [] (1 ∷ 2 ∷ 3 ∷ 4 ∷ [])
    ∷ line (end 9 (lent 0)) 0 [] (1 ∷ 2 ∷ 3 ∷ 4 ∷ [])
    -- 28 bytes are what an end writes at most
    ∷ line (end 21 (lent 27)) 7 [] (1 ∷ 2 ∷ 3 ∷ 4 ∷ [])
    ∷ line (end 21 (lent 28)) 0
    (7 ∷ 0 ∷ 6 ∷ 6 ∷ 1 ∷ 0 ∷ 1 ∷ 7 ∷ 0 ∷ 6 ∷ 6 ∷ 2 ∷ 0 ∷ 1 ∷ 7 ∷ 0 ∷ 6 ∷ 6 ∷ 3 ∷ 0 ∷ 1 ∷ 7 ∷ 0 ∷ 6 ∷ 6 ∷ 4 ∷ 0 ∷ 1 ∷ []) []
    -- the cancel worked
    ∷ line (question 65535 1 3 (lent 7)) 0 cancels (65535 ∷ [])
    ∷ line (decision 65535 3 (lent 7)) 0 (7 ∷ 0 ∷ 6 ∷ 6 ∷ 255 ∷ 255 ∷ 0 ∷ []) []
    ∷ []
