-- Any run of questions, decisions and ends: the rooms after it, and the answers that the lower layers read in the bytes.
use Rattle.std.specs.Prelude.{ℕ, zero, suc, ◌+◌, ◌<◌, Bool, false, cond, ◌&&◌, List, [], ◌∷◌, ◌++◌, ltb, eqb, length, take, drop}
use Rattle.records.specs.declared.messages.Message.{Message}
use Rattle.records.specs.Bytes.{number}
use Rattle.channel.specs.declared.rooms.Room.{Room}
use Rattle.channel.specs.Questions.{Outcome, Reply, Asked, Decision, asked_of, decision_of, first_out, rejects_in, ask_of, decide_of, ended_of}

-- any numbers handed in, any buffer lent
pub data Turn : Type 0 where
  question : (number call asked : ℕ) → (buffer : List ℕ) → Turn
  decision : (number what : ℕ) → (buffer : List ℕ) → Turn
  end : (call : ℕ) → (buffer : List ℕ) → Turn

abbrev pub lent_by : Turn → List ℕ
lent_by (question n c a b) = b
lent_by (decision n d b) = b
lent_by (end c b) = b

unfoldable pub outcome : List Room → Turn → Outcome
outcome rooms (question n c a b) = ask_of rooms n c a b
outcome rooms (decision n d b) = decide_of rooms n d b
outcome rooms (end c b) = ended_of rooms c b

-- the rooms that a turn gives back, and those after some turns
unfoldable pub next : List Room → Turn → List Room
next rooms t = (outcome rooms t).rooms

unfoldable pub run : List Room → List Turn → List Room
run rooms [] = rooms
run rooms (t ∷ ts) = run (next rooms t) ts

-- the bytes that a turn counts, of the buffer that it leaves
unfoldable pub written_by : List Room → Turn → List ℕ
written_by rooms t = take (outcome rooms t).count (outcome rooms t).buffer

-- an answer that the lower layers read
pub record Given : Type 0 where
  pub number : ℕ
  pub verdict : ℕ

-- a record of kind 0606 has the question's number at 4 and the verdict at 6; no other has an answer
unfoldable pub answer_at : List ℕ → List Given
answer_at s = cond (eqb (number 2 s 2) 0x0606) (record { number = number 2 s 4; verdict = number 1 s 6 } ∷ []) []

-- record after record, each as long as it says; at most so many
unfoldable pub answers_within : ℕ → List ℕ → List Given
answers_within zero s = []
answers_within (suc k) s = cond (ltb (length s) 4) [] (answer_at s ++ answers_within k (drop (number 2 s 0) s))

-- there are no more records than bytes
unfoldable pub answers_in : List ℕ → List Given
answers_in s = answers_within (length s) s

-- the verdicts on a number
abbrev pub verdicts_on : ℕ → List Given → List ℕ
verdicts_on n [] = []
verdicts_on n (g ∷ gs) = cond (eqb g.number n) (g.verdict ∷ []) [] ++ verdicts_on n gs

-- in a turn, and in some turns
unfoldable pub verdicts : ℕ → List Room → Turn → List ℕ
verdicts n rooms t = verdicts_on n (answers_in (written_by rooms t))

unfoldable pub verdicts_in : ℕ → List Room → List Turn → List ℕ
verdicts_in n rooms [] = []
verdicts_in n rooms (t ∷ ts) = verdicts n rooms t ++ verdicts_in n (next rooms t) ts

-- how often a question of a number was taken
abbrev pub asks : ℕ → Turn → Bool
asks n (question m c a b) = eqb m n
asks n (decision m d b) = false
asks n (end c b) = false

unfoldable pub asked : ℕ → List Room → List Turn → ℕ
asked n rooms [] = 0
asked n rooms (t ∷ ts) = cond (asks n t && eqb (outcome rooms t).answer 0) 1 0 + asked n (next rooms t) ts

-- a number takes two bytes: no other can be handed in
abbrev pub Handed : Turn → Type 0
Handed (question n c a b) = n < 65536
Handed (decision n d b) = n < 65536
Handed (end c b) = Unit {0}

abbrev pub AllHanded : List Turn → Type 0
AllHanded [] = Unit {0}
AllHanded (t ∷ ts) = Handed t × AllHanded ts

-- the messages of a turn that is taken
abbrev pub said_now : Asked → ℕ → List Message
said_now (Asked.Is (Reply.Now v)) n = Message.ChannelAnswer n v ∷ []
said_now (Asked.Is (Reply.Waits w)) n = first_out w
said_now (Asked.Is Reply.Open) n = []
said_now Asked.Unknown n = []

abbrev pub said_then : Decision → ℕ → List Message
said_then (Decision.Gives w v) n = Message.ChannelAnswer n v ∷ []
said_then Decision.Unknown n = []

abbrev pub said_if : List Room → Turn → List Message
said_if rooms (question n c a b) = said_now (asked_of a) n
said_if rooms (decision n d b) = said_then (decision_of d) n
said_if rooms (end c b) = rejects_in c rooms

unfoldable pub said : List Room → Turn → List Message
said rooms t = cond (eqb (outcome rooms t).answer 0) (said_if rooms t) []
