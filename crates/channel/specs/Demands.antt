-- What holds of every run of questions, decisions and ends from four free rooms, and some of it of all rooms, as types. proofs/Demands.antt has a proof
-- of each. The answers are read from the bytes (Runs).
use Rattle.std.specs.Prelude.{ℕ, ◌+◌, ◌≤◌, ◌<◌, ◌≡◌, Bool, true, false, cond, ◌&&◌, ◌||◌, not, List, [], ◌∷◌, ◌++◌, eqb, length, take, Result}
use Rattle.callcontrol.specs.declared.call.Call.{Call}
use Rattle.callcontrol.specs.declared.step.Refusal.{Refusal}
use Rattle.callcontrol.specs.declared.step.Stepped.{Stepped}
use Rattle.callcontrol.specs.Step as step
use Rattle.callcontrol.specs.Writing.{bytes_of}
use Rattle.demands.specs.Demands.{Reads}
use Rattle.channel.specs.declared.rooms.Wait.{Wait}
use Rattle.channel.specs.declared.rooms.Room.{Room}
use Rattle.channel.specs.declared.questions.ChannelRefusal.{ChannelRefusal}
use Rattle.channel.specs.declared.questions.Answered.{Answered}
use Rattle.channel.specs.Rooms.{wait_number, fresh_rooms, is_free, has_number, waits_for, some?, rooms_sound, count}
use Rattle.channel.specs.Questions.{Outcome, Reply, Asked, Decision, as_outcome, refusal, accept, reject, asked_of, decision_of, first_out, step_number, pdu_of}
use Rattle.channel.specs.Runs.{Turn, question, decision, end, lent_by, outcome, next, run, written_by, answers_in, verdicts, verdicts_in, asked, Handed, AllHanded, said}

-- the rooms after a run
abbrev pub after : List Turn → List Room
after ts = run fresh_rooms ts

-- ---- the rooms

-- all rooms of a run are sound, so 1 never comes back in a run
abbrev pub RoomsSound : Type 0
RoomsSound = (ts : List Turn) → rooms_sound (after ts) ≡ true

abbrev pub NeverUnsound : Type 0
NeverUnsound = (ts : List Turn) (t : Turn) → (outcome (after ts) t).answer ≡ 1 → ⊥

-- there are four
abbrev pub FourRooms : Type 0
FourRooms = (ts : List Turn) → length (after ts) ≡ 4

-- no two waiting questions have one number
abbrev pub NoTwoWait : Type 0
NoTwoWait = (ts : List Turn) (n : ℕ) → count (has_number n) (after ts) ≤ 1

-- a free room serves: a question that has to wait waits, unless its number does already
abbrev pub FreeServes : Type 0
FreeServes =
    (ts : List Turn) (n c a : ℕ) (b : List ℕ) (w : Wait) → asked_of a ≡ Asked.Is (Reply.Waits w) → c ≤ 16383 → some? (has_number n) (after ts) ≡ false →
    some? is_free (after ts) ≡ true → 4 ≤ length b → (outcome (after ts) (question n c a b)).answer ≡ 0

-- a refusal counts 0 bytes, changes no byte and gives the rooms back
abbrev pub Refused : Type 0
Refused = (rooms : List Room) (t : Turn) (n : ℕ) → (outcome rooms t).answer ≡ n → (n ≡ 0 → ⊥) → outcome rooms t ≡ refusal n rooms (lent_by t)

-- ---- each question is answered once

-- the questions of a number that were taken are as many as its answers, and one more while it waits
abbrev pub Once : Type 0
Once =
    (ts : List Turn) (n : ℕ) → AllHanded ts →
    asked n fresh_rooms ts ≡ length (verdicts_in n fresh_rooms ts) + count (has_number n) (after ts)

-- a question that does not have to wait is answered in its own turn, with the clause's verdict, and no room changes
abbrev pub AtOnce : Type 0
AtOnce =
    (ts : List Turn) (n c a v : ℕ) (b : List ℕ) → n < 65536 → asked_of a ≡ Asked.Is (Reply.Now v) →
    (outcome (after ts) (question n c a b)).answer ≡ 0 →
    (verdicts n (after ts) (question n c a b) ≡ v ∷ []) × (next (after ts) (question n c a b) ≡ after ts)

-- a question of a number and a call waits for something
unfoldable pub is_question : ℕ → ℕ → Wait → Room → Bool
is_question n c w r = waits_for n w r && eqb r.call c

abbrev pub Waiting : ℕ → ℕ → Wait → List Room → Type 0
Waiting n c w rooms = some? (is_question n c w) rooms ≡ true

-- one that has to wait is not answered in its own turn, and waits then; for the cancel, CANCEL goes out first
abbrev pub Waits : Type 0
Waits =
    (ts : List Turn) (n c a : ℕ) (w : Wait) (b : List ℕ) → asked_of a ≡ Asked.Is (Reply.Waits w) → (outcome (after ts) (question n c a b)).answer ≡ 0 →
    (verdicts n (after ts) (question n c a b) ≡ [])
    × (written_by (after ts) (question n c a b) ≡ bytes_of (first_out w))
    × Waiting n c w (next (after ts) (question n c a b))

-- what decides a waiting question: a decision for its number that it waits for, or its call's end
abbrev pub gives : Wait → Decision → Bool
gives w (Decision.Gives u v) = eqb (wait_number u) (wait_number w)
gives w Decision.Unknown = false

abbrev pub decides : ℕ → ℕ → Wait → Turn → Bool
decides n c w (question m k a b) = false
decides n c w (decision m d b) = eqb m n && gives w (decision_of d)
decides n c w (end k b) = eqb k c

-- turns of which none decides it, those aside that had no room for what they write
abbrev pub undecided : ℕ → ℕ → Wait → List Room → List Turn → Bool
undecided n c w rooms [] = true
undecided n c w rooms (t ∷ ts) = (not (decides n c w t) || eqb (outcome rooms t).answer 7) && undecided n c w (next rooms t) ts

-- through such turns it goes on waiting and is not answered
abbrev pub NotBefore : Type 0
NotBefore =
    (ts us : List Turn) (n c : ℕ) (w : Wait) → AllHanded ts → AllHanded us → Waiting n c w (after ts) → undecided n c w (after ts) us ≡ true →
    (verdicts_in n (after ts) us ≡ []) × Waiting n c w (after (ts ++ us))

-- the verdict that a turn gives: the decision's, or reject at the call's end
abbrev pub verdict_in : Decision → ℕ
verdict_in (Decision.Gives w v) = v
verdict_in Decision.Unknown = reject

abbrev pub verdict_by : Turn → ℕ
verdict_by (question n c a b) = reject
verdict_by (decision n d b) = verdict_in (decision_of d)
verdict_by (end c b) = reject

-- at the first turn that decides it and has room it is answered, once, with that verdict, and waits no more; its room is free
abbrev pub Then : Type 0
Then =
    (ts : List Turn) (t : Turn) (n c : ℕ) (w : Wait) → AllHanded ts → Handed t → Waiting n c w (after ts) → decides n c w t ≡ true →
    ((outcome (after ts) t).answer ≡ 7 → ⊥) →
    (verdicts n (after ts) t ≡ verdict_by t ∷ [])
    × (count (has_number n) (next (after ts) t) ≡ 0)
    × (some? is_free (next (after ts) t) ≡ true)

-- ---- individually addressed

-- where the step's promise holds of what it gave back for a PDU: accept if it took the PDU, else reject, and never ignore; the question never waits
abbrev pub Individual : Type 0
Individual =
    (ts : List Turn) (n c : ℕ) (b : List ℕ) (call : Call) (pdu lent left : List ℕ) (s : Result Stepped Refusal) → n < 65536 →
    step.as_outcome call s left ≡ step.step_of call pdu lent →
    (pdu_of (after ts) n c (step_number s) b).answer ≡ 0 →
    (answers_in (take (pdu_of (after ts) n c (step_number s) b).count (pdu_of (after ts) n c (step_number s) b).buffer)
    ≡ record { number = n; verdict = cond (eqb (step.step_of call pdu lent).answer 0) accept reject } ∷ [])
    × ((pdu_of (after ts) n c (step_number s) b).rooms ≡ after ts)

-- and it is answered, whatever waits, but for its number, a call that is no identifier, or want of room
abbrev pub IndividualTaken : Type 0
IndividualTaken =
    (ts : List Turn) (n c k : ℕ) (b : List ℕ) → c ≤ 16383 → some? (has_number n) (after ts) ≡ false → 7 ≤ length b → (pdu_of (after ts) n c k b).answer ≡ 0

-- the question on a PDU that the step takes is accepted, and, where the call ends with it, those that wait for the call are rejected, it not among them
abbrev pub EndingPdu : Type 0
EndingPdu =
    (ts : List Turn) (n c : ℕ) (b d : List ℕ) → AllHanded ts → n < 65536 → c ≤ 16383 → some? (has_number n) (after ts) ≡ false → 7 ≤ length b → 28 ≤ length d →
    (verdicts_in n (after ts) (question n c 0 b ∷ end c d ∷ []) ≡ accept ∷ [])
    × ((m : ℕ) (w : Wait) → Waiting m c w (after ts) → verdicts_in m (after ts) (question n c 0 b ∷ end c d ∷ []) ≡ reject ∷ [])

-- ---- what is written

-- it reads back, record after record
abbrev pub ReadsBack : Type 0
ReadsBack = (ts : List Turn) (t : Turn) → AllHanded ts → Handed t → Reads (written_by (after ts) t) (said (after ts) t)

-- how much it is, and how much room to lend
abbrev pub room : Turn → ℕ
room (question n c a b) = 7
room (decision n d b) = 7
room (end c b) = 28

abbrev pub AtMost : Type 0
AtMost = (ts : List Turn) (t : Turn) → (outcome (after ts) t).count ≤ room t

abbrev pub Enough : Type 0
Enough = (ts : List Turn) (t : Turn) → room t ≤ length (lent_by t) → (outcome (after ts) t).answer ≡ 7 → ⊥

-- ---- the promise

-- two results that it allows are equal, with every byte of the buffer
abbrev pub Determined : Type 0
Determined =
    (o : Outcome) (rooms : List Room) (r₁ r₂ : Result Answered ChannelRefusal) (b₁ b₂ : List ℕ) → as_outcome rooms r₁ b₁ ≡ o → as_outcome rooms r₂ b₂ ≡ o →
    (r₁ ≡ r₂) × (b₁ ≡ b₂)
