-- Questions, decisions and ends: the answers in their order, the rooms then, and what goes out.
use Rattle.std.specs.Prelude.{ℕ, cond, List, [], ◌∷◌, ◌++◌, leb, eqb, length, Option, Some, None, Result, Ok, Err}
use Rattle.std.proofs.lemmas.List.Edits.{sets}
use Rattle.records.specs.declared.messages.Message.{Message}
use Rattle.callcontrol.specs.declared.step.Refusal.{Refusal}
use Rattle.callcontrol.specs.declared.step.Stepped.{Stepped}
use Rattle.callcontrol.specs.Step.{answer_number}
use Rattle.callcontrol.specs.Writing.{bytes_of}
use Rattle.channel.specs.declared.rooms.Wait.{Wait}
use Rattle.channel.specs.declared.rooms.Room.{Room}
use Rattle.channel.specs.declared.questions.ChannelRefusal.{ChannelRefusal}
use Rattle.channel.specs.declared.questions.Answered.{Answered}
use Rattle.channel.specs.declared.questions.Verdict.{Verdict}
use Rattle.channel.specs.declared.questions.Rule.{Rule}
use Rattle.channel.specs.declared.questions.Decided.{Decided}
use Rattle.channel.specs.Rooms.{free_room, is_free, has_number, waits_for, of_call, some?, rooms_sound, in_first, all_freed}

-- a refusal's number
abbrev pub channel_number : ChannelRefusal → ℕ
channel_number ChannelRefusal.NotSound = 1
channel_number ChannelRefusal.BadField = 4
channel_number ChannelRefusal.NumberWaits = 50
channel_number ChannelRefusal.RoomsFull = 51
channel_number ChannelRefusal.OwnGroup = 53
channel_number ChannelRefusal.NoneWaits = 52
channel_number ChannelRefusal.NoRoom = 7

-- what comes back: the answer's number, the rooms, the count of bytes written, and the lent buffer then
pub record Outcome : Type 0 where
  pub answer : ℕ
  pub rooms : List Room
  pub count : ℕ
  pub buffer : List ℕ

-- a refusal counts 0 bytes, changes no byte and returns the rooms as given
abbrev pub refusal : ℕ → List Room → List ℕ → Outcome
refusal n rooms buffer = record { answer = n; rooms = rooms; count = 0; buffer = buffer }

-- what the code gives back of some rooms: 0 for what is taken, or a refusal's number
abbrev pub as_outcome : List Room → Result Answered ChannelRefusal → List ℕ → Outcome
as_outcome rooms (Ok r) buffer = record { answer = 0; rooms = r.rooms.rooms; count = r.count; buffer = buffer }
as_outcome rooms (Err e) buffer = refusal (channel_number e) rooms buffer

-- messages into the lent buffer, where they fit, and the rooms that go with them
unfoldable pub carried : List Room → List Room → List Message → List ℕ → Outcome
carried rooms next ms buffer =
    cond (leb (length (bytes_of ms)) (length buffer))
    (record { answer = 0; rooms = next; count = length (bytes_of ms); buffer = sets buffer 0 (bytes_of ms) })
    (refusal 7 rooms buffer)

-- the verdicts on a channel change
abbrev pub accept : ℕ
accept = 0

abbrev pub reject : ℕ
reject = 1

abbrev pub ignore : ℕ
ignore = 2

abbrev pub verdict_number : Verdict → ℕ
verdict_number Verdict.Accept = accept
verdict_number Verdict.Reject = reject
verdict_number Verdict.Ignore = ignore

-- what a question gets: a verdict at once, a room to wait in, or neither, the rule being open
pub data Reply : Type 0 where
  Now : ℕ → Reply
  Waits : Wait → Reply
  Open : Reply

-- what is asked, and what a decision is for with the verdict that it gives: unknown for a number that is out of range
pub data Asked : Type 0 where
  Is : Reply → Asked
  Unknown : Asked

pub data Decision : Type 0 where
  Gives : Wait → ℕ → Decision
  Unknown : Decision

abbrev pub as_reply : Rule → Reply
as_reply (Rule.Now v) = Reply.Now (verdict_number v)
as_reply (Rule.Waits w) = Reply.Waits w
as_reply Rule.Open = Reply.Open

abbrev pub as_asked : Option Rule → Asked
as_asked (Some rule) = Asked.Is (as_reply rule)
as_asked None = Asked.Unknown

abbrev pub as_decision : Option Decided → Decision
as_decision (Some d) = Decision.Gives d.wait (verdict_number d.verdict)
as_decision None = Decision.Unknown

-- what is asked. 0, 1: individually addressed, and the step took the PDU, or refused it. 2: group D-SETUP to a group that we aren't calling. 3, 4: to
-- one that we are calling, with U-SETUP not reported sent and a compatible service, or otherwise. 5, 6, 7: a group addressed PDU of an ongoing call
-- that is obeyed; that is not, and is D-TX GRANTED or D-TX INTERRUPT while we transmit; that is not, otherwise
unfoldable pub asked_of : ℕ → Asked
asked_of n =
    cond (eqb n 0) (Asked.Is (Reply.Now accept))
    (cond (eqb n 1) (Asked.Is (Reply.Now reject))
    (cond (eqb n 2) (Asked.Is (Reply.Waits Wait.User))
    (cond (eqb n 3) (Asked.Is (Reply.Waits Wait.Cancel))
    (cond (eqb n 4) (Asked.Is Reply.Open)
    (cond (eqb n 5) (Asked.Is (Reply.Now accept))
    (cond (eqb n 6) (Asked.Is (Reply.Now ignore)) (cond (eqb n 7) (Asked.Is (Reply.Now reject)) Asked.Unknown)))))))

-- what is decided. 0: the user's SETUP response. 1: the user's RELEASE request. 2: T330 expired. 3, 4: the cancel worked, or failed
unfoldable pub decision_of : ℕ → Decision
decision_of n =
    cond (eqb n 0) (Decision.Gives Wait.User accept)
    (cond (eqb n 1) (Decision.Gives Wait.User reject)
    (cond (eqb n 2) (Decision.Gives Wait.User reject)
    (cond (eqb n 3) (Decision.Gives Wait.Cancel accept) (cond (eqb n 4) (Decision.Gives Wait.Cancel ignore) Decision.Unknown))))

-- a question

-- what goes out before a question waits
abbrev pub first_out : Wait → List Message
first_out Wait.Nobody = []
first_out Wait.User = []
first_out Wait.Cancel = Message.Cancel ∷ []

-- it takes the lowest free room
unfoldable pub taken : List Room → ℕ → ℕ → Wait → List ℕ → Outcome
taken rooms number call w buffer =
    cond (some? is_free rooms)
    (carried rooms (in_first is_free (record { wait = w; number = number; call = call }) rooms) (first_out w) buffer)
    (refusal 51 rooms buffer)

abbrev pub replied : Reply → List Room → ℕ → ℕ → List ℕ → Outcome
replied (Reply.Now v) rooms number call buffer = carried rooms rooms (Message.ChannelAnswer number v ∷ []) buffer
replied (Reply.Waits w) rooms number call buffer = taken rooms number call w buffer
replied Reply.Open rooms number call buffer = refusal 53 rooms buffer

abbrev pub asked_as : Asked → List Room → ℕ → ℕ → List ℕ → Outcome
asked_as (Asked.Is reply) rooms number call buffer =
    cond (some? (has_number number) rooms) (refusal 50 rooms buffer) (replied reply rooms number call buffer)
asked_as Asked.Unknown rooms number call buffer = refusal 4 rooms buffer

-- 1, 4, 50, then 51 for one that would wait or 53, then 7
unfoldable pub ask_of : List Room → ℕ → ℕ → ℕ → List ℕ → Outcome
ask_of rooms number call asked buffer =
    cond (rooms_sound rooms)
    (cond (leb call 16383) (asked_as (asked_of asked) rooms number call buffer) (refusal 4 rooms buffer))
    (refusal 1 rooms buffer)

-- the number of the step's answer, in what it gave
abbrev pub step_number : Result Stepped Refusal → ℕ
step_number (Ok s) = 0
step_number (Err e) = answer_number e

-- an individually addressed PDU that the step has answered with a number: taken or refused
abbrev pub asked_by : ℕ → ℕ
asked_by n = cond (eqb n 0) 0 1

unfoldable pub pdu_of : List Room → ℕ → ℕ → ℕ → List ℕ → Outcome
pdu_of rooms number call n buffer = ask_of rooms number call (asked_by n) buffer

-- a decision: 1, 4, 52, 7. A room that is answered is free
abbrev pub decided_as : Decision → List Room → ℕ → List ℕ → Outcome
decided_as (Decision.Gives w v) rooms number buffer =
    cond (some? (waits_for number w) rooms)
    (carried rooms (in_first (waits_for number w) free_room rooms) (Message.ChannelAnswer number v ∷ []) buffer)
    (refusal 52 rooms buffer)
decided_as Decision.Unknown rooms number buffer = refusal 4 rooms buffer

unfoldable pub decide_of : List Room → ℕ → ℕ → List ℕ → Outcome
decide_of rooms number decision buffer =
    cond (rooms_sound rooms) (decided_as (decision_of decision) rooms number buffer) (refusal 1 rooms buffer)

-- a call's end: 1, 4, 7. Its waiting questions are rejected, rooms rising

unfoldable pub rejects : ℕ → Room → List Message
rejects c r = cond (of_call c r) (Message.ChannelAnswer r.number reject ∷ []) []

abbrev pub rejects_in : ℕ → List Room → List Message
rejects_in c [] = []
rejects_in c (r ∷ rs) = rejects c r ++ rejects_in c rs

unfoldable pub ended_of : List Room → ℕ → List ℕ → Outcome
ended_of rooms c buffer =
    cond (rooms_sound rooms)
    (cond (leb c 16383) (carried rooms (all_freed c rooms) (rejects_in c rooms) buffer) (refusal 4 rooms buffer))
    (refusal 1 rooms buffer)
