-- What stands ahead in the bytes that are left, and the lines of the whole records among them.
use Rattle.std.specs.Prelude.{ℕ, ◌<◌, ◌≤◌, cond, ◌≡◌, List, [], ◌++◌, ltb, length, take, drop, replicate, Option, Some, None, Result, Ok, Err}
use Rattle.records.specs.Bytes.{number}
use Rattle.callcontrol.specs.declared.call.Call.{Call}
use Rattle.callcontrol.specs.Step.{Outcome, step_of}
use Rattle.calltrace.specs.declared.block.TooShort.{TooShort}
use Rattle.calltrace.specs.declared.block.Pause.{Pause}
use Rattle.calltrace.specs.Line.{line_most, line_for}

-- a whole record of so many bytes; a record of which bytes are missing, or nothing; a length under 4, which no record has
pub data Ahead : Type 0 where
  Whole : ℕ → Ahead
  Cut : Ahead
  Short : Ahead

abbrev pub as_ahead : Result (Option ℕ) TooShort → Ahead
as_ahead (Ok (Some size)) = Ahead.Whole size
as_ahead (Ok None) = Ahead.Cut
as_ahead (Err e) = Ahead.Short

-- the length, which counts all bytes of the record, stands in its first two
unfoldable pub ahead_in : List ℕ → Ahead
ahead_in s =
    cond (ltb (length s) 2) Ahead.Cut
    (cond (ltb (number 2 s 0) 4) Ahead.Short (cond (ltb (length s) (number 2 s 0)) Ahead.Cut (Ahead.Whole (number 2 s 0))))

-- a whole record has 4 bytes at least, and no more than are left; one that is cut has fewer bytes than the longest record
abbrev pub AheadFits : ℕ → Ahead → Type 0
AheadFits left (Ahead.Whole size) = (4 ≤ size) × (size ≤ left)
AheadFits left Ahead.Cut = left < 65535
AheadFits left Ahead.Short = Unit {0}

-- what the step makes of a record, with 64 bytes lent
abbrev pub outcome_of : Call → List ℕ → Outcome
outcome_of c event = step_of c event (replicate 64 0)

-- whole records from the front, each stepped from the call record that the one before gave back: what they leave, that call record, and
-- their lines
pub data Lines (s : List ℕ) (first : Call) : List ℕ → Call → List ℕ → Type 0 where
  none : Lines s first s first []
  more : {rest : List ℕ} {c : Call} {text : List ℕ} (size : ℕ) → Lines s first rest c text → ahead_in rest ≡ Ahead.Whole size
      → Lines s first (drop size rest) (outcome_of c (take size rest)).call (text ++ line_for (outcome_of c (take size rest)))

-- those lines behind the ones that were there, and nothing else
pub record Traced (s : List ℕ) (first : Call) (old rest : List ℕ) (call : Call) (new : List ℕ) : Type 0 where
  pub text : List ℕ
  pub ran : Lines s first rest call text
  pub laid : new ≡ old ++ text

-- why the lines stop, by what is left and by the room for lines: a cut record leaves room to read on, and the last line has room
abbrev pub PauseIn : List ℕ → ℕ → Result Pause TooShort → Type 0
PauseIn rest room (Ok Pause.Full) = room < line_most
PauseIn rest room (Ok Pause.Cut) = (ahead_in rest ≡ Ahead.Cut) × (length rest < 65535) × (line_most ≤ room)
PauseIn rest room (Err e) = (ahead_in rest ≡ Ahead.Short) × (line_most ≤ room)
