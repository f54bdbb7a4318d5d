-- The step: the answers in their order, and what each gives back.
use Rattle.std.specs.Prelude.{ℕ, Bool, false, cond, not, ◌||◌, List, leb, length, Result, Ok, Err}
use Rattle.std.proofs.lemmas.List.Edits.{sets}
use Rattle.records.specs.Bodies.{unreadable_number, unreadable_place}
use Rattle.records.specs.Tables.{Read, taken, refused, read}
use Rattle.direct.specs.declared.events.Event.{Event}
use Rattle.direct.specs.declared.events.Event.TheVariants.{SetupRequest, DmaReport, DmConnect, DmDisconnect, Expiry}
use Rattle.direct.specs.declared.messages.Message.{Message}
use Rattle.direct.specs.declared.call.Call.{Call}
use Rattle.direct.specs.declared.step.Refusal.{Refusal}
use Rattle.direct.specs.declared.step.Stepped.{Stepped}
use Rattle.direct.specs.Events.{events}
use Rattle.direct.specs.Messages.{bytes_of}
use Rattle.direct.specs.Call.{sound}
use Rattle.direct.specs.Draft.{Draft, messages_in}
use Rattle.direct.specs.Rows.{row_for}

-- what comes back: the answer's number, the place that 4 has with it and 0 else, the record, the count of bytes written, and the lent buffer then
pub record Outcome : Type 0 where
  pub answer : ℕ
  pub place : ℕ
  pub call : Call
  pub count : ℕ
  pub buffer : List ℕ

-- a refusal counts 0 bytes, changes no byte and returns the record as given
abbrev pub refusal_at : ℕ → ℕ → Call → List ℕ → Outcome
refusal_at n place c buffer = record { answer = n; place = place; call = c; count = 0; buffer = buffer }

-- one that has no place
abbrev pub refusal : ℕ → Call → List ℕ → Outcome
refusal n c buffer = refusal_at n 0 c buffer

-- 60: a SETUP request with attempts out of 1 to 15, or lowest above target
abbrev pub beyond : Event → Bool
beyond (SetupRequest t l m) = not (leb 1 m) || not (leb m 15) || not (leb l t)
beyond (DmaReport v) = false
beyond (DmConnect t) = false
beyond DmDisconnect = false
beyond (Expiry n) = false

-- a row's messages into the lent buffer, where there is a row and they fit
unfoldable pub carried : Call → Draft → List ℕ → Outcome
carried c d buffer =
    cond d.taken
    (cond (leb (length (bytes_of (messages_in d))) (length buffer))
    (record { answer = 0; place = 0; call = d.call; count = length (bytes_of (messages_in d)); buffer = sets buffer 0 (bytes_of (messages_in d)) })
    (refusal 7 c buffer))
    (refusal 61 c buffer)

-- an event that was read: 60, 61 and 7
unfoldable pub decided : Call → Event → List ℕ → Outcome
decided c e buffer = cond (beyond e) (refusal 60 c buffer) (carried c (row_for c e) buffer)

abbrev pub when_read : Read Event → Call → List ℕ → Outcome
when_read (taken e) c buffer = decided c e buffer
when_read (refused n place) c buffer = refusal_at n place c buffer

-- the step: the first of 1 2 3 4 60 61 7 that applies, and none otherwise
unfoldable pub step_of : Call → List ℕ → List ℕ → Outcome
step_of c bytes buffer = cond (sound c) (when_read (read events bytes) c buffer) (refusal 1 c buffer)

-- the code's refusal as the paper's number, and the place that comes with it
abbrev pub refusal_number : Refusal → ℕ
refusal_number Refusal.NotSound = 1
refusal_number (Refusal.Unreadable u) = unreadable_number u
refusal_number Refusal.NoRoom = 7
refusal_number Refusal.BeyondLimits = 60
refusal_number Refusal.NoRow = 61

abbrev pub refusal_place : Refusal → ℕ
refusal_place Refusal.NotSound = 0
refusal_place (Refusal.Unreadable u) = unreadable_place u
refusal_place Refusal.NoRoom = 0
refusal_place Refusal.BeyondLimits = 0
refusal_place Refusal.NoRow = 0

-- the code's answer, of a step on a record
abbrev pub as_outcome : Call → Result Stepped Refusal → List ℕ → Outcome
as_outcome c (Ok r) buffer = record { answer = 0; place = 0; call = r.call; count = r.count; buffer = buffer }
as_outcome c (Err e) buffer = refusal_at (refusal_number e) (refusal_place e) c buffer

-- messages into the lent buffer where they fit, and the record after them
unfoldable pub sent : List Message → Call → List ℕ → Result Stepped Refusal × List ℕ
sent ms next buffer =
    cond (leb (length (bytes_of ms)) (length buffer))
    (Ok (record { count = length (bytes_of ms); call = next }), sets buffer 0 (bytes_of ms))
    (Err Refusal.NoRoom, buffer)
