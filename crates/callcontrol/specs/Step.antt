-- The step: the answers in their order, and what each gives back.
use Rattle.std.specs.Prelude.{ℕ, Bool, false, cond, not, ◌&&◌, ◌||◌, List, Option, None, Some, Result, Ok, Err, leb, eqb, length}
use Rattle.std.proofs.lemmas.List.Edits.{sets}
use Rattle.records.specs.declared.events.Event.{Event}
use Rattle.records.specs.declared.events.Event.TheVariants.{SetupRequest, SetupResponse, ReleaseRequest, TxRequest, DCallProceeding, DAlert, DConnect, DConnectAcknowledge, DSetup, DInfo, DTxGranted, DTxCeased, DTxInterrupt, DTxWait, DTxContinue, DCallRestore, DDisconnect, DRelease, ReportSent, ReportFailed, Break, Resume, Expiry}
use Rattle.records.specs.Bodies.{unreadable_number, unreadable_place}
use Rattle.records.specs.Tables.{Read, taken, refused, read, flat}
use Rattle.records.specs.Events.{events}
use Rattle.callcontrol.specs.declared.call.Call.{Call}
use Rattle.callcontrol.specs.Draft.{Draft}
use Rattle.callcontrol.specs.declared.step.Refusal.{Refusal}
use Rattle.callcontrol.specs.declared.step.Stepped.{Stepped}
use Rattle.callcontrol.specs.Call.{sound, is_idle, transmits}
use Rattle.callcontrol.specs.Rows.{row_for}
use Rattle.callcontrol.specs.Writing.{messages_in, bytes_of}

-- what comes back: the answer's number, the place that 4 has with it and 0 else, the record, the count of bytes written, and the lent buffer then
pub record Outcome : Type 0 where
  pub answer : ℕ
  pub place : ℕ
  pub call : Call
  pub count : ℕ
  pub buffer : List ℕ

-- a refusal counts 0 bytes, changes no byte and returns the record as given
abbrev pub refusal_at : ℕ → ℕ → Call → List ℕ → Outcome
refusal_at n place c buffer = record { answer = n; place = place; call = c; count = 0; buffer = buffer }

-- one that has no place
abbrev pub refusal : ℕ → Call → List ℕ → Outcome
refusal n c buffer = refusal_at n 0 c buffer

-- the identifier of a network event but D-SETUP
abbrev pub named_in : Event → Option ℕ
named_in (SetupRequest a d q s) = None
named_in SetupResponse = None
named_in ReleaseRequest = None
named_in (TxRequest k) = None
named_in (DCallProceeding i) = Some i
named_in (DAlert i) = Some i
named_in (DConnect i g d o s) = Some i
named_in (DConnectAcknowledge i g o) = Some i
named_in (DSetup i a d) = None
named_in (DInfo i r o d s) = Some i
named_in (DTxGranted i g) = Some i
named_in (DTxCeased i) = Some i
named_in (DTxInterrupt i g) = Some i
named_in (DTxWait i) = Some i
named_in (DTxContinue i k) = Some i
named_in (DCallRestore i g r o) = Some i
named_in (DDisconnect i) = Some i
named_in (DRelease i) = Some i
named_in ReportSent = None
named_in ReportFailed = None
named_in Break = None
named_in Resume = None
named_in (Expiry n) = None

-- an identifier that differs from the held one; if 0 is held outside IDLE, every one agrees
abbrev pub differs : Call → Option ℕ → Bool
differs c None = false
differs c (Some i) = not (eqb i c.id) && (not (eqb c.id 0) || is_idle c)

unfoldable pub other_call : Call → Event → Bool
other_call c e = differs c (named_in e)

-- D-INFO (0206) while the set transmits
abbrev pub over_transmission : Call → Event → Bool
over_transmission c e = eqb (flat events e).kind 0x0206 && transmits c.plane

-- a row's messages into the lent buffer, where they fit
unfoldable pub carried : Call → Draft → List ℕ → Outcome
carried c d buffer =
    cond (leb (length (bytes_of (messages_in d))) (length buffer))
    (record { answer = 0; place = 0; call = d.call; count = length (bytes_of (messages_in d)); buffer = sets buffer 0 (bytes_of (messages_in d)) })
    (refusal 7 c buffer)

-- an event that was read: 5, 6, 8 and 7
unfoldable pub decided : Call → Event → List ℕ → Outcome
decided c e buffer =
    cond (other_call c e) (refusal 5 c buffer)
    (cond (row_for c e).taken
    (cond (over_transmission c e) (refusal 8 c buffer) (carried c (row_for c e) buffer))
    (refusal 6 c buffer))

abbrev pub when_read : Read Event → Call → List ℕ → Outcome
when_read (taken e) c buffer = decided c e buffer
when_read (refused n place) c buffer = refusal_at n place c buffer

-- the step: the first number that applies in the order 1 2 3 9 4 5 6 8 7, and none otherwise
unfoldable pub step_of : Call → List ℕ → List ℕ → Outcome
step_of c bytes buffer = cond (sound c) (when_read (read events bytes) c buffer) (refusal 1 c buffer)

-- the code's refusal as the paper's number
abbrev pub answer_number : Refusal → ℕ
answer_number Refusal.NotSound = 1
answer_number (Refusal.Unreadable u) = unreadable_number u
answer_number Refusal.OtherCall = 5
answer_number Refusal.NoRow = 6
answer_number Refusal.NoRoom = 7
answer_number Refusal.OwnTransmission = 8

-- and the place that comes with it
abbrev pub place_in : Refusal → ℕ
place_in Refusal.NotSound = 0
place_in (Refusal.Unreadable u) = unreadable_place u
place_in Refusal.OtherCall = 0
place_in Refusal.NoRow = 0
place_in Refusal.NoRoom = 0
place_in Refusal.OwnTransmission = 0

-- the code's result, for the record that was handed in: a refusal counts 0 bytes and leaves that record
abbrev pub as_outcome : Call → Result Stepped Refusal → List ℕ → Outcome
as_outcome c (Ok r) buffer = record { answer = 0; place = 0; call = r.call; count = r.count; buffer = buffer }
as_outcome c (Err e) buffer = refusal_at (answer_number e) (place_in e) c buffer
