-- The timers by messages: read from the messages written and the expiries taken alone. A timer runs that was started, and neither stopped nor
-- expired since. It looks at no record and at no row.
use Rattle.std.specs.Prelude.{ℕ, Bool, true, false, cond, List, [], ◌∷◌, eqb, get_or, set}
use Rattle.std.proofs.Math.Option.{Option, none, some}
use Rattle.records.specs.declared.events.Event.{Event}
use Rattle.records.specs.declared.events.Event.TheVariants.{SetupRequest, SetupResponse, ReleaseRequest, TxRequest, DCallProceeding, DAlert, DConnect, DConnectAcknowledge, DSetup, DInfo, DTxGranted, DTxCeased, DTxInterrupt, DTxWait, DTxContinue, DCallRestore, DDisconnect, DRelease, ReportSent, ReportFailed, Break, Resume, Expiry}
use Rattle.records.specs.declared.messages.Message.{Message}
use Rattle.records.specs.declared.messages.Message.TheVariants.{USetup, UConnect, UDisconnect, URelease, UInfo, UTxDemand, UTxCeased, UCallRestore, Stop, Start, Configure, Cancel, Place, ChannelAnswer, SetupIndication, SetupConfirm, Proceed, Alert, Complete, ReleaseIndication, ReleaseConfirm, TxIndication, ModifyIndication}
use Rattle.callcontrol.specs.declared.call.Call.{Call}
use Rattle.callcontrol.specs.Call.{T301, T302, T303, T306, T308, T310, T311}
use Rattle.demands.specs.Runs.{Turn, next, taken_by, written_by}

-- what a turn shows outside: the event that it takes, and the messages that it writes
pub record Entry : Type 0 where
  pub taken : Option Event
  pub written : List Message

unfoldable pub log_in : Call → List Turn → List Entry
log_in c [] = []
log_in c (t ∷ ts) = record { taken = taken_by c t; written = written_by c t } ∷ log_in (next c t) ts

-- a timer's index in the record's array, by its number
unfoldable pub index_of : ℕ → ℕ
index_of n =
    cond (eqb n 301) T301
    (cond (eqb n 302) T302 (cond (eqb n 303) T303 (cond (eqb n 306) T306 (cond (eqb n 308) T308 (cond (eqb n 310) T310 T311)))))

-- START and STOP
unfoldable pub note_message : List Bool → Message → List Bool
note_message f (USetup a d q s) = f
note_message f (UConnect i) = f
note_message f (UDisconnect i c) = f
note_message f (URelease i) = f
note_message f (UInfo i d) = f
note_message f (UTxDemand i) = f
note_message f (UTxCeased i) = f
note_message f (UCallRestore i a q) = f
note_message f (Stop n) = set f (index_of n) false
note_message f (Start n o) = set f (index_of n) true
note_message f (Configure p) = f
note_message f Cancel = f
note_message f (Place at) = f
note_message f (ChannelAnswer n v) = f
note_message f (SetupIndication i a d) = f
note_message f (SetupConfirm i g) = f
note_message f Proceed = f
note_message f Alert = f
note_message f (Complete g) = f
note_message f (ReleaseIndication c) = f
note_message f ReleaseConfirm = f
note_message f (TxIndication x) = f
note_message f (ModifyIndication d s) = f

unfoldable pub note_messages : List Bool → List Message → List Bool
note_messages f [] = f
note_messages f (m ∷ ms) = note_messages (note_message f m) ms

-- expiry
unfoldable pub note_expiry : List Bool → Event → List Bool
note_expiry f (SetupRequest a d q s) = f
note_expiry f SetupResponse = f
note_expiry f ReleaseRequest = f
note_expiry f (TxRequest k) = f
note_expiry f (DCallProceeding i) = f
note_expiry f (DAlert i) = f
note_expiry f (DConnect i g d o s) = f
note_expiry f (DConnectAcknowledge i g o) = f
note_expiry f (DSetup i a d) = f
note_expiry f (DInfo i r o d s) = f
note_expiry f (DTxGranted i g) = f
note_expiry f (DTxCeased i) = f
note_expiry f (DTxInterrupt i g) = f
note_expiry f (DTxWait i) = f
note_expiry f (DTxContinue i k) = f
note_expiry f (DCallRestore i g r o) = f
note_expiry f (DDisconnect i) = f
note_expiry f (DRelease i) = f
note_expiry f ReportSent = f
note_expiry f ReportFailed = f
note_expiry f Break = f
note_expiry f Resume = f
note_expiry f (Expiry n) = set f (index_of n) false

abbrev pub note_taken : List Bool → Option Event → List Bool
note_taken f none = f
note_taken f (some e) = note_expiry f e

-- a turn's expiry comes before what it writes
unfoldable pub note_log : List Bool → List Entry → List Bool
note_log f [] = f
note_log f (x ∷ xs) = note_log (note_messages (note_taken f x.taken) x.written) xs

-- the seven timers after a log that begins with none running: 301 302 303 306 308 310 311
unfoldable pub running_by : List Entry → List Bool
running_by xs = note_log (false ∷ false ∷ false ∷ false ∷ false ∷ false ∷ false ∷ []) xs

-- whether one of them runs, by its number
abbrev pub runs_by : List Entry → ℕ → Bool
runs_by xs n = get_or (running_by xs) (index_of n) false
