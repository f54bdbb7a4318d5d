-- Any run of events: what is taken, written and told along the way. Each turn has the record that the last gave back.
use Rattle.std.specs.Prelude.{ℕ, Bool, true, false, cond, ◌&&◌, ◌||◌, List, [], ◌∷◌, ◌++◌, eqb}
use Rattle.std.proofs.Math.Option.{Option, none, some}
use Rattle.records.specs.declared.events.Event.{Event}
use Rattle.records.specs.declared.messages.Message.{Message}
use Rattle.records.specs.declared.messages.Message.TheVariants.{USetup, UConnect, UDisconnect, URelease, UInfo, UTxDemand, UTxCeased, UCallRestore, Stop, Start, Configure, Cancel, Place, ChannelAnswer, SetupIndication, SetupConfirm, Proceed, Alert, Complete, ReleaseIndication, ReleaseConfirm, TxIndication, ModifyIndication}
use Rattle.records.specs.Tables.{Read, taken, refused, read, flat}
use Rattle.records.specs.Events.{events}
use Rattle.records.specs.Messages.{messages}
use Rattle.callcontrol.specs.declared.call.Call.{Call}
use Rattle.callcontrol.specs.Call.{fresh_call}
use Rattle.callcontrol.specs.Rows.{row_for}
use Rattle.callcontrol.specs.Writing.{messages_in}
use Rattle.callcontrol.specs.Step.{Outcome, step_of}

-- any bytes handed in, any buffer lent
pub record Turn : Type 0 where
  pub event : List ℕ
  pub buffer : List ℕ

unfoldable pub outcome : Call → Turn → Outcome
outcome c t = step_of c t.event t.buffer

-- the record that a turn gives back
unfoldable pub next : Call → Turn → Call
next c t = (outcome c t).call

-- the record after some turns
unfoldable pub run : Call → List Turn → Call
run c [] = c
run c (t ∷ ts) = run (next c t) ts

abbrev pub event_in : Read Event → Option Event
event_in (taken e) = some e
event_in (refused n place) = none

-- the event that a turn takes, if its answer is 0
unfoldable pub taken_by : Call → Turn → Option Event
taken_by c t = cond (eqb (outcome c t).answer 0) (event_in (read events t.event)) none

-- the messages that a turn writes: those whose bytes the step's promise stores
abbrev pub messages_of : Call → Option Event → List Message
messages_of c none = []
messages_of c (some e) = messages_in (row_for c e)

unfoldable pub written_by : Call → Turn → List Message
written_by c t = messages_of c (taken_by c t)

-- the events taken in some turns
abbrev pub listed : Option Event → List Event
listed none = []
listed (some e) = e ∷ []

unfoldable pub taken_in : Call → List Turn → List Event
taken_in c [] = []
taken_in c (t ∷ ts) = listed (taken_by c t) ++ taken_in (next c t) ts

-- the messages written in some turns
unfoldable pub written_in : Call → List Turn → List Message
written_in c [] = []
written_in c (t ∷ ts) = written_by c t ++ written_in (next c t) ts

-- the last CONFIGURE among some messages, or what held before
unfoldable pub told_after : ℕ → Message → ℕ
told_after p (USetup a d q s) = p
told_after p (UConnect i) = p
told_after p (UDisconnect i c) = p
told_after p (URelease i) = p
told_after p (UInfo i d) = p
told_after p (UTxDemand i) = p
told_after p (UTxCeased i) = p
told_after p (UCallRestore i a q) = p
told_after p (Stop n) = p
told_after p (Start n o) = p
told_after p (Configure plane) = plane
told_after p Cancel = p
told_after p (Place at) = p
told_after p (ChannelAnswer n v) = p
told_after p (SetupIndication i a d) = p
told_after p (SetupConfirm i g) = p
told_after p Proceed = p
told_after p Alert = p
told_after p (Complete g) = p
told_after p (ReleaseIndication c) = p
told_after p ReleaseConfirm = p
told_after p (TxIndication x) = p
told_after p (ModifyIndication d s) = p

unfoldable pub last_told : ℕ → List Message → ℕ
last_told p [] = p
last_told p (m ∷ ms) = last_told (told_after p m) ms

-- what the lower layers were last told in a run from the fresh call, 4 if nothing
unfoldable pub told : List Turn → ℕ
told ts = last_told 4 (written_in fresh_call ts)

-- a call has ended when RELEASE confirm, or RELEASE indication 3 or 4, is written
unfoldable pub ends_call : Message → Bool
ends_call (USetup a d q s) = false
ends_call (UConnect i) = false
ends_call (UDisconnect i c) = false
ends_call (URelease i) = false
ends_call (UInfo i d) = false
ends_call (UTxDemand i) = false
ends_call (UTxCeased i) = false
ends_call (UCallRestore i a q) = false
ends_call (Stop n) = false
ends_call (Start n o) = false
ends_call (Configure plane) = false
ends_call Cancel = false
ends_call (Place at) = false
ends_call (ChannelAnswer n v) = false
ends_call (SetupIndication i a d) = false
ends_call (SetupConfirm i g) = false
ends_call Proceed = false
ends_call Alert = false
ends_call (Complete g) = false
ends_call (ReleaseIndication c) = eqb c 3 || eqb c 4
ends_call ReleaseConfirm = true
ends_call (TxIndication x) = false
ends_call (ModifyIndication d s) = false

abbrev pub some? : (Message → Bool) → List Message → Bool
some? p [] = false
some? p (m ∷ ms) = p m || some? p ms

abbrev pub every? : (Message → Bool) → List Message → Bool
every? p [] = true
every? p (m ∷ ms) = p m && every? p ms

-- a turn in which the call ends
unfoldable pub ends : Call → Turn → Bool
ends c t = some? ends_call (written_by c t)

-- a message of a kind, by the kind's number
unfoldable pub of_kind : ℕ → Message → Bool
of_kind n m = eqb (flat messages m).kind n

-- the two PDUs that end a call
abbrev pub is_u_disconnect : Message → Bool
is_u_disconnect = of_kind 0x0503

abbrev pub is_u_release : Message → Bool
is_u_release = of_kind 0x0504

-- the PDU that no step writes any more
abbrev pub is_u_info : Message → Bool
is_u_info = of_kind 0x0505
