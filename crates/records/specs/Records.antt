-- What a `Record` of a table meets: it is read by its kind, written where it is fine, and neither empty nor long.
use Rattle.std.specs.Prelude.{ℕ, zero, suc, ◌≡◌, Bool, true, ◌&&◌, List, ltb, leb, length}
use Rattle.std.proofs.Common.{refl}
use Rattle.records.specs.declared.events.Event.{Event}
use Rattle.records.specs.declared.messages.Message.{Message}
use Rattle.records.specs.Bytes.{bytes}
use Rattle.records.specs.Bodies.{kind_in, body_bytes, flat_size, flat_bytes, written}
use Rattle.records.specs.Tables.{Table, or_refuse, read_as, read, fine, write}
use Rattle.records.specs.Events.{events, event_bytes}
use Rattle.records.specs.Messages.{messages, message_bytes}

-- some bytes, and at most 64
abbrev pub short : List ℕ → Bool
short out = ltb 0 (length out) && leb (length out) 64

pub read_by_kind : (t : Table) (s : List ℕ) → read t s ≡ or_refuse 2 (kind_in s) (λ n. read_as t n s)
unfolding read
read_by_kind t s = refl

pub event_writes : (e : Event) (buffer : List ℕ) → write events e buffer ≡ written (fine events e) (event_bytes e) buffer
unfolding write event_bytes
event_writes e buffer = refl

pub message_writes : (m : Message) (buffer : List ℕ) → write messages m buffer ≡ written (fine messages m) (message_bytes m) buffer
unfolding write message_bytes
message_writes m buffer = refl

pub event_short : (e : Event) → short (event_bytes e) ≡ true
unfolding bytes body_bytes flat_size flat_bytes event_bytes
event_short (Event.SetupRequest address mode ask zero) = refl
event_short (Event.SetupRequest address mode ask (suc n)) = refl
event_short Event.SetupResponse = refl
event_short Event.ReleaseRequest = refl
event_short (Event.TxRequest go) = refl
event_short (Event.DCallProceeding id) = refl
event_short (Event.DAlert id) = refl
event_short (Event.DConnect id grant mode code zero) = refl
event_short (Event.DConnect id grant mode code (suc n)) = refl
event_short (Event.DConnectAcknowledge id grant code) = refl
event_short (Event.DSetup id address mode) = refl
event_short (Event.DInfo id reset code mode zero) = refl
event_short (Event.DInfo id reset code mode (suc n)) = refl
event_short (Event.DTxGranted id grant) = refl
event_short (Event.DTxCeased id) = refl
event_short (Event.DTxInterrupt id grant) = refl
event_short (Event.DTxWait id) = refl
event_short (Event.DTxContinue id go) = refl
event_short (Event.DCallRestore id grant reset code) = refl
event_short (Event.DDisconnect id) = refl
event_short (Event.DRelease id) = refl
event_short Event.ReportSent = refl
event_short Event.ReportFailed = refl
event_short Event.Break = refl
event_short Event.Resume = refl
event_short (Event.Expiry timer) = refl

pub message_short : (m : Message) → short (message_bytes m) ≡ true
unfolding bytes body_bytes flat_size flat_bytes message_bytes
message_short (Message.USetup address mode ask zero) = refl
message_short (Message.USetup address mode ask (suc n)) = refl
message_short (Message.UConnect id) = refl
message_short (Message.UDisconnect id cause) = refl
message_short (Message.URelease id) = refl
message_short (Message.UInfo id mode) = refl
message_short (Message.UTxDemand id) = refl
message_short (Message.UTxCeased id) = refl
message_short (Message.UCallRestore id address ask) = refl
message_short (Message.Stop timer) = refl
message_short (Message.Start timer code) = refl
message_short (Message.Configure plane) = refl
message_short Message.Cancel = refl
message_short (Message.SetupIndication id address mode) = refl
message_short (Message.SetupConfirm id grant) = refl
message_short Message.Proceed = refl
message_short Message.Alert = refl
message_short (Message.Complete grant) = refl
message_short (Message.ReleaseIndication cause) = refl
message_short Message.ReleaseConfirm = refl
message_short (Message.TxIndication told) = refl
message_short (Message.ModifyIndication mode slots) = refl
message_short (Message.Place at) = refl
message_short (Message.ChannelAnswer number verdict) = refl
