-- What direct mode's events and messages meet as a `Record` of their tables: each is written where it is fine, and is neither empty nor long.
use Rattle.std.specs.Prelude.{ℕ, ◌≡◌, true, List}
use Rattle.std.proofs.Common.{refl}
use Rattle.records.specs.Bytes.{bytes}
use Rattle.records.specs.Bodies.{body_bytes, flat_size, flat_bytes, written}
use Rattle.records.specs.Tables.{fine, write}
use Rattle.records.specs.Records.{short}
use Rattle.direct.specs.declared.events.Event.{Event}
use Rattle.direct.specs.declared.messages.Message.{Message}
use Rattle.direct.specs.Events.{events, event_bytes}
use Rattle.direct.specs.Messages.{messages, message_bytes}

pub event_writes : (e : Event) (buffer : List ℕ) → write events e buffer ≡ written (fine events e) (event_bytes e) buffer
unfolding write event_bytes
event_writes e buffer = refl

pub message_writes : (m : Message) (buffer : List ℕ) → write messages m buffer ≡ written (fine messages m) (message_bytes m) buffer
unfolding write message_bytes
message_writes m buffer = refl

pub event_short : (r : Event) → short (event_bytes r) ≡ true
unfolding bytes body_bytes flat_size flat_bytes event_bytes
event_short (Event.SetupRequest target lowest attempts) = refl
event_short (Event.DmaReport fared) = refl
event_short (Event.DmConnect grade) = refl
event_short Event.DmDisconnect = refl
event_short (Event.Expiry timer) = refl

pub message_short : (r : Message) → short (message_bytes r) ≡ true
unfolding bytes body_bytes flat_size flat_bytes message_bytes
message_short (Message.DmSetupPres target lowest) = refl
message_short (Message.DmConnectAck grade) = refl
message_short Message.DmRelease = refl
message_short (Message.Stop timer) = refl
message_short (Message.Start timer) = refl
message_short (Message.Configure grade) = refl
message_short (Message.SetupConfirm grade) = refl
message_short Message.ReleaseIndication = refl
