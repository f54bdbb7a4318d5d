-- The lines of direct mode's tables, each by itself: the kinds are told apart, and a kind with its values is a value of the table, both ways.
use mathlib.Core.Path.{◌≡◌, refl}
use mathlib.Core.Bool.{true}
use mathlib.Core.Option.{some}
use Rattle.records.specs.Bodies.{Values, all_fit}
use Rattle.records.specs.Tables.{find, size_of}
use Rattle.records.specs.Laws.{Lawful}
use Rattle.direct.specs.declared.events.Event.{Event}
use Rattle.direct.specs.declared.messages.Message.{Message}
use Rattle.direct.specs.Events.{events, EventKind, event_row, event_kinds, event_of, event_apart, setup_request, dma_report, dm_connect, dm_disconnect, expiry}
use Rattle.direct.specs.Messages.{messages, MessageKind, message_row, message_kinds, message_of, message_apart, dm_setup_pres, dm_connect_ack, dm_release, stop, start, configure, setup_confirm, release_indication}

event_together : (k : EventKind) (vs : Values (event_row k).letters) → all_fit (event_row k).letters vs ≡ true → ◌≡◌ {A = (k : EventKind) × Values (event_row k).letters} (event_apart (event_of k vs)) (k, vs)
event_together setup_request vs fit = refl
event_together dma_report vs fit = refl
event_together dm_connect vs fit = refl
event_together dm_disconnect vs fit = refl
event_together expiry vs fit = refl

event_again : (e : Event) → event_of (event_apart e).0 (event_apart e).1 ≡ e
event_again (Event.SetupRequest target lowest attempts) = refl
event_again (Event.DmaReport fared) = refl
event_again (Event.DmConnect grade) = refl
event_again Event.DmDisconnect = refl
event_again (Event.Expiry timer) = refl

event_found : (k : EventKind) → find events (event_row k).number (size_of events k) event_kinds ≡ some k
event_found setup_request = refl
event_found dma_report = refl
event_found dm_connect = refl
event_found dm_disconnect = refl
event_found expiry = refl

pub event_lawful : Lawful events
event_lawful = record { together = event_together; again = event_again; found = event_found; narrow = refl; current = refl }

message_together : (k : MessageKind) (vs : Values (message_row k).letters) → all_fit (message_row k).letters vs ≡ true → ◌≡◌ {A = (k : MessageKind) × Values (message_row k).letters} (message_apart (message_of k vs)) (k, vs)
message_together dm_setup_pres vs fit = refl
message_together dm_connect_ack vs fit = refl
message_together dm_release vs fit = refl
message_together stop vs fit = refl
message_together start vs fit = refl
message_together configure vs fit = refl
message_together setup_confirm vs fit = refl
message_together release_indication vs fit = refl

message_again : (m : Message) → message_of (message_apart m).0 (message_apart m).1 ≡ m
message_again (Message.DmSetupPres target lowest) = refl
message_again (Message.DmConnectAck grade) = refl
message_again Message.DmRelease = refl
message_again (Message.Stop timer) = refl
message_again (Message.Start timer) = refl
message_again (Message.Configure grade) = refl
message_again (Message.SetupConfirm grade) = refl
message_again Message.ReleaseIndication = refl

message_found : (k : MessageKind) → find messages (message_row k).number (size_of messages k) message_kinds ≡ some k
message_found dm_setup_pres = refl
message_found dm_connect_ack = refl
message_found dm_release = refl
message_found stop = refl
message_found start = refl
message_found configure = refl
message_found setup_confirm = refl
message_found release_indication = refl

pub message_lawful : Lawful messages
message_lawful = record { together = message_together; again = message_again; found = message_found; narrow = refl; current = refl }
