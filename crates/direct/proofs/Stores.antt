-- Each event and each message as the record that its kind and its body make.
use Rattle.std.proofs.Common.{ℕ, ◌<◌, ◌≡◌, refl, sym, List, [], ◌∷◌}
use Rattle.std.specs.Int.{w16, to_le_bytes}
use Rattle.records.specs.Bytes.{bytes}
use Rattle.records.specs.Letters.{n₂}
use Rattle.records.specs.Bodies.{body_bytes, line_bytes}
use Rattle.records.specs.Tables.{flat}
use Rattle.records.proofs.Writing.{Body, end, byte_then, row_bytes}
use Rattle.direct.specs.declared.events.Event.{Event}
use Rattle.direct.specs.declared.messages.Message.{Message}
use Rattle.direct.specs.Events.{events, event_bytes}
use Rattle.direct.specs.Messages.{messages, message_bytes}

event_line : (e : Event) {body : List ℕ} → Body (flat events e).letters (flat events e).values body → event_bytes e ≡ line_bytes (flat events e).kind body
unfolding event_bytes
event_line e body = sym (row_bytes (flat events e) body)

message_line : (m : Message) {body : List ℕ} → Body (flat messages m).letters (flat messages m).values body → message_bytes m ≡ line_bytes (flat messages m).kind body
unfolding message_bytes
message_line m body = sym (row_bytes (flat messages m) body)

-- a timer's two bytes
word : (timer : ℕ) → Body (n₂ ∷ []) (timer, tt) (to_le_bytes w16 timer)
unfolding body_bytes bytes
word timer = record { are = refl }

pub setup_request : (target lowest attempts : ℕ) → target < 256 → lowest < 256 → attempts < 256 → event_bytes (Event.SetupRequest target lowest attempts) ≡ line_bytes 0x0801 (target ∷ lowest ∷ attempts ∷ [])
setup_request target lowest attempts h k j = event_line (Event.SetupRequest target lowest attempts) (byte_then h (byte_then k (byte_then j end)))

pub dma_report : (fared : ℕ) → fared < 256 → event_bytes (Event.DmaReport fared) ≡ line_bytes 0x0802 (fared ∷ [])
dma_report fared h = event_line (Event.DmaReport fared) (byte_then h end)

pub dm_connect : (grade : ℕ) → grade < 256 → event_bytes (Event.DmConnect grade) ≡ line_bytes 0x0803 (grade ∷ [])
dm_connect grade h = event_line (Event.DmConnect grade) (byte_then h end)

pub dm_disconnect : event_bytes Event.DmDisconnect ≡ line_bytes 0x0804 []
dm_disconnect = event_line Event.DmDisconnect end

pub expiry : (timer : ℕ) → event_bytes (Event.Expiry timer) ≡ line_bytes 0x0805 (to_le_bytes w16 timer)
expiry timer = event_line (Event.Expiry timer) (word timer)

pub dm_setup_pres : (target lowest : ℕ) → target < 256 → lowest < 256 → message_bytes (Message.DmSetupPres target lowest) ≡ line_bytes 0x0901 (target ∷ lowest ∷ [])
dm_setup_pres target lowest h k = message_line (Message.DmSetupPres target lowest) (byte_then h (byte_then k end))

pub dm_connect_ack : (grade : ℕ) → grade < 256 → message_bytes (Message.DmConnectAck grade) ≡ line_bytes 0x0902 (grade ∷ [])
dm_connect_ack grade h = message_line (Message.DmConnectAck grade) (byte_then h end)

pub dm_release : message_bytes Message.DmRelease ≡ line_bytes 0x0903 []
dm_release = message_line Message.DmRelease end

pub stop : (timer : ℕ) → message_bytes (Message.Stop timer) ≡ line_bytes 0x0911 (to_le_bytes w16 timer)
stop timer = message_line (Message.Stop timer) (word timer)

pub start : (timer : ℕ) → message_bytes (Message.Start timer) ≡ line_bytes 0x0912 (to_le_bytes w16 timer)
start timer = message_line (Message.Start timer) (word timer)

pub configure : (grade : ℕ) → grade < 256 → message_bytes (Message.Configure grade) ≡ line_bytes 0x0913 (grade ∷ [])
configure grade h = message_line (Message.Configure grade) (byte_then h end)

pub setup_confirm : (grade : ℕ) → grade < 256 → message_bytes (Message.SetupConfirm grade) ≡ line_bytes 0x0921 (grade ∷ [])
setup_confirm grade h = message_line (Message.SetupConfirm grade) (byte_then h end)

pub release_indication : message_bytes Message.ReleaseIndication ≡ line_bytes 0x0922 []
release_indication = message_line Message.ReleaseIndication end

pub ruleset event_lines = (setup_request, dma_report, dm_connect, dm_disconnect, expiry)

pub ruleset message_lines = (dm_setup_pres, dm_connect_ack, dm_release, stop, start, configure, setup_confirm, release_indication)
