-- The table of direct mode's messages, and what its lines stand for.
use Rattle.std.specs.Prelude.{ℕ, ◌+◌, true, List, [], ◌∷◌, ◌++◌}
use Rattle.records.specs.Bodies.{Values, flat_bytes, flat_size}
use Rattle.records.specs.Tables.{Row, row, Table, flat}
use Rattle.direct.specs.declared.messages.Message.{Message}
use Rattle.direct.specs.Events.{t, l, n}

pub data MessageKind : Type 0 where
  dm_setup_pres dm_connect_ack dm_release stop start configure setup_confirm release_indication : MessageKind

abbrev pub message_row : MessageKind → Row
message_row dm_setup_pres = row 0x0901 (t ∷ l ∷ [])
message_row dm_connect_ack = row 0x0902 (t ∷ [])
message_row dm_release = row 0x0903 ([])
message_row stop = row 0x0911 (n ∷ [])
message_row start = row 0x0912 (n ∷ [])
message_row configure = row 0x0913 (t ∷ [])
message_row setup_confirm = row 0x0921 (t ∷ [])
message_row release_indication = row 0x0922 ([])

abbrev pub message_kinds : List MessageKind
message_kinds =
    dm_setup_pres ∷ dm_connect_ack ∷ dm_release ∷ stop ∷ start ∷ configure ∷ setup_confirm ∷ release_indication ∷ []

-- the value that a kind's letters stand for
abbrev pub message_of : (kind : MessageKind) → Values (message_row kind).letters → Message
message_of dm_setup_pres vs = Message.DmSetupPres vs.0 vs.1.0
message_of dm_connect_ack vs = Message.DmConnectAck vs.0
message_of dm_release vs = Message.DmRelease
message_of stop vs = Message.Stop vs.0
message_of start vs = Message.Start vs.0
message_of configure vs = Message.Configure vs.0
message_of setup_confirm vs = Message.SetupConfirm vs.0
message_of release_indication vs = Message.ReleaseIndication

-- a value's kind, and its fields in the letters' order
abbrev pub message_apart : Message → (kind : MessageKind) × Values (message_row kind).letters
message_apart (Message.DmSetupPres target lowest) = (dm_setup_pres, (target, (lowest, tt)))
message_apart (Message.DmConnectAck grade) = (dm_connect_ack, (grade, tt))
message_apart Message.DmRelease = (dm_release, tt)
message_apart (Message.Stop timer) = (stop, (timer, tt))
message_apart (Message.Start timer) = (start, (timer, tt))
message_apart (Message.Configure grade) = (configure, (grade, tt))
message_apart (Message.SetupConfirm grade) = (setup_confirm, (grade, tt))
message_apart Message.ReleaseIndication = (release_indication, tt)

abbrev pub messages : Table
messages =
    record {
      Kind = MessageKind;
      Value = Message;
      kinds = message_kinds;
      retired = [];
      row_of = message_row;
      value_of = message_of;
      apart = message_apart;
      agrees = λ m. true;
      clash = 0;
    }

-- a message as bytes, and how many they are
unfoldable pub message_bytes : Message → List ℕ
message_bytes m = flat_bytes (flat messages m)

unfoldable pub message_size : Message → ℕ
message_size m = flat_size (flat messages m)

-- messages one after the other as bytes, and how many they are
unfoldable pub bytes_of : List Message → List ℕ
bytes_of [] = []
bytes_of (m ∷ ms) = message_bytes m ++ bytes_of ms

unfoldable pub sizes_of : List Message → ℕ
sizes_of [] = 0
sizes_of (m ∷ ms) = message_size m + sizes_of ms
