-- The paper's table of messages, and what its lines stand for. U-SETUP may carry the slots at its end (document 02): each of its two bodies is a
-- line; they are one value, whose slots are 0 where the body carries none.
use Rattle.std.specs.Prelude.{ℕ, zero, suc, ◌+◌, Bool, true, ◌||◌, List, [], ◌∷◌, ◌++◌, eqb}
use Rattle.records.specs.Letters.{width, a₁, d, q, i, i₀, c, a, n, o, p, g, x, s, y, u, v}
use Rattle.records.specs.declared.messages.Message.{Message}
use Rattle.records.specs.Bodies.{Values, flat_bytes, flat_size, laid, laid_next}
use Rattle.records.specs.Tables.{Row, row, Table, flat}

pub data MessageKind : Type 0 where
  u_setup u_setup_slots u_connect u_disconnect u_release u_info u_tx_demand u_tx_ceased u_call_restore stop start configure cancel setup_indication setup_confirm proceed alert complete release_indication release_confirm tx_indication modify_indication named_place channel_answer : MessageKind

abbrev pub message_row : MessageKind → Row
message_row u_setup = row 0x0501 (a₁ ∷ d ∷ q ∷ [])
message_row u_setup_slots = row 0x0501 (a₁ ∷ d ∷ q ∷ s ∷ [])
message_row u_connect = row 0x0502 (i ∷ [])
message_row u_disconnect = row 0x0503 (i₀ ∷ c ∷ [])
message_row u_release = row 0x0504 (i₀ ∷ [])
message_row u_info = row 0x0505 (i ∷ d ∷ [])
message_row u_tx_demand = row 0x0506 (i ∷ [])
message_row u_tx_ceased = row 0x0507 (i ∷ [])
message_row u_call_restore = row 0x0508 (i ∷ a ∷ q ∷ [])
message_row stop = row 0x0601 (n ∷ [])
message_row start = row 0x0602 (n ∷ o ∷ [])
message_row configure = row 0x0603 (p ∷ [])
message_row cancel = row 0x0604 ([])
message_row setup_indication = row 0x0701 (i ∷ a ∷ d ∷ [])
message_row setup_confirm = row 0x0702 (i ∷ g ∷ [])
message_row proceed = row 0x0703 ([])
message_row alert = row 0x0704 ([])
message_row complete = row 0x0705 (g ∷ [])
message_row release_indication = row 0x0706 (c ∷ [])
message_row release_confirm = row 0x0707 ([])
message_row tx_indication = row 0x0708 (x ∷ [])
message_row modify_indication = row 0x0709 (d ∷ s ∷ [])
-- of document 02
message_row named_place = row 0x0605 (y ∷ [])
message_row channel_answer = row 0x0606 (u ∷ v ∷ [])

-- the kinds under the paper's headings: to the network; to the timers, the lower layers and the host; to the user
abbrev pub network_kinds : List MessageKind
network_kinds =
    u_setup ∷
    u_setup_slots ∷
    u_connect ∷
    u_disconnect ∷
    u_release ∷
    u_info ∷
    u_tx_demand ∷
    u_tx_ceased ∷
    u_call_restore ∷
    []

abbrev pub host_kinds : List MessageKind
host_kinds =
    stop ∷
    start ∷
    configure ∷
    cancel ∷
    named_place ∷
    channel_answer ∷
    []

abbrev pub to_user_kinds : List MessageKind
to_user_kinds =
    setup_indication ∷
    setup_confirm ∷
    proceed ∷
    alert ∷
    complete ∷
    release_indication ∷
    release_confirm ∷
    tx_indication ∷
    modify_indication ∷
    []

abbrev pub message_kinds : List MessageKind
message_kinds = network_kinds ++ host_kinds ++ to_user_kinds

-- the value that a kind's letters stand for
abbrev pub message_of : (kind : MessageKind) → Values (message_row kind).letters → Message
message_of u_setup v = Message.USetup v.0 v.1.0 v.1.1.0 0
message_of u_setup_slots v = Message.USetup v.0 v.1.0 v.1.1.0 v.1.1.1.0
message_of u_connect v = Message.UConnect v.0
message_of u_disconnect v = Message.UDisconnect v.0 v.1.0
message_of u_release v = Message.URelease v.0
message_of u_info v = Message.UInfo v.0 v.1.0
message_of u_tx_demand v = Message.UTxDemand v.0
message_of u_tx_ceased v = Message.UTxCeased v.0
message_of u_call_restore v = Message.UCallRestore v.0 v.1.0 v.1.1.0
message_of stop v = Message.Stop v.0
message_of start v = Message.Start v.0 v.1.0
message_of configure v = Message.Configure v.0
message_of cancel v = Message.Cancel
message_of setup_indication v = Message.SetupIndication v.0 v.1.0 v.1.1.0
message_of setup_confirm v = Message.SetupConfirm v.0 v.1.0
message_of proceed v = Message.Proceed
message_of alert v = Message.Alert
message_of complete v = Message.Complete v.0
message_of release_indication v = Message.ReleaseIndication v.0
message_of release_confirm v = Message.ReleaseConfirm
message_of tx_indication v = Message.TxIndication v.0
message_of modify_indication v = Message.ModifyIndication v.0 v.1.0
message_of named_place v = Message.Place v.0
message_of channel_answer v = Message.ChannelAnswer v.0 v.1.0

-- a value's kind, and its fields in the letters' order
abbrev pub message_apart : Message → (kind : MessageKind) × Values (message_row kind).letters
message_apart (Message.USetup address mode ask zero) = (u_setup, (address, (mode, (ask, tt))))
message_apart (Message.USetup address mode ask (suc n)) = (u_setup_slots, (address, (mode, (ask, (suc n, tt)))))
message_apart (Message.UConnect id) = (u_connect, (id, tt))
message_apart (Message.UDisconnect id cause) = (u_disconnect, (id, (cause, tt)))
message_apart (Message.URelease id) = (u_release, (id, tt))
message_apart (Message.UInfo id mode) = (u_info, (id, (mode, tt)))
message_apart (Message.UTxDemand id) = (u_tx_demand, (id, tt))
message_apart (Message.UTxCeased id) = (u_tx_ceased, (id, tt))
message_apart (Message.UCallRestore id address ask) = (u_call_restore, (id, (address, (ask, tt))))
message_apart (Message.Stop timer) = (stop, (timer, tt))
message_apart (Message.Start timer code) = (start, (timer, (code, tt)))
message_apart (Message.Configure plane) = (configure, (plane, tt))
message_apart Message.Cancel = (cancel, tt)
message_apart (Message.SetupIndication id address mode) = (setup_indication, (id, (address, (mode, tt))))
message_apart (Message.SetupConfirm id grant) = (setup_confirm, (id, (grant, tt)))
message_apart Message.Proceed = (proceed, tt)
message_apart Message.Alert = (alert, tt)
message_apart (Message.Complete grant) = (complete, (grant, tt))
message_apart (Message.ReleaseIndication cause) = (release_indication, (cause, tt))
message_apart Message.ReleaseConfirm = (release_confirm, tt)
message_apart (Message.TxIndication told) = (tx_indication, (told, tt))
message_apart (Message.ModifyIndication mode slots) = (modify_indication, (mode, (slots, tt)))
message_apart (Message.Place at) = (named_place, (at, tt))
message_apart (Message.ChannelAnswer number verdict) = (channel_answer, (number, (verdict, tt)))

-- START's code is T310's; every other timer has 0
unfoldable pub start_agrees : ℕ → ℕ → Bool
start_agrees timer code = eqb timer 310 || eqb code 0

abbrev pub message_agrees : Message → Bool
message_agrees (Message.USetup address mode ask slots) = true
message_agrees (Message.UConnect id) = true
message_agrees (Message.UDisconnect id cause) = true
message_agrees (Message.URelease id) = true
message_agrees (Message.UInfo id mode) = true
message_agrees (Message.UTxDemand id) = true
message_agrees (Message.UTxCeased id) = true
message_agrees (Message.UCallRestore id address ask) = true
message_agrees (Message.Stop timer) = true
message_agrees (Message.Start timer code) = start_agrees timer code
message_agrees (Message.Configure plane) = true
message_agrees Message.Cancel = true
message_agrees (Message.SetupIndication id address mode) = true
message_agrees (Message.SetupConfirm id grant) = true
message_agrees Message.Proceed = true
message_agrees Message.Alert = true
message_agrees (Message.Complete grant) = true
message_agrees (Message.ReleaseIndication cause) = true
message_agrees Message.ReleaseConfirm = true
message_agrees (Message.TxIndication told) = true
message_agrees (Message.ModifyIndication mode slots) = true
message_agrees (Message.Place at) = true
message_agrees (Message.ChannelAnswer number verdict) = true

abbrev pub messages : Table
messages =
    record {
      Kind = MessageKind;
      Value = Message;
      kinds = message_kinds;
      retired = [];
      row_of = message_row;
      value_of = message_of;
      apart = message_apart;
      agrees = message_agrees;
      clash = 4 + width n;  -- START's o, behind its n
    }

-- a message as bytes, and how many they are
unfoldable pub message_bytes : Message → List ℕ
message_bytes m = flat_bytes (flat messages m)

unfoldable pub message_size : Message → ℕ
message_size m = flat_size (flat messages m)

-- a message stored from a position on where it fits: the position after it, and the buffer then
abbrev pub message_laid : Message → List ℕ → ℕ → ℕ × List ℕ
message_laid m w at = (laid_next (message_bytes m) w at, laid (message_bytes m) w at)
