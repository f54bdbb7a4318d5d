-- The table of direct mode's events, and what its lines stand for.
use Rattle.std.specs.Prelude.{ℕ, true, List, [], ◌∷◌}
use Rattle.records.specs.Letters.{Letter, any, v, n₂}
use Rattle.records.specs.Bodies.{Values, flat_bytes}
use Rattle.records.specs.Tables.{Row, row, Table, flat}
use Rattle.direct.specs.declared.events.Event.{Event}

-- the letters of direct mode: t a grade of service, l the lowest that is accepted, m attempts, each of them any byte
abbrev pub t : Letter
t = any

abbrev pub l : Letter
l = any

abbrev pub m : Letter
m = any

-- n is a timer, 303 or 311
abbrev pub n : Letter
n = n₂

pub data EventKind : Type 0 where
  setup_request dma_report dm_connect dm_disconnect expiry : EventKind

abbrev pub event_row : EventKind → Row
event_row setup_request = row 0x0801 (t ∷ l ∷ m ∷ [])
event_row dma_report = row 0x0802 (v ∷ [])
event_row dm_connect = row 0x0803 (t ∷ [])
event_row dm_disconnect = row 0x0804 ([])
event_row expiry = row 0x0805 (n ∷ [])

abbrev pub event_kinds : List EventKind
event_kinds = setup_request ∷ dma_report ∷ dm_connect ∷ dm_disconnect ∷ expiry ∷ []

-- the value that a kind's letters stand for
abbrev pub event_of : (kind : EventKind) → Values (event_row kind).letters → Event
event_of setup_request vs = Event.SetupRequest vs.0 vs.1.0 vs.1.1.0
event_of dma_report vs = Event.DmaReport vs.0
event_of dm_connect vs = Event.DmConnect vs.0
event_of dm_disconnect vs = Event.DmDisconnect
event_of expiry vs = Event.Expiry vs.0

-- a value's kind, and its fields in the letters' order
abbrev pub event_apart : Event → (kind : EventKind) × Values (event_row kind).letters
event_apart (Event.SetupRequest target lowest attempts) = (setup_request, (target, (lowest, (attempts, tt))))
event_apart (Event.DmaReport fared) = (dma_report, (fared, tt))
event_apart (Event.DmConnect grade) = (dm_connect, (grade, tt))
event_apart Event.DmDisconnect = (dm_disconnect, tt)
event_apart (Event.Expiry timer) = (expiry, (timer, tt))

abbrev pub events : Table
events =
    record {
      Kind = EventKind;
      Value = Event;
      kinds = event_kinds;
      retired = [];
      row_of = event_row;
      value_of = event_of;
      apart = event_apart;
      agrees = λ e. true;
      clash = 0;
    }

-- an event as bytes
unfoldable pub event_bytes : Event → List ℕ
event_bytes e = flat_bytes (flat events e)
