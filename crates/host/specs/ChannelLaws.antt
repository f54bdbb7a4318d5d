-- What holds of packed rooms, and of a host's run over the 20 bytes: it is the run of the rooms that the bytes hold, so that what
-- is proved over every run (channel's Demands) is said of what a set calls. The proofs are in proofs/ChannelPacking and proofs/ChannelRuns.
use Rattle.std.specs.Prelude.{ℕ, ◌/◌, ◌<◌, ◌≡◌, Bool, true, ◌&&◌, List, [], ◌∷◌, ltb, length, get_or}
use Rattle.std.proofs.Math.Option.{some}
use Rattle.callcontrol.specs.declared.call.Call.{Call}
use Rattle.callcontrol.specs.Step as step
use Rattle.channel.specs.declared.rooms.Room.{Room}
use Rattle.channel.specs.Rooms.{fresh_rooms, every?}
use Rattle.channel.specs.Questions.{pdu_of}
use Rattle.channel.specs.Runs.{Turn, lent_by, outcome, run, AllHanded}
use Rattle.host.specs.Packing.{unpacked}
use Rattle.host.specs.Entries.{ANSWER, host_step}
use Rattle.host.specs.Channel.{packed_rooms, is_rooms, held_rooms, unpacked_rooms, RoomsLeft, rooms_freshened, rooms_left_by, on_rooms}

-- number and call take two bytes each, and there are four rooms
abbrev pub room_small : Room → Bool
room_small r = ltb r.number 65536 && ltb r.call 65536

pub record FittingRooms (rooms : List Room) : Type 0 where
  pub small : every? room_small rooms ≡ true
  pub four : length rooms ≡ 4

-- what is packed is unpacked as the same rooms
abbrev pub PackedRoomsAreUnpacked : Type 0
PackedRoomsAreUnpacked = (rooms : List Room) → FittingRooms rooms → unpacked_rooms (packed_rooms rooms) ≡ some rooms

-- what is unpacked is packed as the same bytes
abbrev pub HeldRoomsArePacked : Type 0
HeldRoomsArePacked = (s : List ℕ) → ((i : ℕ) → get_or s i 0 < 256) → is_rooms s ≡ true → packed_rooms (held_rooms s) ≡ s

-- one call of an entry, by the promise of each
abbrev pub rooms_called : List ℕ → Turn → RoomsLeft
rooms_called s t = on_rooms s (lent_by t) (λ rooms. outcome rooms t)

-- the rooms' bytes after some calls
unfoldable pub rooms_run : List ℕ → List Turn → List ℕ
rooms_run s [] = s
rooms_run s (t ∷ ts) = rooms_run (rooms_called s t).rooms ts

-- from four free rooms on, whatever stood in the 20 bytes
abbrev pub rooms_after : List ℕ → List Turn → List ℕ
rooms_after s ts = rooms_run (rooms_freshened s).rooms ts

-- the bytes are those of the run's rooms
abbrev pub RoomsRunIsPacked : Type 0
RoomsRunIsPacked = (s : List ℕ) (ts : List Turn) → length s ≡ 20 → AllHanded ts → rooms_after s ts ≡ packed_rooms (run fresh_rooms ts)

-- one more call gives the result, the bytes and the buffer of the rooms' own turn
abbrev pub CallIsTheTurn : Type 0
CallIsTheTurn =
    (s : List ℕ) (ts : List Turn) (t : Turn) → length s ≡ 20 → AllHanded ts →
    rooms_called (rooms_after s ts) t ≡ rooms_left_by (packed_rooms (run fresh_rooms ts)) (outcome (run fresh_rooms ts) t)

-- what `callcontrol_step` returned for a PDU says whether the step took it: callcontrol_channel_pdu asks as the step's own answer does, and so accepts
-- exactly where the step took the PDU (channel's Individual)
abbrev pub ByTheResult : Type 0
ByTheResult =
    (rooms : List Room) (n c : ℕ) (b s pdu out : List ℕ) (call : Call) → unpacked s ≡ some call →
    pdu_of rooms n c ((host_step s pdu out).result / ANSWER) b ≡ pdu_of rooms n c (step.step_of call pdu out).answer b
