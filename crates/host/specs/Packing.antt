-- A call record as a host's 22 bytes: state, identifier u16, address u32, mode, asked, sent, path, plane, kept plane, T310 code, the
-- timers 301 302 303 306 308 310 311, and the slots; little-endian.
use Rattle.std.specs.Prelude.{ℕ, zero, suc, Bool, cond, ◌&&◌, List, [], ◌∷◌, ◌++◌, leb, eqb, length, get_or}
use Rattle.std.proofs.Math.Option.{Option, none, some}
use Rattle.records.specs.Bytes.{number, bytes}
use Rattle.callcontrol.specs.declared.call.State.{State}
use Rattle.callcontrol.specs.declared.call.Path.{Path}
use Rattle.callcontrol.specs.declared.call.Call.{Call}
use Rattle.callcontrol.specs.Call.{state_number, path_number, runs, T301, T302, T303, T306, T308, T310, T311}

abbrev pub flag : Bool → ℕ
flag b = cond b 1 0

-- seven bytes each: which call it is, and how it stands; then the timers, and behind them the slots
unfoldable pub names : Call → List ℕ
names c = state_number c.state ∷ (bytes 2 c.id ++ bytes 4 c.address)

unfoldable pub settings : Call → List ℕ
settings c = c.mode ∷ c.asked ∷ c.sent ∷ path_number c.path ∷ c.plane ∷ c.kept ∷ c.code ∷ []

unfoldable pub running : Call → List ℕ
running c =
    flag (runs c T301) ∷ flag (runs c T302) ∷ flag (runs c T303) ∷ flag (runs c T306) ∷ flag (runs c T308) ∷ flag (runs c T310)
    ∷ flag (runs c T311) ∷ c.slots ∷ []

unfoldable pub packed : Call → List ℕ
packed c = names c ++ (settings c ++ running c)

abbrev pub state_is : ℕ → State
state_is zero = State.Idle
state_is (suc zero) = State.MoCallSetup
state_is (suc (suc zero)) = State.MtCallSetup
state_is (suc (suc (suc zero))) = State.CallActive
state_is (suc (suc (suc (suc zero)))) = State.Wait
state_is (suc (suc (suc (suc (suc n))))) = State.CallDisconnect

-- only 2 is Restoring; above it, which no record has since is_record refuses it, is Up
abbrev pub path_is : ℕ → Path
path_is zero = Path.Up
path_is (suc zero) = Path.Broken
path_is (suc (suc zero)) = Path.Restoring
path_is (suc (suc (suc n))) = Path.Up

-- the bytes are a record: 22 of them, a state up to 5, a path up to 2, flags up to 1
unfoldable pub is_record : List ℕ → Bool
is_record s =
    eqb (length s) 22 && leb (get_or s 0 0) 5 && leb (get_or s 10 0) 2 && leb (get_or s 14 0) 1 && leb (get_or s 15 0) 1 && leb (get_or s 16 0) 1
    && leb (get_or s 17 0) 1 && leb (get_or s 18 0) 1 && leb (get_or s 19 0) 1 && leb (get_or s 20 0) 1

-- the record that some bytes hold
unfoldable pub held : List ℕ → Call
held s =
    record {
      state = state_is (get_or s 0 0);
      id = number 2 s 1;
      address = number 4 s 3;
      mode = get_or s 7 0;
      asked = get_or s 8 0;
      sent = get_or s 9 0;
      path = path_is (get_or s 10 0);
      plane = get_or s 11 0;
      kept = get_or s 12 0;
      code = get_or s 13 0;
      slots = get_or s 21 0;
      timers =
          eqb (get_or s 14 0) 1 ∷ eqb (get_or s 15 0) 1 ∷ eqb (get_or s 16 0) 1 ∷ eqb (get_or s 17 0) 1 ∷ eqb (get_or s 18 0) 1 ∷ eqb (get_or s 19 0) 1
          ∷ eqb (get_or s 20 0) 1 ∷ [];
    }

unfoldable pub unpacked : List ℕ → Option Call
unpacked s = cond (is_record s) (some (held s)) none
