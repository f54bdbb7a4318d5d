-- The call record: fresh, its limits, and what makes it sound.
use Rattle.std.specs.Prelude.{ℕ, Bool, true, false, not, ◌&&◌, ◌||◌, List, [], ◌∷◌, leb, eqb, get_or}
use Rattle.std.specs.Bool.{beq}
use Rattle.callcontrol.specs.declared.call.State.{State}
use Rattle.callcontrol.specs.declared.call.Path.{Path}
use Rattle.callcontrol.specs.declared.call.Call.{Call}

-- the index of each timer in the record's array
abbrev pub T301 : ℕ
T301 = 0

abbrev pub T302 : ℕ
T302 = 1

abbrev pub T303 : ℕ
T303 = 2

abbrev pub T306 : ℕ
T306 = 3

abbrev pub T308 : ℕ
T308 = 4

abbrev pub T310 : ℕ
T310 = 5

abbrev pub T311 : ℕ
T311 = 6

-- none of the seven runs
abbrev pub none : List Bool
none = false ∷ false ∷ false ∷ false ∷ false ∷ false ∷ false ∷ []

-- whether a timer runs
abbrev pub runs : Call → ℕ → Bool
runs call k = get_or call.timers k false

abbrev pub fresh_call : Call
fresh_call =
    record {
      state = State.Idle;
      id = 0;
      address = 0;
      mode = 0;
      asked = 0;
      sent = 0;
      path = Path.Up;
      plane = 4;
      kept = 4;
      code = 0;
      slots = 1;
      timers = none;
    }

-- the states and paths as numbers, those of a host's record
abbrev pub state_number : State → ℕ
state_number State.Idle = 0
state_number State.MoCallSetup = 1
state_number State.MtCallSetup = 2
state_number State.CallActive = 3
state_number State.Wait = 4
state_number State.CallDisconnect = 5

abbrev pub path_number : Path → ℕ
path_number Path.Up = 0
path_number Path.Broken = 1
path_number Path.Restoring = 2

abbrev pub is_idle : Call → Bool
is_idle call = eqb (state_number call.state) (state_number State.Idle)

abbrev pub is_active : Call → Bool
is_active call = eqb (state_number call.state) (state_number State.CallActive)

abbrev pub is_wait : Call → Bool
is_wait call = eqb (state_number call.state) (state_number State.Wait)

abbrev pub is_up : Call → Bool
is_up call = eqb (path_number call.path) (path_number Path.Up)

abbrev pub is_restoring : Call → Bool
is_restoring call = eqb (path_number call.path) (path_number Path.Restoring)

-- the planes in which a set transmits
abbrev pub transmits : ℕ → Bool
transmits plane = eqb plane 1 || eqb plane 3

-- a premise and what must then hold
abbrev pub ◌⇒◌ : Bool → Bool → Bool
a ⇒ b = not a || b

infixr 25 ◌⇒◌
-- none of the seven runs
unfoldable pub all_stopped : Call → Bool
all_stopped call =
    not (runs call T301) && not (runs call T302) && not (runs call T303) && not (runs call T306) && not (runs call T308)
    && not (runs call T310) && not (runs call T311)

-- the numbers in range
unfoldable pub in_range : Call → Bool
in_range call =
    leb call.id 16383 && leb call.address 16777215 && leb call.mode 1 && leb call.asked 1 && leb call.sent 1
    && leb 1 call.plane && leb call.plane 4 && leb 1 call.kept && leb call.kept 4 && leb call.code 15
    && leb 1 call.slots && leb call.slots 4

-- all but the state as in the fresh record
unfoldable pub as_fresh : Call → Bool
as_fresh call =
    eqb call.id 0 && eqb call.address 0 && eqb call.mode 0 && eqb call.asked 0 && eqb call.sent 0 && is_up call
    && eqb call.plane 4 && eqb call.kept 4 && eqb call.code 0 && eqb call.slots 1 && all_stopped call

-- T311 runs exactly when plane is 1; T306 runs exactly when restoring
unfoldable pub timers_agree : Call → Bool
timers_agree call = beq (runs call T311) (eqb call.plane 1) && beq (runs call T306) (is_restoring call)

-- the states in which a call may have no identifier
abbrev pub may_lack_id : State → Bool
may_lack_id State.Idle = true
may_lack_id State.MoCallSetup = true
may_lack_id State.MtCallSetup = false
may_lack_id State.CallActive = false
may_lack_id State.Wait = false
may_lack_id State.CallDisconnect = true

-- plane is 4 unless CALL-ACTIVE with path up; path is up unless CALL-ACTIVE; kept plane is 4 unless WAIT;
-- identifier 0 only in IDLE, MO-CALL-SETUP, CALL-DISCONNECT
unfoldable pub state_agrees : Call → Bool
state_agrees call =
    (eqb call.plane 4 || is_active call && is_up call) && (is_up call || is_active call)
    && (eqb call.kept 4 || is_wait call)
    && (leb 1 call.id || may_lack_id call.state)

-- what the paper calls sound
unfoldable pub sound : Call → Bool
sound call = in_range call && (is_idle call ⇒ as_fresh call) && timers_agree call && state_agrees call
