-- A direct mode call as a host's 7 bytes: state, target, lowest, limit, used, DT303 and DT311.
use Rattle.std.specs.Prelude.{ℕ, zero, suc, Bool, true, false, cond, ◌&&◌, List, [], ◌∷◌, leb, eqb, length, get_or, Option as Maybe, Some, None}
use Rattle.std.proofs.Math.Option.{Option, none, some}
use Rattle.direct.specs.declared.call.State.{State}
use Rattle.direct.specs.declared.call.Call.{Call}
use Rattle.direct.specs.Call.{state_number}

abbrev pub flag : Bool → ℕ
flag b = cond b 1 0

unfoldable pub packed : Call → List ℕ
packed c = state_number c.state ∷ c.target ∷ c.lowest ∷ c.limit ∷ c.used ∷ flag c.dt303 ∷ flag c.dt311 ∷ []

-- above 2, which no record has since is_record refuses it, is Active
abbrev pub state_is : ℕ → State
state_is zero = State.Idle
state_is (suc zero) = State.PresenceCheck
state_is (suc (suc n)) = State.Active

-- the bytes are a record: 7 of them, a state up to 2, flags up to 1
unfoldable pub is_record : List ℕ → Bool
is_record s = eqb (length s) 7 && leb (get_or s 0 0) 2 && leb (get_or s 5 0) 1 && leb (get_or s 6 0) 1

-- the record that some bytes hold
unfoldable pub held : List ℕ → Call
held s =
    record {
      state = state_is (get_or s 0 0);
      target = get_or s 1 0;
      lowest = get_or s 2 0;
      limit = get_or s 3 0;
      used = get_or s 4 0;
      dt303 = eqb (get_or s 5 0) 1;
      dt311 = eqb (get_or s 6 0) 1;
    }

unfoldable pub unpacked : List ℕ → Option Call
unpacked s = cond (is_record s) (some (held s)) none

-- the code's answers

abbrev pub as_call : Maybe Call → Option Call
as_call (Some c) = some c
as_call None = none

abbrev pub as_flag : ℕ → Maybe Bool
as_flag zero = Some false
as_flag (suc zero) = Some true
as_flag (suc (suc n)) = None
