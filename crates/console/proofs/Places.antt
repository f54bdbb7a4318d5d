-- What a walk over the places knows at each of them: every place of a table, from a place on.
use Prim.Native.Nat.{ℕ, ◌+◌, ◌<◌, ◌≤◌}
use mathlib.Core.Path.{◌≡◌}
use mathlib.Core.Bool.{Bool, true, false}
use mathlib.Core.List.{List, [], ◌∷◌}
use native.Mathlib.Numerals.{add-one}
use lib.ListN.{length, drop, drop_of_length-le}
use lib.Seq.{drop-cons}
use Rattle.callcontrol.specs.declared.call.Call.{Call}
use Rattle.console.specs.Table.{no_call, call_at, every?}

-- the rest of a table from a place on
pub rest : (calls : List Call) (k : ℕ) → k < length calls → drop k calls ≡ call_at calls k ∷ drop (k + 1) calls
rest calls k lt = rw (add-one, drop-cons calls k no_call)

pub nothing_left : (calls : List Call) (k : ℕ) → length calls ≤ k → drop k calls ≡ []
nothing_left calls k le = drop_of_length-le calls le

-- every place, from a place on
module _ (calls : List Call) (k : ℕ) (lt : k < length calls) where
  pub every_not : (p : Call → Bool) → p (call_at calls k) ≡ false → false ≡ every? p (drop k calls)
  every_not p is = rw (rest calls k lt, is)

  pub every_later : (p : Call → Bool) → p (call_at calls k) ≡ true → every? p (drop k calls) ≡ every? p (drop (k + 1) calls)
  every_later p is = rw (rest calls k lt, is)

module _ (calls : List Call) (k : ℕ) (le : length calls ≤ k) where
  pub every_end : (p : Call → Bool) → true ≡ every? p (drop k calls)
  every_end p = rw (nothing_left calls k le)
