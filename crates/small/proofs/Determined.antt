-- The promise of the second engine's step leaves no choice: two results that its own `ensures` allows are equal, and so are the buffers that it leaves. `Learnt` is
-- that `ensures` as a caller learns it, of the arguments, the result, and the parameters when it returns.
use Prim.Native.Nat.{ℕ}
use mathlib.Core.Path.{◌≡◌}
use mathlib.Core.List.{List}
use Rattle.callcontrol.specs.declared.call.Call.{Call}
use Rattle.std.proofs.Common.{Result}
use Rattle.callcontrol.specs.declared.step.Refusal.{Refusal}
use Rattle.callcontrol.specs.declared.step.Stepped.{Stepped}
use Rattle.callcontrol.proofs.Determined.{step}
use Rattle.callcontrol.proofs.step.step.Reads as step-promise
use Rattle.demands.specs.Runs.{Turn, run}
use Rattle.small.specs.Engines.{Equal, Keeps, RunBy}
use Rattle.small.proofs.Engines.{one_run}
use Rattle.small.proofs.small_step.Reads as small-step-promise

pub small_step : (κs : _) (a : _) (r₁ r₂ : _) (e₁ e₂ : _) → small-step-promise.Learnt κs a r₁ e₁ → small-step-promise.Learnt κs a r₂ e₂ → (r₁ ≡ r₂) × (e₁.1.1.0.now ≡ e₂.1.1.0.now)
small_step κs a r₁ r₂ e₁ e₂ p q = step a.0 _ r₁ r₂ _ _ p q

-- and one that the first engine's allows is one that this engine's allows, for the same record, event and buffer: SameStep of the two functions themselves
pub both_engines : (κs : _) (a : _) (r₁ r₂ : _) (e₁ e₂ : _) → step-promise.Learnt κs a r₁ e₁ → small-step-promise.Learnt κs a r₂ e₂ → (r₁ ≡ r₂) × (e₁.1.1.0.now ≡ e₂.1.1.0.now)
both_engines κs a r₁ r₂ e₁ e₂ p q = step a.0 _ r₁ r₂ _ _ p q

-- along any turns: what the first engine, and what the second, may give by its own `ensures`

pub data ByFirst : Call → Turn → Result Stepped Refusal → List ℕ → Type 0 where
  allowed : (κs : _) (a : _) (r : _) (e : _) → step-promise.Learnt κs a r e → ByFirst a.0 (record { event = a.1.0.now; buffer = a.1.1.0.now }) r e.1.1.0.now

pub data BySecond : Call → Turn → Result Stepped Refusal → List ℕ → Type 0 where
  allowed : (κs : _) (a : _) (r : _) (e : _) → small-step-promise.Learnt κs a r e → BySecond a.0 (record { event = a.1.0.now; buffer = a.1.1.0.now }) r e.1.1.0.now

first_keeps : Keeps ByFirst
first_keeps c t s b (ByFirst.allowed κs a r e p) = p

second_keeps : Keeps BySecond
second_keeps c t s b (BySecond.allowed κs a r e p) = p

-- OneRun of the two functions themselves
pub both_runs : (c one other : Call) (ts : List Turn) → RunBy ByFirst c ts one → RunBy BySecond c ts other
    → (one ≡ run c ts) × (other ≡ run c ts) × ((t : Turn) (r₁ r₂ : Result Stepped Refusal) (b₁ b₂ : List ℕ) → ByFirst one t r₁ b₁ → BySecond other t r₂ b₂ → Equal r₁ r₂ b₁ b₂)
both_runs = one_run ByFirst BySecond first_keeps second_keeps
