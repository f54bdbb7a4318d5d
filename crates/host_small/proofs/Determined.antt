-- The promises leave no choice: two results that an entry's own `ensures` allows are equal, with every lent byte. `Learnt` is that `ensures` as a caller learns it, of
-- the arguments, the result, and the parameters when it returns.
use Prim.Native.Nat.{ℕ}
use mathlib.Core.Path.{◌≡◌, sym, ◌∙◌}
use mathlib.Core.List.{List}
use Rattle.demands.specs.Runs.{Turn}
use Rattle.host.specs.Entries.{Left, freshened, host_step}
use Rattle.host.specs.Runs.{after}
use Rattle.host.proofs.callcontrol_fresh.Reads as hosts-fresh-promise
use Rattle.host.proofs.callcontrol_step.Reads as hosts-step-promise
use Rattle.host_small.specs.Runs.{Leaves, RunBy}
use Rattle.host_small.proofs.Runs.{one_run}
use Rattle.host_small.proofs.callcontrol_fresh.Reads as fresh-promise
use Rattle.host_small.proofs.callcontrol_step.Reads as step-promise

pub fresh : (κs : _) (a : _) (r₁ r₂ : _) (e₁ e₂ : _) → fresh-promise.Learnt κs a r₁ e₁ → fresh-promise.Learnt κs a r₂ e₂ → ◌≡◌ {A = ℕ × List ℕ} (r₁, e₁.0.now) (r₂, e₂.0.now)
fresh κs a r₁ r₂ e₁ e₂ p q = p ∙ sym q

pub step : (κs : _) (a : _) (r₁ r₂ : _) (e₁ e₂ : _) → step-promise.Learnt κs a r₁ e₁ → step-promise.Learnt κs a r₂ e₂ → ◌≡◌ {A = Left} (record { result = r₁; call = e₁.0.now; out = e₁.1.1.0.now }) (record { result = r₂; call = e₂.0.now; out = e₂.1.1.0.now })
step κs a r₁ r₂ e₁ e₂ p q = p ∙ sym q

-- what host's entry leaves and what this archive's leaves under the same name, for the same arguments: SameArchive of the entries themselves

pub both_fresh : (κs : _) (a : _) (r₁ r₂ : _) (e₁ e₂ : _) → hosts-fresh-promise.Learnt κs a r₁ e₁ → fresh-promise.Learnt κs a r₂ e₂ → ◌≡◌ {A = ℕ × List ℕ} (r₁, e₁.0.now) (r₂, e₂.0.now)
both_fresh κs a r₁ r₂ e₁ e₂ p q = p ∙ sym q

pub both_step : (κs : _) (a : _) (r₁ r₂ : _) (e₁ e₂ : _) → hosts-step-promise.Learnt κs a r₁ e₁ → step-promise.Learnt κs a r₂ e₂ → ◌≡◌ {A = Left} (record { result = r₁; call = e₁.0.now; out = e₁.1.1.0.now }) (record { result = r₂; call = e₂.0.now; out = e₂.1.1.0.now })
both_step κs a r₁ r₂ e₁ e₂ p q = p ∙ sym q

-- along any calls: what host's entries, and what this archive's, may leave by their own `ensures`

pub data FreshByHost : List ℕ → ℕ × List ℕ → Type 0 where
  allowed : (κs : _) (a : _) (r : _) (e : _) → hosts-fresh-promise.Learnt κs a r e → FreshByHost a.0.now (r, e.0.now)

pub data StepByHost : List ℕ → Turn → Left → Type 0 where
  allowed : (κs : _) (a : _) (r : _) (e : _) → hosts-step-promise.Learnt κs a r e
      → StepByHost a.0.now (record { event = a.1.0.now; buffer = a.1.1.0.now }) (record { result = r; call = e.0.now; out = e.1.1.0.now })

pub data FreshBySmall : List ℕ → ℕ × List ℕ → Type 0 where
  allowed : (κs : _) (a : _) (r : _) (e : _) → fresh-promise.Learnt κs a r e → FreshBySmall a.0.now (r, e.0.now)

pub data StepBySmall : List ℕ → Turn → Left → Type 0 where
  allowed : (κs : _) (a : _) (r : _) (e : _) → step-promise.Learnt κs a r e
      → StepBySmall a.0.now (record { event = a.1.0.now; buffer = a.1.1.0.now }) (record { result = r; call = e.0.now; out = e.1.1.0.now })

abbrev pub by_host : Leaves
by_host = record { fresh = FreshByHost; step = StepByHost }

abbrev pub by_small : Leaves
by_small = record { fresh = FreshBySmall; step = StepBySmall }

host_fresh : (s : List ℕ) (w : ℕ × List ℕ) → FreshByHost s w → w ≡ freshened s
host_fresh s w (FreshByHost.allowed κs a r e p) = p

host_step_lem : (s : List ℕ) (t : Turn) (l : Left) → StepByHost s t l → l ≡ host_step s t.event t.buffer
host_step_lem s t l (StepByHost.allowed κs a r e p) = p

small_fresh : (s : List ℕ) (w : ℕ × List ℕ) → FreshBySmall s w → w ≡ freshened s
small_fresh s w (FreshBySmall.allowed κs a r e p) = p

small_step : (s : List ℕ) (t : Turn) (l : Left) → StepBySmall s t l → l ≡ host_step s t.event t.buffer
small_step s t l (StepBySmall.allowed κs a r e p) = p

-- OneRun of the entries themselves
pub both_runs : (s one other : List ℕ) (w₁ w₂ : ℕ × List ℕ) (ts : List Turn)
    → FreshByHost s w₁ → FreshBySmall s w₂ → RunBy by_host w₁.1 ts one → RunBy by_small w₂.1 ts other
    → (one ≡ after s ts) × (other ≡ after s ts) × ((t : Turn) (l₁ l₂ : Left) → StepByHost one t l₁ → StepBySmall other t l₂ → l₁ ≡ l₂)
both_runs = one_run by_host by_small (record { fresh = host_fresh; step = host_step_lem }) (record { fresh = small_fresh; step = small_step })
