-- The promises leave no choice: two results that an entry's own `ensures` allows are equal, with every lent byte. `Learnt` is that `ensures` as a caller learns it, of
-- the arguments, the result, and the parameters when it returns.
use Prim.Native.Nat.{ℕ}
use mathlib.Core.Path.{◌≡◌, sym, ◌∙◌}
use mathlib.Core.List.{List}
use Rattle.host_console.specs.Table.{TableLeft}
use Rattle.host_console.proofs.table.callcontrol_console_fresh.Reads as console-fresh-promise
use Rattle.host_console.proofs.table.callcontrol_console_step.Reads as console-step-promise

pub console_fresh : (κs : _) (a : _) (r₁ r₂ : _) (e₁ e₂ : _) → console-fresh-promise.Learnt κs a r₁ e₁ → console-fresh-promise.Learnt κs a r₂ e₂ → ◌≡◌ {A = ℕ × List ℕ} (r₁, e₁.0.now) (r₂, e₂.0.now)
console_fresh κs a r₁ r₂ e₁ e₂ p q = p ∙ sym q

pub console_step : (κs : _) (a : _) (r₁ r₂ : _) (e₁ e₂ : _) → console-step-promise.Learnt κs a r₁ e₁ → console-step-promise.Learnt κs a r₂ e₂ → ◌≡◌ {A = TableLeft} (record { result = r₁; table = e₁.0.now; out = e₁.1.1.1.0.now }) (record { result = r₂; table = e₂.0.now; out = e₂.1.1.1.0.now })
console_step κs a r₁ r₂ e₁ e₂ p q = p ∙ sym q
