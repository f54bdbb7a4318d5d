-- The promises leave no choice: two results that an entry's own `ensures` allows are equal, with every lent byte. `Learnt` is that `ensures` as a caller learns it, of
-- the arguments, the result, and the parameters when it returns.
use Prim.Native.Nat.{ℕ}
use mathlib.Core.Path.{◌≡◌, sym, ◌∙◌}
use mathlib.Core.List.{List}
use Rattle.host_test.proofs.callcontrol_test_record_in.Reads as record-in-promise

pub record_in : (κs : _) (a : _) (r₁ r₂ : _) (e₁ e₂ : _) → record-in-promise.Learnt κs a r₁ e₁ → record-in-promise.Learnt κs a r₂ e₂ → ◌≡◌ {A = ℕ × List ℕ} (r₁, e₁.1.1.1.1.0.now) (r₂, e₂.1.1.1.1.0.now)
record_in κs a r₁ r₂ e₁ e₂ p q = p ∙ sym q
