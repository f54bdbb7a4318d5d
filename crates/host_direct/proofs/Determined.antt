-- The promises leave no choice: two results that an entry's own `ensures` allows are equal, with every lent byte. `Learnt` is that `ensures` as a caller learns it, of
-- the arguments, the result, and the parameters when it returns.
use Prim.Native.Nat.{ℕ}
use mathlib.Core.Path.{◌≡◌, sym, ◌∙◌}
use mathlib.Core.List.{List}
use Rattle.host_direct.specs.Entries.{Left}
use Rattle.host_direct.proofs.callcontrol_direct_fresh.Reads as fresh-promise
use Rattle.host_direct.proofs.callcontrol_direct_step.Reads as step-promise
use Rattle.host_direct.proofs.callcontrol_direct_check_event.Reads as check-event-promise
use Rattle.host_direct.proofs.callcontrol_direct_check_message.Reads as check-message-promise
use Rattle.host_direct.proofs.callcontrol_direct_copy_event.Reads as copy-event-promise
use Rattle.host_direct.proofs.callcontrol_direct_copy_message.Reads as copy-message-promise

pub fresh : (κs : _) (a : _) (r₁ r₂ : _) (e₁ e₂ : _) → fresh-promise.Learnt κs a r₁ e₁ → fresh-promise.Learnt κs a r₂ e₂ → ◌≡◌ {A = ℕ × List ℕ} (r₁, e₁.0.now) (r₂, e₂.0.now)
fresh κs a r₁ r₂ e₁ e₂ p q = p ∙ sym q

pub step : (κs : _) (a : _) (r₁ r₂ : _) (e₁ e₂ : _) → step-promise.Learnt κs a r₁ e₁ → step-promise.Learnt κs a r₂ e₂ → ◌≡◌ {A = Left} (record { result = r₁; call = e₁.0.now; out = e₁.1.1.0.now }) (record { result = r₂; call = e₂.0.now; out = e₂.1.1.0.now })
step κs a r₁ r₂ e₁ e₂ p q = p ∙ sym q

pub check_event : (κs : _) (a : _) (r₁ r₂ : _) (e₁ e₂ : _) → check-event-promise.Learnt κs a r₁ e₁ → check-event-promise.Learnt κs a r₂ e₂ → r₁ ≡ r₂
check_event κs a r₁ r₂ e₁ e₂ p q = p ∙ sym q

pub check_message : (κs : _) (a : _) (r₁ r₂ : _) (e₁ e₂ : _) → check-message-promise.Learnt κs a r₁ e₁ → check-message-promise.Learnt κs a r₂ e₂ → r₁ ≡ r₂
check_message κs a r₁ r₂ e₁ e₂ p q = p ∙ sym q

pub copy_event : (κs : _) (a : _) (r₁ r₂ : _) (e₁ e₂ : _) → copy-event-promise.Learnt κs a r₁ e₁ → copy-event-promise.Learnt κs a r₂ e₂ → ◌≡◌ {A = ℕ × List ℕ} (r₁, e₁.1.0.now) (r₂, e₂.1.0.now)
copy_event κs a r₁ r₂ e₁ e₂ p q = p ∙ sym q

pub copy_message : (κs : _) (a : _) (r₁ r₂ : _) (e₁ e₂ : _) → copy-message-promise.Learnt κs a r₁ e₁ → copy-message-promise.Learnt κs a r₂ e₂ → ◌≡◌ {A = ℕ × List ℕ} (r₁, e₁.1.0.now) (r₂, e₂.1.0.now)
copy_message κs a r₁ r₂ e₁ e₂ p q = p ∙ sym q
