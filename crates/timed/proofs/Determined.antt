-- The promises leave no choice: two results that one allows are equal, and so are the buffers that they leave. `Learnt` is a function's own `ensures` as a caller
-- learns it, of the arguments, the result, and the parameters when it returns.
use Prim.Native.Nat.{ℕ}
use mathlib.Core.Path.{◌≡◌, refl, sym, ◌∙◌, ap}
use mathlib.Core.Bool.{Bool, true, false, cond}
use mathlib.Core.List.{List}
use native.Mathlib.Omega.{arith}
use lib.Dec.{eqb}
use Rattle.std.specs.Prelude.{Result, Ok, Err}
use Rattle.records.specs.declared.bodies.Unreadable.{Unreadable}
use Rattle.callcontrol.specs.declared.step.Refusal.{Refusal as StepRefusal}
use Rattle.timed.specs.declared.set.Timed.{Timed}
use Rattle.timed.specs.declared.set.Refusal.{Refusal}
use Rattle.timed.specs.declared.set.Stepped.{Stepped}
use Rattle.timed.specs.Set.{new_of}
use Rattle.timed.specs.Entries.{Outcome, refusal_number, refusal_place, place_of, as_outcome, NotUnsound}
use Rattle.timed.proofs.set.Refusal.number.Reads as number-promise
use Rattle.timed.proofs.set.Refusal.place.Reads as place-promise
use Rattle.timed.proofs.set.RefusalFromStepRefusal.from.Reads as of-step-promise
use Rattle.timed.proofs.set.RefusalFromUnreadable.from.Reads as of-reader-promise
use Rattle.timed.proofs.set.Timed.step.Reads as step-promise
use Rattle.timed.proofs.set.Timed.due.Reads as due-promise

pub new : (reading : ℕ) (r₁ r₂ : Timed) → r₁ ≡ new_of reading → r₂ ≡ new_of reading → r₁ ≡ r₂
new reading r₁ r₂ e₁ e₂ = e₁ ∙ sym e₂

pub number : (κs : _) (a : _) (r₁ r₂ : _) (e₁ e₂ : _) → number-promise.Learnt κs a r₁ e₁ → number-promise.Learnt κs a r₂ e₂ → r₁ ≡ r₂
number κs a r₁ r₂ e₁ e₂ p q = p.0 ∙ sym q.0

pub place : (κs : _) (a : _) (r₁ r₂ : _) (e₁ e₂ : _) → place-promise.Learnt κs a r₁ e₁ → place-promise.Learnt κs a r₂ e₂ → r₁ ≡ r₂
place κs a r₁ r₂ e₁ e₂ p q = p ∙ sym q

pub from_step : (κs : _) (a : _) (r₁ r₂ : _) (e₁ e₂ : _) → of-step-promise.Learnt κs a r₁ e₁ → of-step-promise.Learnt κs a r₂ e₂ → r₁ ≡ r₂
from_step κs a r₁ r₂ e₁ e₂ p q = p ∙ sym q

pub from_unreadable : (κs : _) (a : _) (r₁ r₂ : _) (e₁ e₂ : _) → of-reader-promise.Learnt κs a r₁ e₁ → of-reader-promise.Learnt κs a r₂ e₂ → r₁ ≡ r₂
from_unreadable κs a r₁ r₂ e₁ e₂ p q = p ∙ sym q

-- a refusal by its number and its place
abbrev own_of : ℕ → ℕ → StepRefusal
own_of n place =
    cond (eqb n 2) (StepRefusal.Unreadable Unreadable.BadLength)
    (cond (eqb n 3) (StepRefusal.Unreadable Unreadable.UnknownKind)
    (cond (eqb n 9) (StepRefusal.Unreadable Unreadable.Retired)
    (cond (eqb n 4) (StepRefusal.Unreadable (Unreadable.BadBody place))
    (cond (eqb n 5) StepRefusal.OtherCall (cond (eqb n 6) StepRefusal.NoRow (cond (eqb n 7) StepRefusal.NoRoom StepRefusal.OwnTransmission))))))

abbrev refusal_of : ℕ → ℕ → Refusal
refusal_of n place =
    cond (eqb n 1) Refusal.NoSet
    (cond (eqb n 31) Refusal.LengthOutOfRange
    (cond (eqb n 32) Refusal.ReadingEarlier (cond (eqb n 34) Refusal.TimerDue (cond (eqb n 35) Refusal.ExpiryHandedIn (Refusal.OfStep (own_of n place))))))

again : (e : Refusal) → (e ≡ Refusal.OfStep StepRefusal.NotSound → ⊥) → refusal_of (refusal_number e) (refusal_place e) ≡ e
again Refusal.NoSet h = refl
again Refusal.LengthOutOfRange h = refl
again Refusal.ReadingEarlier h = refl
again Refusal.TimerDue h = refl
again Refusal.ExpiryHandedIn h = refl
again (Refusal.OfStep StepRefusal.NotSound) h = absurd (h refl)
again (Refusal.OfStep (StepRefusal.Unreadable Unreadable.BadLength)) h = refl
again (Refusal.OfStep (StepRefusal.Unreadable Unreadable.UnknownKind)) h = refl
again (Refusal.OfStep (StepRefusal.Unreadable Unreadable.Retired)) h = refl
again (Refusal.OfStep (StepRefusal.Unreadable (Unreadable.BadBody place))) h = refl
again (Refusal.OfStep StepRefusal.OtherCall) h = refl
again (Refusal.OfStep StepRefusal.NoRow) h = refl
again (Refusal.OfStep StepRefusal.NoRoom) h = refl
again (Refusal.OfStep StepRefusal.OwnTransmission) h = refl

-- none has the number of what is taken
not_taken : (e : Refusal) → (e ≡ Refusal.OfStep StepRefusal.NotSound → ⊥) → refusal_number e ≡ 0 → ⊥
not_taken e h z =
    let y : ◌≡◌ {A = ℕ} (refusal_number (refusal_of 0 (refusal_place e))) 0 = ap (λ (n : ℕ). refusal_number (refusal_of n (refusal_place e))) (sym z) ∙ ap refusal_number (again e h) ∙ z in
    omega (arith, y)

flag : (a b : Bool) → place_of a ≡ place_of b → a ≡ b
flag true true e = refl
flag true false e = absurd (omega (arith, e))
flag false true e = absurd (omega (arith, e))
flag false false e = refl

results : (t : Timed) (r₁ r₂ : Result Stepped Refusal) (b₁ b₂ : List ℕ) → NotUnsound r₁ → NotUnsound r₂ → as_outcome t r₁ b₁ ≡ as_outcome t r₂ b₂ → r₁ ≡ r₂
results t (Ok r) (Ok s) b₁ b₂ h k e =
    let expired : r.expired ≡ s.expired = flag r.expired s.expired (ap (λ (o : Outcome). o.place) e) in
    let count : r.count ≡ s.count = ap (λ (o : Outcome). o.count) e in
    let timed : r.timed ≡ s.timed = ap (λ (o : Outcome). o.timed) e in
    λ i. Ok (record { expired = expired i; count = count i; timed = timed i })
results t (Ok r) (Err f) b₁ b₂ h k e = absurd (not_taken f k (sym (ap (λ (o : Outcome). o.answer) e)))
results t (Err f) (Ok s) b₁ b₂ h k e = absurd (not_taken f h (ap (λ (o : Outcome). o.answer) e))
results t (Err f) (Err g) b₁ b₂ h k e =
    let number : refusal_number f ≡ refusal_number g = ap (λ (o : Outcome). o.answer) e in
    let place : refusal_place f ≡ refusal_place g = ap (λ (o : Outcome). o.place) e in
    ap Err (sym (again f h) ∙ (λ i. refusal_of (number i) (place i)) ∙ again g k)

left : (t : Timed) (r : Result Stepped Refusal) (b : List ℕ) → (as_outcome t r b).buffer ≡ b
left t (Ok r) b = refl
left t (Err e) b = refl

same : (o : Outcome) (t : Timed) (r₁ r₂ : Result Stepped Refusal) (b₁ b₂ : List ℕ) → as_outcome t r₁ b₁ ≡ o → as_outcome t r₂ b₂ ≡ o → NotUnsound r₁ → NotUnsound r₂ → (r₁ ≡ r₂) × (b₁ ≡ b₂)
same o t r₁ r₂ b₁ b₂ p q h k =
    let e : as_outcome t r₁ b₁ ≡ as_outcome t r₂ b₂ = p ∙ sym q in
    (results t r₁ r₂ b₁ b₂ h k e, sym (left t r₁ b₁) ∙ ap (λ (x : Outcome). x.buffer) e ∙ left t r₂ b₂)

pub step : (κs : _) (a : _) (r₁ r₂ : _) (e₁ e₂ : _) → step-promise.Learnt κs a r₁ e₁ → step-promise.Learnt κs a r₂ e₂ → (r₁ ≡ r₂) × (e₁.1.1.1.1.0.now ≡ e₂.1.1.1.1.0.now)
step κs a r₁ r₂ e₁ e₂ p q = same _ a.0 r₁ r₂ _ _ p.0 q.0 p.1 q.1

pub due : (κs : _) (a : _) (r₁ r₂ : _) (e₁ e₂ : _) → due-promise.Learnt κs a r₁ e₁ → due-promise.Learnt κs a r₂ e₂ → (r₁ ≡ r₂) × (e₁.1.1.1.0.now ≡ e₂.1.1.1.0.now)
due κs a r₁ r₂ e₁ e₂ p q = same _ a.0 r₁ r₂ _ _ p.0 q.0 p.1 q.1
