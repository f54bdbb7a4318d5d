-- The promises leave no choice: two results that a function's own `ensures` allows are equal, and so are the lists that it leaves. `Learnt` is that `ensures` as a
-- caller learns it, of the arguments, the result, and the parameters when it returns.
use Rattle.std.proofs.Common.{◌≡◌, ℕ, cond, eqb, List, sym, refl, ap, ◌∙◌}
use Rattle.std.specs.Prelude.{Result, Ok, Err}
use Rattle.timers.specs.declared.bank.Refusal.{Refusal}
use Rattle.timers.specs.declared.bank.Bank.{Bank}
use Rattle.timers.specs.declared.bank.Advanced.{Advanced}
use Rattle.timers.specs.Bank.{Outcome, as_ordered, as_advanced}
use Rattle.timers.proofs.bank.Refusal.number.Reads as number-promise
use Rattle.timers.proofs.bank.Bank.new.Reads as new-promise
use Rattle.timers.proofs.bank.Bank.stop.Reads as stop-promise
use Rattle.timers.proofs.bank.Bank.start.Reads as start-promise
use Rattle.timers.proofs.bank.Bank.advance.Reads as advance-promise

-- the refusal that a number stands for: no two have the same
refusal_back : ℕ → Refusal
refusal_back n =
    cond (eqb n 30) Refusal.TimerUnknown
    (cond (eqb n 31) Refusal.LengthOutOfRange (cond (eqb n 32) Refusal.ReadingEarlier Refusal.ListShort))

-- what an outcome says of the code's result
order_back : Outcome → Result Bank Refusal
order_back o = cond (eqb o.answer 0) (Ok o.bank) (Err (refusal_back o.answer))

order_same : (b : Bank) (r : Result Bank Refusal) → order_back (as_ordered b r) ≡ r
unfolding order_back refusal_back
order_same b (Ok next) = refl
order_same b (Err Refusal.TimerUnknown) = refl
order_same b (Err Refusal.LengthOutOfRange) = refl
order_same b (Err Refusal.ReadingEarlier) = refl
order_same b (Err Refusal.ListShort) = refl

reading_back : Outcome → Result Advanced Refusal
reading_back o = cond (eqb o.answer 0) (Ok (record { count = o.count; bank = o.bank })) (Err (refusal_back o.answer))

reading_same : (b : Bank) (r : Result Advanced Refusal) (list : List ℕ) → reading_back (as_advanced b r list) ≡ r
unfolding reading_back refusal_back
reading_same b (Ok next) list = refl
reading_same b (Err Refusal.TimerUnknown) list = refl
reading_same b (Err Refusal.LengthOutOfRange) list = refl
reading_same b (Err Refusal.ReadingEarlier) list = refl
reading_same b (Err Refusal.ListShort) list = refl

list_same : (b : Bank) (r : Result Advanced Refusal) (list : List ℕ) → (as_advanced b r list).list ≡ list
list_same b (Ok next) list = refl
list_same b (Err e) list = refl

same_order : (b : Bank) (o : Outcome) (r₁ r₂ : Result Bank Refusal) → as_ordered b r₁ ≡ o → as_ordered b r₂ ≡ o → r₁ ≡ r₂
same_order b o r₁ r₂ e₁ e₂ = sym (order_same b r₁) ∙ ap order_back (e₁ ∙ sym e₂) ∙ order_same b r₂

same_reading : (b : Bank) (o : Outcome) (r₁ r₂ : Result Advanced Refusal) (l₁ l₂ : List ℕ) → as_advanced b r₁ l₁ ≡ o → as_advanced b r₂ l₂ ≡ o
    → (r₁ ≡ r₂) × (l₁ ≡ l₂)
same_reading b o r₁ r₂ l₁ l₂ e₁ e₂ =
    let e = e₁ ∙ sym e₂ in (
      sym (reading_same b r₁ l₁) ∙ ap reading_back e ∙ reading_same b r₂ l₂,
      sym (list_same b r₁ l₁) ∙ ap (λ (w : Outcome). w.list) e ∙ list_same b r₂ l₂,
    )

-- ---- the functions

pub number : (κs : _) (a : _) (r₁ r₂ : _) (e₁ e₂ : _) → number-promise.Learnt κs a r₁ e₁ → number-promise.Learnt κs a r₂ e₂ → r₁ ≡ r₂
number κs a r₁ r₂ e₁ e₂ p q = p.0 ∙ sym q.0

pub new : (κs : _) (a : _) (r₁ r₂ : _) (e₁ e₂ : _) → new-promise.Learnt κs a r₁ e₁ → new-promise.Learnt κs a r₂ e₂ → r₁ ≡ r₂
new κs a r₁ r₂ e₁ e₂ p q = p ∙ sym q

pub stop : (κs : _) (a : _) (r₁ r₂ : _) (e₁ e₂ : _) → stop-promise.Learnt κs a r₁ e₁ → stop-promise.Learnt κs a r₂ e₂ → r₁ ≡ r₂
stop κs a r₁ r₂ e₁ e₂ p q = same_order _ _ r₁ r₂ p q

pub start : (κs : _) (a : _) (r₁ r₂ : _) (e₁ e₂ : _) → start-promise.Learnt κs a r₁ e₁ → start-promise.Learnt κs a r₂ e₂ → r₁ ≡ r₂
start κs a r₁ r₂ e₁ e₂ p q = same_order _ _ r₁ r₂ p q

pub advance : (κs : _) (a : _) (r₁ r₂ : _) (e₁ e₂ : _) → advance-promise.Learnt κs a r₁ e₁ → advance-promise.Learnt κs a r₂ e₂ → (r₁ ≡ r₂) × (e₁.1.1.0.now ≡ e₂.1.1.0.now)
advance κs a r₁ r₂ e₁ e₂ p q = same_reading _ _ r₁ r₂ _ _ p q
