-- The promises leave no choice: two results that a function's own `ensures` allows are equal, and so are the carries that it leaves. `Learnt` is that `ensures` as a
-- caller learns it, of the arguments, the result, and the parameters when it returns.
use Prim.Native.Nat.{ℕ}
use mathlib.Core.Path.{◌≡◌, refl, sym, ◌∙◌, ap}
use mathlib.Core.Bool.{cond}
use mathlib.Core.List.{List}
use Rattle.std.specs.Prelude.{Option, None, Some, Result, Ok, Err}
use lib.Dec.{eqb}
use Rattle.pieces.specs.declared.reader.Refusal.{Refusal}
use Rattle.pieces.specs.declared.reader.Where.{Where}
use Rattle.pieces.specs.declared.reader.Found.{Found}
use Rattle.pieces.specs.declared.reader.Reader.{Reader}
use Rattle.pieces.specs.Next.{Outcome, answer_number, where_number, size_handed, as_outcome}
use Rattle.pieces.specs.Claims.{NextDetermined}
use Rattle.pieces.proofs.reader.Reader.fresh.Reads as fresh-promise
use Rattle.pieces.proofs.reader.Refusal.number.Reads as number-promise
use Rattle.pieces.proofs.reader.where_number.Reads as where-number-promise
use Rattle.pieces.proofs.reader.Reader.next.Reads as next-promise
use Rattle.pieces.proofs.reader.record_in.Reads as record-in-promise

-- the refusal and the place that a number stands for: no two have the same
refusal_back : ℕ → Refusal
refusal_back n = cond (eqb n 20) Refusal.ImpossibleLength (cond (eqb n 21) Refusal.Stopped Refusal.SmallCarry)

refusal_same : (e : Refusal) → refusal_back (answer_number e) ≡ e
unfolding refusal_back
refusal_same Refusal.ImpossibleLength = refl
refusal_same Refusal.Stopped = refl
refusal_same Refusal.SmallCarry = refl

handed_back : ℕ → ℕ → Option Where
handed_back n size = cond (eqb n 0) None (cond (eqb n 1) (Some (Where.Carry size)) (Some (Where.Piece size)))

handed_same : (h : Option Where) → handed_back (where_number h) (size_handed h) ≡ h
unfolding handed_back
handed_same None = refl
handed_same (Some (Where.Carry size)) = refl
handed_same (Some (Where.Piece size)) = refl

-- what an outcome says of the code's result
back : Outcome → Result Found Refusal
back o = cond (eqb o.answer 0) (Ok (record { handed = handed_back o.lies o.size; used = o.used })) (Err (refusal_back o.answer))

same : (f : Result Found Refusal) (r : Reader) (carry : List ℕ) → back (as_outcome f r carry) ≡ f
unfolding back refusal_back
same (Ok f) r carry = λ i. Ok (record { handed = handed_same f.handed i; used = f.used })
same (Err Refusal.ImpossibleLength) r carry = refl
same (Err Refusal.Stopped) r carry = refl
same (Err Refusal.SmallCarry) r carry = refl

reader_same : (f : Result Found Refusal) (r : Reader) (carry : List ℕ) → (as_outcome f r carry).reader ≡ r
reader_same (Ok f) r carry = refl
reader_same (Err e) r carry = refl

carry_same : (f : Result Found Refusal) (r : Reader) (carry : List ℕ) → (as_outcome f r carry).carry ≡ carry
carry_same (Ok f) r carry = refl
carry_same (Err e) r carry = refl

pub same_found : NextDetermined
same_found r carry piece f₁ f₂ r₁ r₂ c₁ c₂ e₁ e₂ =
    let e = e₁ ∙ sym e₂ in (
      sym (same f₁ r₁ c₁) ∙ ap back e ∙ same f₂ r₂ c₂,
      sym (reader_same f₁ r₁ c₁) ∙ ap (λ (o : Outcome). o.reader) e ∙ reader_same f₂ r₂ c₂,
      sym (carry_same f₁ r₁ c₁) ∙ ap (λ (o : Outcome). o.carry) e ∙ carry_same f₂ r₂ c₂,
    )

-- ---- the functions

pub fresh : (κs : _) (a : _) (r₁ r₂ : _) (e₁ e₂ : _) → fresh-promise.Learnt κs a r₁ e₁ → fresh-promise.Learnt κs a r₂ e₂ → r₁ ≡ r₂
fresh κs a r₁ r₂ e₁ e₂ p q = p ∙ sym q

pub number : (κs : _) (a : _) (r₁ r₂ : _) (e₁ e₂ : _) → number-promise.Learnt κs a r₁ e₁ → number-promise.Learnt κs a r₂ e₂ → r₁ ≡ r₂
number κs a r₁ r₂ e₁ e₂ p q = p.0 ∙ sym q.0

pub where_number_lem : (κs : _) (a : _) (r₁ r₂ : _) (e₁ e₂ : _) → where-number-promise.Learnt κs a r₁ e₁ → where-number-promise.Learnt κs a r₂ e₂ → r₁ ≡ r₂
where_number_lem κs a r₁ r₂ e₁ e₂ p q = p.0 ∙ sym q.0

pub next : (κs : _) (a : _) (r₁ r₂ : _) (e₁ e₂ : _) → next-promise.Learnt κs a r₁ e₁ → next-promise.Learnt κs a r₂ e₂
    → (r₁ ≡ r₂) × (e₁.0.now ≡ e₂.0.now) × (e₁.1.0.now ≡ e₂.1.0.now)
next κs a r₁ r₂ e₁ e₂ p q = same_found _ _ _ r₁ r₂ _ _ _ _ p q

pub record_in : (κs : _) (a : _) (r₁ r₂ : _) (e₁ e₂ : _) → record-in-promise.Learnt κs a r₁ e₁ → record-in-promise.Learnt κs a r₂ e₂ → r₁.now ≡ r₂.now
record_in κs a r₁ r₂ e₁ e₂ p q = p ∙ sym q
