-- The promise of the step leaves no choice: two results that it allows are equal, and so are the buffers that they leave.
use Rattle.std.specs.Prelude.{ℕ, List, cond, eqb, Result, Ok, Err}
use mathlib.Core.Path.{◌≡◌, refl, sym, ◌∙◌, ap}
use Rattle.callcontrol.specs.declared.call.Call.{Call}
use Rattle.records.specs.declared.bodies.Unreadable.{Unreadable}
use Rattle.callcontrol.specs.declared.step.Refusal.{Refusal}
use Rattle.callcontrol.specs.declared.step.Stepped.{Stepped}
use Rattle.callcontrol.specs.Step.{Outcome, as_outcome}

-- the refusal that a number stands for, with its place: no two have the same
refusal_back : ℕ → ℕ → Refusal
refusal_back n place =
    cond (eqb n 1) Refusal.NotSound
    (cond (eqb n 2) (Refusal.Unreadable Unreadable.BadLength)
    (cond (eqb n 3) (Refusal.Unreadable Unreadable.UnknownKind)
    (cond (eqb n 4) (Refusal.Unreadable (Unreadable.BadBody place))
    (cond (eqb n 5) Refusal.OtherCall (cond (eqb n 6) Refusal.NoRow (cond (eqb n 7) Refusal.NoRoom (cond (eqb n 8) Refusal.OwnTransmission (Refusal.Unreadable Unreadable.Retired))))))))

-- what an outcome says of the code's result
back : Outcome → Result Stepped Refusal
back o = cond (eqb o.answer 0) (Ok (record { count = o.count; call = o.call })) (Err (refusal_back o.answer o.place))

same : (c : Call) (r : Result Stepped Refusal) (b : List ℕ) → back (as_outcome c r b) ≡ r
unfolding back refusal_back
same c (Ok r) b = refl
same c (Err Refusal.NotSound) b = refl
same c (Err (Refusal.Unreadable Unreadable.BadLength)) b = refl
same c (Err (Refusal.Unreadable Unreadable.UnknownKind)) b = refl
same c (Err (Refusal.Unreadable Unreadable.Retired)) b = refl
same c (Err (Refusal.Unreadable (Unreadable.BadBody place))) b = refl
same c (Err Refusal.OtherCall) b = refl
same c (Err Refusal.NoRow) b = refl
same c (Err Refusal.NoRoom) b = refl
same c (Err Refusal.OwnTransmission) b = refl

as_buffer : (c : Call) (r : Result Stepped Refusal) (b : List ℕ) → (as_outcome c r b).buffer ≡ b
as_buffer c (Ok r) b = refl
as_buffer c (Err e) b = refl

pub step : (c : Call) (o : Outcome) (r₁ r₂ : Result Stepped Refusal) (b₁ b₂ : List ℕ) → as_outcome c r₁ b₁ ≡ o → as_outcome c r₂ b₂ ≡ o → (r₁ ≡ r₂) × (b₁ ≡ b₂)
step c o r₁ r₂ b₁ b₂ e₁ e₂ = (
  sym (same c r₁ b₁) ∙ ap back (e₁ ∙ sym e₂) ∙ same c r₂ b₂,
  sym (as_buffer c r₁ b₁) ∙ ap (λ (w : Outcome). w.buffer) (e₁ ∙ sym e₂) ∙ as_buffer c r₂ b₂,
)
