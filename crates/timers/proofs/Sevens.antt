-- A list of seven is its seven items.
use Rattle.std.proofs.Common.{◌≡◌, List, [], ◌∷◌, length, get_or, refl, arith, ◌∙◌}

pub seven_items : {A : Type 0} (d : A) (l : List A) → length l ≡ 7
    → l ≡ get_or l 0 d ∷ get_or l 1 d ∷ get_or l 2 d ∷ get_or l 3 d ∷ get_or l 4 d ∷ get_or l 5 d ∷ get_or l 6 d ∷ []
seven_items d [] e = absurd (omega (arith, e))
seven_items d (a ∷ []) e = absurd (omega (arith, e))
seven_items d (a ∷ b ∷ []) e = absurd (omega (arith, e))
seven_items d (a ∷ b ∷ c ∷ []) e = absurd (omega (arith, e))
seven_items d (a ∷ b ∷ c ∷ x ∷ []) e = absurd (omega (arith, e))
seven_items d (a ∷ b ∷ c ∷ x ∷ y ∷ []) e = absurd (omega (arith, e))
seven_items d (a ∷ b ∷ c ∷ x ∷ y ∷ z ∷ []) e = absurd (omega (arith, e))
seven_items d (a ∷ b ∷ c ∷ x ∷ y ∷ z ∷ w ∷ []) e = refl
seven_items d (a ∷ b ∷ c ∷ x ∷ y ∷ z ∷ w ∷ v ∷ l) e = absurd (omega (arith, e))

-- and so it is seven that are given
pub seven_are : {A : Type 0} (d : A) {l : List A} {a b c x y z w : A} → length l ≡ 7 → get_or l 0 d ≡ a → get_or l 1 d ≡ b → get_or l 2 d ≡ c
    → get_or l 3 d ≡ x → get_or l 4 d ≡ y → get_or l 5 d ≡ z → get_or l 6 d ≡ w → l ≡ a ∷ b ∷ c ∷ x ∷ y ∷ z ∷ w ∷ []
seven_are d {l} long e₀ e₁ e₂ e₃ e₄ e₅ e₆ = seven_items d l long ∙ rw (e₀, e₁, e₂, e₃, e₄, e₅, e₆)
