-- A value where a test of some bytes is true, and none where it is not.
use mathlib.Core.Path.{◌≡◌, refl}
use mathlib.Core.Bool.{Bool, true, false, cond}
use Rattle.std.specs.Prelude.{Some, None}

pub some_by_test : (t : Bool) {A : Type 0} {x y : A} → Some y ≡ cond t (Some x) None → (t ≡ true) × (x ≡ y)
some_by_test true e = (refl, cc)
some_by_test false e = absurd cc

pub none_by_test : (t : Bool) {A : Type 0} (x : A) → None ≡ cond t (Some x) None → t ≡ false
none_by_test true x e = absurd cc
none_by_test false x e = refl
