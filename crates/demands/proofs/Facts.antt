-- Small facts about Booleans and choices, each written once.
use Prim.Native.Nat.{ℕ}
use mathlib.Core.Path.{◌≡◌, refl}
use mathlib.Core.Bool.{Bool, true, false, cond, not, ◌&&◌, ◌||◌}
use native.Mathlib.Omega.{arith}

-- true is not false
pub apart : {A : Type 0} {b : Bool} → b ≡ true → b ≡ false → A
apart p q = absurd (let z : ◌≡◌ {A = ℕ} 0 1 = cc in omega arith)

-- an and is both of its sides
pub and : (a b : Bool) → a ≡ true → b ≡ true → (a && b) ≡ true
and true b p q = q
and false b p q = p

pub left : (a b : Bool) → (a && b) ≡ true → a ≡ true
left true b h = refl
left false b h = h

pub right : (a b : Bool) → (a && b) ≡ true → b ≡ true
right true b h = h
right false b h = apart h refl

-- an or is the one side where it is not the other
pub first : (a b : Bool) → (a || b) ≡ true → b ≡ false → a ≡ true
first true b h e = refl
first false b h e = apart h e

pub second : (a b : Bool) → (a || b) ≡ true → a ≡ false → b ≡ true
second true b h e = apart refl e
second false b h e = h

pub is_not : (b : Bool) → not b ≡ true → b ≡ false
is_not true h = apart h refl
is_not false h = refl

-- what holds of both sides of a choice holds of it
pub either : {A : Type 0} (P : A → Type 0) (b : Bool) {x y : A} → P x → P y → P (cond b x y)
either P true p q = p
either P false p q = q
