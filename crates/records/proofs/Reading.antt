-- A body read from left to right: the value at each letter, until one is wrong.
use Prim.Native.Nat.{ℕ, ◌+◌}
use mathlib.Core.List.{List, [], ◌∷◌, ◌++◌}
use mathlib.Core.Path.{◌≡◌, refl, sym, ◌∙◌}
use Rattle.records.specs.Letters.{Letter, width}
use Rattle.std.proofs.Common.{Result, Ok, Err}
use Rattle.std.specs.Result.{IsErrAnd}
use Rattle.records.specs.declared.bodies.Unreadable.{Unreadable}
use Rattle.records.specs.Bodies.{Values, Found, is, bad_at, and_then, value_at, values_at, field}

-- what a field holds, and where it is wrong

pub held_lem : {v : ℕ} (x : Found ℕ) → Ok v ≡ field x → is v ≡ x
held_lem (is w) e = cc
held_lem (bad_at p) e = cc

-- a refusal of a field, as that of the record
pub record Place (u : Unreadable) (x : Found ℕ) : Type 0 where
  pub place : ℕ
  pub bad : u ≡ Unreadable.BadBody place
  pub found : bad_at place ≡ x

pub place_lem : {u : Unreadable} (x : Found ℕ) → Err u ≡ field x → Place u x
place_lem (is w) e = cc
place_lem (bad_at p) e = record { place = p; bad = cc; found = refl }

-- letters from a position on that hold values
pub record Good (ls : List Letter) (s : List ℕ) (at : ℕ) (vs : Values ls) : Type 0 where
  pub held : is vs ≡ values_at ls s at

-- letters from a position on, of which the first wrong one is at a place
pub record Bad (ls : List Letter) (s : List ℕ) (at p : ℕ) : Type 0 where
  pub first : bad_at p ≡ values_at ls s at

-- and its refusal
pub record Refused (ls : List Letter) (s : List ℕ) (at : ℕ) (u : Unreadable) : Type 0 where
  pub place : ℕ
  pub said : u ≡ Unreadable.BadBody place
  pub bad : Bad ls s at place

pub end : {s : List ℕ} {at : ℕ} → Good [] s at tt
unfolding values_at
end = record { held = refl }

at_first : {l : Letter} {ls : List Letter} {s : List ℕ} {at : ℕ} {u : Unreadable} → Place u (value_at l s at) → Refused (l ∷ ls) s at u
unfolding values_at
at_first p = record { place = p.place; said = p.bad; bad = record { first = rw (← p.found) } }

module _ {l : Letter} {ls : List Letter} {s : List ℕ} {at : ℕ} {r : Result ℕ Unreadable} where
  -- one more letter that holds a value
  pub then : {v : ℕ} {vs : Values ls} → r ≡ Ok v → r ≡ field (value_at l s at) → Good ls s (at + width l) vs → Good (l ∷ ls) s at (v, vs)
  unfolding values_at
  then was e g = let h = held_lem (value_at l s at) (sym was ∙ e) in record { held = rw (← h, ← g.held) }

  -- a letter that is wrong
  pub wrong : {u : Unreadable} → r ≡ Err u → r ≡ field (value_at l s at) → Refused (l ∷ ls) s at u
  wrong was e = at_first (place_lem (value_at l s at) (sym was ∙ e))

  -- a letter that holds a value before the wrong one
  pub past : {v : ℕ} {u : Unreadable} → r ≡ Ok v → r ≡ field (value_at l s at) → Refused ls s (at + width l) u → Refused (l ∷ ls) s at u
  unfolding values_at
  past was e b =
      let h = held_lem (value_at l s at) (sym was ∙ e) in
      record { place = b.place; said = b.said; bad = record { first = rw (← h, ← b.bad.first) } }

-- ---- letters behind which there are more

after : {A B : Type 0} (v p : ℕ) (a : Found A) (b : Found B) → bad_at p ≡ and_then {B = ℕ × A} a (λ w. is (v, w)) → (bad_at p ≡ a → bad_at p ≡ b) → bad_at p ≡ and_then {B = ℕ × B} b (λ w. is (v, w))
after v p (is w) b e f = cc
after v p (bad_at q) b e f = let same : p ≡ q = cc in let h = f (rw same) in rw (← h)

further : {A B : Type 0} (p : ℕ) (x : Found ℕ) (a : Found A) (b : Found B) → bad_at p ≡ and_then {B = ℕ × A} x (λ v. and_then a (λ w. is (v, w))) → (bad_at p ≡ a → bad_at p ≡ b) → bad_at p ≡ and_then {B = ℕ × B} x (λ v. and_then b (λ w. is (v, w)))
further p (is v) a b e f = after v p a b e f
further p (bad_at q) a b e f = let same : p ≡ q = cc in rw same

wrong_among : (ls ms : List Letter) (s : List ℕ) (at p : ℕ) → bad_at p ≡ values_at ls s at → bad_at p ≡ values_at (ls ++ ms) s at
unfolding values_at
wrong_among [] ms s at p e = cc
wrong_among (l ∷ ls) ms s at p e = further p (value_at l s at) _ _ e (wrong_among ls ms s (at + width l) p)

-- what is wrong among some letters is wrong among them and more
pub wrong_too : {ls : List Letter} (ms : List Letter) {s : List ℕ} {at : ℕ} {u : Unreadable} → Refused ls s at u → Refused (ls ++ ms) s at u
wrong_too ms r = record { place = r.place; said = r.said; bad = record { first = wrong_among _ ms _ _ _ r.bad.first } }

-- ---- the exit of a `?`

abbrev pub Passes : {A : Type 0} → Unreadable → Result A Unreadable → Type 0
Passes u q = IsErrAnd q (λ v. v ≡ u)

pub passed : {A : Type 0} {u : Unreadable} (q : Result A Unreadable) → Passes u q → q ≡ Err u
passed (Ok v) e = absurd e
passed (Err v) e = rw e
