-- Slots that hold no more than each may, and one letter after the other into them.
use Prim.Native.Nat.{ℕ, zero, suc, ◌+◌, ◌-◌, ◌%◌, ◌<◌, ◌≤◌}
use mathlib.Core.Path.{◌≡◌, refl}
use mathlib.Core.Bool.{◌&&◌}
use mathlib.Core.List.{List, [], ◌∷◌}
use native.Mathlib.Omega.{arith}
use borrow.Author.Tests.{le-leb, lt-leb, ltb-true, leb-true, eqb-true}
use lib.Dec.{leb, ltb, eqb}
use lib.ListN.{get_or, set}
use Rattle.records.specs.Bytes.{number}
use Rattle.records.specs.Letters.{within}
use Rattle.records.specs.Bodies.{Found, is, bad_at}
use Rattle.records.proofs.Laws.{both}
use Rattle.small.proofs.Places.{at_entry}
use Rattle.small.specs.Reading.{letters, width_in, least_in, most_in, slot_in, fill_by, fill, total, caps, Under}

pub under_at : (vs cs : List ℕ) → Under vs cs → (j : ℕ) → get_or vs j 0 ≤ get_or cs j 0
under_at [] cs u j = omega arith
under_at (v ∷ vs) [] u j = absurd u
under_at (v ∷ vs) (c ∷ cs) u zero = u.0
under_at (v ∷ vs) (c ∷ cs) u (suc j) = under_at vs cs u.1 j

pub under_set : (vs cs : List ℕ) → Under vs cs → (i x : ℕ) → x ≤ get_or cs i 0 → Under (set vs i x) cs
under_set [] cs u i x h = tt
under_set (v ∷ vs) [] u i x h = absurd u
under_set (v ∷ vs) (c ∷ cs) u zero x h = (h, u.1)
under_set (v ∷ vs) (c ∷ cs) u (suc i) x h = (u.0, under_set vs cs u.1 i x h)

-- each letter takes one, two or four bytes, and its slot has room for it
pub record Letter (e : ℕ) : Type 0 where
  pub some : 0 < width_in e
  pub few : width_in e ≤ 4
  pub even : (width_in e - 2) % 2 ≡ 0
  pub room : most_in e ≤ get_or caps (slot_in e) 0
  pub place : slot_in e < 9

pub a_letter : (k : ℕ) → k < 16 → Letter (get_or letters k 0)
a_letter k h =
    let t = at_entry (λ e. ltb 0 (width_in e) && (leb (width_in e) 4 && (eqb ((width_in e - 2) % 2) 0 && (leb (most_in e) (get_or caps (slot_in e) 0) && ltb (slot_in e) 9)))) letters refl k h in
    let a = both _ _ t in
    let b = both _ _ a.1 in
    let d = both _ _ b.1 in
    let f = both _ _ d.1 in
    record { some = ltb-true _ _ a.0; few = leb-true _ _ b.0; even = eqb-true _ _ d.0; room = leb-true _ _ f.0; place = ltb-true _ _ f.1 }

-- the first letter, and the rest

pub total_first : (l : ℕ) (ls : List ℕ) → total (l ∷ ls) ≡ width_in (get_or letters l 0) + total ls
unfolding total
total_first l ls = refl

pub filled_first : (l : ℕ) (ls v s : List ℕ) (at : ℕ) → fill_by (get_or letters l 0) v s at (λ w next. fill ls w s next) ≡ fill (l ∷ ls) v s at
unfolding fill
filled_first l ls v s at = refl

pub none_to_fill : (ls v s : List ℕ) (at : ℕ) → ls ≡ [] → fill ls v s at ≡ is v
unfolding fill
none_to_fill ls v s at h = rw h refl

module _ (e : ℕ) (v s : List ℕ) (at x : ℕ) (rest : List ℕ → ℕ → Found (List ℕ)) (value : x ≡ number (width_in e) s at) where
  pub too_low : x < least_in e → bad_at at ≡ fill_by e v s at rest
  unfolding fill_by within
  too_low low = rw (← value, lt-leb _ _ low) refl

  pub too_high : least_in e ≤ x → most_in e < x → bad_at at ≡ fill_by e v s at rest
  unfolding fill_by within
  too_high low high = rw (← value, le-leb _ _ low, lt-leb _ _ high) refl

  pub in_range_lem : least_in e ≤ x → x ≤ most_in e → fill_by e v s at rest ≡ rest (set v (slot_in e) x) (at + width_in e)
  unfolding fill_by within
  in_range_lem low high = rw (← value, le-leb _ _ low, le-leb _ _ high) refl
