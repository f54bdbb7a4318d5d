-- The places one after the other, and the values that each takes.
use Prim.Native.Nat.{ℕ, zero, suc, ◌+◌, ◌-◌, ◌%◌, ◌<◌}
use mathlib.Core.Path.{◌≡◌, refl, ◌∙◌}
use mathlib.Core.Bool.{Bool, true, false}
use mathlib.Core.List.{List, [], ◌∷◌}
use native.Mathlib.Nat.{le_of_suc-le-suc, not-suc-le-zero}
use native.Mathlib.Omega.{arith}
use borrow.Author.Tests.{eq-eqb, ne_eqb}
use lib.Dec.{ltb}
use lib.ListN.{length, get_or, set}
use lib.Seq.{get_or-set_other}
use Rattle.records.specs.Bodies.{Stored}
use Rattle.records.specs.Laws.{every}
use Rattle.records.proofs.Laws.{by_test, both, stored_none, stored_then}
use Rattle.small.specs.Entry.{spell, spelled, entry_bytes, entries}
use Rattle.small.specs.Places.{timer_at, values_for, Alike, place_bytes, places_from, runs_of, turned, turns, number_in}

-- a test that holds over a table holds at each entry
pub at_entry : (p : ℕ → Bool) (xs : List ℕ) → every p xs ≡ true → (k : ℕ) → k < length xs → p (get_or xs k 0) ≡ true
at_entry p [] t k h = absurd (not-suc-le-zero h)
at_entry p (x ∷ xs) t zero h = (both (p x) (every p xs) t).0
at_entry p (x ∷ xs) t (suc k) h = at_entry p xs (both (p x) (every p xs) t).1 k (le_of_suc-le-suc h)

pub entries_spell : (n : ℕ) → n < 22 → spelled (spell 4 (get_or entries n 0 % 0x10000)) ≡ true
unfolding spelled spell
entries_spell n h = at_entry (λ e. spelled (spell 4 (e % 0x10000))) entries refl n h

-- a place's own two values are stored over those of another
again : (t c u d : ℕ) (v : List ℕ) → set (set (set (set v 6 t) 7 c) 6 u) 7 d ≡ set (set v 6 u) 7 d
again t c u d [] = refl
again t c u d (v0 ∷ []) = refl
again t c u d (v0 ∷ v1 ∷ []) = refl
again t c u d (v0 ∷ v1 ∷ v2 ∷ []) = refl
again t c u d (v0 ∷ v1 ∷ v2 ∷ v3 ∷ []) = refl
again t c u d (v0 ∷ v1 ∷ v2 ∷ v3 ∷ v4 ∷ []) = refl
again t c u d (v0 ∷ v1 ∷ v2 ∷ v3 ∷ v4 ∷ v5 ∷ []) = refl
again t c u d (v0 ∷ v1 ∷ v2 ∷ v3 ∷ v4 ∷ v5 ∷ v6 ∷ []) = refl
again t c u d (v0 ∷ v1 ∷ v2 ∷ v3 ∷ v4 ∷ v5 ∷ v6 ∷ v7 ∷ vs) = refl

held : (t c : ℕ) (v : List ℕ) → get_or (set (set v 6 t) 7 c) 0 0 ≡ get_or v 0 0
held t c [] = refl
held t c (v0 ∷ vs) = refl

pub alike_set : (t c : ℕ) (v : List ℕ) → Alike (set (set v 6 t) 7 c) v
unfolding values_for
alike_set t c v =
    record { is = λ k. rw (held t c v) (again t c (timer_at (k % 9)) _ v) }

pub alike_refl : (v : List ℕ) → Alike v v
alike_refl v = record { is = λ k. refl }

pub alike_then : {u v w : List ℕ} → Alike u v → Alike v w → Alike u w
alike_then p q = record { is = λ k. p.is k ∙ q.is k }

pub no_place : {b : List ℕ} {at : ℕ} (k n : ℕ) (v : List ℕ) → n ≡ 0 → Stored b at (place_bytes k n v) at b
unfolding place_bytes
no_place k n v h = rw (eq-eqb n 0 h) stored_none

pub a_place : {old new : List ℕ} {at end : ℕ} (k n : ℕ) (v : List ℕ) → 0 < n → Stored old at (entry_bytes (get_or entries n 0) (values_for k v)) end new
    → Stored old at (place_bytes k n v) end new
unfolding place_bytes
a_place k n v h s = rw (ne_eqb n 0 (λ z. absurd (omega arith))) s

-- one place, and those after it
pub next_place : {old mid new : List ℕ} {at next end : ℕ} (k : ℕ) (f : ℕ → ℕ) (v w : List ℕ) → k < 18 → Alike v w
    → Stored old at (place_bytes k (f k) v) next mid → Stored mid next (places_from (18 - (k + 1)) (k + 1) f w) end new
    → Stored old at (places_from (18 - k) k f w) end new
unfolding places_from place_bytes
next_place k f v w h same p q =
    let left : 18 - k ≡ suc (18 - (k + 1)) = omega arith in
    let one : suc k ≡ k + 1 = omega arith in
    rw left (stored_then (rw (same.is k) at p) (rw one q))

-- a turn leaves the timers of later places as they were
pub later : (n code p k j : ℕ) (t : List Bool) → k < j → get_or (turned n code p k t) j false ≡ get_or t j false
unfolding turned
later n code p k j t h =
    by_test (ltb k 7)
    (λ e. rw e (get_or-set_other t k j (runs_of n code p (get_or t k false) k) false (λ z. absurd (omega arith))))
    (λ e. rw e refl)

-- one turn, and those after it
pub next_turn : (n code p k : ℕ) (t : List Bool) → k < 18 → turns n code p (18 - (k + 1)) (k + 1) (turned n code p k t) ≡ turns n code p (18 - k) k t
unfolding turns
next_turn n code p k t h =
    let left : 18 - k ≡ suc (18 - (k + 1)) = omega arith in
    let one : suc k ≡ k + 1 = omega arith in
    rw (left, ← one) refl

-- a place looks at its own timer alone
pub same_number : (n code value p k : ℕ) (t u : List Bool) → get_or t k false ≡ get_or u k false → number_in n code value p t k ≡ number_in n code value p u k
unfolding number_in
same_number n code value p k t u h = rw h refl
