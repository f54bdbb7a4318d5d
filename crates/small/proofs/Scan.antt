-- The table as it is searched: its rows in the order of the events, and each orders something.
use Rattle.std.proofs.Common.{◌≡◌, refl, ◌∙◌, ℕ, zero, suc, ◌+◌, ◌/◌, ◌%◌, ◌≤◌, Bool, true, ◌&&◌, List, [], ◌∷◌, leb, ltb, find, drop, Option, Some, None, IfSome, arith}
use Rattle.std.specs.Option.{unwrap_or}
use borrow.Author.Tests.{ne_eqb, leb-true, ltb-true}
use Rattle.records.proofs.Laws.{both, by_test}
use Rattle.callcontrol.specs.declared.call.Call.{Call}
use Rattle.small.specs.declared.flat.Flat.{Flat}
use Rattle.small.specs.Line.{row_by, row_or, table_row}
use Rattle.small.specs.Table.{situation_of, facts_of, fits, first_of, rows}

-- the search as the library's, 0 for none
pub first_is : (s k : ℕ) (fs : List Bool) (ns : List ℕ) → first_of s k fs ns ≡ unwrap_or (find (fits s k fs) ns) 0
unfolding first_of
first_is s k fs [] = refl
first_is s k fs (n ∷ ns) = by_test (fits s k fs n) (λ t. rw t refl) (λ f. rw f (first_is s k fs ns))

-- no row is of an event that is above its place
unfoldable pub above : ℕ → List ℕ → Bool
above p [] = true
above p (n ∷ ns) = leb (n / 0x100000000000000 % 32) p && above (suc p) ns

-- so the search may begin at the place of the event's number
pub skipped : (s k : ℕ) (fs : List Bool) (p i : ℕ) (ns : List ℕ) → above p ns ≡ true → p + i ≤ k → find (fits s k fs) (drop i ns) ≡ find (fits s k fs) ns
unfolding above fits
skipped s k fs p zero ns t h = refl
skipped s k fs p (suc i) [] t h = refl
skipped s k fs p (suc i) (n ∷ ns) t h =
    let parts = both (leb (n / 0x100000000000000 % 32) p) (above (suc p) ns) t in
    let low : n / 0x100000000000000 % 32 ≤ p = leb-true _ _ parts.0 in
    rw (ne_eqb (n / 0x100000000000000 % 32) k (λ z. absurd (omega (arith, low)))) (skipped s k fs (suc p) i ns parts.1 (omega arith))

-- no row is 0
unfoldable pub each : (ℕ → Bool) → List ℕ → Bool
each q [] = true
each q (n ∷ ns) = q n && each q ns

among : (p q : ℕ → Bool) (ns : List ℕ) (o : Option ℕ) → each q ns ≡ true → o ≡ find p ns → IfSome o (λ n. q n ≡ true)
unfolding each
among p q [] o t h = rw h tt
among p q (n ∷ ns) o t h =
    let parts = both (q n) (each q ns) t in
    by_test (p n) (λ y. rw (h, y) parts.0) (λ z. among p q ns o parts.1 (h ∙ rw z refl))

every : (s k : ℕ) (fs : List Bool) → find (fits s k fs) (drop k rows) ≡ find (fits s k fs) rows
unfolding rows above
every s k fs = skipped s k fs 0 k rows refl (omega arith)

module _ (c : Call) (f : Flat) (s : ℕ) (fs : List Bool) (o : Option ℕ) (situation : s ≡ situation_of c) (facts : fs ≡ facts_of c f) (is : o ≡ find (fits s f.kind fs) (drop f.kind rows)) where
  found_is : first_of (situation_of c) f.kind (facts_of c f) rows ≡ unwrap_or o 0
  found_is = rw (is, situation, facts) (first_is (situation_of c) f.kind (facts_of c f) rows ∙ rw (every (situation_of c) f.kind (facts_of c f)) refl)

  more : IfSome o (λ n. ltb 0 n ≡ true)
  unfolding rows each
  more = among (fits s f.kind fs) (λ n. ltb 0 n) rows o refl (is ∙ every s f.kind fs)

  pub no_row_fits : o ≡ None → None ≡ table_row c f
  unfolding table_row row_or
  no_row_fits h = rw (found_is, h) refl

  pub row_fits : (n : ℕ) → o ≡ Some n → Some (row_by n c f) ≡ table_row c f
  unfolding table_row row_or
  row_fits n h = rw (found_is, h, ne_eqb n 0 (λ z. absurd (omega (arith, z, ltb-true 0 n (rw h at more))))) refl
