-- What each kind of front says of the bytes, and that more bytes behind do not change a front that has ended.
use Prim.Native.Nat.{ℕ, ◌≤◌, ◌<◌}
use mathlib.Core.Path.{◌≡◌, refl, sym, ◌∙◌, ap}
use mathlib.Core.Bool.{Bool, true, false, cond, ◌&&◌}
use mathlib.Core.List.{List, ◌++◌}
use native.Mathlib.Omega.{arith}
use borrow.Author.Tests.{ltb-true, ltb-false, leb-true, leb-false, le-ltb, le-leb}
use lib.Dec.{leb, ltb}
use lib.ListN.{length, length-append, get_or-append}
use Rattle.pieces.specs.Stream.{Front, Unended, Whole, Impossible, length_field, possible, front}
use Rattle.pieces.specs.Next.{begun}

-- a whole record of n bytes
pub record Wholly (s : List ℕ) (n : ℕ) : Type 0 where
  pub least : 4 ≤ n
  pub most : n ≤ 64
  pub there : n ≤ length s
  pub says : n ≡ length_field s

-- ---- the three tests of a front

abbrev tests : Bool → Bool → Bool → ℕ → Front
tests short may there n = cond short Unended (cond may (cond there (Whole n) Unended) Impossible)

record Ended (short may there : Bool) (n m : ℕ) : Type 0 where
  long : short ≡ false
  may_be : may ≡ true
  is_there : there ≡ true
  same : m ≡ n

tests_whole : (short may there : Bool) (n m : ℕ) → tests short may there n ≡ Whole m → Ended short may there n m
tests_whole true may there n m e = absurd (let z : ◌≡◌ {A = ℕ} 0 1 = cc in omega arith)
tests_whole false false there n m e = absurd (let z : ◌≡◌ {A = ℕ} 0 1 = cc in omega arith)
tests_whole false true false n m e = absurd (let z : ◌≡◌ {A = ℕ} 0 1 = cc in omega arith)
tests_whole false true true n m e = record { long = refl; may_be = refl; is_there = refl; same = cc }

data Going (short may there : Bool) : Type 0 where
  brief : short ≡ true → Going short may there
  missing : may ≡ true → there ≡ false → Going short may there

tests_unended : (short may there : Bool) (n : ℕ) → tests short may there n ≡ Unended → Going short may there
tests_unended true may there n e = brief refl
tests_unended false false there n e = absurd (let z : ◌≡◌ {A = ℕ} 0 1 = cc in omega arith)
tests_unended false true false n e = missing refl refl
tests_unended false true true n e = absurd (let z : ◌≡◌ {A = ℕ} 0 1 = cc in omega arith)

tests_impossible : (short may there : Bool) (n : ℕ) → tests short may there n ≡ Impossible → (short ≡ false) × (may ≡ false)
tests_impossible true may there n e = absurd (let z : ◌≡◌ {A = ℕ} 0 1 = cc in omega arith)
tests_impossible false false there n e = (refl, refl)
tests_impossible false true false n e = absurd (let z : ◌≡◌ {A = ℕ} 0 1 = cc in omega arith)
tests_impossible false true true n e = absurd (let z : ◌≡◌ {A = ℕ} 0 1 = cc in omega arith)

both : (a b : Bool) → (a && b) ≡ true → (a ≡ true) × (b ≡ true)
both true b h = (refl, h)
both false b h = absurd (let z : ◌≡◌ {A = ℕ} 0 1 = cc in omega arith)

in_range_lem : (n : ℕ) → possible n ≡ true → (4 ≤ n) × (n ≤ 64)
in_range_lem n h = let b = both (leb 4 n) (leb n 64) h in (leb-true 4 n b.0, leb-true n 64 b.1)

-- ---- what a front says

module _ (s : List ℕ) where
  pub whole_is : {n : ℕ} → front s ≡ Whole n → Wholly s n
  unfolding front
  whole_is {n} e =
      let w = tests_whole (ltb (length s) 2) (possible (length_field s)) (leb (length_field s) (length s)) (length_field s) n e in
      let r = in_range_lem (length_field s) w.may_be in
      record {
        least = rw w.same r.0;
        most = rw w.same r.1;
        there = rw w.same (leb-true (length_field s) (length s) w.is_there);
        says = w.same;
      }

  pub whole_so : {n : ℕ} → Wholly s n → front s ≡ Whole n
  unfolding front
  whole_so {n} w =
      let long : 2 ≤ length s = omega (arith, w.least, w.there) in
      rw (le-ltb (length s) 2 long, ← w.says, le-leb 4 n w.least, le-leb n 64 w.most, le-leb n (length s) w.there)

  going_short : Going (ltb (length s) 2) (possible (length_field s)) (leb (length_field s) (length s)) → length s ≤ 63
  going_short (brief h) = omega (arith, ltb-true (length s) 2 h)
  going_short (missing may there) = omega (arith, (in_range_lem (length_field s) may).1, leb-false (length_field s) (length s) there)

  going_more : Going (ltb (length s) 2) (possible (length_field s)) (leb (length_field s) (length s)) → 2 ≤ length s → length s < length_field s
  going_more (brief h) two = absurd (omega (arith, ltb-true (length s) 2 h))
  going_more (missing may there) two = leb-false (length_field s) (length s) there

  -- a record that has not ended is shorter than the longest
  pub unended_short : front s ≡ Unended → length s ≤ 63
  unfolding front
  unended_short e = going_short (tests_unended _ _ _ (length_field s) e)

  -- and shorter than it says
  pub unended_more : front s ≡ Unended → 2 ≤ length s → length s < length_field s
  unfolding front
  unended_more e two = going_more (tests_unended _ _ _ (length_field s) e) two

  pub impossible_is : front s ≡ Impossible → (2 ≤ length s) × (possible (length_field s) ≡ false)
  unfolding front
  impossible_is e =
      let t = tests_impossible (ltb (length s) 2) (possible (length_field s)) (leb (length_field s) (length s)) (length_field s) e in
      (ltb-false (length s) 2 t.0, t.1)

  pub impossible_so : 2 ≤ length s → possible (length_field s) ≡ false → front s ≡ Impossible
  unfolding front
  impossible_so two wrong = rw (le-ltb (length s) 2 two, wrong)

-- ---- more bytes behind

module _ (s t : List ℕ) where
  pub same_length_field : 2 ≤ length s → length_field (s ++ t) ≡ length_field s
  same_length_field two = rw (get_or-append s t 0 0 (omega arith), get_or-append s t 0 1 (omega arith))

  pub whole_append : {n : ℕ} → front s ≡ Whole n → front (s ++ t) ≡ Whole n
  whole_append {n} e =
      let w = whole_is s e in
      let two : 2 ≤ length s = omega (arith, w.least, w.there) in
      whole_so (s ++ t)
      (record {
        least = w.least;
        most = w.most;
        there = omega (arith, w.there, length-append s t);
        says = w.says ∙ sym (same_length_field two);
      })

  pub impossible-append : front s ≡ Impossible → front (s ++ t) ≡ Impossible
  impossible-append e =
      let i = impossible_is s e in
      impossible_so (s ++ t) (omega (arith, i.0, length-append s t)) (ap possible (same_length_field i.0) ∙ i.1)

-- ---- with some bytes carried

begun_tests : (more : Bool) (n m : ℕ) → cond more (Whole n) Impossible ≡ Whole m → (more ≡ true) × (n ≡ m)
begun_tests true n m e = (refl, cc)
begun_tests false n m e = absurd (let z : ◌≡◌ {A = ℕ} 0 1 = cc in omega arith)

begun_never : (more : Bool) (n : ℕ) → cond more (Whole n) Impossible ≡ Unended → ⊥
begun_never true n e = let z : ◌≡◌ {A = ℕ} 0 1 = cc in omega arith
begun_never false n e = let z : ◌≡◌ {A = ℕ} 0 1 = cc in omega arith

pub begun_unended : (c : ℕ) (f : Front) → begun c f ≡ Unended → f ≡ Unended
begun_unended c Unended e = refl
begun_unended c (Whole n) e = absurd (begun_never (ltb c n) n e)
begun_unended c Impossible e = e

pub begun_whole : (c : ℕ) (f : Front) {m : ℕ} → begun c f ≡ Whole m → (f ≡ Whole m) × (c < m)
begun_whole c Unended e = absurd (let z : ◌≡◌ {A = ℕ} 0 1 = cc in omega arith)
begun_whole c (Whole n) {m} e = let t = begun_tests (ltb c n) n m e in (ap Whole t.1, omega (arith, ltb-true c n t.0, t.1))
begun_whole c Impossible e = absurd (let z : ◌≡◌ {A = ℕ} 0 1 = cc in omega arith)
