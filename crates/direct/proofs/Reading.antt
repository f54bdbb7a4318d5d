-- What reading by a table gives, whatever the bytes: 2, 3 or 4, each where its own test applies and none below it does; or a value whose
-- fields are in range, where none of the three applies. For any lawful table that has retired no kind and whose values need nothing beyond their letters'
-- ranges.
use Prim.Native.Nat.{ℕ}
use mathlib.Core.Path.{◌≡◌, refl, ap}
use mathlib.Core.Bool.{Bool, true, false, cond, not, ◌&&◌}
use mathlib.Core.List.{List, [], ◌∷◌, map}
use mathlib.Core.Option.{Option, none, some}
use native.Mathlib.Omega.{arith}
use borrow.Author.Tests.{eq-eqb}
use lib.Dec.{leb, eqb}
use lib.ListN.{length}
use Rattle.records.specs.Bytes.{number}
use Rattle.records.specs.Bodies.{Values, Found, bad_at, kind_in, body_of, values_at, numbers_at, all_fit, flat_fits}
use Rattle.records.specs.Tables.{Table, Read, taken, refused, or_refuse, or_place, sized, listed, known, find, read_body, read_among, read_as, read, flat, fine}
use Rattle.records.specs.Laws.{Lawful, missing}
use Rattle.records.proofs.Places.{values_fit, wrong_misfits}
use Rattle.records.proofs.RoundTrip.{found_size}
use Rattle.direct.specs.Demands.{wrong_length, no_kind, body_fits, bad_body}

pub data Reads (t : Table) (s : List ℕ) : Read t.Value → Type 0 where
  bad_length : wrong_length s ≡ true → Reads t s (refused 2 0)
  no_kind_lem : wrong_length s ≡ false → no_kind t s ≡ true → Reads t s (refused 3 0)
  bad_body_lem : {place : ℕ} → wrong_length s ≡ false → no_kind t s ≡ false → bad_body t s ≡ true → Reads t s (refused 4 place)
  is : {v : t.Value} → wrong_length s ≡ false → no_kind t s ≡ false → bad_body t s ≡ false → fine t v ≡ true → Reads t s (taken v)

module _ (t : Table) (lawful : Lawful t) (agree : (v : t.Value) → t.agrees v ≡ true) (none_retired : (n : ℕ) → listed n t.retired ≡ false) where
  -- ---- 3: a number that no line has leads to no kind

  finds : (n : ℕ) (ks : List t.Kind) → missing n (map (λ k. (t.row_of k).number) ks) ≡ not (known t n ks)
  finds n [] = refl
  finds n (k ∷ ks) = at_first (eqb n (t.row_of k).number) (known t n ks) (finds n ks)
    where
      at_first : (b : Bool) {m : Bool} (o : Bool) → m ≡ not o → (not b && m) ≡ not (cond b true o)
      at_first true o rest = refl
      at_first false o rest = rest

  -- ---- 4: a body that fits is read as its numbers

  -- a value made of values that fit is in range
  value_fine : (k : t.Kind) (vs : Values (t.row_of k).letters) → all_fit (t.row_of k).letters vs ≡ true → fine t (t.value_of k vs) ≡ true
  unfolding fine flat_fits
  value_fine k vs fit =
      let same : all_fit (flat t (t.value_of k vs)).letters (flat t (t.value_of k vs)).values ≡ all_fit (t.row_of k).letters vs
      = ap (λ (kv : (k : t.Kind) × Values (t.row_of k).letters). all_fit (t.row_of kv.0).letters kv.1) (lawful.together k vs fit) in
      rw (same, fit, agree (t.value_of k vs))

  module _ (s : List ℕ) (lengthy : wrong_length s ≡ false) where
    in_body : (k : t.Kind) → known t (number 2 s 2) t.kinds ≡ true → find t (number 2 s 2) (length s) t.kinds ≡ some k → no_kind t s ≡ false
        → Reads t s (read_body t k s)
    unfolding read_body body_of bad_body body_fits
    in_body k there h kind = rw (eq-eqb _ _ (found_size t lawful _ (length s) t.kinds k h)) (body (values_at (t.row_of k).letters s 4) refl)
      where
        numbers : Values (t.row_of k).letters
        numbers = numbers_at (t.row_of k).letters s 4

        tested : {b : Bool} → all_fit (t.row_of k).letters numbers ≡ b → bad_body t s ≡ not b
        tested q = rw (there, h, q)

        body : (o : Found (Values (t.row_of k).letters)) → values_at (t.row_of k).letters s 4 ≡ o
            → Reads t s (or_place o (λ vs. cond (t.agrees (t.value_of k vs)) (taken (t.value_of k vs)) (refused 4 t.clash)))
        body (bad_at place) q = bad_body_lem lengthy kind (tested (wrong_misfits (t.row_of k).letters s 4 q))
        body (Found.is vs) q =
            let fit : (vs ≡ numbers) × (all_fit (t.row_of k).letters numbers ≡ true) = values_fit (t.row_of k).letters vs s 4 q in
            rw (agree (t.value_of k vs)) (is lengthy kind (tested fit.1) (value_fine k vs (rw fit.0 fit.1)))

    -- a size that no line of the number has
    in_size : (o : Option t.Kind) → known t (number 2 s 2) t.kinds ≡ true → find t (number 2 s 2) (length s) t.kinds ≡ o → no_kind t s ≡ false
        → Reads t s (or_place (sized o) (λ k. read_body t k s))
    unfolding bad_body
    in_size none there h kind = bad_body_lem lengthy kind (rw (there, h))
    in_size (some k) there h kind = in_body k there h kind

    in_kind : (b : Bool) → known t (number 2 s 2) t.kinds ≡ b
        → Reads t s (cond b (or_place (sized (find t (number 2 s 2) (length s) t.kinds)) (λ k. read_body t k s)) (refused 3 0))
    unfolding no_kind
    in_kind false h = no_kind_lem lengthy (rw h at (finds (number 2 s 2) t.kinds))
    in_kind true h = in_size (find t (number 2 s 2) (length s) t.kinds) h refl (rw h at (finds (number 2 s 2) t.kinds))

  pub reads : (s : List ℕ) → Reads t s (read t s)
  unfolding read read_as read_among kind_in wrong_length
  reads s = long (leb 4 (length s)) (eqb (number 2 s 0) (length s)) refl refl
    where
      tested : {a b : Bool} → leb 4 (length s) ≡ a → eqb (number 2 s 0) (length s) ≡ b → wrong_length s ≡ not (a && b)
      tested p q = rw (p, q)

      long : (a b : Bool) → leb 4 (length s) ≡ a → eqb (number 2 s 0) (length s) ≡ b
          → Reads t s (or_refuse 2 (cond a (cond b (some (number 2 s 2)) none) none) (λ n. read_as t n s))
      long false b p q = bad_length (tested p q)
      long true false p q = bad_length (tested p q)
      long true true p q = rw (none_retired (number 2 s 2)) (in_kind s (tested p q) (known t (number 2 s 2) t.kinds) refl)

  -- ---- what follows

  -- a value that was read is in range
  pub read_fine : (s : List ℕ) (v : t.Value) → read t s ≡ taken v → fine t v ≡ true
  read_fine s v h = in_range_lem (rw h at (reads s))
    where
      in_range_lem : Reads t s (taken v) → fine t v ≡ true
      in_range_lem (is l k b f) = f

  -- no reader refuses with another number than 2, 3 and 4
  pub refusal_number : (n place : ℕ) (s : List ℕ) → read t s ≡ refused n place → (n ≡ 0 → ⊥) × (n ≡ 7 → ⊥)
  refusal_number n place s h = other (rw h at (reads s))
    where
      other : {m p : ℕ} → Reads t s (refused m p) → (m ≡ 0 → ⊥) × (m ≡ 7 → ⊥)
      other (bad_length l) = (λ z. omega arith, λ z. omega arith)
      other (no_kind_lem l k) = (λ z. omega arith, λ z. omega arith)
      other (bad_body_lem l k b) = (λ z. omega arith, λ z. omega arith)
