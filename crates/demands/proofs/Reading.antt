-- What reading an event gives, whatever the bytes: 2, 3, 9 or 4, each where its own test applies and none before it does; or an event whose
-- fields are in range, where none of the four applies.
use Prim.Native.Nat.{ℕ, ◌+◌}
use mathlib.Core.Path.{◌≡◌, refl, ap}
use mathlib.Core.Bool.{Bool, true, false, cond, not, ◌&&◌, and-false}
use mathlib.Core.List.{List, [], ◌∷◌, map}
use mathlib.Core.Option.{Option, none, some}
use native.Mathlib.Omega.{arith}
use lib.Dec.{leb, eqb}
use lib.ListN.{length}
use Rattle.records.specs.declared.events.Event.{Event}
use Rattle.records.specs.Bytes.{number}
use Rattle.records.specs.Bodies.{Values, Found, bad_at, kind_in, body_of, size, values_at, numbers_at, all_fit, flat_fits}
use Rattle.records.specs.Tables.{Read, taken, refused, or_refuse, or_place, sized, listed, known, find, read_body, read_among, read_as, read, flat, fine}
use Rattle.records.specs.Laws.{missing}
use Rattle.records.specs.Events.{EventKind, event_row, event_kinds, event_of, events}
use Rattle.records.proofs.Places.{values_fit, wrong_misfits}
use Rattle.records.proofs.Tables.{event_lawful}
use Rattle.demands.specs.Demands.{wrong_length, no_kind, retired_kind, body_fits, bad_body}

pub data Reads (s : List ℕ) : Read Event → Type 0 where
  bad_length : wrong_length s ≡ true → Reads s (refused 2 0)
  no_kind_lem : wrong_length s ≡ false → no_kind s ≡ true → Reads s (refused 3 0)
  retired : wrong_length s ≡ false → no_kind s ≡ false → retired_kind s ≡ true → Reads s (refused 9 0)
  bad_body_lem : {place : ℕ} → wrong_length s ≡ false → no_kind s ≡ false → retired_kind s ≡ false → bad_body s ≡ true → Reads s (refused 4 place)
  is : {e : Event} → wrong_length s ≡ false → no_kind s ≡ false → retired_kind s ≡ false → bad_body s ≡ false → fine events e ≡ true → Reads s (taken e)

-- ---- 3: a number that no line has leads to no kind

finds : (n : ℕ) (ks : List EventKind) → missing n (map (λ k. (event_row k).number) ks) ≡ not (known events n ks)
finds n [] = refl
finds n (k ∷ ks) = at_first (eqb n (event_row k).number) (known events n ks) (finds n ks)
  where
    at_first : (b : Bool) {m : Bool} (o : Bool) → m ≡ not o → (not b && m) ≡ not (cond b true o)
    at_first true o rest = refl
    at_first false o rest = rest

-- ---- 4: a body that fits is read as its numbers

-- an event made of values that fit is in range
value_fine : (k : EventKind) (vs : Values (event_row k).letters) → all_fit (event_row k).letters vs ≡ true → fine events (event_of k vs) ≡ true
unfolding fine flat_fits
value_fine k vs fit =
    let same : all_fit (flat events (event_of k vs)).letters (flat events (event_of k vs)).values ≡ all_fit (event_row k).letters vs
    = ap (λ (kv : (k : EventKind) × Values (event_row k).letters). all_fit (event_row kv.0).letters kv.1) (event_lawful.together k vs fit) in
    rw (same, fit)

module _ (s : List ℕ) (lengthy : wrong_length s ≡ false) (current : retired_kind s ≡ false) where
  in_body : (k : EventKind) → known events (number 2 s 2) event_kinds ≡ true → find events (number 2 s 2) (length s) event_kinds ≡ some k → no_kind s ≡ false
      → Reads s (read_body events k s)
  unfolding read_body body_of bad_body body_fits
  in_body k there h kind = body (eqb (length s) (4 + size (event_row k).letters)) (values_at (event_row k).letters s 4) refl refl
    where
      numbers : Values (event_row k).letters
      numbers = numbers_at (event_row k).letters s 4

      tested : {a b : Bool} → eqb (length s) (4 + size (event_row k).letters) ≡ a → all_fit (event_row k).letters numbers ≡ b → bad_body s ≡ not (a && b)
      tested p q = rw (there, h, p, q)

      body : (a : Bool) (o : Found (Values (event_row k).letters)) → eqb (length s) (4 + size (event_row k).letters) ≡ a → values_at (event_row k).letters s 4 ≡ o
          → Reads s (or_place (cond a o (bad_at 2)) (λ vs. taken (event_of k vs)))
      body false o p q = bad_body_lem lengthy kind current (tested p refl)
      body true (bad_at place) p q = bad_body_lem lengthy kind current (tested p (wrong_misfits (event_row k).letters s 4 q))
      body true (Found.is vs) p q =
          let fit : (vs ≡ numbers) × (all_fit (event_row k).letters numbers ≡ true) = values_fit (event_row k).letters vs s 4 q in
          is lengthy kind current (tested p fit.1) (value_fine k vs (rw fit.0 fit.1))

  -- a size that no line of the number has
  in_size : (o : Option EventKind) → known events (number 2 s 2) event_kinds ≡ true → find events (number 2 s 2) (length s) event_kinds ≡ o → no_kind s ≡ false
      → Reads s (or_place (sized o) (λ k. read_body events k s))
  unfolding bad_body
  in_size none there h kind = bad_body_lem lengthy kind current (rw (there, h))
  in_size (some k) there h kind = in_body k there h kind

  in_kind : (b : Bool) → known events (number 2 s 2) event_kinds ≡ b
      → Reads s (cond b (or_place (sized (find events (number 2 s 2) (length s) event_kinds)) (λ k. read_body events k s)) (refused 3 0))
  unfolding no_kind retired_kind
  in_kind false h = no_kind_lem lengthy (rw (finds (number 2 s 2) event_kinds, h, current))
  in_kind true h = in_size (find events (number 2 s 2) (length s) event_kinds) h refl (rw (finds (number 2 s 2) event_kinds, h))

-- a retired number, or one of the kinds or none
in_use : (s : List ℕ) → wrong_length s ≡ false → (b : Bool) → listed (number 2 s 2) events.retired ≡ b → Reads s (cond b (refused 9 0) (read_among events event_kinds (number 2 s 2) s))
unfolding read_among no_kind retired_kind
in_use s lengthy true h = retired lengthy (rw (h, and-false)) (rw h)
in_use s lengthy false h = in_kind s lengthy (rw h) (known events (number 2 s 2) event_kinds) refl

pub reads : (s : List ℕ) → Reads s (read events s)
unfolding read read_as kind_in wrong_length
reads s = long (leb 4 (length s)) (eqb (number 2 s 0) (length s)) refl refl
  where
    tested : {a b : Bool} → leb 4 (length s) ≡ a → eqb (number 2 s 0) (length s) ≡ b → wrong_length s ≡ not (a && b)
    tested p q = rw (p, q)

    long : (a b : Bool) → leb 4 (length s) ≡ a → eqb (number 2 s 0) (length s) ≡ b
        → Reads s (or_refuse 2 (cond a (cond b (some (number 2 s 2)) none) none) (λ n. read_as events n s))
    long false b p q = bad_length (tested p q)
    long true false p q = bad_length (tested p q)
    long true true p q = in_use s (tested p q) (listed (number 2 s 2) events.retired) refl

-- ---- what follows

-- an event that was read is in range
pub read_fine : (s : List ℕ) (e : Event) → read events s ≡ taken e → fine events e ≡ true
read_fine s e h = in_range_lem (rw h at (reads s))
  where
    in_range_lem : Reads s (taken e) → fine events e ≡ true
    in_range_lem (is l k n b f) = f

-- no reader refuses with 0
pub refusal_number : (n place : ℕ) (s : List ℕ) → read events s ≡ refused n place → n ≡ 0 → ⊥
refusal_number n place s h = other (rw h at (reads s))
  where
    other : {m p : ℕ} → Reads s (refused m p) → m ≡ 0 → ⊥
    other (bad_length l) z = omega arith
    other (no_kind_lem l k) z = omega arith
    other (retired l k n) z = omega arith
    other (bad_body_lem l k n b) z = omega arith
