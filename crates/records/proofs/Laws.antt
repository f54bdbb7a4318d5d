-- Laws that several proofs use: what a run of stores leaves, and how many bytes a record takes.
use Prim.Native.Nat.{ℕ, zero, suc, ◌+◌}
use mathlib.Core.Bool.{Bool, true, false, ◌&&◌}
use mathlib.Core.List.{List, [], ◌∷◌, ◌++◌}
use mathlib.Core.Path.{◌≡◌, refl, ◌∙◌, ap}
use native.Mathlib.Nat.{add-zero}
use native.Mathlib.Omega.{arith}
use lib.ListN.{length, set, length-append}
use lib.Seq.{sets}
use Rattle.records.specs.Bytes.{bytes}
use Rattle.records.specs.Letters.{Letter}
use Rattle.records.specs.Bodies.{Values, Flat, Stored, size, body_bytes, flat_bytes, flat_size}

-- a test, either way
pub by_test : {A : Type 0} (b : Bool) → (b ≡ true → A) → (b ≡ false → A) → A
by_test true met missed = met refl
by_test false met missed = missed refl

pub both : (a b : Bool) → (a && b) ≡ true → (a ≡ true) × (b ≡ true)
both true b h = (refl, h)
both false b h = (h, cc)

pub sets-append : (xs : List ℕ) (l ys : List ℕ) (i : ℕ) → sets l i (xs ++ ys) ≡ sets (sets l i xs) (i + length xs) ys
sets-append [] l ys i = rw add-zero
sets-append (x ∷ xs) l ys i =
    let e : suc i + length xs ≡ i + suc (length xs) = omega arith in sets-append xs (set l i x) ys (suc i) ∙ rw e

pub length-bytes : (n v : ℕ) → length (bytes n v) ≡ n
unfolding bytes
length-bytes zero v = refl
length-bytes (suc n) v = ap suc (length-bytes n _)

pub length-body_bytes : (ls : List Letter) (vs : Values ls) → length (body_bytes ls vs) ≡ size ls
unfolding body_bytes
length-body_bytes [] vs = refl
length-body_bytes (l ∷ ls) vs = rw (length-append, length-bytes, length-body_bytes ls vs.1)

pub length-flat_bytes : (f : Flat) → length (flat_bytes f) ≡ flat_size f
unfolding flat_bytes flat_size
length-flat_bytes f = simp (length-append, length-bytes, length-body_bytes) (omega arith)

pub stored_none : {l : List ℕ} {at : ℕ} → Stored l at [] at l
stored_none = record { end = omega arith; now = refl }

pub stored_then : {old mid new xs ys : List ℕ} {at mid_at next : ℕ}
    → Stored old at xs mid_at mid → Stored mid mid_at ys next new → Stored old at (xs ++ ys) next new
stored_then {old} {mid} {new} {xs} {ys} {at} p q =
    record { end = rw length-append (omega arith); now = rw (sets-append xs old ys at, ← p.now, ← p.end) q.now }
