-- A record is no longer than its size says, and a copy of it stands at the front of the buffer.
use Prim.Native.Nat.{ℕ, zero, suc, ◌+◌, ◌*◌, ◌≤◌, ◌<◌}
use mathlib.Core.Path.{◌≡◌, refl, sym, ◌∙◌, ap}
use mathlib.Core.Bool.{Bool, true, false, cond}
use mathlib.Core.List.{List, [], ◌∷◌, ◌++◌}
use native.Mathlib.Omega.{arith}
use borrow.Author.Tests.{lt-ltb, le-ltb}
use Rattle.std.specs.Prelude.{Option}
use lib.Dec.{eqb}
use lib.ListN.{length, take, drop}
use lib.Seq.{sets, sets-eq}
use Rattle.pieces.specs.declared.reader.Where.{Where}
use Rattle.pieces.specs.Next.{where_number, size_handed, record_in}
use Rattle.host_test.specs.Record.{ANSWER, handed, copied, record_copied}

length_taken : (n : ℕ) (l : List ℕ) → length (take n l) ≤ n
length_taken zero l = omega arith
length_taken (suc n) [] = omega arith
length_taken (suc n) (x ∷ l) = let h = length_taken n l in omega arith

either : (b : Bool) (n : ℕ) (x y : List ℕ) → length x ≤ n → length y ≤ n → length (cond b x y) ≤ n
either true n x y p q = p
either false n x y p q = q

record_size : (lies size : ℕ) (carry piece : List ℕ) → length (record_in lies size carry piece) ≤ size
record_size lies size carry piece =
    either (eqb lies 1) size _ _ (length_taken size carry) (either (eqb lies 2) size _ [] (length_taken size piece) (omega arith))

too_short : (r out : List ℕ) → length out < length r → (7 * ANSWER, out) ≡ copied r out
too_short r out lt = rw (lt-ltb (length out) (length r) lt)

fits : (r out : List ℕ) {after : List ℕ} → length r ≤ length out → after ≡ r ++ drop (length r) out → (length r, after) ≡ copied r out
fits r out {after} le all =
    let zero_more : 0 + length r ≡ length r = omega arith in
    let stored : sets out 0 r ≡ r ++ drop (length r) out = sets-eq r out 0 (omega arith) ∙ ap (λ (n : ℕ). take 0 out ++ r ++ drop n out) zero_more in
    rw (le-ltb (length out) (length r) le) (ap (λ (z : List ℕ). (length r, z)) (all ∙ sym stored))

-- its size is the one asked for, where there is a record
sized : (lies size : ℕ) (carry piece : List ℕ)
    → record_in (where_number (handed lies size)) (size_handed (handed lies size)) carry piece ≡ record_in (where_number (handed lies size)) size carry piece
sized zero size carry piece = refl
sized (suc zero) size carry piece = refl
sized (suc (suc zero)) size carry piece = refl
sized (suc (suc (suc n))) size carry piece = refl

-- as the code has them: where it lies and its size, and the record as the part that was given back
module _
    (lies size : ℕ) (carry piece out : List ℕ) {p : Option Where} {r : List ℕ} (is : p ≡ handed lies size)
    (held : r ≡ record_in (where_number p) (size_handed p) carry piece) where
  record_is : r ≡ record_in (where_number (handed lies size)) size carry piece
  record_is = held ∙ ap (λ (q : Option Where). record_in (where_number q) (size_handed q) carry piece) is ∙ sized lies size carry piece

  whole : copied r out ≡ record_copied lies size carry piece out
  unfolding record_copied
  whole = ap (λ (z : List ℕ). copied z out) record_is

  pub few : length r ≤ size
  few = rw record_is (record_size (where_number (handed lies size)) size carry piece)

  pub no_room : length out < length r → (7 * ANSWER, out) ≡ record_copied lies size carry piece out
  no_room lt = too_short r out lt ∙ whole

  pub copies : {after : List ℕ} → length r ≤ length out → after ≡ r ++ drop (length r) out → (length r, after) ≡ record_copied lies size carry piece out
  copies le is-copy = fits r out le is-copy ∙ whole
