-- The letters of an entry, one after the other.
use Prim.Native.Nat.{ℕ, zero, suc, ◌+◌, ◌*◌, ◌/◌, ◌%◌, ◌<◌, ◌≤◌}
use mathlib.Core.Path.{◌≡◌, refl, ap, ◌∙◌}
use mathlib.Core.Bool.{Bool, true, false, cond}
use mathlib.Core.List.{List, [], ◌∷◌}
use native.Mathlib.Omega.{arith}
use borrow.Author.Tests.{eq-eqb, ne_eqb, ltb-true}
use lib.Dec.{eqb}
use lib.ListN.{length, length-append, get_or}
use lib.Seq.{length-sets}
use Rattle.records.specs.Bytes.{bytes}
use Rattle.records.specs.Bodies.{Stored}
use Rattle.records.proofs.Laws.{by_test, both, length-bytes, stored_then}
use Rattle.small.specs.Entry.{width_of, spell, spelled, body, entry_bytes}

abbrev power : ℕ → ℕ
power zero = 1
power (suc k) = 16 * power k

-- a digit more does no harm where there are no more
enough : (k n : ℕ) → n < power k → spell k n ≡ spell (suc k) n
unfolding spell
enough zero n h =
    let none : n ≡ 0 = omega arith in
    rw (eq-eqb n 0 none) refl
enough (suc k) n h = ap (λ (r : List ℕ). cond (eqb n 0) [] (n % 16 ∷ r)) (enough k (n / 16) (omega arith))

-- so many digits, the first taken off
first_of : (k n : ℕ) → n < power (suc k) → 0 < n → spell (suc k) n ≡ n % 16 ∷ spell (suc k) (n / 16)
unfolding spell
first_of k n h some =
    let rest : spell k (n / 16) ≡ spell (suc k) (n / 16) = enough k (n / 16) (omega arith) in
    rw (ne_eqb n 0 (λ z. absurd (omega arith))) (ap (λ (r : List ℕ). n % 16 ∷ r) rest)

pub first_of_eight : (n : ℕ) → n < 0x100000000 → 0 < n → spell 8 n ≡ n % 16 ∷ spell 8 (n / 16)
first_of_eight n h some = first_of 7 n h some

-- a message has four letters at most, an event five
pub four : (n : ℕ) → n < 0x10000 → spell 4 n ≡ spell 8 n
four n h = enough 4 n h ∙ enough 5 n (omega arith) ∙ enough 6 n (omega arith) ∙ enough 7 n (omega arith)

pub five : (n : ℕ) → n < 0x100000 → spell 5 n ≡ spell 8 n
five n h = enough 5 n h ∙ enough 6 n (omega arith) ∙ enough 7 n (omega arith)

pub no_letters : (k n : ℕ) → n ≡ 0 → spell k n ≡ []
unfolding spell
no_letters zero n h = refl
no_letters (suc k) n h = rw (eq-eqb n 0 h) refl

-- each is a digit
first_small : (k n : ℕ) → get_or (spell k n) 0 0 < 16
unfolding spell
first_small zero n = omega arith
first_small (suc k) n = by_test (eqb n 0) (λ z. rw z (omega arith)) (λ z. rw z (omega arith))

pub small_letter : (k n l : ℕ) (ls : List ℕ) → spell k n ≡ l ∷ ls → l < 16
small_letter k n l ls e =
    let first : get_or (spell k n) 0 0 ≡ l = ap (λ (xs : List ℕ). get_or xs 0 0) e in
    omega (arith, first, first_small k n)

-- each is a letter
pub a_letter : (l : ℕ) (ls : List ℕ) → spelled (l ∷ ls) ≡ true → (l < 10) × (spelled ls ≡ true)
unfolding spelled
a_letter l ls ok =
    let w = both _ _ ok in
    (ltb-true _ _ w.0, w.1)

-- a letter's bytes, and those of the rest
pub one_letter : {old mid new : List ℕ} {at next end : ℕ} (l : ℕ) (ls v : List ℕ)
    → Stored old at (bytes (width_of l) (get_or v l 0)) next mid → Stored mid next (body ls v) end new → Stored old at (body (l ∷ ls) v) end new
unfolding body
one_letter l ls v p q = stored_then p q

pub letter_length : (l : ℕ) (ls v : List ℕ) → length (body (l ∷ ls) v) ≡ width_of l + length (body ls v)
unfolding body
letter_length l ls v = length-append (bytes (width_of l) (get_or v l 0)) (body ls v) ∙ rw (length-bytes (width_of l) (get_or v l 0)) refl

-- they are few

width_small : (a b c d : Bool) → cond a 0 (cond b 2 (cond c 4 (cond d 2 1))) ≤ 4
width_small true b c d = omega arith
width_small false true c d = omega arith
width_small false false true d = omega arith
width_small false false false true = omega arith
width_small false false false false = omega arith

few : (b : Bool) (l k : ℕ) (rest v : List ℕ) → length (body rest v) ≤ 4 * k → length (body (cond b [] (l ∷ rest)) v) ≤ 4 * suc k
unfolding body width_of
few true l k rest v h = omega arith
few false l k rest v h =
    omega
    (arith, length-append (bytes (width_of l) (get_or v l 0)) (body rest v), length-bytes (width_of l) (get_or v l 0), width_small (eqb l 0) (eqb l 1) (eqb l 2) (eqb l 6))

pub body_small : (k n : ℕ) (v : List ℕ) → length (body (spell k n) v) ≤ 4 * k
unfolding body spell
body_small zero n v = omega arith
body_small (suc k) n v = few (eqb n 0) (n % 16) k (spell k (n / 16)) v (body_small k (n / 16) v)

pub entry_small : (n : ℕ) (v : List ℕ) → length (entry_bytes n v) ≤ 20
unfolding entry_bytes
entry_small n v =
    omega
    (arith, length-append (bytes 4 (n / 0x10000 % 16 + n / 0x100000 * 0x10000)) (body (spell 4 (n % 0x10000)) v), length-bytes 4 (n / 0x10000 % 16 + n / 0x100000 * 0x10000), body_small 4 (n % 0x10000) v)

pub same_room : {old new xs : List ℕ} {at end : ℕ} → Stored old at xs end new → length new ≡ length old
same_room {old} {new} {xs} {at} s = rw s.now (length-sets old at xs)
