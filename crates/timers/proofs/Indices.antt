-- The seven timers: their numbers and their indices.
use Rattle.std.proofs.Common.{◌≡◌, ℕ, zero, suc, ◌<◌, ◌≤◌, false, eqb, get_or, sym, refl, subst, arith, lit<, ne_eqb, eqb-true}
use borrow.Author.Tests.{eqb-false}
use Rattle.timers.specs.Due.{numbers}
use Rattle.timers.specs.Bank.{index_of}
use Rattle.timers.proofs.Tests.{decide}

-- what holds of each index holds of every index
pub by_index : (P : ℕ → Type 0) → P 0 → P 1 → P 2 → P 3 → P 4 → P 5 → P 6 → (p : ℕ) → p < 7 → P p
by_index P a b c d e f g zero h = a
by_index P a b c d e f g (suc zero) h = b
by_index P a b c d e f g (suc (suc zero)) h = c
by_index P a b c d e f g (suc (suc (suc zero))) h = d
by_index P a b c d e f g (suc (suc (suc (suc zero)))) h = e
by_index P a b c d e f g (suc (suc (suc (suc (suc zero))))) h = f
by_index P a b c d e f g (suc (suc (suc (suc (suc (suc zero)))))) h = g
by_index P a b c d e f g (suc (suc (suc (suc (suc (suc (suc p))))))) h = absurd (omega arith)

-- what holds of each timer's number, and of every other number, holds of every number
pub by_number_lem : (P : ℕ → Type 0) → P 301 → P 302 → P 303 → P 306 → P 308 → P 310 → P 311 → ((n : ℕ) → index_of n ≡ 7 → P n) → (n : ℕ) → P n
unfolding index_of
by_number_lem P a b c d e f g other n =
    decide (eqb n 301) (λ q. subst P (sym (eqb-true n 301 q)) a)
    (λ q1.
    decide (eqb n 302) (λ q. subst P (sym (eqb-true n 302 q)) b)
    (λ q2.
    decide (eqb n 303) (λ q. subst P (sym (eqb-true n 303 q)) c)
    (λ q3.
    decide (eqb n 306) (λ q. subst P (sym (eqb-true n 306 q)) d)
    (λ q4.
    decide (eqb n 308) (λ q. subst P (sym (eqb-true n 308 q)) e)
    (λ q5.
    decide (eqb n 310) (λ q. subst P (sym (eqb-true n 310 q)) f)
    (λ q6.
    decide (eqb n 311) (λ q. subst P (sym (eqb-true n 311 q)) g) (λ q7. other n (rw (q1, q2, q3, q4, q5, q6, q7)))))))))

-- a timer has the number at an index exactly where that is its index
pub same_timer : (q : ℕ) → q < 7 → (n : ℕ) → index_of n < 7 → eqb (get_or numbers q 0) n ≡ eqb q (index_of n)
unfolding index_of
same_timer q h n k = by_index (λ p. (n : ℕ) → index_of n < 7 → eqb (get_or numbers p 0) n ≡ eqb p (index_of n)) (row 0 refl refl refl refl refl refl refl) (row 1 refl refl refl refl refl refl refl) (row 2 refl refl refl refl refl refl refl) (row 3 refl refl refl refl refl refl refl) (row 4 refl refl refl refl refl refl refl) (row 5 refl refl refl refl refl refl refl) (row 6 refl refl refl refl refl refl refl) q h n k
  where
    row : (p : ℕ) → eqb (get_or numbers p 0) 301 ≡ eqb p 0 → eqb (get_or numbers p 0) 302 ≡ eqb p 1 → eqb (get_or numbers p 0) 303 ≡ eqb p 2
        → eqb (get_or numbers p 0) 306 ≡ eqb p 3 → eqb (get_or numbers p 0) 308 ≡ eqb p 4 → eqb (get_or numbers p 0) 310 ≡ eqb p 5
        → eqb (get_or numbers p 0) 311 ≡ eqb p 6 → (n : ℕ) → index_of n < 7 → eqb (get_or numbers p 0) n ≡ eqb p (index_of n)
    row p a b c d e f g =
        by_number_lem (λ n. index_of n < 7 → eqb (get_or numbers p 0) n ≡ eqb p (index_of n)) (λ h. a) (λ h. b) (λ h. c) (λ h. d) (λ h. e) (λ h. f) (λ h. g)
        (λ n e h. absurd (omega (arith, e)))

-- a number that no timer has stands at no index
pub other_timer : (q : ℕ) → q < 7 → (n : ℕ) → 7 ≤ index_of n → eqb (get_or numbers q 0) n ≡ false
unfolding index_of
other_timer q h n k =
    ne_eqb (get_or numbers q 0) n (λ e. let at : index_of (get_or numbers q 0) ≡ q = by_index (λ p. index_of (get_or numbers p 0) ≡ p) refl refl refl refl refl refl refl q h in
    let there : 7 ≤ index_of (get_or numbers q 0) = rw e k in omega (arith, at))

-- numbers rise with the indices
pub rising : (p q : ℕ) → p < q → q < 7 → get_or numbers p 0 < get_or numbers q 0
rising p zero h k = absurd (omega arith)
rising p (suc q) h k =
    let up : q < 6 → get_or numbers q 0 < get_or numbers (suc q) 0 =
    by_index (λ r. r < 6 → get_or numbers r 0 < get_or numbers (suc r) 0) (λ l. lit< tt) (λ l. lit< tt) (λ l. lit< tt) (λ l. lit< tt) (λ l. lit< tt)
    (λ l. lit< tt) (λ l. absurd (omega arith)) q (omega arith) in
    let step = up (omega arith) in
    decide (eqb p q) (λ e. rw (eqb-true p q e) step)
    (λ e. let under : p < q = omega (arith, eqb-false p q e) in let ih = rising p q under (omega arith) in omega (arith, ih, step))
