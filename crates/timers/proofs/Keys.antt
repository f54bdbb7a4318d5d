-- Taking the greatest key below a bound again and again gives each key once, the greatest first.
use Rattle.std.specs.Prelude.{count_by}
use Rattle.timers.proofs.Sevens.{seven_items}
use Rattle.std.proofs.Common.{◌≡◌, ℕ, zero, suc, true, false, not, Bool, get_or, length, arith, ◌+◌, ◌<◌, ◌≤◌, max, cond, eqb, ltb, List, [], ◌∷◌, map, sym, refl, ap, ◌∙◌, subst, zero-le, ltb-false, ltb-true, le-ltb, lt-ltb, ne_eqb, eqb-true}
use Rattle.timers.specs.Due.{under, greater, one_if, count_of, below, number_of, handed}
use Rattle.timers.proofs.Tests.{by_test, decide, All, weaken}

-- the greatest of a key, where it is below a bound, and of one more
greatest_cases : (b m x : ℕ) (P : ℕ → Type 0) → (b ≤ x → P m) → (x < b → m < x → P x) → (x < b → x ≤ m → P m) → P (greater (under b x) m)
unfolding greater under
greatest_cases b m x P f g h =
    decide (ltb x b)
    (λ q.
    let low : x < b = ltb-true x b q in
    rw q
    (by_test (ltb x m) m x P (λ r. let less = ltb-true x m r in h low (omega arith))
    (λ r.
    let least : m ≤ x = ltb-false x m r in
    decide (ltb m x) (λ k. g low (ltb-true m x k))
    (λ k. let same : m ≡ x = (let most = ltb-false m x k in omega arith) in subst P same (h low (omega arith))))))
    (λ q.
    let high : b ≤ x = ltb-false x b q in
    rw q
    (by_test (ltb 0 m) m 0 P (λ r. f high) (λ r. let none : m ≡ 0 = (let least = ltb-false 0 m r in omega arith) in subst P none (f high))))

-- ---- the greatest, by pairs or one after the other

pub greater_is : (a b : ℕ) → greater a b ≡ max a b
unfolding greater
greater_is a b =
    decide (ltb a b) (λ q. let less = ltb-true a b q in rw q (omega arith)) (λ q. let least = ltb-false a b q in rw q (omega arith))

by_threes : (a b c : ℕ) → max (max a b) c ≡ max a (max b c)
by_threes a b c = omega arith

with_none : (a : ℕ) → max a 0 ≡ a
with_none a = omega arith

-- the greatest key below a bound, of any number of keys
abbrev pub most : ℕ → List ℕ → ℕ
most b [] = 0
most b (x ∷ xs) = greater (under b x) (most b xs)

-- what the keys below a bound weigh
abbrev pub sum : (ℕ → ℕ) → ℕ → List ℕ → ℕ
sum w b [] = 0
sum w b (x ∷ xs) = cond (ltb x b) (w x) 0 + sum w b xs

-- what all of them weigh
abbrev pub total : (ℕ → ℕ) → List ℕ → ℕ
total w [] = 0
total w (x ∷ xs) = w x + total w xs

-- no two are equal but 0
abbrev pub Distinct : List ℕ → Type 0
Distinct [] = Unit {0}
Distinct (x ∷ xs) = All (λ y. x ≡ y → x ≡ 0) xs × Distinct xs

most_small : (b : ℕ) (xs : List ℕ) → most b xs ≤ b
most_small b [] = zero-le
most_small b (x ∷ xs) =
    greatest_cases b (most b xs) x (λ r. r ≤ b) (λ h. most_small b xs) (λ h k. omega arith) (λ h k. most_small b xs)

most_under : (b : ℕ) (xs : List ℕ) → 0 < most b xs → most b xs < b
most_under b [] = λ h. absurd (omega arith)
most_under b (x ∷ xs) =
    greatest_cases b (most b xs) x (λ r. 0 < r → r < b) (λ h. most_under b xs) (λ h k p. h) (λ h k. most_under b xs)

-- what holds of 0 and of each key holds of the greatest below a bound
one_of : (P : ℕ → Type 0) (b : ℕ) (xs : List ℕ) → P 0 → All P xs → P (most b xs)
one_of P b [] z a = z
one_of P b (x ∷ xs) z a =
    greatest_cases b (most b xs) x P (λ h. one_of P b xs z a.1) (λ h k. a.0) (λ h k. one_of P b xs z a.1)

both_low : (b m x c : ℕ) → greater (under b x) m < c → (m < c) × (x < b → x < c)
both_low b m x c =
    greatest_cases b m x (λ r. r < c → (m < c) × (x < b → x < c)) (λ h k. (k, λ p. absurd (omega arith))) (λ h k l. (omega arith, λ p. l))
    (λ h k l. (l, λ p. omega arith))

head_same : (v x b c : ℕ) → (x < b → x < c) → c ≤ b → cond (ltb x b) v 0 ≡ cond (ltb x c) v 0
head_same v x b c f h =
    decide (ltb x b) (λ q. rw (q, lt-ltb x c (f (ltb-true x b q))))
    (λ q. let k : b ≤ x = ltb-false x b q in rw (q, le-ltb x c (omega arith)))

sum_same : (w : ℕ → ℕ) (xs : List ℕ) (b c : ℕ) → most b xs < c → c ≤ b → sum w b xs ≡ sum w c xs
sum_same w [] b c h k = refl
sum_same w (x ∷ xs) b c h k =
    let l = both_low b (most b xs) x c h in
    rw (head_same (w x) x b c l.1 k, sum_same w xs b c l.0 k)

pub sum_none : (w : ℕ → ℕ) (xs : List ℕ) → sum w 0 xs ≡ 0
sum_none w [] = refl
sum_none w (x ∷ xs) = rw (le-ltb x 0 zero-le, sum_none w xs)

-- the greatest key below a bound, and those below it
split : (w : ℕ → ℕ) → w 0 ≡ 0 → (b : ℕ) (xs : List ℕ) → Distinct xs → sum w b xs ≡ w (most b xs) + sum w (most b xs) xs
split w z b [] d = omega (arith, z)
split w z b (x ∷ xs) d =
    let m = most b xs in
    let ih = split w z b xs d.1 in
    let small = most_small b xs in
    let apart : x ≡ m → x ≡ 0 = one_of (λ y. x ≡ y → x ≡ 0) b xs (λ e. e) d.0 in
    greatest_cases b m x (λ r. cond (ltb x b) (w x) 0 + sum w b xs ≡ w r + (cond (ltb x r) (w x) 0 + sum w r xs))
    (λ h. rw (le-ltb x b h, le-ltb x m (omega arith)) (omega (arith, ih)))
    (λ h k. rw (lt-ltb x b h, le-ltb x x (omega arith), sum_same w xs b x k (omega arith)) (omega arith))
    (λ h k.
    decide (ltb x m) (λ q. rw (lt-ltb x b h, q) (omega (arith, ih)))
    (λ q.
    let same : m ≤ x = ltb-false x m q in
    let nothing : w x ≡ 0 = ap w (apart (omega arith)) ∙ z in
    rw (lt-ltb x b h, q) (omega (arith, ih, nothing))))

one_zero : (m : ℕ) → one_if m ≡ 0 → m ≡ 0
one_zero m e = decide (eqb m 0) (λ q. eqb-true m 0 q) (λ q. absurd (omega (arith, rw q at e)))

one_one : (m : ℕ) → (m ≡ 0 → ⊥) → one_if m ≡ 1
one_one m h = rw (ne_eqb m 0 h)

-- the keys below a bound, the greatest first
abbrev pub falling : ℕ → ℕ → List ℕ → List ℕ
falling zero b xs = []
falling (suc n) b xs = most b xs ∷ falling n (most b xs) xs

module _ (xs : List ℕ) (d : Distinct xs) where
  -- with no key left the greatest is 0; else it is a key, and one fewer is left
  none_left : (b : ℕ) → sum one_if b xs ≡ 0 → most b xs ≡ 0
  none_left b e =
      let s = split one_if refl b xs d in
      one_zero (most b xs) (omega (arith, s, e))

  pub one_fewer : (b n : ℕ) → sum one_if b xs ≡ suc n → (0 < most b xs) × (sum one_if (most b xs) xs ≡ n)
  one_fewer b n e =
      let s = split one_if refl b xs d in
      let is_key : most b xs ≡ 0 → ⊥ =
      λ z. let none : sum one_if b xs ≡ 0 = s ∙ rw (z, sum_none one_if xs) in omega (arith, none, e) in
      let one = one_one (most b xs) is_key in
      (omega (arith, is_key), omega (arith, s, e, one))

  -- each key once: whatever the keys weigh, those taken weigh the same
  pub falling_total : (w : ℕ → ℕ) → w 0 ≡ 0 → (n b : ℕ) → sum one_if b xs ≡ n → total w (falling n b xs) ≡ sum w b xs
  falling_total w z zero b e =
      let s = split w z b xs d in
      sym (s ∙ rw (none_left b e, z, sum_none w xs))
  falling_total w z (suc n) b e =
      let s = split w z b xs d in
      let f = one_fewer b n e in
      rw (falling_total w z n (most b xs) f.1) (sym s)

  -- each taken is a key below the bound
  pub falling_keys : (Q : ℕ → Type 0) → All (λ y. 0 < y → Q y) xs → (n b : ℕ) → sum one_if b xs ≡ n
      → All (λ y. (0 < y) × (y < b) × Q y) (falling n b xs)
  falling_keys Q a zero b e = tt
  falling_keys Q a (suc n) b e =
      let f = one_fewer b n e in
      let under = most_under b xs f.0 in (
        (f.0, under, one_of (λ y. 0 < y → Q y) b xs (λ h. absurd (omega arith)) a f.0),
        weaken (falling n (most b xs) xs) (λ y k. (k.0, omega arith, k.2)) (falling_keys Q a n (most b xs) f.1),
      )

-- all keys are below a bound that is above each
pub sum_all : (w : ℕ → ℕ) (b : ℕ) (xs : List ℕ) → All (λ y. y < b) xs → sum w b xs ≡ total w xs
sum_all w b [] a = refl
sum_all w b (x ∷ xs) a = rw (lt-ltb x b a.0, sum_all w b xs a.1)

-- of seven keys the greatest by pairs is the greatest one after the other
pub below_is : (b k0 k1 k2 k3 k4 k5 k6 : ℕ)
    → below b (k0 ∷ k1 ∷ k2 ∷ k3 ∷ k4 ∷ k5 ∷ k6 ∷ []) ≡ most b (k0 ∷ k1 ∷ k2 ∷ k3 ∷ k4 ∷ k5 ∷ k6 ∷ [])
unfolding below
below_is b k0 k1 k2 k3 k4 k5 k6 = simp (greater_is, by_threes, with_none)

-- what is handed out are the numbers of those keys
pub handed_is : (xs : List ℕ) → ((b : ℕ) → below b xs ≡ most b xs) → (n b : ℕ) → handed n b xs ≡ map number_of (falling n b xs)
unfolding handed
handed_is xs e zero b = refl
handed_is xs e (suc n) b = rw (e b, handed_is xs e n (most b xs))

-- how many are due, counted one by one
pub count_not_zero : (keys : List ℕ) → length keys ≡ 7 → count_by (λ key. not (eqb key 0)) keys ≡ count_of keys
unfolding count_of
count_not_zero keys e =
    let count = λ (l : List ℕ). count_by (λ key. not (eqb key 0)) l in
    ap count (seven_items 0 keys e)
    ∙ rw (one_not_zero (get_or keys 0 0), one_not_zero (get_or keys 1 0), one_not_zero (get_or keys 2 0), one_not_zero (get_or keys 3 0), one_not_zero (get_or keys 4 0), one_not_zero (get_or keys 5 0), one_not_zero (get_or keys 6 0))
    (omega arith)
  where
    by_not : (b : Bool) → ◌≡◌ {A = ℕ} (cond (not b) 1 0) (cond b 0 1)
    by_not true = refl
    by_not false = refl

    one_not_zero : (key : ℕ) → ◌≡◌ {A = ℕ} (cond (not (eqb key 0)) 1 0) (one_if key)
    one_not_zero key = by_not (eqb key 0)
