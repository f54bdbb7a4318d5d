-- At a reading in reach the bank's keys are those of the true deadlines: so what is handed out is what is due in true time, in its order.
use Rattle.std.proofs.Common.{◌≡◌, ℕ, zero, suc, ◌+◌, ◌-◌, ◌*◌, ◌%◌, ◌<◌, ◌≤◌, Bool, true, false, cond, eqb, ltb, leb, List, [], ◌∷◌, map, length, get_or, sym, refl, ap, ◌∙◌, arith, lit<, ltb-false, lt-ltb, eq-eqb, ne_eqb, leb-false, leb-true}
use mathlib.Core.Option.{Option, none, some}
use Rattle.timers.specs.Wrap.{shown, forward}
use Rattle.timers.specs.Due.{numbers, key_of, keys_of, one_if, count_of, below, number_of, handed}
use Rattle.timers.specs.Bank.{index_of, keys_at}
use Rattle.timers.specs.Time.{Times, is_due, Kept, occurs}
use Rattle.timers.specs.Claims.{Runs, Holds, due_of, before?, before_all, in_order}
use Rattle.timers.proofs.Tests.{by_test, decide, cond_same, All, weaken}
use Rattle.timers.proofs.Keys.{most, sum, total, Distinct, falling, one_fewer, falling_total, falling_keys, sum_all, below_is, handed_is}
use Rattle.timers.proofs.Indices.{by_number_lem, other_timer, rising}
use Rattle.timers.proofs.Wrapping.{not_back, back, ahead, behind}

-- a timer's key in true time
abbrev pub true_key : ℕ → ℕ → Option ℕ → ℕ
true_key time p none = 0
true_key time p (some d) = cond (leb d time) ((time - d) * 8 + (7 - p)) 0

abbrev pub true_keys : Times → ℕ → List ℕ
true_keys m time =
    true_key time 0 (m.until 301) ∷ true_key time 1 (m.until 302) ∷ true_key time 2 (m.until 303) ∷ true_key time 3 (m.until 306)
    ∷ true_key time 4 (m.until 308) ∷ true_key time 5 (m.until 310) ∷ true_key time 6 (m.until 311) ∷ []

-- one timer: its wrapped lateness is the true one
key_is : (last time p : ℕ) (r : Bool) (d : ℕ) (u : Option ℕ) → Runs last r d u → last ≤ time → time < last + 2147483648
    → key_of p r d (shown time) ≡ true_key time p u
unfolding key_of
key_is last time p r d none h a b = rw h
key_is last time p r d (some e) h a b =
    rw (h.0, h.1)
    (decide (leb e time)
    (λ q.
    let past : e ≤ time = leb-true e time q in
    let w : forward (shown e) (shown time) ≡ time - e = ahead e time past (omega arith) in
    rw (w, not_back (time - e) (omega arith), q))
    (λ q.
    let soon : time < e = leb-false e time q in
    let w : 2147483648 ≤ forward (shown e) (shown time) = behind e time soon (omega arith) in
    rw (back (forward (shown e) (shown time)) w, q)))

module _ (s : Kept) (h : Holds s) (time : ℕ) (a : s.times.last ≤ time) (b : time < s.times.last + 2147483648) where
  one_key : (p : ℕ) → p < 7
      → key_of p (get_or s.bank.running p false) (get_or s.bank.deadlines p 0) (shown time) ≡ true_key time p (s.times.until (get_or numbers p 0))
  one_key p k =
      key_is s.times.last time p (get_or s.bank.running p false) (get_or s.bank.deadlines p 0) (s.times.until (get_or numbers p 0))
      (h.timers p k) a b

  pub keys_are : keys_at s.bank (shown time) ≡ true_keys s.times time
  unfolding keys_at keys_of
  keys_are =
      rw (one_key 0 (lit< tt), one_key 1 (lit< tt), one_key 2 (lit< tt), one_key 3 (lit< tt), one_key 4 (lit< tt), one_key 5 (lit< tt), one_key 6 (lit< tt))

-- a key above 0 tells its timer
pub record IsKey (m : Times) (time y : ℕ) : Type 0 where
  pub index : ℕ
  pub one_of_seven : index < 7
  pub deadline : ℕ
  pub runs : m.until (get_or numbers index 0) ≡ some deadline
  pub past : deadline ≤ time
  pub is : y ≡ (time - deadline) * 8 + (7 - index)

is_key : (m : Times) (time p : ℕ) → p < 7 → (u : Option ℕ) → m.until (get_or numbers p 0) ≡ u → 0 < true_key time p u → IsKey m time (true_key time p u)
is_key m time p k none e = λ h. absurd (omega arith)
is_key m time p k (some d) e =
    by_test (leb d time) ((time - d) * 8 + (7 - p)) 0 (λ y. 0 < y → IsKey m time y)
    (λ q h. record { index = p; one_of_seven = k; deadline = d; runs = e; past = leb-true d time q; is = refl })
    (λ q h. absurd (omega arith))

number_is : (m : Times) (time y : ℕ) (k : IsKey m time y) → number_of y ≡ get_or numbers k.index 0
unfolding number_of
number_is m time y k =
    let p = k.index in
    let at : 7 - y % 8 ≡ p = omega (arith, k.is, k.one_of_seven) in
    rw at

-- the greater key's timer comes first
comes_before : (m : Times) (time x y : ℕ) → y < x → IsKey m time x → IsKey m time y
    → before? (number_of x) (m.until (number_of x)) (number_of y) (m.until (number_of y)) ≡ true
comes_before m time x y h k l =
    rw (number_is m time x k, number_is m time y l, k.runs, l.runs)
    (decide (ltb k.deadline l.deadline) (λ q. rw q)
    (λ q.
    let not_earlier : l.deadline ≤ k.deadline = ltb-false k.deadline l.deadline q in
    let equal : k.deadline ≡ l.deadline = omega (arith, k.is, l.is, k.past, l.past, k.one_of_seven, l.one_of_seven) in
    let lower : k.index < l.index = omega (arith, k.is, l.is, k.past, l.past, k.one_of_seven, l.one_of_seven, equal) in
    rw (q, eq-eqb k.deadline l.deadline equal, lt-ltb (get_or numbers k.index 0) (get_or numbers l.index 0) (rising k.index l.index lower l.one_of_seven))))

comes_before_all : (m : Times) (time x : ℕ) (ys : List ℕ) → IsKey m time x → All (λ y. (0 < y) × (y < x) × IsKey m time y) ys
    → before_all m (number_of x) (map number_of ys) ≡ true
comes_before_all m time x [] k a = refl
comes_before_all m time x (y ∷ ys) k a = rw (comes_before m time x y a.0.1 k a.0.2, comes_before_all m time x ys k a.1)

-- no two timers have one key
remainders : (x y p q : ℕ) → p < q → q < 7 → x * 8 + (7 - p) ≡ y * 8 + (7 - q) → ⊥
remainders x y p q h k e = omega arith

apart : (time p q : ℕ) (u v : Option ℕ) → p < q → q < 7 → true_key time p u ≡ true_key time q v → true_key time p u ≡ 0
apart time p q none v h k = λ e. refl
apart time p q (some d) none h k = λ e. e
apart time p q (some d) (some f) h k =
    by_test (leb d time) ((time - d) * 8 + (7 - p)) 0 (λ y. y ≡ true_key time q (some f) → y ≡ 0)
    (λ a.
    by_test (leb f time) ((time - f) * 8 + (7 - q)) 0 (λ z. (time - d) * 8 + (7 - p) ≡ z → (time - d) * 8 + (7 - p) ≡ 0)
    (λ b e. absurd (remainders (time - d) (time - f) p q h k e))
    (λ b e. e))
    (λ a e. refl)

pub above_zero : (x p : ℕ) → p < 7 → x * 8 + (7 - p) ≡ 0 → ⊥
above_zero x p h e = omega arith

-- a timer counts one where it is due
one_due : (time p : ℕ) → p < 7 → (u : Option ℕ) → one_if (true_key time p u) ≡ cond (is_due time u) 1 0
one_due time p h none = refl
one_due time p h (some d) =
    decide (leb d time) (λ q. rw (q, ne_eqb ((time - d) * 8 + (7 - p)) 0 (above_zero (time - d) p h))) (λ q. rw q)

-- a timer's key as one that has its number: 1 where it is due and is that timer
abbrev weigh : ℕ → ℕ → ℕ
weigh n y = cond (eqb y 0) 0 (cond (eqb (number_of y) n) 1 0)

weigh_key : (m : Times) (time n p : ℕ) → p < 7 → (u : Option ℕ) → m.until (get_or numbers p 0) ≡ u
    → weigh n (true_key time p u) ≡ cond (eqb (get_or numbers p 0) n) (cond (is_due time u) 1 0) 0
weigh_key m time n p h none e = sym (cond_same {A = ℕ} (eqb (get_or numbers p 0) n) 0)
weigh_key m time n p h (some d) e =
    decide (leb d time)
    (λ q.
    let y = (time - d) * 8 + (7 - p) in
    let key : IsKey m time y = record { index = p; one_of_seven = h; deadline = d; runs = e; past = leb-true d time q; is = refl } in
    rw (q, ne_eqb y 0 (above_zero (time - d) p h), number_is m time y key))
    (λ q. rw (q, cond_same {A = ℕ} (eqb (get_or numbers p 0) n) 0))

occurs_total : (n : ℕ) (ys : List ℕ) → All (λ y. 0 < y) ys → occurs n (map number_of ys) ≡ total (weigh n) ys
occurs_total n [] a = refl
occurs_total n (y ∷ ys) a = rw (ne_eqb y 0 (λ e. omega (arith, a.0, e)), occurs_total n ys a.1)

key_small : (last time p : ℕ) (r : Bool) (d : ℕ) (u : Option ℕ) → Runs last r d u → time < last + 2147483648 → true_key time p u < 34359738368
key_small last time p r d none h b = lit< tt
key_small last time p r d (some e) h b =
    by_test (leb e time) ((time - e) * 8 + (7 - p)) 0 (λ y. y < 34359738368) (λ q. omega (arith, h.2)) (λ q. lit< tt)

module _ (m : Times) (time : ℕ) where
  distinct : Distinct (true_keys m time)
  distinct = (
    (apart time 0 1 (m.until 301) (m.until 302) (lit< tt) (lit< tt), (apart time 0 2 (m.until 301) (m.until 303) (lit< tt) (lit< tt), (apart time 0 3 (m.until 301) (m.until 306) (lit< tt) (lit< tt), (apart time 0 4 (m.until 301) (m.until 308) (lit< tt) (lit< tt), (apart time 0 5 (m.until 301) (m.until 310) (lit< tt) (lit< tt), (apart time 0 6 (m.until 301) (m.until 311) (lit< tt) (lit< tt), tt)))))),
    (
      (apart time 1 2 (m.until 302) (m.until 303) (lit< tt) (lit< tt), (apart time 1 3 (m.until 302) (m.until 306) (lit< tt) (lit< tt), (apart time 1 4 (m.until 302) (m.until 308) (lit< tt) (lit< tt), (apart time 1 5 (m.until 302) (m.until 310) (lit< tt) (lit< tt), (apart time 1 6 (m.until 302) (m.until 311) (lit< tt) (lit< tt), tt))))),
      (
        (apart time 2 3 (m.until 303) (m.until 306) (lit< tt) (lit< tt), (apart time 2 4 (m.until 303) (m.until 308) (lit< tt) (lit< tt), (apart time 2 5 (m.until 303) (m.until 310) (lit< tt) (lit< tt), (apart time 2 6 (m.until 303) (m.until 311) (lit< tt) (lit< tt), tt)))),
        (
          (apart time 3 4 (m.until 306) (m.until 308) (lit< tt) (lit< tt), (apart time 3 5 (m.until 306) (m.until 310) (lit< tt) (lit< tt), (apart time 3 6 (m.until 306) (m.until 311) (lit< tt) (lit< tt), tt))),
          (
            (apart time 4 5 (m.until 308) (m.until 310) (lit< tt) (lit< tt), (apart time 4 6 (m.until 308) (m.until 311) (lit< tt) (lit< tt), tt)),
            (
              (apart time 5 6 (m.until 310) (m.until 311) (lit< tt) (lit< tt), tt),
              (
                tt,
                tt,
              ),
            ),
          ),
        ),
      ),
    ),
  )

  all_keys : All (λ y. 0 < y → IsKey m time y) (true_keys m time)
  all_keys = (
    is_key m time 0 (lit< tt) (m.until 301) refl,
    (
      is_key m time 1 (lit< tt) (m.until 302) refl,
      (
        is_key m time 2 (lit< tt) (m.until 303) refl,
        (
          is_key m time 3 (lit< tt) (m.until 306) refl,
          (
            is_key m time 4 (lit< tt) (m.until 308) refl,
            (
              is_key m time 5 (lit< tt) (m.until 310) refl,
              (
                is_key m time 6 (lit< tt) (m.until 311) refl,
                tt,
              ),
            ),
          ),
        ),
      ),
    ),
  )

  pub count_is : count_of (true_keys m time) ≡ due_of numbers m time
  unfolding count_of
  count_is =
      omega (arith, one_due time 0 (lit< tt) (m.until 301), one_due time 1 (lit< tt) (m.until 302), one_due time 2 (lit< tt) (m.until 303), one_due time 3 (lit< tt) (m.until 306), one_due time 4 (lit< tt) (m.until 308), one_due time 5 (lit< tt) (m.until 310), one_due time 6 (lit< tt) (m.until 311))

  total_one : total one_if (true_keys m time) ≡ due_of numbers m time
  total_one =
      omega (arith, one_due time 0 (lit< tt) (m.until 301), one_due time 1 (lit< tt) (m.until 302), one_due time 2 (lit< tt) (m.until 303), one_due time 3 (lit< tt) (m.until 306), one_due time 4 (lit< tt) (m.until 308), one_due time 5 (lit< tt) (m.until 310), one_due time 6 (lit< tt) (m.until 311))

  -- of the seven at most one is the timer n
  total_weigh : ((n : ℕ) → 7 ≤ index_of n → m.until n ≡ none) → (n : ℕ) → total (weigh n) (true_keys m time) ≡ cond (is_due time (m.until n)) 1 0
  total_weigh others n =
      rw (weigh_key m time n 0 (lit< tt) (m.until 301) refl, weigh_key m time n 1 (lit< tt) (m.until 302) refl, weigh_key m time n 2 (lit< tt) (m.until 303) refl, weigh_key m time n 3 (lit< tt) (m.until 306) refl, weigh_key m time n 4 (lit< tt) (m.until 308) refl, weigh_key m time n 5 (lit< tt) (m.until 310) refl, weigh_key m time n 6 (lit< tt) (m.until 311) refl)
      (by_number_lem
      (λ n.
      cond (eqb 301 n) (cond (is_due time (m.until 301)) 1 0) 0
      + (cond (eqb 302 n) (cond (is_due time (m.until 302)) 1 0) 0
      + (cond (eqb 303 n) (cond (is_due time (m.until 303)) 1 0) 0
      + (cond (eqb 306 n) (cond (is_due time (m.until 306)) 1 0) 0
      + (cond (eqb 308 n) (cond (is_due time (m.until 308)) 1 0) 0
      + (cond (eqb 310 n) (cond (is_due time (m.until 310)) 1 0) 0
      + (cond (eqb 311 n) (cond (is_due time (m.until 311)) 1 0) 0 + 0))))))
      ≡ cond (is_due time (m.until n)) 1 0)
      (omega arith) (omega arith) (omega arith) (omega arith) (omega arith) (omega arith) (omega arith)
      (λ n e.
      let no_timer : 7 ≤ index_of n = omega (arith, e) in
      rw (other_timer 0 (lit< tt) n no_timer, other_timer 1 (lit< tt) n no_timer, other_timer 2 (lit< tt) n no_timer, other_timer 3 (lit< tt) n no_timer, other_timer 4 (lit< tt) n no_timer, other_timer 5 (lit< tt) n no_timer, other_timer 6 (lit< tt) n no_timer, others n no_timer))
      n)

  falling_order : (n b : ℕ) → sum one_if b (true_keys m time) ≡ n → in_order m (map number_of (falling n b (true_keys m time))) ≡ true
  falling_order zero b e = refl
  falling_order (suc n) b e =
      let keys = true_keys m time in
      let x = most b keys in
      let f = one_fewer keys distinct b n e in
      let head = (falling_keys keys distinct (IsKey m time) all_keys (suc n) b e).0.2 in
      let rest = falling_keys keys distinct (IsKey m time) all_keys n x f.1 in
      rw (comes_before_all m time x (falling n x keys) head rest, falling_order n x f.1)

  handed_falling : (n b : ℕ) → handed n b (true_keys m time) ≡ map number_of (falling n b (true_keys m time))
  handed_falling =
      let k : ℕ → ℕ → ℕ = λ p n. true_key time p (m.until n) in
      handed_is (true_keys m time) (λ b. below_is b (k 0 301) (k 1 302) (k 2 303) (k 3 306) (k 4 308) (k 5 310) (k 6 311))

-- what is handed out in true time: each timer due once, in its order
abbrev pub handed_in : Times → ℕ → List ℕ
handed_in m time = handed (due_of numbers m time) 34359738368 (true_keys m time)

module _ (s : Kept) (h : Holds s) (time : ℕ) (b : time < s.times.last + 2147483648) where
  small : All (λ y. y < 34359738368) (true_keys s.times time)
  small =
      let one : (p : ℕ) → p < 7 → true_key time p (s.times.until (get_or numbers p 0)) < 34359738368 =
      λ p k. key_small s.times.last time p (get_or s.bank.running p false) (get_or s.bank.deadlines p 0)
      (s.times.until (get_or numbers p 0)) (h.timers p k) b in (
        one 0 (lit< tt),
        (
          one 1 (lit< tt),
          (
            one 2 (lit< tt),
            (
              one 3 (lit< tt),
              (
                one 4 (lit< tt),
                (
                  one 5 (lit< tt),
                  (
                    one 6 (lit< tt),
                    tt,
                  ),
                ),
              ),
            ),
          ),
        ),
      )

  due_sum : sum one_if 34359738368 (true_keys s.times time) ≡ due_of numbers s.times time
  due_sum = sum_all one_if 34359738368 (true_keys s.times time) small ∙ total_one s.times time

  pub each_once : (n : ℕ) → occurs n (handed_in s.times time) ≡ cond (is_due time (s.times.until n)) 1 0
  each_once n =
      let m = s.times in
      let keys = true_keys m time in
      let c = due_of numbers m time in
      let taken = falling c 34359738368 keys in
      let are_keys = falling_keys keys (distinct m time) (IsKey m time) (all_keys m time) c 34359738368 due_sum in
      ap (occurs n) (handed_falling m time c 34359738368)
      ∙ occurs_total n taken (weaken taken (λ y k. k.0) are_keys)
      ∙ falling_total keys (distinct m time) (weigh n) refl c 34359738368 due_sum
      ∙ sum_all (weigh n) 34359738368 keys small
      ∙ total_weigh m time h.others n

  pub in_order_lem : in_order s.times (handed_in s.times time) ≡ true
  in_order_lem =
      let c = due_of numbers s.times time in
      ap (in_order s.times) (handed_falling s.times time c 34359738368) ∙ falling_order s.times time c 34359738368 due_sum

pub length-handed : (n b : ℕ) (keys : List ℕ) → length (handed n b keys) ≡ n
unfolding handed
length-handed zero b keys = refl
length-handed (suc n) b keys = ap suc (length-handed n (below b keys) keys)
