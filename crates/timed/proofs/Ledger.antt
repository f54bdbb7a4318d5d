-- A bank holds what the counter shows of the timers in true time: kept by every STOP and START, and the first that is due by the bank is the
-- first in true time.
use Prim.Native.Nat.{ℕ, ◌+◌, ◌*◌, ◌-◌, ◌%◌, ◌<◌, ◌≤◌, max}
use mathlib.Core.Path.{◌≡◌, refl, sym, ◌∙◌, ap}
use mathlib.Core.Bool.{Bool, true, false, cond}
use mathlib.Core.List.{List, [], ◌∷◌}
use mathlib.Core.Option.{Option, none, some}
use native.Mathlib.Omega.{arith}
use lib.Dec.{eqb, leb, ltb, lit<}
use lib.ListN.{length, get_or, length-set}
use lib.Seq.{get_or-set_same, get_or-set_other}
use borrow.Author.Tests.{eqb-true, eqb-false, leb-true, leb-false, lt-ltb, le-leb, ne_eqb}
use Rattle.timers.specs.declared.bank.Bank.{Bank}
use Rattle.timers.specs.Wrap.{shown, forward}
use Rattle.timers.specs.Due.{numbers, key_of, keys_of, one_if, count_of, under, greater, below, number_of}
use Rattle.timers.specs.Bank.{without, with, index_of, length_in, keys_at, advanced_to}
use Rattle.timers.proofs.Tests.{decide, by_test, cond_same, All, weaken}
use Rattle.timers.proofs.Indices.{by_number_lem, same_timer, rising}
use Rattle.timers.proofs.Wrapping.{not_back, back, ahead, behind}
use Rattle.timers.proofs.Keys.{most, below_is, greater_is}
use Rattle.timers.proofs.Calls.{length_most}
use Rattle.timed.specs.Times.{Begun, end, Clocks, is_due, dropped, begun, Before, First}
use Rattle.timed.specs.Set.{with_flags}
use Rattle.timed.specs.Runs.{Near}

abbrev runs? : Option Begun → ℕ
runs? none = 0
runs? (some x) = 1

-- a timer that does not run is none that does
pub none≢some : {x : Begun} → ◌≡◌ {A = Option Begun} none (some x) → ⊥
none≢some e = let z : ◌≡◌ {A = ℕ} 0 1 = ap runs? e in omega (arith, z)

-- one timer: running by the bank exactly where it runs in true time, with the deadline that the counter shows, at most 2^30 ms after the last reading
abbrev pub Runs : ℕ → Bool → ℕ → Option Begun → Type 0
Runs last running deadline none = running ≡ false
Runs last running deadline (some x) = (running ≡ true) × (deadline ≡ shown (end x)) × (end x ≤ last + 1073741824)

pub record Shows (b : Bank) (last : ℕ) (u : Clocks) : Type 0 where
  pub at : b.last ≡ shown last
  pub timers : (p : ℕ) → p < 7 → Runs last (get_or b.running p false) (get_or b.deadlines p 0) (u (get_or numbers p 0))
  pub others : (n : ℕ) → 7 ≤ index_of n → u n ≡ none
  pub sevens : (length b.running ≡ 7) × (length b.deadlines ≡ 7)

module _ (b : Bank) (last : ℕ) (u : Clocks) (h : Shows b last u) where
  pub shows_stop : (n : ℕ) → index_of n < 7 → Shows (without b (index_of n)) last (dropped n u)
  shows_stop n k =
      let p = index_of n in
      record {
        at = h.at;
        timers =
            λ q l.
            rw (same_timer q l n k)
            (decide (eqb q p)
            (λ e. rw (e, eqb-true q p e, get_or-set_same b.running p false false (omega (arith, h.sevens.0, k))))
            (λ e. rw (e, get_or-set_other b.running p q false false (eqb-false q p e)) (h.timers q l)));
        others = λ i l. rw (h.others i l, cond_same {A = Option Begun} (eqb i n) none);
        sevens = (rw length-set h.sevens.0, h.sevens.1);
      }

  pub shows_start : (table : List ℕ) (n code : ℕ) → index_of n < 7 → Shows (with b (index_of n) (length_in table n code)) last (begun table last n code u)
  shows_start table n code k =
      let p = index_of n in
      let long = length_in table n code in
      let most = length_most table n code in
      let counted : (b.last + long) % 4294967296 ≡ shown (last + long) = rw h.at (omega arith) in
      record {
        at = h.at;
        timers =
            λ q l.
            rw (same_timer q l n k)
            (decide (eqb q p)
            (λ e.
            rw (
              e,
              eqb-true q p e,
              get_or-set_same b.running p true false (omega (arith, h.sevens.0, k)),
              get_or-set_same b.deadlines p ((b.last + long) % 4294967296) 0 (omega (arith, h.sevens.1, k)),
            )
            (refl, counted, omega (arith, most)))
            (λ e.
            rw (
              e,
              get_or-set_other b.running p q true false (eqb-false q p e),
              get_or-set_other b.deadlines p q ((b.last + long) % 4294967296) 0 (eqb-false q p e),
            )
            (h.timers q l)));
        others = λ i l. rw (ne_eqb i n (λ e. let at : index_of i ≡ p = ap index_of e in omega (arith, at, l, k))) (h.others i l);
        sevens = (rw length-set h.sevens.0, rw length-set h.sevens.1);
      }

-- ---- a later reading

later : (last time : ℕ) → last ≤ time → (r : Bool) (d : ℕ) (u : Option Begun) → Runs last r d u → Runs time r d u
later last time a r d none h = h
later last time a r d (some x) h = (h.0, h.1, omega (arith, h.2))

-- the bank that accepts a later reading, with the flags that it had
pub shows_at : (b : Bank) (last time : ℕ) (u : Clocks) (flags : List Bool) → b.running ≡ flags → last ≤ time → Shows b last u
    → Shows (with_flags flags (advanced_to b (shown time))) time u
unfolding advanced_to
shows_at b last time u flags j a h =
    record {
      at = refl;
      timers = λ p k. rw (sym j) (later last time a (get_or b.running p false) (get_or b.deadlines p 0) (u (get_or numbers p 0)) (h.timers p k));
      others = h.others;
      sevens = (rw (sym j) h.sevens.0, h.sevens.1);
    }

-- ---- the keys

-- a timer's key in true time
abbrev true_key : ℕ → ℕ → Option Begun → ℕ
true_key time p none = 0
true_key time p (some x) = cond (leb (end x) time) ((time - end x) * 8 + (7 - p)) 0

abbrev true_keys : Clocks → ℕ → List ℕ
true_keys u time =
    true_key time 0 (u 301) ∷ true_key time 1 (u 302) ∷ true_key time 2 (u 303) ∷ true_key time 3 (u 306) ∷ true_key time 4 (u 308) ∷ true_key time 5 (u 310)
    ∷ true_key time 6 (u 311) ∷ []

key_is : (last time p : ℕ) (r : Bool) (d : ℕ) (u : Option Begun) → Runs last r d u → last ≤ time → Near time u → key_of p r d (shown time) ≡ true_key time p u
unfolding key_of
key_is last time p r d none h a b = rw h
key_is last time p r d (some x) h a b =
    rw (h.0, h.1)
    (decide (leb (end x) time)
    (λ q.
    let past : end x ≤ time = leb-true (end x) time q in
    let w : forward (shown (end x)) (shown time) ≡ time - end x = ahead (end x) time past b in
    rw (w, not_back (time - end x) (omega arith), q))
    (λ q.
    let soon : time < end x = leb-false (end x) time q in
    let w : 2147483648 ≤ forward (shown (end x)) (shown time) = behind (end x) time soon (omega (arith, h.2)) in
    rw (back (forward (shown (end x)) (shown time)) w, q)))

key_small : (time p : ℕ) (u : Option Begun) → Near time u → true_key time p u < 34359738368
key_small time p none b = lit< tt
key_small time p (some x) b =
    by_test (leb (end x) time) ((time - end x) * 8 + (7 - p)) 0 (λ y. y < 34359738368) (λ q. omega arith) (λ q. lit< tt)

-- a key above 0 tells its timer
record IsKey (u : Clocks) (time y : ℕ) : Type 0 where
  index : ℕ
  one_of_seven : index < 7
  clock : Begun
  runs : u (get_or numbers index 0) ≡ some clock
  past : end clock ≤ time
  is : y ≡ (time - end clock) * 8 + (7 - index)

is_key : (u : Clocks) (time p : ℕ) → p < 7 → (v : Option Begun) → u (get_or numbers p 0) ≡ v → 0 < true_key time p v → IsKey u time (true_key time p v)
is_key u time p k none e = λ h. absurd (omega arith)
is_key u time p k (some x) e =
    by_test (leb (end x) time) ((time - end x) * 8 + (7 - p)) 0 (λ y. 0 < y → IsKey u time y)
    (λ q h. record { index = p; one_of_seven = k; clock = x; runs = e; past = leb-true (end x) time q; is = refl })
    (λ q h. absurd (omega arith))

number_is : (u : Clocks) (time y : ℕ) (k : IsKey u time y) → number_of y ≡ get_or numbers k.index 0
unfolding number_of
number_is u time y k =
    let p = k.index in
    let at : 7 - y % 8 ≡ p = omega (arith, k.is, k.one_of_seven) in
    rw at

-- the greatest of some keys: one of them, and none is greater
one_of : (P : ℕ → Type 0) (b : ℕ) (xs : List ℕ) → P 0 → All P xs → P (most b xs)
unfolding greater under
one_of P b [] z a = z
one_of P b (x ∷ xs) z a =
    decide (ltb x b)
    (λ q. rw q (by_test (ltb x (most b xs)) (most b xs) x P (λ r. one_of P b xs z a.1) (λ r. a.0)))
    (λ q. rw q (by_test (ltb 0 (most b xs)) (most b xs) 0 P (λ r. one_of P b xs z a.1) (λ r. z)))

none_greater : (b : ℕ) (xs : List ℕ) → All (λ y. y < b) xs → All (λ y. y ≤ most b xs) xs
unfolding under
none_greater b [] a = tt
none_greater b (x ∷ xs) a =
    let is : most b (x ∷ xs) ≡ max x (most b xs) = rw (lt-ltb x b a.0) (greater_is x (most b xs)) in
    (omega (arith, is), weaken xs (λ y k. omega (arith, is, k)) (none_greater b xs a.1))

count_zero : (k0 k1 k2 k3 k4 k5 k6 : ℕ) → count_of (k0 ∷ k1 ∷ k2 ∷ k3 ∷ k4 ∷ k5 ∷ k6 ∷ []) ≡ 0
    → (one_if k0 ≡ 0) × (one_if k1 ≡ 0) × (one_if k2 ≡ 0) × (one_if k3 ≡ 0) × (one_if k4 ≡ 0) × (one_if k5 ≡ 0) × (one_if k6 ≡ 0)
unfolding count_of
count_zero k0 k1 k2 k3 k4 k5 k6 h =
    (omega (arith, h), omega (arith, h), omega (arith, h), omega (arith, h), omega (arith, h), omega (arith, h), omega (arith, h))

one_zero : (m : ℕ) → one_if m ≡ 0 → m ≡ 0
one_zero m e = decide (eqb m 0) (λ q. eqb-true m 0 q) (λ q. absurd (omega (arith, rw q at e)))

-- where none is due every key is 0
pub all_zero : (k0 k1 k2 k3 k4 k5 k6 : ℕ) → count_of (k0 ∷ k1 ∷ k2 ∷ k3 ∷ k4 ∷ k5 ∷ k6 ∷ []) ≡ 0
    → All (λ y. y ≡ 0) (k0 ∷ k1 ∷ k2 ∷ k3 ∷ k4 ∷ k5 ∷ k6 ∷ [])
all_zero k0 k1 k2 k3 k4 k5 k6 h =
    let z = count_zero k0 k1 k2 k3 k4 k5 k6 h in
    (one_zero k0 z.0, (one_zero k1 z.1, (one_zero k2 z.2, (one_zero k3 z.3, (one_zero k4 z.4, (one_zero k5 z.5, (one_zero k6 z.6, tt)))))))

none_counted : (k0 k1 k2 k3 k4 k5 k6 : ℕ) → All (λ y. y ≤ 0) (k0 ∷ k1 ∷ k2 ∷ k3 ∷ k4 ∷ k5 ∷ k6 ∷ []) → count_of (k0 ∷ k1 ∷ k2 ∷ k3 ∷ k4 ∷ k5 ∷ k6 ∷ []) ≡ 0
unfolding count_of
none_counted k0 k1 k2 k3 k4 k5 k6 a =
    rw (zero k0 a.0, zero k1 a.1.0, zero k2 a.1.1.0, zero k3 a.1.1.1.0, zero k4 a.1.1.1.1.0, zero k5 a.1.1.1.1.1.0, zero k6 a.1.1.1.1.1.1.0)
  where
    zero : (k : ℕ) → k ≤ 0 → k ≡ 0
    zero k h = omega arith

-- the greatest of seven keys, where one is due
pub record Greatest (Q : ℕ → Type 0) (keys : List ℕ) : Type 0 where
  pub above : 0 < below 34359738368 keys
  pub one : Q (below 34359738368 keys)
  pub least : All (λ y. y ≤ below 34359738368 keys) keys

pub greatest : (Q : ℕ → Type 0) (k0 k1 k2 k3 k4 k5 k6 : ℕ) → All (λ y. y < 34359738368) (k0 ∷ k1 ∷ k2 ∷ k3 ∷ k4 ∷ k5 ∷ k6 ∷ [])
    → All (λ y. 0 < y → Q y) (k0 ∷ k1 ∷ k2 ∷ k3 ∷ k4 ∷ k5 ∷ k6 ∷ [])
    → (count_of (k0 ∷ k1 ∷ k2 ∷ k3 ∷ k4 ∷ k5 ∷ k6 ∷ []) ≡ 0 → ⊥)
    → Greatest Q (k0 ∷ k1 ∷ k2 ∷ k3 ∷ k4 ∷ k5 ∷ k6 ∷ [])
greatest Q k0 k1 k2 k3 k4 k5 k6 small keys any =
    let ks : List ℕ = k0 ∷ k1 ∷ k2 ∷ k3 ∷ k4 ∷ k5 ∷ k6 ∷ [] in
    let is = below_is 34359738368 k0 k1 k2 k3 k4 k5 k6 in
    let least = none_greater 34359738368 ks small in
    let above : 0 < most 34359738368 ks =
    decide (eqb (most 34359738368 ks) 0)
    (λ q. absurd (any (none_counted k0 k1 k2 k3 k4 k5 k6 (weaken {P = λ y. y ≤ most 34359738368 ks} {Q = λ y. y ≤ 0} ks (λ y k. let z = eqb-true (most 34359738368 ks) 0 q in omega (arith, z, k)) least))))
    (λ q. let z = eqb-false (most 34359738368 ks) 0 q in omega (arith, z)) in
    record {
      above = rw is above;
      one = rw is (one_of (λ y. 0 < y → Q y) 34359738368 ks (λ h. absurd (omega arith)) keys above);
      least = rw is least;
    }

-- ---- the timers in true time and the bank's keys

module _ (b : Bank) (last : ℕ) (u : Clocks) (h : Shows b last u) (time : ℕ) (a : last ≤ time) (near : (n : ℕ) → Near time (u n)) where
  one_key : (p : ℕ) → p < 7 → key_of p (get_or b.running p false) (get_or b.deadlines p 0) (shown time) ≡ true_key time p (u (get_or numbers p 0))
  one_key p k =
      key_is last time p (get_or b.running p false) (get_or b.deadlines p 0) (u (get_or numbers p 0)) (h.timers p k) a (near (get_or numbers p 0))

  keys_are : keys_at b (shown time) ≡ true_keys u time
  unfolding keys_at keys_of
  keys_are =
      rw (one_key 0 (lit< tt), one_key 1 (lit< tt), one_key 2 (lit< tt), one_key 3 (lit< tt), one_key 4 (lit< tt), one_key 5 (lit< tt), one_key 6 (lit< tt))

  first_key : (count_of (true_keys u time) ≡ 0 → ⊥) → Greatest (IsKey u time) (true_keys u time)
  first_key =
      greatest (IsKey u time) (true_key time 0 (u 301)) (true_key time 1 (u 302)) (true_key time 2 (u 303)) (true_key time 3 (u 306)) (true_key time 4 (u 308)) (true_key time 5 (u 310)) (true_key time 6 (u 311))
      (key_small time 0 (u 301) (near 301), (key_small time 1 (u 302) (near 302), (key_small time 2 (u 303) (near 303), (key_small time 3 (u 306) (near 306), (key_small time 4 (u 308) (near 308), (key_small time 5 (u 310) (near 310), (key_small time 6 (u 311) (near 311), tt)))))))
      (is_key u time 0 (lit< tt) (u 301) refl, (is_key u time 1 (lit< tt) (u 302) refl, (is_key u time 2 (lit< tt) (u 303) refl, (is_key u time 3 (lit< tt) (u 306) refl, (is_key u time 4 (lit< tt) (u 308) refl, (is_key u time 5 (lit< tt) (u 310) refl, (is_key u time 6 (lit< tt) (u 311) refl, tt)))))))

  -- a timer at an index whose key is not above another's comes after it
  after_it : (y p : ℕ) → p < 7 → (x : Begun) → end x ≤ time → true_key time p (some x) ≤ y → (k : IsKey u time y)
      → Before (get_or numbers k.index 0) (end k.clock) (get_or numbers p 0) (end x)
  after_it y p l x past low k =
      let key : true_key time p (some x) ≡ (time - end x) * 8 + (7 - p) = rw (le-leb (end x) time past) in
      let lower : (time - end x) * 8 + (7 - p) ≤ (time - end k.clock) * 8 + (7 - k.index) = omega (arith, low, key, k.is) in (
        omega (arith, lower, past, k.past, l, k.one_of_seven),
        λ e.
            let not_after : k.index ≤ p = omega (arith, lower, past, k.past, l, k.one_of_seven, e) in
            decide (eqb k.index p) (λ q. rw (eqb-true k.index p q) (omega arith))
            (λ q. let less : k.index < p = omega (arith, not_after, eqb-false k.index p q) in let r = rising k.index p less l in omega (arith, r)),
      )

  all_after : (y : ℕ) → All (λ z. z ≤ y) (true_keys u time) → (k : IsKey u time y) → (n : ℕ) (x : Begun) → u n ≡ some x → end x ≤ time
      → Before (get_or numbers k.index 0) (end k.clock) n (end x)
  all_after y low k =
      let at : (p : ℕ) → p < 7 → true_key time p (u (get_or numbers p 0)) ≤ y → (x : Begun) → u (get_or numbers p 0) ≡ some x → end x ≤ time → Before (get_or numbers k.index 0) (end k.clock) (get_or numbers p 0) (end x) =
      λ p l z x e past. after_it y p l x past (rw e at z) k in
      by_number_lem (λ n. (x : Begun) → u n ≡ some x → end x ≤ time → Before (get_or numbers k.index 0) (end k.clock) n (end x))
      (at 0 (lit< tt) low.0) (at 1 (lit< tt) low.1.0) (at 2 (lit< tt) low.1.1.0) (at 3 (lit< tt) low.1.1.1.0) (at 4 (lit< tt) low.1.1.1.1.0) (at 5 (lit< tt) low.1.1.1.1.1.0) (at 6 (lit< tt) low.1.1.1.1.1.1.0)
      (λ n e x runs past. let z : ◌≡◌ {A = Option Begun} none (some x) = sym (h.others n (omega (arith, e))) ∙ runs in absurd (none≢some z))

  pub first_is : (count_of (keys_at b (shown time)) ≡ 0 → ⊥) → (p : ℕ) × ((p < 7) × (number_of (below 34359738368 (keys_at b (shown time))) ≡ get_or numbers p 0) × First u time (get_or numbers p 0))
  first_is any =
      let g = first_key (rw keys_are at any) in
      let k = g.one in (
        k.index,
        (
          k.one_of_seven,
          rw keys_are (number_is u time (below 34359738368 (true_keys u time)) k),
          record { clock = k.clock; runs = k.runs; due = k.past; before = all_after (below 34359738368 (true_keys u time)) g.least k },
        ),
      )

  not_due : (p : ℕ) → p < 7 → (v : Option Begun) → true_key time p v ≡ 0 → is_due time v ≡ false
  not_due p k none e = refl
  not_due p k (some x) e =
      decide (leb (end x) time) (λ q. let z : (time - end x) * 8 + (7 - p) ≡ 0 = rw q at e in absurd (omega (arith, z, k))) (λ q. q)

  pub none_due_is : count_of (keys_at b (shown time)) ≡ 0 → (n : ℕ) → is_due time (u n) ≡ false
  none_due_is e =
      let z = all_zero (true_key time 0 (u 301)) (true_key time 1 (u 302)) (true_key time 2 (u 303)) (true_key time 3 (u 306)) (true_key time 4 (u 308)) (true_key time 5 (u 310)) (true_key time 6 (u 311)) (rw keys_are at e) in
      by_number_lem (λ n. is_due time (u n) ≡ false)
      (not_due 0 (lit< tt) (u 301) z.0) (not_due 1 (lit< tt) (u 302) z.1.0) (not_due 2 (lit< tt) (u 303) z.1.1.0) (not_due 3 (lit< tt) (u 306) z.1.1.1.0) (not_due 4 (lit< tt) (u 308) z.1.1.1.1.0) (not_due 5 (lit< tt) (u 310) z.1.1.1.1.1.0) (not_due 6 (lit< tt) (u 311) z.1.1.1.1.1.1.0)
      (λ n e. rw (h.others n (omega (arith, e))))
