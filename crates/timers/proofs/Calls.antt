-- What each call makes of a bank: a refused one changes nothing, and a taken one what its definition says.
use Rattle.std.proofs.Common.{◌≡◌, ℕ, ◌<◌, ◌≤◌, true, false, cond, eqb, ltb, leb, List, [], ◌++◌, length, get_or, drop, refl, ap, true≢false, arith, ltb-false, ltb-true, leb-true}
use mathlib.Core.Bool.{false≢true}
use borrow.Author.Tests.{eqb-false}
use Rattle.timers.specs.declared.bank.Bank.{Bank}
use Rattle.timers.specs.Wrap.{shown, forward, is_back}
use Rattle.timers.specs.Due.{count_of}
use Rattle.timers.specs.Bank.{Outcome, refusal, ordered, without, with, in_range, entry_of, length_in, index_of, stopped, started, advanced, advanced_to, handed_at, keys_at}
use Rattle.timers.specs.Time.{Call, stop, start, reading, outcome, is_taken, handed_by, Kept, next, noted}
use Rattle.timers.specs.Claims.{Unchanged}
use Rattle.timers.proofs.Tests.{by_test}

-- what an accepted reading gives back
abbrev pub accepting : Bank → ℕ → List ℕ → Outcome
accepting b time list =
    record {
      answer = 0;
      bank = advanced_to b (shown time);
      count = count_of (keys_at b (shown time));
      list = handed_at b (shown time) ++ drop (count_of (keys_at b (shown time))) list;
    }

pub unchanged : Unchanged
unfolding is_taken outcome stopped started advanced
unchanged b (stop n) =
    by_test (ltb (index_of n) 7) (ordered (without b (index_of n))) (refusal 30 b [])
    (λ o. eqb o.answer 0 ≡ false → o ≡ refusal o.answer b []) (λ q t. absurd (true≢false t)) (λ q t. refl)
unchanged b (start table n code) =
    let made = ordered (with b (index_of n) (length_in table n code)) in
    by_test (ltb (index_of n) 7) (cond (eqb (length_in table n code) 0) (refusal 31 b []) made) (refusal 30 b [])
    (λ o. eqb o.answer 0 ≡ false → o ≡ refusal o.answer b [])
    (λ q.
    by_test (eqb (length_in table n code) 0) (refusal 31 b []) made (λ o. eqb o.answer 0 ≡ false → o ≡ refusal o.answer b [])
    (λ r t. refl) (λ r t. absurd (true≢false t)))
    (λ q t. refl)
unchanged b (reading time list) =
    by_test (is_back (forward b.last (shown time))) (refusal 32 b list)
    (cond (ltb (length list) (count_of (keys_at b (shown time)))) (refusal 33 b list) (accepting b time list))
    (λ o. eqb o.answer 0 ≡ false → o ≡ refusal o.answer b list) (λ q t. refl)
    (λ q.
    by_test (ltb (length list) (count_of (keys_at b (shown time)))) (refusal 33 b list) (accepting b time list)
    (λ o. eqb o.answer 0 ≡ false → o ≡ refusal o.answer b list) (λ r t. refl) (λ r t. absurd (true≢false t)))

pub stop_taken : (b : Bank) (n : ℕ) → is_taken b (stop n) ≡ true → (index_of n < 7) × (outcome b (stop n) ≡ ordered (without b (index_of n)))
unfolding is_taken outcome stopped
stop_taken b n =
    by_test (ltb (index_of n) 7) (ordered (without b (index_of n))) (refusal 30 b [])
    (λ o. eqb o.answer 0 ≡ true → (index_of n < 7) × (o ≡ ordered (without b (index_of n)))) (λ q t. (ltb-true (index_of n) 7 q, refl))
    (λ q t. absurd (false≢true t))

pub start_taken : (b : Bank) (table : List ℕ) (n code : ℕ) → is_taken b (start table n code) ≡ true
    → (index_of n < 7) × (length_in table n code ≡ 0 → ⊥) × (outcome b (start table n code) ≡ ordered (with b (index_of n) (length_in table n code)))
unfolding is_taken outcome started
start_taken b table n code =
    let made = ordered (with b (index_of n) (length_in table n code)) in
    by_test (ltb (index_of n) 7) (cond (eqb (length_in table n code) 0) (refusal 31 b []) made) (refusal 30 b [])
    (λ o. eqb o.answer 0 ≡ true → (index_of n < 7) × (length_in table n code ≡ 0 → ⊥) × (o ≡ made))
    (λ q.
    by_test (eqb (length_in table n code) 0) (refusal 31 b []) made
    (λ o. eqb o.answer 0 ≡ true → (index_of n < 7) × (length_in table n code ≡ 0 → ⊥) × (o ≡ made)) (λ r t. absurd (false≢true t))
    (λ r t. (ltb-true (index_of n) 7 q, eqb-false (length_in table n code) 0 r, refl)))
    (λ q t. absurd (false≢true t))

pub reading_taken : (b : Bank) (time : ℕ) (list : List ℕ) → is_taken b (reading time list) ≡ true
    → (count_of (keys_at b (shown time)) ≤ length list) × (outcome b (reading time list) ≡ accepting b time list)
unfolding is_taken outcome advanced
reading_taken b time list =
    let count = count_of (keys_at b (shown time)) in
    by_test (is_back (forward b.last (shown time))) (refusal 32 b list) (cond (ltb (length list) count) (refusal 33 b list) (accepting b time list))
    (λ o. eqb o.answer 0 ≡ true → (count ≤ length list) × (o ≡ accepting b time list)) (λ q t. absurd (false≢true t))
    (λ q.
    by_test (ltb (length list) count) (refusal 33 b list) (accepting b time list)
    (λ o. eqb o.answer 0 ≡ true → (count ≤ length list) × (o ≡ accepting b time list)) (λ r t. absurd (false≢true t))
    (λ r t. (ltb-false (length list) count r, refl)))

-- a length is at most 2^30
pub length_most : (table : List ℕ) (n code : ℕ) → length_in table n code ≤ 1073741824
unfolding length_in
length_most table n code =
    by_test (ltb (entry_of n code) 22) (in_range (get_or table (entry_of n code) 0)) 0 (λ l. l ≤ 1073741824)
    (λ q. by_test (leb (get_or table (entry_of n code) 0) 1073741824) (get_or table (entry_of n code) 0) 0 (λ l. l ≤ 1073741824)
    (λ r. leb-true (get_or table (entry_of n code) 0) 1073741824 r) (λ r. omega arith))
    (λ q. omega arith)

-- a refused call leaves the bank and the timers in true time
pub refused_keeps : (s : Kept) (c : Call) → is_taken s.bank c ≡ false → next s c ≡ s
unfolding next
refused_keeps s c t = rw t (λ i. record { bank = ap (λ (o : Outcome). o.bank) (unchanged s.bank c t) i; times = s.times })

pub taken_makes : (s : Kept) (c : Call) → is_taken s.bank c ≡ true
    → next s c ≡ record { bank = (outcome s.bank c).bank; times = noted s.times c }
unfolding next
taken_makes s c t = rw t

-- a refused reading hands out nothing
pub refused_hands : (b : Bank) (c : Call) → is_taken b c ≡ false → handed_by b c ≡ []
unfolding handed_by
refused_hands b c t = rw (unchanged b c t)
