-- The proofs of the claims of specs/Claims.
use Rattle.std.proofs.Common.{◌≡◌, ℕ, ◌+◌, ◌-◌, Bool, true, false, cond, ◌&&◌, eqb, ltb, leb, List, [], ◌∷◌, length, drop, replicate, sym, refl, ◌∙◌, arith, take_at, eq-eqb}
use mathlib.Core.Option.{Option, none, some}
use Rattle.timers.specs.Wrap.{shown, forward, is_back}
use Rattle.timers.specs.Due.{numbers, count_of}
use Rattle.timers.specs.Bank.{advanced, handed_at, keys_at, length_in}
use Rattle.timers.specs.Time.{Call, stop, start, reading, outcome, is_taken, handed_by, is_due, Kept, noted, made, next, run, InReach, AllInReach, accepted, hands_out, handouts, orders_to, NotOrdered}
use Rattle.timers.specs.Claims.{Holds, OnTime, EveryReading, Answered, EveryRun, Unchanged, first_from, due_of}
use Rattle.timers.proofs.Tests.{decide}
use Rattle.timers.proofs.Wrapping.{not_back, ahead}
use Rattle.timers.proofs.Agreement.{keys_are, count_is, handed_in, each_once, in_order_lem, length-handed, true_keys}
use Rattle.timers.proofs.Calls as calls
use Rattle.timers.proofs.Calls.{accepting, reading_taken, refused_keeps, refused_hands, taken_makes}
use Rattle.timers.proofs.Holding.{holds_made, holds_next, holds_run}

pub every_run : EveryRun
every_run time cs r = holds_run (made time) (holds_made time) cs r

pub unchanged : Unchanged
unchanged = calls.unchanged

module _ (s : Kept) (h : Holds s) (time : ℕ) (list : List ℕ) (r : InReach s.times (reading time list)) where
  -- a reading in reach is no earlier than the last
  forward_is : is_back (forward s.bank.last (shown time)) ≡ false
  forward_is =
      let last = s.times.last in
      rw (h.last, ahead last time r.0 r.1) (not_back (time - last) (omega arith))

  due_count : count_of (keys_at s.bank (shown time)) ≡ due_of numbers s.times time
  due_count = rw (keys_are s h time r.0 r.1) (count_is s.times time)

  handed_are : is_taken s.bank (reading time list) ≡ true → handed_by s.bank (reading time list) ≡ handed_in s.times time
  unfolding handed_by handed_at
  handed_are t =
      rw ((reading_taken s.bank time list t).1, due_count, keys_are s h time r.0 r.1)
      (take_at (handed_in s.times time) (drop (due_of numbers s.times time) list) (due_of numbers s.times time)
      (length-handed (due_of numbers s.times time) 34359738368 (true_keys s.times time)))

  answered_is : (outcome s.bank (reading time list)).answer ≡ cond (ltb (length list) (due_of numbers s.times time)) 33 0
  unfolding outcome advanced
  answered_is = rw (forward_is, due_count) (decide (ltb (length list) (due_of numbers s.times time)) (λ q. rw q) (λ q. rw q))

  pub answered : Answered s time list
  answered =
      record {
        answer = answered_is;
        once = λ t n. rw (handed_are t) (each_once s h time r.1 n);
        order = λ t. rw (handed_are t) (in_order_lem s h time r.1);
      }

pub every_reading : EveryReading
every_reading time cs t list r k = answered (run (made time) cs) (every_run time cs r) t list k

-- a call that gives no order to a timer, or is refused, and is no reading leaves the timer
and_false_left : (x y : Bool) → x && y ≡ false → y ≡ true → x ≡ false
and_false_left true y e t = sym t ∙ e
and_false_left false y e t = refl

-- the readings at which a timer is handed out by one call
hands_due : (s : Kept) → Holds s → (n time : ℕ) (list : List ℕ) → InReach s.times (reading time list) → is_taken s.bank (reading time list) ≡ true
    → hands_out n s.bank (reading time list) ≡ replicate (cond (is_due time (s.times.until n)) 1 0) time
hands_due s h n time list r t = rw ((answered s h time list r).once t n)

hands_none : (s : Kept) (n time : ℕ) (list : List ℕ) → is_taken s.bank (reading time list) ≡ false → hands_out n s.bank (reading time list) ≡ []
hands_none s n time list t = rw (refused_hands s.bank (reading time list) t)

-- an order to another timer, or a refused one, leaves a timer as it is in true time
left_alone : (s : Kept) (n : ℕ) (c : Call) (u : Option ℕ) → s.times.until n ≡ u → (is_taken s.bank c ≡ true → (noted s.times c).until n ≡ u)
    → (next s c).times.until n ≡ u
left_alone s n c u e f =
    decide (is_taken s.bank c) (λ t. rw (taken_makes s c t) (f t)) (λ t. rw (refused_keeps s c t) e)

stop_other : (s : Kept) (n k : ℕ) → orders_to n (stop k) && is_taken s.bank (stop k) ≡ false → (u : Option ℕ) → s.times.until n ≡ u
    → (next s (stop k)).times.until n ≡ u
unfolding noted
stop_other s n k o u e = left_alone s n (stop k) u e (λ t. rw (and_false_left (eqb n k) (is_taken s.bank (stop k)) o t) e)

start_other : (s : Kept) (n : ℕ) (table : List ℕ) (k code : ℕ) → orders_to n (start table k code) && is_taken s.bank (start table k code) ≡ false
    → (u : Option ℕ) → s.times.until n ≡ u → (next s (start table k code)).times.until n ≡ u
unfolding noted
start_other s n table k code o u e =
    left_alone s n (start table k code) u e (λ t. rw (and_false_left (eqb n k) (is_taken s.bank (start table k code)) o t) e)

-- a timer that does not run is not handed out
silent : (s : Kept) → Holds s → (n : ℕ) → s.times.until n ≡ none → (cs : List Call) → AllInReach s cs → NotOrdered n s cs → handouts n s cs ≡ []
unfolding handouts noted
silent s h n e [] r o = refl
silent s h n e (stop k ∷ cs) r o =
    silent (next s (stop k)) (holds_next s h (stop k) r.0) n (stop_other s n k o.0 none e) cs r.1 o.1
silent s h n e (start table k code ∷ cs) r o =
    silent (next s (start table k code)) (holds_next s h (start table k code) r.0) n (start_other s n table k code o.0 none e) cs r.1 o.1
silent s h n e (reading time list ∷ cs) r o =
    let c = reading time list in
    let rest =
    silent (next s c) (holds_next s h c r.0) n (left_alone s n c none e (λ t. rw e)) cs r.1 o.1 in
    decide (is_taken s.bank c) (λ t. rw (hands_due s h n time list r.0 t, e) rest) (λ t. rw (hands_none s n time list t) rest)

-- one that runs is handed out at the first accepted reading at or after its deadline
in_time : (s : Kept) → Holds s → (n d : ℕ) → s.times.until n ≡ some d → (cs : List Call) → AllInReach s cs → NotOrdered n s cs
    → handouts n s cs ≡ first_from d (accepted s cs)
unfolding handouts accepted noted
in_time s h n d e [] r o = refl
in_time s h n d e (stop k ∷ cs) r o =
    in_time (next s (stop k)) (holds_next s h (stop k) r.0) n d (stop_other s n k o.0 (some d) e) cs r.1 o.1
in_time s h n d e (start table k code ∷ cs) r o =
    in_time (next s (start table k code)) (holds_next s h (start table k code) r.0) n d (start_other s n table k code o.0 (some d) e) cs r.1 o.1
in_time s h n d e (reading time list ∷ cs) r o =
    let c = reading time list in
    let h' = holds_next s h c r.0 in
    decide (is_taken s.bank c)
    (λ t.
    rw (hands_due s h n time list r.0 t, e, t)
    (decide (leb d time)
    (λ q.
    let stops : (next s c).times.until n ≡ none = rw (taken_makes s c t, e, q) in
    rw (q, silent (next s c) h' n stops cs r.1 o.1))
    (λ q.
    let stays : (next s c).times.until n ≡ some d = rw (taken_makes s c t, e, q) in
    rw q (in_time (next s c) h' n d stays cs r.1 o.1))))
    (λ t.
    let same : (next s c).times.until n ≡ some d = rw (refused_keeps s c t) e in
    rw (hands_none s n time list t, t) (in_time (next s c) h' n d same cs r.1 o.1))

pub on_time : OnTime
unfolding noted
on_time time before table n code later r t k o =
    let s = run (made time) before in
    let c = start table n code in
    let h = every_run time before r in
    let runs : (next s c).times.until n ≡ some (s.times.last + length_in table n code) = rw (taken_makes s c t, eq-eqb n n refl) in
    in_time (next s c) (holds_next s h c tt) n (s.times.last + length_in table n code) runs later k o
