-- The invariant holds of a new bank, and every call in reach keeps it.
use Rattle.std.proofs.Common.{◌≡◌, ℕ, ◌+◌, ◌-◌, ◌*◌, ◌%◌, ◌<◌, ◌≤◌, Bool, true, false, cond, eqb, leb, List, [], ◌∷◌, get_or, sym, refl, ap, subst, arith, lit<, length-set, get_or-set_other, get_or-set_same, ne_eqb, eqb-true, leb-false}
use mathlib.Core.Bool.{and-false}
use mathlib.Core.Option.{Option, none, some}
use borrow.Author.Tests.{eqb-false}
use Rattle.timers.specs.Wrap.{shown}
use Rattle.timers.specs.Due.{numbers, stays, staying}
use Rattle.timers.specs.Bank.{without, with, index_of, length_in, new_bank, advanced_to}
use Rattle.timers.specs.Time.{Call, stop, start, reading, outcome, is_taken, is_due, Kept, noted, made, next, run, InReach, AllInReach}
use Rattle.timers.specs.Claims.{Runs, Holds}
use Rattle.timers.proofs.Tests.{decide, cond_same}
use Rattle.timers.proofs.Indices.{by_index, same_timer}
use Rattle.timers.proofs.Agreement.{true_key, true_keys, keys_are, above_zero}
use Rattle.timers.proofs.Calls.{stop_taken, start_taken, reading_taken, length_most, refused_keeps, taken_makes}

pub holds_made : (time : ℕ) → Holds (made time)
unfolding made new_bank
holds_made time =
    record {
      last = refl;
      timers =
          by_index
          (λ p. get_or (false ∷ false ∷ false ∷ false ∷ false ∷ false ∷ false ∷ []) p false ≡ false)
          refl refl refl refl refl refl refl;
      others = λ n k. refl;
      sevens = (refl, refl);
    }

module _ (s : Kept) (h : Holds s) where
  holds_stop : (n : ℕ) → index_of n < 7 → Holds (record { bank = without s.bank (index_of n); times = noted s.times (stop n) })
  unfolding noted
  holds_stop n k =
      let b = s.bank in
      let m = s.times in
      let p = index_of n in
      record {
        last = h.last;
        timers =
            λ q l.
            rw (same_timer q l n k)
            (decide (eqb q p)
            (λ e. rw (e, eqb-true q p e, get_or-set_same b.running p false false (omega (arith, h.sevens.0, k))))
            (λ e. rw (e, get_or-set_other b.running p q false false (eqb-false q p e)) (h.timers q l)));
        others = λ i l. rw (h.others i l, cond_same {A = Option ℕ} (eqb i n) none);
        sevens = (rw length-set h.sevens.0, h.sevens.1);
      }

  holds_start : (table : List ℕ) (n code : ℕ) → index_of n < 7 → (length_in table n code ≡ 0 → ⊥)
      → Holds (record { bank = with s.bank (index_of n) (length_in table n code); times = noted s.times (start table n code) })
  unfolding noted
  holds_start table n code k some-length =
      let b = s.bank in
      let m = s.times in
      let p = index_of n in
      let long = length_in table n code in
      let most = length_most table n code in
      let counted : (b.last + long) % 4294967296 ≡ shown (m.last + long) = rw h.last (omega arith) in
      record {
        last = h.last;
        timers =
            λ q l.
            rw (same_timer q l n k)
            (decide (eqb q p)
            (λ e.
            rw (
              e,
              eqb-true q p e,
              get_or-set_same b.running p true false (omega (arith, h.sevens.0, k)),
              get_or-set_same b.deadlines p ((b.last + long) % 4294967296) 0 (omega (arith, h.sevens.1, k)),
            )
            (refl, counted, omega (arith, some-length), omega (arith, most)))
            (λ e.
            rw (
              e,
              get_or-set_other b.running p q true false (eqb-false q p e),
              get_or-set_other b.deadlines p q ((b.last + long) % 4294967296) 0 (eqb-false q p e),
            )
            (h.timers q l)));
        others = λ i l. rw (ne_eqb i n (λ e. let at : index_of i ≡ p = ap index_of e in omega (arith, at, l, k))) (h.others i l);
        sevens = (rw length-set h.sevens.0, rw length-set h.sevens.1);
      }

-- one timer at an accepted reading
stays_runs : (last time p : ℕ) → p < 7 → (r : Bool) (d : ℕ) (u : Option ℕ) → Runs last r d u → last ≤ time
    → Runs time (stays r (true_key time p u)) d (cond (is_due time u) none u)
stays_runs last time p k r d none h a = rw h
stays_runs last time p k r d (some e) h a =
    decide (leb e time)
    (λ q. rw (q, ne_eqb ((time - e) * 8 + (7 - p)) 0 (above_zero (time - e) p k)) (and-false r))
    (λ q. let soon : time < e = leb-false e time q in rw (q, h.0) (refl, h.1, soon, omega (arith, h.3)))

module _ (s : Kept) (h : Holds s) (time : ℕ) (a : s.times.last ≤ time) (b : time < s.times.last + 2147483648) where
  one_stays : (p : ℕ) (k : p < 7)
      → Runs time (stays (get_or s.bank.running p false) (true_key time p (s.times.until (get_or numbers p 0)))) (get_or s.bank.deadlines p 0)
      (cond (is_due time (s.times.until (get_or numbers p 0))) none (s.times.until (get_or numbers p 0)))
  one_stays p k =
      stays_runs s.times.last time p k (get_or s.bank.running p false) (get_or s.bank.deadlines p 0) (s.times.until (get_or numbers p 0))
      (h.timers p k) a

  holds_reading : (list : List ℕ) → Holds (record { bank = advanced_to s.bank (shown time); times = noted s.times (reading time list) })
  unfolding noted advanced_to staying
  holds_reading list =
      let m = s.times in
      record {
        last = refl;
        timers =
            subst
            (λ (keys : List ℕ).
            (p : ℕ) → p < 7
            → Runs time (get_or (staying s.bank.running keys) p false) (get_or s.bank.deadlines p 0)
            (cond (is_due time (m.until (get_or numbers p 0))) none (m.until (get_or numbers p 0))))
            (sym (keys_are s h time a b))
            (by_index
            (λ p.
            Runs time (get_or (staying s.bank.running (true_keys m time)) p false) (get_or s.bank.deadlines p 0)
            (cond (is_due time (m.until (get_or numbers p 0))) none (m.until (get_or numbers p 0))))
            (one_stays 0 (lit< tt)) (one_stays 1 (lit< tt)) (one_stays 2 (lit< tt)) (one_stays 3 (lit< tt)) (one_stays 4 (lit< tt))
            (one_stays 5 (lit< tt)) (one_stays 6 (lit< tt)));
        others = λ n k. rw (h.others n k);
        sevens = (refl, h.sevens.1);
      }

taken_holds : (s : Kept) → Holds s → (c : Call) → InReach s.times c → is_taken s.bank c ≡ true
    → Holds (record { bank = (outcome s.bank c).bank; times = noted s.times c })
taken_holds s h (stop n) r t =
    let made_so = stop_taken s.bank n t in
    rw made_so.1 (holds_stop s h n made_so.0)
taken_holds s h (start table n code) r t =
    let made_so = start_taken s.bank table n code t in
    rw made_so.2 (holds_start s h table n code made_so.0 made_so.1)
taken_holds s h (reading time list) r t =
    let made_so = reading_taken s.bank time list t in
    rw made_so.1 (holds_reading s h time r.0 r.1 list)

pub holds_next : (s : Kept) → Holds s → (c : Call) → InReach s.times c → Holds (next s c)
holds_next s h c r =
    decide (is_taken s.bank c) (λ t. rw (taken_makes s c t) (taken_holds s h c r t)) (λ t. rw (refused_keeps s c t) h)

pub holds_run : (s : Kept) → Holds s → (cs : List Call) → AllInReach s cs → Holds (run s cs)
unfolding run
holds_run s h [] r = h
holds_run s h (c ∷ cs) r = holds_run (next s c) (holds_next s h c r.0) cs r.1
