-- What is left at rest: the records of a run in which no timer runs.
use Prim.Native.Nat.{ℕ, ◌+◌, ◌-◌, ◌<◌, ◌≤◌}
use mathlib.Core.Path.{◌≡◌, refl, sym, ◌∙◌, ap}
use mathlib.Core.Bool.{Bool, true, false}
use mathlib.Core.List.{List, [], ◌∷◌}
use mathlib.Core.Option.{Option, none, some}
use native.Mathlib.Omega.{arith}
use borrow.Author.Tests.{eq-eqb, ne_eqb, eqb-true, eqb-false, leb-false}
use lib.Dec.{eqb, lit<}
use lib.ListN.{get_or}
use Rattle.timers.specs.Due.{numbers}
use Rattle.timers.proofs.Tests.{decide}
use Rattle.callcontrol.specs.declared.call.Path.{Path}
use Rattle.callcontrol.specs.declared.call.Call.{Call}
use Rattle.callcontrol.specs.Call.{fresh_call, runs, sound, path_number, T306, T311}
use Rattle.demands.specs.Runs as Steps
use Rattle.demands.specs.Clocks.{note_log, running_by}
use Rattle.demands.specs.Demands as demands
use Rattle.demands.specs.Demands.{timers_in}
use Rattle.demands.proofs.Facts.{apart}
use Rattle.demands.proofs.Situations.{clauses}
use Rattle.demands.proofs.Sound.{always}
use Rattle.demands.proofs.Timers.{Few, few}
use Rattle.demands.proofs.Demands.{none_runs_lem, timers_by_messages, timers}
use Rattle.timed.specs.Set.{new_of}
use Rattle.timed.specs.Times.{Begun, end, Clocks, is_due}
use Rattle.timed.specs.Runs.{Turn, step, due, time_of, steps_in, Kept, made, then, after, Near, InReach, AllInReach}
use Rattle.timed.specs.Demands.{Rests, over, rings, talks, pauses, none_runs, AtRest, RestsExactly, only_due, Settled, LoneRests, RestsForEver, NearForNothing}
use Rattle.timed.proofs.Ledger.{none≢some}
use Rattle.timed.proofs.Turns.{Did, refused, waited, lapsed, did}
use Rattle.timed.proofs.Together.{bank_is_record, follows_step}
use Rattle.timed.proofs.Reach.{clocked}
use Rattle.timed.proofs.Holding.{Holds, every_run, holds_after, holds_then}
use Rattle.timed.proofs.OnTime.{clocks_refused, clocks_waited, some_runs, by_timer, n₀, is_first, row, clock_row, holds, stops_at, row_leaves_311, same_310}
use Rattle.timed.proofs.Silence.{not_late, call_refused, call_waited}

rests : (c : Call) → sound c ≡ true → c.timers ≡ none_runs → demands.AtRest c → Rests c
rests c ok e (demands.over z) = over z
rests c ok e (demands.rings s z) = rings s z
rests c ok e (demands.talks s z) =
    talks s z
    (λ p. apart ((clauses c ok).t311 ∙ eq-eqb c.plane 1 p) (ap (λ (f : List Bool). get_or f T311 false) e))
    (λ p. apart ((clauses c ok).t306 ∙ ap (λ (w : Path). eqb (path_number w) 2) p) (ap (λ (f : List Bool). get_or f T306 false) e))
rests c ok e (demands.pauses s z) = pauses s z

rests_at : (ts : List Steps.Turn) → (Steps.run fresh_call ts).timers ≡ none_runs → Rests (Steps.run fresh_call ts)
unfolding running_by note_log
rests_at ts e = rests (Steps.run fresh_call ts) (always ts).meets e (none_runs_lem ts (timers_by_messages ts ∙ e))

pub at_rest : AtRest
at_rest reading ds e =
    rw (follows_step reading ds)
    (rests_at (steps_in (new_of reading) ds) (sym (ap (λ (c : Call). c.timers) (follows_step reading ds)) ∙ sym (bank_is_record reading ds) ∙ e))

not_restoring : (w : Path) → (w ≡ Path.Restoring → ⊥) → eqb (path_number w) 2 ≡ false
not_restoring Path.Up h = refl
not_restoring Path.Broken h = refl
not_restoring Path.Restoring h = absurd (h refl)

none_in : (c : Call) → c.timers ≡ timers_in c.state c → Rests c → c.timers ≡ none_runs
unfolding timers_in
none_in c e (over z) = ap (λ (d : Call). d.timers) z
none_in c e (rings s z) = e ∙ rw (s, z)
none_in c e (talks s z p w) = e ∙ rw (s, z, ne_eqb c.plane 1 p, not_restoring c.path w)
none_in c e (pauses s z) = e ∙ rw (s, z)

pub rests_exactly : RestsExactly
rests_exactly reading ds r =
    let ts = steps_in (new_of reading) ds in
    bank_is_record reading ds ∙ ap (λ (c : Call). c.timers) (follows_step reading ds)
    ∙ none_in (Steps.run fresh_call ts) (timers ts) (rw (follows_step reading ds) at r)

-- ---- in silence of all

-- where no timer runs in true time none runs in the record
few_none : {c : Call} → Few c → ((q : ℕ) → q < 7 → runs c q ≡ true → ⊥) → c.timers ≡ none_runs
few_none Few.none f = refl
few_none Few.one f = absurd (f 0 (lit< tt) refl)
few_none Few.two f = absurd (f 1 (lit< tt) refl)
few_none Few.three f = absurd (f 2 (lit< tt) refl)
few_none Few.eight f = absurd (f 4 (lit< tt) refl)
few_none Few.ten f = absurd (f 5 (lit< tt) refl)
few_none Few.ten_eleven f = absurd (f 5 (lit< tt) refl)
few_none Few.eleven_only f = absurd (f 6 (lit< tt) refl)
few_none Few.six_only f = absurd (f 3 (lit< tt) refl)
few_none Few.six_ten f = absurd (f 3 (lit< tt) refl)

quiet_rests : (k : Kept) → Holds k → ((n : ℕ) → k.clocks n ≡ none) → Rests k.timed.call
quiet_rests k h z =
    let c = k.timed.call in
    let stopped : c.timers ≡ none_runs = few_none (few (clocked c h.reach)) (λ q l e. let x = some_runs k h q l e in none≢some (sym (z (get_or numbers q 0)) ∙ x.1)) in
    rw h.reach.is (rests_at h.reach.turns (sym (ap (λ (d : Call). d.timers) h.reach.is) ∙ stopped))

data Lone (x : Begun) (k : Kept) : Type 0 where
  talking : k.clocks 311 ≡ some x → ((n : ℕ) → (n ≡ 311 → ⊥) → k.clocks n ≡ none) → Lone x k
  quiet : ((n : ℕ) → k.clocks n ≡ none) → Lone x k

same_lone : (x : Begun) (k l : Kept) → l.clocks ≡ k.clocks → Lone x k → Lone x l
same_lone x k l e (talking a f) = talking (ap (λ (u : Clocks). u 311) e ∙ a) (λ n z. ap (λ (u : Clocks). u n) e ∙ f n z)
same_lone x k l e (quiet f) = quiet (λ n. ap (λ (u : Clocks). u n) e ∙ f n)

lone_due : (x : Begun) (k : Kept) (h : Holds k) (table : List ℕ) (time : ℕ) (buffer : List ℕ) (i : InReach k (due table time buffer)) → Did k.timed (due table time buffer) → Lone x k
    → Lone x (then k (due table time buffer))
lone_due x k h table time buffer i (refused r) z = same_lone x k (then k (due table time buffer)) (clocks_refused k (due table time buffer) r) z
lone_due x k h table time buffer i (waited r) z = same_lone x k (then k (due table time buffer)) (clocks_waited k table time buffer r) z
lone_due x k h table time buffer i (lapsed r) (quiet f) =
    absurd (none≢some (sym (f (n₀ k h table time buffer i r)) ∙ (is_first k h table time buffer i r).runs))
lone_due x k h table time buffer i (lapsed r) (talking a f) =
    let n = n₀ k h table time buffer i r in
    decide (eqb n 311)
    (λ e.
    quiet
    (by_timer (then k (due table time buffer)) (holds k h table time buffer i r) (λ m v. v ≡ none) (λ m. refl)
    (λ q l.
    decide (eqb q 5) (λ y. rw (eqb-true q 5 y) (same_310 k h table time buffer i r e ∙ f 310 (λ z. omega (arith, z))))
    (λ y. stops_at k h table time buffer i r q l (row_leaves_311 (row k h table time buffer i r) (clock_row k h table time buffer i r) e q l (eqb-false q 5 y))))))
    (λ e. absurd (none≢some (sym (f n (eqb-false n 311 e)) ∙ (is_first k h table time buffer i r).runs)))

lone_after : (x : Begun) (k : Kept) → Holds k → (es : List Turn) → AllInReach k es → only_due es ≡ true → Lone x k → Lone x (after k es)
unfolding after
lone_after x k h [] i o z = z
lone_after x k h (step table time event buffer ∷ es) i o z = apart o refl
lone_after x k h (due table time buffer ∷ es) i o z =
    lone_after x (then k (due table time buffer)) (holds_then k h (due table time buffer) i.0) es i.1 o (lone_due x k h table time buffer i.0 (did k.timed (due table time buffer)) z)

lone_over : (x : Begun) (G now : ℕ) (k : Kept) → Holds k → Settled k → now < k.last + G → end x + (G - 1) ≤ now → Lone x k → Rests k.timed.call
lone_over x G now k h s a b (quiet f) = quiet_rests k h f
lone_over x G now k h s a b (talking z f) = let before = not_late k.last (k.clocks 311) x z (s 311) in absurd (omega (arith, before, a, b))

pub lone_rests : LoneRests
lone_rests time ds es G now x all i runs-alone others only settled a b =
    let k = after (made time) ds in
    let h = every_run time ds all in
    lone_over x G now (after k es) (holds_after k h es i) settled a b (lone_after x k h es i only (talking runs-alone others))

-- where none runs due changes no call
still_due : (k : Kept) (h : Holds k) (table : List ℕ) (time : ℕ) (buffer : List ℕ) (i : InReach k (due table time buffer)) → Did k.timed (due table time buffer) → ((n : ℕ) → k.clocks n ≡ none)
    → ((then k (due table time buffer)).timed.call ≡ k.timed.call) × ((n : ℕ) → (then k (due table time buffer)).clocks n ≡ none)
still_due k h table time buffer i (refused r) z = (call_refused k (due table time buffer) r, λ n. ap (λ (u : Clocks). u n) (clocks_refused k (due table time buffer) r) ∙ z n)
still_due k h table time buffer i (waited r) z = (call_waited k table time buffer r, λ n. ap (λ (u : Clocks). u n) (clocks_waited k table time buffer r) ∙ z n)
still_due k h table time buffer i (lapsed r) z = absurd (none≢some (sym (z (n₀ k h table time buffer i r)) ∙ (is_first k h table time buffer i r).runs))

still_after : (k : Kept) → Holds k → (es : List Turn) → AllInReach k es → only_due es ≡ true → ((n : ℕ) → k.clocks n ≡ none) → (after k es).timed.call ≡ k.timed.call
unfolding after
still_after k h [] i o z = refl
still_after k h (step table time event buffer ∷ es) i o z = apart o refl
still_after k h (due table time buffer ∷ es) i o z =
    let d = due table time buffer in
    let now = still_due k h table time buffer i.0 (did k.timed d) z in
    still_after (then k d) (holds_then k h d i.0) es i.1 o now.1 ∙ now.0

pub rests_for_ever : RestsForEver
rests_for_ever time ds es all i z only = still_after (after (made time) ds) (every_run time ds all) es i only z

near_at : (last time : ℕ) (v : Option Begun) → is_due last v ≡ false → time < last + 2147483648 → Near time v
near_at last time none s b = tt
near_at last time (some x) s b = let before = leb-false (end x) last s in omega (arith, before, b)

pub near_for_nothing : NearForNothing
near_for_nothing k d s a b = record { not_earlier = a; soon = b; near = λ n. near_at k.last (time_of d) (k.clocks n) (s n) b }
