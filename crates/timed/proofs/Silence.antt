-- In the network's silence a call that a timer ends is over within its deadline, T308's length and two gaps; and a simplex set is off the air.
use Prim.Native.Nat.{ℕ, ◌+◌, ◌-◌, ◌<◌, ◌≤◌}
use mathlib.Core.Path.{◌≡◌, refl, sym, ◌∙◌, ap, subst}
use mathlib.Core.Bool.{Bool, true, false, ◌||◌}
use mathlib.Core.List.{List, [], ◌∷◌}
use mathlib.Core.Option.{Option, none, some}
use native.Mathlib.Omega.{arith}
use borrow.Author.Tests.{eqb-true, eqb-false, leb-true, leb-false}
use lib.Dec.{eqb, leb, lit<}
use lib.ListN.{get_or}
use Rattle.records.specs.declared.events.Event.{Event}
use Rattle.records.specs.declared.messages.Message.{Message}
use Rattle.records.specs.Tables.{flat, fine}
use Rattle.records.specs.Events.{events}
use Rattle.records.specs.Messages.{messages}
use Rattle.timers.specs.Due.{numbers}
use Rattle.timers.specs.Bank.{length_in, entry_of}
use Rattle.timers.proofs.Tests.{decide, by_test}
use Rattle.timers.proofs.Indices.{by_index}
use Rattle.callcontrol.specs.declared.call.State.{State}
use Rattle.callcontrol.specs.declared.call.Call.{Call}
use Rattle.callcontrol.specs.Call.{fresh_call, runs, is_idle, state_number, T308, T311}
use Rattle.callcontrol.specs.Rows.{row_for}
use Rattle.callcontrol.specs.Writing.{messages_in}
use Rattle.demands.specs.Runs as Steps
use Rattle.demands.specs.Runs.{every?}
use Rattle.demands.specs.Demands.{limits}
use Rattle.demands.proofs.Facts.{apart}
use Rattle.demands.proofs.ByRow.{Row, is_row}
use Rattle.demands.proofs.Demands.{step_in_range, idle_is_fresh}
use Rattle.demands.proofs.Timers.{few}
use Rattle.demands.proofs.Turns.{accepts}
use Rattle.timed.specs.declared.set.Timed as Set
use Rattle.timed.specs.Set.{held_at, turned}
use Rattle.timed.specs.Entries.{Outcome, turn_of}
use Rattle.timed.specs.Times.{Begun, end, Clocks, is_due, dropped, noted_all}
use Rattle.timed.specs.Runs.{Turn, step, due, time_of, table_of, outcome, is_taken, taken_by, is_word, has_word, Kept, made, then, after, InReach, AllInReach}
use Rattle.timed.specs.Demands.{Silent, asks_anew, NoneAsked, Punctual, AllPunctual, Settled, Outlives, InSilence, Closes, ends_call, only_due}
use Rattle.timed.proofs.Turns.{Did, Refused, Waited, Stepped, Lapsed, refused, waited, stepped, lapsed, did, next_is, lapse_turn}
use Rattle.timed.proofs.Reach.{kept, clocked}
use Rattle.timed.proofs.Holding.{Holds, every_run, holds_after, holds_then, step_takes, limits_at, no_lapse, takes_one}
use Rattle.timed.proofs.OnTime.{noted_all_at, clocks_refused, clocks_waited, clocks_made, none_runs_lem, some_runs, runs_so, not_beside, writes_row, last_refused, last_taken, n₀, p_small, p_runs, row, clock_row, call_then, clocks_then, same_310, first_index}
use Rattle.timed.proofs.Fates.{Watched, w301, w302, w303, w310, Ending, e306, ending, small, not_four, Fate, ends, closes, stays, fate, Last, is_over, goes_on, fate_308, idle_rests, idle_none, with_311, row_closes, row_over}

-- ---- the set after a turn

state_idle : (s : State) → eqb (state_number s) 0 ≡ true → s ≡ State.Idle
state_idle State.Idle h = refl
state_idle State.MoCallSetup h = apart h refl
state_idle State.MtCallSetup h = apart h refl
state_idle State.CallActive h = apart h refl
state_idle State.Wait h = apart h refl
state_idle State.CallDisconnect h = apart h refl

pub call_refused : (k : Kept) (d : Turn) {n place : ℕ} → Refused k.timed d n place → (then k d).timed.call ≡ k.timed.call
unfolding then
call_refused k d r = ap (λ (t : Set.Timed). t.call) (next_is k.timed d r.gives)

pub call_waited : (k : Kept) (table : List ℕ) (time : ℕ) (buffer : List ℕ) → Waited k.timed table time buffer → (then k (due table time buffer)).timed.call ≡ k.timed.call
unfolding then held_at
call_waited k table time buffer r = ap (λ (t : Set.Timed). t.call) (next_is k.timed (due table time buffer) r.gives)

call_stepped : (k : Kept) (table : List ℕ) (time : ℕ) (event buffer : List ℕ) → Stepped k.timed table time event buffer
    → (then k (step table time event buffer)).timed.call ≡ Steps.next k.timed.call (turn_of event buffer)
unfolding then turned
call_stepped k table time event buffer r = ap (λ (t : Set.Timed). t.call) (next_is k.timed (step table time event buffer) r.gives)

pub answered : (t : Set.Timed) (d : Turn) {o : Outcome} → outcome t d ≡ o → o.answer ≡ 0 → (outcome t d).answer ≡ 0
answered t d e z = ap (λ (o : Outcome). o.answer) e ∙ z

pub is_taken_lem : (t : Set.Timed) (d : Turn) → (outcome t d).answer ≡ 0 → is_taken t d ≡ true
unfolding is_taken
is_taken_lem t d e = rw e

pub not_late : (time : ℕ) (v : Option Begun) (x : Begun) → v ≡ some x → is_due time v ≡ false → time < end x
not_late time v x e h = leb-false (end x) time (rw e at h)

-- ---- T308, once it runs

abbrev Within : ℕ → Option Begun → Type 0
Within E none = Unit {0}
Within E (some y) = end y ≤ E

within_is : (E : ℕ) (v : Option Begun) (y : Begun) → v ≡ some y → Within E v → end y ≤ E
within_is E v y e h = rw e at h

t308_any : (table : List ℕ) (o : ℕ) → length_in table 308 o ≡ length_in table 308 0
unfolding length_in entry_of
t308_any table o = refl

-- the call is over, or T308 runs up to a time at the latest
data Ending? (E : ℕ) (k : Kept) : Type 0 where
  over : is_idle k.timed.call ≡ true → Ending? E k
  closing : (y : Begun) → k.clocks 308 ≡ some y → end y ≤ E → Ending? E k

same_index : (p : ℕ) → p < 7 → (eqb (get_or numbers p 0) 308 ≡ eqb p 4) × (eqb (get_or numbers p 0) 311 ≡ eqb p 6)
same_index = by_index (λ p. (eqb (get_or numbers p 0) 308 ≡ eqb p 4) × (eqb (get_or numbers p 0) 311 ≡ eqb p 6)) (refl, refl) (refl, refl) (refl, refl) (refl, refl) (refl, refl) (refl, refl) (refl, refl)

or-false : (a b : Bool) → (a || b) ≡ false → a ≡ false
or-false true b h = h
or-false false b h = refl

-- what a taken step says of its event
pub record Plain (k : Kept) (table : List ℕ) (time : ℕ) (event buffer : List ℕ) (e : Event) : Type 0 where
  pub takes : Steps.taken_by k.timed.call (turn_of event buffer) ≡ some e
  pub no_expiry : eqb (flat events e).kind 0x0401 ≡ false
  pub no_word : is_word e ≡ false
  pub row : Row k.timed.call k.timed.call.state k.timed.call.path e (row_for k.timed.call e)
  pub calls : (then k (step table time event buffer)).timed.call ≡ (row_for k.timed.call e).call
  pub clocks : (then k (step table time event buffer)).clocks ≡ noted_all table time k.clocks (messages_in (row_for k.timed.call e))

pub plain : (k : Kept) → Holds k → (table : List ℕ) (time : ℕ) (event buffer : List ℕ) → (r : Stepped k.timed table time event buffer)
    → has_word (taken_by k.timed (step table time event buffer)) ≡ false → (e : Event) × Plain k table time event buffer e
plain k h table time event buffer r silent =
    let c = k.timed.call in
    let u = turn_of event buffer in
    let t = step_takes k h table time event buffer r in
    let e = t.0 in
    let a = accepts c u e t.1.0 in
    let taken_so : taken_by k.timed (step table time event buffer) ≡ e ∷ [] = rw r.steps (takes_one c u e t.1.0) in
    let word : (is_word e || false) ≡ false = rw taken_so at silent in
    let same = (no_lapse k.clocks c.timers e t.1.1).0 in (
      e,
      record {
        takes = t.1.0;
        no_expiry = t.1.1;
        no_word = or-false (is_word e) false word;
        row = is_row c e a.row;
        calls = call_stepped k table time event buffer r ∙ a.leaves;
        clocks =
            clocks_made k (step table time event buffer) u e r.steps t.1.0 ∙ ap (λ (v : Clocks). noted_all table time v (Steps.written_by c u)) same
            ∙ ap (noted_all table time k.clocks) (writes_row c u e t.1.0);
      },
    )

asks_plain : (k : Kept) (table : List ℕ) (time : ℕ) (event buffer : List ℕ) (e : Event) → Stepped k.timed table time event buffer → Plain k table time event buffer e
    → asks_anew (taken_by k.timed (step table time event buffer)) ≡ false → eqb (flat events e).kind 0x0101 ≡ false
asks_plain k table time event buffer e r w h =
    let taken_so : taken_by k.timed (step table time event buffer) ≡ e ∷ [] = rw r.steps (takes_one k.timed.call (turn_of event buffer) e w.takes) in
    or-false (eqb (flat events e).kind 0x0101) false (rw taken_so at h)

module _ (E : ℕ) (k : Kept) (h : Holds k) where
  end_refused : (d : Turn) {n place : ℕ} → Refused k.timed d n place → Ending? E k → Ending? E (then k d)
  end_refused d r (over z) = over (ap is_idle (call_refused k d r) ∙ z)
  end_refused d r (closing y a b) = closing y (rw (clocks_refused k d r) a) b

  end_waited : (table : List ℕ) (time : ℕ) (buffer : List ℕ) → Waited k.timed table time buffer → Ending? E k → Ending? E (then k (due table time buffer))
  end_waited table time buffer r (over z) = over (ap is_idle (call_waited k table time buffer r) ∙ z)
  end_waited table time buffer r (closing y a b) = closing y (rw (clocks_waited k table time buffer r) a) b

  end_lapsed : (table : List ℕ) (time : ℕ) (buffer : List ℕ) (i : InReach k (due table time buffer)) (r : Lapsed k.timed table time buffer) → Ending? E k
      → Ending? E (then k (due table time buffer))
  end_lapsed table time buffer i r (over z) =
      apart (p_runs k h table time buffer i r) (idle_none (clock_row k h table time buffer i r) z (first_index k h table time buffer i r) (p_small k h table time buffer i r))
  end_lapsed table time buffer i r (closing y a b) =
      let v = clock_row k h table time buffer i r in
      let first = first_index k h table time buffer i r in
      let least = p_small k h table time buffer i r in
      decide (eqb first 4)
      (λ z. over (ap is_idle (call_then k h table time buffer i r) ∙ row_over (row k h table time buffer i r) v ((same_index first least).0 ∙ z)))
      (λ z. apart (runs_so k h 4 (lit< tt) y a) (not_beside (few v) first least (eqb-false first 4 z) (p_runs k h table time buffer i r)))

  end_stepped : (table : List ℕ) (time : ℕ) (event buffer : List ℕ) → Stepped k.timed table time event buffer
      → has_word (taken_by k.timed (step table time event buffer)) ≡ false → asks_anew (taken_by k.timed (step table time event buffer)) ≡ false → Ending? E k
      → Ending? E (then k (step table time event buffer))
  end_stepped table time event buffer r silent none-asked (over z) =
      let w = plain k h table time event buffer r silent in
      let c = k.timed.call in
      absurd
      (idle_rests (subst (λ s. Row c s c.path w.0 (row_for c w.0)) (state_idle c.state z) w.1.row) w.1.no_word
      (asks_plain k table time event buffer w.0 r w.1 none-asked))
  end_stepped table time event buffer r silent none-asked (closing y a b) =
      let w = plain k h table time event buffer r silent in
      by w.0 w.1 (fate_308 w.1.row (clocked k.timed.call h.reach) w.1.no_word w.1.no_expiry (runs_so k h 4 (lit< tt) y a))
    where
      by : (e : Event) → Plain k table time event buffer e → Last (row_for k.timed.call e) → Ending? E (then k (step table time event buffer))
      by e w (is_over z) = over (ap is_idle w.calls ∙ z)
      by e w (goes_on f) = closing y (rw (w.clocks, f table time k.clocks) a) b

-- ---- a timer that ends the call, up to a time D at the latest

data Course (q : ℕ) (x : Begun) (D G E : ℕ) (k : Kept) : Type 0 where
  still : k.clocks (get_or numbers q 0) ≡ some x → k.last < D + G → Course q x D G E k
  later : Ending? E k → Course q x D G E k

module _ (q : ℕ) (x : Begun) (D G L E : ℕ) (soon : end x ≤ D) (room : D + G + L ≤ E + 1) (k : Kept) (h : Holds k) where
  -- an accepted reading while the timer runs
  in_time : (d : Turn) → Punctual G L k d → (outcome k.timed d).answer ≡ 0 → k.clocks (get_or numbers q 0) ≡ some x → k.last < D + G → time_of d < D + G
  in_time d p zero runs b =
      let taken = is_taken_lem k.timed d zero in
      decide (leb (time_of d) k.last) (λ z. let same = leb-true (time_of d) k.last z in omega (arith, same, b))
      (λ z.
      let late = leb-false (time_of d) k.last z in
      let before = not_late k.last (k.clocks (get_or numbers q 0)) x runs (p.settled taken late (get_or numbers q 0)) in
      let gap = p.gap taken in
      omega (arith, before, gap, soon))

  -- T308 started by a turn then
  closes_by : (d : Turn) → InReach k d → Punctual G L k d → time_of d < D + G → (u : Clocks) (ms : List Message) → every? (λ m. fine messages m) ms ≡ true → every? limits ms ≡ true
      → (then k d).clocks ≡ noted_all (table_of d) (time_of d) u ms → u 308 ≡ none → runs (then k d).timed.call T308 ≡ true → Ending? E (then k d)
  closes_by d i p early u ms ok l is no-308 now =
      let y = some_runs (then k d) (holds_then k h d i) 4 (lit< tt) now in
      let bound : Within E ((then k d).clocks 308) =
      rw is
      (noted_all_at (table_of d) (time_of d) 308 (Within E) tt (λ o f g. let any = t308_any (table_of d) o in let most = p.short in omega (arith, any, most, early, room)) u ms ok l (rw no-308 tt)) in
      closing y.0 y.1 (within_is E ((then k d).clocks 308) y.0 y.1 bound)

  course_lapsed : Ending q → (table : List ℕ) (time : ℕ) (buffer : List ℕ) (i : InReach k (due table time buffer)) → Punctual G L k (due table time buffer)
      → (r : Lapsed k.timed table time buffer) → Course q x D G E k → Course q x D G E (then k (due table time buffer))
  course_lapsed e table time buffer i p r (later z) = later (end_lapsed E k h table time buffer i r z)
  course_lapsed e table time buffer i p r (still a b) =
      let c = k.timed.call in
      let d = due table time buffer in
      let v = clock_row k h table time buffer i r in
      let first = first_index k h table time buffer i r in
      let least = p_small k h table time buffer i r in
      let n = n₀ k h table time buffer i r in
      let runs-q = runs_so k h q (small e) x a in
      let zero = answered k.timed d r.gives refl in
      let early = in_time d p zero a b in
      let alone = not_beside (few v) q (small e) (not_four e) runs-q in
      decide (eqb n 311)
      (λ z.
      let at : first ≡ 6 = eqb-true first 6 (sym (same_index first least).1 ∙ z) in
      let runs_311 : runs c T311 ≡ true = rw at at (p_runs k h table time buffer i r) in
      let ten = with_311 v runs_311 e runs-q in
      still (rw ten (same_310 k h table time buffer i r z ∙ (rw ten at a))) (rw (last_taken k d zero) early))
      (λ z.
      let not_four_first : eqb first 4 ≡ false = decide (eqb first 4) (λ y. apart (rw (eqb-true first 4 y) at (p_runs k h table time buffer i r)) alone) (λ y. y) in
      let closes-row = row_closes (row k h table time buffer i r) v z ((same_index first least).0 ∙ not_four_first) in
      let u = lapse_turn k.timed time buffer in
      later
      (closes_by d i p early (dropped n k.clocks) (Steps.written_by c u) (step_in_range c u (kept c h.reach)) (limits_at c u) (clocks_then k h table time buffer i r)
      (by_test (eqb 308 n) none (k.clocks 308) (λ w. w ≡ none) (λ y. refl) (λ y. none_runs_lem k h 4 (lit< tt) alone))
      (ap (λ (g : Call). runs g T308) (call_then k h table time buffer i r) ∙ closes-row)))

  course_quiet : (d : Turn) → InReach k d → Punctual G L k d → ({n place : ℕ} → Refused k.timed d n place → Course q x D G E k → Course q x D G E (then k d))
  course_quiet d i p r (later z) = later (end_refused E k h d r z)
  course_quiet d i p r (still a b) = still (rw (clocks_refused k d r) a) (rw (last_refused k d r) b)

  course_waited : (table : List ℕ) (time : ℕ) (buffer : List ℕ) → Punctual G L k (due table time buffer) → Waited k.timed table time buffer → Course q x D G E k
      → Course q x D G E (then k (due table time buffer))
  course_waited table time buffer p r (later z) = later (end_waited E k h table time buffer r z)
  course_waited table time buffer p r (still a b) =
      let zero = answered k.timed (due table time buffer) r.gives refl in
      still (rw (clocks_waited k table time buffer r) a) (rw (last_taken k (due table time buffer) zero) (in_time (due table time buffer) p zero a b))

  course_stepped : Watched q → (table : List ℕ) (time : ℕ) (event buffer : List ℕ) → InReach k (step table time event buffer) → Punctual G L k (step table time event buffer)
      → Stepped k.timed table time event buffer → has_word (taken_by k.timed (step table time event buffer)) ≡ false
      → asks_anew (taken_by k.timed (step table time event buffer)) ≡ false → Course q x D G E k → Course q x D G E (then k (step table time event buffer))
  course_stepped y table time event buffer i p r silent none-asked (later z) = later (end_stepped E k h table time event buffer r silent none-asked z)
  course_stepped y table time event buffer i p r silent none-asked (still a b) =
      let w = plain k h table time event buffer r silent in
      let runs-q = runs_so k h q (small (ending y)) x a in
      by w.0 w.1 (fate w.1.row (clocked k.timed.call h.reach) w.1.no_word w.1.no_expiry y runs-q)
    where
      early : time < D + G
      early = in_time (step table time event buffer) p (answered k.timed (step table time event buffer) r.gives refl) a b

      by : (e : Event) → Plain k table time event buffer e → Fate (row_for k.timed.call e) (get_or numbers q 0) → Course q x D G E (then k (step table time event buffer))
      by e w (ends z) = later (over (ap is_idle w.calls ∙ z))
      by e w (closes z) =
          later
          (closes_by (step table time event buffer) i p early k.clocks (Steps.written_by k.timed.call (turn_of event buffer)) (step_in_range k.timed.call (turn_of event buffer) (kept k.timed.call h.reach)) (limits_at k.timed.call (turn_of event buffer))
          (w.clocks ∙ sym (ap (noted_all table time k.clocks) (writes_row k.timed.call (turn_of event buffer) e w.takes)))
          (none_runs_lem k h 4 (lit< tt) (not_beside (few (clocked k.timed.call h.reach)) q (small (ending y)) (not_four (ending y)) (runs_so k h q (small (ending y)) x a)))
          (ap (λ (g : Call). runs g T308) w.calls ∙ z))
      by e w (stays f) = still (rw (w.clocks, f table time k.clocks) a) (rw (last_taken k (step table time event buffer) (answered k.timed (step table time event buffer) r.gives refl)) early)

-- ---- runs

module _ (q : ℕ) (x : Begun) (D G L E : ℕ) (soon : end x ≤ D) (room : D + G + L ≤ E + 1) where
  course_then : Watched q → (k : Kept) → Holds k → {d : Turn} → Did k.timed d → InReach k d → Punctual G L k d → has_word (taken_by k.timed d) ≡ false
      → asks_anew (taken_by k.timed d) ≡ false → Course q x D G E k → Course q x D G E (then k d)
  course_then y k h (refused {d} r) i p s n z = course_quiet q x D G L E soon room k h d i p r z
  course_then y k h (waited {table} {time} {buffer} r) i p s n z = course_waited q x D G L E soon room k h table time buffer p r z
  course_then y k h (stepped {table} {time} {event} {buffer} r) i p s n z = course_stepped q x D G L E soon room k h y table time event buffer i p r s n z
  course_then y k h (lapsed {table} {time} {buffer} r) i p s n z = course_lapsed q x D G L E soon room k h (ending y) table time buffer i p r z

  course_after : Watched q → (k : Kept) → Holds k → (es : List Turn) → AllInReach k es → Silent k es → NoneAsked k es → AllPunctual G L k es → Course q x D G E k
      → Course q x D G E (after k es)
  unfolding after
  course_after y k h [] i s n p z = z
  course_after y k h (d ∷ es) i s n p z =
      course_after y (then k d) (holds_then k h d i.0) es i.1 s.1 n.1 p.1 (course_then y k h (did k.timed d) i.0 p.0 s.0 n.0 z)

  course_due : Ending q → (k : Kept) → Holds k → (table : List ℕ) (time : ℕ) (buffer : List ℕ) → Did k.timed (due table time buffer) → InReach k (due table time buffer)
      → Punctual G L k (due table time buffer) → Course q x D G E k → Course q x D G E (then k (due table time buffer))
  course_due y k h table time buffer (refused r) i p z = course_quiet q x D G L E soon room k h (due table time buffer) i p r z
  course_due y k h table time buffer (waited r) i p z = course_waited q x D G L E soon room k h table time buffer p r z
  course_due y k h table time buffer (lapsed r) i p z = course_lapsed q x D G L E soon room k h y table time buffer i p r z

  course_dues : Ending q → (k : Kept) → Holds k → (es : List Turn) → AllInReach k es → only_due es ≡ true → AllPunctual G L k es → Course q x D G E k → Course q x D G E (after k es)
  unfolding after
  course_dues y k h [] i o p z = z
  course_dues y k h (step table time event buffer ∷ es) i o p z = apart o refl
  course_dues y k h (due table time buffer ∷ es) i o p z =
      let d = due table time buffer in
      course_dues y (then k d) (holds_then k h d i.0) es i.1 o p.1 (course_due y k h table time buffer (did k.timed d) i.0 p.0 z)

fresh_idle : (k : Kept) → Holds k → is_idle k.timed.call ≡ true → k.timed.call ≡ fresh_call
fresh_idle k h z = h.reach.is ∙ idle_is_fresh h.reach.turns (sym (ap is_idle h.reach.is) ∙ z)

ending_over : (E G now : ℕ) (k : Kept) → Holds k → Settled k → now < k.last + G → E + (G - 1) ≤ now → Ending? E k → k.timed.call ≡ fresh_call
ending_over E G now k h s a b (over z) = fresh_idle k h z
ending_over E G now k h s a b (closing y c d) = let before = not_late k.last (k.clocks 308) y c (s 308) in absurd (omega (arith, before, a, b, d))

course_over : (q : ℕ) (x : Begun) (D G L E now : ℕ) → end x ≤ D → D + G + L ≤ E + 1 → (k : Kept) → Holds k → Settled k → now < k.last + G → E + (G - 1) ≤ now → Course q x D G E k
    → k.timed.call ≡ fresh_call
course_over q x D G L E now soon room k h s a b (later z) = ending_over E G now k h s a b z
course_over q x D G L E now soon room k h s a b (still c d) =
    let before = not_late k.last (k.clocks (get_or numbers q 0)) x c (s (get_or numbers q 0)) in absurd (omega (arith, before, a, b, soon, room))

-- ---- the claims

pick : {A : Type 0} (a b : Bool) → (a || b) ≡ true → (a ≡ true → A) → (b ≡ true → A) → A
pick true b h f g = f refl
pick false b h f g = g h

watched : (n : ℕ) → ends_call n ≡ true → (q : ℕ) × (Watched q × (n ≡ get_or numbers q 0))
watched n h =
    pick (eqb n 301) _ h (λ e. (0, (w301, eqb-true n 301 e)))
    (λ h. pick (eqb n 302) _ h (λ e. (1, (w302, eqb-true n 302 e)))
    (λ h. pick (eqb n 303) _ h (λ e. (2, (w303, eqb-true n 303 e))) (λ e. (5, (w310, eqb-true n 310 e)))))

pub outlives : Outlives
outlives time ds es n D G L now x all i which runs soon before silent none-asked punctual settled a b =
    let k = after (made time) ds in
    let h = every_run time ds all in
    let w = watched n which in
    let q = w.0 in
    let E = D + L + (G - 1) in
    let room : D + G + L ≤ E + 1 = omega arith in
    let bound : E + (G - 1) ≤ now = omega (arith, b) in
    let at : k.clocks (get_or numbers q 0) ≡ some x = rw w.1.1 at runs in
    course_over q x D G L E now soon room (after k es) (holds_after k h es i) settled a bound
    (course_after q x D G L E soon room w.1.0 k h es i silent none-asked punctual (still at (omega (arith, before))))

pub in_silence : InSilence
in_silence time ds es n D G L now x all i which runs soon before only punctual settled a b =
    let k = after (made time) ds in
    let h = every_run time ds all in
    let w : (q : ℕ) × (Ending q × (n ≡ get_or numbers q 0)) =
    pick (ends_call n) (eqb n 306) which (λ e. let w = watched n e in (w.0, (ending w.1.0, w.1.1))) (λ e. (3, (e306, eqb-true n 306 e))) in
    let q = w.0 in
    let E = D + L + (G - 1) in
    let room : D + G + L ≤ E + 1 = omega arith in
    let bound : E + (G - 1) ≤ now = omega (arith, b) in
    let at : k.clocks (get_or numbers q 0) ≡ some x = rw w.1.1 at runs in
    course_over q x D G L E now soon room (after k es) (holds_after k h es i) settled a bound
    (course_dues q x D G L E soon room w.1.0 k h es i only punctual (still at (omega (arith, before))))

ending_then : (E : ℕ) (k : Kept) → Holds k → {d : Turn} → Did k.timed d → InReach k d → has_word (taken_by k.timed d) ≡ false → asks_anew (taken_by k.timed d) ≡ false
    → Ending? E k → Ending? E (then k d)
ending_then E k h (refused {d} r) i s n z = end_refused E k h d r z
ending_then E k h (waited {table} {time} {buffer} r) i s n z = end_waited E k h table time buffer r z
ending_then E k h (stepped {table} {time} {event} {buffer} r) i s n z = end_stepped E k h table time event buffer r s n z
ending_then E k h (lapsed {table} {time} {buffer} r) i s n z = end_lapsed E k h table time buffer i r z

ending_after : (E : ℕ) (k : Kept) → Holds k → (es : List Turn) → AllInReach k es → Silent k es → NoneAsked k es → Ending? E k → Ending? E (after k es)
unfolding after
ending_after E k h [] i s n z = z
ending_after E k h (d ∷ es) i s n z = ending_after E (then k d) (holds_then k h d i.0) es i.1 s.1 n.1 (ending_then E k h (did k.timed d) i.0 s.0 n.0 z)

pub closes_call : Closes
closes_call time ds es G L now y all i runs silent none-asked punctual settled a b =
    let k = after (made time) ds in
    let h = every_run time ds all in
    ending_over (end y) G now (after k es) (holds_after k h es i) settled a b (ending_after (end y) k h es i silent none-asked (closing y runs (omega arith)))
