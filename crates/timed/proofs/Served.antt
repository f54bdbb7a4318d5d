-- What the entries answer in a run: due takes every expiry, a step after it is the step's own, and how many bytes are written.
use Prim.Native.Nat.{ℕ, ◌-◌, ◌≤◌}
use mathlib.Core.Path.{◌≡◌, refl, sym, ◌∙◌, ap}
use mathlib.Core.Bool.{Bool, true, false, cond}
use mathlib.Core.List.{List}
use mathlib.Core.Option.{some}
use native.Mathlib.Omega.{arith}
use borrow.Author.Tests.{eqb-true, eqb-false}
use lib.Dec.{eqb, lit≤}
use lib.ListN.{length, get_or}
use Rattle.records.specs.declared.events.Event.{Event}
use Rattle.records.specs.declared.events.Event.TheVariants.{Expiry}
use Rattle.records.specs.Tables.{read, taken}
use Rattle.records.specs.Events.{events}
use Rattle.timers.specs.Wrap.{shown, forward, is_back}
use Rattle.timers.specs.Due.{numbers}
use Rattle.timers.specs.Bank.{keys_at, advanced_to}
use Rattle.timers.proofs.Tests.{decide}
use Rattle.timers.proofs.Wrapping.{not_back, ahead}
use Rattle.callcontrol.specs.declared.call.Call.{Call}
use Rattle.callcontrol.specs.Call.{runs, sound}
use Rattle.callcontrol.specs.Step as Step
use Rattle.demands.specs.Runs as Steps
use Rattle.demands.proofs.Facts.{left}
use Rattle.demands.proofs.Turns.{Accepted, accepts}
use Rattle.demands.proofs.Demands.{at_most_32, zero_is_taken, refuses}
use Rattle.timed.specs.declared.set.Timed.{Timed}
use Rattle.timed.specs.Set.{new_of, same_flags, is_set, table_right, due_at, first_due, held_at, turned}
use Rattle.timed.specs.Entries as Entries
use Rattle.timed.specs.Entries.{Outcome, of_turn, turn_of, expiry_of, is_expiry, when_ready, step_of, due_of}
use Rattle.timed.specs.Runs.{Turn, step, due, outcome, run, steps_in, Kept, made, after, InReach}
use Rattle.timed.specs.Demands.{as_step, AsTheStep, DueAnswersZero, DueInReach, AtMost32, DueAtMost30}
use Rattle.timed.proofs.Turns.{Did, Waited, refused, waited, stepped, lapsed, did, next_is, lapse_turn, due_waited}
use Rattle.timed.proofs.Together.{Joined, bank_is_record, follows_step, stays_set, is_set_lem}
use Rattle.timed.proofs.Reach.{Reach, kept, expiry_short, expiry_taken, reads_expiry}
use Rattle.timed.proofs.Keys.{first_runs}
use Rattle.timed.proofs.Holding.{Holds, every_run}

pub reach_run : (reading : ℕ) (ds : List Turn) → Reach (run (new_of reading) ds).call
reach_run reading ds = record { turns = steps_in (new_of reading) ds; is = follows_step reading ds }

-- ---- (b)

-- the expiry that due makes is taken where 30 bytes are lent
lapse_taken : (t : Timed) → Joined t → Reach t.call → (time : ℕ) (buffer : List ℕ) → eqb (due_at t (shown time)) 0 ≡ false → 30 ≤ length buffer
    → (Steps.outcome t.call (lapse_turn t time buffer)).answer ≡ 0
lapse_taken t j r time buffer z room =
    let f = first_runs t.bank (shown time) (eqb-false (due_at t (shown time)) 0 z) in
    let now : runs t.call f.0 ≡ true = sym (ap (λ (l : List Bool). get_or l f.0 false) j) ∙ f.1.2 in
    rw f.1.1 (expiry_taken t.call r f.0 f.1.0 now buffer room)

due_zero : (t : Timed) → is_set t ≡ true → Joined t → Reach t.call → (table : List ℕ) (time : ℕ) (buffer : List ℕ) → table_right table ≡ true
    → is_back (forward t.bank.last (shown time)) ≡ false → 30 ≤ length buffer → (outcome t (due table time buffer)).answer ≡ 0
unfolding outcome due_of when_ready of_turn
due_zero t s j r table time buffer right back room =
    decide (eqb (due_at t (shown time)) 0) (λ z. rw (s, right, back, z))
    (λ z. rw (s, right, back, z, lapse_taken t j r time buffer z room))

pub due_answers_zero : DueAnswersZero
due_answers_zero reading ds table time buffer right back room =
    due_zero (run (new_of reading) ds) (stays_set reading ds) (bank_is_record reading ds) (reach_run reading ds) table time buffer right back room

-- a reading in reach is not earlier by the counter
pub due_zero_at : (k : Kept) → Holds k → (table : List ℕ) (t : ℕ) (buffer : List ℕ) → InReach k (due table t buffer) → table_right table ≡ true → 30 ≤ length buffer
    → (outcome k.timed (due table t buffer)).answer ≡ 0
due_zero_at k h table t buffer i right room =
    let back : is_back (forward k.timed.bank.last (shown t)) ≡ false =
    rw (h.shows.at, ahead k.last t i.not_earlier i.soon) (not_back (t - k.last) (let soon = i.soon in omega (arith, soon))) in
    due_zero k.timed (is_set_lem k.timed h.joined (kept k.timed.call h.reach).meets) h.joined h.reach table t buffer right back room

pub due_in_reach : DueInReach
due_in_reach time ds table t buffer all i right room = due_zero_at (after (made time) ds) (every_run time ds all) table t buffer i right room

-- ---- (f)

short_turn : (t : Timed) → Reach t.call → (u : Steps.Turn) → (Steps.outcome t.call u).count ≤ 32
short_turn t r u = rw r.is (at_most_32 r.turns u)

pub at_most_32_set : AtMost32
at_most_32_set reading ds d = by (did (run (new_of reading) ds) d)
  where
    by : {e : Turn} → Did (run (new_of reading) ds) e → (outcome (run (new_of reading) ds) e).count ≤ 32
    by (refused r) = rw r.gives (lit≤ tt)
    by (waited r) = rw r.gives (lit≤ tt)
    by (stepped r) = rw r.gives (short_turn (run (new_of reading) ds) (reach_run reading ds) _)
    by (lapsed r) = rw r.gives (short_turn (run (new_of reading) ds) (reach_run reading ds) _)

short_lapse : (c : Call) → Reach c → (u : Steps.Turn) (n : ℕ) → Steps.taken_by c u ≡ some (Expiry n) → (Steps.outcome c u).count ≤ 30
short_lapse c r u n h =
    let a = accepts c u (Expiry n) h in
    rw a.gives (expiry_short c n r a.row)

due_short : (t : Timed) → Joined t → Reach t.call → (table : List ℕ) (time : ℕ) (buffer : List ℕ) → Did t (due table time buffer)
    → (outcome t (due table time buffer)).count ≤ 30
unfolding Steps.taken_by
due_short t j r table time buffer (refused d) = rw d.gives (lit≤ tt)
due_short t j r table time buffer (waited d) = rw d.gives (lit≤ tt)
due_short t j r table time buffer (lapsed d) =
    let f = first_runs t.bank (shown time) (eqb-false (due_at t (shown time)) 0 d.some_due) in
    let n = get_or numbers f.0 0 in
    let reads : read events (expiry_of (first_due t (shown time))) ≡ taken (Expiry n) = rw f.1.1 (reads_expiry f.0 f.1.0) in
    let takes : Steps.taken_by t.call (lapse_turn t time buffer) ≡ some (Expiry n) = rw (d.taken, reads) in
    rw d.gives (short_lapse t.call r (lapse_turn t time buffer) n takes)

pub due_at_most_30 : DueAtMost30
due_at_most_30 reading ds table time buffer =
    due_short (run (new_of reading) ds) (bank_is_record reading ds) (reach_run reading ds) table time buffer (did (run (new_of reading) ds) (due table time buffer))

-- ---- (g)

-- the set after due with place 0
module _ (t : Timed) (j : Joined t) (s : is_set t ≡ true) (table : List ℕ) (time : ℕ) (lent : List ℕ) (w : Waited t table time lent) where
  set_again : is_set (held_at t (shown time)) ≡ true
  unfolding held_at is_set
  set_again = is_set_lem (held_at t (shown time)) refl (left (sound t.call) (same_flags t.bank.running t.call.timers) s)

  none_again : eqb (due_at (held_at t (shown time)) (shown time)) 0 ≡ true
  unfolding held_at keys_at advanced_to
  none_again = rw (← j) w.none_due

  same_reading : is_back (forward (held_at t (shown time)).bank.last (shown time)) ≡ false
  unfolding held_at advanced_to
  same_reading = rw (ahead time time (omega arith) (omega arith)) (not_back (time - time) (omega arith))

  same_call : (held_at t (shown time)).call ≡ t.call
  unfolding held_at
  same_call = refl

  step_is : (event buffer : List ℕ) → is_expiry (read events event) ≡ false
      → outcome (held_at t (shown time)) (step table time event buffer) ≡ of_turn 0 (held_at t (shown time)) table (shown time) (turn_of event buffer)
  unfolding outcome step_of when_ready
  step_is event buffer x = rw (set_again, w.ready.right, same_reading, none_again, x)

  expiry_is : (event buffer : List ℕ) → is_expiry (read events event) ≡ true
      → outcome (held_at t (shown time)) (step table time event buffer) ≡ Entries.refusal 35 (held_at t (shown time)) buffer
  unfolding outcome step_of when_ready
  expiry_is event buffer x = rw (set_again, w.ready.right, same_reading, none_again, x)

refused_is : (c : Call) (u : Steps.Turn) → ((Steps.outcome c u).answer ≡ 0 → ⊥)
    → Steps.outcome c u ≡ Step.refusal_at (Steps.outcome c u).answer (Steps.outcome c u).place c u.buffer
unfolding Steps.outcome
refused_is c u h = refuses c u.event u.buffer (Steps.outcome c u).answer refl h

-- a turn of the step on a set, as of the step
taken_is : (t : Timed) (table : List ℕ) (reading : ℕ) (u : Steps.Turn) (e : Event) → Accepted t.call u e → as_step (of_turn 0 t table reading u) ≡ Steps.outcome t.call u
unfolding of_turn turned
taken_is t table reading u e a = rw (a.leaves, a.gives)

turn_is : (t : Timed) (table : List ℕ) (reading : ℕ) (u : Steps.Turn) → as_step (of_turn 0 t table reading u) ≡ Steps.outcome t.call u
unfolding of_turn
turn_is t table reading u =
    decide (eqb (Steps.outcome t.call u).answer 0)
    (λ z. let e = zero_is_taken t.call u (eqb-true (Steps.outcome t.call u).answer 0 z) in taken_is t table reading u e.0 (accepts t.call u e.0 e.1))
    (λ z. rw z (sym (refused_is t.call u (eqb-false (Steps.outcome t.call u).answer 0 z))))

answered_so : (t : Timed) → Joined t → is_set t ≡ true → (table : List ℕ) (time : ℕ) (lent event buffer : List ℕ) → Waited t table time lent
    → as_step (outcome (held_at t (shown time)) (step table time event buffer)) ≡ cond (is_expiry (read events event)) (Step.refusal 35 t.call buffer) (Steps.outcome t.call (turn_of event buffer))
unfolding held_at
answered_so t j s table time lent event buffer w =
    decide (is_expiry (read events event))
    (λ x. rw (expiry_is t j s table time lent w event buffer x, x))
    (λ x. rw (step_is t j s table time lent w event buffer x, x) (turn_is (held_at t (shown time)) table (shown time) (turn_of event buffer)))

pub as_the_step : AsTheStep
as_the_step reading ds table time lent event buffer zero none =
    let t = run (new_of reading) ds in
    let w = due_waited t table time lent (did t (due table time lent)) zero none in
    rw (next_is t (due table time lent) w.gives)
    (answered_so t (bank_is_record reading ds) (stays_set reading ds) table time lent event buffer w)
