-- The entries' answers in their order: 1, 31 and 32 for both, and what follows for each.
use Prim.Native.Nat.{ℕ}
use mathlib.Core.Path.{◌≡◌, refl, sym, ◌∙◌, ap, subst}
use mathlib.Core.Bool.{Bool, true, false, cond}
use mathlib.Core.List.{List}
use borrow.Author.Tests.{eqb-false}
use lib.Dec.{eqb}
use Rattle.std.specs.Prelude.{Option, Some, None, is_some, Result, Ok, Err}
use Rattle.records.specs.declared.bodies.Unreadable.{Unreadable}
use Rattle.records.specs.declared.events.Event.{Event}
use Rattle.records.specs.Bodies.{unreadable_number, unreadable_place}
use Rattle.records.specs.Tables.{taken, as_read, read}
use Rattle.records.specs.Events.{events}
use Rattle.timers.specs.Wrap.{forward, is_back}
use Rattle.timers.specs.Bank.{advanced_to}
use Rattle.timers.proofs.Tests.{decide}
use Rattle.callcontrol.specs.declared.step.Refusal.{Refusal as StepRefusal}
use Rattle.callcontrol.specs.Call.{sound}
use Rattle.callcontrol.specs.Step.{step_of as call_step_of}
use Rattle.demands.specs.Runs.{outcome}
use Rattle.demands.proofs.Facts.{left}
use Rattle.timed.specs.declared.set.Timed.{Timed}
use Rattle.timed.specs.declared.set.Refusal.{Refusal}
use Rattle.timed.specs.declared.set.Stepped.{Stepped}
use Rattle.timed.specs.declared.set.Ready.{Ready}
use Rattle.timed.specs.Set.{is_set, table_right, due_at, first_due, held_at}
use Rattle.timed.specs.Entries.{Outcome, refusal, refusal_at, refusal_number, refusal_place, as_outcome, of_turn, turn_of, expiry_of, is_expiry, when_ready, step_of, due_of}
use Rattle.timed.specs.Parts.{joined, first_at, ready_at, an_expiry, of_event, Readable}
use Rattle.timed.proofs.Taking.{as_turn}
use Rattle.timed.proofs.Expiries.{expiry_reads, first_is_timer}

-- a set that is ready for a reading
pub record Accepting (t : Timed) (lengths : List ℕ) (reading : ℕ) (ready : Ready) : Type 0 where
  pub set : is_set t ≡ true
  pub table : table_right lengths ≡ true
  pub ahead : is_back (forward t.bank.last reading) ≡ false
  pub first : ready.first ≡ first_at t reading
  pub timed : ready.timed ≡ record { call = t.call; bank = advanced_to t.bank reading }

-- by the three tests
abbrev by_tests : Timed → ℕ → (a b c : Bool) → Result Ready Refusal
by_tests t reading a b c =
    cond a
    (cond b
    (cond c (Err Refusal.ReadingEarlier) (Ok (record { first = first_at t reading; timed = record { call = t.call; bank = advanced_to t.bank reading } })))
    (Err Refusal.LengthOutOfRange))
    (Err Refusal.NoSet)

module _ (t : Timed) (lengths : List ℕ) (reading : ℕ) where
  accepted_by : (a b c : Bool) → is_set t ≡ a → table_right lengths ≡ b → is_back (forward t.bank.last reading) ≡ c → (ready : Ready) → Ok ready ≡ by_tests t reading a b c
      → Accepting t lengths reading ready
  accepted_by false b c p q r ready is = cc
  accepted_by true false c p q r ready is = cc
  accepted_by true true true p q r ready is = cc
  accepted_by true true false p q r ready is =
      let same : ready ≡ record { first = first_at t reading; timed = record { call = t.call; bank = advanced_to t.bank reading } } = cc in
      record { set = p; table = q; ahead = r; first = ap (λ (x : Ready). x.first) same; timed = ap (λ (x : Ready). x.timed) same }

  pub accepting : (ready : Ready) → Ok ready ≡ ready_at t lengths reading → Accepting t lengths reading ready
  unfolding ready_at
  accepting ready is = accepted_by (is_set t) (table_right lengths) (is_back (forward t.bank.last reading)) refl refl refl ready is

  refused_by : (a b c : Bool) (e : Refusal) (buffer : List ℕ) (after : Outcome) → Err e ≡ by_tests t reading a b c
      → refusal_at (refusal_number e) (refusal_place e) t buffer ≡ cond a (cond b (cond c (refusal 32 t buffer) after) (refusal 31 t buffer)) (refusal 1 t buffer)
  refused_by false b c e buffer after is = let same : e ≡ Refusal.NoSet = cc in rw same
  refused_by true false c e buffer after is = let same : e ≡ Refusal.LengthOutOfRange = cc in rw same
  refused_by true true true e buffer after is = let same : e ≡ Refusal.ReadingEarlier = cc in rw same
  refused_by true true false e buffer after is = cc

  -- 1, 31 and 32
  pub not_ready : (e : Refusal) (buffer : List ℕ) (after : Outcome) → Err e ≡ ready_at t lengths reading
      → refusal_at (refusal_number e) (refusal_place e) t buffer ≡ when_ready t lengths reading buffer after
  unfolding ready_at when_ready
  not_ready e buffer after is = refused_by (is_set t) (table_right lengths) (is_back (forward t.bank.last reading)) e buffer after is

  known_by : (a b c : Bool) (e : Refusal) → Err e ≡ by_tests t reading a b c → e ≡ Refusal.OfStep StepRefusal.NotSound → ⊥
  known_by false b c e is own = let same : Refusal.NoSet ≡ Refusal.OfStep StepRefusal.NotSound = cc in cc
  known_by true false c e is own = let same : Refusal.LengthOutOfRange ≡ Refusal.OfStep StepRefusal.NotSound = cc in cc
  known_by true true true e is own = let same : Refusal.ReadingEarlier ≡ Refusal.OfStep StepRefusal.NotSound = cc in cc
  known_by true true false e is own = cc

  -- which is not the step's
  pub not_own : (e : Refusal) → Err e ≡ ready_at t lengths reading → e ≡ Refusal.OfStep StepRefusal.NotSound → ⊥
  unfolding ready_at
  not_own e is = known_by (is_set t) (table_right lengths) (is_back (forward t.bank.last reading)) e is

  pub goes_on : (ready : Ready) (buffer : List ℕ) (after : Outcome) → Accepting t lengths reading ready → after ≡ when_ready t lengths reading buffer after
  unfolding when_ready
  goes_on ready buffer after a = rw (a.set, a.table, a.ahead)

  set_sound : {ready : Ready} → Accepting t lengths reading ready → sound t.call ≡ true
  unfolding is_set
  set_sound a = left _ _ a.set

  pub is_sound : {ready : Ready} → Accepting t lengths reading ready → sound ready.timed.call ≡ true
  is_sound a = rw a.timed (set_sound a)

  -- what was said of the set whose bank has accepted the reading is said of the set that was given
  pub of_given : {ready : Ready} (place : ℕ) (e : Event) (buffer after : List ℕ) (r : Result Stepped Refusal) → Accepting t lengths reading ready
      → as_outcome (record ready.timed { bank = t.bank }) r after ≡ of_event place (record ready.timed { bank = t.bank }) ready.timed.bank lengths e buffer
      → as_outcome t r after ≡ of_event place t (advanced_to t.bank reading) lengths e buffer
  of_given place e buffer after r a is =
      subst (λ (x : Timed). as_outcome (record x { bank = t.bank }) r after ≡ of_event place (record x { bank = t.bank }) x.bank lengths e buffer) a.timed is

-- the first timer due, by how many are

none_first : (t : Timed) (reading : ℕ) → first_at t reading ≡ None → eqb (due_at t reading) 0 ≡ true
unfolding first_at
none_first t reading e = decide (eqb (due_at t reading) 0) (λ q. q) (λ q. let z : Some (first_due t reading) ≡ None = rw q at e in cc)

some_first : (t : Timed) (reading timer : ℕ) → first_at t reading ≡ Some timer → (eqb (due_at t reading) 0 ≡ false) × (timer ≡ first_due t reading)
unfolding first_at
some_first t reading timer e =
    decide (eqb (due_at t reading) 0) (λ q. let z : ◌≡◌ {A = Option ℕ} None (Some timer) = rw q at e in cc)
    (λ q. let z : Some (first_due t reading) ≡ Some timer = rw q at e in (q, cc))

pub some_is : (o : Option ℕ) → is_some o ≡ true → (k : ℕ) × (o ≡ Some k)
some_is None h = cc
some_is (Some k) h = (k, refl)

pub none_is : (o : Option ℕ) → is_some o ≡ false → o ≡ None
none_is None h = refl
none_is (Some k) h = cc

-- ---- the step

module _ (t : Timed) (lengths : List ℕ) (reading : ℕ) (event buffer : List ℕ) (ready : Ready) (a : Accepting t lengths reading ready) where
  -- 34
  pub timer_due : (timer : ℕ) → ready.first ≡ Some timer → refusal 34 t buffer ≡ step_of t lengths reading event buffer
  unfolding step_of
  timer_due timer some = rw (← goes_on t lengths reading ready buffer _ a, (some_first t reading timer (sym a.first ∙ some)).0)

  -- where none is due
  none_due : ready.first ≡ None → step_of t lengths reading event buffer ≡ cond (is_expiry (read events event)) (refusal 35 t buffer) (of_turn 0 t lengths reading (turn_of event buffer))
  unfolding step_of
  none_due none = rw (← goes_on t lengths reading ready buffer _ a, none_first t reading (sym a.first ∙ none))

  -- 2, 3, 9 and 4
  unread_by : (u : Unreadable) → as_read {A = Event} (Err u) ≡ read events event
      → refusal_at (unreadable_number u) (unreadable_place u) t buffer
      ≡ cond (is_expiry (read events event)) (refusal 35 t buffer) (of_turn 0 t lengths reading (turn_of event buffer))
  unfolding of_turn outcome call_step_of
  unread_by Unreadable.BadLength is = rw (← is, set_sound t lengths reading a)
  unread_by Unreadable.UnknownKind is = rw (← is, set_sound t lengths reading a)
  unread_by Unreadable.Retired is = rw (← is, set_sound t lengths reading a)
  unread_by (Unreadable.BadBody place) is = rw (← is, set_sound t lengths reading a)

  pub unread : (u : Unreadable) → as_read {A = Event} (Err u) ≡ read events event → ready.first ≡ None
      → refusal_at (unreadable_number u) (unreadable_place u) t buffer ≡ step_of t lengths reading event buffer
  unread u is none = unread_by u is ∙ sym (none_due none)

  -- 35
  pub handed_in : (e : Event) → taken e ≡ read events event → an_expiry e ≡ true → ready.first ≡ None → refusal 35 t buffer ≡ step_of t lengths reading event buffer
  handed_in e is expiry none = sym (none_due none ∙ rw (← is, expiry))

  -- and the step itself
  pub stepped : (e : Event) (after : List ℕ) (r : Result Stepped Refusal) → taken e ≡ read events event → an_expiry e ≡ false → ready.first ≡ None
      → as_outcome (record ready.timed { bank = t.bank }) r after ≡ of_event 0 (record ready.timed { bank = t.bank }) ready.timed.bank lengths e buffer
      → as_outcome t r after ≡ step_of t lengths reading event buffer
  stepped e after r is other none o =
      of_given t lengths reading 0 e buffer after r a o ∙ as_turn 0 t lengths reading event buffer e (set_sound t lengths reading a) (sym is)
      ∙ sym (none_due none ∙ rw (← is, other))

-- ---- due

module _ (t : Timed) (lengths : List ℕ) (reading : ℕ) (ready : Ready) (a : Accepting t lengths reading ready) where
  -- the expiry of the first timer due is an event
  first_reads : (timer : ℕ) → ready.first ≡ Some timer → read events (expiry_of timer) ≡ taken (Event.Expiry timer)
  first_reads timer some =
      let s = some_first t reading timer (sym a.first ∙ some) in
      expiry_reads timer (rw s.1 (first_is_timer t.bank reading (eqb-false (due_at t reading) 0 s.0)))

  pub readable : (timer : ℕ) → ready.first ≡ Some timer → Readable (Event.Expiry timer)
  readable timer some = (expiry_of timer, first_reads timer some)

  pub expired : (timer : ℕ) (buffer after : List ℕ) (r : Result Stepped Refusal) → ready.first ≡ Some timer
      → as_outcome (record ready.timed { bank = t.bank }) r after ≡ of_event 1 (record ready.timed { bank = t.bank }) ready.timed.bank lengths (Event.Expiry timer) buffer
      → as_outcome t r after ≡ due_of t lengths reading buffer
  unfolding due_of
  expired timer buffer after r some o =
      let s = some_first t reading timer (sym a.first ∙ some) in
      let turn : as_outcome t r after ≡ of_turn 1 t lengths reading (turn_of (expiry_of timer) buffer)
      = of_given t lengths reading 1 (Event.Expiry timer) buffer after r a o
      ∙ as_turn 1 t lengths reading (expiry_of timer) buffer (Event.Expiry timer) (set_sound t lengths reading a) (first_reads timer some) in
      rw (← goes_on t lengths reading ready buffer _ a, s.0, ← s.1) turn

  pub quiet : (buffer : List ℕ) → ready.first ≡ None
      → ◌≡◌ {A = Outcome} (record { answer = 0; place = 0; timed = joined t.call ready.timed.bank; count = 0; buffer = buffer }) (due_of t lengths reading buffer)
  unfolding due_of held_at
  quiet buffer none = rw (← goes_on t lengths reading ready buffer _ a, none_first t reading (sym a.first ∙ none), a.timed)
