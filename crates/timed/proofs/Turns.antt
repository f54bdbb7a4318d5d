-- What a turn of a set does: it is refused, or waits, or makes one turn of the step.
use Prim.Native.Nat.{ℕ}
use mathlib.Core.Path.{◌≡◌, refl, ◌∙◌, ap}
use mathlib.Core.Bool.{true, false}
use mathlib.Core.List.{List, [], ◌∷◌}
use native.Mathlib.Omega.{arith}
use borrow.Author.Tests.{eqb-true, eqb-false}
use lib.Dec.{eqb}
use Rattle.records.specs.Tables.{read}
use Rattle.records.specs.Events.{events}
use Rattle.timers.specs.Wrap.{shown, forward, is_back}
use Rattle.timers.proofs.Tests.{decide}
use Rattle.demands.proofs.Facts.{apart}
use Rattle.demands.specs.Runs as Steps
use Rattle.timed.specs.declared.set.Timed.{Timed}
use Rattle.timed.specs.Set.{is_set, table_right, due_at, first_due, held_at, turned}
use Rattle.timed.specs.Entries as Entries
use Rattle.timed.specs.Entries.{Outcome, refusal_at, refusal, turn_of, expiry_of, is_expiry, when_ready, step_of, due_of}
use Rattle.timed.specs.Runs.{Turn, step, due, lent_to, outcome, is_taken, steps_by, next}

pub record Ready (t : Timed) (table : List ℕ) (reading : ℕ) : Type 0 where
  pub is_set_lem : is_set t ≡ true
  pub right : table_right table ≡ true
  pub not_earlier : is_back (forward t.bank.last reading) ≡ false

-- what comes back where a turn of the step is made
abbrev pub making : ℕ → Timed → List ℕ → ℕ → Steps.Turn → Outcome
making place t table reading turn =
    record {
      answer = 0;
      place = place;
      timed = turned t table reading turn;
      count = (Steps.outcome t.call turn).count;
      buffer = (Steps.outcome t.call turn).buffer;
    }

abbrev pub waiting : Timed → ℕ → List ℕ → Outcome
waiting t reading buffer = record { answer = 0; place = 0; timed = held_at t reading; count = 0; buffer = buffer }

-- 1 is for what is no set, or is the step's own
abbrev pub OnlyStep : Timed → ℕ → Type 0
OnlyStep t n = is_set t ≡ true → n ≡ 1 → (u : Steps.Turn) × ((Steps.outcome t.call u).answer ≡ 1)

pub record Refused (t : Timed) (d : Turn) (n place : ℕ) : Type 0 where
  pub number : n ≡ 0 → ⊥
  pub one : OnlyStep t n
  pub gives : outcome t d ≡ refusal_at n place t (lent_to d)
  pub steps : steps_by t d ≡ []

pub record Waited (t : Timed) (table : List ℕ) (time : ℕ) (buffer : List ℕ) : Type 0 where
  pub ready : Ready t table (shown time)
  pub none_due : eqb (due_at t (shown time)) 0 ≡ true
  pub gives : outcome t (due table time buffer) ≡ waiting t (shown time) buffer
  pub steps : steps_by t (due table time buffer) ≡ []

pub record Stepped (t : Timed) (table : List ℕ) (time : ℕ) (event buffer : List ℕ) : Type 0 where
  pub ready : Ready t table (shown time)
  pub none_due : eqb (due_at t (shown time)) 0 ≡ true
  pub no_expiry : is_expiry (read events event) ≡ false
  pub taken : (Steps.outcome t.call (turn_of event buffer)).answer ≡ 0
  pub gives : outcome t (step table time event buffer) ≡ making 0 t table (shown time) (turn_of event buffer)
  pub steps : steps_by t (step table time event buffer) ≡ turn_of event buffer ∷ []

abbrev pub lapse_turn : Timed → ℕ → List ℕ → Steps.Turn
lapse_turn t time buffer = turn_of (expiry_of (first_due t (shown time))) buffer

pub record Lapsed (t : Timed) (table : List ℕ) (time : ℕ) (buffer : List ℕ) : Type 0 where
  pub ready : Ready t table (shown time)
  pub some_due : eqb (due_at t (shown time)) 0 ≡ false
  pub taken : (Steps.outcome t.call (lapse_turn t time buffer)).answer ≡ 0
  pub gives : outcome t (due table time buffer) ≡ making 1 t table (shown time) (lapse_turn t time buffer)
  pub steps : steps_by t (due table time buffer) ≡ lapse_turn t time buffer ∷ []

pub data Did (t : Timed) : Turn → Type 0 where
  refused : {d : Turn} {n place : ℕ} → Refused t d n place → Did t d
  waited : {table : List ℕ} {time : ℕ} {buffer : List ℕ} → Waited t table time buffer → Did t (due table time buffer)
  stepped : {table : List ℕ} {time : ℕ} {event buffer : List ℕ} → Stepped t table time event buffer → Did t (step table time event buffer)
  lapsed : {table : List ℕ} {time : ℕ} {buffer : List ℕ} → Lapsed t table time buffer → Did t (due table time buffer)

not_zero : (n : ℕ) → eqb n 0 ≡ false → n ≡ 0 → ⊥
not_zero n e = eqb-false n 0 e

refuses : (t : Timed) (d : Turn) (n place : ℕ) → eqb n 0 ≡ false → OnlyStep t n → outcome t d ≡ refusal_at n place t (lent_to d) → Did t d
unfolding steps_by is_taken
refuses t (step table time event buffer) n place z one g =
    refused (record { number = not_zero n z; one = one; gives = g; steps = rw (g, z) })
refuses t (due table time buffer) n place z one g = refused (record { number = not_zero n z; one = one; gives = g; steps = rw (g, z) })

not_one : (t : Timed) (n : ℕ) → eqb n 1 ≡ false → OnlyStep t n
not_one t n z s e = absurd (eqb-false n 1 z e)

no_set : (t : Timed) → is_set t ≡ false → OnlyStep t 1
no_set t z s e = apart s z

module _ (t : Timed) (table : List ℕ) (time : ℕ) (buffer : List ℕ) where
  -- 1, 31 and 32, of either entry
  by_ready : (d : Turn) → lent_to d ≡ buffer → (o : Outcome) → outcome t d ≡ when_ready t table (shown time) buffer o
      → (Ready t table (shown time) → outcome t d ≡ o → Did t d) → Did t d
  unfolding when_ready
  by_ready d e o g f =
      decide (is_set t)
      (λ s.
      decide (table_right table)
      (λ r.
      decide (is_back (forward t.bank.last (shown time)))
      (λ b. refuses t d 32 0 refl (not_one t 32 refl) (rw e (g ∙ rw (s, r, b))))
      (λ b. f (record { is_set_lem = s; right = r; not_earlier = b }) (g ∙ rw (s, r, b))))
      (λ r. refuses t d 31 0 refl (not_one t 31 refl) (rw e (g ∙ rw (s, r)))))
      (λ s. refuses t d 1 0 refl (no_set t s) (rw e (g ∙ rw s)))

  did_due : Did t (due table time buffer)
  unfolding outcome due_of Entries.of_turn steps_by is_taken
  did_due =
      by_ready (due table time buffer) refl _ refl
      (λ y g.
      decide (eqb (due_at t (shown time)) 0)
      (λ z. let is : outcome t (due table time buffer) ≡ waiting t (shown time) buffer = g ∙ rw z in
      waited (record { ready = y; none_due = z; gives = is; steps = rw is }))
      (λ z.
      decide (eqb (Steps.outcome t.call (lapse_turn t time buffer)).answer 0)
      (λ a. let is : outcome t (due table time buffer) ≡ making 1 t table (shown time) (lapse_turn t time buffer) = g ∙ rw (z, a) in
      lapsed (record { ready = y; some_due = z; taken = eqb-true _ 0 a; gives = is; steps = rw is }))
      (λ a. refuses t (due table time buffer) (Steps.outcome t.call (lapse_turn t time buffer)).answer (Steps.outcome t.call (lapse_turn t time buffer)).place a (λ s e. (lapse_turn t time buffer, e)) (g ∙ rw (z, a)))))

  did_step : (event : List ℕ) → Did t (step table time event buffer)
  unfolding outcome step_of Entries.of_turn steps_by is_taken
  did_step event =
      by_ready (step table time event buffer) refl _ refl
      (λ y g.
      decide (eqb (due_at t (shown time)) 0)
      (λ z.
      decide (is_expiry (read events event))
      (λ x. refuses t (step table time event buffer) 35 0 refl (not_one t 35 refl) (g ∙ rw (z, x)))
      (λ x.
      decide (eqb (Steps.outcome t.call (turn_of event buffer)).answer 0)
      (λ a. let is : outcome t (step table time event buffer) ≡ making 0 t table (shown time) (turn_of event buffer) = g ∙ rw (z, x, a) in
      stepped (record { ready = y; none_due = z; no_expiry = x; taken = eqb-true _ 0 a; gives = is; steps = rw is }))
      (λ a. refuses t (step table time event buffer) (Steps.outcome t.call (turn_of event buffer)).answer (Steps.outcome t.call (turn_of event buffer)).place a (λ s e. (turn_of event buffer, e)) (g ∙ rw (z, x, a)))))
      (λ z. refuses t (step table time event buffer) 34 0 refl (not_one t 34 refl) (g ∙ rw z)))

pub did : (t : Timed) (d : Turn) → Did t d
did t (step table time event buffer) = did_step t table time buffer event
did t (due table time buffer) = did_due t table time buffer

-- what a turn gives back
pub next_is : (t : Timed) (d : Turn) {o : Outcome} → outcome t d ≡ o → next t d ≡ o.timed
unfolding next
next_is t d e = ap (λ (o : Outcome). o.timed) e

-- due that answers 0 has waited or made an expiry, by its place; a step that answers 0 was made
pub due_waited : (t : Timed) (table : List ℕ) (time : ℕ) (buffer : List ℕ) → Did t (due table time buffer) → (outcome t (due table time buffer)).answer ≡ 0
    → (outcome t (due table time buffer)).place ≡ 0 → Waited t table time buffer
due_waited t table time buffer (refused r) a p = absurd (r.number (rw r.gives at a))
due_waited t table time buffer (waited r) a p = r
due_waited t table time buffer (lapsed r) a p = let z : ◌≡◌ {A = ℕ} 1 0 = rw r.gives at p in absurd (omega (arith, z))

pub due_lapsed : (t : Timed) (table : List ℕ) (time : ℕ) (buffer : List ℕ) → Did t (due table time buffer) → (outcome t (due table time buffer)).answer ≡ 0
    → (outcome t (due table time buffer)).place ≡ 1 → Lapsed t table time buffer
due_lapsed t table time buffer (refused r) a p = absurd (r.number (rw r.gives at a))
due_lapsed t table time buffer (waited r) a p = let z : ◌≡◌ {A = ℕ} 0 1 = rw r.gives at p in absurd (omega (arith, z))
due_lapsed t table time buffer (lapsed r) a p = r

pub step_stepped : (t : Timed) (table : List ℕ) (time : ℕ) (event buffer : List ℕ) → Did t (step table time event buffer)
    → (outcome t (step table time event buffer)).answer ≡ 0 → Stepped t table time event buffer
step_stepped t table time event buffer (refused r) a = absurd (r.number (rw r.gives at a))
step_stepped t table time event buffer (stepped r) a = r
