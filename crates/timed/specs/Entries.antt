-- The three entries over a set: each one's answers in their order, and what each gives back.
use Rattle.std.specs.Prelude.{ℕ, ◌/◌, ◌%◌, Bool, false, cond, List, [], ◌∷◌, eqb, Result, Ok, Err, IfErr, ◌≡◌}
use Rattle.records.specs.declared.events.Event.{Event}
use Rattle.records.specs.Tables.{Read, taken, refused, read, flat}
use Rattle.records.specs.Events.{events}
use Rattle.timers.specs.Wrap.{forward, is_back}
use Rattle.callcontrol.specs.declared.step.Refusal.{Refusal as StepRefusal}
use Rattle.callcontrol.specs.Step.{answer_number, place_in}
use Rattle.demands.specs.Runs.{Turn, outcome}
use Rattle.timed.specs.declared.set.Timed.{Timed}
use Rattle.timed.specs.declared.set.Refusal.{Refusal}
use Rattle.timed.specs.declared.set.Stepped.{Stepped}
use Rattle.timed.specs.Set.{is_set, table_right, due_at, first_due, held_at, turned}

-- what comes back: the answer's number, the place that comes with it, the set, the count of bytes written, and the lent buffer then. The place
-- is the reader's with 4, 1 with 0 from due where a timer has expired, and 0 else
pub record Outcome : Type 0 where
  pub answer : ℕ
  pub place : ℕ
  pub timed : Timed
  pub count : ℕ
  pub buffer : List ℕ

-- a refusal counts 0 bytes, changes no byte and returns the set as given: the reading is not accepted
abbrev pub refusal_at : ℕ → ℕ → Timed → List ℕ → Outcome
refusal_at n place t buffer = record { answer = n; place = place; timed = t; count = 0; buffer = buffer }

abbrev pub refusal : ℕ → Timed → List ℕ → Outcome
refusal n t buffer = refusal_at n 0 t buffer

-- one turn of the step at a reading: where it is taken, what it writes and the set then, with a place; else the step's refusal
unfoldable pub of_turn : ℕ → Timed → List ℕ → ℕ → Turn → Outcome
of_turn place t lengths reading turn =
    cond (eqb (outcome t.call turn).answer 0)
    (record {
      answer = 0;
      place = place;
      timed = turned t lengths reading turn;
      count = (outcome t.call turn).count;
      buffer = (outcome t.call turn).buffer;
    })
    (refusal_at (outcome t.call turn).answer (outcome t.call turn).place t turn.buffer)

abbrev pub turn_of : List ℕ → List ℕ → Turn
turn_of event buffer = record { event = event; buffer = buffer }

-- the expiry (0401) of a timer
abbrev pub expiry_of : ℕ → List ℕ
expiry_of n = 6 ∷ 0 ∷ 1 ∷ 4 ∷ n % 256 ∷ n / 256 ∷ []

-- an expiry that reads well
abbrev pub is_expiry : Read Event → Bool
is_expiry (taken e) = eqb (flat events e).kind 0x0401
is_expiry (refused n place) = false

-- 1, 31 and 32, and then what follows
unfoldable pub when_ready : Timed → List ℕ → ℕ → List ℕ → Outcome → Outcome
when_ready t lengths reading buffer after =
    cond (is_set t)
    (cond (table_right lengths) (cond (is_back (forward t.bank.last reading)) (refusal 32 t buffer) after) (refusal 31 t buffer))
    (refusal 1 t buffer)

-- the step: the first number that applies in the order 1 31 32 34 2 3 9 4 35 5 6 8 7, and none otherwise
unfoldable pub step_of : Timed → List ℕ → ℕ → List ℕ → List ℕ → Outcome
step_of t lengths reading event buffer =
    when_ready t lengths reading buffer
    (cond (eqb (due_at t reading) 0)
    (cond (is_expiry (read events event)) (refusal 35 t buffer) (of_turn 0 t lengths reading (turn_of event buffer)))
    (refusal 34 t buffer))

-- due: where no timer is due the reading is accepted, and nothing else is done; else the first of those due expires
unfoldable pub due_of : Timed → List ℕ → ℕ → List ℕ → Outcome
due_of t lengths reading buffer =
    when_ready t lengths reading buffer
    (cond (eqb (due_at t reading) 0)
    (record { answer = 0; place = 0; timed = held_at t reading; count = 0; buffer = buffer })
    (of_turn 1 t lengths reading (turn_of (expiry_of (first_due t reading)) buffer)))

-- a refusal's number, and the place that comes with it
abbrev pub refusal_number : Refusal → ℕ
refusal_number Refusal.NoSet = 1
refusal_number Refusal.LengthOutOfRange = 31
refusal_number Refusal.ReadingEarlier = 32
refusal_number Refusal.TimerDue = 34
refusal_number Refusal.ExpiryHandedIn = 35
refusal_number (Refusal.OfStep e) = answer_number e

abbrev pub refusal_place : Refusal → ℕ
refusal_place Refusal.NoSet = 0
refusal_place Refusal.LengthOutOfRange = 0
refusal_place Refusal.ReadingEarlier = 0
refusal_place Refusal.TimerDue = 0
refusal_place Refusal.ExpiryHandedIn = 0
refusal_place (Refusal.OfStep e) = place_in e

-- the place with 0: 1 where a timer has expired
abbrev pub place_of : Bool → ℕ
place_of expired = cond expired 1 0

-- the code's result, for the set that was handed in: a refusal counts 0 bytes and leaves that set
abbrev pub as_outcome : Timed → Result Stepped Refusal → List ℕ → Outcome
as_outcome t (Ok r) buffer = record { answer = 0; place = place_of r.expired; timed = r.timed; count = r.count; buffer = buffer }
as_outcome t (Err e) buffer = refusal_at (refusal_number e) (refusal_place e) t buffer

-- an unsound record is no set, so that the step never says it: each refusal of the code has a number and place of its own
abbrev pub NotUnsound : Result Stepped Refusal → Type 0
NotUnsound r = IfErr r (λ e. e ≡ Refusal.OfStep StepRefusal.NotSound → ⊥)
