-- Five steps that the promise of the step must not allow, and that it allows none of them. proofs/WrongSteps shows an input on which each breaks it.
use Rattle.std.specs.Prelude.{ℕ, ◌+◌, ◌≡◌, cond, List, eqb}
use Rattle.callcontrol.specs.declared.call.Call.{Call}
use Rattle.callcontrol.specs.Call.{is_idle}
use Rattle.callcontrol.specs.Step.{Outcome, refusal, step_of}

-- what some step makes of a record, the bytes handed in and the lent buffer
abbrev pub Step : Type 0
Step = Call → List ℕ → List ℕ → Outcome

-- what `step` promises, asked of any step
abbrev pub Promise : Step → Type 0
Promise f = (c : Call) (event buffer : List ℕ) → f c event buffer ≡ step_of c event buffer

-- Each is as right as it can be otherwise: the answer, the record, the count and the buffer that it does not spoil are the true ones.

-- refuses everything, with one number
abbrev pub refuses_all : ℕ → Step
refuses_all n c event buffer = refusal n c buffer

-- has a single answer
abbrev pub single_answer : ℕ → Step
single_answer n c event buffer =
    record {
      answer = n;
      place = (step_of c event buffer).place;
      call = (step_of c event buffer).call;
      count = (step_of c event buffer).count;
      buffer = (step_of c event buffer).buffer;
    }

-- returns its record and writes nothing
abbrev pub writes_nothing : Step
writes_nothing c event buffer = record { answer = (step_of c event buffer).answer; place = (step_of c event buffer).place; call = c; count = 0; buffer = buffer }

-- works for the first event, the one that finds the record in IDLE, and then only says 0
abbrev pub first_only : Step
first_only c event buffer = cond (is_idle c) (step_of c event buffer) (record { answer = 0; place = 0; call = c; count = 0; buffer = buffer })

-- invents a count: one more than what was written
abbrev pub counts_more : Step
counts_more c event buffer =
    record {
      answer = (step_of c event buffer).answer;
      place = (step_of c event buffer).place;
      call = (step_of c event buffer).call;
      count = cond (eqb (step_of c event buffer).answer 0) ((step_of c event buffer).count + 1) 0;
      buffer = (step_of c event buffer).buffer;
    }

-- What is claimed; the proofs are in proofs/WrongSteps

-- the promise can be met,
abbrev pub PromiseMet : Type 0
PromiseMet = Promise step_of

-- and by none of the five
abbrev pub NotRefusesAll : Type 0
NotRefusesAll = (n : ℕ) → Promise (refuses_all n) → ⊥

abbrev pub NotSingleAnswer : Type 0
NotSingleAnswer = (n : ℕ) → Promise (single_answer n) → ⊥

abbrev pub NotWritesNothing : Type 0
NotWritesNothing = Promise writes_nothing → ⊥

abbrev pub NotFirstOnly : Type 0
NotFirstOnly = Promise first_only → ⊥

abbrev pub NotCountsMore : Type 0
NotCountsMore = Promise counts_more → ⊥
