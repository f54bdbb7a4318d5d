-- What holds of both engines, as types: `step` of callcontrol and `small_step` here keep one promise, so they are one step, and a run of
-- the one is the run of the other. proofs/Engines has a proof of each.
use Rattle.std.specs.Prelude.{ℕ, ◌≡◌, List, [], ◌∷◌, Result}
use Rattle.callcontrol.specs.declared.call.Call.{Call}
use Rattle.callcontrol.specs.declared.step.Refusal.{Refusal}
use Rattle.callcontrol.specs.declared.step.Stepped.{Stepped}
use Rattle.callcontrol.specs.Step.{Outcome, step_of, as_outcome}
use Rattle.demands.specs.Runs.{Turn, outcome, run}
use Rattle.small.specs.Small.{small_of}

-- an engine: what it returns for a record, an event's bytes and a lent buffer, and the buffer then
abbrev pub Engine : Type 0
Engine = Call → List ℕ → List ℕ → Result Stepped Refusal × List ℕ

abbrev pub given : Engine → Call → Turn → Outcome
given f c t = as_outcome c (f c t.event t.buffer).0 (f c t.event t.buffer).1

-- the promise of `step`, and of `small_step`, word for word
abbrev pub Promised : Engine → Type 0
Promised f = (c : Call) (event buffer : List ℕ) → as_outcome c (f c event buffer).0 (f c event buffer).1 ≡ step_of c event buffer

pub record Equal (r₁ r₂ : Result Stepped Refusal) (b₁ b₂ : List ℕ) : Type 0 where
  pub result : r₁ ≡ r₂
  pub buffer : b₁ ≡ b₂

-- for every record, event and buffer both engines give the same refusal with its place, or the same record and count, and the same buffer
abbrev pub SameStep : Type 0
SameStep =
    (first second : Engine) → Promised first → Promised second → (c : Call) (event buffer : List ℕ) →
    Equal (first c event buffer).0 (second c event buffer).0 (first c event buffer).1 (second c event buffer).1

-- what the tables say, without a look at the code, is the step of the definitions
abbrev pub TablesAreStep : Type 0
TablesAreStep = (c : Call) (event buffer : List ℕ) → small_of c event buffer ≡ step_of c event buffer

-- the record after some turns of an engine
unfoldable pub engine_run : Engine → Call → List Turn → Call
engine_run f c [] = c
engine_run f c (t ∷ ts) = engine_run f (given f c t).call ts

-- a run of either engine is the run of the step: after any turns the same record, and in any turn after them the same answer, place, record,
-- count and buffer. So every statement of crate demands holds of it
abbrev pub SameRun : Type 0
SameRun =
    (f : Engine) → Promised f → (c : Call) (ts : List Turn) →
    (engine_run f c ts ≡ run c ts) × ((t : Turn) → given f (engine_run f c ts) t ≡ outcome (run c ts) t)

-- what an engine may give for a record and a turn: a result, and the buffer then
abbrev pub Gives : Type 1
Gives = Call → Turn → Result Stepped Refusal → List ℕ → Type 0

-- it gives nothing but what the promise of `step`, and of `small_step`, allows
abbrev pub Keeps : Gives → Type 0
Keeps g = (c : Call) (t : Turn) (r : Result Stepped Refusal) (b : List ℕ) → g c t r b → as_outcome c r b ≡ step_of c t.event t.buffer

-- some turns from a record on, in each anything that may be given, and the record that the last of them gave
pub data RunBy (g : Gives) : Call → List Turn → Call → Type 0 where
  none : {c : Call} → RunBy g c [] c
  turn : {c last : Call} {t : Turn} {ts : List Turn} {r : Result Stepped Refusal} {b : List ℕ} → g c t r b → RunBy g (as_outcome c r b).call ts last → RunBy g c (t ∷ ts) last

-- whatever either engine gives, turn after turn, the run of the second is the run of the first, and both are the step's: after any turns the
-- same record, and in any turn after them the same answer, place, record, count and buffer
abbrev pub OneRun : Type 1
OneRun =
    (first second : Gives) → Keeps first → Keeps second → (c one other : Call) (ts : List Turn) → RunBy first c ts one → RunBy second c ts other →
    (one ≡ run c ts) × (other ≡ run c ts)
    × ((t : Turn) (r₁ r₂ : Result Stepped Refusal) (b₁ b₂ : List ℕ) → first one t r₁ b₁ → second other t r₂ b₂ → Equal r₁ r₂ b₁ b₂)
