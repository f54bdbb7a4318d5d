-- Both engines are one step, since their promise leaves no choice; and the tables say that step.
use Prim.Native.Nat.{ℕ}
use mathlib.Core.Path.{◌≡◌, refl, ◌∙◌, ap}
use mathlib.Core.Bool.{cond}
use mathlib.Core.List.{List, [], ◌∷◌}
use Rattle.std.proofs.Common.{Bool, Option, None, Some, Result}
use mathlib.Core.Option as maybe
use Rattle.records.specs.declared.events.Event.{Event}
use Rattle.records.specs.Bodies.{kind_in}
use Rattle.records.specs.Tables.{Read, taken, refused, or_refuse, read, read_as}
use Rattle.records.specs.Events.{events}
use Rattle.callcontrol.specs.declared.call.Call.{Call}
use Rattle.callcontrol.specs.declared.row.Row.{Row}
use Rattle.callcontrol.specs.declared.step.Refusal.{Refusal}
use Rattle.callcontrol.specs.declared.step.Stepped.{Stepped}
use Rattle.callcontrol.specs.Call.{sound, is_idle}
use Rattle.callcontrol.specs.Settle.{settled}
use Rattle.callcontrol.specs.Step.{Outcome, refusal, carried, when_read, step_of, as_outcome}
use Rattle.callcontrol.proofs.Determined.{step}
use Rattle.demands.specs.Runs.{Turn, outcome, next, run}
use Rattle.small.specs.declared.flat.Flat.{Flat}
use Rattle.small.specs.Flat.{flat_of}
use Rattle.small.specs.Line.{table_row}
use Rattle.small.specs.Reading.{kind_by, flatted}
use Rattle.small.specs.Small.{names_other, over_flat, with_row, decided_by, carried_by, tabled, when_flat, small_of}
use Rattle.small.specs.Engines.{Engine, Promised, given, Equal, engine_run, Gives, Keeps, RunBy, none, turn, SameStep, TablesAreStep, SameRun, OneRun}
use Rattle.small.proofs.Carrying.{whole}
use Rattle.small.proofs.Deciding.{decided_is}
use Rattle.small.proofs.Entries.{kind_is}

-- two results that one outcome allows
equal : (c : Call) (o : Outcome) (r₁ r₂ : Result Stepped Refusal) (b₁ b₂ : List ℕ) → as_outcome c r₁ b₁ ≡ o → as_outcome c r₂ b₂ ≡ o → Equal r₁ r₂ b₁ b₂
equal c o r₁ r₂ b₁ b₂ p q = let w = step c o r₁ r₂ b₁ b₂ p q in record { result = w.0; buffer = w.1 }

pub same_step : SameStep
same_step first second p q c event buffer = equal c (step_of c event buffer) _ _ _ _ (p c event buffer) (q c event buffer)

-- by the tables

carried_is : (c : Call) (r : Row) (b : List ℕ) → carried_by c r b ≡ carried c (settled c r) b
unfolding carried_by carried
carried_is c r b = rw (whole c r) refl

with_is : (o : Option Row) (over : Bool) (c : Call) (b : List ℕ)
    → with_row o (refusal 6 c b) (λ r. cond over (refusal 8 c b) (carried_by c r b)) ≡ with_row o (refusal 6 c b) (λ r. cond over (refusal 8 c b) (carried c (settled c r) b))
with_is None over c b = refl
with_is (Some r) over c b = rw (carried_is c r b) refl

tabled_is : (c : Call) (f : Flat) (b : List ℕ) → tabled c f b ≡ decided_by c f b
unfolding tabled decided_by
tabled_is c f b = ap (λ (o : Outcome). cond (names_other f.kind f.id c.id (is_idle c)) (refusal 5 c b) o) (with_is (table_row c f) (over_flat f.kind c.plane) c b)

flat_is : (w : Read Event) (c : Call) (b : List ℕ) → when_flat (flatted c w) c b ≡ when_read w c b
flat_is (taken e) c b = tabled_is c (flat_of c e) b ∙ decided_is c e b
flat_is (refused n p) c b = refl

head_is : (h : maybe.Option ℕ) (c : Call) (s : List ℕ) → or_refuse 2 h (λ n. kind_by n c s) ≡ flatted c (or_refuse 2 h (λ n. read_as events n s))
head_is maybe.none c s = refl
head_is (maybe.some n) c s = kind_is n c s

read_is : (c : Call) (s : List ℕ) → or_refuse 2 (kind_in s) (λ n. kind_by n c s) ≡ flatted c (read events s)
unfolding read
read_is c s = head_is (kind_in s) c s

pub tables_are_step : TablesAreStep
unfolding small_of step_of
tables_are_step c event buffer =
    ap (λ (o : Outcome). cond (sound c) o (refusal 1 c buffer))
    (ap (λ (w : Read Flat). when_flat w c buffer) (read_is c event) ∙ flat_is (read events event) c buffer)

-- runs

turn_is : (f : Engine) → Promised f → (c : Call) (t : Turn) → given f c t ≡ outcome c t
unfolding outcome
turn_is f p c t = p c t.event t.buffer

record_is : (f : Engine) → Promised f → (c : Call) (ts : List Turn) → engine_run f c ts ≡ run c ts
unfolding engine_run run next
record_is f p c [] = refl
record_is f p c (t ∷ ts) = ap (λ (o : Outcome). engine_run f o.call ts) (turn_is f p c t) ∙ record_is f p (outcome c t).call ts

pub same_run : SameRun
same_run f p c ts = (record_is f p c ts, λ t. rw (record_is f p c ts) (turn_is f p (run c ts) t))

record_by : (g : Gives) → Keeps g → {c last : Call} {ts : List Turn} → RunBy g c ts last → last ≡ run c ts
unfolding run next outcome
record_by g k none = refl
record_by g k (turn {c} {last} {t} {ts} {r} {b} h rest) =
    record_by g k rest ∙ ap (λ (x : Call). run x ts) (ap (λ (o : Outcome). o.call) (k c t r b h))

pub one_run : OneRun
unfolding outcome
one_run first second p q c one other ts r s =
    let x = record_by first p r in
    let y = record_by second q s in
    (x, y, λ t r₁ r₂ b₁ b₂ g h. equal (run c ts) (outcome (run c ts) t) r₁ r₂ b₁ b₂ (rw x at (p one t r₁ b₁ g)) (rw y at (q other t r₂ b₂ h)))
