-- The step by the tables: an event's numbers, the row that they find, and the messages that it orders.
use Rattle.std.specs.Prelude.{ℕ, Bool, false, cond, not, ◌&&◌, ◌||◌, List, Option, None, Some, leb, eqb, ltb, length}
use Rattle.std.proofs.lemmas.List.Edits.{sets}
use Rattle.records.specs.Bodies.{kind_in}
use Rattle.records.specs.Tables.{Read, taken, refused, or_refuse}
use Rattle.callcontrol.specs.declared.call.Call.{Call}
use Rattle.callcontrol.specs.declared.row.Row.{Row}
use Rattle.callcontrol.specs.Call.{sound, is_idle}
use Rattle.callcontrol.specs.Settle.{settled}
use Rattle.callcontrol.specs.Step.{Outcome, refusal, refusal_at, carried}
use Rattle.small.specs.declared.flat.Flat.{Flat}
use Rattle.small.specs.Flat.{D_CALL_PROCEEDING, D_RELEASE, D_SETUP, D_INFO}
use Rattle.small.specs.Line.{table_row}
use Rattle.small.specs.Reading.{kind_by}
use Rattle.small.specs.Places.{bytes_by}

-- a network event but D-SETUP that names another call
unfoldable pub names_other : ℕ → ℕ → ℕ → Bool → Bool
names_other kind id held idle =
    cond (ltb kind D_CALL_PROCEEDING) false
    (cond (ltb D_RELEASE kind) false (cond (eqb kind D_SETUP) false (not (eqb id held) && (not (eqb held 0) || idle))))

-- D-INFO while the set transmits
unfoldable pub over_flat : ℕ → ℕ → Bool
over_flat kind plane = eqb kind D_INFO && (eqb plane 1 || eqb plane 3)

-- what follows where there is a row, and else what is without one
abbrev pub with_row : Option Row → Outcome → (Row → Outcome) → Outcome
with_row None other f = other
with_row (Some r) other f = f r

-- 5, 6 and 8, and then what the row does
unfoldable pub decided_by : Call → Flat → List ℕ → Outcome
decided_by c f buffer =
    cond (names_other f.kind f.id c.id (is_idle c)) (refusal 5 c buffer)
    (with_row (table_row c f) (refusal 6 c buffer)
    (λ r. cond (over_flat f.kind c.plane) (refusal 8 c buffer) (carried c (settled c r) buffer)))

-- the same with the messages by the table
unfoldable pub carried_by : Call → Row → List ℕ → Outcome
carried_by c r buffer =
    cond (leb (length (bytes_by c r)) (length buffer))
    (record { answer = 0; place = 0; call = (settled c r).call; count = length (bytes_by c r); buffer = sets buffer 0 (bytes_by c r) })
    (refusal 7 c buffer)

unfoldable pub tabled : Call → Flat → List ℕ → Outcome
tabled c f buffer =
    cond (names_other f.kind f.id c.id (is_idle c)) (refusal 5 c buffer)
    (with_row (table_row c f) (refusal 6 c buffer)
    (λ r. cond (over_flat f.kind c.plane) (refusal 8 c buffer) (carried_by c r buffer)))

abbrev pub when_flat : Read Flat → Call → List ℕ → Outcome
when_flat (taken f) c buffer = tabled c f buffer
when_flat (refused n place) c buffer = refusal_at n place c buffer

-- the step by the tables of events, letters, rows and messages
unfoldable pub small_of : Call → List ℕ → List ℕ → Outcome
small_of c event buffer = cond (sound c) (when_flat (or_refuse 2 (kind_in event) (λ n. kind_by n c event)) c buffer) (refusal 1 c buffer)
