-- A console host's run is the run of the console: each record of a run is sound, so that the bytes hold the table as it stands, and what a step
-- leaves is packed over them.
use Prim.Native.Nat.{ℕ, ◌/◌, ◌%◌, ◌≤◌}
use mathlib.Core.Path.{◌≡◌, refl, sym, ◌∙◌, ap}
use mathlib.Core.Bool.{Bool, true, false, cond}
use mathlib.Core.List.{List, [], ◌∷◌}
use native.Mathlib.Omega.{arith}
use borrow.Author.Tests.{eq-eqb, eqb-false}
use lib.Dec.{eqb}
use lib.ListN.{length}
use Rattle.callcontrol.specs.declared.call.Call.{Call}
use Rattle.console.specs.Table.{no_call, call_at, fresh_table}
use Rattle.console.specs.Console.{ConsoleOutcome}
use Rattle.console.specs.Runs.{ConsoleTurn, console_outcome, console_next, console_run}
use Rattle.console.proofs.Answering.{enough}
use Rattle.console.proofs.Demands.{records, messages, good, never_unsound, refuses_whole}
use Rattle.console.proofs.Heard.{reads_back}
use Rattle.console.proofs.Rooms.{console_few}
use Rattle.console.proofs.Twins.{Good, good_fresh, good_next}
use Rattle.host.specs.Packing.{packed}
use Rattle.host.specs.Entries.{word}
use Rattle.host_console.specs.Table.{packed_into, TableLeft, console_left, console_freshened, console_host_step}
use Rattle.host_console.specs.Runs.{table_turn, table_run, answered, TableIsPacked, PlaceIsPacked, TurnIsConsole, TurnNumbers, TurnMessages, TableReadsBack, TableNeverUnsound, TableEnough}
use Rattle.host.proofs.Packing.{items_drop, sound_is_unpacked}
use Rattle.host_console.proofs.Near.{console_near}
use Rattle.host_console.proofs.Packing.{part_at, into_length, over_any, packed_is_table, holds}

-- ---- one turn over the bytes of eight records that a run can have

module _ (calls : List Call) (s : List ℕ) (t : ConsoleTurn) (h : length s ≡ 176) (g : Good calls) where
  turn_packed : table_turn (packed_into calls s) t ≡ console_left (packed_into calls s) (console_outcome calls t)
  unfolding console_host_step console_outcome
  turn_packed =
      rw (
        packed_is_table calls s h,
        holds calls s h g.eight (λ k lt. sound_is_unpacked (call_at calls k) (g.kept k lt).meets (g.kept k lt).size),
      )

  bytes_packed : (table_turn (packed_into calls s) t).table ≡ packed_into (console_next calls t) s
  unfolding console_next
  bytes_packed = ap (λ (l : TableLeft). l.table) turn_packed ∙ by_answer (eqb (console_outcome calls t).answer 0) refl
    where
      by_answer : (b : Bool) → eqb (console_outcome calls t).answer 0 ≡ b
          → cond b (packed_into (console_outcome calls t).calls (packed_into calls s)) (packed_into calls s) ≡ packed_into (console_outcome calls t).calls s
      by_answer true e = over_any (console_outcome calls t).calls (packed_into calls s) s (into_length calls s h) h
      by_answer false e =
          ap (λ (o : ConsoleOutcome). packed_into o.calls s) (sym (refuses_whole calls t (console_outcome calls t).answer refl (eqb-false _ 0 e)))

-- ---- a run

run_packed : (calls : List Call) (s : List ℕ) (ts : List ConsoleTurn) → length s ≡ 176 → Good calls → table_run (packed_into calls s) ts ≡ packed_into (console_run calls ts) s
unfolding table_run console_run
run_packed calls s [] h g = refl
run_packed calls s (t ∷ ts) h g = rw (bytes_packed calls s t h g) (run_packed (console_next calls t) s ts h (good_next calls t g))

begun : (s : List ℕ) → length s ≡ 176 → (console_freshened s).1 ≡ packed_into fresh_table s
unfolding console_freshened
begun s h = rw (eq-eqb (length s) 176 h)

pub table_is_packed : TableIsPacked
table_is_packed s ts h = rw (begun s h) (run_packed fresh_table s ts h good_fresh)

pub place_is_packed : PlaceIsPacked
place_is_packed s ts k h lt =
    let calls = console_run fresh_table ts in
    rw (table_is_packed s ts h)
    (part_at calls s h k lt
    ∙ ap (λ (cs : List Call). packed (call_at cs k)) (items_drop 8 0 calls no_call (good ts).eight)
    ∙ ap packed (records ts k lt))

pub turn_is_console : TurnIsConsole
turn_is_console s ts t h = rw (table_is_packed s ts h) (turn_packed (console_run fresh_table ts) s t h (good ts))

-- ---- what a result says

numbers : (a p c r : ℕ) → p ≤ 255 → c ≤ 1016 → r ≡ word a p c → (r / 16777216 ≡ a) × (r / 65536 % 256 ≡ p) × (r % 65536 ≡ c)
numbers a p c r near few is = (omega arith, omega arith, omega arith)

pub turn_numbers : TurnNumbers
unfolding console_outcome
turn_numbers s ts t h =
    let calls = console_run fresh_table ts in
    numbers (answered ts t).answer (answered ts t).place (answered ts t).count _ (console_near calls t) (console_few calls t.place t.event t.buffer refl)
    (ap (λ (l : TableLeft). l.result) (turn_is_console s ts t h))

pub turn_messages : TurnMessages
turn_messages s ts t h =
    let m = messages (console_run fresh_table ts) t in
    ((turn_numbers s ts t h).2 ∙ m.0, ap (λ (l : TableLeft). l.out) (turn_is_console s ts t h) ∙ m.1)

pub table_reads_back : TableReadsBack
table_reads_back s ts t h = rw ((turn_numbers s ts t h).2, ap (λ (l : TableLeft). l.out) (turn_is_console s ts t h)) (reads_back ts t)

pub table_never_unsound : TableNeverUnsound
table_never_unsound s ts t h one = never_unsound ts t (sym (turn_numbers s ts t h).0 ∙ one)

pub table_enough : TableEnough
table_enough s ts t h lent seven = enough ts t lent (sym (turn_numbers s ts t h).0 ∙ seven)
