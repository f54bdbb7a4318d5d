-- A run as a console host makes it: callcontrol_console_fresh once, then callcontrol_console_step again and again over the same 176 bytes. It is
-- the run of the console over the eight records that the bytes hold, so that what is proved of every run of it is said of what a host calls.
use Rattle.std.specs.Prelude.{ℕ, ◌*◌, ◌/◌, ◌%◌, ◌≤◌, ◌<◌, ◌≡◌, List, [], ◌∷◌, length, take}
use Rattle.std.proofs.lemmas.List.Edits.{sets}
use Rattle.callcontrol.specs.Call.{fresh_call}
use Rattle.callcontrol.specs.Writing.{bytes_of}
use Rattle.demands.specs.Runs.{run}
use Rattle.demands.specs.Demands.{Reads}
use Rattle.console.specs.Table.{fresh_table}
use Rattle.console.specs.Console.{ConsoleOutcome}
use Rattle.console.specs.Runs.{ConsoleTurn, console_outcome, console_run, framed}
use Rattle.console.specs.Demands.{turns_at}
use Rattle.host.specs.Packing.{packed}
use Rattle.host.specs.Entries.{ANSWER, PLACE}
use Rattle.host_console.specs.Table.{record_at, packed_into, TableLeft, console_left, console_freshened, console_host_step}

-- one call of the entry
abbrev pub table_turn : List ℕ → ConsoleTurn → TableLeft
table_turn s t = console_host_step s t.place t.event t.buffer

-- the table's bytes after some turns
unfoldable pub table_run : List ℕ → List ConsoleTurn → List ℕ
table_run s [] = s
table_run s (t ∷ ts) = table_run (table_turn s t).table ts

-- from eight fresh records on, whatever stood in the 176 bytes
abbrev pub table_after : List ℕ → List ConsoleTurn → List ℕ
table_after s ts = table_run (console_freshened s).1 ts

-- what the console answers in one more turn
abbrev pub answered : List ConsoleTurn → ConsoleTurn → ConsoleOutcome
answered ts t = console_outcome (console_run fresh_table ts) t

-- the bytes are those of the run's eight records
abbrev pub TableIsPacked : Type 0
TableIsPacked = (s : List ℕ) (ts : List ConsoleTurn) → length s ≡ 176 → table_after s ts ≡ packed_into (console_run fresh_table ts) s

-- and each part is the record of the step's own run over the turns that went to its place
abbrev pub PlaceIsPacked : Type 0
PlaceIsPacked =
    (s : List ℕ) (ts : List ConsoleTurn) (k : ℕ) → length s ≡ 176 → k < 8 → record_at (k * 22) (table_after s ts) ≡ packed (run fresh_call (turns_at k ts))

-- one more turn gives the result, the bytes and the buffer of the console on the run's records
abbrev pub TurnIsConsole : Type 0
TurnIsConsole =
    (s : List ℕ) (ts : List ConsoleTurn) (t : ConsoleTurn) →
    length s ≡ 176 → table_turn (table_after s ts) t ≡ console_left (packed_into (console_run fresh_table ts) s) (answered ts t)

-- answer, place and count are read off the result
abbrev pub TurnNumbers : Type 0
TurnNumbers =
    (s : List ℕ) (ts : List ConsoleTurn) (t : ConsoleTurn) →
    length s ≡ 176 →
    ((table_turn (table_after s ts) t).result / ANSWER ≡ (answered ts t).answer)
    × ((table_turn (table_after s ts) t).result / PLACE % 256 ≡ (answered ts t).place)
    × ((table_turn (table_after s ts) t).result % PLACE ≡ (answered ts t).count)

-- the bytes that it counts are the places' messages, each place's behind its record 0605, and the others are as they were lent
abbrev pub TurnMessages : Type 0
TurnMessages =
    (s : List ℕ) (ts : List ConsoleTurn) (t : ConsoleTurn) →
    length s ≡ 176 →
    ((table_turn (table_after s ts) t).result % PLACE ≡ length (bytes_of (framed (console_run fresh_table ts) t)))
    × ((table_turn (table_after s ts) t).out ≡ sets t.buffer 0 (bytes_of (framed (console_run fresh_table ts) t)))

-- and they read so, record after record
abbrev pub TableReadsBack : Type 0
TableReadsBack =
    (s : List ℕ) (ts : List ConsoleTurn) (t : ConsoleTurn) →
    length s ≡ 176 →
    Reads (take ((table_turn (table_after s ts) t).result % PLACE) (table_turn (table_after s ts) t).out) (framed (console_run fresh_table ts) t)

-- 1 never comes back
abbrev pub TableNeverUnsound : Type 0
TableNeverUnsound =
    (s : List ℕ) (ts : List ConsoleTurn) (t : ConsoleTurn) → length s ≡ 176 → (table_turn (table_after s ts) t).result / ANSWER ≡ 1 → ⊥

-- nor does 7 where 184 bytes are lent
abbrev pub TableEnough : Type 0
TableEnough =
    (s : List ℕ) (ts : List ConsoleTurn) (t : ConsoleTurn) →
    length s ≡ 176 → 184 ≤ length t.buffer → (table_turn (table_after s ts) t).result / ANSWER ≡ 7 → ⊥
