-- The console's entries: what each returns, and what it leaves in the lent slices. A table is eight records one after the other.
use Rattle.std.specs.Prelude.{Result, Ok, Err, ℕ, zero, suc, ◌*◌, Bool, cond, ◌&&◌, List, [], ◌∷◌, eqb, length, take, drop}
use Rattle.std.proofs.lemmas.List.Edits.{sets}
use Rattle.callcontrol.specs.declared.call.Call.{Call}
use Rattle.console.specs.declared.route.ConsoleRefusal.{ConsoleRefusal}
use Rattle.console.specs.Table.{call_at, fresh_table}
use Rattle.console.specs.Route.{console_number, console_place}
use Rattle.console.specs.Console.{ConsoleOutcome, console_of}
use Rattle.host.specs.Packing.{packed, is_record, held}
use Rattle.host.specs.Entries.{word}

-- the bytes of the record that begins at a position
abbrev pub record_at : ℕ → List ℕ → List ℕ
record_at at s = take 22 (drop at s)

-- 176 bytes, and each of the eight parts is a record
unfoldable pub is_table : List ℕ → Bool
is_table s =
    eqb (length s) 176 && is_record (record_at 0 s) && is_record (record_at 22 s) && is_record (record_at 44 s) && is_record (record_at 66 s)
    && is_record (record_at 88 s) && is_record (record_at 110 s) && is_record (record_at 132 s) && is_record (record_at 154 s)

-- the records that a table's bytes hold
unfoldable pub held_table : List ℕ → List Call
held_table s =
    held (record_at 0 s) ∷ held (record_at 22 s) ∷ held (record_at 44 s) ∷ held (record_at 66 s) ∷ held (record_at 88 s) ∷ held (record_at 110 s)
    ∷ held (record_at 132 s) ∷ held (record_at 154 s) ∷ []

-- a record into its part
abbrev pub packed_at : ℕ → Call → List ℕ → List ℕ
packed_at at c s = sets s at (packed c)

-- the first of some records, each into its part
abbrev pub packed_first : ℕ → List Call → List ℕ → List ℕ
packed_first zero calls s = s
packed_first (suc k) calls s = packed_at (22 * k) (call_at calls k) (packed_first k calls s)

-- eight records into a table's bytes
unfoldable pub packed_into : List Call → List ℕ → List ℕ
packed_into calls s =
    packed_at 154 (call_at calls 7)
    (packed_at 132 (call_at calls 6)
    (packed_at 110 (call_at calls 5)
    (packed_at 88 (call_at calls 4)
    (packed_at 66 (call_at calls 3) (packed_at 44 (call_at calls 2) (packed_at 22 (call_at calls 1) (packed_at 0 (call_at calls 0) s)))))))

-- eight fresh records into 176 bytes; 1 for another length
unfoldable pub console_freshened : List ℕ → ℕ × List ℕ
console_freshened s = cond (eqb (length s) 176) (word 0 0 176, packed_into fresh_table s) (word 1 0 0, s)

-- what a step leaves: the result, the table's bytes and the lent buffer
pub record TableLeft : Type 0 where
  pub result : ℕ
  pub table : List ℕ
  pub out : List ℕ

-- a refused step leaves table and buffer byte for byte
abbrev pub console_left : List ℕ → ConsoleOutcome → TableLeft
console_left s o =
    record
    { result = word o.answer o.place o.count; table = cond (eqb o.answer 0) (packed_into o.calls s) s; out = o.buffer }

-- what the code has of it: how many bytes it wrote, or why it is refused
abbrev pub as_left : Result ℕ ConsoleRefusal → List ℕ → List ℕ → TableLeft
as_left (Ok count) table out = record { result = count; table = table; out = out }
as_left (Err e) table out = record { result = word (console_number e) (console_place e) 0; table = table; out = out }

-- bytes that are no table are answer 1
unfoldable pub console_host_step : List ℕ → ℕ → List ℕ → List ℕ → TableLeft
console_host_step s place event out =
    cond (is_table s) (console_left s (console_of (held_table s) place event out)) (record { result = word 1 0 0; table = s; out = out })
