-- What holds of the packed table; the proofs are in proofs/Packing. That the entries' promises leave no choice is said of their own contracts, in proofs/Determined.
use Rattle.std.specs.Prelude.{ℕ, ◌<◌, ◌≡◌, true, List, length, get_or}
use Rattle.callcontrol.specs.declared.call.Call.{Call}
use Rattle.console.specs.Table.{call_at, table_sound}
use Rattle.host.specs.Laws.{Fitting}
use Rattle.host_console.specs.Table.{is_table, held_table, packed_into}

-- any records that are packed into any 176 bytes are a table
abbrev pub PackedIsTable : Type 0
PackedIsTable = (calls : List Call) (s : List ℕ) → length s ≡ 176 → is_table (packed_into calls s) ≡ true

-- and eight that fit are held as the same records
abbrev pub PackedTableIsHeld : Type 0
PackedTableIsHeld =
    (calls : List Call) (s : List ℕ) →
    length s ≡ 176 → length calls ≡ 8 → ((k : ℕ) → k < 8 → Fitting (call_at calls k)) → held_table (packed_into calls s) ≡ calls

abbrev pub SoundTableIsHeld : Type 0
SoundTableIsHeld =
    (calls : List Call) (s : List ℕ) →
    length s ≡ 176 → table_sound calls ≡ true → ((k : ℕ) → k < 8 → length (call_at calls k).timers ≡ 7) → held_table (packed_into calls s) ≡ calls

-- what a table holds is packed as the same bytes, over itself as over any other 176
abbrev pub HeldTableIsPacked : Type 0
HeldTableIsPacked =
    (s over : List ℕ) → ((i : ℕ) → get_or s i 0 < 256) → is_table s ≡ true → length over ≡ 176 → packed_into (held_table s) over ≡ s
