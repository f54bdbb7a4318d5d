-- How the code reads a table: the key of each place, where it is eight sound records, no two alike, and else nothing.
use Rattle.std.specs.Prelude.{ℕ, ◌≡◌, true, false, ◌&&◌, List, Option, Some, None}
use Rattle.console.specs.declared.keys.Keys.{Keys}
use Rattle.console.specs.Table.{table_sound}
use Rattle.console.specs.Keys.{keys_from}
use Rattle.host_console.specs.Table.{is_table, held_table}

abbrev pub KeysOf : Option Keys → List ℕ → Type 0
KeysOf None s = (is_table s && table_sound (held_table s)) ≡ false
KeysOf (Some keys) s = ((is_table s && table_sound (held_table s)) ≡ true) × (keys.each ≡ keys_from 0 (held_table s))
