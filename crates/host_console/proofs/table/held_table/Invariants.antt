-- Each part that is passed is held where the definition has it.
use Rattle.std.proofs.Common.{◌≡◌, length}
use Rattle.host_console.proofs.Tables.{held_first}
use Rattle.host_console.proofs.table.held_table.Given as goal

abbrev pub invariant-loop-k : goal.invariant-loop-k
invariant-loop-k l = (l.calls ≡ held_first l.k l.s) × (length l.s ≡ 176)
