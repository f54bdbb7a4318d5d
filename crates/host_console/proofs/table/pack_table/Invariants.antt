-- Each part that is passed is packed.
use Rattle.std.proofs.Common.{◌≡◌, length, ◌≤◌}
use Rattle.host_console.proofs.Tables.{Packing}
use Rattle.host_console.proofs.table.pack_table.Given as goal

abbrev pub invariant-loop-place : goal.invariant-loop-place
invariant-loop-place l = Packing l.calls l.initial.s l.place l.s × (length l.calls ≡ 8) × (l.upto ≤ 8) × (length l.initial.s ≡ 176)
