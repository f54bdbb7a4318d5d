-- Each part that is passed is held where the definition has it.
use Rattle.std.proofs.Common.{arith}
use Rattle.host_console.proofs.Tables.{all_held}
use Rattle.host_console.proofs.table.held_table.Goals as goal

pub returns : goal.returns
returns c = all_held c.args.s.now c.loop-k.k c.loop-k.invariant.0 (omega arith)
