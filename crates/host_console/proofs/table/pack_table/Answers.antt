-- Each part that is passed is packed.
use Rattle.std.proofs.Common.{arith}
use Rattle.host_console.proofs.Tables.{pack_next}
use Rattle.host_console.proofs.table.pack_table.Goals as goal

pub loop-place-preserved : goal.loop-place-preserved
loop-place-preserved c = (pack_next _ _ _ c.loop-place.invariant.0 (omega arith) c.pack.ensures, c.loop-place.invariant.1, c.loop-place.invariant.2, c.loop-place.invariant.3)
