-- Each turn passes a whole record, which has 4 bytes at least, and lays its line. The measure is what is left of the block.
use Rattle.std.proofs.Common.{length}
use Rattle.calltrace.specs.Block.{Traced}
use Rattle.calltrace.proofs.block.drain.Given as goal

abbrev pub invariant-loop-block : goal.invariant-loop-block
invariant-loop-block l = Traced l.initial.block l.initial.call l.initial.lines l.block l.call l.lines

abbrev pub decreases-loop-block : goal.decreases-loop-block
decreases-loop-block l = length l.block
