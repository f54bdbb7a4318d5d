-- One for each flag.
use Rattle.std.proofs.Common.{◌≡◌, arith}
use Rattle.callcontrol.specs.Writing.{count_of}
use Rattle.callcontrol.proofs.writing.count_of.Goals as goal

pub returns-clause-value : goal.returns-clause-value
unfolding count_of
returns-clause-value c = let end : c.loop-k.k ≡ 7 = omega arith in rw (c.loop-k.invariant, end) (omega arith)
