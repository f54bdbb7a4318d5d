-- The flags gone through.
use Rattle.std.proofs.Common.{◌≡◌}
use Rattle.callcontrol.proofs.Laying.{count_to}
use Rattle.callcontrol.proofs.writing.count_of.Given as goal

abbrev pub invariant-loop-k : goal.invariant-loop-k
invariant-loop-k l = l.count ≡ count_to l.k l.fn.flags
