-- Whether one of the seven is flagged.
use Rattle.std.proofs.Common.{arith}
use Rattle.callcontrol.proofs.Laying.{any_flags}
use Rattle.callcontrol.proofs.writing.any_of.Goals as goal

pub returns : goal.returns
returns c = rw c.contains.ensures.value (any_flags c.args.flags (omega arith))
