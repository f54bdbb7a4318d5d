-- None of the seven runs.
use Rattle.std.proofs.Common.{arith}
use Rattle.callcontrol.proofs.Laying.{none_runs}
use Rattle.callcontrol.proofs.call.Call.all_stopped.Goals as goal

pub returns : goal.returns
returns c = rw c.contains.ensures.value (none_runs c.args.self (omega arith))
