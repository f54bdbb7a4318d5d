-- The definition is what the code tests.
use Rattle.callcontrol.specs.Call.{timers_agree}
use Rattle.callcontrol.proofs.call.Call.timers_agree.Goals as goal

pub returns : goal.returns
unfolding timers_agree
returns c = rw c.is_restoring.ensures
