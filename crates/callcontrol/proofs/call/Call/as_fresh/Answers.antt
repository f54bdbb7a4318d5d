-- The definition is what the code tests.
use Rattle.callcontrol.specs.Call.{as_fresh}
use Rattle.callcontrol.proofs.call.Call.as_fresh.Goals as goal

pub returns : goal.returns
unfolding as_fresh
returns c = rw (c.all_stopped.ensures, c.is_up.ensures)
