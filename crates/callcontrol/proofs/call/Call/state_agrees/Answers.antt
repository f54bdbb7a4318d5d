-- The definition is what the code tests.
use Rattle.callcontrol.specs.Call.{state_agrees}
use Rattle.callcontrol.proofs.call.Call.state_agrees.Goals as goal

pub returns : goal.returns
unfolding state_agrees
returns c = rw (c.may_lack_id.ensures, c.is_wait.ensures, c.is_up-up.ensures, c.is_active-active.ensures)
