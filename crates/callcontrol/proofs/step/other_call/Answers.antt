-- By what the event names.
use Rattle.callcontrol.specs.Step.{other_call}
use Rattle.callcontrol.proofs.step.other_call.Goals as goal

pub returns : goal.returns
unfolding other_call
returns c = rw (← c.named_in.ensures, c.in-Some.is, c.is_idle.ensures)
