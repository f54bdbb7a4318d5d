-- Bytes that are no record are refused; else the step's result is left.
use Rattle.host.proofs.Answers.{no_record, record_length, steps}
use Rattle.host.proofs.Small.{answered_small}
use Rattle.host_small.proofs.callcontrol_step.Goals as goal

pub returns-in_default : goal.returns-in_default
returns-in_default c = no_record _ _ _ c.in_default.ensures

pub leave-requires : goal.leave-requires
leave-requires c = (record_length _ c.in-Some.ensures, answered_small _ _ _ _ _ c.small_step.ensures)

pub returns : goal.returns
returns c = steps _ _ _ c.in-Some.ensures c.small_step.ensures (c.leave.ensures c.in-Some.before _)
