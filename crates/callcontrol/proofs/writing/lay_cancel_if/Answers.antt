-- CANCEL is laid where it is ordered; else nothing is.
use Rattle.callcontrol.specs.Writing.{lay_all}
use Rattle.callcontrol.proofs.writing.lay_cancel_if.Goals as goal

pub returns-then-flag : goal.returns-then-flag
unfolding lay_all
returns-then-flag c = record { is = rw c.if-flag.true c.lay_cancel.ensures }

pub returns : goal.returns
unfolding lay_all
returns c = record { is = rw c.if-flag.false }
