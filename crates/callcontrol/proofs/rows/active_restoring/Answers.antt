-- A restoration is the row of that name.
use Rattle.callcontrol.proofs.Settled.{restored_is}
use Rattle.callcontrol.specs.Rows.{active_restoring}
use Rattle.callcontrol.proofs.rows.active_restoring.Goals as goal

pub returns-in-DCallRestore : goal.returns-in-DCallRestore
unfolding active_restoring
returns-in-DCallRestore c =
    rw (c.in-DCallRestore.is, c.of.ensures, c.code_after.ensures, c.asked_after.ensures, c.restarting-timer.ensures.value, c.plane_granted-plane.ensures.value) (restored_is _ _ _ _)
