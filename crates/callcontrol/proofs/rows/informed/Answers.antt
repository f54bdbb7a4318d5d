-- The mode of before, or another.
use borrow.Author.Tests.{ne_eqb}
use Rattle.callcontrol.proofs.Settled.{informed_same_is, informed_other_is}
use Rattle.callcontrol.proofs.rows.informed.Goals as goal
use Rattle.callcontrol.proofs.rows.informed.Goals.{then-mode-call, else-mode-call}

pub returns : goal.returns
returns c =
    elim c.if-mode-call.branch [
      | then-mode-call w ↦
          rw (c.of.ensures, w.orders-is, c.slots_after.ensures, c.code_after.ensures, c.restarting.ensures.value)
          (informed_same_is _ _ _ _ _ w.if-mode-call.true)
      | else-mode-call w ↦
          rw (c.of.ensures, w.orders-is, c.slots_after.ensures, c.code_after.ensures, c.restarting.ensures.value)
          (informed_other_is _ _ _ _ _ (ne_eqb _ _ w.if-mode-call.false))
    ]
