-- No order for any timer, or each in turn.
use Rattle.std.proofs.Common.{◌≡◌, arith}
use borrow.Author.Tests.{eq-eqb, ne_eqb}
use Rattle.callcontrol.specs.Settle.{ordered_by}
use Rattle.callcontrol.proofs.settle.Timing.ordered_by.Goals as goal

pub returns-then-orders-eq0 : goal.returns-then-orders-eq0
unfolding ordered_by
returns-then-orders-eq0 c = rw (eq-eqb _ _ c.if-orders-eq0.true)

pub returns : goal.returns
unfolding ordered_by
returns c =
    let end : c.loop-k-2.k ≡ 5 = omega arith in
    rw (ne_eqb _ _ c.if-orders-eq0.false, c.limit_if.ensures, c.has-2.ensures, c.loop-k-2.invariant, end)
