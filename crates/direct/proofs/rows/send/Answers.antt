-- The messages are measured, and then laid one after the other.
use Rattle.std.proofs.Common.{arith}
use Rattle.direct.specs.Messages.{sizes_of}
use Rattle.direct.proofs.Carried.{none_laid, unsent, all_sent, one_measured, too_many, one_more, all_measured, all_laid}
use Rattle.direct.proofs.rows.send.Goals as goal

pub loop-message-init : goal.loop-message-init
unfolding sizes_of
loop-message-init c = omega arith

pub returns-then-room-size : goal.returns-then-room-size
returns-then-room-size c = unsent _ _ _ (too_many _ _ _ c.loop-message-test.true c.loop-message.invariant c.size-size.ensures c.if-room-size.true)

pub loop-message-preserved : goal.loop-message-preserved
loop-message-preserved c = one_measured _ _ _ c.loop-message-test.true c.loop-message.invariant c.size-size.ensures c.if-room-size.false

pub loop-message-2-init : goal.loop-message-2-init
loop-message-2-init c = none_laid

pub loop-message-2-preserved : goal.loop-message-2-preserved
loop-message-2-preserved c = one_more _ _ _ c.loop-message-2-test.true _ _ _ (all_measured _ _ c.loop-message-test.false _ c.loop-message.invariant) c.loop-message-2.invariant c.lay-count.ensures

pub returns : goal.returns
returns c = all_sent _ _ _ _ _ (all_measured _ _ c.loop-message-test.false _ c.loop-message.invariant) (all_laid _ _ c.loop-message-2-test.false c.loop-message-2.invariant)
