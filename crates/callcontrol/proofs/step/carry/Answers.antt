-- The messages are counted, and laid where they fit.
use Rattle.callcontrol.specs.Settle.{as_draft}
use Rattle.callcontrol.proofs.Carried.{too_long, fitting}
use Rattle.callcontrol.proofs.step.carry.Goals as goal

pub returns-then-buffer-count : goal.returns-then-buffer-count
returns-then-buffer-count c = λ call. too_long call (as_draft c.args.draft) c.args.buffer.now _ c.messages_size-count.ensures c.if-buffer-count.true

pub returns : goal.returns
returns c =
    λ call. fitting call (as_draft c.args.draft) c.args.buffer.now _ _ _ c.messages_size-count.ensures c.if-buffer-count.false c.lay_messages.ensures
