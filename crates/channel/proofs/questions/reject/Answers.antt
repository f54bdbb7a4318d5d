-- Room after room.
use Rattle.std.proofs.Common.{◌∙◌, arith, drop_of_length-le}
use Rattle.callcontrol.specs.Writing.{lay_all}
use Rattle.channel.proofs.Asking.{laid_on}
use Rattle.channel.proofs.questions.reject.Goals as goal
use Rattle.channel.proofs.questions.reject.Goals.{then-is_of_call, else-is_of_call}

pub loop-room-preserved : goal.loop-room-preserved
loop-room-preserved c =
    laid_on _ _ c.loop-room.room-index _ _ _ _ (omega arith)
    (elim c.if-is_of_call.branch [
      | then-is_of_call w ↦ rw (w.at-is, w.buffer-is, ← c.is_of_call.ensures, w.if-is_of_call.true) (rw w.answer.ensures at w.lay-at.ensures)
      | else-is_of_call w ↦ rw (w.at-is, w.buffer-is, ← c.is_of_call.ensures, w.if-is_of_call.false)
    ])
    ∙ c.loop-room.invariant

pub returns : goal.returns
unfolding lay_all
returns c = record { is = rw (drop_of_length-le c.args.rooms.rooms {i = c.loop-room.room-index} (omega arith)) at c.loop-room.invariant }
