-- The parts in the paper's order.
use Rattle.callcontrol.specs.Writing.{messages_in}
use Rattle.callcontrol.proofs.Laying.{lay_then}
use Rattle.callcontrol.proofs.writing.lay_messages.Goals as goal

pub returns : goal.returns
unfolding messages_in
returns c = rw (← c.has.ensures) (lay_then c.lay_stops-at.ensures (lay_then c.lay_cancel_if-at.ensures (lay_then c.lay_pdu-at.ensures (lay_then c.lay_starts-at.ensures (lay_then c.lay_plane-at.ensures c.lay_user.ensures)))))
