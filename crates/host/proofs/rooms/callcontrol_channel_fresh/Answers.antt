-- Another length is refused; else free rooms are packed.
use Rattle.host.specs.Channel.{rooms_freshened}
use borrow.Author.Tests.{eq-eqb, ne_eqb}
use Rattle.host.proofs.rooms.callcontrol_channel_fresh.Goals as goal

pub returns-then-rooms-ne-BYTES : goal.returns-then-rooms-ne-BYTES
unfolding rooms_freshened
returns-then-rooms-ne-BYTES c = rw (ne_eqb _ _ c.if-rooms-ne-BYTES.true)

pub returns : goal.returns
unfolding rooms_freshened
returns c = rw (eq-eqb _ _ c.if-rooms-ne-BYTES.false, c.pack_rooms.ensures, c.fresh.ensures)
