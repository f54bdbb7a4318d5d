-- Another length is refused; else the fresh record is packed.
use borrow.Author.Tests.{eq-eqb, ne_eqb}
use Rattle.host.specs.Entries.{freshened}
use Rattle.host.proofs.callcontrol_fresh.Goals as goal

pub returns-then-call-ne-BYTES : goal.returns-then-call-ne-BYTES
unfolding freshened
returns-then-call-ne-BYTES c = rw (ne_eqb _ _ c.if-call-ne-BYTES.true)

pub returns : goal.returns
unfolding freshened
returns c = rw (eq-eqb _ _ c.if-call-ne-BYTES.false, c.pack.ensures, c.fresh.ensures)
