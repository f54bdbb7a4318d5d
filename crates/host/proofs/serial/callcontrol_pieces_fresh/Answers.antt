-- Another length is refused; else the fresh reader is stored.
use native.Mathlib.Omega.{arith}
use borrow.Author.Tests.{eq-eqb, ne_eqb}
use Rattle.host.specs.SerialLine.{reader_freshened}
use borrow.Author.Rules.{rules}
use Rattle.host.proofs.serial.callcontrol_pieces_fresh.Goals as goal

pub returns-then-reader-ne-BYTES : goal.returns-then-reader-ne-BYTES
unfolding reader_freshened
returns-then-reader-ne-BYTES c = rw (ne_eqb _ _ c.if-reader-ne-BYTES.true)

pub put_reader-requires : goal.put_reader-requires
unfolding reader_freshened
put_reader-requires c = (search rules, rw c.fresh.ensures (omega arith))

pub returns : goal.returns
unfolding reader_freshened
returns c = rw (eq-eqb _ _ c.if-reader-ne-BYTES.false, c.put_reader.ensures, c.fresh.ensures)
