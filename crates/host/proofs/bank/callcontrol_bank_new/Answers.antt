-- Another length is refused; else a new bank is packed.
use Rattle.host.specs.Bank.{bank_made}
use borrow.Author.Tests.{eq-eqb, ne_eqb}
use Rattle.host.proofs.bank.callcontrol_bank_new.Goals as goal

pub returns-then-bank-ne-BYTES : goal.returns-then-bank-ne-BYTES
unfolding bank_made
returns-then-bank-ne-BYTES c = rw (ne_eqb _ _ c.if-bank-ne-BYTES.true)

pub returns : goal.returns
unfolding bank_made
returns c = rw (eq-eqb _ _ c.if-bank-ne-BYTES.false, c.pack_bank.ensures, c.new.ensures)
