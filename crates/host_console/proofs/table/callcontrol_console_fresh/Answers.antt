-- Eight fresh records, where there is room for them.
use borrow.Author.Tests.{eq-eqb, ne_eqb}
use Rattle.host_console.specs.Table.{console_freshened}
use Rattle.host_console.proofs.Tables.{all_packed}
use Rattle.host_console.proofs.table.callcontrol_console_fresh.Goals as goal

pub returns-then-table-ne176 : goal.returns-then-table-ne176
unfolding console_freshened
returns-then-table-ne176 c = rw (ne_eqb _ _ c.if-table-ne176.true)

pub returns : goal.returns
unfolding console_freshened
returns c = rw (eq-eqb _ _ c.if-table-ne176.false, c.pack_table.ensures, all_packed _ c.args.table.now, c.fresh.ensures)
