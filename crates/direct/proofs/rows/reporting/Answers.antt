-- Each arm sends what its row orders.
use Rattle.std.proofs.Common.{refl, rules}
use Rattle.direct.specs.Rows.{awaited, given_up}
use Rattle.direct.proofs.Carried.{row_sent}
use Rattle.direct.proofs.rows.reporting.Goals as goal

pub returns-in-DmaReport-eq0 : goal.returns-in-DmaReport-eq0
unfolding awaited
returns-in-DmaReport-eq0 c = row_sent _ _ (awaited c.args.call) (search rules) refl c.send.ensures

pub returns-in-DmaReport : goal.returns-in-DmaReport
unfolding given_up
returns-in-DmaReport c = row_sent _ _ (given_up c.args.call) (search rules) refl (rw c.fresh.ensures at c.send-in-DmaReport.ensures)
