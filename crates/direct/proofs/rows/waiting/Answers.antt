-- Each arm sends what its row orders.
use Rattle.std.proofs.Common.{◌+◌, refl, rules}
use Rattle.direct.specs.Rows.{connected, released, again, exhausted}
use Rattle.direct.proofs.Carried.{row_sent}
use Rattle.direct.proofs.rows.waiting.Goals as goal

pub returns-in-DmConnect : goal.returns-in-DmConnect
unfolding connected
returns-in-DmConnect c = row_sent _ _ (connected c.in-DmConnect.grade c.args.call) (search rules) refl c.send.ensures

pub returns-in-DmConnect-2 : goal.returns-in-DmConnect-2
unfolding released
returns-in-DmConnect-2 c = row_sent _ _ (released c.args.call) (search rules) refl (rw c.fresh-in-DmConnect-2.ensures at c.send-in-DmConnect-2.ensures)

pub returns-in-Expiry-eq303 : goal.returns-in-Expiry-eq303
unfolding again
returns-in-Expiry-eq303 c = row_sent _ _ (again (c.args.call.used + 1) c.args.call) (search rules) refl c.send-in-Expiry-eq303.ensures

pub returns-in-Expiry-eq303-2 : goal.returns-in-Expiry-eq303-2
unfolding exhausted
returns-in-Expiry-eq303-2 c = row_sent _ _ (exhausted c.args.call) (search rules) refl (rw c.fresh.ensures at c.send-in-Expiry-eq303-2.ensures)
