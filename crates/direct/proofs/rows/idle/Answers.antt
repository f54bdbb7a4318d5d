-- Each arm sends what its row orders.
use Rattle.std.proofs.Common.{refl, rules}
use Rattle.direct.specs.Rows.{asked}
use Rattle.direct.proofs.Carried.{row_sent}
use Rattle.direct.proofs.rows.idle.Goals as goal

pub returns-in-SetupRequest : goal.returns-in-SetupRequest
unfolding asked
returns-in-SetupRequest c = row_sent _ _ (asked c.in-SetupRequest.target c.in-SetupRequest.lowest c.in-SetupRequest.attempts c.args.call) (search rules) refl c.send.ensures
