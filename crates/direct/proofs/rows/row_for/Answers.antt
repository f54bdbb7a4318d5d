-- PRESENCE CHECK is divided by DT303.
use Rattle.direct.proofs.Situations.{row_waiting}
use Rattle.direct.proofs.rows.row_for.Goals as goal

pub returns-then-call : goal.returns-then-call
returns-then-call c = rw (row_waiting c.args.call c.args.event c.in-PresenceCheck.is c.if-call.true) c.waiting.ensures
