-- A retired kind is refused, and the rest is the reader of that kind.
use borrow.Author.Tests.{eq-eqb, ne_eqb}
use Rattle.records.specs.Events.{events}
use Rattle.records.proofs.Rows.{of_all, of_none}
use Rattle.records.proofs.events.EventRecord.of_kind.Goals as goal

pub returns-then-kind-eq261 : goal.returns-then-kind-eq261
returns-then-kind-eq261 c = of_none events _ _ (rw (eq-eqb _ _ c.if-kind-eq261.true))

pub returns : goal.returns
returns c = of_all events _ _ (rw (ne_eqb _ _ c.if-kind-eq261.false)) c.read_user.ensures
