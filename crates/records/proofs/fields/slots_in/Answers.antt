-- By whether the body ends there.
use borrow.Author.Tests.{eq-eqb}
use Rattle.records.specs.Bodies.{slots_at}
use Rattle.records.proofs.fields.slots_in.Goals as goal

pub returns-then-s-at : goal.returns-then-s-at
unfolding slots_at
returns-then-s-at c = rw (eq-eqb _ _ c.if-s-at.true)
