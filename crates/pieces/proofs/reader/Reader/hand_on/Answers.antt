-- Nothing carried: the record stays in the piece. Else what is missing of it is copied.
use native.Mathlib.Omega.{arith}
use borrow.Author.Tests.{eq-eqb, ne_eqb}
use Rattle.pieces.specs.Next.{handed_on}
use Rattle.pieces.proofs.reader.Reader.hand_on.Goals as goal

pub returns-then-carried-eq0 : goal.returns-then-carried-eq0
unfolding handed_on
returns-then-carried-eq0 c = rw (eq-eqb c.args.self.now.carried 0 (omega arith), c.fresh.ensures)

pub returns : goal.returns
unfolding handed_on
returns c =
    let carried = c.args.self.now.carried in
    rw (ne_eqb carried 0 (λ none. omega arith), c.copy.ensures, c.fresh.ensures)
