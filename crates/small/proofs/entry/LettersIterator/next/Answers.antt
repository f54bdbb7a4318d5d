-- The first letter is taken off, until there is none.
use Rattle.std.proofs.Common.{rules, arith}
use Rattle.small.proofs.Letters.{no_letters, first_of_eight}
use Rattle.small.proofs.entry.LettersIterator.next.Goals as goal

pub returns-then-self-eq0-clause-steps : goal.returns-then-self-eq0-clause-steps
returns-then-self-eq0-clause-steps c = let none = no_letters 8 c.args.self.now.left c.if-self-eq0.true in (none, none)

pub returns-clause-steps : goal.returns-clause-steps
returns-clause-steps c = first_of_eight c.args.self.now.left (omega arith) (omega arith)

pub returns-clause-goes : goal.returns-clause-goes
returns-clause-goes c =
    let first = first_of_eight c.args.self.now.left (omega arith) (omega arith) in
    search (rules, first)
