-- By whether a place holds the identifier.
use Rattle.std.proofs.Common.{rules, ℕ, eqb}
use Rattle.console.specs.Keys.{incoming_by}
use Rattle.console.proofs.Found.{there}
use Rattle.console.proofs.route.incoming.Goals as goal

pub returns-then-is_some : goal.returns-then-is_some
unfolding incoming_by
returns-then-is_some c = rw (there (λ (n : ℕ). eqb n c.args.id) c.args.keys.each (search rules) c.held_by.ensures c.is_some.ensures, c.if-is_some.true)

pub returns : goal.returns
unfolding incoming_by
returns c = rw (there (λ (n : ℕ). eqb n c.args.id) c.args.keys.each (search rules) c.held_by.ensures c.is_some.ensures, c.if-is_some.false) c.at_lowest_idle.ensures
