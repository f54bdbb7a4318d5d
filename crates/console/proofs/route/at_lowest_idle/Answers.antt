-- By whether an IDLE place was found.
use Rattle.std.proofs.Common.{rules}
use Rattle.console.specs.Keys.{at_idle_by}
use Rattle.console.proofs.Found.{at_found, at_other}
use Rattle.console.proofs.route.at_lowest_idle.Goals as goal

pub returns-in-Some : goal.returns-in-Some
unfolding at_idle_by
returns-in-Some c = at_found _ c.args.keys.each (search rules) _ c.lowest_idle.ensures _ c.in-Some.is

pub returns-in-None : goal.returns-in-None
unfolding at_idle_by
returns-in-None c = at_other _ c.args.keys.each (search rules) _ c.lowest_idle.ensures c.in-None.is
