-- Timer by timer, as the definition goes.
use Rattle.std.proofs.Common.{false, rules}
use Rattle.timers.specs.Due.{staying}
use Rattle.timers.proofs.Sevens.{seven_are}
use Rattle.timers.proofs.due.staying.Goals as goal

pub returns : goal.returns
unfolding staying
returns c =
    seven_are false (search rules) (search rules) (search rules) (search rules) (search rules) (search rules) (search rules) (search rules)
