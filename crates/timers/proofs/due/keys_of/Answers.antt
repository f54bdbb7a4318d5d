-- Timer by timer, as the definition goes.
use Rattle.std.proofs.Common.{rules}
use Rattle.timers.specs.Due.{keys_of}
use Rattle.timers.proofs.Sevens.{seven_are}
use Rattle.timers.proofs.due.keys_of.Goals as goal

pub returns : goal.returns
unfolding keys_of
returns c =
    seven_are 0 (search rules) (search rules) (search rules) (search rules) (search rules) (search rules) (search rules) (search rules)
