-- The definition is what the code tests.
use mathlib.Core.Path.{refl}
use Rattle.callcontrol.specs.Call.{in_range}
use Rattle.callcontrol.proofs.call.Call.in_range.Goals as goal

pub returns : goal.returns
unfolding in_range
returns c = refl
