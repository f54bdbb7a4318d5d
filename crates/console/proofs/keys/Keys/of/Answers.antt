-- Each key that is passed is stored.
use Rattle.std.proofs.Common.{arith, ◌∙◌, ap}
use Rattle.console.specs.Keys.{keys_from}
use Rattle.console.proofs.ByKeys.{key_next, all_keys}
use Rattle.console.proofs.keys.Keys.of.Goals as goal

pub loop-k-preserved : goal.loop-k-preserved
loop-k-preserved c = (key_next _ _ c.loop-k.invariant.0 c.key_of.ensures, c.loop-k.invariant.1, c.loop-k.invariant.2)

pub returns : goal.returns
returns c = all_keys _ c.loop-k.k c.loop-k.invariant.0 (omega arith) c.loop-k.invariant.1 ∙ ap (keys_from 0) c.loop-k.invariant.2
