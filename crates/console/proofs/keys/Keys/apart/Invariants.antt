-- No key that is passed stands behind itself.
use Rattle.std.proofs.Common.{◌≡◌, length, drop}
use Rattle.console.specs.Keys.{apart_by}
use Rattle.console.proofs.keys.Keys.apart.Given as goal

abbrev pub invariant-loop-k : goal.invariant-loop-k
invariant-loop-k l = (apart_by l.keys ≡ apart_by (drop l.k l.keys)) × (length l.keys ≡ 8)
