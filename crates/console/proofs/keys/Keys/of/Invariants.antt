-- Each key that is passed is stored.
use Rattle.std.proofs.Common.{◌≡◌, length}
use Rattle.console.proofs.ByKeys.{keys_first}
use Rattle.console.proofs.keys.Keys.of.Given as goal

abbrev pub invariant-loop-k : goal.invariant-loop-k
invariant-loop-k l = (l.each ≡ keys_first l.k l.call-items) × (length l.call-items ≡ 8) × (l.call-items ≡ l.fn.calls)
