-- After i turns the first i elements are handed out, and those still to come are the keys below the bound.
use Rattle.std.proofs.Common.{◌≡◌, ◌-◌, ◌++◌, length, take}
use Rattle.timers.specs.Due.{handed}
use Rattle.timers.proofs.due.Pairs.hand_out.Given as goal

abbrev pub invariant-loop-number : goal.invariant-loop-number
invariant-loop-number l =
    (length l.number-items ≡ l.count)
    × (take l.number-index l.number-items ++ handed (l.count - l.number-index) l.bound l.self.keys ≡ handed l.count 34359738368 l.self.keys)
