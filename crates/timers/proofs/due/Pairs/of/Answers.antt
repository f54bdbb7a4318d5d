-- Pair by pair, as the definition goes.
use Rattle.timers.specs.Due.{paired}
use Rattle.timers.proofs.Keys.{greater_is}
use Rattle.timers.proofs.Pairs.{lesser_is}
use Rattle.timers.proofs.due.Pairs.of.Goals as goal

pub returns : goal.returns
unfolding paired
returns c =
    rw (c.max.ensures, c.min.ensures, c.max-2.ensures, c.min-2.ensures, c.max-3.ensures, c.min-3.ensures)
    (simp (greater_is, lesser_is))
