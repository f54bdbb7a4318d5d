-- Pair by pair, as the definition goes.
use Rattle.timers.specs.Due.{below}
use Rattle.timers.proofs.Keys.{greater_is}
use Rattle.timers.proofs.due.Pairs.below.Goals as goal

pub returns : goal.returns
unfolding below
returns c =
    rw (c.max-3.ensures, c.max-2.ensures, c.max.ensures, c.under.ensures, c.of_pair-c.ensures, c.of_pair-b.ensures, c.of_pair-a.ensures)
    (simp greater_is)
