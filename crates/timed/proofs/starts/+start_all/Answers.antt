-- The message at the front, and then the others.
use Rattle.timed.proofs.Fronts.{some_left, one_done}
use Rattle.timed.proofs.starts.+start_all.Goals as goal

pub returns : goal.returns
returns t c =
    one_done _ _ _ _ _ (some_left _ c.is_empty.ensures c.if-is_empty.false) c.word_at.ensures (rw c.split_at.ensures.front at c.start_first.ensures)
    (rw c.split_at.ensures.back at c.start_all.ensures)
