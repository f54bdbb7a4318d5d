-- 1, then 31, then 32, and then what the bank says of the reading.
use Rattle.std.proofs.Common.{refl}
use Rattle.timed.specs.Parts.{ready_at}
use Rattle.timed.proofs.Readings.{earlier, not_earlier, ready_is}
use Rattle.timed.proofs.set.Timed.ready.Goals as goal

pub returns-in_default : goal.returns-in_default
unfolding ready_at
returns-in_default c =
    rw (← c.is_set.ensures, c.if-not-is_set.false, ← c.table_right.ensures, c.if-not-table_right.false, earlier _ _ _ refl _ _ c.in_default.ensures)

pub first_of-requires : goal.first_of-requires
first_of-requires c = (ready_is c.args.self c.args.reading _ refl c.in-Ok.advanced _ c.in-Ok.ensures).2

pub returns : goal.returns
unfolding ready_at
returns c =
    let is = ready_is c.args.self c.args.reading _ refl c.in-Ok.advanced _ c.in-Ok.ensures in
    rw (← c.is_set.ensures, c.if-not-is_set.false, ← c.table_right.ensures, c.if-not-table_right.false, not_earlier _ _ _ refl c.in-Ok.advanced _ c.in-Ok.ensures, c.first_of.ensures, is.0, is.1)
