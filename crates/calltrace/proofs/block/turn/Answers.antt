-- The count is at most the 64 bytes that are lent.
use Rattle.std.proofs.Common.{◌≤◌, replicate, arith}
use Rattle.calltrace.proofs.Counted.{count_of_taken}
use Rattle.calltrace.proofs.block.turn.Goals as goal

pub overflow_cast-answer : goal.overflow_cast-answer
overflow_cast-answer c =
    let counted : c.in-Ok.stepped.count ≤ 64 = count_of_taken c.args.call c.in-Ok.stepped c.args.event.now (replicate 64 0) _ c.in-Ok.ensures in
    omega arith
