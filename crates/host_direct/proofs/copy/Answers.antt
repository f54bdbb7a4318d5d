-- What is written of a record is short.
use Rattle.std.proofs.Common.{arith}
use Rattle.host_direct.proofs.Small.{count_small}
use Rattle.host_direct.proofs.copy.Goals as goal

pub overflow_cast-result : goal.overflow_cast-result
overflow_cast-result g c =
    let h = count_small _ _ _ (g.met.R.Record.is_short c.in-Ok.record) (rw (g.met.R.Record.writes c.in-Ok.record c.args.out.now) at c.in-Ok-write.ensures) in
    omega (arith, h)
