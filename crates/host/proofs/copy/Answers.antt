-- A record is short, so that its size fits.
use native.Mathlib.Omega.{arith}
use Rattle.host.proofs.Small.{short_count}
use Rattle.host.proofs.copy.Goals as goal

pub overflow_cast-result : goal.overflow_cast-result
overflow_cast-result g c =
    let r = c.in-Ok.record in
    omega (arith, short_count _ _ _ (g.met.R.Record.is_short r) (c.in-Ok-write.ensures) (g.met.R.Record.writes r c.args.out.now))
