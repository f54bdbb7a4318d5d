-- The fields are tested first, and then the record is stored where it fits.
use Rattle.records.proofs.Writing.{untested, tested, some_bytes, put_none, put_all}
use Rattle.records.proofs.record.write.Goals as goal

pub returns-then-not-fits : goal.returns-then-not-fits
returns-then-not-fits g c = rw (g.met.R.Record.writes c.args.r c.args.buffer.now) (untested _ _ c.fits.ensures c.if-not-fits.true)

pub returns-then-size-eq0 : goal.returns-then-size-eq0
returns-then-size-eq0 g c = rw (g.met.R.Record.writes c.args.r c.args.buffer.now) (tested _ _ c.fits.ensures c.if-not-fits.false (put_none _ _ c.lay-size.ensures (some_bytes _ (g.met.R.Record.is_short c.args.r)) c.if-size-eq0.true))

pub returns : goal.returns
returns g c = rw (g.met.R.Record.writes c.args.r c.args.buffer.now) (tested _ _ c.fits.ensures c.if-not-fits.false (put_all _ _ c.lay-size.ensures (some_bytes _ (g.met.R.Record.is_short c.args.r)) c.if-size-eq0.false))
