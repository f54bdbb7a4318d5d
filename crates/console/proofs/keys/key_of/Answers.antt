-- By whether the record is in IDLE.
use Rattle.console.proofs.keys.key_of.Goals as goal

pub returns-then-is_idle : goal.returns-then-is_idle
returns-then-is_idle c = rw (← c.is_idle.ensures, c.if-is_idle.true)
