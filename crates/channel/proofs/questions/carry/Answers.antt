-- Counted first, and stored only where it fits.
use Rattle.channel.proofs.Asking.{fitting, one_size, one_laid}
use Rattle.channel.proofs.questions.carry.Goals as goal

pub returns : goal.returns
returns c = λ rooms. fitting rooms _ _ _ _ _ _ (one_size _ _ c.message_size.ensures) c.if-buffer-message_size.false (one_laid c.lay.ensures)
