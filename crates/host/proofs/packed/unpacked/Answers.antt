-- A record has its 22 bytes.
use mathlib.Core.Path.{sym, ◌∙◌}
use Rattle.host.proofs.Answers.{long_record}
use Rattle.host.proofs.packed.unpacked.Goals as goal

pub held-requires : goal.held-requires
held-requires c = long_record _ (sym c.is_record.ensures ∙ c.if-is_record.true)
