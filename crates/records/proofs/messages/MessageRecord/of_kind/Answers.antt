-- No message's kind is retired.
use mathlib.Core.Path.{refl}
use Rattle.records.specs.Messages.{messages}
use Rattle.records.proofs.Rows.{of_all}
use Rattle.records.proofs.messages.MessageRecord.of_kind.Goals as goal

pub returns : goal.returns
returns c = of_all messages _ _ refl c.read_network.ensures
