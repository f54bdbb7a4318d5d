-- The body's bytes are those of the message's letters.
use Rattle.records.specs.declared.messages.Message.{Message}
use Rattle.records.proofs.Writing.{end, byte_then, message_line}
use Rattle.records.proofs.message_lines.lay_tx_indication.Goals as goal

pub returns : goal.returns
returns c = rw (message_line (Message.TxIndication c.args.told) (byte_then c.ranges.told.fits end)) at c.lay_record.ensures
