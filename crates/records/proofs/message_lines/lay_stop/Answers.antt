-- The body's bytes are those of the message's letters.
use Rattle.records.specs.declared.messages.Message.{Message}
use Rattle.records.proofs.Writing.{end, word_then, message_line}
use Rattle.records.proofs.message_lines.lay_stop.Goals as goal

pub returns : goal.returns
returns c = rw (message_line (Message.Stop c.args.timer) (word_then c.to_le_bytes.ensures end)) at c.lay_record.ensures
