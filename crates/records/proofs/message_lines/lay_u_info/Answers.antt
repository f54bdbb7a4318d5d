-- The body's bytes are those of the message's letters.
use Rattle.records.specs.declared.messages.Message.{Message}
use Rattle.records.proofs.Writing.{end, byte_then, word_then, message_line}
use Rattle.records.proofs.message_lines.lay_u_info.Goals as goal

pub returns : goal.returns
returns c = rw (message_line (Message.UInfo c.args.id c.args.mode) (word_then c.to_le_bytes.ensures (byte_then c.ranges.mode.fits end))) at c.lay_record.ensures
