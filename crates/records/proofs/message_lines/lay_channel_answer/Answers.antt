-- The body's bytes are those of the message's letters.
use Rattle.records.specs.declared.messages.Message.{Message}
use Rattle.records.proofs.Writing.{end, byte_then, word_then, message_line}
use Rattle.records.proofs.message_lines.lay_channel_answer.Goals as goal

pub returns : goal.returns
returns c = rw (message_line (Message.ChannelAnswer c.args.number c.args.verdict) (word_then c.to_le_bytes.ensures (byte_then c.ranges.verdict.fits end))) at c.lay_record.ensures
