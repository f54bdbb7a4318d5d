-- The body's bytes are those of the message's letters.
use Rattle.records.specs.declared.messages.Message.{Message}
use Rattle.records.proofs.Writing.{end, byte_then, word_then, long_then, message_line}
use Rattle.records.proofs.message_lines.lay_u_call_restore.Goals as goal

pub returns : goal.returns
returns c = rw (message_line (Message.UCallRestore c.args.id c.args.address c.args.ask) (word_then c.to_le_bytes.ensures (long_then c.to_le_bytes-2.ensures (byte_then c.ranges.ask.fits end)))) at c.lay_record.ensures
