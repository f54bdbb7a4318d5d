-- The body's bytes are those of the message's letters.
use Rattle.records.specs.declared.messages.Message.{Message}
use Rattle.records.proofs.Writing.{end, byte_then, message_line}
use Rattle.records.proofs.message_lines.lay_modify_indication.Goals as goal

pub returns : goal.returns
returns c = rw (message_line (Message.ModifyIndication c.args.mode c.args.slots) (byte_then c.ranges.mode.fits (byte_then c.ranges.slots.fits end))) at c.lay_record.ensures
