-- The body's bytes are those of the message's letters.
use Rattle.records.specs.declared.messages.Message.{Message}
use Rattle.records.proofs.Writing.{end, byte_then, message_line}
use Rattle.records.proofs.message_lines.lay_release_indication.Goals as goal

pub returns : goal.returns
returns c = rw (message_line (Message.ReleaseIndication c.args.cause) (byte_then c.ranges.cause.fits end)) at c.lay_record.ensures
