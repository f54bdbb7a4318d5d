-- The body's bytes are those of the message's letters.
use Rattle.records.specs.declared.messages.Message.{Message}
use Rattle.records.proofs.Writing.{end, byte_then, long_then, message_line}
use Rattle.records.proofs.Slots.{u_setup_line}
use Rattle.records.proofs.message_lines.lay_u_setup.Goals as goal

pub returns-then-slots-eq0 : goal.returns-then-slots-eq0
returns-then-slots-eq0 c = rw c.if-slots-eq0.true (rw (message_line (Message.USetup c.args.address c.args.mode c.args.ask 0) (long_then c.to_le_bytes.ensures (byte_then c.ranges.mode.fits (byte_then c.ranges.ask.fits end)))) at c.lay_record.ensures)

pub returns : goal.returns
returns c = rw (u_setup_line c.if-slots-eq0.false (long_then c.to_le_bytes-2.ensures (byte_then c.ranges.mode.fits (byte_then c.ranges.ask.fits (byte_then c.ranges.slots.fits end))))) at c.lay_record-2.ensures
