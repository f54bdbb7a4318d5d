-- Slots that are 0 stand for the shorter line, and others for the longer.
use Rattle.records.specs.declared.events.Event.{Event}
use Rattle.records.proofs.Writing.{end, byte_then, word_then, event_line}
use Rattle.records.proofs.Slots.{d_connect_line}
use Rattle.records.proofs.events.lay_d_connect.Goals as goal

pub returns-then-slots-eq0 : goal.returns-then-slots-eq0
returns-then-slots-eq0 c = rw c.if-slots-eq0.true (rw (event_line (Event.DConnect c.args.id c.args.grant c.args.mode c.args.code 0) (word_then c.to_le_bytes.ensures (byte_then c.ranges.grant.fits (byte_then c.ranges.mode.fits (byte_then c.ranges.code.fits end))))) at c.lay_record.ensures)

pub returns : goal.returns
returns c = rw (d_connect_line c.if-slots-eq0.false (word_then c.to_le_bytes-2.ensures (byte_then c.ranges.grant.fits (byte_then c.ranges.mode.fits (byte_then c.ranges.code.fits (byte_then c.ranges.slots.fits end)))))) at c.lay_record-2.ensures
