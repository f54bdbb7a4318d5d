-- Slots that are 0 stand for the shorter line, and others for the longer.
use Rattle.records.specs.declared.events.Event.{Event}
use Rattle.records.proofs.Writing.{end, byte_then, long_then, event_line}
use Rattle.records.proofs.Slots.{setup_request_line}
use Rattle.records.proofs.events.lay_setup_request.Goals as goal

pub returns-then-slots-eq0 : goal.returns-then-slots-eq0
returns-then-slots-eq0 c = rw c.if-slots-eq0.true (rw (event_line (Event.SetupRequest c.args.address c.args.mode c.args.ask 0) (long_then c.to_le_bytes.ensures (byte_then c.ranges.mode.fits (byte_then c.ranges.ask.fits end)))) at c.lay_record.ensures)

pub returns : goal.returns
returns c = rw (setup_request_line c.if-slots-eq0.false (long_then c.to_le_bytes-2.ensures (byte_then c.ranges.mode.fits (byte_then c.ranges.ask.fits (byte_then c.ranges.slots.fits end))))) at c.lay_record-2.ensures
