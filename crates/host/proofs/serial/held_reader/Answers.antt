-- A part that fails makes the whole test false; where none does, the fields are read.
use mathlib.Core.Bool.{and-false}
use borrow.Author.Tests.{eq-eqb, ne_eqb, le-leb, lt-leb}
use Rattle.host.specs.SerialLine.{is_reader}
use Rattle.host.proofs.serial.held_reader.Goals.{then-s-ne-BYTES-via-then-s-ne-BYTES, then-s-ne-BYTES-via-else-s-ne-BYTES+then-s-gt-CARRIED_MOST, then-s-ne-BYTES-via-else-s-ne-BYTES+else-s-gt-CARRIED_MOST+then-s-gt-FLAG_MOST}
use Rattle.host.proofs.serial.held_reader.Goals as goal

pub returns-then-s-ne-BYTES : goal.returns-then-s-ne-BYTES
unfolding is_reader
returns-then-s-ne-BYTES c =
    elim c.then-s-ne-BYTES.branch [
      | then-s-ne-BYTES-via-then-s-ne-BYTES w ↦ rw (ne_eqb _ _ w.if-s-ne-BYTES.true)
      | then-s-ne-BYTES-via-else-s-ne-BYTES+then-s-gt-CARRIED_MOST w ↦ simp (lt-leb _ _ w.if-s-gt-CARRIED_MOST.true, and-false)
      | then-s-ne-BYTES-via-else-s-ne-BYTES+else-s-gt-CARRIED_MOST+then-s-gt-FLAG_MOST w ↦ simp (lt-leb _ _ w.if-s-gt-FLAG_MOST.true, and-false)
    ]

pub returns : goal.returns
unfolding is_reader
returns c = rw (eq-eqb _ _ c.if-s-ne-BYTES.false, le-leb _ _ c.if-s-gt-CARRIED_MOST.false, le-leb _ _ c.if-s-gt-FLAG_MOST.false)
