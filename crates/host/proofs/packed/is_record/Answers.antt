-- A part that fails makes the whole test false; where the others hold, it is that of the flags.
use mathlib.Core.Path.{sym, ◌∙◌}
use mathlib.Core.Bool.{and-false}
use borrow.Author.Tests.{ne_eqb, lt-leb}
use Rattle.host.specs.Packing.{is_record}
use Rattle.host.proofs.Answers.{of_flags}
use Rattle.host.proofs.packed.is_record.Goals.{then-s-ne-BYTES-via-then-s-ne-BYTES, then-s-ne-BYTES-via-else-s-ne-BYTES+then-s-gt-STATE_MOST, then-s-ne-BYTES-via-else-s-ne-BYTES+else-s-gt-STATE_MOST+then-s-gt-PATH_MOST}
use Rattle.host.proofs.packed.is_record.Goals as goal

pub returns-then-s-ne-BYTES : goal.returns-then-s-ne-BYTES
unfolding is_record
returns-then-s-ne-BYTES c =
    elim c.then-s-ne-BYTES.branch [
      | then-s-ne-BYTES-via-then-s-ne-BYTES w ↦ rw (ne_eqb _ _ w.if-s-ne-BYTES.true)
      | then-s-ne-BYTES-via-else-s-ne-BYTES+then-s-gt-STATE_MOST w ↦ simp (lt-leb _ _ w.if-s-gt-STATE_MOST.true, and-false)
      | then-s-ne-BYTES-via-else-s-ne-BYTES+else-s-gt-STATE_MOST+then-s-gt-PATH_MOST w ↦ simp (lt-leb _ _ w.if-s-gt-PATH_MOST.true, and-false)
    ]

pub returns : goal.returns
returns c = c.all_at_most.ensures ∙ sym (of_flags _ c.if-s-ne-BYTES.false c.if-s-gt-STATE_MOST.false c.if-s-gt-PATH_MOST.false)
