-- A retired kind; else the hint, the entry's kind, and its body.
use Rattle.std.proofs.Common.{◌≡◌, refl, sym, ◌∙◌, ◌+◌, ◌%◌}
use Rattle.records.proofs.Reading.{passed}
use Rattle.small.specs.Reading.{place_of}
use Rattle.small.proofs.Answers.{retired_kind, no_entry, behind_first, other_kind, its_kind, sized}
use Rattle.small.proofs.Parts.{was_some, was_none, is_error}
use Rattle.small.proofs.reading.read_kind.Goals as goal

pub returns-then-n-eq-RETIRED : goal.returns-then-n-eq-RETIRED
returns-then-n-eq-RETIRED c = retired_kind _ _ _ c.if-n-eq-RETIRED.true

pub returns-in_err-entry : goal.returns-in_err-entry
unfolding place_of
returns-in_err-entry c =
    let a = c.args in
    let told = rw c.in_err-entry.was at c.ok_or.ensures.value in
    let place : c.hint.result + a.n % 256 ≡ place_of a.n = rw c.hint.ensures.value refl in
    rw (passed _ c.from_residual.ensures.1, is_error _ _ _ told)
    (no_entry a.n a.call a.s.now c.if-n-eq-RETIRED.false _ place (sym c.entry_at.ensures ∙ was_none _ _ _ told))

pub returns-then-entry-n : goal.returns-then-entry-n
unfolding place_of
returns-then-entry-n c =
    let a = c.args in
    let place : c.hint.result + a.n % 256 ≡ place_of a.n = rw c.hint.ensures.value refl in
    other_kind a.n a.call a.s.now c.if-n-eq-RETIRED.false _ place _ (sym c.entry_at.ensures ∙ was_some _ _ _ (rw c.in_ok-entry.was at c.ok_or.ensures.value)) c.if-entry-n.true

pub overflow_sub-place : goal.overflow_sub-place
unfolding place_of
overflow_sub-place c =
    let a = c.args in
    let place : c.hint.result + a.n % 256 ≡ place_of a.n = rw c.hint.ensures.value refl in
    behind_first a.n a.call a.s.now c.if-n-eq-RETIRED.false _ place _ (sym c.entry_at.ensures ∙ was_some _ _ _ (rw c.in_ok-entry.was at c.ok_or.ensures.value)) c.if-entry-n.false

pub read_body-requires : goal.read_body-requires
read_body-requires c = sized (c.hint.result + c.args.n % 256) _ (sym c.entry_at.ensures ∙ was_some _ _ _ (rw c.in_ok-entry.was at c.ok_or.ensures.value))

pub returns : goal.returns
unfolding place_of
returns c =
    let a = c.args in
    let place : c.hint.result + a.n % 256 ≡ place_of a.n = rw c.hint.ensures.value refl in
    c.read_body.ensures ∙ its_kind a.n a.call a.s.now c.if-n-eq-RETIRED.false _ place _ (sym c.entry_at.ensures ∙ was_some _ _ _ (rw c.in_ok-entry.was at c.ok_or.ensures.value)) c.if-entry-n.false
