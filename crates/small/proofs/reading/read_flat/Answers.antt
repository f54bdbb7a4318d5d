-- The head, and then the kind.
use Rattle.std.proofs.Common.{refl, ap, ◌∙◌}
use Rattle.records.specs.Tables.{Read}
use Rattle.records.specs.Events.{events}
use Rattle.records.specs.declared.events.Event.{Event}
use Rattle.records.proofs.Reading.{passed}
use Rattle.records.proofs.Rows.{headless, headed}
use Rattle.small.specs.Reading.{flatted}
use Rattle.small.proofs.Entries.{kind_is}
use Rattle.small.proofs.Parts.{was_some, was_none, is_error}
use Rattle.small.proofs.reading.read_flat.Goals as goal

pub returns-in_err-kind : goal.returns-in_err-kind
returns-in_err-kind c =
    let told = rw c.in_err-kind.was at c.ok_or.ensures.value in
    rw (passed _ c.from_residual.ensures.1, is_error _ _ _ told)
    (ap (λ (w : Read Event). flatted c.args.call w) (headless events c.args.s.now (rw (was_none _ _ _ told) at c.kind_in.ensures)))

pub returns : goal.returns
returns c =
    let a = c.args in
    c.read_kind.ensures ∙ kind_is _ a.call a.s.now
    ∙ ap (λ (w : Read Event). flatted a.call w) (headed events a.s.now (rw (was_some _ _ _ (rw c.in_ok-kind.was at c.ok_or.ensures.value)) at c.kind_in.ensures) refl)
