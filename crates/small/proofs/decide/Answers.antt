-- 5, then 6, then 8, then what the row orders.
use Rattle.std.proofs.Common.{◌∙◌, sym}
use Rattle.std.proofs.lemmas.Result.{err_from_is_err_and}
use Rattle.small.proofs.Deciding.{by_other, by_none, by_over, by_orders}
use Rattle.small.proofs.Parts.{was_some, was_none, is_error}
use Rattle.small.proofs.decide.Goals as goal

pub returns-then-names_other : goal.returns-then-names_other
returns-then-names_other c = by_other _ _ _ (sym c.names_other.ensures ∙ c.if-names_other.true)

pub returns-in_err-row : goal.returns-in_err-row
returns-in_err-row c =
    let p = err_from_is_err_and c.from_residual.result c.from_residual.ensures.1 in
    let told = rw c.in_err-row.was at c.ok_or.ensures.value in
    rw (p.1, p.2, is_error _ _ _ told)
    (by_none _ _ _ _ (sym c.names_other.ensures ∙ c.if-names_other.false) c.table_row.ensures (was_none _ _ _ told))

pub returns-then-is_over : goal.returns-then-is_over
returns-then-is_over c = by_over _ _ _ _ (sym c.names_other.ensures ∙ c.if-names_other.false) c.table_row.ensures _ (was_some _ _ _ (rw c.in_ok-row.was at c.ok_or.ensures.value)) (sym c.is_over.ensures ∙ c.if-is_over.true)

pub returns : goal.returns
returns c = by_orders _ _ _ _ (sym c.names_other.ensures ∙ c.if-names_other.false) c.table_row.ensures _ (was_some _ _ _ (rw c.in_ok-row.was at c.ok_or.ensures.value)) _ (sym c.is_over.ensures ∙ c.if-is_over.false) c.carry_row.ensures
