-- No row fits, or the first that does.
use Rattle.small.specs.Table.{rows}
use Rattle.small.proofs.Scan.{no_row_fits, row_fits}
use Rattle.small.proofs.rows.table_row.Goals as goal

pub returns-in_err-n : goal.returns-in_err-n
unfolding rows
returns-in_err-n c = rw c.from_residual.ensures (no_row_fits _ _ _ _ _ c.situation.ensures c.facts-known.ensures c.found.ensures c.in_err-n.was)

pub returns : goal.returns
unfolding rows
returns c = rw c.row_by.ensures (row_fits _ _ _ _ _ c.situation.ensures c.facts-known.ensures c.found.ensures _ c.in_ok-n.was)
