-- The console's turns work on the records that the bytes hold; where the event is taken and all fits, the records are packed.
use Rattle.std.proofs.Common.{ℕ, arith}
use Rattle.std.proofs.lemmas.Result.{err_from_is_err_and}
use Rattle.host_console.proofs.Tables.{table_length}
use Rattle.host_console.proofs.All.{few, all_refused, all_left}
use Rattle.host_console.proofs.table.to_all.Goals as goal

pub held_table-requires : goal.held_table-requires
held_table-requires c = table_length _ c.requires.1

pub returns-in_err-all : goal.returns-in_err-all
returns-in_err-all c =
    let p = err_from_is_err_and c.from_residual.result c.from_residual.ensures.1 in
    rw (p.1, p.2) (all_refused c.args.table.now c.args.out.now c.args.event c.held_table.ensures _ (rw c.in_err-all.was at c.everywhere.ensures.value))

pub pack_table-requires : goal.pack_table-requires
pack_table-requires c =
    let last = rw c.in_ok-all.was at c.everywhere.ensures.last in
    let within = last.within in
    (table_length _ c.requires.1, omega arith)

pub overflow_cast-result : goal.overflow_cast-result
overflow_cast-result c =
    let f = few c.args.table.now c.args.out.now c.args.event c.held_table.ensures c.in_ok-all.all (rw c.in_ok-all.was at c.everywhere.ensures.value) c.requires.0 in
    omega arith

pub returns : goal.returns
returns c =
    all_left c.args.table.now c.args.out.now c.args.event c.held_table.ensures c.in_ok-all.all (rw c.in_ok-all.was at c.everywhere.ensures.value) (λ (i : ℕ). omega (arith, c.slice_known-1.given i)) c.requires.1
    (rw c.in_ok-all.was at c.everywhere.ensures.last) c.pack_table.ensures
