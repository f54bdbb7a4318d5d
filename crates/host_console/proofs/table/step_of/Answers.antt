-- The event goes where its bytes lead.
use Rattle.std.proofs.Common.{◌∙◌, ap}
use Rattle.std.proofs.lemmas.Result.{err_from_is_err_and}
use Rattle.host_console.specs.Table.{console_left}
use Rattle.host_console.proofs.Tables.{known_table}
use Rattle.host_console.proofs.Entry.{to_below, all_aimed, goes_there, to_none}
use Rattle.host_console.proofs.table.step_of.Goals as goal

pub returns-in_err-target : goal.returns-in_err-target
returns-in_err-target c =
    let a = c.args in
    let p = err_from_is_err_and c.from_residual.result c.from_residual.ensures.1 in
    rw (p.1, p.2) (to_none a.table.now a.place a.event.now a.out.now a.keys c.requires c.lead.ensures c.in_err-target.was)

pub to_place-requires-clause-k_bound : goal.to_place-requires-clause-k_bound
to_place-requires-clause-k_bound c =
    let a = c.args in to_below a.table.now a.place a.event.now a.out.now a.keys c.requires c.lead.ensures c.in_ok-target.was c.in-Place.is

pub to_all-requires : goal.to_all-requires
to_all-requires c =
    let a = c.args in
    (all_aimed a.table.now a.place a.event.now a.out.now a.keys c.requires c.lead.ensures c.in_ok-target.was c.in-Everywhere.is, known_table a.table.now a.keys c.requires)

pub returns-in-Place : goal.returns-in-Place
returns-in-Place c =
    let a = c.args in
    c.to_place.ensures
    ∙ ap (console_left a.table.now) (goes_there a.table.now a.place a.event.now a.out.now a.keys c.requires c.lead.ensures c.in_ok-target.was c.in-Place.is)

pub returns-in-Everywhere : goal.returns-in-Everywhere
returns-in-Everywhere c =
    let a = c.args in
    c.to_all.ensures
    ∙ ap (console_left a.table.now) (goes_there a.table.now a.place a.event.now a.out.now a.keys c.requires c.lead.ensures c.in_ok-target.was c.in-Everywhere.is)
