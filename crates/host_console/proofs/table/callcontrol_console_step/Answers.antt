-- Bytes that are no sound table are refused; else the event goes where its bytes lead.
use Rattle.std.proofs.Common.{◌≡◌, ◌∙◌}
use Rattle.console.specs.Route.{console_number, console_place}
use Rattle.host.specs.Entries.{word}
use Rattle.host_console.proofs.Tables.{no_table, known_table, whole}
use Rattle.host_console.proofs.table.callcontrol_console_step.Goals as goal

pub returns-in_default : goal.returns-in_default
returns-in_default c =
    let a = c.args in
    no_table a.table.now a.place a.event.now a.out.now c.table_keys.result c.table_keys.ensures c.in_default.is

pub returns-in-Ok : goal.returns-in-Ok
returns-in-Ok c =
    let a = c.args in
    rw c.in-Ok.is at c.step_of.ensures
    ∙ whole a.table.now a.place a.event.now a.out.now (known_table a.table.now c.in-Some.keys (rw c.in-Some.is at c.table_keys.ensures))

pub returns-in-Err : goal.returns-in-Err
returns-in-Err c =
    let a = c.args in
    let sum : c.refused.result ≡ word (console_number c.in-Err.refusal) (console_place c.in-Err.refusal) 0 = c.refused.ensures ∙ (λ i. word (c.number.ensures.value i) (c.place.ensures i) 0) in
    (λ i. record { result = sum i; table = c.step_of.new.table; out = c.step_of.new.out })
    ∙ rw c.in-Err.is at c.step_of.ensures
    ∙ whole a.table.now a.place a.event.now a.out.now (known_table a.table.now c.in-Some.keys (rw c.in-Some.is at c.table_keys.ensures))
