-- 1, then where the bytes lead.
use Rattle.std.proofs.Common.{◌≡◌, ◌∙◌, true, sym}
use Rattle.std.proofs.lemmas.Result.{err_from_is_err_and}
use Rattle.console.specs.Table.{table_sound}
use Rattle.console.specs.Console.{console_of}
use Rattle.console.proofs.ByKeys.{lead_goes, lead_fits, led_by, led_to}
use Rattle.console.proofs.console.console_step.Goals as goal

pub returns-then-not-table_sound : goal.returns-then-not-table_sound
unfolding console_of
returns-then-not-table_sound c = rw (← c.table_sound.ensures, c.if-not-table_sound.true)

pub returns-in_err-target : goal.returns-in_err-target
returns-in_err-target c =
    let a = c.args in
    let sound : table_sound a.calls ≡ true = sym c.table_sound.ensures ∙ c.if-not-table_sound.false in
    let p = err_from_is_err_and c.from_residual.result c.from_residual.ensures.1 in
    rw (p.1, p.2) (lead_goes a.calls sound a.place a.event.now (led_by a.calls a.place a.event.now c.of.ensures c.lead.ensures c.in_err-target.was) a.buffer.now)

pub at_place-requires : goal.at_place-requires
at_place-requires c =
    let a = c.args in
    let sound : table_sound a.calls ≡ true = sym c.table_sound.ensures ∙ c.if-not-table_sound.false in
    lead_fits a.calls sound a.place a.event.now (led_to a.calls a.place a.event.now c.of.ensures c.lead.ensures c.in_ok-target.was c.in-Place.is)

pub everywhere-requires : goal.everywhere-requires
everywhere-requires c =
    let a = c.args in
    let sound : table_sound a.calls ≡ true = sym c.table_sound.ensures ∙ c.if-not-table_sound.false in
    lead_fits a.calls sound a.place a.event.now (led_to a.calls a.place a.event.now c.of.ensures c.lead.ensures c.in_ok-target.was c.in-Everywhere.is)

pub returns-in-Place : goal.returns-in-Place
returns-in-Place c =
    let a = c.args in
    let sound : table_sound a.calls ≡ true = sym c.table_sound.ensures ∙ c.if-not-table_sound.false in
    c.at_place.ensures
    ∙ lead_goes a.calls sound a.place a.event.now (led_to a.calls a.place a.event.now c.of.ensures c.lead.ensures c.in_ok-target.was c.in-Place.is) a.buffer.now

pub returns-in_err-count-in-Everywhere : goal.returns-in_err-count-in-Everywhere
returns-in_err-count-in-Everywhere c =
    let a = c.args in
    let sound : table_sound a.calls ≡ true = sym c.table_sound.ensures ∙ c.if-not-table_sound.false in
    let p = err_from_is_err_and c.from_residual-in_err-count-in-Everywhere.result c.from_residual-in_err-count-in-Everywhere.ensures.1 in
    let step = rw c.in_err-count-in-Everywhere.was at c.everywhere.ensures.value in
    rw (p.1, p.2)
    (step ∙ lead_goes a.calls sound a.place a.event.now (led_to a.calls a.place a.event.now c.of.ensures c.lead.ensures c.in_ok-target.was c.in-Everywhere.is) a.buffer.now)

pub returns-in_ok-count-in-Everywhere : goal.returns-in_ok-count-in-Everywhere
returns-in_ok-count-in-Everywhere c =
    let a = c.args in
    let sound : table_sound a.calls ≡ true = sym c.table_sound.ensures ∙ c.if-not-table_sound.false in
    let step = rw c.in_ok-count-in-Everywhere.was at c.everywhere.ensures.value in
    step ∙ lead_goes a.calls sound a.place a.event.now (led_to a.calls a.place a.event.now c.of.ensures c.lead.ensures c.in_ok-target.was c.in-Everywhere.is) a.buffer.now
