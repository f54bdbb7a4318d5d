-- The place that the event goes to is stored, and no other.
use Rattle.std.proofs.Common.{refl}
use Rattle.std.proofs.lemmas.Result.{err_from_is_err_and}
use Rattle.console.proofs.Placing.{at_place_lem, at_place_left}
use Rattle.console.proofs.console.at_place.Goals as goal

pub returns-in_err-stepped : goal.returns-in_err-stepped
returns-in_err-stepped c =
    let p = err_from_is_err_and c.from_residual.result c.from_residual.ensures.1 in
    rw (p.1, p.2) (at_place_left c.args.k c.args.calls c.args.event c.args.buffer.now (rw c.in_err-stepped.was at c.place_step.ensures) refl)

pub returns : goal.returns
returns c = at_place_lem c.args.k c.args.calls c.args.event c.args.buffer.now (rw c.in_ok-stepped.was at c.place_step.ensures)
