-- What reading answers, then where the event goes.
use Rattle.std.proofs.lemmas.Result.{err_from_is_err_and}
use Rattle.console.proofs.ByKeys.{no_place}
use Rattle.console.proofs.route.lead.Goals as goal

pub returns-in_err-route_of : goal.returns-in_err-route_of
returns-in_err-route_of c =
    let p = err_from_is_err_and c.from_residual-in_err-route_of.result c.from_residual-in_err-route_of.ensures.1 in
    let is = rw c.in_err-route_of.was at c.route_of.ensures in
    rw (p.1, p.2, ← c.read.ensures, c.in_ok-event.was, ← is, no_place _ _ _ is)
