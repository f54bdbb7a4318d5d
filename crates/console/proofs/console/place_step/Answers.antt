-- The step is lent the buffer behind five bytes; where it writes, the record that names the place goes into those.
use Rattle.std.proofs.Common.{◌≡◌, refl, rules, arith, min, length}
use Rattle.std.proofs.lemmas.Result.{err_from_is_err_and}
use Rattle.console.proofs.Placing.{unwritten, written, step_few}
use Rattle.console.proofs.console.place_step.Goals as goal

pub returns-in_err-stepped : goal.returns-in_err-stepped
returns-in_err-stepped c =
    let p = err_from_is_err_and c.from_residual.result c.from_residual.ensures.1 in
    let head : c.min-head.result ≡ min (length c.args.buffer.now) 5 = search rules in
    rw (p.1, p.2) (unwritten c.args.k c.args.call c.args.event c.args.buffer.now head (rw c.in_err-stepped.was at c.decide.ensures) refl)

pub returns-then-stepped-eq0 : goal.returns-then-stepped-eq0
returns-then-stepped-eq0 c =
    let head : c.min-head.result ≡ min (length c.args.buffer.now) 5 = search rules in
    unwritten c.args.k c.args.call c.args.event c.args.buffer.now head (rw c.in_ok-stepped.was at c.decide.ensures) c.if-stepped-eq0.true

pub overflow_add-result : goal.overflow_add-result
overflow_add-result c =
    let head : c.min-head.result ≡ min (length c.args.buffer.now) 5 = search rules in
    let few = step_few c.args.k c.args.call c.args.event c.args.buffer.now head (rw c.in_ok-stepped.was at c.decide.ensures) in
    omega arith

pub returns : goal.returns
returns c =
    let head : c.min-head.result ≡ min (length c.args.buffer.now) 5 = search rules in
    written c.args.k c.args.call c.args.event c.args.buffer.now head (rw c.in_ok-stepped.was at c.decide.ensures) c.if-stepped-eq0.false refl c.put_place.ensures
