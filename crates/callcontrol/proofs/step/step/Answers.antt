-- 1 first, then what reading answers, then what the event does.
use Rattle.std.proofs.lemmas.Result.{err_from_is_err_and}
use Rattle.callcontrol.specs.Step.{step_of}
use Rattle.callcontrol.proofs.step.step.Goals as goal

pub returns-then-not-sound : goal.returns-then-not-sound
unfolding step_of
returns-then-not-sound c = rw (← c.sound.ensures, c.if-not-sound.true)

pub returns-in_err-read : goal.returns-in_err-read
unfolding step_of
returns-in_err-read c =
    let p = err_from_is_err_and c.from_residual.result c.from_residual.ensures.1 in
    rw (← c.sound.ensures, c.if-not-sound.false, ← c.read.ensures, c.in_err-read.was, p.1, p.2)

pub returns : goal.returns
unfolding step_of
returns c = rw (← c.sound.ensures, c.if-not-sound.false, ← c.read.ensures, c.in_ok-read.was) c.decide.ensures
