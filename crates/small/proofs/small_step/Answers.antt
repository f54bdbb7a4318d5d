-- 1 first, then what reading answers, then what the event's numbers do.
use Rattle.std.proofs.Common.{◌∙◌}
use Rattle.std.proofs.lemmas.Result.{err_from_is_err_and}
use Rattle.records.specs.Tables.{read}
use Rattle.records.specs.Events.{events}
use Rattle.callcontrol.specs.Step.{step_of}
use Rattle.small.proofs.Deciding.{read_event, read_refused}
use Rattle.small.proofs.small_step.Goals as goal

pub returns-then-not-sound : goal.returns-then-not-sound
unfolding step_of
returns-then-not-sound c = rw (← c.sound.ensures, c.if-not-sound.true)

pub returns-in_err-read_flat : goal.returns-in_err-read_flat
unfolding step_of
returns-in_err-read_flat c =
    let a = c.args in
    let p = err_from_is_err_and c.from_residual.result c.from_residual.ensures.1 in
    rw (← c.sound.ensures, c.if-not-sound.false, p.1, p.2)
    (read_refused a.call a.buffer.now (read events a.event.now) _ _ (rw c.in_err-read_flat.was at c.read_flat.ensures))

pub returns : goal.returns
unfolding step_of
returns c =
    let a = c.args in
    rw (← c.sound.ensures, c.if-not-sound.false)
    (c.decide.ensures ∙ read_event a.call a.buffer.now (read events a.event.now) _ (rw c.in_ok-read_flat.was at c.read_flat.ensures))
