-- The place is lent what is left behind the bytes of the places in front of it.
use Rattle.std.proofs.Common.{refl, arith}
use Rattle.console.proofs.Everywhere.{turn_within, turn_taken, turn_left}
use Rattle.console.proofs.Refused.{step_refused}
use Rattle.console.proofs.console.turn.Goals as goal

pub returns-in_default : goal.returns-in_default
returns-in_default c =
    let a = c.args in
    let step = rw c.in_default.is at c.place_step.ensures in
    let left = turn_left a.k a.call.now a.event a.passed a.own.now c.requires.0 c.requires.2 step (λ none. omega (arith, step_refused c.in_default.field-0, none)) refl in
    (left.0, left.1)

pub overflow_add-result-2 : goal.overflow_add-result-2
overflow_add-result-2 c =
    let a = c.args in
    let within = turn_within a.k a.call.now a.event a.passed a.own.now c.requires.0 c.requires.2 (rw c.in-Ok.is at c.place_step.ensures) in
    omega arith

pub returns : goal.returns
returns c =
    let a = c.args in
    turn_taken a.k a.call.now a.event a.passed a.own.now c.requires.0 c.requires.2 (rw c.in-Ok.is at c.place_step.ensures) refl
