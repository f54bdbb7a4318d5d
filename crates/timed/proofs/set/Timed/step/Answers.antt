-- 1, 31 and 32; then 34, what reading answers, 35, and what the event does.
use Rattle.std.proofs.Common.{sym, ◌∙◌}
use Rattle.std.proofs.lemmas.Result.{err_from_is_err_and}
use Rattle.timed.proofs.Answering.{accepting, is_sound, some_is, none_is, timer_due, unread, handed_in, stepped}
use Rattle.timed.proofs.set.Timed.step.Goals as goal

pub returns-then-is_some-clause-outcome : goal.returns-then-is_some-clause-outcome
returns-then-is_some-clause-outcome c =
    let a = accepting _ _ _ c.in_ok-ready.ready c.in_ok-ready.ensures in
    let some = some_is _ (sym c.is_some.ensures ∙ c.if-is_some.true) in
    timer_due _ _ _ _ _ _ a some.0 some.1

pub returns-in_err-event-clause-outcome : goal.returns-in_err-event-clause-outcome
returns-in_err-event-clause-outcome c =
    let a = accepting _ _ _ c.in_ok-ready.ready c.in_ok-ready.ensures in
    let p = err_from_is_err_and c.from_residual-in_err-event.result c.from_residual-in_err-event.ensures.1 in
    rw (p.1, p.2) (unread _ _ _ _ _ _ a _ c.in_err-event.ensures (none_is _ (sym c.is_some.ensures ∙ c.if-is_some.false)))

pub returns-then-is_expiry-clause-outcome : goal.returns-then-is_expiry-clause-outcome
returns-then-is_expiry-clause-outcome c =
    let a = accepting _ _ _ c.in_ok-ready.ready c.in_ok-ready.ensures in
    handed_in _ _ _ _ _ _ a _ c.in_ok-event.ensures (sym c.is_expiry.ensures ∙ c.if-is_expiry.true) (none_is _ (sym c.is_some.ensures ∙ c.if-is_some.false))

pub take-requires : goal.take-requires
take-requires c =
    let a = accepting _ _ _ c.in_ok-ready.ready c.in_ok-ready.ensures in
    (is_sound _ _ _ a, (_, sym c.in_ok-event.ensures))

pub returns-clause-outcome : goal.returns-clause-outcome
returns-clause-outcome c =
    let a = accepting _ _ _ c.in_ok-ready.ready c.in_ok-ready.ensures in
    stepped _ _ _ _ _ _ a _ _ _ c.in_ok-event.ensures (sym c.is_expiry.ensures ∙ c.if-is_expiry.false) (none_is _ (sym c.is_some.ensures ∙ c.if-is_some.false))
    (c.take.ensures.outcome c.args.self.bank)
