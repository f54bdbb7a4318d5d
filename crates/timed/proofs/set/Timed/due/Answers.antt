-- 1, 31 and 32; then the expiry of the first timer due, or the reading alone.
use Rattle.timed.proofs.Answering.{accepting, is_sound, readable, expired, quiet}
use Rattle.timed.proofs.set.Timed.due.Goals as goal

pub take-requires : goal.take-requires
take-requires c =
    let a = accepting _ _ _ c.in_ok-ready.ready c.in_ok-ready.ensures in
    (is_sound _ _ _ a, readable _ _ _ _ a _ c.in-Some.is)

pub returns-in-Some-clause-outcome : goal.returns-in-Some-clause-outcome
returns-in-Some-clause-outcome c =
    let a = accepting _ _ _ c.in_ok-ready.ready c.in_ok-ready.ensures in
    expired _ _ _ _ a _ _ _ _ c.in-Some.is (c.take.ensures.outcome c.args.self.bank)

pub returns-in-None-clause-outcome : goal.returns-in-None-clause-outcome
returns-in-None-clause-outcome c =
    let a = accepting _ _ _ c.in_ok-ready.ready c.in_ok-ready.ensures in
    rw c.joined.ensures (quiet _ _ _ _ a _ c.in-None.is)
