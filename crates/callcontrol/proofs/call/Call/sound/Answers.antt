-- The first two tests, each where those before it hold, and then the other two at once.
use borrow.Author.Tests.{not-true, not-false}
use Rattle.callcontrol.specs.Call.{sound}
use Rattle.callcontrol.proofs.call.Call.sound.Goals as goal

pub returns-then-not-in_range : goal.returns-then-not-in_range
unfolding sound
returns-then-not-in_range c = rw (← c.in_range.ensures, not-true c.in_range.result c.if-not-in_range.true-raw)

pub returns-then-not-idle_is_fresh : goal.returns-then-not-idle_is_fresh
unfolding sound
returns-then-not-idle_is_fresh c = rw (← c.in_range.ensures, not-false c.in_range.result c.if-not-in_range.false-raw, ← c.idle_is_fresh.ensures, not-true c.idle_is_fresh.result c.if-not-idle_is_fresh.true-raw)

pub returns : goal.returns
unfolding sound
returns c = rw (← c.in_range.ensures, not-false c.in_range.result c.if-not-in_range.false-raw, ← c.idle_is_fresh.ensures, not-false c.idle_is_fresh.result c.if-not-idle_is_fresh.false-raw, c.timers_agree.ensures, c.state_agrees.ensures)
