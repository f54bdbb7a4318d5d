-- The orders of the timers gone through.
use Rattle.std.proofs.Common.{◌≡◌}
use Rattle.callcontrol.proofs.Ordering.{stops_to, starts_to}
use Rattle.callcontrol.proofs.settle.Timing.ordered_by.Given as goal

abbrev pub invariant-loop-k : goal.invariant-loop-k
invariant-loop-k l = l.timing ≡ stops_to l.fn.orders l.k l.fn.self

abbrev pub invariant-loop-k-2 : goal.invariant-loop-k-2
invariant-loop-k-2 l = l.timing ≡ starts_to l.fn.orders l.k (stops_to l.fn.orders 7 l.fn.self)
