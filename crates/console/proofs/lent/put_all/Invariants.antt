-- The places before k have had their turns, and what they wrote stands at the front of the buffer.
use Rattle.console.proofs.Everywhere.{Putting}
use Rattle.console.proofs.lent.put_all.Given as goal

abbrev pub invariant-loop-k : goal.invariant-loop-k
invariant-loop-k l = Putting l.event l.fn.own l.fn.calls l.own l.calls l.passed l.k
