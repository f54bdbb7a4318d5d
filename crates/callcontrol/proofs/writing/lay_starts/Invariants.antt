-- The orders of the timers gone through.
use Rattle.callcontrol.specs.Writing.{Laid, starting}
use Rattle.callcontrol.proofs.Laying.{by_number_to}
use Rattle.callcontrol.proofs.writing.lay_starts.Given as goal

abbrev pub invariant-loop-k : goal.invariant-loop-k
invariant-loop-k l = Laid l.initial.buffer l.initial.at (by_number_to (starting l.fn.code) l.k l.fn.flags) l.at l.buffer
