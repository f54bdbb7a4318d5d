-- The orders of the timers gone through.
use Rattle.records.specs.declared.messages.Message.{Message}
use Rattle.callcontrol.specs.Writing.{Laid}
use Rattle.callcontrol.proofs.Laying.{by_number_to}
use Rattle.callcontrol.proofs.writing.lay_stops.Given as goal

abbrev pub invariant-loop-k : goal.invariant-loop-k
invariant-loop-k l = Laid l.initial.buffer l.initial.at (by_number_to Message.Stop l.k l.fn.flags) l.at l.buffer
