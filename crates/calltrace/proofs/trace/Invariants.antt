-- What came, what was written and what is in hand of both is a trace on its way at each turn.
use Rattle.std.proofs.Common.{◌+◌, ◌*◌, ◌≤◌, length}
use Rattle.calltrace.specs.Trace.{Underway}
use Rattle.calltrace.proofs.trace.Given as goal

abbrev pub invariant-loop-turn : goal.invariant-loop-turn
invariant-loop-turn l = record {
  underway : Underway l.counts.read l.counts.written l.block l.call l.lines;
  laid_most : length l.lines ≤ 65536;
  read_most : l.counts.read ≤ 131072 * l._turn;
  written_most : l.counts.written ≤ 65536 * l._turn;
  turned : l._turn ≤ l.counts.read + l.counts.written;
}
