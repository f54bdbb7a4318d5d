-- What is left of the lines are their last bytes, and it comes next behind those that were taken. The measure is what is left.
use Rattle.std.proofs.Common.{◌≡◌, ◌-◌, ◌≤◌, length, drop}
use Rattle.calltrace.proofs.write_lines.Given as goal

abbrev pub invariant-loop-left : goal.invariant-loop-left
invariant-loop-left l = record {
  fewer : length l.left ≤ length l.lines;
  behind : l.left ≡ drop (length l.lines - length l.left) l.lines;
}

abbrev pub decreases-loop-left : goal.decreases-loop-left
decreases-loop-left l = length l.left
