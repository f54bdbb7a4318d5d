-- What came, what was written and what is in hand of both is a trace on its way at each turn, and a whole one where the lines in hand are
-- complete.
use Rattle.std.proofs.Common.{◌≡◌, add-zero, ◌<◌, ◌≤◌, length, drop, ap, arith, length-drop, take-append-drop}
use Rattle.calltrace.specs.Trace.{short}
use Rattle.calltrace.proofs.Traces.{begins, goes_on, writes, reads_on, ends, end_traced, in_hand_due}
use Rattle.calltrace.proofs.trace.Goals.{in-Ok+else-count-gt0, in-Err-read_on}
use Rattle.calltrace.proofs.trace.Goals as goal

pub loop-turn-init : goal.loop-turn-init
loop-turn-init c =
    record {
      underway = rw (c.new-block.ensures, c.fresh-call.ensures, c.begin.ensures.value) begins;
      laid_most = omega (arith, c.begin.ensures.upper_bound);
      read_most = omega arith;
      written_most = omega arith;
      turned = omega arith;
    }

pub write_lines-done-requires : goal.write_lines-done-requires
write_lines-done-requires c = rw c.laid-laid.ensures.value (in_hand_due (goes_on c.loop-turn.invariant.underway c.drain.ensures.traced))

pub returns-then-done-laid : goal.returns-then-done-laid
returns-then-done-laid c =
    (omega (arith, ap length c.laid-laid.ensures.value), in_hand_due (goes_on c.loop-turn.invariant.underway c.drain.ensures.traced))

pub loop-turn-preserved : goal.loop-turn-preserved
loop-turn-preserved c =
    let inv = c.loop-turn.invariant in
    let lines = c.drain.new.lines in
    let full = rw c.in-Ok-Full.field-0-is at c.in-Ok-Full.ensures.pause_in in
    let all : c.write_lines-done.result ≡ length lines = omega (arith, ap length c.laid-laid.ensures.value, c.write_lines-done.ensures) in
    let most : length lines ≤ 65536 = c.drain.ensures.upper_bound in
    let some : 0 < length lines = omega (arith, full) in
    record {
      underway = rw (all, c.clear.ensures) (writes (goes_on inv.underway c.drain.ensures.traced));
      laid_most = rw c.clear.ensures (omega arith);
      read_most = omega arith;
      written_most = omega arith;
      turned = omega arith;
    }

-- the rest of a cut record is at the front, and what came stands behind it
pub loop-turn-preserved-then-count-gt0 : goal.loop-turn-preserved-then-count-gt0
loop-turn-preserved-then-count-gt0 c =
    let inv = c.loop-turn.invariant in
    let rest = c.drain.new.block in
    let block = c.read_on.new.self in
    let r = c.in-Ok.ensures in
    let came : length (drop (length rest) block) ≡ c.in-Ok.count = rw length-drop (omega (arith, r.length_value)) in
    record {
      underway = rw (← take-append-drop (length rest) block, r.left_unchanged)
          (reads_on (drop (length rest) block) came (goes_on inv.underway c.drain.ensures.traced));
      laid_most = c.drain.ensures.upper_bound;
      read_most = omega arith;
      written_most = omega arith;
      turned = omega arith;
    }

pub returns-in-Ok-Cut : goal.returns-in-Ok-Cut
returns-in-Ok-Cut c =
    let cut = rw c.in-Ok-Cut.field-0-is at c.in-Ok-Cut.ensures.pause_in in
    let lines = rw c.left-rest.ensures.value at c.put_end.ensures.value in
    let whole = ends (goes_on c.loop-turn.invariant.underway c.drain.ensures.traced) (end_traced _ _ cut.0) lines in
    elim c.match-read_on.branch [
      | in-Ok+else-count-gt0 w ↦ let none : w.in-Ok.count ≡ 0 = omega arith in rw (w.end-is, w.counts-is, none, add-zero) whole
      | in-Err-read_on w ↦ rw (w.end-is, w.counts-is) whole
    ]

pub returns-in-Err : goal.returns-in-Err
returns-in-Err c =
    ends (goes_on c.loop-turn.invariant.underway c.drain.ensures.traced) (short c.in-Err.ensures.pause_in.0) (rw c.last.ensures.value at c.put_line.ensures.value)

pub returns : goal.returns
returns c = (omega arith, in_hand_due c.loop-turn.invariant.underway)
