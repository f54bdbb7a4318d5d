-- The part that is given back is copied where there is room for it.
use mathlib.Core.List.{List, ◌++◌}
use mathlib.Core.Path.{ap}
use Prim.Native.Nat.{ℕ}
use lib.ListN.{length, drop}
use native.Mathlib.Omega.{arith}
use Rattle.host_test.proofs.Copying.{few, no_room, copies}
use Rattle.host_test.proofs.callcontrol_test_record_in.Goals as goal

pub returns-then-out-count : goal.returns-then-out-count
returns-then-out-count c =
    let a = c.args in
    no_room a.lies a.size a.carry.now a.piece.now a.out.now c.handed.ensures c.record_in-record.ensures c.if-out-count.true

pub overflow_cast-result : goal.overflow_cast-result
overflow_cast-result c =
    let a = c.args in
    omega (arith, few a.lies a.size a.carry.now a.piece.now a.out.now c.handed.ensures c.record_in-record.ensures, c.ranges.size)

pub returns : goal.returns
returns c =
    let a = c.args in
    copies a.lies a.size a.carry.now a.piece.now a.out.now c.handed.ensures c.record_in-record.ensures c.if-out-count.false
    (ap (λ (z : List ℕ). z ++ drop (length c.record_in-record.result.now) a.out.now) c.copy_from_slice.ensures.after)
