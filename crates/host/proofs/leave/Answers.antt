-- The record of what is taken is packed, and its count fits; a refusal leaves the bytes.
use Prim.Native.Nat.{◌≤◌}
use native.Mathlib.Omega.{arith}
use Rattle.host.proofs.Answers.{packs, refuses}
use Rattle.host.proofs.leave.Goals as goal

pub overflow_cast-result : goal.overflow_cast-result
overflow_cast-result c = let few : c.in-Ok.stepped.count ≤ 122 = rw c.in-Ok.is at c.requires.1 in omega (arith, few)

pub returns-in-Ok : goal.returns-in-Ok
returns-in-Ok c = λ before out. rw c.in-Ok.is (packs _ _ _ _ c.pack.ensures)

pub returns-in-Err : goal.returns-in-Err
returns-in-Err c = λ before out. rw c.in-Err.is (refuses _ _ c.in-Err.refusal _ (rw (c.refused.ensures, c.number.ensures.value, c.place.ensures)))
