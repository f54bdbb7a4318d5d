-- A count of seven at most fits.
use Prim.Native.Nat.{◌≤◌}
use native.Mathlib.Omega.{arith}
use Rattle.host.proofs.bank.leave.Goals as goal

pub overflow_cast-result : goal.overflow_cast-result
overflow_cast-result c =
    let few : c.in-Ok.advanced.count ≤ 7 = rw c.in-Ok.is at (c.requires.few c.in-Ok.advanced.bank) in
    omega (arith, few)
