-- The digit that the orders have for it is SENT's.
use Prim.Native.Nat.{◌/◌, ◌%◌}
use mathlib.Core.Path.{◌≡◌}
use native.Mathlib.Omega.{arith}
use Rattle.callcontrol.specs.Settle.{sent_by}
use Rattle.callcontrol.proofs.settle.sent_by.Goals as goal

pub returns-in-512 : goal.returns-in-512
unfolding sent_by
returns-in-512 c = let two : c.args.orders / 256 % 16 ≡ 2 = omega (arith, c.part.ensures, c.in-512.is) in rw two
