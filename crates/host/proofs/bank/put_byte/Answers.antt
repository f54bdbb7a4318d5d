-- A byte is its own remainder by 256.
use Prim.Native.Nat.{◌%◌}
use mathlib.Core.Path.{◌≡◌, refl}
use native.Mathlib.Nat.{mod-eq_of_lt}
use native.Mathlib.Omega.{arith}
use Rattle.records.specs.Bytes.{bytes}
use Rattle.host.proofs.bank.put_byte.Goals as goal

pub returns : goal.returns
unfolding bytes
returns c = let e : c.args.v % 256 ≡ c.args.v = mod-eq_of_lt (omega arith) in record { end = refl; now = rw e }
