-- The four bytes are copied into their part.
use Prim.Native.Nat.{◌+◌}
use native.Mathlib.Omega.{arith}
use mathlib.Core.Path.{◌≡◌, ◌∙◌}
use Rattle.records.specs.Bytes.{bytes}
use Rattle.records.proofs.Writing.{copied}
use Rattle.host.proofs.Packing.{four_of}
use Rattle.host.proofs.BankBytes.{four_bytes}
use Rattle.host.proofs.bank.put_long.Goals as goal

pub returns : goal.returns
returns c =
    let four : c.to_le_bytes.result ≡ bytes 4 c.args.v = c.to_le_bytes.ensures ∙ four_of c.args.v in
    rw (c.copy_from_slice.ensures.after, four) (copied c.args.out.now c.args.at (c.args.at + 4) (bytes 4 c.args.v) (omega (arith, four_bytes c.args.v)) (omega arith))
