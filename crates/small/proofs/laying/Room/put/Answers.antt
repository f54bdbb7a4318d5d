-- The bytes of the number's own are copied.
use Rattle.std.proofs.Common.{rules, ◌≡◌, arith, length}
use Rattle.small.proofs.Storing.{stored_bytes}
use Rattle.small.proofs.laying.Room.put.Goals as goal

pub returns : goal.returns
returns c =
    let l : 360 ≡ length c.args.self.now.bytes = search rules in
    stored_bytes _ _ _ _ _ (rw c.to_le_bytes.ensures at c.copy_from_slice.ensures.after) c.requires.1 (omega (arith, l, c.requires.0))
