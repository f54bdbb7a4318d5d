-- The head, and behind it the body.
use Prim.Native.Nat.{◌+◌}
use native.Mathlib.Omega.{arith}
use mathlib.Core.Path.{◌≡◌}
use mathlib.Core.List.{[], ◌∷◌}
use Rattle.std.proofs.Math.Seq.{length-sets}
use Rattle.std.proofs.Math.ListN.{length, get_or}
use Rattle.records.specs.Bytes.{bytes}
use Rattle.records.specs.Bodies.{line_bytes}
use Rattle.records.proofs.Laws.{stored_then}
use Rattle.records.proofs.Writing.{no_room, all_laid, copied, headed}
use Rattle.records.proofs.lines.lay_record.Goals as goal

pub returns-then-buffer-at : goal.returns-then-buffer-at
unfolding bytes line_bytes
returns-then-buffer-at g c = no_room _ _ _ (omega arith)

pub returns-then-buffer-at-2 : goal.returns-then-buffer-at-2
unfolding bytes line_bytes
returns-then-buffer-at-2 g c = no_room _ _ _ (omega arith)

pub returns : goal.returns
unfolding bytes line_bytes
returns g c =
    let size : 4 + g.row.N ≡ 4 + length c.args.body = omega arith in
    let head = copied c.args.buffer.now c.args.at (c.args.at + 4) (get_or c.to_le_bytes.result 0 0 ∷ get_or c.to_le_bytes.result 1 0 ∷ get_or c.to_le_bytes-2.result 0 0 ∷ get_or c.to_le_bytes-2.result 1 0 ∷ []) (omega arith) (omega arith) in
    rw (c.copy_from_slice.ensures.after, c.copy_from_slice-2.ensures.after)
    (all_laid _ _ _ (omega arith)
    (rw (headed c.args.kind (4 + g.row.N) c.to_le_bytes.ensures c.to_le_bytes-2.ensures size) at
    (stored_then head (copied _ (c.args.at + 4) (c.args.at + (4 + g.row.N)) c.args.body (omega arith) (rw (head.now, length-sets) (omega arith))))))
