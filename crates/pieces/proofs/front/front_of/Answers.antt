-- The tests are those of the definition, one after the other.
use native.Mathlib.Omega.{arith}
use Rattle.pieces.proofs.Seen.{too_short, below_4, above_64, carried_already, ends, goes_on}
use Rattle.pieces.proofs.front.front_of.Goals.{then-size-lt-SHORTEST-via-then-size-lt-SHORTEST, then-size-lt-SHORTEST-via-else-size-lt-SHORTEST+then-size-gt-LONGEST, then-size-lt-SHORTEST-via-else-size-lt-SHORTEST+else-size-gt-LONGEST+then-size-carried}
use Rattle.pieces.proofs.front.front_of.Goals as goal

pub returns-then-there-lt2 : goal.returns-then-there-lt2
returns-then-there-lt2 c = too_short c.args.carried.now c.args.piece.now (omega arith)

pub returns-then-size-lt-SHORTEST : goal.returns-then-size-lt-SHORTEST
returns-then-size-lt-SHORTEST c =
    let size = c.from_le_bytes-size.ensures in
    let low = c.byte_at-low.ensures in
    let high = c.byte_at-high.ensures in
    elim c.then-size-lt-SHORTEST.branch [
      | then-size-lt-SHORTEST-via-then-size-lt-SHORTEST w ↦ below_4 c.args.carried.now c.args.piece.now c.if-there-lt2.false size low high w.if-size-lt-SHORTEST.true
      | then-size-lt-SHORTEST-via-else-size-lt-SHORTEST+then-size-gt-LONGEST w ↦
          above_64 c.args.carried.now c.args.piece.now c.if-there-lt2.false size low high w.if-size-lt-SHORTEST.false w.if-size-gt-LONGEST.true
      | then-size-lt-SHORTEST-via-else-size-lt-SHORTEST+else-size-gt-LONGEST+then-size-carried w ↦
          carried_already c.args.carried.now c.args.piece.now c.if-there-lt2.false size low high w.if-size-lt-SHORTEST.false w.if-size-gt-LONGEST.false w.if-size-carried.true
    ]

pub returns-then-size-there : goal.returns-then-size-there
returns-then-size-there c =
    ends c.args.carried.now c.args.piece.now c.if-there-lt2.false c.from_le_bytes-size.ensures c.byte_at-low.ensures c.byte_at-high.ensures c.if-size-lt-SHORTEST.false
    c.if-size-gt-LONGEST.false c.if-size-carried.false c.if-size-there.true

pub returns-else-size-there : goal.returns-else-size-there
returns-else-size-there c =
    goes_on c.args.carried.now c.args.piece.now c.if-there-lt2.false c.from_le_bytes-size.ensures c.byte_at-low.ensures c.byte_at-high.ensures c.if-size-lt-SHORTEST.false
    c.if-size-gt-LONGEST.false c.if-size-there.false
