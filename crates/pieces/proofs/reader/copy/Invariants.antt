-- Each turn copies one byte more (`paste`).
use mathlib.Core.Path.{◌≡◌}
use lib.Seq.{paste}
use Rattle.pieces.proofs.reader.copy.Given as goal

abbrev pub invariant-loop-i : goal.invariant-loop-i
invariant-loop-i l = l.carry ≡ paste l.initial.carry l.at l.piece l.i
