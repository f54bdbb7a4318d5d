-- The piece is copied, and counted.
use Rattle.pieces.specs.Next.{kept}
use Rattle.pieces.proofs.reader.Reader.keep.Goals as goal

pub returns : goal.returns
unfolding kept
returns c = rw (c.copy.ensures, c.requires.1)
