-- What is left of the bytes.
use Rattle.std.proofs.Common.{length}
use Rattle.timed.proofs.starts.+start_all.Given as goal

abbrev pub decreases-start_all : goal.decreases-start_all
decreases-start_all l = length l.written.now
