-- The lines of specs/Witness.antt are those of the run, by computing it.
use mathlib.Core.Path.{refl}
use Rattle.pieces.specs.Stream.{front}
use Rattle.pieces.specs.Next.{kept, handed_on, found, next_of}
use Rattle.pieces.specs.Runs.{feed_within, feed}
use Rattle.pieces.specs.Witness.{GoesSo, line_of_calls, longest}

pub goes_so : GoesSo line_of_calls
unfolding front kept handed_on found next_of feed_within feed
goes_so = refl

pub longest_goes_so : GoesSo longest
unfolding front kept handed_on found next_of feed_within feed
longest_goes_so = refl
