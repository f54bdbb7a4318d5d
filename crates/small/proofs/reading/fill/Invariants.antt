-- What is left of the letters is still to be filled in.
use Rattle.std.proofs.Common.{◌+◌, ◌≤◌, ◌≡◌, length}
use Rattle.small.specs.Entry.{spell}
use Rattle.small.specs.Reading.{fill, total, caps, Under}
use Rattle.small.proofs.reading.fill.Given as goal

abbrev pub invariant-loop-letter : goal.invariant-loop-letter
invariant-loop-letter l =
    let left = spell 8 l.letter-iterator.left in
    (goal.iterator-loop-letter).can_next l.letter-iterator × (goal.iterator-loop-letter).is_finite l.letter-iterator
    × (4 ≤ l.at) × (l.at + total left ≡ length l.s) × Under l.v caps × (fill left l.v l.s l.at ≡ fill (spell 5 l.letters) l.initial.v l.s 4)
