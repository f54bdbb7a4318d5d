-- What is left of the letters is still to be stored, and there is room for it.
use Rattle.std.proofs.Common.{ℕ, ◌+◌, ◌≤◌, ◌≡◌, true, List, length}
use Rattle.records.specs.Bodies.{Stored}
use Rattle.small.specs.Entry.{spell, spelled, body}
use Rattle.small.proofs.laying.Room.lay_body.Given as goal

abbrev pub invariant-loop-l : goal.invariant-loop-l
invariant-loop-l l =
    (goal.iterator-loop-l).can_next l.l-iterator × (goal.iterator-loop-l).is_finite l.l-iterator
    × (l.self.at + length (body (spell 8 l.l-iterator.left) l.v) ≤ 360) × (spelled (spell 8 l.l-iterator.left) ≡ true)
    × ((end : ℕ) (new : List ℕ) → Stored l.self.bytes l.self.at (body (spell 8 l.l-iterator.left) l.v) end new → Stored l.initial.self.bytes l.initial.self.at (body (spell 4 l.letters) l.v) end new)
