-- What is left of the places is still to be stored, and what is left of the turns still to be taken.
use Rattle.std.proofs.Common.{ℕ, ◌*◌, ◌-◌, ◌≤◌, ◌≡◌, false, List, get_or}
use Rattle.records.specs.Bodies.{Stored}
use Rattle.small.specs.Places.{number_in, turns, places_from, Alike}
use Rattle.small.proofs.laying.Orders.lay_all.Given as goal

abbrev pub invariant-loop-k : goal.invariant-loop-k
invariant-loop-k l =
    let o = l.self in
    let number = number_in o.sum o.code o.value o.configure l.initial.running in
    (l.room.at ≤ 20 * l.k) × Alike l.v l.initial.v × ((j : ℕ) → l.k ≤ j → get_or l.running j false ≡ get_or l.initial.running j false)
    × (turns o.sum o.code o.configure (18 - l.k) l.k l.running ≡ turns o.sum o.code o.configure 18 0 l.initial.running)
    × ((end : ℕ) (new : List ℕ) → Stored l.room.bytes l.room.at (places_from (18 - l.k) l.k number l.initial.v) end new → Stored l.initial.room.bytes 0 (places_from 18 0 number l.initial.v) end new)
