-- What is left of the places is still to be stored, and what is left of the turns still to be taken.
use Rattle.std.proofs.Common.{◌≡◌, ◌∙◌, ◌-◌, arith}
use Rattle.records.proofs.Laws.{stored_none}
use Rattle.small.specs.Places.{number_in, turns, places_from}
use Rattle.small.proofs.Places.{alike_then, next_place, later, next_turn, same_number}
use Rattle.small.proofs.laying.Orders.lay_all.Goals as goal

pub loop-k-preserved : goal.loop-k-preserved
loop-k-preserved c =
    let o = c.args.self in
    let i = c.loop-k.invariant in
    let k = c.loop-k.k in
    let m = c.number_for.ensures in
    let p = c.lay_place.ensures in
    let own = same_number o.sum o.code o.value o.configure k c.loop-k.running c.args.running.now (i.2 k (omega arith)) in
    let stored = rw (m.value ∙ own) at p.stored in (
      omega (arith, p.upper_bound, i.0),
      alike_then p.alike i.1,
      λ j h. rw m.running_after (later o.sum o.code o.configure k j c.loop-k.running (omega (arith, h)) ∙ i.2 j (omega (arith, h))),
      rw m.running_after (next_turn o.sum o.code o.configure k c.loop-k.running (omega arith) ∙ i.3),
      λ end new s. i.4 end new (next_place k (number_in o.sum o.code o.value o.configure c.args.running.now) c.loop-k.v c.args.v.now (omega arith) i.1 stored s),
    )

pub returns-clause-stored : goal.returns-clause-stored
unfolding places_from
returns-clause-stored c =
    let end : 18 - c.loop-k.k ≡ 0 = omega arith in
    c.loop-k.invariant.4 _ _ (rw end stored_none)

pub returns-clause-running_after : goal.returns-clause-running_after
unfolding turns
returns-clause-running_after c =
    let end : 18 - c.loop-k.k ≡ 0 = omega arith in
    rw end at c.loop-k.invariant.3
