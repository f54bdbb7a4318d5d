-- What is left of the letters is still to be stored.
use Rattle.std.proofs.Common.{get_or, arith}
use Rattle.records.specs.Bytes.{bytes}
use Rattle.records.specs.Bodies.{Stored}
use Rattle.records.proofs.Laws.{stored_none, length-bytes}
use Rattle.small.specs.Entry.{width_of, spell, body}
use Rattle.small.proofs.Letters.{four, a_letter, one_letter, letter_length, body_small}
use Rattle.small.proofs.laying.Room.lay_body.Goals as goal

pub loop-l-init : goal.loop-l-init
loop-l-init c =
    let a = c.args in
    let same = four a.letters c.requires.0 in
    rw (c.into_iter-l-iterator.ensures.into_iter_gives, ← same)
    (tt, tt, omega (arith, c.requires.1, body_small 4 a.letters a.v.now), c.requires.2, λ end new s. s)

pub bounds-v-l : goal.bounds-v-l
bounds-v-l c =
    let first = (c.in-Some.ensures {u = tt}).steps in
    (a_letter c.in-Some.l (spell 8 c.next.new.self.left) (rw first at c.loop-l.invariant.3)).0

pub put-requires : goal.put-requires
put-requires c =
    let v = c.args.v.now in
    let w = c.width_of.ensures in
    let first = (c.in-Some.ensures {u = tt}).steps in
    (omega (arith, rw first at c.loop-l.invariant.2, w.value, letter_length c.in-Some.l (spell 8 c.next.new.self.left) v), w.upper_bound)

pub loop-l-preserved : goal.loop-l-preserved
loop-l-preserved c =
    let v = c.args.v.now in
    let l = c.in-Some.l in
    let ls = spell 8 c.next.new.self.left in
    let i = c.loop-l.invariant in
    let w = c.width_of.ensures in
    let first = (c.in-Some.ensures {u = tt}).steps in
    let stored : Stored c.loop-l.self.bytes c.loop-l.self.at (bytes (width_of l) (get_or v l 0)) c.put.new.self.at c.put.new.self.bytes = rw w.value at c.put.ensures in (
      tt,
      tt,
      omega (arith, rw first at i.2, stored.end, length-bytes (width_of l) (get_or v l 0), letter_length l ls v),
      (a_letter l ls (rw first at i.3)).1,
      λ end new s. i.4 end new (rw first (one_letter l ls v stored s)),
    )

pub returns : goal.returns
unfolding body
returns c = c.loop-l.invariant.4 _ _ (rw ((c.in-None.ensures {u = tt}).steps.0) stored_none)
