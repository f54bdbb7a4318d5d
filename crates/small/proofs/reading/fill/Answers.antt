-- What is left of the letters is still to be filled in.
use Rattle.std.proofs.Common.{refl, sym, ap, ◌∙◌, ◌≤◌, get_or, arith}
use native.Mathlib.Nat.{le_trans}
use Rattle.small.specs.Entry.{spell}
use Rattle.small.specs.Reading.{letters, slot_in, fill, filled, caps}
use Rattle.small.proofs.Letters.{five, small_letter}
use Rattle.small.proofs.Slots.{a_letter, under_set, total_first, too_low, too_high, in_range_lem, filled_first, none_to_fill}
use Rattle.small.proofs.reading.fill.Goals as goal
use Rattle.small.proofs.reading.fill.Goals.{then-x-l-via-then-x-l, then-x-l-via-else-x-l+then-l-x}

pub loop-letter-init : goal.loop-letter-init
loop-letter-init c =
    rw (c.into_iter-letter-iterator.ensures.into_iter_gives, ← five c.args.letters c.requires.0)
    (tt, tt, omega arith, c.requires.1, c.requires.3, refl)

pub bounds-letter : goal.bounds-letter
bounds-letter c = small_letter 8 c.loop-letter.letter-iterator.left c.in-Some.letter _ (c.in-Some.ensures {u = tt}).steps

pub number_at-x-requires : goal.number_at-x-requires
number_at-x-requires c =
    let l = c.in-Some.letter in
    let first = (c.in-Some.ensures {u = tt}).steps in
    let k = a_letter l (small_letter 8 c.loop-letter.letter-iterator.left l _ first) in
    (k.some, k.few, k.even, omega (arith, rw first at c.loop-letter.invariant.3, total_first l (spell 8 c.next.new.self.left)), c.requires.2)

pub returns-then-x-l-clause-v_after : goal.returns-then-x-l-clause-v_after
returns-then-x-l-clause-v_after c =
    let left = c.loop-letter in
    let n = c.number_at-x in
    let e = get_or letters c.in-Some.letter 0 in
    let rest = filled_first c.in-Some.letter (spell 8 c.next.new.self.left) left.v c.args.s.now left.at ∙ rw (c.in-Some.ensures {u = tt}).steps at left.invariant.5 in
    ap filled
    (elim c.then-x-l.branch [
      | then-x-l-via-then-x-l w ↦ too_low e left.v c.args.s.now left.at n.result _ n.ensures w.if-x-l.true ∙ rest
      | then-x-l-via-else-x-l+then-l-x w ↦ too_high e left.v c.args.s.now left.at n.result _ n.ensures w.if-x-l.false w.if-l-x.true ∙ rest
    ])

pub loop-letter-preserved : goal.loop-letter-preserved
loop-letter-preserved c =
    let l = c.in-Some.letter in
    let left = c.loop-letter in
    let rest = spell 8 c.next.new.self.left in
    let first = (c.in-Some.ensures {u = tt}).steps in
    let n = c.number_at-x in
    let e = get_or letters l 0 in
    let k = a_letter l (small_letter 8 left.letter-iterator.left l _ first) in
    let room : n.result ≤ get_or caps (slot_in e) 0 = le_trans c.if-l-x.false k.room in (
      tt,
      tt,
      omega arith,
      omega (arith, rw first at left.invariant.3, total_first l rest),
      under_set left.v caps left.invariant.4 (slot_in e) n.result room,
      sym (in_range_lem e left.v c.args.s.now left.at n.result (λ w next. fill rest w c.args.s.now next) n.ensures c.if-x-l.false c.if-l-x.false)
          ∙ filled_first l rest left.v c.args.s.now left.at
          ∙ rw first at left.invariant.5,
    )

pub returns-clause-v_after : goal.returns-clause-v_after
returns-clause-v_after c =
    let left = c.loop-letter in
    ap filled (sym (none_to_fill _ left.v c.args.s.now left.at (c.in-None.ensures {u = tt}).steps.0) ∙ left.invariant.5)
