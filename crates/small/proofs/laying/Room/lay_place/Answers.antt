-- No message, or one of the table.
use Rattle.std.proofs.Common.{◌≡◌, ◌∙◌, sym, ap, ℕ, Option, get_or, set, arith}
use mathlib.Core.Path.{subst}
use Rattle.std.specs.Option.{unwrap_or}
use Rattle.records.specs.Bodies.{Stored}
use Rattle.small.specs.Entry.{entries}
use Rattle.small.specs.Places.{values_for, place_bytes}
use Rattle.small.proofs.Letters.{entry_small}
use Rattle.small.proofs.Places.{entries_spell, alike_set, no_place, a_place}
use Rattle.small.proofs.laying.Room.lay_place.Goals as goal

pub returns-in_default-clause-stored : goal.returns-in_default-clause-stored
returns-in_default-clause-stored c = no_place _ _ _ (ap (λ (o : Option ℕ). unwrap_or o 0) c.in_default.is)

pub lay_entry-requires : goal.lay_entry-requires
lay_entry-requires c = (c.requires, entries_spell c.number.inside.n c.number.invariant.1)

pub returns-clause-stored : goal.returns-clause-stored
unfolding values_for
returns-clause-stored c =
    let a = c.args in
    let b = c.args.self.now in
    let e = c.lay_entry in
    let number : c.number.inside.n ≡ unwrap_or a.number 0 = c.number.view_is ∙ sym (ap (λ (o : Option ℕ). unwrap_or o 0) c.in-Some.is) in
    subst (λ (m : ℕ). Stored b.bytes b.at (place_bytes a.k m a.v.now) e.new.self.at e.new.self.bytes) number
    (a_place a.k c.number.inside.n a.v.now c.number.invariant.0 (rw (c.timer_at.ensures, c.code_at-code.ensures) at e.ensures))

pub returns-clause-alike : goal.returns-clause-alike
returns-clause-alike c = alike_set _ _ _

pub returns-clause-upper_bound : goal.returns-clause-upper_bound
returns-clause-upper_bound c = omega (arith, c.lay_entry.ensures.end, entry_small (get_or entries c.number.inside.n 0) (set (set c.args.v.now 6 c.timer_at.result) 7 c.code_at-code.result))
