-- A question of this number waits there, and it waits for this.
use mathlib.Core.Path.{◌≡◌, refl, ◌∙◌}
use denote.Enum.Bare.{sameb}
use lib.Dec.{eqb}
use Rattle.channel.specs.contracts.rooms.Wait.{the_type}
use Rattle.channel.specs.declared.rooms.Wait.{Wait}
use Rattle.channel.specs.Rooms.{wait_number, waits_for}
use Rattle.channel.proofs.rooms.Room.waits_for.Goals as goal

-- what the derived `==` tells is told by the numbers
by_number : (a b : Wait) → sameb the_type a b ≡ eqb (wait_number a) (wait_number b)
by_number Wait.Nobody Wait.Nobody = refl
by_number Wait.Nobody Wait.User = refl
by_number Wait.Nobody Wait.Cancel = refl
by_number Wait.User Wait.Nobody = refl
by_number Wait.User Wait.User = refl
by_number Wait.User Wait.Cancel = refl
by_number Wait.Cancel Wait.Nobody = refl
by_number Wait.Cancel Wait.User = refl
by_number Wait.Cancel Wait.Cancel = refl

pub returns-then-has_number : goal.returns-then-has_number
unfolding waits_for
returns-then-has_number c = rw (← c.has_number.ensures, c.if-has_number.true) (c.eq.ensures ∙ by_number c.args.self.wait c.args.wait)
