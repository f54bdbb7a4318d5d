-- Room by room.
use Rattle.std.proofs.Common.{◌∙◌, rules, tests}
use Rattle.std.proofs.lemmas.Iterator.{YieldsList-from_slice}
use Rattle.std.proofs.lemmas.Iterator.Search.{all_from_yields_List}
use Rattle.channel.specs.Rooms.{apart_from}
use Rattle.channel.proofs.First.{every_is}
use Rattle.channel.proofs.rooms.Room.fits_before.Goals as goal

pub returns-then-fits : goal.returns-then-fits
returns-then-fits c =
    rw (← c.fits.ensures, c.if-fits.true)
    (all_from_yields_List (apart_from c.args.self) _ _ _ c.all.ensures.ran (YieldsList-from_slice c.args.later.now cc) (λ x b q k. search (rules, tests))
    ∙ every_is (apart_from c.args.self) c.args.later.now)
