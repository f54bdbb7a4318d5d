-- Room by room.
use Rattle.std.proofs.Common.{◌∙◌, rules, tests}
use Rattle.std.proofs.lemmas.Iterator.{YieldsList-from_slice}
use Rattle.std.proofs.lemmas.Iterator.Search.{any_from_yields_List}
use Rattle.channel.specs.Rooms.{has_number}
use Rattle.channel.proofs.First.{some_is}
use Rattle.channel.proofs.rooms.Rooms.number_waits.Goals as goal

pub returns : goal.returns
returns c =
    any_from_yields_List (has_number c.args.number) _ _ _ c.any.ensures.ran (YieldsList-from_slice c.args.self.rooms cc) (λ x b q k. search (rules, tests))
    ∙ some_is (has_number c.args.number) c.args.self.rooms
