-- Four rooms are the whole, over as many bytes.
use borrow.Author.Rules.{rules}
use mathlib.Core.Path.{◌≡◌, ◌∙◌, sym}
use mathlib.Core.List.{[], ◌∷◌, append-nil}
use Rattle.std.specs.List.{flat_map}
use Rattle.channel.specs.Rooms.{room_at}
use Rattle.host.specs.Channel.{packed_room, packed_rooms}
use Rattle.host.proofs.ChannelAnswers.{four_are, rooms_long}
use Rattle.host.proofs.Packing.{whole_stored}
use Rattle.host.proofs.rooms.pack_rooms.Goals as goal

pub returns : goal.returns
unfolding packed_rooms
returns c =
    let r = c.args.rooms.rooms in
    let four : c.map.result ≡ packed_room (room_at r 0) ∷ packed_room (room_at r 1) ∷ packed_room (room_at r 2) ∷ packed_room (room_at r 3) ∷ []
    = four_are [] (search rules) (search rules) (search rules) (search rules) (search rules) in
    let all : flat_map (λ x. x) c.map.result ≡ packed_rooms r = rw (four, append-nil (packed_room (room_at r 3))) in
    c.copy_from_slice.ensures.after ∙ c.as_flattened.ensures.value ∙ all ∙ sym (whole_stored _ _ (c.requires ∙ sym (rooms_long r)))
