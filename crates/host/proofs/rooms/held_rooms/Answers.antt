-- A part that fails makes the whole test false; where none does, the rooms are read.
use borrow.Author.Rules.{rules}
use mathlib.Core.Path.{◌≡◌, sym, ◌∙◌}
use borrow.Author.Tests.{ne_eqb}
use Rattle.std.specs.Prelude.{Some}
use Rattle.channel.specs.declared.rooms.Wait.{Wait}
use Rattle.channel.specs.declared.rooms.Room.{Room}
use Rattle.host.specs.Channel.{is_rooms, held_rooms}
use Rattle.host.proofs.ChannelAnswers.{of_waits, four_are}
use Rattle.host.proofs.rooms.held_rooms.Goals.{then-s-ne-BYTES-via-then-s-ne-BYTES, then-s-ne-BYTES-via-else-s-ne-BYTES+then-not-all_at_most}
use Rattle.host.proofs.rooms.held_rooms.Goals as goal

pub returns-then-s-ne-BYTES : goal.returns-then-s-ne-BYTES
unfolding is_rooms
returns-then-s-ne-BYTES c =
    elim c.then-s-ne-BYTES.branch [
      | then-s-ne-BYTES-via-then-s-ne-BYTES w ↦ rw (ne_eqb _ _ w.if-s-ne-BYTES.true)
      | then-s-ne-BYTES-via-else-s-ne-BYTES+then-not-all_at_most w ↦ rw (of_waits _ w.if-s-ne-BYTES.false ∙ sym w.all_at_most.ensures ∙ w.if-not-all_at_most.true)
    ]

pub returns : goal.returns
unfolding held_rooms
returns c =
    let free : Room = record { wait = Wait.Nobody; number = 0; call = 0 } in
    let four : c.from_fn.result ≡ held_rooms c.args.s.now = four_are free (search rules) (search rules) (search rules) (search rules) (search rules) in
    rw (of_waits _ c.if-s-ne-BYTES.false ∙ sym c.all_at_most.ensures ∙ c.if-not-all_at_most.false) (λ i. Some (record { rooms = four i }))
