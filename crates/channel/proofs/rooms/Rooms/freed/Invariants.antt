-- The rooms so far are freed, and the rest are still to be.
use Rattle.std.proofs.Common.{◌≡◌, ◌++◌, length, take, drop}
use Rattle.channel.specs.Rooms.{all_freed}
use Rattle.channel.proofs.rooms.Rooms.freed.Given as goal

abbrev pub invariant-loop-room : goal.invariant-loop-room
invariant-loop-room l =
    record
    { four : length l.room-items ≡ 4; freed : take l.room-index l.room-items ++ all_freed l.call (drop l.room-index l.room-items) ≡ all_freed l.call l.initial.room-items }
