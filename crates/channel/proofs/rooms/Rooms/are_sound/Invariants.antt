-- What is left to test decides.
use Rattle.std.proofs.Common.{◌≡◌, drop}
use Rattle.channel.proofs.First.{fitting}
use Rattle.channel.proofs.rooms.Rooms.are_sound.Given as goal

abbrev pub invariant-loop-k : goal.invariant-loop-k
invariant-loop-k l = fitting (drop l.k l.room-items) ≡ fitting l.room-items
