-- What the rest lay from here on, all lay from the front on.
use Rattle.std.proofs.Common.{◌≡◌, drop}
use Rattle.callcontrol.specs.Writing.{lay_all}
use Rattle.channel.specs.Questions.{rejects_in}
use Rattle.channel.proofs.questions.reject.Given as goal

abbrev pub invariant-loop-room : goal.invariant-loop-room
invariant-loop-room l = lay_all (rejects_in l.call (drop l.room-index l.room-items)) l.at l.buffer ≡ lay_all (rejects_in l.call l.room-items) 0 l.fn.buffer
