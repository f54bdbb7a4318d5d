-- Room is what the messages measured so far leave; those laid so far stand at the front.
use Rattle.std.proofs.Common.{◌≡◌, ◌+◌, length, take}
use Rattle.direct.specs.Messages.{sizes_of}
use Rattle.direct.proofs.Carried.{Laid}
use Rattle.direct.proofs.rows.send.Given as goal

abbrev pub invariant-loop-message : goal.invariant-loop-message
invariant-loop-message l = l.room + sizes_of (take l.message-index l.messages) ≡ length l.buffer

abbrev pub invariant-loop-message-2 : goal.invariant-loop-message-2
invariant-loop-message-2 l = Laid l.fn.buffer (take l.message-index l.messages) l.count l.buffer
