-- What a trace tells of its end.
use Rattle.std.specs.Prelude.{Bool, true, false}
use Rattle.calltrace.specs.declared.End.{End}

-- the lines in hand are the last
abbrev pub completes : End → Bool
completes End.Complete = true
completes End.Unread = true
completes End.Unwritten = false
completes End.Spent = false

-- a read has failed
abbrev pub tells_unread : End → Bool
tells_unread End.Complete = false
tells_unread End.Unread = true
tells_unread End.Unwritten = false
tells_unread End.Spent = false

-- a write has failed
abbrev pub tells_unwritten : End → Bool
tells_unwritten End.Complete = false
tells_unwritten End.Unread = false
tells_unwritten End.Unwritten = true
tells_unwritten End.Spent = false
