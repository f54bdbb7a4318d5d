-- 32 by the sign of the difference from the last reading, then 33 by the number due, then the timers due are handed out, in pairs or not.
use Rattle.timers.specs.Bank.{advanced, advanced_to, handed_at, keys_at}
use Rattle.std.proofs.Common.{length, le-ltb, lt-ltb}
use Rattle.timers.proofs.Pairs.{handed_paired}
use Rattle.timers.proofs.bank.Bank.advance.Goals as goal

pub returns-then-is_back : goal.returns-then-is_back
unfolding advanced
returns-then-is_back c = rw (← c.forward.ensures, ← c.is_back.ensures, c.if-is_back.true)

pub returns-then-due-count : goal.returns-then-due-count
unfolding advanced keys_at
returns-then-due-count c =
    let list = c.args.due.now in
    rw (← c.forward.ensures, ← c.is_back.ensures, c.if-is_back.false)
    (rw (← c.keys_of-keys.ensures, ← c.count_of-count.ensures, lt-ltb (length list) c.count_of-count.result c.if-due-count.true))

pub returns : goal.returns
unfolding advanced advanced_to handed_at keys_at
returns c =
    let list = c.args.due.now in
    rw (← c.forward.ensures, ← c.is_back.ensures, c.if-is_back.false)
    (rw (← c.keys_of-keys.ensures, ← c.count_of-count.ensures, le-ltb (length list) c.count_of-count.result c.if-due-count.false)
    (rw (c.staying-bank.ensures, c.hand_out.ensures, c.of.ensures, handed_paired)))
