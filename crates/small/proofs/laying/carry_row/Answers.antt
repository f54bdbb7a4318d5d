-- The messages are laid in a room of our own, and copied where they fit.
use Rattle.std.proofs.Common.{rules, ◌≡◌, sym, ap, length, List, ◌++◌, drop, ℕ}
use Rattle.callcontrol.specs.Settle.{settled}
use Rattle.callcontrol.proofs.Carried.{too_long}
use Rattle.small.proofs.Own.{own_fits, sized, carries}
use Rattle.small.proofs.laying.carry_row.Goals as goal

pub returns-then-buffer-size : goal.returns-then-buffer-size
returns-then-buffer-size c =
    let a = c.args in
    let seven : 7 ≡ length a.call.timers = search rules in
    let stored = rw (c.code_of.ensures, c.configure_by-configure.ensures) at c.lay_all.ensures.stored in
    too_long a.call (settled a.call a.row) a.buffer.now _ (sized a.call a.row (sym seven) stored) c.if-buffer-size.true

pub returns : goal.returns
returns c =
    let a = c.args in
    let p = c.configure_by-configure.ensures in
    let fits = own_fits c.lay_all.ensures.stored c.lay_all.ensures.upper_bound c.new-room.ensures.bytes in
    let seven : 7 ≡ length a.call.timers = search rules in
    let stored = rw (c.code_of.ensures, p) at c.lay_all.ensures.stored in
    rw (c.next_by.ensures, p)
    (carries a.call a.row (sym seven) a.buffer.now _ stored (rw p at c.lay_all.ensures.running_after) c.if-buffer-size.false fits (ap (λ (z : List ℕ). z ++ drop c.lay_all.new.room.at a.buffer.now) c.copy_from_slice.ensures.after))
