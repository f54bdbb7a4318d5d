-- Each field is read where the definition has it.
use borrow.Author.Rules.{rules}
use mathlib.Core.Path.{◌≡◌}
use mathlib.Core.Bool.{false}
use Rattle.host.specs.Packing.{held}
use Rattle.timers.proofs.Sevens.{seven_are}
use Rattle.host.proofs.packed.held.Goals as goal

pub returns : goal.returns
unfolding held
returns c =
    let timers : c.from_fn.result ≡ (held c.args.s.now).timers
    = seven_are false (search rules) (search rules) (search rules) (search rules) (search rules) (search rules) (search rules) (search rules) in
    rw (c.state_is.ensures, c.path_is.ensures, c.word_at.ensures, c.long_at.ensures, timers)
