-- Those that are not zero, one by one.
use Rattle.std.proofs.Common.{◌≡◌, ◌∙◌, not, eqb, rules}
use Rattle.std.specs.Prelude.{count_by}
use Rattle.timers.proofs.Keys.{count_not_zero}
use Rattle.timers.proofs.due.count_of.Goals as goal

pub returns : goal.returns
returns c =
    let so : c.count.result ≡ count_by (λ key. not (eqb key 0)) c.args.keys = search rules in
    so ∙ count_not_zero c.args.keys (search rules)
