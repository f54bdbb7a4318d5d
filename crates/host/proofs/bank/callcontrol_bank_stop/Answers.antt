-- Bytes that are no bank are refused; else the bank is asked.
use mathlib.Core.Path.{◌≡◌, ◌∙◌, ap}
use mathlib.Core.List.{[]}
use borrow.Author.Rules.{rules}
use Rattle.timers.specs.Bank.{stopped, as_ordered, as_advanced}
use Rattle.host.specs.Bank.{left_by}
use Rattle.host.proofs.BankAnswers.{no_bank, bank_length, leaves}
use Rattle.host.proofs.bank.callcontrol_bank_stop.Goals as goal

pub returns-in_default : goal.returns-in_default
returns-in_default c = no_bank _ _ _ c.in_default.ensures

pub leave-requires-clause-whole : goal.leave-requires-clause-whole
leave-requires-clause-whole c = bank_length _ c.in-Some.ensures

pub returns : goal.returns
returns c =
    let b = c.in-Some.held in
    let same : as_advanced b c.map.result [] ≡ as_ordered b c.stop.result = search rules in
    leaves _ _ (λ b. stopped b c.args.timer) c.in-Some.ensures (c.leave.ensures b [] ∙ ap (left_by c.args.bank.now) (same ∙ c.stop.ensures))
