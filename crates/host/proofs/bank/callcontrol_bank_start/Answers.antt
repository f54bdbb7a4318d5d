-- Bytes that are no bank are refused; else the bank is asked.
use mathlib.Core.Path.{◌≡◌, ◌∙◌, ap}
use mathlib.Core.List.{[]}
use borrow.Author.Rules.{rules}
use Rattle.timers.specs.Bank.{started, as_ordered, as_advanced}
use Rattle.host.specs.Bank.{left_by}
use Rattle.host.proofs.BankAnswers.{no_bank, bank_length, leaves}
use Rattle.host.proofs.bank.callcontrol_bank_start.Goals as goal

pub returns-in_default : goal.returns-in_default
returns-in_default c = no_bank _ _ _ c.in_default.ensures

pub leave-requires-clause-whole : goal.leave-requires-clause-whole
leave-requires-clause-whole c = bank_length _ c.in-Some.ensures

pub returns : goal.returns
returns c =
    let b = c.in-Some.held in
    let same : as_advanced b c.map.result [] ≡ as_ordered b c.start.result = search rules in
    leaves _ _ (λ b. started b c.args.table.now c.args.timer c.args.code) c.in-Some.ensures (c.leave.ensures b [] ∙ ap (left_by c.args.bank.now) (same ∙ c.start.ensures))
