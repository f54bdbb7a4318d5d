-- Bytes that are no bank are refused; else the bank is asked.
use mathlib.Core.Path.{◌∙◌, ap}
use mathlib.Core.List.{[]}
use Rattle.timers.specs.Bank.{advanced}
use Rattle.host.specs.Bank.{left_by}
use Rattle.host.proofs.BankAnswers.{any_count, count_small, no_bank, bank_length, leaves}
use Rattle.host.proofs.bank.callcontrol_bank_advance.Goals as goal

pub returns-in_default : goal.returns-in_default
returns-in_default c = no_bank _ _ _ c.in_default.ensures

pub leave-requires-clause-whole : goal.leave-requires-clause-whole
leave-requires-clause-whole c = bank_length _ c.in-Some.ensures

pub returns : goal.returns
returns c =
    let a = c.args in
    leaves _ _ (λ b. advanced b a.reading a.due.now) c.in-Some.ensures
    (c.leave.ensures c.in-Some.held c.advance.new.due ∙ ap (left_by a.bank.now) c.advance.ensures)

pub leave-requires-clause-few : goal.leave-requires-clause-few
leave-requires-clause-few c =
    λ b. rw (any_count b c.in-Some.held c.advance.result [] c.advance.new.due) (count_small _ _ _ c.advance.ensures)
