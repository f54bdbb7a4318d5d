-- An arm knows its number, and what its record's size and the fields before it were found to be, which is that line of the table, or one of the two that have
-- the number; the last goes on to the kinds behind.
use mathlib.Core.Path.{refl, sym, ◌∙◌}
use mathlib.Core.List.{[], ◌∷◌}
use Rattle.records.specs.Messages.{messages, host_kinds, to_user_kinds, stop, start, configure, cancel, named_place, channel_answer}
use Rattle.records.proofs.Reading.{end, then, wrong, past}
use Rattle.records.proofs.Rows.{wrong_size, wrong_field, right_body, past_kinds, wrong_together}
use Rattle.records.proofs.messages.read_host.Goals as goal

pub returns-in_err-size_is-in-1537 : goal.returns-in_err-size_is-in-1537
returns-in_err-size_is-in-1537 c = wrong_size messages _ stop _ c.in-1537.is refl refl c.size_is.ensures c.in_err-size_is-in-1537.was _ c.from_residual.ensures.1

pub returns-in_err-timer-in-1537 : goal.returns-in_err-timer-in-1537
returns-in_err-timer-in-1537 c = wrong_field messages _ stop _ c.in-1537.is refl refl c.size_is.ensures c.in_ok-size_is-in-1537.was (wrong c.in_err-timer-in-1537.was c.word_in.ensures) _ c.from_residual-in_err-timer-in-1537.ensures.1

pub returns-in_err-size_is-in-1538 : goal.returns-in_err-size_is-in-1538
returns-in_err-size_is-in-1538 c = wrong_size messages _ start _ c.in-1538.is refl refl c.size_is-in-1538.ensures c.in_err-size_is-in-1538.was _ c.from_residual-in_err-size_is-in-1538.ensures.1

pub returns-in_err-timer-in-1538 : goal.returns-in_err-timer-in-1538
returns-in_err-timer-in-1538 c = wrong_field messages _ start _ c.in-1538.is refl refl c.size_is-in-1538.ensures c.in_ok-size_is-in-1538.was (wrong c.in_err-timer-in-1538.was c.word_in-in-1538.ensures) _ c.from_residual-in_err-timer-in-1538.ensures.1

pub returns-in_err-code-in-1538 : goal.returns-in_err-code-in-1538
returns-in_err-code-in-1538 c = wrong_field messages _ start _ c.in-1538.is refl refl c.size_is-in-1538.ensures c.in_ok-size_is-in-1538.was (past c.in_ok-timer-in-1538.was c.word_in-in-1538.ensures (wrong c.in_err-code-in-1538.was c.byte_in.ensures)) _ c.from_residual-in_err-code-in-1538.ensures.1

pub returns-then-not-start_agrees : goal.returns-then-not-start_agrees
returns-then-not-start_agrees c = wrong_together messages _ start _ c.in-1538.is refl refl c.size_is-in-1538.ensures c.in_ok-size_is-in-1538.was (then c.in_ok-timer-in-1538.was c.word_in-in-1538.ensures (then c.in_ok-code-in-1538.was c.byte_in.ensures end)) (sym c.start_agrees.ensures ∙ c.if-not-start_agrees.true)

pub returns-in_err-size_is-in-1539 : goal.returns-in_err-size_is-in-1539
returns-in_err-size_is-in-1539 c = wrong_size messages _ configure _ c.in-1539.is refl refl c.size_is-in-1539.ensures c.in_err-size_is-in-1539.was _ c.from_residual-in_err-size_is-in-1539.ensures.1

pub returns-in_err-plane-in-1539 : goal.returns-in_err-plane-in-1539
returns-in_err-plane-in-1539 c = wrong_field messages _ configure _ c.in-1539.is refl refl c.size_is-in-1539.ensures c.in_ok-size_is-in-1539.was (wrong c.in_err-plane-in-1539.was c.byte_in-in-1539.ensures) _ c.from_residual-in_err-plane-in-1539.ensures.1

pub returns-in_err-size_is-in-1540 : goal.returns-in_err-size_is-in-1540
returns-in_err-size_is-in-1540 c = wrong_size messages _ cancel _ c.in-1540.is refl refl c.size_is-in-1540.ensures c.in_err-size_is-in-1540.was _ c.from_residual-in_err-size_is-in-1540.ensures.1

pub returns-in_err-size_is-in-1541 : goal.returns-in_err-size_is-in-1541
returns-in_err-size_is-in-1541 c = wrong_size messages _ named_place _ c.in-1541.is refl refl c.size_is-in-1541.ensures c.in_err-size_is-in-1541.was _ c.from_residual-in_err-size_is-in-1541.ensures.1

pub returns-in_err-at-in-1541 : goal.returns-in_err-at-in-1541
returns-in_err-at-in-1541 c = wrong_field messages _ named_place _ c.in-1541.is refl refl c.size_is-in-1541.ensures c.in_ok-size_is-in-1541.was (wrong c.in_err-at-in-1541.was c.byte_in-in-1541.ensures) _ c.from_residual-in_err-at-in-1541.ensures.1

pub returns-in_err-size_is-in-1542 : goal.returns-in_err-size_is-in-1542
returns-in_err-size_is-in-1542 c = wrong_size messages _ channel_answer _ c.in-1542.is refl refl c.size_is-in-1542.ensures c.in_err-size_is-in-1542.was _ c.from_residual-in_err-size_is-in-1542.ensures.1

pub returns-in_err-number-in-1542 : goal.returns-in_err-number-in-1542
returns-in_err-number-in-1542 c = wrong_field messages _ channel_answer _ c.in-1542.is refl refl c.size_is-in-1542.ensures c.in_ok-size_is-in-1542.was (wrong c.in_err-number-in-1542.was c.word_in-in-1542.ensures) _ c.from_residual-in_err-number-in-1542.ensures.1

pub returns-in_err-verdict-in-1542 : goal.returns-in_err-verdict-in-1542
returns-in_err-verdict-in-1542 c = wrong_field messages _ channel_answer _ c.in-1542.is refl refl c.size_is-in-1542.ensures c.in_ok-size_is-in-1542.was (past c.in_ok-number-in-1542.was c.word_in-in-1542.ensures (wrong c.in_err-verdict-in-1542.was c.byte_in-in-1542.ensures)) _ c.from_residual-in_err-verdict-in-1542.ensures.1

pub returns-in_ok-timer-in-1537 : goal.returns-in_ok-timer-in-1537
returns-in_ok-timer-in-1537 c = right_body messages _ stop _ c.in-1537.is refl refl c.size_is.ensures c.in_ok-size_is-in-1537.was (then c.in_ok-timer-in-1537.was c.word_in.ensures end) refl

pub returns-else-not-start_agrees : goal.returns-else-not-start_agrees
returns-else-not-start_agrees c = right_body messages _ start _ c.in-1538.is refl refl c.size_is-in-1538.ensures c.in_ok-size_is-in-1538.was (then c.in_ok-timer-in-1538.was c.word_in-in-1538.ensures (then c.in_ok-code-in-1538.was c.byte_in.ensures end)) (sym c.start_agrees.ensures ∙ c.if-not-start_agrees.false)

pub returns-in_ok-plane-in-1539 : goal.returns-in_ok-plane-in-1539
returns-in_ok-plane-in-1539 c = right_body messages _ configure _ c.in-1539.is refl refl c.size_is-in-1539.ensures c.in_ok-size_is-in-1539.was (then c.in_ok-plane-in-1539.was c.byte_in-in-1539.ensures end) refl

pub returns-in_ok-size_is-in-1540 : goal.returns-in_ok-size_is-in-1540
returns-in_ok-size_is-in-1540 c = right_body messages _ cancel _ c.in-1540.is refl refl c.size_is-in-1540.ensures c.in_ok-size_is-in-1540.was end refl

pub returns-in_ok-at-in-1541 : goal.returns-in_ok-at-in-1541
returns-in_ok-at-in-1541 c = right_body messages _ named_place _ c.in-1541.is refl refl c.size_is-in-1541.ensures c.in_ok-size_is-in-1541.was (then c.in_ok-at-in-1541.was c.byte_in-in-1541.ensures end) refl

pub returns-in_ok-verdict-in-1542 : goal.returns-in_ok-verdict-in-1542
returns-in_ok-verdict-in-1542 c = right_body messages _ channel_answer _ c.in-1542.is refl refl c.size_is-in-1542.ensures c.in_ok-size_is-in-1542.was (then c.in_ok-number-in-1542.was c.word_in-in-1542.ensures (then c.in_ok-verdict-in-1542.was c.byte_in-in-1542.ensures end)) refl

pub returns-in_default : goal.returns-in_default
returns-in_default c = past_kinds messages _ (0x0601 ∷ 0x0602 ∷ 0x0603 ∷ 0x0604 ∷ 0x0605 ∷ 0x0606 ∷ []) host_kinds to_user_kinds _ refl c.in_default.in_default-own.rest c.read_to_user.ensures
