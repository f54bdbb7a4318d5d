-- An arm knows its number, and what its record's size and the fields before it were found to be, which is that line of the table, or one of the two that have
-- the number; the last knows that no line has it.
use mathlib.Core.Path.{refl}
use mathlib.Core.List.{[], ◌∷◌}
use Rattle.records.specs.Events.{events, lower_kinds, report_sent, report_failed, break, resume, expiry}
use Rattle.records.proofs.Reading.{end, then, wrong}
use Rattle.records.proofs.Rows.{wrong_size, wrong_field, right_body, unknown}
use Rattle.records.proofs.events.read_lower.Goals as goal

pub returns-in_err-size_is-in-769 : goal.returns-in_err-size_is-in-769
returns-in_err-size_is-in-769 c = wrong_size events _ report_sent _ c.in-769.is refl refl c.size_is.ensures c.in_err-size_is-in-769.was _ c.from_residual.ensures.1

pub returns-in_err-size_is-in-770 : goal.returns-in_err-size_is-in-770
returns-in_err-size_is-in-770 c = wrong_size events _ report_failed _ c.in-770.is refl refl c.size_is-in-770.ensures c.in_err-size_is-in-770.was _ c.from_residual-in_err-size_is-in-770.ensures.1

pub returns-in_err-size_is-in-771 : goal.returns-in_err-size_is-in-771
returns-in_err-size_is-in-771 c = wrong_size events _ break _ c.in-771.is refl refl c.size_is-in-771.ensures c.in_err-size_is-in-771.was _ c.from_residual-in_err-size_is-in-771.ensures.1

pub returns-in_err-size_is-in-772 : goal.returns-in_err-size_is-in-772
returns-in_err-size_is-in-772 c = wrong_size events _ resume _ c.in-772.is refl refl c.size_is-in-772.ensures c.in_err-size_is-in-772.was _ c.from_residual-in_err-size_is-in-772.ensures.1

pub returns-in_err-size_is-in-1025 : goal.returns-in_err-size_is-in-1025
returns-in_err-size_is-in-1025 c = wrong_size events _ expiry _ c.in-1025.is refl refl c.size_is-in-1025.ensures c.in_err-size_is-in-1025.was _ c.from_residual-in_err-size_is-in-1025.ensures.1

pub returns-in_err-timer-in-1025 : goal.returns-in_err-timer-in-1025
returns-in_err-timer-in-1025 c = wrong_field events _ expiry _ c.in-1025.is refl refl c.size_is-in-1025.ensures c.in_ok-size_is-in-1025.was (wrong c.in_err-timer-in-1025.was c.word_in.ensures) _ c.from_residual-in_err-timer-in-1025.ensures.1

pub returns-in_ok-size_is-in-769 : goal.returns-in_ok-size_is-in-769
returns-in_ok-size_is-in-769 c = right_body events _ report_sent _ c.in-769.is refl refl c.size_is.ensures c.in_ok-size_is-in-769.was end refl

pub returns-in_ok-size_is-in-770 : goal.returns-in_ok-size_is-in-770
returns-in_ok-size_is-in-770 c = right_body events _ report_failed _ c.in-770.is refl refl c.size_is-in-770.ensures c.in_ok-size_is-in-770.was end refl

pub returns-in_ok-size_is-in-771 : goal.returns-in_ok-size_is-in-771
returns-in_ok-size_is-in-771 c = right_body events _ break _ c.in-771.is refl refl c.size_is-in-771.ensures c.in_ok-size_is-in-771.was end refl

pub returns-in_ok-size_is-in-772 : goal.returns-in_ok-size_is-in-772
returns-in_ok-size_is-in-772 c = right_body events _ resume _ c.in-772.is refl refl c.size_is-in-772.ensures c.in_ok-size_is-in-772.was end refl

pub returns-in_ok-timer-in-1025 : goal.returns-in_ok-timer-in-1025
returns-in_ok-timer-in-1025 c = right_body events _ expiry _ c.in-1025.is refl refl c.size_is-in-1025.ensures c.in_ok-size_is-in-1025.was (then c.in_ok-timer-in-1025.was c.word_in.ensures end) refl

pub returns-in_default : goal.returns-in_default
returns-in_default c = unknown events _ (0x0301 ∷ 0x0302 ∷ 0x0303 ∷ 0x0304 ∷ 0x0401 ∷ []) lower_kinds _ refl c.in_default.in_default-own.rest
