-- An arm knows its number, and what its record's size and the fields before it were found to be, which is that line of the table; the last knows that no line
-- has the number. No kind is retired.
use mathlib.Core.Path.{refl}
use Rattle.records.specs.Laws.{numbers}
use Rattle.records.proofs.Reading.{end, then, wrong, past}
use Rattle.records.proofs.Rows.{of_all, wrong_size, wrong_field, right_body, unknown}
use Rattle.direct.specs.Events.{events, setup_request, dma_report, dm_connect, dm_disconnect, expiry}
use Rattle.direct.proofs.events.EventRecord.of_kind.Goals as goal

pub returns-in_err-size_is-in-2049 : goal.returns-in_err-size_is-in-2049
returns-in_err-size_is-in-2049 c = of_all events _ _ refl (wrong_size events _ setup_request _ c.in-2049.is refl refl c.size_is.ensures c.in_err-size_is-in-2049.was _ c.from_residual.ensures.1)

pub returns-in_err-target-in-2049 : goal.returns-in_err-target-in-2049
returns-in_err-target-in-2049 c = of_all events _ _ refl (wrong_field events _ setup_request _ c.in-2049.is refl refl c.size_is.ensures c.in_ok-size_is-in-2049.was (wrong c.in_err-target-in-2049.was c.byte_in.ensures) _ c.from_residual-in_err-target-in-2049.ensures.1)

pub returns-in_err-lowest-in-2049 : goal.returns-in_err-lowest-in-2049
returns-in_err-lowest-in-2049 c = of_all events _ _ refl (wrong_field events _ setup_request _ c.in-2049.is refl refl c.size_is.ensures c.in_ok-size_is-in-2049.was (past c.in_ok-target-in-2049.was c.byte_in.ensures (wrong c.in_err-lowest-in-2049.was c.byte_in-in-2049.ensures)) _ c.from_residual-in_err-lowest-in-2049.ensures.1)

pub returns-in_err-attempts-in-2049 : goal.returns-in_err-attempts-in-2049
returns-in_err-attempts-in-2049 c = of_all events _ _ refl (wrong_field events _ setup_request _ c.in-2049.is refl refl c.size_is.ensures c.in_ok-size_is-in-2049.was (past c.in_ok-target-in-2049.was c.byte_in.ensures (past c.in_ok-lowest-in-2049.was c.byte_in-in-2049.ensures (wrong c.in_err-attempts-in-2049.was c.byte_in-in-2049-2.ensures))) _ c.from_residual-in_err-attempts-in-2049.ensures.1)

pub returns-in_ok-attempts-in-2049 : goal.returns-in_ok-attempts-in-2049
returns-in_ok-attempts-in-2049 c = of_all events _ _ refl (right_body events _ setup_request _ c.in-2049.is refl refl c.size_is.ensures c.in_ok-size_is-in-2049.was (then c.in_ok-target-in-2049.was c.byte_in.ensures (then c.in_ok-lowest-in-2049.was c.byte_in-in-2049.ensures (then c.in_ok-attempts-in-2049.was c.byte_in-in-2049-2.ensures end))) refl)

pub returns-in_err-size_is-in-2050 : goal.returns-in_err-size_is-in-2050
returns-in_err-size_is-in-2050 c = of_all events _ _ refl (wrong_size events _ dma_report _ c.in-2050.is refl refl c.size_is-in-2050.ensures c.in_err-size_is-in-2050.was _ c.from_residual-in_err-size_is-in-2050.ensures.1)

pub returns-in_err-fared-in-2050 : goal.returns-in_err-fared-in-2050
returns-in_err-fared-in-2050 c = of_all events _ _ refl (wrong_field events _ dma_report _ c.in-2050.is refl refl c.size_is-in-2050.ensures c.in_ok-size_is-in-2050.was (wrong c.in_err-fared-in-2050.was c.byte_in-in-2050.ensures) _ c.from_residual-in_err-fared-in-2050.ensures.1)

pub returns-in_ok-fared-in-2050 : goal.returns-in_ok-fared-in-2050
returns-in_ok-fared-in-2050 c = of_all events _ _ refl (right_body events _ dma_report _ c.in-2050.is refl refl c.size_is-in-2050.ensures c.in_ok-size_is-in-2050.was (then c.in_ok-fared-in-2050.was c.byte_in-in-2050.ensures end) refl)

pub returns-in_err-size_is-in-2051 : goal.returns-in_err-size_is-in-2051
returns-in_err-size_is-in-2051 c = of_all events _ _ refl (wrong_size events _ dm_connect _ c.in-2051.is refl refl c.size_is-in-2051.ensures c.in_err-size_is-in-2051.was _ c.from_residual-in_err-size_is-in-2051.ensures.1)

pub returns-in_err-grade-in-2051 : goal.returns-in_err-grade-in-2051
returns-in_err-grade-in-2051 c = of_all events _ _ refl (wrong_field events _ dm_connect _ c.in-2051.is refl refl c.size_is-in-2051.ensures c.in_ok-size_is-in-2051.was (wrong c.in_err-grade-in-2051.was c.byte_in-in-2051.ensures) _ c.from_residual-in_err-grade-in-2051.ensures.1)

pub returns-in_ok-grade-in-2051 : goal.returns-in_ok-grade-in-2051
returns-in_ok-grade-in-2051 c = of_all events _ _ refl (right_body events _ dm_connect _ c.in-2051.is refl refl c.size_is-in-2051.ensures c.in_ok-size_is-in-2051.was (then c.in_ok-grade-in-2051.was c.byte_in-in-2051.ensures end) refl)

pub returns-in_err-size_is-in-2052 : goal.returns-in_err-size_is-in-2052
returns-in_err-size_is-in-2052 c = of_all events _ _ refl (wrong_size events _ dm_disconnect _ c.in-2052.is refl refl c.size_is-in-2052.ensures c.in_err-size_is-in-2052.was _ c.from_residual-in_err-size_is-in-2052.ensures.1)

pub returns-in_ok-size_is-in-2052 : goal.returns-in_ok-size_is-in-2052
returns-in_ok-size_is-in-2052 c = of_all events _ _ refl (right_body events _ dm_disconnect _ c.in-2052.is refl refl c.size_is-in-2052.ensures c.in_ok-size_is-in-2052.was end refl)

pub returns-in_err-size_is-in-2053 : goal.returns-in_err-size_is-in-2053
returns-in_err-size_is-in-2053 c = of_all events _ _ refl (wrong_size events _ expiry _ c.in-2053.is refl refl c.size_is-in-2053.ensures c.in_err-size_is-in-2053.was _ c.from_residual-in_err-size_is-in-2053.ensures.1)

pub returns-in_err-timer-in-2053 : goal.returns-in_err-timer-in-2053
returns-in_err-timer-in-2053 c = of_all events _ _ refl (wrong_field events _ expiry _ c.in-2053.is refl refl c.size_is-in-2053.ensures c.in_ok-size_is-in-2053.was (wrong c.in_err-timer-in-2053.was c.word_in.ensures) _ c.from_residual-in_err-timer-in-2053.ensures.1)

pub returns-in_ok-timer-in-2053 : goal.returns-in_ok-timer-in-2053
returns-in_ok-timer-in-2053 c = of_all events _ _ refl (right_body events _ expiry _ c.in-2053.is refl refl c.size_is-in-2053.ensures c.in_ok-size_is-in-2053.was (then c.in_ok-timer-in-2053.was c.word_in.ensures end) refl)

pub returns-in_default : goal.returns-in_default
returns-in_default c = of_all events _ _ refl (unknown events _ (numbers events) events.kinds _ refl c.in_default.in_default-own.rest)
