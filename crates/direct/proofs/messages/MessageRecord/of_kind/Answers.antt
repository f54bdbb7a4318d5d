-- An arm knows its number, and what its record's size and the fields before it were found to be, which is that line of the table; the last knows that no line
-- has the number. No kind is retired.
use mathlib.Core.Path.{refl}
use Rattle.records.specs.Laws.{numbers}
use Rattle.records.proofs.Reading.{end, then, wrong, past}
use Rattle.records.proofs.Rows.{of_all, wrong_size, wrong_field, right_body, unknown}
use Rattle.direct.specs.Messages.{messages, dm_setup_pres, dm_connect_ack, dm_release, stop, start, configure, setup_confirm, release_indication}
use Rattle.direct.proofs.messages.MessageRecord.of_kind.Goals as goal

pub returns-in_err-size_is-in-2305 : goal.returns-in_err-size_is-in-2305
returns-in_err-size_is-in-2305 c = of_all messages _ _ refl (wrong_size messages _ dm_setup_pres _ c.in-2305.is refl refl c.size_is.ensures c.in_err-size_is-in-2305.was _ c.from_residual.ensures.1)

pub returns-in_err-target-in-2305 : goal.returns-in_err-target-in-2305
returns-in_err-target-in-2305 c = of_all messages _ _ refl (wrong_field messages _ dm_setup_pres _ c.in-2305.is refl refl c.size_is.ensures c.in_ok-size_is-in-2305.was (wrong c.in_err-target-in-2305.was c.byte_in.ensures) _ c.from_residual-in_err-target-in-2305.ensures.1)

pub returns-in_err-lowest-in-2305 : goal.returns-in_err-lowest-in-2305
returns-in_err-lowest-in-2305 c = of_all messages _ _ refl (wrong_field messages _ dm_setup_pres _ c.in-2305.is refl refl c.size_is.ensures c.in_ok-size_is-in-2305.was (past c.in_ok-target-in-2305.was c.byte_in.ensures (wrong c.in_err-lowest-in-2305.was c.byte_in-in-2305.ensures)) _ c.from_residual-in_err-lowest-in-2305.ensures.1)

pub returns-in_ok-lowest-in-2305 : goal.returns-in_ok-lowest-in-2305
returns-in_ok-lowest-in-2305 c = of_all messages _ _ refl (right_body messages _ dm_setup_pres _ c.in-2305.is refl refl c.size_is.ensures c.in_ok-size_is-in-2305.was (then c.in_ok-target-in-2305.was c.byte_in.ensures (then c.in_ok-lowest-in-2305.was c.byte_in-in-2305.ensures end)) refl)

pub returns-in_err-size_is-in-2306 : goal.returns-in_err-size_is-in-2306
returns-in_err-size_is-in-2306 c = of_all messages _ _ refl (wrong_size messages _ dm_connect_ack _ c.in-2306.is refl refl c.size_is-in-2306.ensures c.in_err-size_is-in-2306.was _ c.from_residual-in_err-size_is-in-2306.ensures.1)

pub returns-in_err-grade-in-2306 : goal.returns-in_err-grade-in-2306
returns-in_err-grade-in-2306 c = of_all messages _ _ refl (wrong_field messages _ dm_connect_ack _ c.in-2306.is refl refl c.size_is-in-2306.ensures c.in_ok-size_is-in-2306.was (wrong c.in_err-grade-in-2306.was c.byte_in-in-2306.ensures) _ c.from_residual-in_err-grade-in-2306.ensures.1)

pub returns-in_ok-grade-in-2306 : goal.returns-in_ok-grade-in-2306
returns-in_ok-grade-in-2306 c = of_all messages _ _ refl (right_body messages _ dm_connect_ack _ c.in-2306.is refl refl c.size_is-in-2306.ensures c.in_ok-size_is-in-2306.was (then c.in_ok-grade-in-2306.was c.byte_in-in-2306.ensures end) refl)

pub returns-in_err-size_is-in-2307 : goal.returns-in_err-size_is-in-2307
returns-in_err-size_is-in-2307 c = of_all messages _ _ refl (wrong_size messages _ dm_release _ c.in-2307.is refl refl c.size_is-in-2307.ensures c.in_err-size_is-in-2307.was _ c.from_residual-in_err-size_is-in-2307.ensures.1)

pub returns-in_ok-size_is-in-2307 : goal.returns-in_ok-size_is-in-2307
returns-in_ok-size_is-in-2307 c = of_all messages _ _ refl (right_body messages _ dm_release _ c.in-2307.is refl refl c.size_is-in-2307.ensures c.in_ok-size_is-in-2307.was end refl)

pub returns-in_err-size_is-in-2321 : goal.returns-in_err-size_is-in-2321
returns-in_err-size_is-in-2321 c = of_all messages _ _ refl (wrong_size messages _ stop _ c.in-2321.is refl refl c.size_is-in-2321.ensures c.in_err-size_is-in-2321.was _ c.from_residual-in_err-size_is-in-2321.ensures.1)

pub returns-in_err-timer-in-2321 : goal.returns-in_err-timer-in-2321
returns-in_err-timer-in-2321 c = of_all messages _ _ refl (wrong_field messages _ stop _ c.in-2321.is refl refl c.size_is-in-2321.ensures c.in_ok-size_is-in-2321.was (wrong c.in_err-timer-in-2321.was c.word_in.ensures) _ c.from_residual-in_err-timer-in-2321.ensures.1)

pub returns-in_ok-timer-in-2321 : goal.returns-in_ok-timer-in-2321
returns-in_ok-timer-in-2321 c = of_all messages _ _ refl (right_body messages _ stop _ c.in-2321.is refl refl c.size_is-in-2321.ensures c.in_ok-size_is-in-2321.was (then c.in_ok-timer-in-2321.was c.word_in.ensures end) refl)

pub returns-in_err-size_is-in-2322 : goal.returns-in_err-size_is-in-2322
returns-in_err-size_is-in-2322 c = of_all messages _ _ refl (wrong_size messages _ start _ c.in-2322.is refl refl c.size_is-in-2322.ensures c.in_err-size_is-in-2322.was _ c.from_residual-in_err-size_is-in-2322.ensures.1)

pub returns-in_err-timer-in-2322 : goal.returns-in_err-timer-in-2322
returns-in_err-timer-in-2322 c = of_all messages _ _ refl (wrong_field messages _ start _ c.in-2322.is refl refl c.size_is-in-2322.ensures c.in_ok-size_is-in-2322.was (wrong c.in_err-timer-in-2322.was c.word_in-in-2322.ensures) _ c.from_residual-in_err-timer-in-2322.ensures.1)

pub returns-in_ok-timer-in-2322 : goal.returns-in_ok-timer-in-2322
returns-in_ok-timer-in-2322 c = of_all messages _ _ refl (right_body messages _ start _ c.in-2322.is refl refl c.size_is-in-2322.ensures c.in_ok-size_is-in-2322.was (then c.in_ok-timer-in-2322.was c.word_in-in-2322.ensures end) refl)

pub returns-in_err-size_is-in-2323 : goal.returns-in_err-size_is-in-2323
returns-in_err-size_is-in-2323 c = of_all messages _ _ refl (wrong_size messages _ configure _ c.in-2323.is refl refl c.size_is-in-2323.ensures c.in_err-size_is-in-2323.was _ c.from_residual-in_err-size_is-in-2323.ensures.1)

pub returns-in_err-grade-in-2323 : goal.returns-in_err-grade-in-2323
returns-in_err-grade-in-2323 c = of_all messages _ _ refl (wrong_field messages _ configure _ c.in-2323.is refl refl c.size_is-in-2323.ensures c.in_ok-size_is-in-2323.was (wrong c.in_err-grade-in-2323.was c.byte_in-in-2323.ensures) _ c.from_residual-in_err-grade-in-2323.ensures.1)

pub returns-in_ok-grade-in-2323 : goal.returns-in_ok-grade-in-2323
returns-in_ok-grade-in-2323 c = of_all messages _ _ refl (right_body messages _ configure _ c.in-2323.is refl refl c.size_is-in-2323.ensures c.in_ok-size_is-in-2323.was (then c.in_ok-grade-in-2323.was c.byte_in-in-2323.ensures end) refl)

pub returns-in_err-size_is-in-2337 : goal.returns-in_err-size_is-in-2337
returns-in_err-size_is-in-2337 c = of_all messages _ _ refl (wrong_size messages _ setup_confirm _ c.in-2337.is refl refl c.size_is-in-2337.ensures c.in_err-size_is-in-2337.was _ c.from_residual-in_err-size_is-in-2337.ensures.1)

pub returns-in_err-grade-in-2337 : goal.returns-in_err-grade-in-2337
returns-in_err-grade-in-2337 c = of_all messages _ _ refl (wrong_field messages _ setup_confirm _ c.in-2337.is refl refl c.size_is-in-2337.ensures c.in_ok-size_is-in-2337.was (wrong c.in_err-grade-in-2337.was c.byte_in-in-2337.ensures) _ c.from_residual-in_err-grade-in-2337.ensures.1)

pub returns-in_ok-grade-in-2337 : goal.returns-in_ok-grade-in-2337
returns-in_ok-grade-in-2337 c = of_all messages _ _ refl (right_body messages _ setup_confirm _ c.in-2337.is refl refl c.size_is-in-2337.ensures c.in_ok-size_is-in-2337.was (then c.in_ok-grade-in-2337.was c.byte_in-in-2337.ensures end) refl)

pub returns-in_err-size_is-in-2338 : goal.returns-in_err-size_is-in-2338
returns-in_err-size_is-in-2338 c = of_all messages _ _ refl (wrong_size messages _ release_indication _ c.in-2338.is refl refl c.size_is-in-2338.ensures c.in_err-size_is-in-2338.was _ c.from_residual-in_err-size_is-in-2338.ensures.1)

pub returns-in_ok-size_is-in-2338 : goal.returns-in_ok-size_is-in-2338
returns-in_ok-size_is-in-2338 c = of_all messages _ _ refl (right_body messages _ release_indication _ c.in-2338.is refl refl c.size_is-in-2338.ensures c.in_ok-size_is-in-2338.was end refl)

pub returns-in_default : goal.returns-in_default
returns-in_default c = of_all messages _ _ refl (unknown messages _ (numbers messages) messages.kinds _ refl c.in_default.in_default-own.rest)
