-- An arm knows its number, and what its record's size and the fields before it were found to be, which is that line of the table, or one of the two that have
-- the number; the last goes on to the kinds behind.
use mathlib.Core.Path.{refl}
use mathlib.Core.List.{[], ◌∷◌}
use Rattle.records.specs.Events.{events, call_kinds, lower_kinds, d_tx_granted, d_tx_ceased, d_tx_interrupt, d_tx_wait, d_tx_continue, d_call_restore, d_disconnect, d_release}
use Rattle.records.proofs.Reading.{end, then, wrong, past}
use Rattle.records.proofs.Rows.{wrong_size, wrong_field, right_body, past_kinds}
use Rattle.records.proofs.events.read_call.Goals as goal

pub returns-in_err-size_is-in-519 : goal.returns-in_err-size_is-in-519
returns-in_err-size_is-in-519 c = wrong_size events _ d_tx_granted _ c.in-519.is refl refl c.size_is.ensures c.in_err-size_is-in-519.was _ c.from_residual.ensures.1

pub returns-in_err-id-in-519 : goal.returns-in_err-id-in-519
returns-in_err-id-in-519 c = wrong_field events _ d_tx_granted _ c.in-519.is refl refl c.size_is.ensures c.in_ok-size_is-in-519.was (wrong c.in_err-id-in-519.was c.word_in.ensures) _ c.from_residual-in_err-id-in-519.ensures.1

pub returns-in_err-grant-in-519 : goal.returns-in_err-grant-in-519
returns-in_err-grant-in-519 c = wrong_field events _ d_tx_granted _ c.in-519.is refl refl c.size_is.ensures c.in_ok-size_is-in-519.was (past c.in_ok-id-in-519.was c.word_in.ensures (wrong c.in_err-grant-in-519.was c.byte_in.ensures)) _ c.from_residual-in_err-grant-in-519.ensures.1

pub returns-in_err-size_is-in-520 : goal.returns-in_err-size_is-in-520
returns-in_err-size_is-in-520 c = wrong_size events _ d_tx_ceased _ c.in-520.is refl refl c.size_is-in-520.ensures c.in_err-size_is-in-520.was _ c.from_residual-in_err-size_is-in-520.ensures.1

pub returns-in_err-id-in-520 : goal.returns-in_err-id-in-520
returns-in_err-id-in-520 c = wrong_field events _ d_tx_ceased _ c.in-520.is refl refl c.size_is-in-520.ensures c.in_ok-size_is-in-520.was (wrong c.in_err-id-in-520.was c.word_in-in-520.ensures) _ c.from_residual-in_err-id-in-520.ensures.1

pub returns-in_err-size_is-in-521 : goal.returns-in_err-size_is-in-521
returns-in_err-size_is-in-521 c = wrong_size events _ d_tx_interrupt _ c.in-521.is refl refl c.size_is-in-521.ensures c.in_err-size_is-in-521.was _ c.from_residual-in_err-size_is-in-521.ensures.1

pub returns-in_err-id-in-521 : goal.returns-in_err-id-in-521
returns-in_err-id-in-521 c = wrong_field events _ d_tx_interrupt _ c.in-521.is refl refl c.size_is-in-521.ensures c.in_ok-size_is-in-521.was (wrong c.in_err-id-in-521.was c.word_in-in-521.ensures) _ c.from_residual-in_err-id-in-521.ensures.1

pub returns-in_err-grant-in-521 : goal.returns-in_err-grant-in-521
returns-in_err-grant-in-521 c = wrong_field events _ d_tx_interrupt _ c.in-521.is refl refl c.size_is-in-521.ensures c.in_ok-size_is-in-521.was (past c.in_ok-id-in-521.was c.word_in-in-521.ensures (wrong c.in_err-grant-in-521.was c.byte_in-in-521.ensures)) _ c.from_residual-in_err-grant-in-521.ensures.1

pub returns-in_err-size_is-in-522 : goal.returns-in_err-size_is-in-522
returns-in_err-size_is-in-522 c = wrong_size events _ d_tx_wait _ c.in-522.is refl refl c.size_is-in-522.ensures c.in_err-size_is-in-522.was _ c.from_residual-in_err-size_is-in-522.ensures.1

pub returns-in_err-id-in-522 : goal.returns-in_err-id-in-522
returns-in_err-id-in-522 c = wrong_field events _ d_tx_wait _ c.in-522.is refl refl c.size_is-in-522.ensures c.in_ok-size_is-in-522.was (wrong c.in_err-id-in-522.was c.word_in-in-522.ensures) _ c.from_residual-in_err-id-in-522.ensures.1

pub returns-in_err-size_is-in-523 : goal.returns-in_err-size_is-in-523
returns-in_err-size_is-in-523 c = wrong_size events _ d_tx_continue _ c.in-523.is refl refl c.size_is-in-523.ensures c.in_err-size_is-in-523.was _ c.from_residual-in_err-size_is-in-523.ensures.1

pub returns-in_err-id-in-523 : goal.returns-in_err-id-in-523
returns-in_err-id-in-523 c = wrong_field events _ d_tx_continue _ c.in-523.is refl refl c.size_is-in-523.ensures c.in_ok-size_is-in-523.was (wrong c.in_err-id-in-523.was c.word_in-in-523.ensures) _ c.from_residual-in_err-id-in-523.ensures.1

pub returns-in_err-go-in-523 : goal.returns-in_err-go-in-523
returns-in_err-go-in-523 c = wrong_field events _ d_tx_continue _ c.in-523.is refl refl c.size_is-in-523.ensures c.in_ok-size_is-in-523.was (past c.in_ok-id-in-523.was c.word_in-in-523.ensures (wrong c.in_err-go-in-523.was c.byte_in-in-523.ensures)) _ c.from_residual-in_err-go-in-523.ensures.1

pub returns-in_err-size_is-in-524 : goal.returns-in_err-size_is-in-524
returns-in_err-size_is-in-524 c = wrong_size events _ d_call_restore _ c.in-524.is refl refl c.size_is-in-524.ensures c.in_err-size_is-in-524.was _ c.from_residual-in_err-size_is-in-524.ensures.1

pub returns-in_err-id-in-524 : goal.returns-in_err-id-in-524
returns-in_err-id-in-524 c = wrong_field events _ d_call_restore _ c.in-524.is refl refl c.size_is-in-524.ensures c.in_ok-size_is-in-524.was (wrong c.in_err-id-in-524.was c.word_in-in-524.ensures) _ c.from_residual-in_err-id-in-524.ensures.1

pub returns-in_err-grant-in-524 : goal.returns-in_err-grant-in-524
returns-in_err-grant-in-524 c = wrong_field events _ d_call_restore _ c.in-524.is refl refl c.size_is-in-524.ensures c.in_ok-size_is-in-524.was (past c.in_ok-id-in-524.was c.word_in-in-524.ensures (wrong c.in_err-grant-in-524.was c.byte_in-in-524.ensures)) _ c.from_residual-in_err-grant-in-524.ensures.1

pub returns-in_err-reset-in-524 : goal.returns-in_err-reset-in-524
returns-in_err-reset-in-524 c = wrong_field events _ d_call_restore _ c.in-524.is refl refl c.size_is-in-524.ensures c.in_ok-size_is-in-524.was (past c.in_ok-id-in-524.was c.word_in-in-524.ensures (past c.in_ok-grant-in-524.was c.byte_in-in-524.ensures (wrong c.in_err-reset-in-524.was c.byte_in-in-524-2.ensures))) _ c.from_residual-in_err-reset-in-524.ensures.1

pub returns-in_err-code-in-524 : goal.returns-in_err-code-in-524
returns-in_err-code-in-524 c = wrong_field events _ d_call_restore _ c.in-524.is refl refl c.size_is-in-524.ensures c.in_ok-size_is-in-524.was (past c.in_ok-id-in-524.was c.word_in-in-524.ensures (past c.in_ok-grant-in-524.was c.byte_in-in-524.ensures (past c.in_ok-reset-in-524.was c.byte_in-in-524-2.ensures (wrong c.in_err-code-in-524.was c.byte_in-in-524-3.ensures)))) _ c.from_residual-in_err-code-in-524.ensures.1

pub returns-in_err-size_is-in-525 : goal.returns-in_err-size_is-in-525
returns-in_err-size_is-in-525 c = wrong_size events _ d_disconnect _ c.in-525.is refl refl c.size_is-in-525.ensures c.in_err-size_is-in-525.was _ c.from_residual-in_err-size_is-in-525.ensures.1

pub returns-in_err-id-in-525 : goal.returns-in_err-id-in-525
returns-in_err-id-in-525 c = wrong_field events _ d_disconnect _ c.in-525.is refl refl c.size_is-in-525.ensures c.in_ok-size_is-in-525.was (wrong c.in_err-id-in-525.was c.word_in-in-525.ensures) _ c.from_residual-in_err-id-in-525.ensures.1

pub returns-in_err-size_is-in-526 : goal.returns-in_err-size_is-in-526
returns-in_err-size_is-in-526 c = wrong_size events _ d_release _ c.in-526.is refl refl c.size_is-in-526.ensures c.in_err-size_is-in-526.was _ c.from_residual-in_err-size_is-in-526.ensures.1

pub returns-in_err-id-in-526 : goal.returns-in_err-id-in-526
returns-in_err-id-in-526 c = wrong_field events _ d_release _ c.in-526.is refl refl c.size_is-in-526.ensures c.in_ok-size_is-in-526.was (wrong c.in_err-id-in-526.was c.word_in-in-526.ensures) _ c.from_residual-in_err-id-in-526.ensures.1

pub returns-in_ok-grant-in-519 : goal.returns-in_ok-grant-in-519
returns-in_ok-grant-in-519 c = right_body events _ d_tx_granted _ c.in-519.is refl refl c.size_is.ensures c.in_ok-size_is-in-519.was (then c.in_ok-id-in-519.was c.word_in.ensures (then c.in_ok-grant-in-519.was c.byte_in.ensures end)) refl

pub returns-in_ok-id-in-520 : goal.returns-in_ok-id-in-520
returns-in_ok-id-in-520 c = right_body events _ d_tx_ceased _ c.in-520.is refl refl c.size_is-in-520.ensures c.in_ok-size_is-in-520.was (then c.in_ok-id-in-520.was c.word_in-in-520.ensures end) refl

pub returns-in_ok-grant-in-521 : goal.returns-in_ok-grant-in-521
returns-in_ok-grant-in-521 c = right_body events _ d_tx_interrupt _ c.in-521.is refl refl c.size_is-in-521.ensures c.in_ok-size_is-in-521.was (then c.in_ok-id-in-521.was c.word_in-in-521.ensures (then c.in_ok-grant-in-521.was c.byte_in-in-521.ensures end)) refl

pub returns-in_ok-id-in-522 : goal.returns-in_ok-id-in-522
returns-in_ok-id-in-522 c = right_body events _ d_tx_wait _ c.in-522.is refl refl c.size_is-in-522.ensures c.in_ok-size_is-in-522.was (then c.in_ok-id-in-522.was c.word_in-in-522.ensures end) refl

pub returns-in_ok-go-in-523 : goal.returns-in_ok-go-in-523
returns-in_ok-go-in-523 c = right_body events _ d_tx_continue _ c.in-523.is refl refl c.size_is-in-523.ensures c.in_ok-size_is-in-523.was (then c.in_ok-id-in-523.was c.word_in-in-523.ensures (then c.in_ok-go-in-523.was c.byte_in-in-523.ensures end)) refl

pub returns-in_ok-code-in-524 : goal.returns-in_ok-code-in-524
returns-in_ok-code-in-524 c = right_body events _ d_call_restore _ c.in-524.is refl refl c.size_is-in-524.ensures c.in_ok-size_is-in-524.was (then c.in_ok-id-in-524.was c.word_in-in-524.ensures (then c.in_ok-grant-in-524.was c.byte_in-in-524.ensures (then c.in_ok-reset-in-524.was c.byte_in-in-524-2.ensures (then c.in_ok-code-in-524.was c.byte_in-in-524-3.ensures end)))) refl

pub returns-in_ok-id-in-525 : goal.returns-in_ok-id-in-525
returns-in_ok-id-in-525 c = right_body events _ d_disconnect _ c.in-525.is refl refl c.size_is-in-525.ensures c.in_ok-size_is-in-525.was (then c.in_ok-id-in-525.was c.word_in-in-525.ensures end) refl

pub returns-in_ok-id-in-526 : goal.returns-in_ok-id-in-526
returns-in_ok-id-in-526 c = right_body events _ d_release _ c.in-526.is refl refl c.size_is-in-526.ensures c.in_ok-size_is-in-526.was (then c.in_ok-id-in-526.was c.word_in-in-526.ensures end) refl

pub returns-in_default : goal.returns-in_default
returns-in_default c = past_kinds events _ (0x0207 ∷ 0x0208 ∷ 0x0209 ∷ 0x020A ∷ 0x020B ∷ 0x020C ∷ 0x020D ∷ 0x020E ∷ []) call_kinds lower_kinds _ refl c.in_default.in_default-own.rest c.read_lower.ensures
