-- An arm knows its number, and what its record's size and the fields before it were found to be, which is that line of the table, or one of the two that have
-- the number; the last goes on to the kinds behind.
use mathlib.Core.Path.{refl}
use mathlib.Core.List.{[], ◌∷◌, ◌++◌}
use Rattle.records.specs.Events.{events, user_kinds, setup_kinds, call_kinds, lower_kinds, setup_request, setup_request_slots, setup_response, release_request, tx_request}
use Rattle.records.proofs.Reading.{end, then, wrong, past}
use Rattle.records.proofs.Slots.{end_with, then_with, wrong_slots, past_with, wrong_size_slots, wrong_field_slots, wrong_slots_field, right_body_slots}
use Rattle.records.proofs.Rows.{wrong_size, wrong_field, right_body, past_kinds}
use Rattle.records.proofs.events.read_user.Goals as goal

pub returns-in_err-size_with_slots-in-257 : goal.returns-in_err-size_with_slots-in-257
returns-in_err-size_with_slots-in-257 c = wrong_size_slots events _ setup_request setup_request_slots _ c.in-257.is refl refl refl c.size_with_slots.ensures c.in_err-size_with_slots-in-257.was _ c.from_residual.ensures.1

pub returns-in_err-address-in-257 : goal.returns-in_err-address-in-257
returns-in_err-address-in-257 c = wrong_field_slots events _ setup_request setup_request_slots _ c.in-257.is refl refl refl c.size_with_slots.ensures (λ _ x. x) c.in_ok-size_with_slots-in-257.was (wrong c.in_err-address-in-257.was c.long_in.ensures) _ c.from_residual-in_err-address-in-257.ensures.1

pub returns-in_err-mode-in-257 : goal.returns-in_err-mode-in-257
returns-in_err-mode-in-257 c = wrong_field_slots events _ setup_request setup_request_slots _ c.in-257.is refl refl refl c.size_with_slots.ensures (λ _ x. x) c.in_ok-size_with_slots-in-257.was (past c.in_ok-address-in-257.was c.long_in.ensures (wrong c.in_err-mode-in-257.was c.byte_in.ensures)) _ c.from_residual-in_err-mode-in-257.ensures.1

pub returns-in_err-ask-in-257 : goal.returns-in_err-ask-in-257
returns-in_err-ask-in-257 c = wrong_field_slots events _ setup_request setup_request_slots _ c.in-257.is refl refl refl c.size_with_slots.ensures (λ _ x. x) c.in_ok-size_with_slots-in-257.was (past c.in_ok-address-in-257.was c.long_in.ensures (past c.in_ok-mode-in-257.was c.byte_in.ensures (wrong c.in_err-ask-in-257.was c.byte_in-in-257.ensures))) _ c.from_residual-in_err-ask-in-257.ensures.1

pub returns-in_err-slots-in-257 : goal.returns-in_err-slots-in-257
returns-in_err-slots-in-257 c = wrong_slots_field events _ setup_request setup_request_slots _ c.in-257.is refl refl refl c.size_with_slots.ensures (λ _ x. x) c.in_ok-size_with_slots-in-257.was (past_with c.in_ok-address-in-257.was c.long_in.ensures (past_with c.in_ok-mode-in-257.was c.byte_in.ensures (past_with c.in_ok-ask-in-257.was c.byte_in-in-257.ensures (wrong_slots c.in_err-slots-in-257.was c.slots_in.ensures)))) _ c.from_residual-in_err-slots-in-257.ensures.1

pub returns-in_err-size_is-in-258 : goal.returns-in_err-size_is-in-258
returns-in_err-size_is-in-258 c = wrong_size events _ setup_response _ c.in-258.is refl refl c.size_is.ensures c.in_err-size_is-in-258.was _ c.from_residual-in_err-size_is-in-258.ensures.1

pub returns-in_err-size_is-in-259 : goal.returns-in_err-size_is-in-259
returns-in_err-size_is-in-259 c = wrong_size events _ release_request _ c.in-259.is refl refl c.size_is-in-259.ensures c.in_err-size_is-in-259.was _ c.from_residual-in_err-size_is-in-259.ensures.1

pub returns-in_err-size_is-in-260 : goal.returns-in_err-size_is-in-260
returns-in_err-size_is-in-260 c = wrong_size events _ tx_request _ c.in-260.is refl refl c.size_is-in-260.ensures c.in_err-size_is-in-260.was _ c.from_residual-in_err-size_is-in-260.ensures.1

pub returns-in_err-go-in-260 : goal.returns-in_err-go-in-260
returns-in_err-go-in-260 c = wrong_field events _ tx_request _ c.in-260.is refl refl c.size_is-in-260.ensures c.in_ok-size_is-in-260.was (wrong c.in_err-go-in-260.was c.byte_in-in-260.ensures) _ c.from_residual-in_err-go-in-260.ensures.1

pub returns-in_ok-slots-in-257 : goal.returns-in_ok-slots-in-257
returns-in_ok-slots-in-257 c = right_body_slots events _ setup_request setup_request_slots _ c.in-257.is refl refl refl c.size_with_slots.ensures c.in_ok-size_with_slots-in-257.was (then_with c.in_ok-address-in-257.was c.long_in.ensures (then_with c.in_ok-mode-in-257.was c.byte_in.ensures (then_with c.in_ok-ask-in-257.was c.byte_in-in-257.ensures (end_with c.in_ok-slots-in-257.was c.slots_in.ensures)))) (λ e. rw e) (λ g. (_, g, refl)) refl

pub returns-in_ok-size_is-in-258 : goal.returns-in_ok-size_is-in-258
returns-in_ok-size_is-in-258 c = right_body events _ setup_response _ c.in-258.is refl refl c.size_is.ensures c.in_ok-size_is-in-258.was end refl

pub returns-in_ok-size_is-in-259 : goal.returns-in_ok-size_is-in-259
returns-in_ok-size_is-in-259 c = right_body events _ release_request _ c.in-259.is refl refl c.size_is-in-259.ensures c.in_ok-size_is-in-259.was end refl

pub returns-in_ok-go-in-260 : goal.returns-in_ok-go-in-260
returns-in_ok-go-in-260 c = right_body events _ tx_request _ c.in-260.is refl refl c.size_is-in-260.ensures c.in_ok-size_is-in-260.was (then c.in_ok-go-in-260.was c.byte_in-in-260.ensures end) refl

pub returns-in_default : goal.returns-in_default
returns-in_default c = past_kinds events _ (0x0101 ∷ 0x0102 ∷ 0x0103 ∷ 0x0104 ∷ []) user_kinds (setup_kinds ++ call_kinds ++ lower_kinds) _ refl c.in_default.in_default-own.rest c.read_setup.ensures
