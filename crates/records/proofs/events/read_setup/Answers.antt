-- An arm knows its number, and what its record's size and the fields before it were found to be, which is that line of the table, or one of the two that have
-- the number; the last goes on to the kinds behind.
use mathlib.Core.Path.{refl}
use mathlib.Core.List.{[], ◌∷◌, ◌++◌}
use Rattle.records.specs.Events.{events, setup_kinds, call_kinds, lower_kinds, d_call_proceeding, d_alert, d_connect, d_connect_slots, d_connect_acknowledge, d_setup, d_info, d_info_slots}
use Rattle.records.proofs.Reading.{end, then, wrong, past}
use Rattle.records.proofs.Slots.{end_with, then_with, wrong_slots, past_with, wrong_size_slots, wrong_field_slots, wrong_slots_field, right_body_slots}
use Rattle.records.proofs.Rows.{wrong_size, wrong_field, right_body, past_kinds}
use Rattle.records.proofs.events.read_setup.Goals as goal

pub returns-in_err-size_is-in-513 : goal.returns-in_err-size_is-in-513
returns-in_err-size_is-in-513 c = wrong_size events _ d_call_proceeding _ c.in-513.is refl refl c.size_is.ensures c.in_err-size_is-in-513.was _ c.from_residual.ensures.1

pub returns-in_err-id-in-513 : goal.returns-in_err-id-in-513
returns-in_err-id-in-513 c = wrong_field events _ d_call_proceeding _ c.in-513.is refl refl c.size_is.ensures c.in_ok-size_is-in-513.was (wrong c.in_err-id-in-513.was c.word_in.ensures) _ c.from_residual-in_err-id-in-513.ensures.1

pub returns-in_err-size_is-in-514 : goal.returns-in_err-size_is-in-514
returns-in_err-size_is-in-514 c = wrong_size events _ d_alert _ c.in-514.is refl refl c.size_is-in-514.ensures c.in_err-size_is-in-514.was _ c.from_residual-in_err-size_is-in-514.ensures.1

pub returns-in_err-id-in-514 : goal.returns-in_err-id-in-514
returns-in_err-id-in-514 c = wrong_field events _ d_alert _ c.in-514.is refl refl c.size_is-in-514.ensures c.in_ok-size_is-in-514.was (wrong c.in_err-id-in-514.was c.word_in-in-514.ensures) _ c.from_residual-in_err-id-in-514.ensures.1

pub returns-in_err-size_with_slots-in-515 : goal.returns-in_err-size_with_slots-in-515
returns-in_err-size_with_slots-in-515 c = wrong_size_slots events _ d_connect d_connect_slots _ c.in-515.is refl refl refl c.size_with_slots.ensures c.in_err-size_with_slots-in-515.was _ c.from_residual-in_err-size_with_slots-in-515.ensures.1

pub returns-in_err-id-in-515 : goal.returns-in_err-id-in-515
returns-in_err-id-in-515 c = wrong_field_slots events _ d_connect d_connect_slots _ c.in-515.is refl refl refl c.size_with_slots.ensures (λ _ x. x) c.in_ok-size_with_slots-in-515.was (wrong c.in_err-id-in-515.was c.word_in-in-515.ensures) _ c.from_residual-in_err-id-in-515.ensures.1

pub returns-in_err-grant-in-515 : goal.returns-in_err-grant-in-515
returns-in_err-grant-in-515 c = wrong_field_slots events _ d_connect d_connect_slots _ c.in-515.is refl refl refl c.size_with_slots.ensures (λ _ x. x) c.in_ok-size_with_slots-in-515.was (past c.in_ok-id-in-515.was c.word_in-in-515.ensures (wrong c.in_err-grant-in-515.was c.byte_in.ensures)) _ c.from_residual-in_err-grant-in-515.ensures.1

pub returns-in_err-mode-in-515 : goal.returns-in_err-mode-in-515
returns-in_err-mode-in-515 c = wrong_field_slots events _ d_connect d_connect_slots _ c.in-515.is refl refl refl c.size_with_slots.ensures (λ _ x. x) c.in_ok-size_with_slots-in-515.was (past c.in_ok-id-in-515.was c.word_in-in-515.ensures (past c.in_ok-grant-in-515.was c.byte_in.ensures (wrong c.in_err-mode-in-515.was c.byte_in-in-515.ensures))) _ c.from_residual-in_err-mode-in-515.ensures.1

pub returns-in_err-code-in-515 : goal.returns-in_err-code-in-515
returns-in_err-code-in-515 c = wrong_field_slots events _ d_connect d_connect_slots _ c.in-515.is refl refl refl c.size_with_slots.ensures (λ _ x. x) c.in_ok-size_with_slots-in-515.was (past c.in_ok-id-in-515.was c.word_in-in-515.ensures (past c.in_ok-grant-in-515.was c.byte_in.ensures (past c.in_ok-mode-in-515.was c.byte_in-in-515.ensures (wrong c.in_err-code-in-515.was c.byte_in-in-515-2.ensures)))) _ c.from_residual-in_err-code-in-515.ensures.1

pub returns-in_err-slots-in-515 : goal.returns-in_err-slots-in-515
returns-in_err-slots-in-515 c = wrong_slots_field events _ d_connect d_connect_slots _ c.in-515.is refl refl refl c.size_with_slots.ensures (λ _ x. x) c.in_ok-size_with_slots-in-515.was (past_with c.in_ok-id-in-515.was c.word_in-in-515.ensures (past_with c.in_ok-grant-in-515.was c.byte_in.ensures (past_with c.in_ok-mode-in-515.was c.byte_in-in-515.ensures (past_with c.in_ok-code-in-515.was c.byte_in-in-515-2.ensures (wrong_slots c.in_err-slots-in-515.was c.slots_in.ensures))))) _ c.from_residual-in_err-slots-in-515.ensures.1

pub returns-in_err-size_is-in-516 : goal.returns-in_err-size_is-in-516
returns-in_err-size_is-in-516 c = wrong_size events _ d_connect_acknowledge _ c.in-516.is refl refl c.size_is-in-516.ensures c.in_err-size_is-in-516.was _ c.from_residual-in_err-size_is-in-516.ensures.1

pub returns-in_err-id-in-516 : goal.returns-in_err-id-in-516
returns-in_err-id-in-516 c = wrong_field events _ d_connect_acknowledge _ c.in-516.is refl refl c.size_is-in-516.ensures c.in_ok-size_is-in-516.was (wrong c.in_err-id-in-516.was c.word_in-in-516.ensures) _ c.from_residual-in_err-id-in-516.ensures.1

pub returns-in_err-grant-in-516 : goal.returns-in_err-grant-in-516
returns-in_err-grant-in-516 c = wrong_field events _ d_connect_acknowledge _ c.in-516.is refl refl c.size_is-in-516.ensures c.in_ok-size_is-in-516.was (past c.in_ok-id-in-516.was c.word_in-in-516.ensures (wrong c.in_err-grant-in-516.was c.byte_in-in-516.ensures)) _ c.from_residual-in_err-grant-in-516.ensures.1

pub returns-in_err-code-in-516 : goal.returns-in_err-code-in-516
returns-in_err-code-in-516 c = wrong_field events _ d_connect_acknowledge _ c.in-516.is refl refl c.size_is-in-516.ensures c.in_ok-size_is-in-516.was (past c.in_ok-id-in-516.was c.word_in-in-516.ensures (past c.in_ok-grant-in-516.was c.byte_in-in-516.ensures (wrong c.in_err-code-in-516.was c.byte_in-in-516-2.ensures))) _ c.from_residual-in_err-code-in-516.ensures.1

pub returns-in_err-size_is-in-517 : goal.returns-in_err-size_is-in-517
returns-in_err-size_is-in-517 c = wrong_size events _ d_setup _ c.in-517.is refl refl c.size_is-in-517.ensures c.in_err-size_is-in-517.was _ c.from_residual-in_err-size_is-in-517.ensures.1

pub returns-in_err-id-in-517 : goal.returns-in_err-id-in-517
returns-in_err-id-in-517 c = wrong_field events _ d_setup _ c.in-517.is refl refl c.size_is-in-517.ensures c.in_ok-size_is-in-517.was (wrong c.in_err-id-in-517.was c.word_in-in-517.ensures) _ c.from_residual-in_err-id-in-517.ensures.1

pub returns-in_err-address-in-517 : goal.returns-in_err-address-in-517
returns-in_err-address-in-517 c = wrong_field events _ d_setup _ c.in-517.is refl refl c.size_is-in-517.ensures c.in_ok-size_is-in-517.was (past c.in_ok-id-in-517.was c.word_in-in-517.ensures (wrong c.in_err-address-in-517.was c.long_in.ensures)) _ c.from_residual-in_err-address-in-517.ensures.1

pub returns-in_err-mode-in-517 : goal.returns-in_err-mode-in-517
returns-in_err-mode-in-517 c = wrong_field events _ d_setup _ c.in-517.is refl refl c.size_is-in-517.ensures c.in_ok-size_is-in-517.was (past c.in_ok-id-in-517.was c.word_in-in-517.ensures (past c.in_ok-address-in-517.was c.long_in.ensures (wrong c.in_err-mode-in-517.was c.byte_in-in-517.ensures))) _ c.from_residual-in_err-mode-in-517.ensures.1

pub returns-in_err-size_with_slots-in-518 : goal.returns-in_err-size_with_slots-in-518
returns-in_err-size_with_slots-in-518 c = wrong_size_slots events _ d_info d_info_slots _ c.in-518.is refl refl refl c.size_with_slots-in-518.ensures c.in_err-size_with_slots-in-518.was _ c.from_residual-in_err-size_with_slots-in-518.ensures.1

pub returns-in_err-id-in-518 : goal.returns-in_err-id-in-518
returns-in_err-id-in-518 c = wrong_field_slots events _ d_info d_info_slots _ c.in-518.is refl refl refl c.size_with_slots-in-518.ensures (λ _ x. x) c.in_ok-size_with_slots-in-518.was (wrong c.in_err-id-in-518.was c.word_in-in-518.ensures) _ c.from_residual-in_err-id-in-518.ensures.1

pub returns-in_err-reset-in-518 : goal.returns-in_err-reset-in-518
returns-in_err-reset-in-518 c = wrong_field_slots events _ d_info d_info_slots _ c.in-518.is refl refl refl c.size_with_slots-in-518.ensures (λ _ x. x) c.in_ok-size_with_slots-in-518.was (past c.in_ok-id-in-518.was c.word_in-in-518.ensures (wrong c.in_err-reset-in-518.was c.byte_in-in-518.ensures)) _ c.from_residual-in_err-reset-in-518.ensures.1

pub returns-in_err-code-in-518 : goal.returns-in_err-code-in-518
returns-in_err-code-in-518 c = wrong_field_slots events _ d_info d_info_slots _ c.in-518.is refl refl refl c.size_with_slots-in-518.ensures (λ _ x. x) c.in_ok-size_with_slots-in-518.was (past c.in_ok-id-in-518.was c.word_in-in-518.ensures (past c.in_ok-reset-in-518.was c.byte_in-in-518.ensures (wrong c.in_err-code-in-518.was c.byte_in-in-518-2.ensures))) _ c.from_residual-in_err-code-in-518.ensures.1

pub returns-in_err-mode-in-518 : goal.returns-in_err-mode-in-518
returns-in_err-mode-in-518 c = wrong_field_slots events _ d_info d_info_slots _ c.in-518.is refl refl refl c.size_with_slots-in-518.ensures (λ _ x. x) c.in_ok-size_with_slots-in-518.was (past c.in_ok-id-in-518.was c.word_in-in-518.ensures (past c.in_ok-reset-in-518.was c.byte_in-in-518.ensures (past c.in_ok-code-in-518.was c.byte_in-in-518-2.ensures (wrong c.in_err-mode-in-518.was c.byte_in-in-518-3.ensures)))) _ c.from_residual-in_err-mode-in-518.ensures.1

pub returns-in_err-slots-in-518 : goal.returns-in_err-slots-in-518
returns-in_err-slots-in-518 c = wrong_slots_field events _ d_info d_info_slots _ c.in-518.is refl refl refl c.size_with_slots-in-518.ensures (λ _ x. x) c.in_ok-size_with_slots-in-518.was (past_with c.in_ok-id-in-518.was c.word_in-in-518.ensures (past_with c.in_ok-reset-in-518.was c.byte_in-in-518.ensures (past_with c.in_ok-code-in-518.was c.byte_in-in-518-2.ensures (past_with c.in_ok-mode-in-518.was c.byte_in-in-518-3.ensures (wrong_slots c.in_err-slots-in-518.was c.slots_in-in-518.ensures))))) _ c.from_residual-in_err-slots-in-518.ensures.1

pub returns-in_ok-id-in-513 : goal.returns-in_ok-id-in-513
returns-in_ok-id-in-513 c = right_body events _ d_call_proceeding _ c.in-513.is refl refl c.size_is.ensures c.in_ok-size_is-in-513.was (then c.in_ok-id-in-513.was c.word_in.ensures end) refl

pub returns-in_ok-id-in-514 : goal.returns-in_ok-id-in-514
returns-in_ok-id-in-514 c = right_body events _ d_alert _ c.in-514.is refl refl c.size_is-in-514.ensures c.in_ok-size_is-in-514.was (then c.in_ok-id-in-514.was c.word_in-in-514.ensures end) refl

pub returns-in_ok-slots-in-515 : goal.returns-in_ok-slots-in-515
returns-in_ok-slots-in-515 c = right_body_slots events _ d_connect d_connect_slots _ c.in-515.is refl refl refl c.size_with_slots.ensures c.in_ok-size_with_slots-in-515.was (then_with c.in_ok-id-in-515.was c.word_in-in-515.ensures (then_with c.in_ok-grant-in-515.was c.byte_in.ensures (then_with c.in_ok-mode-in-515.was c.byte_in-in-515.ensures (then_with c.in_ok-code-in-515.was c.byte_in-in-515-2.ensures (end_with c.in_ok-slots-in-515.was c.slots_in.ensures))))) (λ e. rw e) (λ g. (_, g, refl)) refl

pub returns-in_ok-code-in-516 : goal.returns-in_ok-code-in-516
returns-in_ok-code-in-516 c = right_body events _ d_connect_acknowledge _ c.in-516.is refl refl c.size_is-in-516.ensures c.in_ok-size_is-in-516.was (then c.in_ok-id-in-516.was c.word_in-in-516.ensures (then c.in_ok-grant-in-516.was c.byte_in-in-516.ensures (then c.in_ok-code-in-516.was c.byte_in-in-516-2.ensures end))) refl

pub returns-in_ok-mode-in-517 : goal.returns-in_ok-mode-in-517
returns-in_ok-mode-in-517 c = right_body events _ d_setup _ c.in-517.is refl refl c.size_is-in-517.ensures c.in_ok-size_is-in-517.was (then c.in_ok-id-in-517.was c.word_in-in-517.ensures (then c.in_ok-address-in-517.was c.long_in.ensures (then c.in_ok-mode-in-517.was c.byte_in-in-517.ensures end))) refl

pub returns-in_ok-slots-in-518 : goal.returns-in_ok-slots-in-518
returns-in_ok-slots-in-518 c = right_body_slots events _ d_info d_info_slots _ c.in-518.is refl refl refl c.size_with_slots-in-518.ensures c.in_ok-size_with_slots-in-518.was (then_with c.in_ok-id-in-518.was c.word_in-in-518.ensures (then_with c.in_ok-reset-in-518.was c.byte_in-in-518.ensures (then_with c.in_ok-code-in-518.was c.byte_in-in-518-2.ensures (then_with c.in_ok-mode-in-518.was c.byte_in-in-518-3.ensures (end_with c.in_ok-slots-in-518.was c.slots_in-in-518.ensures))))) (λ e. rw e) (λ g. (_, g, refl)) refl

pub returns-in_default : goal.returns-in_default
returns-in_default c = past_kinds events _ (0x0201 ∷ 0x0202 ∷ 0x0203 ∷ 0x0204 ∷ 0x0205 ∷ 0x0206 ∷ []) setup_kinds (call_kinds ++ lower_kinds) _ refl c.in_default.in_default-own.rest c.read_call.ensures
