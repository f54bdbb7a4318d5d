-- An arm knows its number, and what its record's size and the fields before it were found to be, which is that line of the table, or one of the two that have
-- the number; the last goes on to the kinds behind.
use mathlib.Core.Path.{refl}
use mathlib.Core.List.{[], ◌∷◌, ◌++◌}
use Rattle.records.specs.Messages.{messages, network_kinds, host_kinds, to_user_kinds, u_setup, u_setup_slots, u_connect, u_disconnect, u_release, u_info, u_tx_demand, u_tx_ceased, u_call_restore}
use Rattle.records.proofs.Reading.{end, then, wrong, past}
use Rattle.records.proofs.Slots.{end_with, then_with, wrong_slots, past_with, wrong_size_slots, wrong_field_slots, wrong_slots_field, right_body_slots}
use Rattle.records.proofs.Rows.{wrong_size, wrong_field, right_body, past_kinds}
use Rattle.records.proofs.messages.read_network.Goals as goal

pub returns-in_err-size_with_slots-in-1281 : goal.returns-in_err-size_with_slots-in-1281
returns-in_err-size_with_slots-in-1281 c = wrong_size_slots messages _ u_setup u_setup_slots _ c.in-1281.is refl refl refl c.size_with_slots.ensures c.in_err-size_with_slots-in-1281.was _ c.from_residual.ensures.1

pub returns-in_err-address-in-1281 : goal.returns-in_err-address-in-1281
returns-in_err-address-in-1281 c = wrong_field_slots messages _ u_setup u_setup_slots _ c.in-1281.is refl refl refl c.size_with_slots.ensures (λ _ x. x) c.in_ok-size_with_slots-in-1281.was (wrong c.in_err-address-in-1281.was c.long_in.ensures) _ c.from_residual-in_err-address-in-1281.ensures.1

pub returns-in_err-mode-in-1281 : goal.returns-in_err-mode-in-1281
returns-in_err-mode-in-1281 c = wrong_field_slots messages _ u_setup u_setup_slots _ c.in-1281.is refl refl refl c.size_with_slots.ensures (λ _ x. x) c.in_ok-size_with_slots-in-1281.was (past c.in_ok-address-in-1281.was c.long_in.ensures (wrong c.in_err-mode-in-1281.was c.byte_in.ensures)) _ c.from_residual-in_err-mode-in-1281.ensures.1

pub returns-in_err-ask-in-1281 : goal.returns-in_err-ask-in-1281
returns-in_err-ask-in-1281 c = wrong_field_slots messages _ u_setup u_setup_slots _ c.in-1281.is refl refl refl c.size_with_slots.ensures (λ _ x. x) c.in_ok-size_with_slots-in-1281.was (past c.in_ok-address-in-1281.was c.long_in.ensures (past c.in_ok-mode-in-1281.was c.byte_in.ensures (wrong c.in_err-ask-in-1281.was c.byte_in-in-1281.ensures))) _ c.from_residual-in_err-ask-in-1281.ensures.1

pub returns-in_err-slots-in-1281 : goal.returns-in_err-slots-in-1281
returns-in_err-slots-in-1281 c = wrong_slots_field messages _ u_setup u_setup_slots _ c.in-1281.is refl refl refl c.size_with_slots.ensures (λ _ x. x) c.in_ok-size_with_slots-in-1281.was (past_with c.in_ok-address-in-1281.was c.long_in.ensures (past_with c.in_ok-mode-in-1281.was c.byte_in.ensures (past_with c.in_ok-ask-in-1281.was c.byte_in-in-1281.ensures (wrong_slots c.in_err-slots-in-1281.was c.slots_in.ensures)))) _ c.from_residual-in_err-slots-in-1281.ensures.1

pub returns-in_err-size_is-in-1282 : goal.returns-in_err-size_is-in-1282
returns-in_err-size_is-in-1282 c = wrong_size messages _ u_connect _ c.in-1282.is refl refl c.size_is.ensures c.in_err-size_is-in-1282.was _ c.from_residual-in_err-size_is-in-1282.ensures.1

pub returns-in_err-id-in-1282 : goal.returns-in_err-id-in-1282
returns-in_err-id-in-1282 c = wrong_field messages _ u_connect _ c.in-1282.is refl refl c.size_is.ensures c.in_ok-size_is-in-1282.was (wrong c.in_err-id-in-1282.was c.word_in.ensures) _ c.from_residual-in_err-id-in-1282.ensures.1

pub returns-in_err-size_is-in-1283 : goal.returns-in_err-size_is-in-1283
returns-in_err-size_is-in-1283 c = wrong_size messages _ u_disconnect _ c.in-1283.is refl refl c.size_is-in-1283.ensures c.in_err-size_is-in-1283.was _ c.from_residual-in_err-size_is-in-1283.ensures.1

pub returns-in_err-id-in-1283 : goal.returns-in_err-id-in-1283
returns-in_err-id-in-1283 c = wrong_field messages _ u_disconnect _ c.in-1283.is refl refl c.size_is-in-1283.ensures c.in_ok-size_is-in-1283.was (wrong c.in_err-id-in-1283.was c.word_in-in-1283.ensures) _ c.from_residual-in_err-id-in-1283.ensures.1

pub returns-in_err-cause-in-1283 : goal.returns-in_err-cause-in-1283
returns-in_err-cause-in-1283 c = wrong_field messages _ u_disconnect _ c.in-1283.is refl refl c.size_is-in-1283.ensures c.in_ok-size_is-in-1283.was (past c.in_ok-id-in-1283.was c.word_in-in-1283.ensures (wrong c.in_err-cause-in-1283.was c.byte_in-in-1283.ensures)) _ c.from_residual-in_err-cause-in-1283.ensures.1

pub returns-in_err-size_is-in-1284 : goal.returns-in_err-size_is-in-1284
returns-in_err-size_is-in-1284 c = wrong_size messages _ u_release _ c.in-1284.is refl refl c.size_is-in-1284.ensures c.in_err-size_is-in-1284.was _ c.from_residual-in_err-size_is-in-1284.ensures.1

pub returns-in_err-id-in-1284 : goal.returns-in_err-id-in-1284
returns-in_err-id-in-1284 c = wrong_field messages _ u_release _ c.in-1284.is refl refl c.size_is-in-1284.ensures c.in_ok-size_is-in-1284.was (wrong c.in_err-id-in-1284.was c.word_in-in-1284.ensures) _ c.from_residual-in_err-id-in-1284.ensures.1

pub returns-in_err-size_is-in-1285 : goal.returns-in_err-size_is-in-1285
returns-in_err-size_is-in-1285 c = wrong_size messages _ u_info _ c.in-1285.is refl refl c.size_is-in-1285.ensures c.in_err-size_is-in-1285.was _ c.from_residual-in_err-size_is-in-1285.ensures.1

pub returns-in_err-id-in-1285 : goal.returns-in_err-id-in-1285
returns-in_err-id-in-1285 c = wrong_field messages _ u_info _ c.in-1285.is refl refl c.size_is-in-1285.ensures c.in_ok-size_is-in-1285.was (wrong c.in_err-id-in-1285.was c.word_in-in-1285.ensures) _ c.from_residual-in_err-id-in-1285.ensures.1

pub returns-in_err-mode-in-1285 : goal.returns-in_err-mode-in-1285
returns-in_err-mode-in-1285 c = wrong_field messages _ u_info _ c.in-1285.is refl refl c.size_is-in-1285.ensures c.in_ok-size_is-in-1285.was (past c.in_ok-id-in-1285.was c.word_in-in-1285.ensures (wrong c.in_err-mode-in-1285.was c.byte_in-in-1285.ensures)) _ c.from_residual-in_err-mode-in-1285.ensures.1

pub returns-in_err-size_is-in-1286 : goal.returns-in_err-size_is-in-1286
returns-in_err-size_is-in-1286 c = wrong_size messages _ u_tx_demand _ c.in-1286.is refl refl c.size_is-in-1286.ensures c.in_err-size_is-in-1286.was _ c.from_residual-in_err-size_is-in-1286.ensures.1

pub returns-in_err-id-in-1286 : goal.returns-in_err-id-in-1286
returns-in_err-id-in-1286 c = wrong_field messages _ u_tx_demand _ c.in-1286.is refl refl c.size_is-in-1286.ensures c.in_ok-size_is-in-1286.was (wrong c.in_err-id-in-1286.was c.word_in-in-1286.ensures) _ c.from_residual-in_err-id-in-1286.ensures.1

pub returns-in_err-size_is-in-1287 : goal.returns-in_err-size_is-in-1287
returns-in_err-size_is-in-1287 c = wrong_size messages _ u_tx_ceased _ c.in-1287.is refl refl c.size_is-in-1287.ensures c.in_err-size_is-in-1287.was _ c.from_residual-in_err-size_is-in-1287.ensures.1

pub returns-in_err-id-in-1287 : goal.returns-in_err-id-in-1287
returns-in_err-id-in-1287 c = wrong_field messages _ u_tx_ceased _ c.in-1287.is refl refl c.size_is-in-1287.ensures c.in_ok-size_is-in-1287.was (wrong c.in_err-id-in-1287.was c.word_in-in-1287.ensures) _ c.from_residual-in_err-id-in-1287.ensures.1

pub returns-in_err-size_is-in-1288 : goal.returns-in_err-size_is-in-1288
returns-in_err-size_is-in-1288 c = wrong_size messages _ u_call_restore _ c.in-1288.is refl refl c.size_is-in-1288.ensures c.in_err-size_is-in-1288.was _ c.from_residual-in_err-size_is-in-1288.ensures.1

pub returns-in_err-id-in-1288 : goal.returns-in_err-id-in-1288
returns-in_err-id-in-1288 c = wrong_field messages _ u_call_restore _ c.in-1288.is refl refl c.size_is-in-1288.ensures c.in_ok-size_is-in-1288.was (wrong c.in_err-id-in-1288.was c.word_in-in-1288.ensures) _ c.from_residual-in_err-id-in-1288.ensures.1

pub returns-in_err-address-in-1288 : goal.returns-in_err-address-in-1288
returns-in_err-address-in-1288 c = wrong_field messages _ u_call_restore _ c.in-1288.is refl refl c.size_is-in-1288.ensures c.in_ok-size_is-in-1288.was (past c.in_ok-id-in-1288.was c.word_in-in-1288.ensures (wrong c.in_err-address-in-1288.was c.long_in-in-1288.ensures)) _ c.from_residual-in_err-address-in-1288.ensures.1

pub returns-in_err-ask-in-1288 : goal.returns-in_err-ask-in-1288
returns-in_err-ask-in-1288 c = wrong_field messages _ u_call_restore _ c.in-1288.is refl refl c.size_is-in-1288.ensures c.in_ok-size_is-in-1288.was (past c.in_ok-id-in-1288.was c.word_in-in-1288.ensures (past c.in_ok-address-in-1288.was c.long_in-in-1288.ensures (wrong c.in_err-ask-in-1288.was c.byte_in-in-1288.ensures))) _ c.from_residual-in_err-ask-in-1288.ensures.1

pub returns-in_ok-slots-in-1281 : goal.returns-in_ok-slots-in-1281
returns-in_ok-slots-in-1281 c = right_body_slots messages _ u_setup u_setup_slots _ c.in-1281.is refl refl refl c.size_with_slots.ensures c.in_ok-size_with_slots-in-1281.was (then_with c.in_ok-address-in-1281.was c.long_in.ensures (then_with c.in_ok-mode-in-1281.was c.byte_in.ensures (then_with c.in_ok-ask-in-1281.was c.byte_in-in-1281.ensures (end_with c.in_ok-slots-in-1281.was c.slots_in.ensures)))) (λ e. rw e) (λ g. (_, g, refl)) refl

pub returns-in_ok-id-in-1282 : goal.returns-in_ok-id-in-1282
returns-in_ok-id-in-1282 c = right_body messages _ u_connect _ c.in-1282.is refl refl c.size_is.ensures c.in_ok-size_is-in-1282.was (then c.in_ok-id-in-1282.was c.word_in.ensures end) refl

pub returns-in_ok-cause-in-1283 : goal.returns-in_ok-cause-in-1283
returns-in_ok-cause-in-1283 c = right_body messages _ u_disconnect _ c.in-1283.is refl refl c.size_is-in-1283.ensures c.in_ok-size_is-in-1283.was (then c.in_ok-id-in-1283.was c.word_in-in-1283.ensures (then c.in_ok-cause-in-1283.was c.byte_in-in-1283.ensures end)) refl

pub returns-in_ok-id-in-1284 : goal.returns-in_ok-id-in-1284
returns-in_ok-id-in-1284 c = right_body messages _ u_release _ c.in-1284.is refl refl c.size_is-in-1284.ensures c.in_ok-size_is-in-1284.was (then c.in_ok-id-in-1284.was c.word_in-in-1284.ensures end) refl

pub returns-in_ok-mode-in-1285 : goal.returns-in_ok-mode-in-1285
returns-in_ok-mode-in-1285 c = right_body messages _ u_info _ c.in-1285.is refl refl c.size_is-in-1285.ensures c.in_ok-size_is-in-1285.was (then c.in_ok-id-in-1285.was c.word_in-in-1285.ensures (then c.in_ok-mode-in-1285.was c.byte_in-in-1285.ensures end)) refl

pub returns-in_ok-id-in-1286 : goal.returns-in_ok-id-in-1286
returns-in_ok-id-in-1286 c = right_body messages _ u_tx_demand _ c.in-1286.is refl refl c.size_is-in-1286.ensures c.in_ok-size_is-in-1286.was (then c.in_ok-id-in-1286.was c.word_in-in-1286.ensures end) refl

pub returns-in_ok-id-in-1287 : goal.returns-in_ok-id-in-1287
returns-in_ok-id-in-1287 c = right_body messages _ u_tx_ceased _ c.in-1287.is refl refl c.size_is-in-1287.ensures c.in_ok-size_is-in-1287.was (then c.in_ok-id-in-1287.was c.word_in-in-1287.ensures end) refl

pub returns-in_ok-ask-in-1288 : goal.returns-in_ok-ask-in-1288
returns-in_ok-ask-in-1288 c = right_body messages _ u_call_restore _ c.in-1288.is refl refl c.size_is-in-1288.ensures c.in_ok-size_is-in-1288.was (then c.in_ok-id-in-1288.was c.word_in-in-1288.ensures (then c.in_ok-address-in-1288.was c.long_in-in-1288.ensures (then c.in_ok-ask-in-1288.was c.byte_in-in-1288.ensures end))) refl

pub returns-in_default : goal.returns-in_default
returns-in_default c = past_kinds messages _ (0x0501 ∷ 0x0502 ∷ 0x0503 ∷ 0x0504 ∷ 0x0505 ∷ 0x0506 ∷ 0x0507 ∷ 0x0508 ∷ []) network_kinds (host_kinds ++ to_user_kinds) _ refl c.in_default.in_default-own.rest c.read_host.ensures
