-- An arm knows its number, and what its record's size and the fields before it were found to be, which is that line of the table, or one of the two that have
-- the number; the last knows that no line has it.
use mathlib.Core.Path.{refl}
use mathlib.Core.List.{[], ◌∷◌}
use Rattle.records.specs.Messages.{messages, to_user_kinds, setup_indication, setup_confirm, proceed, alert, complete, release_indication, release_confirm, tx_indication, modify_indication}
use Rattle.records.proofs.Reading.{end, then, wrong, past}
use Rattle.records.proofs.Rows.{wrong_size, wrong_field, right_body, unknown}
use Rattle.records.proofs.messages.read_to_user.Goals as goal

pub returns-in_err-size_is-in-1793 : goal.returns-in_err-size_is-in-1793
returns-in_err-size_is-in-1793 c = wrong_size messages _ setup_indication _ c.in-1793.is refl refl c.size_is.ensures c.in_err-size_is-in-1793.was _ c.from_residual.ensures.1

pub returns-in_err-id-in-1793 : goal.returns-in_err-id-in-1793
returns-in_err-id-in-1793 c = wrong_field messages _ setup_indication _ c.in-1793.is refl refl c.size_is.ensures c.in_ok-size_is-in-1793.was (wrong c.in_err-id-in-1793.was c.word_in.ensures) _ c.from_residual-in_err-id-in-1793.ensures.1

pub returns-in_err-address-in-1793 : goal.returns-in_err-address-in-1793
returns-in_err-address-in-1793 c = wrong_field messages _ setup_indication _ c.in-1793.is refl refl c.size_is.ensures c.in_ok-size_is-in-1793.was (past c.in_ok-id-in-1793.was c.word_in.ensures (wrong c.in_err-address-in-1793.was c.long_in.ensures)) _ c.from_residual-in_err-address-in-1793.ensures.1

pub returns-in_err-mode-in-1793 : goal.returns-in_err-mode-in-1793
returns-in_err-mode-in-1793 c = wrong_field messages _ setup_indication _ c.in-1793.is refl refl c.size_is.ensures c.in_ok-size_is-in-1793.was (past c.in_ok-id-in-1793.was c.word_in.ensures (past c.in_ok-address-in-1793.was c.long_in.ensures (wrong c.in_err-mode-in-1793.was c.byte_in.ensures))) _ c.from_residual-in_err-mode-in-1793.ensures.1

pub returns-in_err-size_is-in-1794 : goal.returns-in_err-size_is-in-1794
returns-in_err-size_is-in-1794 c = wrong_size messages _ setup_confirm _ c.in-1794.is refl refl c.size_is-in-1794.ensures c.in_err-size_is-in-1794.was _ c.from_residual-in_err-size_is-in-1794.ensures.1

pub returns-in_err-id-in-1794 : goal.returns-in_err-id-in-1794
returns-in_err-id-in-1794 c = wrong_field messages _ setup_confirm _ c.in-1794.is refl refl c.size_is-in-1794.ensures c.in_ok-size_is-in-1794.was (wrong c.in_err-id-in-1794.was c.word_in-in-1794.ensures) _ c.from_residual-in_err-id-in-1794.ensures.1

pub returns-in_err-grant-in-1794 : goal.returns-in_err-grant-in-1794
returns-in_err-grant-in-1794 c = wrong_field messages _ setup_confirm _ c.in-1794.is refl refl c.size_is-in-1794.ensures c.in_ok-size_is-in-1794.was (past c.in_ok-id-in-1794.was c.word_in-in-1794.ensures (wrong c.in_err-grant-in-1794.was c.byte_in-in-1794.ensures)) _ c.from_residual-in_err-grant-in-1794.ensures.1

pub returns-in_err-size_is-in-1795 : goal.returns-in_err-size_is-in-1795
returns-in_err-size_is-in-1795 c = wrong_size messages _ proceed _ c.in-1795.is refl refl c.size_is-in-1795.ensures c.in_err-size_is-in-1795.was _ c.from_residual-in_err-size_is-in-1795.ensures.1

pub returns-in_err-size_is-in-1796 : goal.returns-in_err-size_is-in-1796
returns-in_err-size_is-in-1796 c = wrong_size messages _ alert _ c.in-1796.is refl refl c.size_is-in-1796.ensures c.in_err-size_is-in-1796.was _ c.from_residual-in_err-size_is-in-1796.ensures.1

pub returns-in_err-size_is-in-1797 : goal.returns-in_err-size_is-in-1797
returns-in_err-size_is-in-1797 c = wrong_size messages _ complete _ c.in-1797.is refl refl c.size_is-in-1797.ensures c.in_err-size_is-in-1797.was _ c.from_residual-in_err-size_is-in-1797.ensures.1

pub returns-in_err-grant-in-1797 : goal.returns-in_err-grant-in-1797
returns-in_err-grant-in-1797 c = wrong_field messages _ complete _ c.in-1797.is refl refl c.size_is-in-1797.ensures c.in_ok-size_is-in-1797.was (wrong c.in_err-grant-in-1797.was c.byte_in-in-1797.ensures) _ c.from_residual-in_err-grant-in-1797.ensures.1

pub returns-in_err-size_is-in-1798 : goal.returns-in_err-size_is-in-1798
returns-in_err-size_is-in-1798 c = wrong_size messages _ release_indication _ c.in-1798.is refl refl c.size_is-in-1798.ensures c.in_err-size_is-in-1798.was _ c.from_residual-in_err-size_is-in-1798.ensures.1

pub returns-in_err-cause-in-1798 : goal.returns-in_err-cause-in-1798
returns-in_err-cause-in-1798 c = wrong_field messages _ release_indication _ c.in-1798.is refl refl c.size_is-in-1798.ensures c.in_ok-size_is-in-1798.was (wrong c.in_err-cause-in-1798.was c.byte_in-in-1798.ensures) _ c.from_residual-in_err-cause-in-1798.ensures.1

pub returns-in_err-size_is-in-1799 : goal.returns-in_err-size_is-in-1799
returns-in_err-size_is-in-1799 c = wrong_size messages _ release_confirm _ c.in-1799.is refl refl c.size_is-in-1799.ensures c.in_err-size_is-in-1799.was _ c.from_residual-in_err-size_is-in-1799.ensures.1

pub returns-in_err-size_is-in-1800 : goal.returns-in_err-size_is-in-1800
returns-in_err-size_is-in-1800 c = wrong_size messages _ tx_indication _ c.in-1800.is refl refl c.size_is-in-1800.ensures c.in_err-size_is-in-1800.was _ c.from_residual-in_err-size_is-in-1800.ensures.1

pub returns-in_err-told-in-1800 : goal.returns-in_err-told-in-1800
returns-in_err-told-in-1800 c = wrong_field messages _ tx_indication _ c.in-1800.is refl refl c.size_is-in-1800.ensures c.in_ok-size_is-in-1800.was (wrong c.in_err-told-in-1800.was c.byte_in-in-1800.ensures) _ c.from_residual-in_err-told-in-1800.ensures.1

pub returns-in_err-size_is-in-1801 : goal.returns-in_err-size_is-in-1801
returns-in_err-size_is-in-1801 c = wrong_size messages _ modify_indication _ c.in-1801.is refl refl c.size_is-in-1801.ensures c.in_err-size_is-in-1801.was _ c.from_residual-in_err-size_is-in-1801.ensures.1

pub returns-in_err-mode-in-1801 : goal.returns-in_err-mode-in-1801
returns-in_err-mode-in-1801 c = wrong_field messages _ modify_indication _ c.in-1801.is refl refl c.size_is-in-1801.ensures c.in_ok-size_is-in-1801.was (wrong c.in_err-mode-in-1801.was c.byte_in-in-1801.ensures) _ c.from_residual-in_err-mode-in-1801.ensures.1

pub returns-in_err-slots-in-1801 : goal.returns-in_err-slots-in-1801
returns-in_err-slots-in-1801 c = wrong_field messages _ modify_indication _ c.in-1801.is refl refl c.size_is-in-1801.ensures c.in_ok-size_is-in-1801.was (past c.in_ok-mode-in-1801.was c.byte_in-in-1801.ensures (wrong c.in_err-slots-in-1801.was c.byte_in-in-1801-2.ensures)) _ c.from_residual-in_err-slots-in-1801.ensures.1

pub returns-in_ok-mode-in-1793 : goal.returns-in_ok-mode-in-1793
returns-in_ok-mode-in-1793 c = right_body messages _ setup_indication _ c.in-1793.is refl refl c.size_is.ensures c.in_ok-size_is-in-1793.was (then c.in_ok-id-in-1793.was c.word_in.ensures (then c.in_ok-address-in-1793.was c.long_in.ensures (then c.in_ok-mode-in-1793.was c.byte_in.ensures end))) refl

pub returns-in_ok-grant-in-1794 : goal.returns-in_ok-grant-in-1794
returns-in_ok-grant-in-1794 c = right_body messages _ setup_confirm _ c.in-1794.is refl refl c.size_is-in-1794.ensures c.in_ok-size_is-in-1794.was (then c.in_ok-id-in-1794.was c.word_in-in-1794.ensures (then c.in_ok-grant-in-1794.was c.byte_in-in-1794.ensures end)) refl

pub returns-in_ok-size_is-in-1795 : goal.returns-in_ok-size_is-in-1795
returns-in_ok-size_is-in-1795 c = right_body messages _ proceed _ c.in-1795.is refl refl c.size_is-in-1795.ensures c.in_ok-size_is-in-1795.was end refl

pub returns-in_ok-size_is-in-1796 : goal.returns-in_ok-size_is-in-1796
returns-in_ok-size_is-in-1796 c = right_body messages _ alert _ c.in-1796.is refl refl c.size_is-in-1796.ensures c.in_ok-size_is-in-1796.was end refl

pub returns-in_ok-grant-in-1797 : goal.returns-in_ok-grant-in-1797
returns-in_ok-grant-in-1797 c = right_body messages _ complete _ c.in-1797.is refl refl c.size_is-in-1797.ensures c.in_ok-size_is-in-1797.was (then c.in_ok-grant-in-1797.was c.byte_in-in-1797.ensures end) refl

pub returns-in_ok-cause-in-1798 : goal.returns-in_ok-cause-in-1798
returns-in_ok-cause-in-1798 c = right_body messages _ release_indication _ c.in-1798.is refl refl c.size_is-in-1798.ensures c.in_ok-size_is-in-1798.was (then c.in_ok-cause-in-1798.was c.byte_in-in-1798.ensures end) refl

pub returns-in_ok-size_is-in-1799 : goal.returns-in_ok-size_is-in-1799
returns-in_ok-size_is-in-1799 c = right_body messages _ release_confirm _ c.in-1799.is refl refl c.size_is-in-1799.ensures c.in_ok-size_is-in-1799.was end refl

pub returns-in_ok-told-in-1800 : goal.returns-in_ok-told-in-1800
returns-in_ok-told-in-1800 c = right_body messages _ tx_indication _ c.in-1800.is refl refl c.size_is-in-1800.ensures c.in_ok-size_is-in-1800.was (then c.in_ok-told-in-1800.was c.byte_in-in-1800.ensures end) refl

pub returns-in_ok-slots-in-1801 : goal.returns-in_ok-slots-in-1801
returns-in_ok-slots-in-1801 c = right_body messages _ modify_indication _ c.in-1801.is refl refl c.size_is-in-1801.ensures c.in_ok-size_is-in-1801.was (then c.in_ok-mode-in-1801.was c.byte_in-in-1801.ensures (then c.in_ok-slots-in-1801.was c.byte_in-in-1801-2.ensures end)) refl

pub returns-in_default : goal.returns-in_default
returns-in_default c = unknown messages _ (0x0701 ∷ 0x0702 ∷ 0x0703 ∷ 0x0704 ∷ 0x0705 ∷ 0x0706 ∷ 0x0707 ∷ 0x0708 ∷ 0x0709 ∷ []) to_user_kinds _ refl c.in_default.in_default-own.rest
