-- A part that is wrong makes the bytes no record; else each is read where the record has it.
use Rattle.std.proofs.Common.{arith}
use Rattle.host_direct.proofs.Packing.{is_state, no_state, is_flag, no_flag, of_other_length, of_no_state, of_no_dt303, of_no_dt311, of_record}
use Rattle.host_direct.proofs.packed.unpack.Goals as goal

pub returns-in_default : goal.returns-in_default
returns-in_default c = of_other_length _ (λ seven. omega arith)

pub returns-in_default-2 : goal.returns-in_default-2
returns-in_default-2 c = of_other_length _ (λ seven. omega arith)

pub returns-in_err-ok : goal.returns-in_err-ok
returns-in_err-ok c = rw c.from_residual.ensures (of_no_state _ (no_state _ _ c.try_from.ensures c.in_err-ok.ensures.value))

pub returns-in_err-flag_of : goal.returns-in_err-flag_of
returns-in_err-flag_of c = rw c.from_residual-in_err-flag_of.ensures (of_no_dt303 _ (no_flag _ c.in_err-flag_of.ensures))

pub returns-in_err-flag_of-2 : goal.returns-in_err-flag_of-2
returns-in_err-flag_of-2 c = rw c.from_residual-in_err-flag_of-2.ensures (of_no_dt311 _ (no_flag _ c.in_err-flag_of-2.ensures))

pub returns : goal.returns
returns c = of_record _ (omega arith) (is_state _ _ c.try_from.ensures c.in_ok-ok.ensures.value) (is_flag _ c.in_ok-flag_of.ensures) (is_flag _ c.in_ok-flag_of-2.ensures)
