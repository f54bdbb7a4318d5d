-- Bytes that are no record are refused; else the step's record is packed, or its refusal told.
use Rattle.std.proofs.Common.{arith, ◌∙◌}
use Rattle.host_direct.proofs.Answers.{record_length, no_record, packs, leaves}
use Rattle.host_direct.proofs.Packing.{packed_length}
use Rattle.host_direct.proofs.Small.{step_small}
use Rattle.host_direct.proofs.callcontrol_direct_step.Goals as goal

pub returns-in_default : goal.returns-in_default
returns-in_default c = no_record _ _ _ c.in_default.ensures

pub copy_from_slice-requires : goal.copy_from_slice-requires
copy_from_slice-requires c = rw (c.pack.ensures, packed_length) (record_length _ c.in-Some.ensures)

pub overflow_cast-result : goal.overflow_cast-result
overflow_cast-result c = let h = step_small _ _ _ c.in-Ok.ensures in omega (arith, h)

pub returns-in-Ok : goal.returns-in-Ok
returns-in-Ok c = packs _ _ _ c.in-Some.ensures c.in-Ok.ensures (c.copy_from_slice.ensures.after ∙ c.pack.ensures)

pub returns-in-Err : goal.returns-in-Err
returns-in-Err c = leaves _ _ _ _ c.in-Some.ensures c.in-Err.ensures c.number.ensures.value c.place.ensures c.refused.ensures
