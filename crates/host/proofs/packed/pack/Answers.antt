-- 22 bytes over 22.
use mathlib.Core.Path.{◌∙◌, sym}
use Rattle.host.proofs.Packing.{packed_long, whole_stored}
use Rattle.host.proofs.packed.pack.Goals as goal

pub returns : goal.returns
returns c =
    c.copy_from_slice.ensures.after ∙ c.packed.ensures ∙ sym (whole_stored _ _ (c.requires ∙ sym (packed_long c.args.call)))
