-- What is left of a block at its front.
use Rattle.std.proofs.Common.{◌≡◌, ℕ, ◌+◌, ◌-◌, ◌≤◌, List, length, take, drop, length-drop, length-take-le, sym, ◌∙◌, arith}
use Rattle.std.proofs.lemmas.List.{drop-take}
use Rattle.std.specs.List.{copy_within}
use lib.Seq.{take_at}

pub moved : (l : List ℕ) (at held : ℕ) → at ≤ held → held ≤ length l → take (held - at) (copy_within l at held 0) ≡ drop at (take held l)
moved l at held h k =
    let whole : at + (held - at) ≡ held = omega arith in
    let front : take (held - at) (copy_within l at held 0) ≡ take (held - at) (drop at l) =
    take_at (take (held - at) (drop at l)) _ (held - at) (length-take-le (held - at) (drop at l) (rw length-drop (omega arith))) in
    let same = rw whole at (drop-take at (held - at) l) in
    front ∙ sym same
