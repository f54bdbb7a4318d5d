-- Bytes that are no reader are refused; else what `next` gives is packed.
use mathlib.Core.Path.{sym}
use native.Mathlib.Omega.{arith}
use Rattle.host.proofs.SerialLine.{no_reader, a_reader, small, packs, next_reader}
use Rattle.host.proofs.serial.callcontrol_pieces_next.Goals as goal

pub returns-in_default : goal.returns-in_default
returns-in_default c = no_reader _ _ _ c.in_default.ensures

pub put_reader-requires : goal.put_reader-requires
put_reader-requires c =
    let n = c.next-found in (
      (a_reader _ c.in-Some.ensures).two,
      rw (sym (next_reader n.result n.new.self n.new.carry)) (small _ _ _ _ _ c.in-Some.ensures n.ensures).carried,
    )

pub found_word-requires : goal.found_word-requires
found_word-requires c = let s = small _ _ _ _ _ c.in-Some.ensures c.in-Ok.ensures in (s.size, s.used)

pub returns-in-Ok : goal.returns-in-Ok
returns-in-Ok c = packs _ _ _ _ _ c.in-Some.ensures c.in-Ok.ensures c.put_reader.ensures c.found_word.ensures

pub returns-in-Err : goal.returns-in-Err
returns-in-Err c = packs _ _ _ _ _ c.in-Some.ensures c.in-Err.ensures c.put_reader.ensures (rw (c.refused.ensures, c.number.ensures.value) (omega arith))
