-- Each part that is passed is a record and a sound one, and its key is stored; then the keys are told apart.
use Rattle.std.proofs.Common.{refl, sym, ◌∙◌, ap, arith, not}
use Rattle.callcontrol.specs.Call.{sound}
use Rattle.console.specs.Keys.{key_of}
use Rattle.console.proofs.Places.{every_not, every_later, every_end}
use Rattle.console.proofs.ByKeys.{key_next, all_keys}
use Rattle.host_console.specs.Table.{held_table}
use Rattle.host_console.proofs.Tables.{part_of, unpacked_some, unpacked_none, other_part, part_more, all_parts, part_held, eight_held, not_all_bytes, not_a_record, not_sound, all_read}
use Rattle.host_console.proofs.table.table_keys.Goals as goal

pub returns-then-s-ne176 : goal.returns-then-s-ne176
returns-then-s-ne176 c = not_all_bytes _ c.if-s-ne176.true

pub returns-in_err-call : goal.returns-in_err-call
returns-in_err-call c =
    let s = c.args.s.now in
    let k = c.loop-k.k in
    let none = unpacked_none (part_of k s) c.unpacked.result c.unpacked.ensures c.in_err-call.was in
    rw c.from_residual.ensures (not_a_record s (other_part s k c.loop-k-test.true refl (ap not none)))

pub returns-then-not-sound : goal.returns-then-not-sound
returns-then-not-sound c =
    let s = c.args.s.now in
    let k = c.loop-k.k in
    let n = eight_held s in
    let same = part_held s k c.loop-k-test.true (unpacked_some (part_of k s) c.unpacked.result c.unpacked.ensures c.in_ok-call.call c.in_ok-call.was).1 in
    let not_here = ap sound (sym same) ∙ sym c.sound.ensures ∙ c.if-not-sound.true in
    not_sound s (c.loop-k.invariant.sound_so_far ∙ sym (every_not (held_table s) k (omega arith) sound not_here))

pub loop-k-preserved : goal.loop-k-preserved
loop-k-preserved c =
    let s = c.args.s.now in
    let k = c.loop-k.k in
    let n = eight_held s in
    let read = unpacked_some (part_of k s) c.unpacked.result c.unpacked.ensures c.in_ok-call.call c.in_ok-call.was in
    let same = part_held s k c.loop-k-test.true read.1 in
    let here = ap sound (sym same) ∙ sym c.sound.ensures ∙ c.if-not-sound.false in
    record {
      records = part_more s k refl (ap not read.0) c.loop-k.invariant.records;
      sound_so_far = c.loop-k.invariant.sound_so_far ∙ every_later (held_table s) k (omega arith) sound here;
      keys = key_next (held_table s) k c.loop-k.invariant.keys (c.key_of.ensures ∙ ap (key_of k) same);
      size = c.loop-k.invariant.size;
    }

pub returns-then-apart : goal.returns-then-apart
returns-then-apart c =
    let s = c.args.s.now in
    let k = c.loop-k.k in
    let n = eight_held s in
    let keys = all_keys (held_table s) k c.loop-k.invariant.keys (omega arith) n in
    (all_read s _ (all_parts s k c.loop-k.invariant.records (omega arith)) (c.loop-k.invariant.sound_so_far ∙ sym (every_end (held_table s) k (omega arith) sound)) keys c.apart.ensures ∙ c.if-apart.true, keys)

pub returns-else-apart : goal.returns-else-apart
returns-else-apart c =
    let s = c.args.s.now in
    let k = c.loop-k.k in
    let n = eight_held s in
    let keys = all_keys (held_table s) k c.loop-k.invariant.keys (omega arith) n in
    all_read s _ (all_parts s k c.loop-k.invariant.records (omega arith)) (c.loop-k.invariant.sound_so_far ∙ sym (every_end (held_table s) k (omega arith) sound)) keys c.apart.ensures ∙ c.if-apart.false
