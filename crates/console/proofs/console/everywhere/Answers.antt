-- No place, no room, or all.
use Rattle.std.proofs.Common.{ℕ, sym, ◌∙◌, ap, rules, List, ◌++◌, drop}
use Rattle.console.proofs.Rooms.{own_room, own_laid}
use Rattle.console.proofs.Everywhere.{front_size, none_takes, no_space, all_take}
use Rattle.console.proofs.console.everywhere.Goals as goal

pub put_all-passed-requires : goal.put_all-passed-requires
put_all-passed-requires c = (c.requires, own_room c.args.calls c.args.event c.own_buffer-own.result c.requires (search rules) c.own_buffer-own.ensures.value_2)

pub returns-then-passed-eq0 : goal.returns-then-passed-eq0
returns-then-passed-eq0 c = record { value = none_takes _ _ _ c.put_all-passed.ensures c.if-passed-eq0.true; last = tt }

pub returns-then-buffer-count : goal.returns-then-buffer-count
returns-then-buffer-count c = record { value = no_space _ _ _ c.put_all-passed.ensures c.if-passed-eq0.false c.if-buffer-count.true; last = tt }

pub slice_bounds-own-end : goal.slice_bounds-own-end
slice_bounds-own-end c = own_laid c.args.calls c.args.event c.requires (search rules) c.own_buffer-own.ensures.value_2 c.put_all-passed.ensures

pub slice_bounds-copy_from_slice-end-3 : goal.slice_bounds-copy_from_slice-end-3
slice_bounds-copy_from_slice-end-3 c = front_size _ _ (own_laid c.args.calls c.args.event c.requires (search rules) c.own_buffer-own.ensures.value_2 c.put_all-passed.ensures)

pub copy_from_slice-requires : goal.copy_from_slice-requires
copy_from_slice-requires c =
    sym (front_size _ _ c.if-buffer-count.false)
    ∙ front_size _ _ (own_laid c.args.calls c.args.event c.requires (search rules) c.own_buffer-own.ensures.value_2 c.put_all-passed.ensures)

pub returns : goal.returns
returns c =
    record {
      value = all_take _ _ _ c.put_all-passed.ensures c.if-passed-eq0.false c.if-buffer-count.false
          (own_laid c.args.calls c.args.event c.requires (search rules) c.own_buffer-own.ensures.value_2 c.put_all-passed.ensures)
          (ap (λ (z : List ℕ). z ++ drop c.put_all-passed.result.size c.args.buffer.now) c.copy_from_slice.ensures.after);
      last = c.put_all-passed.ensures.last;
    }
