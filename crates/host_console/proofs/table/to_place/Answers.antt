-- The place's record is read from its part, and packed into it where the step is taken.
use Rattle.std.proofs.Common.{ℕ, refl, ◌∙◌, ap, arith}
use Rattle.std.proofs.lemmas.Result.{err_from_is_err_and}
use Rattle.callcontrol.specs.declared.call.Call.{Call}
use Rattle.console.specs.declared.route.ConsoleRefusal.{ConsoleRefusal}
use Rattle.console.specs.Console.{placed}
use Rattle.console.proofs.Placing.{at_place_lem, at_place_left}
use Rattle.host_console.specs.Table.{held_table}
use Rattle.host_console.proofs.Tables.{table_length, part_held, few_written, taken_left, refused_left}
use Rattle.host_console.proofs.OnePlace.{packed_one}
use Rattle.host_console.proofs.table.to_place.Goals as goal

pub slice_bounds-held-end : goal.slice_bounds-held-end
slice_bounds-held-end c = omega (arith, table_length _ c.requires.table_value, c.requires.k_bound)

pub returns-in_err-stepped : goal.returns-in_err-stepped
returns-in_err-stepped c =
    let s = c.args.table.now in
    let k = c.args.k in
    let b = c.args.out.now in
    let p = err_from_is_err_and c.from_residual.result c.from_residual.ensures.1 in
    let same = part_held s k c.requires.k_bound c.held-call.ensures in
    let step = rw c.in_err-stepped.was at c.place_step.ensures in
    rw (p.1, p.2) (refused_left s c.place_step.new.buffer (ConsoleRefusal.OfStep c.in_err-stepped.field-0.0) (held_table s) (at_place_left k (held_table s) c.args.event b (step ∙ ap (λ (d : Call). placed k d c.args.event b) same) same))

pub slice_bounds-pack-end : goal.slice_bounds-pack-end
slice_bounds-pack-end c = omega (arith, table_length _ c.requires.table_value, c.requires.k_bound)

pub overflow_cast-result : goal.overflow_cast-result
overflow_cast-result c =
    let few = few_written _ _ _ _ (rw c.in_ok-stepped.was at c.place_step.ensures) in
    omega arith

pub returns : goal.returns
returns c =
    let s = c.args.table.now in
    let k = c.args.k in
    let b = c.args.out.now in
    let same = part_held s k c.requires.k_bound c.held-call.ensures in
    let step = rw c.in_ok-stepped.was at c.place_step.ensures in
    taken_left s (at_place_lem k (held_table s) c.args.event b (step ∙ ap (λ (d : Call). placed k d c.args.event b) same)) refl refl
    (packed_one s (λ (i : ℕ). omega (arith, c.slice_known-1.given i)) c.requires.table_value k c.requires.k_bound _ c.pack.ensures)
