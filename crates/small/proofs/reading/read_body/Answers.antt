-- The size, the fields, the timer.
use Rattle.std.proofs.Common.{rules, refl, length}
use borrow.Author.Tests.{ne_eqb}
use Rattle.small.specs.Reading.{flat_at}
use Rattle.records.proofs.Reading.{passed}
use Rattle.small.proofs.Answers.{wrong_size, wrong_field, all_right, fitting, no_place}
use Rattle.small.proofs.Parts.{was_some, was_none, is_error}
use Rattle.small.proofs.reading.read_body.Goals as goal

pub returns-in_err-letters : goal.returns-in_err-letters
returns-in_err-letters c =
    let told = rw c.in_err-letters.was at c.ok_or.ensures.value in
    rw (passed _ c.from_residual.ensures.1, is_error _ _ _ told) (wrong_size _ _ _ _ _ c.letters_for.ensures.value (was_none _ _ _ told))

pub fill-requires : goal.fill-requires
fill-requires c =
    let is = was_some _ _ _ (rw c.in_ok-letters.was at c.ok_or.ensures.value) in
    let few = rw is at c.letters_for.ensures.upper_bound in
    let w = fitting c.args.entry c.requires (length c.args.s.now) c.in_ok-letters.letters (rw is at c.letters_for.ensures.value) few in
    (few, w.0, w.1, search rules)

pub returns-in_err-fill : goal.returns-in_err-fill
returns-in_err-fill c =
    let is = was_some _ _ _ (rw c.in_ok-letters.was at c.ok_or.ensures.value) in
    rw (passed _ c.from_residual-in_err-fill.ensures.1)
    (wrong_field _ _ _ _ _ c.letters_for.ensures.value _ is (rw is at c.letters_for.ensures.upper_bound) _ _ (rw c.in_err-fill.was at c.fill.ensures.v_after))

pub returns-in_err-timer : goal.returns-in_err-timer
unfolding flat_at
returns-in_err-timer c =
    let a = c.args in
    let is = was_some _ _ _ (rw c.in_ok-letters.was at c.ok_or.ensures.value) in
    let told = rw c.in_err-timer.was at c.ok_or-2.ensures.value in
    let place = rw (was_none _ _ _ told) at c.timer_of.ensures in
    let filled = rw c.in_ok-fill.was at c.fill.ensures.v_after in
    let right = all_right a.entry a.kind a.call a.s.now _ c.letters_for.ensures.value _ is (rw is at c.letters_for.ensures.upper_bound) c.fill.new.v filled in
    rw (passed _ c.from_residual-in_err-timer.ensures.1, is_error _ _ _ told, ← right, ← place) refl

pub returns : goal.returns
unfolding flat_at
returns c =
    let a = c.args in
    let is = was_some _ _ _ (rw c.in_ok-letters.was at c.ok_or.ensures.value) in
    let timer = c.in_ok-timer.timer in
    let place = rw (was_some _ _ _ (rw c.in_ok-timer.was at c.ok_or-2.ensures.value)) at c.timer_of.ensures in
    let filled = rw c.in_ok-fill.was at c.fill.ensures.v_after in
    let right = all_right a.entry a.kind a.call a.s.now _ c.letters_for.ensures.value _ is (rw is at c.letters_for.ensures.upper_bound) c.fill.new.v filled in
    rw (← right, ← place, ne_eqb _ 7 (no_place timer), c.flat_by.ensures, c.kind_with.ensures) refl
