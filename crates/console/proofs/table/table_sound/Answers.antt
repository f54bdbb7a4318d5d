-- Eight places, each record sound, no two alike.
use Rattle.std.proofs.Common.{◌≡◌, rules, sym, ◌∙◌, ap, true, length}
use borrow.Author.Tests.{eq-eqb}
use Rattle.callcontrol.specs.Call.{sound}
use Rattle.console.specs.Table.{every?, table_sound}
use Rattle.console.specs.Keys.{apart_by}
use Rattle.console.proofs.ByKeys.{apart_by_lem}
use Rattle.console.proofs.Found.{every_is_all}
use Rattle.console.proofs.table.table_sound.Goals as goal

pub returns-then-all_sound : goal.returns-then-all_sound
unfolding table_sound
returns-then-all_sound c =
    let calls = c.args.calls in
    let eight : length calls ≡ 8 = search rules in
    let ok : every? sound calls ≡ true = every_is_all sound calls ∙ sym c.all_sound.ensures ∙ c.if-all_sound.true in
    rw (eq-eqb _ _ eight, ok) (c.apart.ensures ∙ ap apart_by c.of.ensures ∙ sym (apart_by_lem 0 calls ok))

pub returns-else-all_sound : goal.returns-else-all_sound
unfolding table_sound
returns-else-all_sound c =
    let eight : length c.args.calls ≡ 8 = search rules in
    rw (eq-eqb _ _ eight, every_is_all sound c.args.calls, ← c.all_sound.ensures, c.if-all_sound.false)
