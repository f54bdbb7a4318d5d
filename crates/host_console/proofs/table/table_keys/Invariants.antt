-- Each part that is passed is a record and a sound one, and its key is stored; then the keys are told apart.
use Rattle.std.proofs.Common.{◌≡◌, true, length, drop}
use Rattle.callcontrol.specs.Call.{sound}
use Rattle.console.specs.Table.{every?}
use Rattle.console.proofs.ByKeys.{keys_first}
use Rattle.host_console.specs.Table.{held_table}
use Rattle.host_console.proofs.Tables.{first_are}
use Rattle.host_console.proofs.table.table_keys.Given as goal

abbrev pub invariant-loop-k : goal.invariant-loop-k
invariant-loop-k l = record {
  records : first_are l.k l.s ≡ true;
  sound_so_far : every? sound (held_table l.s) ≡ every? sound (drop l.k (held_table l.s));
  keys : l.each ≡ keys_first l.k (held_table l.s);
  size : length l.s ≡ 176;
}
