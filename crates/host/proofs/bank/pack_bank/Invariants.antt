-- The bytes so far: the last reading, the deadlines and the flags, one after the other.
use Prim.Native.Nat.{◌+◌, ◌*◌}
use mathlib.Core.Path.{◌≡◌}
use mathlib.Core.List.{◌++◌}
use lib.ListN.{length, take}
use lib.Seq.{sets}
use Rattle.records.specs.Bytes.{bytes}
use Rattle.host.proofs.BankBytes.{longs, marks}
use Rattle.host.proofs.bank.pack_bank.Given as goal

abbrev pub invariant-loop-deadline : goal.invariant-loop-deadline
invariant-loop-deadline l =
    (length l.s ≡ 39) × (l.at ≡ 4 + 4 * l.deadline-index)
    × (l.s ≡ sets l.fn.s 0 (bytes 4 l.bank.last ++ longs (take l.deadline-index l.bank.deadlines)))

abbrev pub invariant-loop-runs : goal.invariant-loop-runs
invariant-loop-runs l =
    (length l.s ≡ 39) × (l.at ≡ 32 + l.runs-index)
    × (l.s ≡ sets l.fn.s 0 (bytes 4 l.fn.bank.last ++ (longs l.fn.bank.deadlines ++ marks (take l.runs-index l.runs-items))))
