-- A record that is there whole has the length that its first two bytes say.
use Prim.Native.Nat.{ℕ, ◌+◌, ◌*◌}
use mathlib.Core.Path.{◌≡◌}
use mathlib.Core.List.{List}
use native.Mathlib.Omega.{arith}
use borrow.Author.Tests.{le-ltb}
use lib.ListN.{get_or}
use Rattle.records.specs.Bytes.{number}
use Rattle.calltrace.specs.Block.{ahead_in}
use Rattle.calltrace.proofs.block.record_ahead.Goals as goal

two_bytes : (s : List ℕ) → number 2 s 0 ≡ get_or s 0 0 + 256 * get_or s 1 0
unfolding number
two_bytes s = omega arith

pub returns-clause-value : goal.returns-clause-value
unfolding ahead_in
returns-clause-value c =
    let size : number 2 c.args.s.now 0 ≡ c.from_le_bytes-size.result = omega (arith, two_bytes c.args.s.now, c.from_le_bytes-size.ensures) in
    rw (le-ltb _ _ c.in-len2-up.len_at_least, size, le-ltb _ _ c.if-size-lt4.false, le-ltb _ _ c.if-s-size.false)

pub returns-clause-ahead_fits : goal.returns-clause-ahead_fits
returns-clause-ahead_fits c = (c.if-size-lt4.false, c.if-s-size.false)
