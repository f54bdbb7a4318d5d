-- A turn hands out one timer more; after the last, nothing is still to come.
use Rattle.std.proofs.Common.{◌≡◌, suc, ◌+◌, ◌-◌, ◌<◌, ◌≤◌, [], ◌++◌, length, take, drop, sym, ap, ◌∙◌, append-nil, arith, length-set}
use lib.Seq.{take_all}
use Prim.Native.Nat.{ℕ}
use mathlib.Core.List.{List}
use Rattle.timers.specs.Due.{handed}
use Rattle.timers.proofs.Handing.{one_more}
use Rattle.timers.proofs.due.Pairs.hand_out.Goals as goal

pub loop-number-preserved : goal.loop-number-preserved
loop-number-preserved c =
    let i = c.loop-number.number-index in
    let items = c.loop-number.number-items in
    let n = c.args.count in
    let keys = c.args.self.keys in
    let room : i < length items = rw c.loop-number.auto.number-items c.loop-number-test.true in
    let rest : n - i ≡ suc (n - (i + 1)) = omega (arith, c.loop-number.invariant.0) in (
      rw length-set c.loop-number.invariant.0,
      rw (c.number_of.ensures, c.below-bound.ensures, one_more (n - (i + 1)) i c.loop-number.bound items keys room) (rw rest at c.loop-number.invariant.1),
    )

pub returns : goal.returns
unfolding handed
returns c =
    let i = c.loop-number.number-index in
    let items = c.loop-number.number-items in
    let n = c.args.count in
    let keys = c.args.self.keys in
    let all : length items ≤ i = rw c.loop-number.auto.number-items c.loop-number-test.false in
    let end : n - i ≡ 0 = omega (arith, c.loop-number.invariant.0) in
    let done : take i items ++ [] ≡ handed n 34359738368 keys = rw end at c.loop-number.invariant.1 in
    let shown : items ≡ handed n 34359738368 keys = sym (take_all i items all) ∙ sym (append-nil (take i items)) ∙ done in
    ap (λ (l : List ℕ). l ++ drop n c.args.due.now) shown
