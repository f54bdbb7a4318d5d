-- Each place takes its turn: `put_more`; behind the last all have (`put_all`).
use Prim.Native.Nat.{◌+◌}
use mathlib.Core.Path.{sym, subst}
use mathlib.Core.List.{List}
use native.Mathlib.Omega.{arith}
use borrow.Author.Rules.{rules}
use Rattle.callcontrol.specs.declared.call.Call.{Call}
use Rattle.console.proofs.Everywhere.{Putting, put_none, put_more, put_all, as_many, room_more}
use Rattle.console.proofs.lent.put_all.Goals as goal

pub loop-k-init : goal.loop-k-init
loop-k-init c = put_none (search rules) c.requires.1

pub step_at-passed-requires : goal.step_at-passed-requires
step_at-passed-requires c =
    let p = c.loop-k.invariant in
    let eight = as_many p in
    (omega arith, c.requires.0, omega arith, room_more p (omega arith))

pub loop-k-preserved : goal.loop-k-preserved
loop-k-preserved c =
    let p = c.loop-k.invariant in
    let e = c.step_at-passed.ensures in
    subst
    (λ (z : List Call). Putting c.args.event c.args.own.now c.args.calls.now c.step_at-passed.new.own z c.step_at-passed.result (c.loop-k.k + 1))
    (sym e.0) (put_more p (omega arith) e.1)

pub returns : goal.returns
returns c =
    let p = c.loop-k.invariant in
    let eight = p.eight in
    put_all p (omega arith)
