-- None, or the orders one after the other.
use Rattle.std.proofs.Common.{arith}
use mathlib.Core.Path.{◌∙◌, refl, sym}
use Rattle.callcontrol.specs.Writing.{starting}
use Rattle.callcontrol.proofs.Laying.{lay_none, no_orders, no_flags, laid_further, laid_all}
use Rattle.callcontrol.proofs.writing.lay_starts.Goals as goal

pub returns-then-not-any_of : goal.returns-then-not-any_of
returns-then-not-any_of c = lay_none (no_orders (starting c.args.code) _ (no_flags _ (sym c.any_of.ensures ∙ c.if-not-any_of.true)))

pub loop-k-init : goal.loop-k-init
loop-k-init c = lay_none refl

pub loop-k-preserved : goal.loop-k-preserved
unfolding starting
loop-k-preserved c =
    laid_further (starting c.args.code) _ c.args.flags c.loop-k.invariant (rw c.code_for.ensures at c.lay_start_if-at.ensures)

pub returns : goal.returns
returns c = laid_all (starting c.args.code) c.loop-k.k c.args.flags (omega arith) c.loop-k.invariant
