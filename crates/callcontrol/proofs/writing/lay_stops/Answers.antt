-- None, or the orders one after the other.
use Rattle.std.proofs.Common.{arith}
use mathlib.Core.Path.{◌∙◌, refl, sym}
use Rattle.records.specs.declared.messages.Message.{Message}
use Rattle.callcontrol.proofs.Laying.{lay_none, no_orders, laid_further, laid_all}
use Rattle.callcontrol.proofs.writing.lay_stops.Goals as goal

pub returns-then-count_of-eq0 : goal.returns-then-count_of-eq0
returns-then-count_of-eq0 c = lay_none (no_orders Message.Stop _ (sym c.count_of.ensures.value ∙ c.if-count_of-eq0.true))

pub loop-k-init : goal.loop-k-init
loop-k-init c = lay_none refl

pub loop-k-preserved : goal.loop-k-preserved
loop-k-preserved c = laid_further Message.Stop _ c.args.flags c.loop-k.invariant c.lay_stop_if-at.ensures

pub returns : goal.returns
returns c = laid_all Message.Stop c.loop-k.k c.args.flags (omega arith) c.loop-k.invariant
