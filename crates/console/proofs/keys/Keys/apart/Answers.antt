-- No key that is passed stands behind itself.
use Rattle.std.proofs.Common.{refl, arith, rules, sym, ◌∙◌, ◌+◌, ap, not, ◌&&◌, Bool, drop, drop_of_length-le}
use Rattle.console.specs.Keys.{apart_by}
use Rattle.console.proofs.Found.{apart_next}
use Rattle.console.proofs.keys.Keys.apart.Goals as goal

pub loop-k-init : goal.loop-k-init
loop-k-init c = (refl, search rules)

pub loop-k-preserved : goal.loop-k-preserved
loop-k-preserved c =
    let keys = c.args.self.each in
    let n = c.loop-k.invariant.1 in
    let next = apart_next keys c.loop-k.k (omega arith) (rw n c.contains.ensures.value) in
    (c.loop-k.invariant.0 ∙ next ∙ ap (λ (b : Bool). not b && apart_by (drop (c.loop-k.k + 1) keys)) c.if-contains.false, n)

pub returns-then-contains : goal.returns-then-contains
returns-then-contains c =
    let keys = c.args.self.each in
    let n = c.loop-k.invariant.1 in
    let next = apart_next keys c.loop-k.k (omega arith) (rw n c.contains.ensures.value) in
    sym (c.loop-k.invariant.0 ∙ next ∙ ap (λ (b : Bool). not b && apart_by (drop (c.loop-k.k + 1) keys)) c.if-contains.true)

pub returns : goal.returns
returns c =
    let keys = c.args.self.each in
    let n = c.loop-k.invariant.1 in
    sym (c.loop-k.invariant.0 ∙ ap apart_by (drop_of_length-le keys {i = c.loop-k.k} (omega arith)))
