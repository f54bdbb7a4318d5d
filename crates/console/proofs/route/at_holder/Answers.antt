-- By whether the identifier is held, and then by whether a place has none.
use Rattle.std.proofs.Common.{◌≡◌, rules, Some, None, ℕ, position, eqb}
use Rattle.console.specs.Keys.{at_holder_by}
use Rattle.console.proofs.Found.{at_either, at_neither}
use Rattle.console.proofs.route.at_holder.Goals as goal

pub returns-in-Some : goal.returns-in-Some
unfolding at_holder_by
returns-in-Some c =
    let keys = c.args.keys.each in
    let by : c.or_else.result ≡ elim c.held_by.result [ None ↦ position (λ (n : ℕ). eqb n 0) keys | Some k ↦ Some k ] = search rules in
    at_either keys (search rules) _ _ _ c.held_by.result c.held_by.ensures by _ c.in-Some.is

pub returns-in-None : goal.returns-in-None
unfolding at_holder_by
returns-in-None c =
    let keys = c.args.keys.each in
    let by : c.or_else.result ≡ elim c.held_by.result [ None ↦ position (λ (n : ℕ). eqb n 0) keys | Some k ↦ Some k ] = search rules in
    at_neither keys (search rules) _ _ _ c.held_by.result c.held_by.ensures by c.in-None.is
