-- The claims of specs/WrongSteps.antt: none of the five steps that the paper names meets the promise of the step; on an input written out here each gives
-- something else.
use mathlib.Core.Path.{◌≡◌, refl, sym, ◌∙◌, ap}
use mathlib.Core.List.{[]}
use native.Mathlib.Omega.{arith}
use lib.ListN.{replicate}
use Rattle.callcontrol.specs.Call.{fresh_call}
use Rattle.callcontrol.specs.Step.{Outcome, step_of}
use Rattle.demands.specs.Examples.{setup_request}
use Rattle.demands.proofs.Computed.{computed}
use Rattle.demands.specs.WrongSteps.{Step, Promise, first_only, counts_more, PromiseMet, NotRefusesAll, NotSingleAnswer, NotWritesNothing, NotFirstOnly, NotCountsMore}

-- the first input: a SETUP request in IDLE, with 64 bytes lent
abbrev first : Step → Outcome
first f = f fresh_call setup_request (replicate 64 0)

-- the second: no byte at all, to the record that a SETUP request leaves
abbrev second : Step → Outcome
second f = f (first step_of).call [] []

-- what the step makes of them, and where two of the five differ
record Facts : Type 0 where
  -- taken, with U-SETUP and START 303
  answer : (first step_of).answer ≡ 0
  count : (first step_of).count ≡ 17
  more : (first counts_more).count ≡ 18
  -- refused: under 4 bytes
  short : (second step_of).answer ≡ 2
  zero : (second first_only).answer ≡ 0

facts : Facts
unfolding computed
facts = record { answer = refl; count = refl; more = refl; short = refl; zero = refl }

-- a step that meets the promise gives what the step gives
first_same : {f : Step} → Promise f → first f ≡ first step_of
first_same h = h fresh_call setup_request (replicate 64 0)

second_same : {f : Step} → Promise f → second f ≡ second step_of
second_same h = h (first step_of).call [] []

answers : {x y : Outcome} → x ≡ y → x.answer ≡ y.answer
answers e = ap (λ (o : Outcome). o.answer) e

counts : {x y : Outcome} → x ≡ y → x.count ≡ y.count
counts e = ap (λ (o : Outcome). o.count) e

pub kept : PromiseMet
kept c event buffer = refl

pub refuses_all : NotRefusesAll
refuses_all n h = let e = counts (first_same h) ∙ facts.count in omega arith

pub single_answer : NotSingleAnswer
single_answer n h =
    let e = answers (first_same h) ∙ facts.answer in
    let f = answers (second_same h) ∙ facts.short in
    omega arith

pub writes_nothing : NotWritesNothing
writes_nothing h = let e = counts (first_same h) ∙ facts.count in omega arith

pub first_only_lem : NotFirstOnly
first_only_lem h = let e = sym facts.zero ∙ answers (second_same h) ∙ facts.short in omega arith

pub counts_more_lem : NotCountsMore
counts_more_lem h = let e = sym facts.more ∙ counts (first_same h) ∙ facts.count in omega arith
