-- What std's iterators find is what the definitions find: the lowest key, and whether every record is sound; and how a place that is found is a route.
use Rattle.std.proofs.Common.{◌≡◌, ◌<◌, refl, sym, ◌∙◌, ap, arith, ℕ, ◌+◌, Bool, true, false, cond, not, ◌&&◌, ◌||◌, List, [], ◌∷◌, length, length-drop, ◌-◌, drop, get_or, take, eqb, ltb, Option, Some, None, is_some, add-one, one-add, position, drop-cons}
use Rattle.std.specs.List.{position_or_len, list_any, list_all}
use Rattle.std.proofs.lemmas.Bool.Decides.{nat_tests}
use Rattle.std.proofs.lemmas.List.Recursion.{is_position_or_len}
use Rattle.std.proofs.Math.Seq.{take_all}
use Rattle.callcontrol.specs.declared.call.Call.{Call}
use Rattle.console.specs.Table.{every?}
use Rattle.console.specs.Route.{Route, or_else}
use Rattle.console.specs.Keys.{lowest_key, some_key, apart_by}

-- ---- what an iterator finds

lowest_is : (p : ℕ → Bool) (keys : List ℕ) → lowest_key p keys ≡ position_or_len p keys
lowest_is p keys = is_position_or_len (lowest_key p) p refl (λ x xs. ap (λ (n : ℕ). cond (p x) 0 n) (sym (one-add (lowest_key p xs)))) keys

pub every_is_all : (p : Call → Bool) (calls : List Call) → every? p calls ≡ list_all p calls
every_is_all p [] = refl
every_is_all p (c ∷ calls) = ap (λ (b : Bool). p c && b) (every_is_all p calls)

eqb_turned : (m n : ℕ) → eqb m n ≡ eqb n m
eqb_turned m n = grind (arith, nat_tests)

some_is_any : (m : ℕ) (keys : List ℕ) → some_key m keys ≡ list_any (λ n. eqb n m) keys
some_is_any m [] = refl
some_is_any m (n ∷ keys) = λ i. eqb_turned m n i || some_is_any m keys i

-- whether the first k keys are told apart, each from those behind it
module _ (keys : List ℕ) (k : ℕ) (lt : k < length keys) where
  apart_at : apart_by (drop k keys) ≡ (not (some_key (get_or keys k 0) (drop (k + 1) keys)) && apart_by (drop (k + 1) keys))
  apart_at = rw (add-one, drop-cons keys k 0)

  pub apart_next : {b : Bool} → b ≡ list_any (λ n. eqb n (get_or keys k 0)) (take (length keys - (k + 1)) (drop (k + 1) keys))
      → apart_by (drop k keys) ≡ (not b && apart_by (drop (k + 1) keys))
  apart_next is =
      let whole : take (length keys - (k + 1)) (drop (k + 1) keys) ≡ drop (k + 1) keys = take_all (length keys - (k + 1)) (drop (k + 1) keys) (omega (arith, length-drop (k + 1) keys)) in
      rw (apart_at, is, whole, some_is_any (get_or keys k 0) (drop (k + 1) keys))

-- ---- a place that was found is a route, and else it is what is said of it

module _ (p : ℕ → Bool) (keys : List ℕ) (eight : length keys ≡ 8) where
  found_is : position p keys ≡ cond (ltb (lowest_key p keys) 8) (Some (lowest_key p keys)) None
  found_is = rw (eight, sym (lowest_is p keys))

  at_by : {r : Option ℕ} → (b : Bool) (n : ℕ) (other : Route) → r ≡ cond b (Some n) None → (k : ℕ) → r ≡ Some k → Route.To k ≡ cond b (Route.To n) other
  at_by true n other is k some = cc
  at_by false n other is k some = cc

  other_by : {r : Option ℕ} → (b : Bool) (n : ℕ) (other : Route) → r ≡ cond b (Some n) None → r ≡ None → other ≡ cond b (Route.To n) other
  other_by true n other is none = cc
  other_by false n other is none = refl

  there_by : {r : Option ℕ} → (b : Bool) (n : ℕ) → r ≡ cond b (Some n) None → is_some r ≡ b
  there_by true n is = rw is
  there_by false n is = rw is

  pub at_found : {r : Option ℕ} (other : Route) → r ≡ position p keys → (k : ℕ) → r ≡ Some k → Route.To k ≡ or_else (lowest_key p keys) other
  at_found other is = at_by (ltb (lowest_key p keys) 8) (lowest_key p keys) other (is ∙ found_is)

  pub at_other : {r : Option ℕ} (other : Route) → r ≡ position p keys → r ≡ None → other ≡ or_else (lowest_key p keys) other
  at_other other is = other_by (ltb (lowest_key p keys) 8) (lowest_key p keys) other (is ∙ found_is)

  pub there : {r : Option ℕ} {b : Bool} → r ≡ position p keys → b ≡ is_some r → ltb (lowest_key p keys) 8 ≡ b
  there is same = sym (same ∙ there_by (ltb (lowest_key p keys) 8) (lowest_key p keys) (is ∙ found_is))

-- a place by one test of the keys, and else by another
module _ (keys : List ℕ) (eight : length keys ≡ 8) (p q : ℕ → Bool) (other : Route) where
  abbrev pub or_by : Option ℕ → Option ℕ
  or_by None = position q keys
  or_by (Some k) = Some k

  pub at_either : (r : Option ℕ) {s : Option ℕ} → r ≡ position p keys → s ≡ or_by r → (k : ℕ) → s ≡ Some k
      → Route.To k ≡ or_else (lowest_key p keys) (or_else (lowest_key q keys) other)
  at_either None is by k some = at_found q keys eight other by k some ∙ at_other p keys eight (or_else (lowest_key q keys) other) is refl
  at_either (Some j) is by k some = at_found p keys eight (or_else (lowest_key q keys) other) is k (sym by ∙ some)

  pub at_neither : (r : Option ℕ) {s : Option ℕ} → r ≡ position p keys → s ≡ or_by r → s ≡ None → other ≡ or_else (lowest_key p keys) (or_else (lowest_key q keys) other)
  at_neither None is by none = at_other q keys eight other by none ∙ at_other p keys eight (or_else (lowest_key q keys) other) is refl
  at_neither (Some j) is by none = cc
