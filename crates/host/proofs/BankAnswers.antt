-- What the bank's entries answer, from what their callees give.
use Prim.Native.Nat.{ℕ, ◌-◌, ◌≤◌}
use mathlib.Core.Path.{◌≡◌, refl, ◌∙◌}
use mathlib.Core.Bool.{Bool, true, false, cond}
use mathlib.Core.List.{List}
use native.Mathlib.Omega.{arith}
use borrow.Author.Tests.{eqb-true, eq-eqb}
use mathlib.Core.Bool.{and-true, and_assoc}
use Rattle.std.specs.List.{list_all}
use Rattle.host.proofs.Packing.{items_drop}
use Rattle.std.specs.Prelude.{Some, None, Result, Ok, Err}
use lib.Dec.{eqb, leb, ltb, lit≤}
use lib.ListN.{length, get_or, take, drop}
use Rattle.timers.specs.declared.bank.Bank.{Bank}
use Rattle.timers.specs.declared.bank.Advanced.{Advanced}
use Rattle.timers.specs.declared.bank.Refusal.{Refusal}
use Rattle.timers.specs.Wrap.{forward, is_back}
use Rattle.timers.specs.Due.{one_if, count_of}
use Rattle.timers.specs.Bank.{Outcome, keys_at, advanced, as_advanced}
use Rattle.host.specs.Bank.{is_bank, held_bank, unpacked_bank, BankLeft, left_by, on_bank}
use Rattle.demands.proofs.Facts.{left, right}
use Rattle.host.proofs.Tested.{some_by_test, none_by_test}

-- bytes that are no bank
pub no_bank : (s list : List ℕ) (call : Bank → Outcome) → None ≡ cond (is_bank s) (Some (held_bank s)) None
    → ◌≡◌ {A = BankLeft} (record { result = 16777216; bank = s; list = list }) (on_bank s list call)
unfolding on_bank unpacked_bank
no_bank s list call none = rw (none_by_test _ _ none)

-- 39 bytes are a bank where their flags are
pub of_flags : (s : List ℕ) → length s ≡ 39 → is_bank s ≡ list_all (λ flag. leb flag 1) (take (length s - 32) (drop 32 s))
unfolding is_bank
of_flags s e = rw (eq-eqb _ _ e, e, ← items_drop 7 32 s 0 e) (simp (and_assoc, and-true))

-- a bank has 39 bytes
pub bank_length : (s : List ℕ) {b : Bank} → Some b ≡ cond (is_bank s) (Some (held_bank s)) None → length s ≡ 39
unfolding is_bank
bank_length s {b} held =
    let all : is_bank s ≡ true = (some_by_test _ held).0 in
    let whole : eqb (length s) 39 ≡ true = search (left, right) depth 20 in
    eqb-true _ _ whole

-- what a call on the bank leaves
pub leaves : (s list : List ℕ) (call : Bank → Outcome) {b : Bank} → Some b ≡ cond (is_bank s) (Some (held_bank s)) None → {l : BankLeft}
    → l ≡ left_by s (call b) → l ≡ on_bank s list call
unfolding on_bank unpacked_bank
leaves s list call {b} held is =
    let t = some_by_test (is_bank s) held in
    is ∙ rw (t.0, t.1)

-- the count is the same whatever bank was asked and list lent
pub any_count : (b c : Bank) (r : Result Advanced Refusal) (l m : List ℕ) → (as_advanced b r l).count ≡ (as_advanced c r m).count
any_count b c (Ok a) l m = refl
any_count b c (Err e) l m = refl

-- at most seven are handed out
one_at_most : (key : ℕ) → one_if key ≤ 1
one_at_most key = by (eqb key 0)
  where
    by : (t : Bool) → cond t 0 1 ≤ 1
    by true = lit≤ tt
    by false = lit≤ tt

seven_at_most : (keys : List ℕ) → count_of keys ≤ 7
unfolding count_of
seven_at_most keys =
    omega (arith, one_at_most (get_or keys 0 0), one_at_most (get_or keys 1 0), one_at_most (get_or keys 2 0), one_at_most (get_or keys 3 0), one_at_most (get_or keys 4 0), one_at_most (get_or keys 5 0), one_at_most (get_or keys 6 0))

record Few (o : Outcome) : Type 0 where
  few : o.count ≤ 7

either : (t : Bool) {x y : Outcome} → Few x → Few y → Few (cond t x y)
either true h k = h
either false h k = k

few_handed : (b : Bank) (reading : ℕ) (list : List ℕ) → Few (advanced b reading list)
unfolding advanced
few_handed b reading list =
    either (is_back (forward b.last reading)) (record { few = lit≤ tt })
    (either (ltb (length list) (count_of (keys_at b reading))) (record { few = lit≤ tt }) (record { few = seven_at_most (keys_at b reading) }))

pub count_small : (b : Bank) (reading : ℕ) (list : List ℕ) {o : Outcome} → o ≡ advanced b reading list → o.count ≤ 7
count_small b reading list same = rw same (few_handed b reading list).few
