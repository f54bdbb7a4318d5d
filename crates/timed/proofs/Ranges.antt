-- What a START counts with: a table that is right has a length of 1 to 2^30 for each timer that a step starts.
use Prim.Native.Nat.{ℕ, zero, suc, ◌+◌, ◌-◌, ◌<◌, ◌≤◌}
use mathlib.Core.Path.{◌≡◌, refl, sym, ◌∙◌}
use mathlib.Core.Bool.{Bool, true, false, not, ◌&&◌, ◌||◌, and-true}
use mathlib.Core.List.{List}
use native.Mathlib.Omega.{arith}
use borrow.Author.Tests.{eqb-true, eqb-false, le-leb, leb-true, lt-ltb}
use lib.Dec.{eqb, leb, lit<, lit≤}
use native.Mathlib.Numerals.{add-one}
use lib.ListN.{length, get_or, take, drop, length-drop}
use lib.Seq.{drop-cons}
use Rattle.std.specs.List.{list_all}
use Rattle.std.proofs.lemmas.List.Folds.{list_all_more}
use Rattle.std.proofs.lemmas.List.{get_or-drop}
use Rattle.records.specs.declared.messages.Message.TheVariants.{Stop, Start}
use Rattle.records.specs.Letters.{is_timer, within}
use Rattle.records.specs.Bodies.{flat_fits, all_fit}
use Rattle.records.specs.Tables.{fine}
use Rattle.records.specs.Messages.{messages}
use Rattle.timers.specs.Bank.{in_range, entry_of, length_in, index_of}
use Rattle.timers.proofs.Tests.{decide}
use Rattle.demands.specs.Clocks as Clocks
use Rattle.demands.specs.Demands.{limits}
use Rattle.demands.proofs.Facts.{apart, left, right}
use Rattle.timed.specs.Set.{is_length, timers_right, limits_right, table_right}

-- ---- the seven timers

pick : {A : Type 0} (a b : Bool) → (a || b) ≡ true → (a ≡ true → A) → (b ≡ true → A) → A
pick true b h f g = f refl
pick false b h f g = g h

pub seven_timers : (P : ℕ → Type 0) → P 301 → P 302 → P 303 → P 306 → P 308 → P 310 → P 311 → (n : ℕ) → is_timer n ≡ true → P n
unfolding is_timer
seven_timers P p₁ p₂ p₃ p₆ p₈ p₁₀ p₁₁ n h =
    pick _ _ h
    (λ h. pick _ _ h
    (λ h. pick _ _ h
    (λ h. pick _ _ h
    (λ h. pick _ _ h
    (λ h. pick _ _ h (is 301 p₁) (is 302 p₂))
    (is 303 p₃))
    (is 306 p₆))
    (is 308 p₈))
    (is 310 p₁₀))
    (is 311 p₁₁)
  where
    is : (m : ℕ) → P m → eqb n m ≡ true → P n
    is m p e = rw (eqb-true n m e) p

-- the bank's index of a timer is the record's
pub timer_index : (n : ℕ) → is_timer n ≡ true → (index_of n < 7) × (Clocks.index_of n ≡ index_of n)
unfolding index_of Clocks.index_of
timer_index = seven_timers (λ n. (index_of n < 7) × (Clocks.index_of n ≡ index_of n)) (lit< tt, refl) (lit< tt, refl) (lit< tt, refl) (lit< tt, refl) (lit< tt, refl) (lit< tt, refl) (lit< tt, refl)

-- ---- the table

in_range_lem : (l : ℕ) → is_length l ≡ true → 1 ≤ in_range l
unfolding is_length
in_range_lem l h = rw (right (leb 1 l) _ h) (leb-true 1 l (left (leb 1 l) _ h))

-- the entries of a table from one on are lengths
abbrev all_from : List ℕ → ℕ → ℕ → Bool
all_from table s zero = is_length (get_or table s 0)
all_from table s (suc n) = all_from table s n && is_length (get_or table (s + suc n) 0)

in_all : (table : List ℕ) (s n : ℕ) → all_from table s n ≡ true → (i : ℕ) → i ≤ n → is_length (get_or table (s + i) 0) ≡ true
in_all table s zero h i k = let none : s + i ≡ s = omega arith in rw none h
in_all table s (suc n) h i k =
    decide (eqb i (suc n)) (λ q. rw (eqb-true i (suc n) q) (right (all_from table s n) _ h))
    (λ q. let less : i ≤ n = omega (arith, eqb-false i (suc n) q) in in_all table s n (left (all_from table s n) _ h) i less)

timers_are : (table : List ℕ) → timers_right table ≡ all_from table 0 5
unfolding timers_right
timers_are table = refl

limits_are : (table : List ℕ) → limits_right table ≡ all_from table 7 14
unfolding limits_right
limits_are table = refl

-- what the code tests: the first six entries, and the fifteen from entry 7 on
all_are : (table : List ℕ) (s n : ℕ) → s + suc n ≤ length table → list_all is_length (take (suc n) (drop s table)) ≡ all_from table s n
all_are table s zero h = rw (drop-cons table s 0 (omega arith), and-true)
all_are table s (suc n) h =
    let room : suc n < length (drop s table) = omega (arith, length-drop s table) in
    rw (← add-one (suc n), list_all_more is_length (drop s table) (suc n) 0 room, all_are table s n (omega arith), get_or-drop)

pub table_is : (table : List ℕ) → 22 ≤ length table
    → list_all is_length (take 6 table) && list_all is_length (take 15 (drop 7 table)) ≡ table_right table
unfolding table_right
table_is table h =
    rw (le-leb 22 (length table) h, all_are table 0 5 (omega arith), all_are table 7 14 (omega arith), ← timers_are table, ← limits_are table)

both_right : (table : List ℕ) → table_right table ≡ true → (timers_right table ≡ true) × (limits_right table ≡ true)
unfolding table_right
both_right table h =
    let both = right (leb 22 (length table)) (timers_right table && limits_right table) h in
    (left (timers_right table) (limits_right table) both, right (timers_right table) (limits_right table) both)

timer_length : (table : List ℕ) → table_right table ≡ true → (i : ℕ) → i ≤ 5 → 1 ≤ in_range (get_or table i 0)
timer_length table h i k =
    let same : 0 + i ≡ i = omega arith in
    in_range_lem (get_or table i 0) (rw same at (in_all table 0 5 (sym (timers_are table) ∙ (both_right table h).0) i k))

limit_length : (table : List ℕ) → table_right table ≡ true → (o : ℕ) → 1 ≤ o → o ≤ 15 → 1 ≤ in_range (get_or table (6 + o) 0)
limit_length table h o a b =
    let same : 7 + (o - 1) ≡ 6 + o = omega arith in
    in_range_lem (get_or table (6 + o) 0) (rw same at (in_all table 7 14 (sym (limits_are table) ∙ (both_right table h).1) (o - 1) (omega arith)))

pub long_enough : (table : List ℕ) → table_right table ≡ true → (n o : ℕ) → is_timer n ≡ true → o ≤ 15 → not (eqb n 310 && eqb o 0) ≡ true → 1 ≤ length_in table n o
unfolding length_in entry_of
long_enough table h n o timer most limit =
    let ten : not (eqb o 0) ≡ true → 1 ≤ length_in table 310 o =
    λ z.
    decide (eqb o 0) (λ q. apart (rw q at z) refl)
    (λ q.
    let some_code : 1 ≤ o = omega (arith, eqb-false o 0 q) in
    rw (lt-ltb (6 + o) 22 (omega arith)) (limit_length table h o some_code most)) in
    seven_timers (λ m. not (eqb m 310 && eqb o 0) ≡ true → 1 ≤ length_in table m o)
    (λ z. timer_length table h 0 (lit≤ tt)) (λ z. timer_length table h 1 (lit≤ tt)) (λ z. timer_length table h 2 (lit≤ tt)) (λ z. timer_length table h 3 (lit≤ tt))
    (λ z. timer_length table h 4 (lit≤ tt)) ten (λ z. timer_length table h 5 (lit≤ tt)) n timer limit

-- ---- the messages

pub stop_timer : (n : ℕ) → fine messages (Stop n) ≡ true → is_timer n ≡ true
unfolding fine flat_fits all_fit
stop_timer n h = left _ _ (left _ _ h)

pub start_timer : (n o : ℕ) → fine messages (Start n o) ≡ true → is_timer n ≡ true
unfolding fine flat_fits all_fit
start_timer n o h = left _ _ (left _ _ h)

start_code : (n o : ℕ) → fine messages (Start n o) ≡ true → o ≤ 15
unfolding fine flat_fits all_fit within
start_code n o h = leb-true o 15 (right (leb 0 o) (leb o 15) (left (leb 0 o && leb o 15) true (right (is_timer n) ((leb 0 o && leb o 15) && true) (left _ _ h))))

start_limit : (n o : ℕ) → limits (Start n o) ≡ true → not (eqb n 310 && eqb o 0) ≡ true
unfolding limits
start_limit n o h = h

pub start_long : (table : List ℕ) → table_right table ≡ true → (n o : ℕ) → fine messages (Start n o) ≡ true → limits (Start n o) ≡ true → 1 ≤ length_in table n o
start_long table r n o f l = long_enough table r n o (start_timer n o f) (start_code n o f) (start_limit n o l)
