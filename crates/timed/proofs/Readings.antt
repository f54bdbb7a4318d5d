-- What the bank's answer to a reading says of a set: 32, or the number of timers due and the first of them.
use Prim.Native.Nat.{ℕ, zero, suc, ◌≤◌}
use mathlib.Core.Path.{◌≡◌, refl, ◌∙◌, ap}
use mathlib.Core.Bool.{true, false, cond}
use mathlib.Core.List.{List, [], ◌∷◌, ◌++◌}
use native.Mathlib.Omega.{arith}
use lib.Dec.{eqb}
use lib.ListN.{length, get_or, take, drop, length-append}
use borrow.Author.Tests.{le-ltb, ne_eqb}
use Rattle.std.specs.Prelude.{Ok, Some, None}
use Rattle.std.specs.List.{slice_get}
use Rattle.timers.specs.declared.bank.Refusal.{Refusal}
use Rattle.timers.specs.declared.bank.Bank.{Bank}
use Rattle.timers.specs.declared.bank.Advanced.{Advanced}
use Rattle.timers.specs.Wrap.{forward, is_back}
use Rattle.timers.specs.Due.{one_if, count_of, below, handed}
use Rattle.timers.specs.Bank.{Outcome, refusal, answer_number, keys_at, advanced_to, handed_at, advanced, as_advanced}
use Rattle.timers.proofs.Tests.{decide}
use Rattle.timed.specs.declared.set.Timed.{Timed}
use Rattle.timed.specs.Parts.{first_at}

one_most : (k : ℕ) → one_if k ≤ 1
one_most k = decide (eqb k 0) (λ q. rw q (omega arith)) (λ q. rw q (omega arith))

-- at most seven are due
count_most : (keys : List ℕ) → count_of keys ≤ 7
unfolding count_of
count_most keys =
    omega (arith, one_most (get_or keys 0 0), one_most (get_or keys 1 0), one_most (get_or keys 2 0), one_most (get_or keys 3 0), one_most (get_or keys 4 0), one_most (get_or keys 5 0), one_most (get_or keys 6 0))

-- every refusal has a number above 0
above_0 : (e : Refusal) → answer_number e ≡ 0 → ⊥
above_0 Refusal.TimerUnknown z = omega arith
above_0 Refusal.LengthOutOfRange z = omega arith
above_0 Refusal.ReadingEarlier z = omega arith
above_0 Refusal.ListShort z = omega arith

-- with a list of seven a reading is refused with 32 or accepted
module _ (b : Bank) (reading : ℕ) (seven : List ℕ) (room : length seven ≡ 7) where
  accepts : is_back (forward b.last reading) ≡ false
      → advanced b reading seven
      ≡ (record { answer = 0; bank = advanced_to b reading; count = count_of (keys_at b reading); list = handed_at b reading ++ drop (count_of (keys_at b reading)) seven })
  unfolding advanced
  accepts ahead =
      let fits : count_of (keys_at b reading) ≤ length seven = omega (arith, count_most (keys_at b reading), room) in
      rw (ahead, le-ltb (length seven) (count_of (keys_at b reading)) fits)

  refuses : is_back (forward b.last reading) ≡ true → (advanced b reading seven).answer ≡ 32
  unfolding advanced
  refuses back = rw back

  pub earlier : (e : Refusal) (list : List ℕ) → refusal (answer_number e) b list ≡ advanced b reading seven → is_back (forward b.last reading) ≡ true
  earlier e list is =
      decide (is_back (forward b.last reading)) (λ q. q)
      (λ q. let none : answer_number e ≡ 0 = ap (λ (o : Outcome). o.answer) (is ∙ accepts q) in absurd (above_0 e none))

  pub not_earlier : (r : Advanced) (list : List ℕ) → as_advanced b (Ok r) list ≡ advanced b reading seven → is_back (forward b.last reading) ≡ false
  not_earlier r list is =
      decide (is_back (forward b.last reading))
      (λ q. let refused : ◌≡◌ {A = ℕ} 0 32 = ap (λ (o : Outcome). o.answer) is ∙ refuses q in absurd (omega arith))
      (λ q. q)

-- as many are handed out as are due
handed_long : (n bound : ℕ) (keys : List ℕ) → length (handed n bound keys) ≡ n
unfolding handed
handed_long zero bound keys = refl
handed_long (suc n) bound keys = ap suc (handed_long n (below bound keys) keys)

-- the first that is handed out, where one is
first_of : (n : ℕ) (list seven : List ℕ) → length list ≡ n → slice_get (take n (list ++ drop n seven)) 0 ≡ cond (eqb n 0) None (Some (get_or list 0 0))
first_of zero [] seven h = refl
first_of zero (x ∷ xs) seven h = absurd (omega (arith, h))
first_of (suc n) [] seven h = absurd (omega (arith, h))
first_of (suc n) (x ∷ xs) seven h = rw (ne_eqb (suc n) 0 (λ z. omega (arith, z)))

-- an accepted reading: how many are due, and the set and the first of them then
pub ready_is : (t : Timed) (reading : ℕ) (seven : List ℕ) → length seven ≡ 7 → (r : Advanced) (list : List ℕ) → as_advanced t.bank (Ok r) list ≡ advanced t.bank reading seven
    → (slice_get (take r.count list) 0 ≡ first_at t reading) × (r.bank ≡ advanced_to t.bank reading) × (r.count ≤ length list)
unfolding first_at handed_at
ready_is t reading seven room r list is =
    let whole = is ∙ accepts t.bank reading seven room (not_earlier t.bank reading seven room r list is) in
    let count : r.count ≡ count_of (keys_at t.bank reading) = ap (λ (o : Outcome). o.count) whole in
    let listed = ap (λ (o : Outcome). o.list) whole in
    let long = handed_long (count_of (keys_at t.bank reading)) 34359738368 (keys_at t.bank reading) in (
      rw (count, listed) (first_of (count_of (keys_at t.bank reading)) _ seven long),
      ap (λ (o : Outcome). o.bank) whole,
      rw (count, listed, length-append) (omega (arith, long)),
    )
