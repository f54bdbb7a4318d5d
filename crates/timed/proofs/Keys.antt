-- The timer that due finds first runs in the record, by the bank's own keys: whatever the readings were.
use Prim.Native.Nat.{ℕ, zero, suc, ◌+◌, ◌*◌, ◌-◌, ◌%◌, ◌<◌}
use mathlib.Core.Path.{◌≡◌, refl, ◌∙◌}
use mathlib.Core.Bool.{Bool, true, false}
use mathlib.Core.List.{List}
use native.Mathlib.Omega.{arith}
use lib.Dec.{lit<}
use lib.ListN.{get_or}
use Rattle.timers.specs.declared.bank.Bank.{Bank}
use Rattle.timers.specs.Wrap.{forward, is_back}
use Rattle.timers.specs.Due.{numbers, key_of, keys_of, count_of, below, number_of, handed}
use Rattle.timers.specs.Bank.{keys_at, handed_at}
use Rattle.timers.proofs.Tests.{by_test}
use Rattle.timed.proofs.Ledger.{Greatest, greatest}

record Running (b : Bank) (reading y : ℕ) : Type 0 where
  index : ℕ
  one_of_seven : index < 7
  runs : get_or b.running index false ≡ true
  late : ℕ
  is : y ≡ late * 8 + (7 - index)

forward_small : (a b : ℕ) → forward a b < 4294967296
unfolding forward
forward_small a b = omega arith

key_small : (p : ℕ) (r : Bool) (d reading : ℕ) → key_of p r d reading < 34359738368
unfolding key_of
key_small p true d reading =
    by_test (is_back (forward d reading)) 0 (forward d reading * 8 + (7 - p)) (λ y. y < 34359738368) (λ q. lit< tt) (λ q. omega (arith, forward_small d reading))
key_small p false d reading = lit< tt

is_running : (b : Bank) (reading p : ℕ) → p < 7 → (r : Bool) → get_or b.running p false ≡ r → (d : ℕ) → 0 < key_of p r d reading → Running b reading (key_of p r d reading)
unfolding key_of
is_running b reading p k true e d =
    by_test (is_back (forward d reading)) 0 (forward d reading * 8 + (7 - p)) (λ y. 0 < y → Running b reading y) (λ q h. absurd (omega arith))
    (λ q h. record { index = p; one_of_seven = k; runs = e; late = forward d reading; is = refl })
is_running b reading p k false e d = λ h. absurd (omega arith)

module _ (b : Bank) (reading : ℕ) where
  key : ℕ → ℕ
  key p = key_of p (get_or b.running p false) (get_or b.deadlines p 0) reading

  small_at : (p : ℕ) → key p < 34359738368
  unfolding key
  small_at p = key_small p (get_or b.running p false) (get_or b.deadlines p 0) reading

  running_at : (p : ℕ) → p < 7 → 0 < key p → Running b reading (key p)
  unfolding key
  running_at p k = is_running b reading p k (get_or b.running p false) refl (get_or b.deadlines p 0)

  most_due : (count_of (keys_at b reading) ≡ 0 → ⊥) → Greatest (Running b reading) (keys_at b reading)
  unfolding keys_at keys_of key
  most_due =
      greatest (Running b reading) (key 0) (key 1) (key 2) (key 3) (key 4) (key 5) (key 6)
      (small_at 0, (small_at 1, (small_at 2, (small_at 3, (small_at 4, (small_at 5, (small_at 6, tt)))))))
      (running_at 0 (lit< tt), (running_at 1 (lit< tt), (running_at 2 (lit< tt), (running_at 3 (lit< tt), (running_at 4 (lit< tt), (running_at 5 (lit< tt), (running_at 6 (lit< tt), tt)))))))

pub head_handed : (n bound : ℕ) (keys : List ℕ) → (n ≡ 0 → ⊥) → get_or (handed n bound keys) 0 0 ≡ number_of (below bound keys)
unfolding handed
head_handed zero bound keys h = absurd (h refl)
head_handed (suc n) bound keys h = refl

-- the first of those due runs by the bank
pub first_runs : (b : Bank) (reading : ℕ) → (count_of (keys_at b reading) ≡ 0 → ⊥)
    → (p : ℕ) × ((p < 7) × (get_or (handed_at b reading) 0 0 ≡ get_or numbers p 0) × (get_or b.running p false ≡ true))
unfolding handed_at number_of
first_runs b reading some =
    let k = (most_due b reading some).one in
    let y = below 34359738368 (keys_at b reading) in
    let at : 7 - y % 8 ≡ k.index = omega (arith, k.is, k.one_of_seven) in
    (k.index, (k.one_of_seven, head_handed (count_of (keys_at b reading)) 34359738368 (keys_at b reading) some ∙ rw at, k.runs))
