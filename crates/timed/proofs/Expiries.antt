-- The first timer due is one of the seven, and its expiry reads as itself.
use Prim.Native.Nat.{ℕ, zero, suc, ◌+◌, ◌*◌, ◌-◌, ◌%◌, ◌<◌}
use mathlib.Core.Path.{◌≡◌, refl, sym, subst}
use mathlib.Core.Bool.{Bool, true, false}
use mathlib.Core.List.{List, [], ◌∷◌}
use native.Mathlib.Omega.{arith}
use lib.Dec.{eqb, ltb, lit<}
use lib.ListN.{get_or}
use borrow.Author.Tests.{lt-ltb, eqb-false}
use Rattle.records.specs.declared.events.Event.{Event}
use Rattle.records.specs.Letters.{is_timer}
use Rattle.records.specs.Bytes.{bytes}
use Rattle.records.specs.Bodies.{body_bytes, flat_bytes, flat_size, flat_fits, all_fit}
use Rattle.records.specs.Tables.{taken, read, fine}
use Rattle.records.specs.Events.{events}
use Rattle.records.proofs.RoundTrip.{event_written_reads_back}
use Rattle.timers.specs.declared.bank.Bank.{Bank}
use Rattle.timers.specs.Wrap.{forward, is_back}
use Rattle.timers.specs.Due.{numbers, key_of, keys_of, one_if, count_of, under, greater, below, number_of, handed}
use Rattle.timers.specs.Bank.{index_of, keys_at, handed_at}
use Rattle.timers.proofs.Tests.{decide, by_test, All}
use Rattle.timers.proofs.Indices.{by_index, by_number_lem}
use Rattle.timers.proofs.Keys.{most, total, greater_is, below_is}
use Rattle.timed.specs.Entries.{expiry_of}

-- ---- the expiry

pub expiry_reads : (n : ℕ) → index_of n < 7 → read events (expiry_of n) ≡ taken (Event.Expiry n)
unfolding bytes body_bytes flat_bytes flat_size flat_fits all_fit fine is_timer
expiry_reads =
    by_number_lem (λ n. index_of n < 7 → read events (expiry_of n) ≡ taken (Event.Expiry n))
    (λ h. event_written_reads_back (Event.Expiry 301) refl)
    (λ h. event_written_reads_back (Event.Expiry 302) refl)
    (λ h. event_written_reads_back (Event.Expiry 303) refl)
    (λ h. event_written_reads_back (Event.Expiry 306) refl)
    (λ h. event_written_reads_back (Event.Expiry 308) refl)
    (λ h. event_written_reads_back (Event.Expiry 310) refl)
    (λ h. event_written_reads_back (Event.Expiry 311) refl)
    (λ n e h. absurd (omega arith))

-- ---- the first timer due

-- a key is below the bound, and one above 0 tells an index
abbrev Key : ℕ → Type 0
Key k = (k < 34359738368) × (0 < k → 0 < k % 8)

key_is : (index : ℕ) (running : Bool) (deadline reading : ℕ) → index < 7 → Key (key_of index running deadline reading)
unfolding key_of forward
key_is index false deadline reading h = (omega arith, λ z. absurd (omega arith))
key_is index true deadline reading h =
    by_test (is_back (forward deadline reading)) 0 (forward deadline reading * 8 + (7 - index)) Key
    (λ q. (omega arith, λ z. absurd (omega arith)))
    (λ q. (omega arith, λ z. omega arith))

greatest_key : (xs : List ℕ) → All Key xs → 0 < most 34359738368 xs → 0 < most 34359738368 xs % 8
unfolding greater under
greatest_key [] a = λ h. absurd (omega arith)
greatest_key (x ∷ xs) a =
    rw (lt-ltb x 34359738368 a.0.0)
    (by_test (ltb x (most 34359738368 xs)) (most 34359738368 xs) x (λ k. 0 < k → 0 < k % 8) (λ q. greatest_key xs a.1) (λ q. a.0.1))

some_key : (xs : List ℕ) → All Key xs → 0 < total one_if xs → 0 < most 34359738368 xs
unfolding under
some_key [] a h = absurd (omega arith)
some_key (x ∷ xs) a h =
    rw (greater_is, lt-ltb x 34359738368 a.0.0)
    (decide (eqb x 0) (λ q. let rest : 0 < 0 + total one_if xs = rw q at h in let more = some_key xs a.1 (omega arith) in omega arith) (λ q. let above = eqb-false x 0 q in omega arith))

-- a key above 0 is a timer's
its_timer : (k : ℕ) → 0 < k % 8 → index_of (number_of k) < 7
unfolding number_of index_of
its_timer k h =
    by_index (λ p. index_of (get_or numbers p 0) < 7) (lit< tt) (lit< tt) (lit< tt) (lit< tt) (lit< tt) (lit< tt) (lit< tt) (7 - k % 8) (omega arith)

first_handed : (n bound : ℕ) (keys : List ℕ) → (n ≡ 0 → ⊥) → get_or (handed n bound keys) 0 0 ≡ number_of (below bound keys)
unfolding handed
first_handed zero bound keys h = absurd (h refl)
first_handed (suc n) bound keys h = refl

above_none : (n : ℕ) → (n ≡ 0 → ⊥) → 0 < n
above_none zero h = absurd (h refl)
above_none (suc n) h = omega arith

counted : (k0 k1 k2 k3 k4 k5 k6 : ℕ) → (count_of (k0 ∷ k1 ∷ k2 ∷ k3 ∷ k4 ∷ k5 ∷ k6 ∷ []) ≡ 0 → ⊥) → 0 < total one_if (k0 ∷ k1 ∷ k2 ∷ k3 ∷ k4 ∷ k5 ∷ k6 ∷ [])
unfolding count_of
counted k0 k1 k2 k3 k4 k5 k6 h =
    let some : 0 < one_if k0 + one_if k1 + one_if k2 + one_if k3 + one_if k4 + one_if k5 + one_if k6 = above_none _ h in omega arith

-- of seven keys the first handed out is a timer's
of_seven : (k0 k1 k2 k3 k4 k5 k6 : ℕ) → All Key (k0 ∷ k1 ∷ k2 ∷ k3 ∷ k4 ∷ k5 ∷ k6 ∷ []) → (count_of (k0 ∷ k1 ∷ k2 ∷ k3 ∷ k4 ∷ k5 ∷ k6 ∷ []) ≡ 0 → ⊥)
    → index_of (get_or (handed (count_of (k0 ∷ k1 ∷ k2 ∷ k3 ∷ k4 ∷ k5 ∷ k6 ∷ [])) 34359738368 (k0 ∷ k1 ∷ k2 ∷ k3 ∷ k4 ∷ k5 ∷ k6 ∷ [])) 0 0) < 7
of_seven k0 k1 k2 k3 k4 k5 k6 all some =
    let more : 0 < most 34359738368 (k0 ∷ k1 ∷ k2 ∷ k3 ∷ k4 ∷ k5 ∷ k6 ∷ []) = some_key (k0 ∷ k1 ∷ k2 ∷ k3 ∷ k4 ∷ k5 ∷ k6 ∷ []) all (counted k0 k1 k2 k3 k4 k5 k6 some) in
    let key : 0 < most 34359738368 (k0 ∷ k1 ∷ k2 ∷ k3 ∷ k4 ∷ k5 ∷ k6 ∷ []) % 8 = greatest_key (k0 ∷ k1 ∷ k2 ∷ k3 ∷ k4 ∷ k5 ∷ k6 ∷ []) all more in
    let same : below 34359738368 (k0 ∷ k1 ∷ k2 ∷ k3 ∷ k4 ∷ k5 ∷ k6 ∷ []) ≡ most 34359738368 (k0 ∷ k1 ∷ k2 ∷ k3 ∷ k4 ∷ k5 ∷ k6 ∷ []) = below_is 34359738368 k0 k1 k2 k3 k4 k5 k6 in
    let timer : index_of (number_of (below 34359738368 (k0 ∷ k1 ∷ k2 ∷ k3 ∷ k4 ∷ k5 ∷ k6 ∷ []))) < 7
    = its_timer (below 34359738368 (k0 ∷ k1 ∷ k2 ∷ k3 ∷ k4 ∷ k5 ∷ k6 ∷ [])) (subst (λ (k : ℕ). 0 < k % 8) (sym same) key) in
    subst (λ (n : ℕ). index_of n < 7)
    (sym (first_handed (count_of (k0 ∷ k1 ∷ k2 ∷ k3 ∷ k4 ∷ k5 ∷ k6 ∷ [])) 34359738368 (k0 ∷ k1 ∷ k2 ∷ k3 ∷ k4 ∷ k5 ∷ k6 ∷ []) some)) timer

key_at : (b : Bank) (reading index : ℕ) → index < 7 → Key (key_of index (get_or b.running index false) (get_or b.deadlines index 0) reading)
key_at b reading index h = key_is index (get_or b.running index false) (get_or b.deadlines index 0) reading h

pub first_is_timer : (b : Bank) (reading : ℕ) → (count_of (keys_at b reading) ≡ 0 → ⊥) → index_of (get_or (handed_at b reading) 0 0) < 7
unfolding handed_at keys_at keys_of
first_is_timer b reading some =
    of_seven
    (key_of 0 (get_or b.running 0 false) (get_or b.deadlines 0 0) reading)
    (key_of 1 (get_or b.running 1 false) (get_or b.deadlines 1 0) reading)
    (key_of 2 (get_or b.running 2 false) (get_or b.deadlines 2 0) reading)
    (key_of 3 (get_or b.running 3 false) (get_or b.deadlines 3 0) reading)
    (key_of 4 (get_or b.running 4 false) (get_or b.deadlines 4 0) reading)
    (key_of 5 (get_or b.running 5 false) (get_or b.deadlines 5 0) reading)
    (key_of 6 (get_or b.running 6 false) (get_or b.deadlines 6 0) reading)
    (key_at b reading 0 (lit< tt), (key_at b reading 1 (lit< tt), (key_at b reading 2 (lit< tt), (key_at b reading 3 (lit< tt), (key_at b reading 4 (lit< tt), (key_at b reading 5 (lit< tt), (key_at b reading 6 (lit< tt), tt)))))))
    some
