-- What is packed is unpacked as the same bank, and what is unpacked is packed as the same bytes.
use Prim.Native.Nat.{ℕ, ◌+◌, ◌*◌, ◌/◌, ◌%◌, ◌<◌, ◌^◌}
use mathlib.Core.Path.{◌≡◌}
use mathlib.Core.Bool.{true, false}
use native.Mathlib.Omega.{arith}
use borrow.Author.Tests.{leb-true, eqb-true}
use lib.Dec.{leb, eqb}
use lib.ListN.{length, get_or}
use Rattle.records.specs.Bytes.{number, bytes}
use Rattle.timers.specs.declared.bank.Bank.{Bank}
use Rattle.host.specs.Bank.{flags, packed_bank, is_bank, held_bank, unpacked_bank}
use Rattle.host.specs.BankLaws.{PackedBankIsUnpacked, HeldBankIsPacked}
use Rattle.host.proofs.Packing.{items_drop, bytes_number, flag_small, flag_there, flag_back}
use Rattle.demands.proofs.Facts.{left, right}

is_bank_lem : (b : Bank) → is_bank (packed_bank b) ≡ true
unfolding is_bank packed_bank flags bytes
is_bank_lem b = simp flag_small

-- a number and its four bytes
four : (v : ℕ) → v < 2 ^ 32 → v % 256 + 256 * (v / 256 % 256 + 256 * (v / 256 / 256 % 256 + 256 * (v / 256 / 256 / 256 % 256 + 256 * 0))) ≡ v
four v h = omega arith

pub packed_bank_is_unpacked : PackedBankIsUnpacked
unfolding unpacked_bank held_bank packed_bank flags bytes number
packed_bank_is_unpacked b fit =
    let at : ℕ → ℕ = λ i. get_or b.deadlines i 0 in
    rw (is_bank_lem b)
    (simp flag_there
    (rw (four b.last fit.last, four (at 0) (fit.deadlines 0), four (at 1) (fit.deadlines 1), four (at 2) (fit.deadlines 2), four (at 3) (fit.deadlines 3), four (at 4) (fit.deadlines 4), four (at 5) (fit.deadlines 5), four (at 6) (fit.deadlines 6))
    (rw (items_drop 7 0 b.deadlines 0 fit.sevens.0, items_drop 7 0 b.running false fit.sevens.1))))

pub held_bank_is_packed : HeldBankIsPacked
unfolding is_bank held_bank packed_bank flags
held_bank_is_packed s small ok =
    let whole : eqb (length s) 39 ≡ true = search (left, right) depth 20 in
    let t301 : leb (get_or s 32 0) 1 ≡ true = search (left, right) depth 20 in
    let t302 : leb (get_or s 33 0) 1 ≡ true = search (left, right) depth 20 in
    let t303 : leb (get_or s 34 0) 1 ≡ true = search (left, right) depth 20 in
    let t306 : leb (get_or s 35 0) 1 ≡ true = search (left, right) depth 20 in
    let t308 : leb (get_or s 36 0) 1 ≡ true = search (left, right) depth 20 in
    let t310 : leb (get_or s 37 0) 1 ≡ true = search (left, right) depth 20 in
    let t311 : leb (get_or s 38 0) 1 ≡ true = search (left, right) depth 20 in
    rw (
      bytes_number 4 0 s small,
      bytes_number 4 4 s small,
      bytes_number 4 8 s small,
      bytes_number 4 12 s small,
      bytes_number 4 16 s small,
      bytes_number 4 20 s small,
      bytes_number 4 24 s small,
      bytes_number 4 28 s small,
      flag_back (get_or s 32 0) (leb-true _ _ t301),
      flag_back (get_or s 33 0) (leb-true _ _ t302),
      flag_back (get_or s 34 0) (leb-true _ _ t303),
      flag_back (get_or s 35 0) (leb-true _ _ t306),
      flag_back (get_or s 36 0) (leb-true _ _ t308),
      flag_back (get_or s 37 0) (leb-true _ _ t310),
      flag_back (get_or s 38 0) (leb-true _ _ t311),
    )
    (items_drop 39 0 s 0 (eqb-true _ _ whole))
