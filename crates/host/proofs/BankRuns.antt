-- A host's run is the run of the bank: every bank of a run fits its 39 bytes, so they are unpacked as it stands, and what a call leaves is
-- packed over them.
use Prim.Native.Nat.{ℕ, zero, suc, ◌+◌, ◌%◌, ◌<◌, ◌^◌}
use mathlib.Core.Path.{◌≡◌, refl, sym, ◌∙◌, ap}
use mathlib.Core.Bool.{true}
use mathlib.Core.List.{List, [], ◌∷◌, append-nil}
use native.Mathlib.Omega.{arith}
use borrow.Author.Tests.{eq-eqb}
use lib.Dec.{lit<}
use lib.ListN.{length, get_or, set, drop_of_length-le, length-set}
use lib.Seq.{sets, sets-eq}
use Rattle.records.specs.Bytes.{bytes}
use Rattle.timers.specs.declared.bank.Bank.{Bank}
use Rattle.timers.specs.Wrap.{shown}
use Rattle.timers.specs.Due.{staying}
use Rattle.timers.specs.Bank.{Outcome, new_bank, index_of, length_in, advanced_to}
use Rattle.timers.specs.Time.{Call, stop, start, reading, outcome, is_taken, Kept, made, next, run}
use Rattle.timers.proofs.Tests.{decide, All}
use Rattle.timers.proofs.Calls.{unchanged, stop_taken, start_taken, reading_taken}
use Rattle.host.specs.Bank.{flags, packed_bank, BankLeft, left_by, bank_made, on_bank}
use Rattle.host.specs.BankLaws.{FittingBank}
use Rattle.host.specs.BankRuns.{as_called, bank_run, BankRunIsPacked, CallIsTheBanks}
use Rattle.host.proofs.BankPacking.{packed_bank_is_unpacked}

packed_length : (b : Bank) → length (packed_bank b) ≡ 39
unfolding packed_bank flags bytes
packed_length b = refl

packed_over : (s : List ℕ) (b : Bank) → length s ≡ 39 → sets s 0 (packed_bank b) ≡ packed_bank b
packed_over s b h =
    sets-eq (packed_bank b) s 0 (omega (arith, packed_length b))
    ∙ rw (packed_length b, drop_of_length-le s {i = 39} (omega arith), append-nil (packed_bank b))

-- ---- every bank of a run fits

bounded : (l : List ℕ) → All (λ v. v < 2 ^ 32) l → (i : ℕ) → get_or l i 0 < 2 ^ 32
bounded [] a i = lit< tt
bounded (v ∷ l) a zero = a.0
bounded (v ∷ l) a (suc i) = bounded l a.1 i

new_fits : (time : ℕ) → FittingBank (new_bank (shown time))
unfolding new_bank
new_fits time =
    record {
      last = omega arith;
      deadlines = bounded (0 ∷ 0 ∷ 0 ∷ 0 ∷ 0 ∷ 0 ∷ 0 ∷ []) (lit< tt, (lit< tt, (lit< tt, (lit< tt, (lit< tt, (lit< tt, (lit< tt, tt)))))));
      sevens = (refl, refl);
    }

set_fits : (l : List ℕ) (p v : ℕ) → v < 2 ^ 32 → ((i : ℕ) → get_or l i 0 < 2 ^ 32) → (i : ℕ) → get_or (set l p v) i 0 < 2 ^ 32
set_fits [] p v h all i = all i
set_fits (x ∷ l) zero v h all zero = h
set_fits (x ∷ l) zero v h all (suc i) = all (suc i)
set_fits (x ∷ l) (suc p) v h all zero = all zero
set_fits (x ∷ l) (suc p) v h all (suc i) = set_fits l p v h (λ j. all (suc j)) i

taken_fits : (b : Bank) (c : Call) → FittingBank b → is_taken b c ≡ true → FittingBank (outcome b c).bank
unfolding advanced_to staying
taken_fits b (stop n) f t =
    rw (stop_taken b n t).1
    (record { last = f.last; deadlines = f.deadlines; sevens = (f.sevens.0, rw length-set f.sevens.1) })
taken_fits b (start table n code) f t =
    rw (start_taken b table n code t).2
    (record {
      last = f.last;
      deadlines = set_fits b.deadlines (index_of n) ((b.last + length_in table n code) % 4294967296) (omega arith) f.deadlines;
      sevens = (rw length-set f.sevens.0, rw length-set f.sevens.1);
    })
taken_fits b (reading time list) f t =
    rw (reading_taken b time list t).1 (record { last = omega arith; deadlines = f.deadlines; sevens = (f.sevens.0, refl) })

call_fits : (b : Bank) (c : Call) → FittingBank b → FittingBank (outcome b c).bank
call_fits b c f = decide (is_taken b c) (λ t. taken_fits b c f t) (λ t. rw (ap (λ (o : Outcome). o.bank) (unchanged b c t)) f)

-- ---- one call over packed bytes, and a run

call_packed : (b : Bank) (c : Call) → FittingBank b → as_called (packed_bank b) c ≡ left_by (packed_bank b) (outcome b c)
unfolding on_bank
call_packed b c f = rw (packed_bank_is_unpacked b f)

bytes_packed : (b : Bank) (c : Call) → FittingBank b → (as_called (packed_bank b) c).bank ≡ packed_bank (outcome b c).bank
unfolding is_taken
bytes_packed b c f =
    ap (λ (l : BankLeft). l.bank) (call_packed b c f)
    ∙ decide (is_taken b c) (λ t. rw t (packed_over (packed_bank b) (outcome b c).bank (packed_length b)))
    (λ t. rw t (ap (λ (o : Outcome). packed_bank o.bank) (sym (unchanged b c t))))

run_packed : (s : Kept) (cs : List Call) → FittingBank s.bank → bank_run (packed_bank s.bank) cs ≡ packed_bank (run s cs).bank
unfolding bank_run run next
run_packed s [] f = refl
run_packed s (c ∷ cs) f = rw (bytes_packed s.bank c f) (run_packed (next s c) cs (call_fits s.bank c f))

fits_run : (s : Kept) (cs : List Call) → FittingBank s.bank → FittingBank (run s cs).bank
unfolding run next
fits_run s [] f = f
fits_run s (c ∷ cs) f = fits_run (next s c) cs (call_fits s.bank c f)

begun : (s : List ℕ) (time : ℕ) → length s ≡ 39 → (bank_made s (shown time)).bank ≡ packed_bank (made time).bank
unfolding bank_made made
begun s time h = rw (eq-eqb (length s) 39 h) (packed_over s (new_bank (shown time)) h)

made_fits : (time : ℕ) → FittingBank (made time).bank
unfolding made
made_fits time = new_fits time

pub bank_run_is_packed : BankRunIsPacked
bank_run_is_packed s time cs h = rw (begun s time h) (run_packed (made time) cs (made_fits time))

pub call_is_the_banks : CallIsTheBanks
call_is_the_banks s time cs c h =
    rw (bank_run_is_packed s time cs h) (call_packed (run (made time) cs).bank c (fits_run (made time) cs (made_fits time)))
