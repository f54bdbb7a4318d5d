-- What is packed is unpacked as the same record, and what is unpacked is packed as the same bytes.
use Prim.Native.Nat.{ℕ, zero, suc, ◌+◌, ◌*◌, ◌/◌, ◌%◌, ◌≤◌, ◌<◌}
use mathlib.Core.Path.{◌≡◌, refl, sym, ◌∙◌, ap}
use mathlib.Core.Bool.{Bool, true, false}
use mathlib.Core.List.{List, [], ◌∷◌, ◌++◌, append-nil}
use mathlib.Core.Option.{some}
use native.Mathlib.Omega.{arith}
use borrow.Author.Tests.{leb-true, eqb-true}
use lib.Dec.{leb, eqb}
use lib.ListN.{length, get_or, drop, drop_of_length-le}
use lib.Seq.{drop-cons, sets, sets-eq}
use Rattle.records.specs.Bytes.{number, bytes}
use Rattle.callcontrol.specs.declared.call.State.{State}
use Rattle.callcontrol.specs.declared.call.Path.{Path}
use Rattle.callcontrol.specs.declared.call.Call.{Call}
use Rattle.callcontrol.specs.Call.{state_number, path_number, in_range, sound}
use Rattle.host.specs.Packing.{names, settings, running, packed, state_is, path_is, flag, is_record, held, unpacked}
use Rattle.host.specs.Laws.{PackedIsUnpacked, SoundIsUnpacked, HeldIsPacked}
use Rattle.demands.proofs.Facts.{left, right}

-- n elements of a list from a position on, one by one
abbrev pub items : {A : Type 0} → ℕ → ℕ → List A → A → List A
items zero k l d = []
items (suc n) k l d = get_or l k d ∷ items n (suc k) l d

pub items_drop : {A : Type 0} (n k : ℕ) (l : List A) (d : A) → length l ≡ k + n → items n k l d ≡ drop k l
items_drop zero k l d e = sym (drop_of_length-le l {i = k} (omega arith))
items_drop (suc n) k l d e = rw (drop-cons l k d (omega arith), items_drop n (suc k) l d (omega arith))

-- ---- the parts of a packed record, there and back

state_small : (s : State) → leb (state_number s) 5 ≡ true
state_small State.Idle = refl
state_small State.MoCallSetup = refl
state_small State.MtCallSetup = refl
state_small State.CallActive = refl
state_small State.Wait = refl
state_small State.CallDisconnect = refl

state_there : (s : State) → state_is (state_number s) ≡ s
state_there State.Idle = refl
state_there State.MoCallSetup = refl
state_there State.MtCallSetup = refl
state_there State.CallActive = refl
state_there State.Wait = refl
state_there State.CallDisconnect = refl

state_back : (n : ℕ) → n ≤ 5 → state_number (state_is n) ≡ n
state_back zero h = refl
state_back (suc zero) h = refl
state_back (suc (suc zero)) h = refl
state_back (suc (suc (suc zero))) h = refl
state_back (suc (suc (suc (suc zero)))) h = refl
state_back (suc (suc (suc (suc (suc n))))) h = omega arith

path_small : (p : Path) → leb (path_number p) 2 ≡ true
path_small Path.Up = refl
path_small Path.Broken = refl
path_small Path.Restoring = refl

path_there : (p : Path) → path_is (path_number p) ≡ p
path_there Path.Up = refl
path_there Path.Broken = refl
path_there Path.Restoring = refl

path_back : (n : ℕ) → n ≤ 2 → path_number (path_is n) ≡ n
path_back zero h = refl
path_back (suc zero) h = refl
path_back (suc (suc zero)) h = refl
path_back (suc (suc (suc n))) h = absurd (omega arith)

pub flag_small : (b : Bool) → leb (flag b) 1 ≡ true
flag_small true = refl
flag_small false = refl

pub flag_there : (b : Bool) → eqb (flag b) 1 ≡ b
flag_there true = refl
flag_there false = refl

pub flag_back : (n : ℕ) → n ≤ 1 → flag (eqb n 1) ≡ n
flag_back zero h = refl
flag_back (suc zero) h = refl
flag_back (suc (suc n)) h = absurd (omega arith)

-- the number that bytes stand for has those bytes
pub bytes_number : (w at : ℕ) (s : List ℕ) → ((i : ℕ) → get_or s i 0 < 256) → bytes w (number w s at) ≡ items w at s 0
unfolding number bytes
bytes_number zero at s small = refl
bytes_number (suc w) at s small =
    let low : (get_or s at 0 + 256 * number w s (suc at)) % 256 ≡ get_or s at 0 = omega (arith, small at) in
    let high : (get_or s at 0 + 256 * number w s (suc at)) / 256 ≡ number w s (suc at) = omega (arith, small at) in
    rw (low, high, bytes_number w (suc at) s small)

-- ---- the laws

pub packed_length : (c : Call) → length (packed c) ≡ 22
unfolding packed names settings running bytes
packed_length c = refl

pub is_record_lem : (c : Call) → is_record (packed c) ≡ true
unfolding is_record packed names settings running bytes
is_record_lem c = simp (state_small, path_small, flag_small)

pub packed_is_unpacked : PackedIsUnpacked
unfolding unpacked held packed names settings running bytes number
packed_is_unpacked c fit =
    let id : c.id % 256 + 256 * (c.id / 256 % 256 + 256 * 0) ≡ c.id = omega (arith, fit.id) in
    let a = c.address in
    let address : a % 256 + 256 * (a / 256 % 256 + 256 * (a / 256 / 256 % 256 + 256 * (a / 256 / 256 / 256 % 256 + 256 * 0))) ≡ a =
    omega (arith, fit.address) in
    rw (is_record_lem c)
    (simp (state_there, path_there, flag_there) (rw (id, address, items_drop 7 0 c.timers false fit.timers)))

pub sound_is_unpacked : SoundIsUnpacked
unfolding sound in_range
sound_is_unpacked c ok seven =
    let id : leb c.id 16383 ≡ true = search (left, right) depth 20 in
    let address : leb c.address 16777215 ≡ true = search (left, right) depth 20 in
    packed_is_unpacked c (record { id = omega (arith, leb-true c.id 16383 id); address = omega (arith, leb-true c.address 16777215 address); timers = seven })

-- bytes that are unpacked as a record hold it
pub unpacked_is_held : (c : Call) → unpacked (packed c) ≡ some c → held (packed c) ≡ c
unfolding unpacked
unpacked_is_held c is = let same : some (held (packed c)) ≡ some c = rw (is_record_lem c) at is in cc

pub held_is_packed : HeldIsPacked
unfolding is_record held packed names settings running
held_is_packed s small ok =
    let whole : eqb (length s) 22 ≡ true = search (left, right) depth 20 in
    let state : leb (get_or s 0 0) 5 ≡ true = search (left, right) depth 20 in
    let path : leb (get_or s 10 0) 2 ≡ true = search (left, right) depth 20 in
    let t301 : leb (get_or s 14 0) 1 ≡ true = search (left, right) depth 20 in
    let t302 : leb (get_or s 15 0) 1 ≡ true = search (left, right) depth 20 in
    let t303 : leb (get_or s 16 0) 1 ≡ true = search (left, right) depth 20 in
    let t306 : leb (get_or s 17 0) 1 ≡ true = search (left, right) depth 20 in
    let t308 : leb (get_or s 18 0) 1 ≡ true = search (left, right) depth 20 in
    let t310 : leb (get_or s 19 0) 1 ≡ true = search (left, right) depth 20 in
    let t311 : leb (get_or s 20 0) 1 ≡ true = search (left, right) depth 20 in
    rw (
      state_back (get_or s 0 0) (leb-true _ _ state),
      bytes_number 2 1 s small,
      bytes_number 4 3 s small,
      path_back (get_or s 10 0) (leb-true _ _ path),
      flag_back (get_or s 14 0) (leb-true _ _ t301),
      flag_back (get_or s 15 0) (leb-true _ _ t302),
      flag_back (get_or s 16 0) (leb-true _ _ t303),
      flag_back (get_or s 17 0) (leb-true _ _ t306),
      flag_back (get_or s 18 0) (leb-true _ _ t308),
      flag_back (get_or s 19 0) (leb-true _ _ t310),
      flag_back (get_or s 20 0) (leb-true _ _ t311),
    )
    (items_drop 22 0 s 0 (eqb-true _ _ whole))

-- ---- the last of a list of arms: what no earlier one has

pub last_state : (n : ℕ) → (n ≡ 0 → ⊥) → (n ≡ 1 → ⊥) → (n ≡ 2 → ⊥) → (n ≡ 3 → ⊥) → (n ≡ 4 → ⊥) → State.CallDisconnect ≡ state_is n
last_state zero a b c d e = absurd (a refl)
last_state (suc zero) a b c d e = absurd (b refl)
last_state (suc (suc zero)) a b c d e = absurd (c refl)
last_state (suc (suc (suc zero))) a b c d e = absurd (d refl)
last_state (suc (suc (suc (suc zero)))) a b c d e = absurd (e refl)
last_state (suc (suc (suc (suc (suc n))))) a b c d e = refl

pub last_path : (n : ℕ) → (n ≡ 1 → ⊥) → (n ≡ 2 → ⊥) → Path.Up ≡ path_is n
last_path zero b c = refl
last_path (suc zero) b c = absurd (b refl)
last_path (suc (suc zero)) b c = absurd (c refl)
last_path (suc (suc (suc n))) b c = refl

-- four bytes by one division each
pub four_of : (v : ℕ) → v % 256 ∷ v / 256 % 256 ∷ v / 65536 % 256 ∷ v / 16777216 % 256 ∷ [] ≡ bytes 4 v
unfolding bytes
four_of v =
    let third : v / 65536 % 256 ≡ v / 256 / 256 % 256 = omega arith in
    let fourth : v / 16777216 % 256 ≡ v / 256 / 256 / 256 % 256 = omega arith in
    rw (third, fourth)

pub packed_long : (c : Call) → length (packed c) ≡ 22
unfolding packed names settings running bytes
packed_long c = refl

-- stored over as many, a list is what is there
pub whole_stored : (s l : List ℕ) → length s ≡ length l → sets s 0 l ≡ l
whole_stored s l e = sets-eq l s 0 (omega (arith, e)) ∙ ap (λ (r : List ℕ). l ++ r) (drop_of_length-le s {i = 0 + length l} (omega (arith, e))) ∙ append-nil l
