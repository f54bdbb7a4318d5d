-- What is packed is unpacked as the same record, and what is unpacked is packed as the same bytes.
use Prim.Native.Nat.{ℕ, zero, suc, ◌+◌, ◌≤◌}
use mathlib.Core.Path.{◌≡◌, refl, sym}
use mathlib.Core.Bool.{Bool, true, false, ◌&&◌, and-false}
use mathlib.Core.List.{List, [], ◌∷◌}
use native.Mathlib.Omega.{arith}
use borrow.Author.Tests.{leb-true, eqb-true, eq-eqb, ne_eqb, lt-leb}
use lib.Dec.{leb, eqb}
use lib.ListN.{length, get_or, drop, drop_of_length-le}
use lib.Seq.{drop-cons, sets}
use Rattle.std.proofs.Common.{◌∙◌, append-nil}
use Rattle.std.proofs.lemmas.List.Edits.{sets-eq}
use Rattle.records.proofs.Laws.{both}
use Rattle.direct.specs.declared.call.State.{State}
use Rattle.direct.specs.declared.call.Call.{Call}
use Rattle.std.proofs.Common.{Result, Ok, Err, Some, None}
use Rattle.std.proofs.Math.Option.{some, none}
use Rattle.std.specs.Result.{result_ok}
use Rattle.direct.specs.declared.call.UnknownState.{UnknownState}
use Rattle.direct.specs.Call.{state_number, StateOf}
use Rattle.host_direct.specs.Packing.{packed, state_is, flag, is_record, held, unpacked, as_flag}
use Rattle.host_direct.specs.Laws.{PackedIsUnpacked, HeldIsPacked}

-- n elements of a list from a position on, one by one
abbrev items : {A : Type 0} → ℕ → ℕ → List A → A → List A
items zero k l d = []
items (suc n) k l d = get_or l k d ∷ items n (suc k) l d

items_drop : {A : Type 0} (n k : ℕ) (l : List A) (d : A) → length l ≡ k + n → items n k l d ≡ drop k l
items_drop zero k l d e = sym (drop_of_length-le l {i = k} (omega arith))
items_drop (suc n) k l d e = rw (drop-cons l k d (omega arith), items_drop n (suc k) l d (omega arith))

state_small : (s : State) → leb (state_number s) 2 ≡ true
state_small State.Idle = refl
state_small State.PresenceCheck = refl
state_small State.Active = refl

state_there : (s : State) → state_is (state_number s) ≡ s
state_there State.Idle = refl
state_there State.PresenceCheck = refl
state_there State.Active = refl

state_back : (n : ℕ) → n ≤ 2 → state_number (state_is n) ≡ n
state_back zero h = refl
state_back (suc zero) h = refl
state_back (suc (suc n)) h = omega arith

flag_small : (b : Bool) → leb (flag b) 1 ≡ true
flag_small true = refl
flag_small false = refl

flag_there : (b : Bool) → eqb (flag b) 1 ≡ b
flag_there true = refl
flag_there false = refl

flag_back : (n : ℕ) → n ≤ 1 → flag (eqb n 1) ≡ n
flag_back zero h = refl
flag_back (suc zero) h = refl
flag_back (suc (suc n)) h = absurd (omega arith)

-- ---- the laws

pub packed_length : (c : Call) → length (packed c) ≡ 7
unfolding packed
packed_length c = refl

-- all seven bytes are written over
pub written_over : (s : List ℕ) (c : Call) → length s ≡ 7 → sets s 0 (packed c) ≡ packed c
written_over s c seven =
    let room : 0 + length (packed c) ≤ length s = rw (packed_length, seven) (omega arith) in
    let rest : drop (0 + length (packed c)) s ≡ [] = drop_of_length-le s {i = 0 + length (packed c)} (rw (packed_length, seven) (omega arith)) in
    sets-eq (packed c) s 0 room ∙ rw (rest, append-nil)

is_record_lem : (c : Call) → is_record (packed c) ≡ true
unfolding is_record packed
is_record_lem c = simp (state_small, flag_small)

pub packed_is_unpacked : PackedIsUnpacked
unfolding unpacked held packed
packed_is_unpacked c = rw (is_record_lem c) (simp (state_there, flag_there))

pub held_is_packed : HeldIsPacked
unfolding is_record held packed
held_is_packed s ok =
    let p₁ : ((eqb (length s) 7 && leb (get_or s 0 0) 2 && leb (get_or s 5 0) 1) ≡ true) × (leb (get_or s 6 0) 1 ≡ true) = both _ _ ok in
    let p₂ : ((eqb (length s) 7 && leb (get_or s 0 0) 2) ≡ true) × (leb (get_or s 5 0) 1 ≡ true) = both _ _ p₁.0 in
    let p₃ : (eqb (length s) 7 ≡ true) × (leb (get_or s 0 0) 2 ≡ true) = both _ _ p₂.0 in
    rw (state_back (get_or s 0 0) (leb-true _ _ p₃.1), flag_back (get_or s 5 0) (leb-true _ _ p₂.1), flag_back (get_or s 6 0) (leb-true _ _ p₁.1))
    (items_drop 7 0 s 0 (eqb-true _ _ p₃.0))

-- ---- as the code unpacks

-- a byte that is a state's number, and one that is none's
pub is_state : (n : ℕ) (r : Result State UnknownState) → StateOf n r → {s : State} → Some s ≡ result_ok r → (state_is n ≡ s) × (leb n 2 ≡ true)
is_state n (Ok t) h {s} e = let same : s ≡ t = cc in (rw (same, ← h) (state_there t), rw (← h) (state_small t))
is_state n (Err u) h e = cc

pub no_state : (n : ℕ) (r : Result State UnknownState) → StateOf n r → None ≡ result_ok r → leb n 2 ≡ false
no_state n (Ok t) h e = cc
no_state n (Err u) h e = lt-leb n 2 h.1

-- a byte that is a flag, and one that is none
pub is_flag : (n : ℕ) {b : Bool} → Some b ≡ as_flag n → (eqb n 1 ≡ b) × (leb n 1 ≡ true)
is_flag zero e = (cc, refl)
is_flag (suc zero) e = (cc, refl)
is_flag (suc (suc n)) e = cc

pub no_flag : (n : ℕ) → None ≡ as_flag n → leb n 1 ≡ false
no_flag zero e = cc
no_flag (suc zero) e = cc
no_flag (suc (suc n)) e = lt-leb (suc (suc n)) 1 (omega arith)

module _ (s : List ℕ) where
  pub of_other_length : (length s ≡ 7 → ⊥) → none ≡ unpacked s
  unfolding unpacked is_record
  of_other_length h = rw (ne_eqb _ _ h)

  pub of_no_state : leb (get_or s 0 0) 2 ≡ false → none ≡ unpacked s
  unfolding unpacked is_record
  of_no_state h = simp (h, and-false)

  pub of_no_dt303 : leb (get_or s 5 0) 1 ≡ false → none ≡ unpacked s
  unfolding unpacked is_record
  of_no_dt303 h = simp (h, and-false)

  pub of_no_dt311 : leb (get_or s 6 0) 1 ≡ false → none ≡ unpacked s
  unfolding unpacked is_record
  of_no_dt311 h = simp (h, and-false)

  pub of_record : length s ≡ 7 → {st : State} {d f : Bool} → (state_is (get_or s 0 0) ≡ st) × (leb (get_or s 0 0) 2 ≡ true) → (eqb (get_or s 5 0) 1 ≡ d) × (leb (get_or s 5 0) 1 ≡ true) → (eqb (get_or s 6 0) 1 ≡ f) × (leb (get_or s 6 0) 1 ≡ true) → some (record { state = st; target = get_or s 1 0; lowest = get_or s 2 0; limit = get_or s 3 0; used = get_or s 4 0; dt303 = d; dt311 = f }) ≡ unpacked s
  unfolding unpacked is_record held
  of_record seven state dt303 dt311 = rw (eq-eqb _ _ seven, state.1, dt303.1, dt311.1, state.0, dt303.0, dt311.0)
