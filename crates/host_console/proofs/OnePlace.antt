-- Where a table is read, a record packed at one place is the whole table packed with that record changed: every other part holds what is packed over it.
use Prim.Native.Nat.{ℕ, zero, suc, ◌+◌, ◌*◌, ◌-◌, ◌≤◌, ◌<◌}
use mathlib.Core.Path.{◌≡◌, refl, sym, ◌∙◌, ap}
use mathlib.Core.Bool.{true}
use mathlib.Core.List.{List, [], ◌∷◌}
use native.Mathlib.Omega.{arith}
use borrow.Rule.Slice.PartMut.{put_mid}
use lib.ListN.{length, set, get_or}
use lib.Seq.{sets, set_comm, get_or-set_same, get_or-set_other}
use Rattle.callcontrol.specs.declared.call.Call.{Call}
use Rattle.console.specs.Table.{no_call, call_at}
use Rattle.host.specs.Packing.{packed}
use Rattle.host.proofs.Packing.{packed_length}
use Rattle.host_console.specs.Table.{is_table, held_table, packed_at, packed_first, packed_into}
use Rattle.host_console.proofs.Packing.{stays}
use Rattle.host_console.proofs.Tables.{part_of, part_packed, all_packed, held_at, part_record, table_length, eight_held}

-- ---- bytes that lie apart are stored in either order

set_past : (s : List ℕ) (j y : ℕ) (at : ℕ) (v : List ℕ) → (j < at → ⊥) → (at + length v ≤ j) → set (sets s at v) j y ≡ sets (set s j y) at v
set_past s j y at [] low far = refl
set_past s j y at (x ∷ v) low far =
    set_past (set s at x) j y (suc at) v (λ lt. omega arith) (omega arith)
    ∙ ap (λ (z : List ℕ). sets z (suc at) v) (set_comm s at j x y (λ e. omega arith))

sets_past : (s : List ℕ) (at to : ℕ) (v w : List ℕ) → at + length v ≤ to → sets (sets s at v) to w ≡ sets (sets s to w) at v
sets_past s at to v [] far = refl
sets_past s at to v (y ∷ w) far =
    ap (λ (z : List ℕ). sets z (suc to) w) (set_past s to y at v (λ lt. omega arith) far)
    ∙ sets_past (set s to y) at (suc to) v w (omega arith)

-- ---- one place

module _ (s : List ℕ) (small : (i : ℕ) → get_or s i 0 < 256) (is : is_table s ≡ true) (k : ℕ) (lt : k < 8) (c : Call) where
  abbrev with_one : List Call
  with_one = set (held_table s) k c

  kept : (n : ℕ) → n < 8 → packed_at (22 * n) (call_at (held_table s) n) s ≡ s
  kept n l =
      let h = table_length s is in
      ap (λ (d : Call). packed_at (22 * n) d s) (held_at s n l) ∙ stays s small (22 * n) (omega arith) (part_record s n l is)

  -- the parts below the place stay
  below : (n : ℕ) → n ≤ k → packed_first n with_one s ≡ s
  below zero le = refl
  below (suc n) le =
      (λ i. packed_at (22 * n) (get_or-set_other (held_table s) k n c no_call (λ e. omega arith) i) (below n (omega arith) i))
      ∙ kept n (omega arith)

  -- the place, and what is behind it
  from : (d n : ℕ) → n ≡ suc (k + d) → n ≤ 8 → packed_first n with_one s ≡ packed_at (22 * k) c s
  from zero n e le =
      let m : n ≡ suc k = omega arith in
      let h = eight_held s in
      ap (λ (x : ℕ). packed_first x with_one s) m
      ∙ (λ i. packed_at (22 * k) (get_or-set_same (held_table s) k c no_call (omega arith) i) (below k (omega arith) i))
  from (suc d) n e le =
      let j = suc (k + d) in
      let m : n ≡ suc j = omega arith in
      let size = packed_length c in
      ap (λ (x : ℕ). packed_first x with_one s) m
      ∙ (λ i. packed_at (22 * j) (get_or-set_other (held_table s) k j c no_call (λ x. omega arith) i) (from d j refl (omega arith) i))
      ∙ sets_past s (22 * k) (22 * j) (packed c) (packed (call_at (held_table s) j)) (omega arith)
      ∙ ap (λ (z : List ℕ). packed_at (22 * k) c z) (kept j (omega arith))

  one_place : packed_at (22 * k) c s ≡ packed_into with_one s
  unfolding packed_into
  one_place = sym (from (7 - k) 8 (omega arith) (omega arith))

  -- as the code packs it, into a part of the bytes
  pub packed_one : {y : List ℕ} → y ≡ sets (part_of k s) 0 (packed c) → put_mid (22 * k) (22 * k + 22 - 22 * k) s y ≡ packed_into with_one s
  packed_one is-part =
      let h = table_length s is in
      part_packed s k c (omega arith) is-part ∙ one_place

-- ---- the first places

-- what is packed of the first places, where the others have what is held
module _
    (s : List ℕ) (small : (i : ℕ) → get_or s i 0 < 256) (is : is_table s ≡ true) (calls : List Call) (upto : ℕ) (le : upto ≤ 8)
    (same : (j : ℕ) → upto ≤ j → j < 8 → call_at calls j ≡ call_at (held_table s) j) where
  -- a part of the others, packed behind the first n of all
  over_first : (j : ℕ) → upto ≤ j → j < 8 → (n : ℕ) → n ≤ j → packed_at (22 * j) (call_at calls j) (packed_first n calls s) ≡ packed_first n calls s
  over_first j from lt zero le-j =
      let h = table_length s is in
      ap (λ (d : Call). packed_at (22 * j) d s) (same j from lt ∙ held_at s j lt) ∙ stays s small (22 * j) (omega arith) (part_record s j lt is)
  over_first j from lt (suc n) le-j =
      let size = packed_length (call_at calls n) in
      sets_past (packed_first n calls s) (22 * n) (22 * j) (packed (call_at calls n)) (packed (call_at calls j)) (omega arith)
      ∙ ap (λ (z : List ℕ). packed_at (22 * n) (call_at calls n) z) (over_first j from lt n (omega arith))

  from_first : (d n : ℕ) → n ≡ upto + d → n ≤ 8 → packed_first n calls s ≡ packed_first upto calls s
  from_first zero n e le-n = let m : n ≡ upto = omega arith in ap (λ (x : ℕ). packed_first x calls s) m
  from_first (suc d) n e le-n =
      let j = upto + d in
      let m : n ≡ suc j = omega arith in
      ap (λ (x : ℕ). packed_first x calls s) m
      ∙ over_first j (omega arith) (omega arith) j (omega arith)
      ∙ from_first d j refl (omega arith)

  pub first_places : packed_first upto calls s ≡ packed_into calls s
  first_places = sym (from_first (8 - upto) 8 (omega arith) (omega arith)) ∙ all_packed calls s
