-- Eight records that are packed into 176 bytes are held as they were, and what a table holds is packed as the same bytes: the parts stand one
-- after the other, and nothing is left of what they are packed over.
use Prim.Native.Nat.{ℕ, zero, suc, ◌+◌, ◌*◌, ◌≤◌, ◌<◌}
use mathlib.Core.Path.{◌≡◌, refl, sym, ◌∙◌, ap}
use mathlib.Core.Bool.{true}
use mathlib.Core.List.{List, [], ◌∷◌, ◌++◌, append-nil, append_assoc}
use mathlib.Core.Option.{some}
use native.Mathlib.Omega.{arith}
use borrow.Author.Tests.{ltb-true, ltb-false}
use lib.Dec.{ltb, lit<}
use lib.ListN.{length, take, drop, get_or, length-append, length-drop, take-append-drop, drop_of_length-le, get_or-eq_default}
use lib.Seq.{sets, sets-eq, length-sets, length-take-le, drop-drop, take_at, drop_at, get_or-take, get_or-drop}
use Rattle.records.proofs.Laws.{by_test}
use Rattle.callcontrol.specs.declared.call.Call.{Call}
use Rattle.console.specs.Table.{no_call, call_at}
use Rattle.console.proofs.Tables.{eight_of, sound_at}
use Rattle.demands.proofs.Facts.{left, right}
use Rattle.host.specs.Packing.{packed, is_record, held, unpacked}
use Rattle.host_console.specs.Table.{record_at, is_table, held_table, packed_at, packed_into}
use Rattle.host_console.specs.Laws.{PackedIsTable, PackedTableIsHeld, SoundTableIsHeld, HeldTableIsPacked}
use Rattle.host.proofs.Packing.{items, items_drop, packed_length, is_record_lem, packed_is_unpacked, sound_is_unpacked, unpacked_is_held, held_is_packed}
use Rattle.host_console.proofs.Tables.{table_length}

-- ---- the parts one after the other

abbrev pub joined : List Call → List ℕ
joined [] = []
joined (c ∷ cs) = packed c ++ joined cs

joined_at : (cs : List Call) (k : ℕ) → k < length cs → record_at (k * 22) (joined cs) ≡ packed (call_at cs k)
joined_at [] k lt = absurd (omega arith)
joined_at (c ∷ cs) zero lt = take_at (packed c) (joined cs) 22 (packed_length c)
joined_at (c ∷ cs) (suc k) lt =
    let l = packed c ++ joined cs in
    let on : suc k * 22 ≡ 22 + k * 22 = omega arith in
    ap (λ (n : ℕ). take 22 (drop n l)) on
    ∙ ap (λ (z : List ℕ). take 22 z) (sym (drop-drop (k * 22) 22 l))
    ∙ ap (λ (z : List ℕ). take 22 (drop (k * 22) z)) (drop_at (packed c) (joined cs) 22 (packed_length c))
    ∙ joined_at cs k (omega arith)

-- the eight records that are packed of a list
abbrev pub eight : List Call → List Call
eight calls = items 8 0 calls no_call

-- some parts are filled, and behind them the bytes are the old ones
record Filled (x : List ℕ) (at : ℕ) (s t : List ℕ) : Type 0 where
  bytes : t ≡ x ++ drop at s
  size : length x ≡ at

fill : {x s t : List ℕ} {at : ℕ} (c : Call) → at + 22 ≤ length s → Filled x at s t → Filled (x ++ packed c) (at + 22) s (packed_at at c t)
fill {x} {s} {t} {at} c room f =
    let n = packed_length c in
    let m = f.size in
    let whole = length-append x (drop at s) in
    let rest = length-drop at s in
    let v = packed c in
    let l = x ++ drop at s in
    let behind : drop (at + length v) l ≡ drop (at + 22) s =
    ap (λ (z : ℕ). drop (at + z) l) n
    ∙ sym (drop-drop 22 at l)
    ∙ ap (λ (z : List ℕ). drop 22 z) (drop_at x (drop at s) at m)
    ∙ drop-drop 22 at s in
    record {
      bytes =
          ap (λ (z : List ℕ). sets z at v) f.bytes
          ∙ sets-eq v l at (omega arith)
          ∙ ap (λ (z : List ℕ). z ++ v ++ drop (at + length v) l) (take_at x (drop at s) at m)
          ∙ ap (λ (z : List ℕ). x ++ v ++ z) behind;
      size = length-append x v ∙ omega arith;
    }

module _ (calls : List Call) (s : List ℕ) (h : length s ≡ 176) where
  pub parts : packed_into calls s ≡ joined (eight calls)
  unfolding packed_into
  parts =
      let f0 : Filled [] 0 s s = record { bytes = refl; size = refl } in
      let f1 = fill (call_at calls 0) (omega arith) f0 in
      let f2 = fill (call_at calls 1) (omega arith) f1 in
      let f3 = fill (call_at calls 2) (omega arith) f2 in
      let f4 = fill (call_at calls 3) (omega arith) f3 in
      let f5 = fill (call_at calls 4) (omega arith) f4 in
      let f6 = fill (call_at calls 5) (omega arith) f5 in
      let f7 = fill (call_at calls 6) (omega arith) f6 in
      let f8 = fill (call_at calls 7) (omega arith) f7 in
      f8.bytes ∙ rw (drop_of_length-le s {i = 176} (omega arith)) (simp (append_assoc, append-nil))

  pub part_at : (k : ℕ) → k < 8 → record_at (k * 22) (packed_into calls s) ≡ packed (call_at (eight calls) k)
  part_at k lt = rw parts (joined_at (eight calls) k lt)

  pub into_length : length (packed_into calls s) ≡ 176
  unfolding packed_into
  into_length = simp length-sets h

-- nothing is left of what is packed over
pub over_any : (calls : List Call) (s t : List ℕ) → length s ≡ 176 → length t ≡ 176 → packed_into calls s ≡ packed_into calls t
over_any calls s t h k = parts calls s h ∙ sym (parts calls t k)

-- ---- there

pub packed_is_table : PackedIsTable
unfolding is_table
packed_is_table calls s h =
    let p = part_at calls s h in
    rw (
      into_length calls s h,
      p 0 (lit< tt),
      p 1 (lit< tt),
      p 2 (lit< tt),
      p 3 (lit< tt),
      p 4 (lit< tt),
      p 5 (lit< tt),
      p 6 (lit< tt),
      p 7 (lit< tt),
    )
    (simp is_record_lem)

pub holds : (calls : List Call) (s : List ℕ) → length s ≡ 176 → length calls ≡ 8
    → ((k : ℕ) → k < 8 → unpacked (packed (call_at calls k)) ≡ some (call_at calls k)) → held_table (packed_into calls s) ≡ calls
unfolding held_table
holds calls s h n each =
    let p = part_at calls s h in
    let there : (k : ℕ) → k < 8 → held (packed (call_at calls k)) ≡ call_at calls k = λ k lt. unpacked_is_held (call_at calls k) (each k lt) in
    rw (
      p 0 (lit< tt),
      p 1 (lit< tt),
      p 2 (lit< tt),
      p 3 (lit< tt),
      p 4 (lit< tt),
      p 5 (lit< tt),
      p 6 (lit< tt),
      p 7 (lit< tt),
      there 0 (lit< tt),
      there 1 (lit< tt),
      there 2 (lit< tt),
      there 3 (lit< tt),
      there 4 (lit< tt),
      there 5 (lit< tt),
      there 6 (lit< tt),
      there 7 (lit< tt),
    )
    (items_drop 8 0 calls no_call n)

pub packed_table_is_held : PackedTableIsHeld
packed_table_is_held calls s h n fit = holds calls s h n (λ k lt. packed_is_unpacked (call_at calls k) (fit k lt))

pub sound_table_is_held : SoundTableIsHeld
sound_table_is_held calls s h ok sevens =
    holds calls s h (eight_of calls ok) (λ k lt. sound_is_unpacked (call_at calls k) (sound_at calls k ok lt) (sevens k lt))

-- ---- and back

module _ (s : List ℕ) (small : (i : ℕ) → get_or s i 0 < 256) where
  part_length : (at : ℕ) → at + 22 ≤ length s → length (record_at at s) ≡ 22
  part_length at room = length-take-le 22 (drop at s) (rw (length-drop at s) (omega arith))

  part_small : (at : ℕ) → at + 22 ≤ length s → (i : ℕ) → get_or (record_at at s) i 0 < 256
  part_small at room i =
      by_test (ltb i 22) (λ b. rw (get_or-take 22 (drop at s) i 0 (ltb-true i 22 b), get_or-drop at s i 0) (small (at + i)))
      (λ b.
      let n = part_length at room in
      let l = ltb-false i 22 b in
      rw (get_or-eq_default (record_at at s) 0 {n = i} (omega arith)) (lit< tt))

  -- what a part holds, packed over it, leaves the bytes
  pub stays : (at : ℕ) → at + 22 ≤ length s → is_record (record_at at s) ≡ true → packed_at at (held (record_at at s)) s ≡ s
  stays at room is =
      let v = record_at at s in
      let same : packed (held v) ≡ v = held_is_packed v (part_small at room) is in
      let n = part_length at room in
      ap (λ (z : List ℕ). sets s at z) same
      ∙ sets-eq v s at (omega arith)
      ∙ append_assoc (take at s) v (drop (at + length v) s)
      ∙ ap (λ (z : ℕ). take at s ++ (v ++ drop (at + z) s)) n
      ∙ ap (λ (z : List ℕ). take at s ++ (v ++ z)) (sym (drop-drop 22 at s))
      ∙ ap (λ (z : List ℕ). take at s ++ z) (take-append-drop 22 (drop at s))
      ∙ take-append-drop at s

pub held_table_is_packed : HeldTableIsPacked
unfolding is_table held_table packed_into
held_table_is_packed s over small ok n =
    let h = table_length s ok in
    let p0 : is_record (record_at 0 s) ≡ true = search (left, right) depth 20 in
    let p1 : is_record (record_at 22 s) ≡ true = search (left, right) depth 20 in
    let p2 : is_record (record_at 44 s) ≡ true = search (left, right) depth 20 in
    let p3 : is_record (record_at 66 s) ≡ true = search (left, right) depth 20 in
    let p4 : is_record (record_at 88 s) ≡ true = search (left, right) depth 20 in
    let p5 : is_record (record_at 110 s) ≡ true = search (left, right) depth 20 in
    let p6 : is_record (record_at 132 s) ≡ true = search (left, right) depth 20 in
    let p7 : is_record (record_at 154 s) ≡ true = search (left, right) depth 20 in
    over_any (held_table s) over s n h
    ∙ rw (
      stays s small 0 (omega arith) p0,
      stays s small 22 (omega arith) p1,
      stays s small 44 (omega arith) p2,
      stays s small 66 (omega arith) p3,
      stays s small 88 (omega arith) p4,
      stays s small 110 (omega arith) p5,
      stays s small 132 (omega arith) p6,
      stays s small 154 (omega arith) p7,
    )
