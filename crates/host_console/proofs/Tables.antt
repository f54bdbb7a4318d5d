-- A console's table of bytes: its eight parts, read one by one and packed one by one; and what the entry answers, from what its callees give.
use Rattle.std.specs.Prelude.{Option, Some, None, Err}
use Prim.Native.Nat.{ℕ, zero, suc, ◌+◌, ◌-◌, ◌*◌, ◌≤◌, ◌<◌}
use mathlib.Core.Path.{◌≡◌, refl, sym, ◌∙◌, ap}
use mathlib.Core.Bool.{Bool, true, false, cond, not, ◌&&◌, and-false, true≢false}
use mathlib.Core.List.{List, [], ◌++◌, append-nil, append_assoc}
use native.Mathlib.Numerals.{add-one}
use native.Mathlib.Omega.{arith}
use borrow.Author.Tests.{not-true, not-false, eq-eqb, ne_eqb, eqb-true}
use borrow.Rule.Slice.PartMut.{put_mid}
use lib.Dec.{eqb}
use lib.ListN.{length, take, drop, set, length-drop, drop_of_length-le}
use lib.Seq.{sets, sets-eq, length-sets, length-take-le, drop-drop}
use Rattle.callcontrol.specs.declared.call.Call.{Call}
use Rattle.records.specs.declared.events.Event.{Event}
use Rattle.callcontrol.specs.Call.{sound}
use Rattle.callcontrol.specs.Step.{Outcome}
use Rattle.console.specs.declared.keys.Keys.{Keys}
use Rattle.console.specs.Table.{call_at, fresh_table, every?, apart, table_sound}
use Rattle.console.specs.Keys.{keys_from, apart_by}
use Rattle.console.specs.declared.route.ConsoleRefusal.{ConsoleRefusal}
use Rattle.console.specs.Route.{console_number, console_place}
use Rattle.console.proofs.ByKeys.{apart_by_lem}
use Rattle.console.proofs.Refused.{refused_some}
use Rattle.console.proofs.Rooms.{place_few}
use Rattle.console.specs.Console.{ConsoleOutcome, refuses_at, placed, console_of}
use Rattle.demands.proofs.Facts.{left, right}
use Rattle.host.specs.Packing.{packed, is_record, held}
use Rattle.host.proofs.Packing.{packed_length}
use Rattle.host.specs.Entries.{word}
use Rattle.host_console.specs.Table.{record_at, is_table, held_table, packed_at, packed_first, packed_into, TableLeft, as_left, console_left, console_host_step}
use Rattle.host_console.specs.Reading.{KeysOf}

-- ---- a record into its part of the table

-- 22 bytes over 22 bytes leave the new ones
whole_part : (l v : List ℕ) → length l ≡ 22 → length v ≡ 22 → sets l 0 v ≡ v
whole_part l v old new =
    let none : drop (0 + length v) l ≡ [] = drop_of_length-le l {i = 0 + length v} (omega arith) in
    sets-eq v l 0 (omega arith) ∙ ap (λ (z : List ℕ). take 0 l ++ v ++ z) none ∙ append-nil v

packed_part : (s : List ℕ) (at : ℕ) (c : Call) → at + 22 ≤ length s → put_mid at 22 s (sets (take 22 (drop at s)) 0 (packed c)) ≡ packed_at at c s
packed_part s at c room =
    let v = packed c in
    let n = packed_length c in
    let part : length (take 22 (drop at s)) ≡ 22 = length-take-le 22 (drop at s) (rw (length-drop at s) (omega arith)) in
    ap (λ (z : List ℕ). take at s ++ (z ++ drop 22 (drop at s))) (whole_part (take 22 (drop at s)) v part n)
    ∙ ap (λ (z : List ℕ). take at s ++ (v ++ z)) (drop-drop 22 at s ∙ ap (λ (m : ℕ). drop (at + m) s) (sym n))
    ∙ sym (append_assoc (take at s) v (drop (at + length v) s))
    ∙ sym (sets-eq v s at (omega arith))

-- the bytes of a part, as the code takes them
abbrev pub part_of : ℕ → List ℕ → List ℕ
part_of k s = take (22 * k + 22 - 22 * k) (drop (22 * k) s)

part_size : (k : ℕ) → 22 * k + 22 - 22 * k ≡ 22
part_size k = omega arith

part_is : (k : ℕ) (s : List ℕ) → part_of k s ≡ record_at (22 * k) s
part_is k s = ap (λ (n : ℕ). take n (drop (22 * k) s)) (part_size k)

-- a record into its part, as the code takes it
pub part_packed : (s : List ℕ) (k : ℕ) (c : Call) {y : List ℕ} → 22 * k + 22 ≤ length s → y ≡ sets (part_of k s) 0 (packed c)
    → put_mid (22 * k) (22 * k + 22 - 22 * k) s y ≡ packed_at (22 * k) c s
part_packed s k c room is =
    ap (λ (z : List ℕ). put_mid (22 * k) (22 * k + 22 - 22 * k) s z) is
    ∙ ap (λ (n : ℕ). put_mid (22 * k) n s (sets (take n (drop (22 * k) s)) 0 (packed c))) (part_size k)
    ∙ packed_part s (22 * k) c room

pub record Packing (calls : List Call) (s : List ℕ) (k : ℕ) (t : List ℕ) : Type 0 where
  pub bytes : t ≡ packed_first k calls s
  pub size : length t ≡ 176

pub pack_next : (calls : List Call) (s : List ℕ) (k : ℕ) {t y : List ℕ} → Packing calls s k t → k < 8 → y ≡ sets (part_of k t) 0 (packed (call_at calls k))
    → Packing calls s (k + 1) (put_mid (22 * k) (22 * k + 22 - 22 * k) t y)
pack_next calls s k {t} {y} p lt is =
    let c = call_at calls k in
    let eight = p.size in
    let part : put_mid (22 * k) (22 * k + 22 - 22 * k) t y ≡ packed_at (22 * k) c t = part_packed t k c (omega arith) is in
    record {
      bytes =
          part ∙ ap (λ (z : List ℕ). packed_at (22 * k) c z) p.bytes
          ∙ sym (ap (λ (n : ℕ). packed_first n calls s) (add-one k));
      size = ap length part ∙ length-sets t (22 * k) (packed c) ∙ eight;
    }

pub all_packed : (calls : List Call) (s : List ℕ) → packed_first 8 calls s ≡ packed_into calls s
unfolding packed_into
all_packed calls s = refl

-- ---- the records of a table's parts

-- the first parts are held, where the others are fresh still
abbrev pub held_first : ℕ → List ℕ → List Call
held_first zero s = fresh_table
held_first (suc k) s = set (held_first k s) k (held (record_at (22 * k) s))

pub all_held : (s : List ℕ) (k : ℕ) {calls : List Call} → calls ≡ held_first k s → k ≡ 8 → calls ≡ held_table s
unfolding held_table
all_held s k before all = before ∙ ap (λ (n : ℕ). held_first n s) all

pub held_at : (s : List ℕ) (k : ℕ) → k < 8 → call_at (held_table s) k ≡ held (record_at (22 * k) s)
unfolding held_table
held_at s zero lt = refl
held_at s (suc zero) lt = refl
held_at s (suc (suc zero)) lt = refl
held_at s (suc (suc (suc zero))) lt = refl
held_at s (suc (suc (suc (suc zero)))) lt = refl
held_at s (suc (suc (suc (suc (suc zero))))) lt = refl
held_at s (suc (suc (suc (suc (suc (suc zero)))))) lt = refl
held_at s (suc (suc (suc (suc (suc (suc (suc zero))))))) lt = refl
held_at s (suc (suc (suc (suc (suc (suc (suc (suc k)))))))) lt = absurd (omega arith)

pub part_held : (s : List ℕ) (k : ℕ) {c : Call} → k < 8 → c ≡ held (part_of k s) → c ≡ call_at (held_table s) k
part_held s k lt is = is ∙ ap (λ (z : List ℕ). held z) (part_is k s) ∙ sym (held_at s k lt)

-- ---- whether the parts are records

-- a part that is unpacked is a record, and the call is the one that it holds
module _ (part : List ℕ) (r : Option Call) (is : r ≡ cond (is_record part) (Some (held part)) None) where
  unpacked_by : (b : Bool) → r ≡ cond b (Some (held part)) None → (c : Call) → r ≡ Some c → (b ≡ true) × (c ≡ held part)
  unpacked_by true i c some = (refl, cc)
  unpacked_by false i c some = cc

  pub unpacked_some : (c : Call) → r ≡ Some c → (is_record part ≡ true) × (c ≡ held part)
  unpacked_some c some = unpacked_by (is_record part) is c some

  none_by : (b : Bool) → r ≡ cond b (Some (held part)) None → r ≡ None → b ≡ false
  none_by true i none = cc
  none_by false i none = refl

  pub unpacked_none : r ≡ None → is_record part ≡ false
  unpacked_none none = none_by (is_record part) is none

-- 176 bytes, and the first parts are records
abbrev pub first_are : ℕ → List ℕ → Bool
first_are zero s = eqb (length s) 176
first_are (suc k) s = first_are k s && is_record (record_at (22 * k) s)

first_more : (s : List ℕ) (k : ℕ) {b : Bool} → b ≡ is_record (part_of k s) → first_are (k + 1) s ≡ (first_are k s && b)
first_more s k is =
    ap (λ (n : ℕ). first_are n s) (add-one k)
    ∙ sym (ap (λ (x : Bool). first_are k s && x) (is ∙ ap (λ (z : List ℕ). is_record z) (part_is k s)))

-- where they are not, all are not
first_other : (s : List ℕ) (k d m : ℕ) → m ≡ k + d → first_are k s ≡ false → first_are m s ≡ false
first_other s k zero m is other = let n : m ≡ k = omega arith in ap (λ (x : ℕ). first_are x s) n ∙ other
first_other s k (suc d) m is other =
    let n : m ≡ suc (k + d) = omega arith in
    ap (λ (x : ℕ). first_are x s) n
    ∙ ap (λ (x : Bool). x && is_record (record_at (22 * (k + d)) s)) (first_other s k d (k + d) refl other)

pub other_part : (s : List ℕ) (k : ℕ) {b : Bool} → k < 8 → b ≡ is_record (part_of k s) → not b ≡ true → false ≡ is_table s
unfolding is_table
other_part s k {b} lt is other =
    let here : first_are (k + 1) s ≡ false =
    first_more s k is ∙ ap (λ (x : Bool). first_are k s && x) (not-true b other) ∙ and-false (first_are k s) in
    sym (first_other s (k + 1) (7 - k) 8 (omega arith) here)

pub part_more : (s : List ℕ) (k : ℕ) {b : Bool} → b ≡ is_record (part_of k s) → not b ≡ false → first_are k s ≡ true → first_are (k + 1) s ≡ true
part_more s k {b} is so before = first_more s k is ∙ (λ i. before i && not-false b so i)

pub all_parts : (s : List ℕ) (k : ℕ) → first_are k s ≡ true → k ≡ 8 → true ≡ is_table s
unfolding is_table
all_parts s k before all = sym before ∙ ap (λ (n : ℕ). first_are n s) all

-- a table has 176 bytes, and each part of it is a record
pub table_length : (s : List ℕ) → is_table s ≡ true → length s ≡ 176
unfolding is_table
table_length s all =
    let whole : eqb (length s) 176 ≡ true = search (left, right) depth 20 in
    eqb-true _ _ whole

first_below : (s : List ℕ) (k d m : ℕ) → m ≡ k + d → first_are m s ≡ true → first_are k s ≡ true
first_below s k zero m is all = let n : k ≡ m = omega arith in ap (λ (x : ℕ). first_are x s) n ∙ all
first_below s k (suc d) m is all =
    let n : suc (k + d) ≡ m = omega arith in
    let more : first_are (suc (k + d)) s ≡ true = ap (λ (x : ℕ). first_are x s) n ∙ all in
    first_below s k d (k + d) refl (left (first_are (k + d) s) _ more)

pub part_record : (s : List ℕ) (k : ℕ) → k < 8 → is_table s ≡ true → is_record (record_at (22 * k) s) ≡ true
unfolding is_table
part_record s k lt all = right (first_are k s) _ (first_below s (suc k) (7 - k) 8 (omega arith) all)

-- ---- reading

pub not_all_bytes : (s : List ℕ) → (length s ≡ 176 → ⊥) → KeysOf None s
unfolding is_table
not_all_bytes s other = rw (ne_eqb (length s) 176 other)

pub not_a_record : (s : List ℕ) → false ≡ is_table s → KeysOf None s
not_a_record s other = rw (← other)

unsound : (calls : List Call) → every? sound calls ≡ false → table_sound calls ≡ false
unfolding table_sound
unsound calls h = rw h (and-false (eqb (length calls) 8))

pub not_sound : (s : List ℕ) → every? sound (held_table s) ≡ false → KeysOf None s
not_sound s h = rw (unsound (held_table s) h) (and-false (is_table s))

sound_apart : (calls : List Call) → length calls ≡ 8 → every? sound calls ≡ true → table_sound calls ≡ apart calls
unfolding table_sound
sound_apart calls n h = rw (eq-eqb (length calls) 8 n, h)

pub eight_held : (s : List ℕ) → length (held_table s) ≡ 8
unfolding held_table
eight_held s = refl

pub all_read : (s ks : List ℕ) {b : Bool} → true ≡ is_table s → every? sound (held_table s) ≡ true → ks ≡ keys_from 0 (held_table s) → b ≡ apart_by ks
    → (is_table s && table_sound (held_table s)) ≡ b
all_read s ks are h is by =
    rw (← are, sound_apart (held_table s) (eight_held s) h) (apart_by_lem 0 (held_table s) h ∙ sym (ap apart_by is) ∙ sym by)

-- what is known where it was read: it is a table, sound, and these are its keys
module _ (s : List ℕ) (keys : Keys) (k : KeysOf (Some keys) s) where
  pub known_table : is_table s ≡ true
  known_table = left (is_table s) (table_sound (held_table s)) k.0

  pub known_sound : table_sound (held_table s) ≡ true
  known_sound = right (is_table s) (table_sound (held_table s)) k.0

-- ---- the entry

-- bytes that are no sound table
pub no_table : (s : List ℕ) (place : ℕ) (e b : List ℕ) (r : Option Keys) → KeysOf r s → r ≡ None
    → ◌≡◌ {A = TableLeft} (record { result = 16777216; table = s; out = b }) (console_host_step s place e b)
unfolding console_host_step console_of
no_table s place e b (Some keys) k none = cc
no_table s place e b None neither none = by (is_table s) (table_sound (held_table s)) refl refl
  where
    by : (x y : Bool) → is_table s ≡ x → table_sound (held_table s) ≡ y
        → ◌≡◌ {A = TableLeft} (record { result = 16777216; table = s; out = b }) (console_host_step s place e b)
    by false y p q = rw p
    by true false p q = rw (p, q)
    by true true p q = let no : true ≡ false = (λ i. sym p i && sym q i) ∙ neither in absurd (true≢false no)

pub whole : (s : List ℕ) (place : ℕ) (e b : List ℕ) → is_table s ≡ true → console_left s (console_of (held_table s) place e b) ≡ console_host_step s place e b
unfolding console_host_step
whole s place e b is = rw is

-- what a step that is taken leaves, where its records are packed
pub taken_left : (s : List ℕ) {o x : ConsoleOutcome} → o ≡ x → o.answer ≡ 0 → o.place ≡ 0 → {after : List ℕ} → after ≡ packed_into o.calls s
    → ◌≡◌ {A = TableLeft} (record { result = o.count; table = after; out = o.buffer }) (console_left s x)
taken_left s {o} step none no_place {after} pack =
    let n : o.count ≡ word o.answer o.place o.count = omega arith in
    let t : after ≡ cond (eqb o.answer 0) (packed_into o.calls s) s = rw (eq-eqb o.answer 0 none) pack in
    (λ i. record { result = n i; table = t i; out = o.buffer }) ∙ ap (console_left s) step

-- one that is refused leaves the bytes
pub refused_left : (s b : List ℕ) (a : ConsoleRefusal) (calls : List Call) {x : ConsoleOutcome} → refuses_at (console_number a) (console_place a) calls b ≡ x
    → as_left (Err a) s b ≡ console_left s x
refused_left s b a calls step =
    let some : console_number a ≡ 0 → ⊥ = λ none. omega (arith, refused_some a, none) in
    let same : as_left (Err a) s b ≡ console_left s (refuses_at (console_number a) (console_place a) calls b) = rw (ne_eqb (console_number a) 0 some) in
    same ∙ ap (console_left s) step

pub few_written : (k : ℕ) (c : Call) (e : Event) (b : List ℕ) {o : Outcome} → o ≡ placed k c e b → o.count ≤ 127
few_written k c e b is = rw is (place_few k c e b)
