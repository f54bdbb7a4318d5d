-- What the entries answer, from what their callees give.
use Prim.Native.Nat.{ℕ, ◌≤◌}
use mathlib.Core.Path.{◌≡◌, refl, ◌∙◌}
use mathlib.Core.Bool.{true, false, cond, and-true, and_assoc}
use mathlib.Core.List.{List}
use native.Mathlib.Omega.{arith}
use borrow.Author.Tests.{eq-eqb, eqb-true, le-leb}
use lib.Dec.{eqb, leb}
use lib.Seq.{sets}
use lib.ListN.{length, get_or, take, drop}
use Rattle.std.specs.List.{list_all}
use Rattle.std.specs.Prelude.{Some, None}
use Rattle.callcontrol.specs.declared.call.Call.{Call}
use Rattle.records.specs.declared.bodies.Unreadable.{Unreadable}
use Rattle.callcontrol.specs.declared.step.Refusal.{Refusal}
use Rattle.callcontrol.specs.Step.{Outcome, refusal_at, answer_number, place_in, step_of}
use Rattle.host.specs.Packing.{packed, is_record, held, unpacked}
use Rattle.host.specs.Entries.{Left, word, stepped, host_step}
use Rattle.demands.proofs.Facts.{left, right}
use Rattle.host.proofs.Packing.{items_drop}
use Rattle.host.proofs.Tested.{some_by_test, none_by_test}

-- bytes that are no record
pub no_record : (s e b : List ℕ) → None ≡ cond (is_record s) (Some (held s)) None
    → ◌≡◌ {A = Left} (record { result = 16777216; call = s; out = b }) (host_step s e b)
unfolding host_step unpacked
no_record s e b none = rw (none_by_test _ _ none)

-- 22 bytes with a state and a path are a record where their flags are
pub of_flags : (s : List ℕ) → length s ≡ 22 → get_or s 0 0 ≤ 5 → get_or s 10 0 ≤ 2
    → is_record s ≡ list_all (λ flag. leb flag 1) (take 7 (drop 14 s))
unfolding is_record
of_flags s e a b = rw (eq-eqb _ _ e, le-leb _ _ a, le-leb _ _ b, ← items_drop 8 14 s 0 e) (simp (and_assoc, and-true))

-- a record has 22 bytes
pub long_record : (s : List ℕ) → is_record s ≡ true → length s ≡ 22
unfolding is_record
long_record s all = let whole : eqb (length s) 22 ≡ true = search (left, right) depth 20 in eqb-true _ _ whole

pub record_length : (s : List ℕ) {c : Call} → Some c ≡ cond (is_record s) (Some (held s)) None → length s ≡ 22
record_length s before = long_record s (some_by_test _ before).0

-- what a step leaves
pub steps : (s e b : List ℕ) {c : Call} {o : Outcome} {l : Left} → Some c ≡ cond (is_record s) (Some (held s)) None → o ≡ step_of c e b → l ≡ stepped s o
    → l ≡ host_step s e b
unfolding host_step unpacked
steps s e b before step is =
    let t = some_by_test (is_record s) before in
    is ∙ rw (t.0, t.1, step)

-- a refusal has a number above 0, so that it leaves the bytes
above_0 : (e : Refusal) → eqb (answer_number e) 0 ≡ false
above_0 Refusal.NotSound = refl
above_0 (Refusal.Unreadable Unreadable.BadLength) = refl
above_0 (Refusal.Unreadable Unreadable.UnknownKind) = refl
above_0 (Refusal.Unreadable Unreadable.Retired) = refl
above_0 (Refusal.Unreadable (Unreadable.BadBody place)) = refl
above_0 Refusal.OtherCall = refl
above_0 Refusal.NoRow = refl
above_0 Refusal.NoRoom = refl
above_0 Refusal.OwnTransmission = refl

pub refuses : (s out : List ℕ) (e : Refusal) (c : Call) {r : ℕ} → r ≡ word (answer_number e) (place_in e) 0
    → ◌≡◌ {A = Left} (record { result = r; call = s; out = out }) (stepped s (refusal_at (answer_number e) (place_in e) c out))
refuses s out e c is = rw (is, above_0 e)

pub packs : (s out : List ℕ) (next : Call) (n : ℕ) {after : List ℕ} → after ≡ sets s 0 (packed next)
    → ◌≡◌ {A = Left} (record { result = n; call = after; out = out })
    (stepped s (record { answer = 0; place = 0; call = next; count = n; buffer = out }))
packs s out next n pack =
    let whole : n ≡ word 0 0 n = omega arith in
    λ i. record { result = whole i; call = pack i; out = out }
