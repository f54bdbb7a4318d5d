-- What a step's entry answers, from what its callees give.
use Rattle.std.proofs.Common.{ℕ, ◌≡◌, refl, false, List, length}
use Rattle.std.proofs.Math.Option.{some, none}
use native.Mathlib.Nat.{zero-add}
use borrow.Author.Tests.{eqb-true}
use lib.Dec.{eqb}
use Rattle.records.specs.declared.bodies.Unreadable.{Unreadable}
use Rattle.records.proofs.Laws.{by_test}
use Rattle.direct.specs.declared.call.Call.{Call}
use Rattle.direct.specs.declared.step.Refusal.{Refusal}
use Rattle.direct.specs.Step.{Outcome, refusal_at, refusal_number, refusal_place, step_of}
use Rattle.host_direct.specs.Packing.{packed, is_record, unpacked}
use Rattle.host_direct.specs.Entries.{Left, word, stepped, host_step}
use Rattle.host_direct.proofs.Packing.{written_over}

-- a record has 7 bytes
pub record_length : (s : List ℕ) {c : Call} → some c ≡ unpacked s → length s ≡ 7
unfolding unpacked is_record
record_length s {c} holds = by_test (eqb (length s) 7) (eqb-true (length s) 7) (λ other. let none_held : some c ≡ none = rw other at holds in cc)

-- no refusal has the number of what is taken
refusal_nonzero : (r : Refusal) → eqb (refusal_number r) 0 ≡ false
refusal_nonzero Refusal.NotSound = refl
refusal_nonzero (Refusal.Unreadable Unreadable.BadLength) = refl
refusal_nonzero (Refusal.Unreadable Unreadable.UnknownKind) = refl
refusal_nonzero (Refusal.Unreadable Unreadable.Retired) = refl
refusal_nonzero (Refusal.Unreadable (Unreadable.BadBody place)) = refl
refusal_nonzero Refusal.NoRoom = refl
refusal_nonzero Refusal.BeyondLimits = refl
refusal_nonzero Refusal.NoRow = refl

module _ (s e b : List ℕ) where
  -- bytes that are no record
  pub no_record : none ≡ unpacked s → ◌≡◌ {A = Left} (record { result = 16777216; call = s; out = b }) (host_step s e b)
  unfolding host_step
  no_record none_held = rw (← none_held)

  module _ {c : Call} (holds : some c ≡ unpacked s) {o : Outcome} (step : o ≡ step_of c e b) where
    whole : stepped s o ≡ host_step s e b
    unfolding host_step
    whole = rw (← holds, ← step)

  -- a step that is taken is packed
  pub packs : {c next : Call} {count : ℕ} {after out : List ℕ} → some c ≡ unpacked s
      → ◌≡◌ {A = Outcome} (record { answer = 0; place = 0; call = next; count = count; buffer = out }) (step_of c e b)
      → after ≡ packed next → ◌≡◌ {A = Left} (record { result = count; call = after; out = out }) (host_step s e b)
  packs {next = next} holds step pack = rw (pack, ← written_over s next (record_length s holds)) (rw zero-add at (whole holds step))

  -- one that is refused leaves the bytes
  pub leaves : {c : Call} (r : Refusal) {n p result : ℕ} {out : List ℕ} → some c ≡ unpacked s
      → refusal_at (refusal_number r) (refusal_place r) c out ≡ step_of c e b
      → n ≡ refusal_number r → p ≡ refusal_place r → result ≡ word n p 0 → ◌≡◌ {A = Left} (record { result = result; call = s; out = out }) (host_step s e b)
  leaves r holds step number place said = rw (said, number, place) (rw (refusal_nonzero r) at (whole holds step))
