-- Every step gives the first answer that applies; a refusal gives the record back and writes nothing; what is taken gives the
-- record and the bytes of the event's row.
use Prim.Native.Nat.{ℕ}
use mathlib.Core.Path.{◌≡◌, refl, sym, ◌∙◌, ap}
use mathlib.Core.Bool.{Bool, true, false, cond, not}
use mathlib.Core.List.{List}
use mathlib.Core.Option.{some}
use lib.Dec.{leb}
use lib.ListN.{length}
use Rattle.records.specs.declared.events.Event.{Event}
use Rattle.records.specs.Tables.{Read, taken, refused, read}
use Rattle.records.specs.Events.{events}
use Rattle.records.proofs.Places.{event_place_only_with_four}
use Rattle.callcontrol.specs.declared.call.Call.{Call}
use Rattle.callcontrol.specs.Draft.{Draft}
use Rattle.callcontrol.specs.Call.{sound}
use Rattle.callcontrol.specs.Rows.{row_for}
use Rattle.callcontrol.specs.Writing.{messages_in, bytes_of}
use Rattle.callcontrol.specs.Step.{Outcome, refusal_at, refusal, other_call, over_transmission, carried, decided, when_read, step_of}
use Rattle.demands.specs.Runs.{Turn, outcome, taken_by, written_by}
use Rattle.demands.specs.Demands.{wrong_length, no_kind, retired_kind, bad_body, of_event, applies, Answered, Refused, Placed, PlaceOnlyWithFour, Zero, Taken}
use Rattle.demands.proofs.Reading.{Reads, bad_length, no_kind_lem, retired, bad_body_lem, is, reads}
use Rattle.demands.proofs.Turns.{by_tests, Accepted, Turned, passed, took, turned, accepts}

-- ---- the first answer

module _ (c : Call) (buffer : List ℕ) where
  event_answered : (other row over room : Bool) (d : Draft) → (by_tests other row over room c d buffer).answer ≡ cond other 5 (cond (not row) 6 (cond over 8 (cond (not room) 7 0)))
  event_answered true row over room d = refl
  event_answered false false over room d = refl
  event_answered false true true room d = refl
  event_answered false true false false d = refl
  event_answered false true false true d = refl

  step_answered : (ok : Bool) (s : List ℕ) (r : Read Event) → Reads s r →
      (cond ok (when_read r c buffer) (refusal 1 c buffer)).answer
      ≡ cond (not ok) 1
      (cond (wrong_length s) 2
      (cond (no_kind s) 3
      (cond (retired_kind s) 9
      (cond (bad_body s) 4
      (cond (of_event (λ e. other_call c e) r) 5
      (cond (of_event (λ e. not (row_for c e).taken) r) 6
      (cond (of_event (λ e. over_transmission c e) r) 8
      (cond (of_event (λ e. not (leb (length (bytes_of (messages_in (row_for c e)))) (length buffer))) r) 7 0))))))))
  unfolding decided carried
  step_answered false s r v = refl
  step_answered true s r (bad_length l) = rw l
  step_answered true s r (no_kind_lem l k) = rw (l, k)
  step_answered true s r (retired l k n) = rw (l, k, n)
  step_answered true s r (bad_body_lem l k n b) = rw (l, k, n, b)
  step_answered true s r (is {e} l k n b f) =
      rw (l, k, n, b) (event_answered (other_call c e) (row_for c e).taken (over_transmission c e) (leb (length (bytes_of (messages_in (row_for c e)))) (length buffer)) (row_for c e))

pub answered : Answered
unfolding step_of applies
answered c bytes buffer = step_answered c buffer (sound c) bytes (read events bytes) (reads bytes)

-- ---- a refusal gives the record back

refused_as : (c : Call) (t : Turn) (n : ℕ) → Turned c t → (outcome c t).answer ≡ n → (n ≡ 0 → ⊥) → outcome c t ≡ refusal_at n (outcome c t).place c t.buffer
refused_as c t n (passed {n = m} {place = q} p) h not_zero =
    let same : m ≡ n = ap (λ o. o.answer) (sym p.gives) ∙ h in
    let place : q ≡ (outcome c t).place = ap (λ o. o.place) (sym p.gives) in
    p.gives ∙ ap (λ m. refusal_at m q c t.buffer) same ∙ ap (λ q. refusal_at n q c t.buffer) place
refused_as c t n (took e a) h not_zero = absurd (not_zero (sym h ∙ ap (λ o. o.answer) a.gives))

pub refuses : Refused
unfolding outcome
refuses c bytes buffer n = let t : Turn = record { event = bytes; buffer = buffer } in refused_as c t n (turned c t)

-- ---- a place comes with 4 alone, and is the reader's

pub placed : Placed
unfolding step_of
placed c bytes buffer n place ok reads = rw (ok, reads)

event_placeless : (other row over room : Bool) (c : Call) (d : Draft) (buffer : List ℕ) → (by_tests other row over room c d buffer).place ≡ 0
event_placeless true row over room c d buffer = refl
event_placeless false false over room c d buffer = refl
event_placeless false true true room c d buffer = refl
event_placeless false true false false c d buffer = refl
event_placeless false true false true c d buffer = refl

step_placeless : (ok : Bool) (s : List ℕ) (r : Read Event) → read events s ≡ r → (c : Call) (buffer : List ℕ)
    → ((cond ok (when_read r c buffer) (refusal 1 c buffer)).answer ≡ 4 → ⊥) → (cond ok (when_read r c buffer) (refusal 1 c buffer)).place ≡ 0
unfolding decided carried
step_placeless false s r h c buffer other = refl
step_placeless true s (taken e) h c buffer other =
    event_placeless (other_call c e) (row_for c e).taken (over_transmission c e) (leb (length (bytes_of (messages_in (row_for c e)))) (length buffer)) c (row_for c e) buffer
step_placeless true s (refused n place) h c buffer other = event_place_only_with_four s n place h other

pub place_only_with_four : PlaceOnlyWithFour
unfolding step_of
place_only_with_four c bytes buffer = step_placeless (sound c) bytes (read events bytes) refl c buffer

-- ---- what is taken gives the row's record and bytes

pub taken_gives : Taken
unfolding written_by
taken_gives c t e h =
    let a : Accepted c t e = accepts c t e h in
    (a.reads, a.leaves, rw h (ap (λ o. o.count) a.gives), rw h (ap (λ o. o.buffer) a.gives))

-- ---- 0 says that an event was taken

zero_took : (c : Call) (t : Turn) → Turned c t → (outcome c t).answer ≡ 0 → (e : Event) × (taken_by c t ≡ some e)
zero_took c t (passed p) h = absurd (p.number (ap (λ (o : Outcome). o.answer) (sym p.gives) ∙ h))
zero_took c t (took e a) h = (e, a.takes)

pub zero_is_taken : Zero
zero_is_taken c t = zero_took c t (turned c t)
