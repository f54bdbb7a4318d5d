-- Every step gives the first answer that applies; a refusal gives the record back and writes nothing; what is taken gives the record and the
-- bytes of the event's row; no row writes more than 27 bytes.
use Prim.Native.Nat.{ℕ, ◌≤◌}
use mathlib.Core.Path.{◌≡◌, refl, sym, ◌∙◌, ap}
use mathlib.Core.Bool.{Bool, true, false, cond, not, ◌&&◌, ◌||◌}
use mathlib.Core.List.{List}
use mathlib.Core.Option.{some}
use native.Mathlib.Omega.{arith}
use borrow.Author.Tests.{le-leb}
use lib.Dec.{leb}
use lib.ListN.{length}
use Rattle.records.specs.Bodies.{flat_size}
use Rattle.records.specs.Tables.{Read, taken, refused, read}
use Rattle.records.proofs.Places.{place_only_with_four}
use Rattle.direct.specs.declared.events.Event.{Event}
use Rattle.direct.specs.declared.call.Call.{Call}
use Rattle.direct.specs.Events.{events}
use Rattle.direct.specs.Messages.{message_size, bytes_of, sizes_of}
use Rattle.direct.specs.Call.{fresh_call, sound}
use Rattle.direct.specs.Draft.{Draft, messages_in}
use Rattle.direct.specs.Rows.{asked, awaited, given_up, connected, released, again, exhausted, row_for}
use Rattle.direct.specs.Step.{Outcome, refusal_at, refusal, beyond, carried, decided, when_read, step_of}
use Rattle.direct.specs.Runs.{Turn, outcome, run, taken_by, written_by}
use Rattle.direct.specs.Demands.{wrong_length, no_kind, bad_body, of_event, applies, Answered, Refused, Placed, PlaceOnlyWithFour, BeyondGetsSixty, NeverUnsound, Zero, Taken, AtMost27, Enough27}
use Rattle.direct.proofs.Tables.{event_lawful}
use Rattle.direct.proofs.Carried.{length-bytes_of}
use Rattle.direct.proofs.Reading.{Reads, bad_length, no_kind_lem, bad_body_lem, is, reads}
use Rattle.direct.proofs.Turns.{apart, by_tests, Accepted, Turned, passed, took, turned, accepts, Which, asks, awaits, gives_up_lem, connects, rejects, disconnects, retries, exhausts, which, row_of}
use Rattle.direct.proofs.Kept.{reached}

event_reads : (s : List ℕ) → Reads events s (read events s)
event_reads = reads events event_lawful (λ e. refl) (λ n. refl)

-- ---- the first answer

module _ (c : Call) (buffer : List ℕ) where
  event_answered : (over row room : Bool) (d : Draft) → (by_tests over row room c d buffer).answer ≡ cond over 60 (cond (not row) 61 (cond (not room) 7 0))
  event_answered true row room d = refl
  event_answered false false room d = refl
  event_answered false true false d = refl
  event_answered false true true d = refl

  step_answered : (ok : Bool) (s : List ℕ) (r : Read Event) → Reads events s r →
      (cond ok (when_read r c buffer) (refusal 1 c buffer)).answer
      ≡ cond (not ok) 1
      (cond (wrong_length s) 2
      (cond (no_kind events s) 3
      (cond (bad_body events s) 4
      (cond (of_event beyond r) 60
      (cond (of_event (λ e. not (row_for c e).taken) r) 61
      (cond (of_event (λ e. not (leb (length (bytes_of (messages_in (row_for c e)))) (length buffer))) r) 7 0))))))
  unfolding decided carried
  step_answered false s r v = refl
  step_answered true s r (bad_length l) = rw l
  step_answered true s r (no_kind_lem l k) = rw (l, k)
  step_answered true s r (bad_body_lem l k b) = rw (l, k, b)
  step_answered true s r (is {v = e} l k b f) =
      rw (l, k, b) (event_answered (beyond e) (row_for c e).taken (leb (length (bytes_of (messages_in (row_for c e)))) (length buffer)) (row_for c e))

pub answered : Answered
unfolding step_of applies
answered c bytes buffer = step_answered c buffer (sound c) bytes (read events bytes) (event_reads bytes)

-- ---- a refusal gives the record back

refused_as : (c : Call) (t : Turn) (n : ℕ) → Turned c t → (outcome c t).answer ≡ n → (n ≡ 0 → ⊥) → outcome c t ≡ refusal_at n (outcome c t).place c t.buffer
refused_as c t n (passed {n = m} {place = q} p) h not_zero =
    let same : m ≡ n = ap (λ o. o.answer) (sym p.gives) ∙ h in
    let place : q ≡ (outcome c t).place = ap (λ o. o.place) (sym p.gives) in
    p.gives ∙ ap (λ m. refusal_at m q c t.buffer) same ∙ ap (λ q. refusal_at n q c t.buffer) place
refused_as c t n (took e a) h not_zero = absurd (not_zero (sym h ∙ ap (λ o. o.answer) a.gives))

pub refuses : Refused
unfolding outcome
refuses c bytes buffer n = let t : Turn = record { event = bytes; buffer = buffer } in refused_as c t n (turned c t)

-- ---- a place comes with 4 alone, and is the reader's

pub placed : Placed
unfolding step_of
placed c bytes buffer n place ok reads = rw (ok, reads)

event_placeless : (over row room : Bool) (c : Call) (d : Draft) (buffer : List ℕ) → (by_tests over row room c d buffer).place ≡ 0
event_placeless true row room c d buffer = refl
event_placeless false false room c d buffer = refl
event_placeless false true false c d buffer = refl
event_placeless false true true c d buffer = refl

step_placeless : (ok : Bool) (s : List ℕ) (r : Read Event) → read events s ≡ r → (c : Call) (buffer : List ℕ)
    → ((cond ok (when_read r c buffer) (refusal 1 c buffer)).answer ≡ 4 → ⊥) → (cond ok (when_read r c buffer) (refusal 1 c buffer)).place ≡ 0
unfolding decided carried
step_placeless false s r h c buffer other = refl
step_placeless true s (taken e) h c buffer other =
    event_placeless (beyond e) (row_for c e).taken (leb (length (bytes_of (messages_in (row_for c e)))) (length buffer)) c (row_for c e) buffer
step_placeless true s (refused n place) h c buffer other = place_only_with_four events event_lawful s n place h other

pub placeless : PlaceOnlyWithFour
unfolding step_of
placeless c bytes buffer = step_placeless (sound c) bytes (read events bytes) refl c buffer

-- ---- 60, whatever the state

not_all : (a b d : Bool) → (a && (b && d)) ≡ false → (not a || not b || not d) ≡ true
not_all true true true h = apart refl h
not_all true true false h = refl
not_all true false d h = refl
not_all false b d h = refl

pub beyond_gets_sixty : BeyondGetsSixty
unfolding step_of decided
beyond_gets_sixty c bytes buffer t l m ok reads h = rw (ok, reads, not_all (leb 1 m) (leb m 15) (leb l t) h)

-- ---- 1 never in a run

never : (c : Call) (t : Turn) → sound c ≡ true → (outcome c t).answer ≡ 1 → ⊥
unfolding outcome step_of decided carried
never c t ok h = by (read events t.event) (event_reads t.event) (rw ok at h)
  where
    tests : (over row room : Bool) (d : Draft) → (by_tests over row room c d t.buffer).answer ≡ 1 → ⊥
    tests true row room d z = omega arith
    tests false false room d z = omega arith
    tests false true false d z = omega arith
    tests false true true d z = omega arith

    by : (r : Read Event) → Reads events t.event r → (when_read r c t.buffer).answer ≡ 1 → ⊥
    by r (bad_length l) z = omega arith
    by r (no_kind_lem l k) z = omega arith
    by r (bad_body_lem l k b) z = omega arith
    by r (is {v = e} l k b f) z = tests (beyond e) (row_for c e).taken (leb (length (bytes_of (messages_in (row_for c e)))) (length t.buffer)) (row_for c e) z

pub never_unsound : NeverUnsound
never_unsound ts t = never (run fresh_call ts) t (reached ts).meets

-- ---- what is taken gives the row's record and bytes

pub taken_gives : Taken
unfolding written_by
taken_gives c t e h =
    let a : Accepted c t e = accepts c t e h in
    (a.reads, a.leaves, rw h (ap (λ o. o.count) a.gives), rw h (ap (λ o. o.buffer) a.gives))

zero_took : (c : Call) (t : Turn) → Turned c t → (outcome c t).answer ≡ 0 → (e : Event) × (taken_by c t ≡ some e)
zero_took c t (passed p) h = absurd (p.number (ap (λ (o : Outcome). o.answer) (sym p.gives) ∙ h))
zero_took c t (took e a) h = (e, a.takes)

pub zero_is_taken : Zero
zero_is_taken c t = zero_took c t (turned c t)

-- ---- 27 bytes

pub row_size : (c : Call) (e : Event) (d : Draft) → Which c e d → sizes_of (messages_in d) ≤ 27
unfolding asked awaited given_up connected released again exhausted sizes_of message_size flat_size
row_size c e d (asks s) = omega arith
row_size c e d (awaits s run v) = omega arith
row_size c e d (gives_up_lem s run) = omega arith
row_size c e d (connects s run w) = omega arith
row_size c e d (rejects s run w) = omega arith
row_size c e d (disconnects s run) = omega arith
row_size c e d (retries s run n more) = omega arith
row_size c e d (exhausts s run n more) = omega arith

pub at_most_27 : AtMost27
at_most_27 c t = by (turned c t)
  where
    by : Turned c t → (outcome c t).count ≤ 27
    by (passed p) = rw p.gives (omega arith)
    by (took e a) = rw (a.gives, length-bytes_of) (row_size c e (row_for c e) (row_of a))

pub enough_27 : Enough27
unfolding outcome step_of decided carried
enough_27 c t room h = by (sound c) (read events t.event) (event_reads t.event) h
  where
    tests : (e : Event) (over row : Bool) → (row_for c e).taken ≡ row → (by_tests over row (leb (length (bytes_of (messages_in (row_for c e)))) (length t.buffer)) c (row_for c e) t.buffer).answer ≡ 7 → ⊥
    tests e true row k z = omega arith
    tests e false false k z = omega arith
    tests e false true k z =
        let fits : leb (length (bytes_of (messages_in (row_for c e)))) (length t.buffer) ≡ true = rw length-bytes_of (le-leb (sizes_of (messages_in (row_for c e))) (length t.buffer) (omega (arith, row_size c e (row_for c e) (which c e k)))) in
        let y : ◌≡◌ {A = ℕ} 0 7 = rw fits at z in omega arith

    by : (ok : Bool) (r : Read Event) → Reads events t.event r → (cond ok (when_read r c t.buffer) (refusal 1 c t.buffer)).answer ≡ 7 → ⊥
    by false r v z = omega arith
    by true r (bad_length l) z = omega arith
    by true r (no_kind_lem l k) z = omega arith
    by true r (bad_body_lem l k b) z = omega arith
    by true r (is {v = e} l k b f) z = tests e (beyond e) (row_for c e).taken refl z
