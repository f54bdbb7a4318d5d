-- What the step does with an event that was read: where it is taken, the bytes written are those of the row's messages, each in range; where it
-- is refused, no byte is changed.
use Prim.Native.Nat.{ℕ, ◌≤◌}
use mathlib.Core.Path.{◌≡◌, refl, sym, ◌∙◌, ap}
use mathlib.Core.Bool.{true}
use mathlib.Core.List.{List}
use mathlib.Core.Option.{some}
use native.Mathlib.Omega.{arith}
use borrow.Author.Tests.{eq-eqb, ne_eqb, leb-true}
use lib.Dec.{eqb, leb}
use lib.ListN.{length, take}
use lib.Seq.{length-sets}
use Rattle.std.specs.Prelude.{Ok, Err}
use Rattle.records.specs.declared.bodies.Unreadable.{Unreadable}
use Rattle.records.specs.declared.events.Event.{Event}
use Rattle.records.specs.Tables.{taken, read}
use Rattle.records.specs.Events.{events}
use Rattle.timers.specs.declared.bank.Bank.{Bank}
use Rattle.timers.specs.Bank.{advanced_to}
use Rattle.callcontrol.specs.declared.call.Call.{Call}
use Rattle.callcontrol.specs.declared.step.Refusal.{Refusal as CallRefusal}
use Rattle.callcontrol.specs.declared.step.Stepped.{Stepped as CallStepped}
use Rattle.callcontrol.specs.Call.{sound}
use Rattle.callcontrol.specs.Rows.{row_for}
use Rattle.callcontrol.specs.Writing.{messages_in, bytes_of}
use Rattle.callcontrol.specs.Step.{Outcome as CallOutcome, answer_number, place_in, as_outcome as as_call_outcome, other_call, over_transmission, carried, decided, step_of}
use Rattle.demands.specs.Runs.{Turn, outcome, next, taken_by, written_by}
use Rattle.demands.proofs.Facts.{either}
use Rattle.demands.proofs.Turns.{Accepted, accepts}
use Rattle.demands.proofs.ReadsBack.{stored}
use Rattle.demands.proofs.WrittenInRange.{step_in_range}
use Rattle.timers.proofs.Tests.{decide}
use Rattle.timed.specs.declared.set.Timed.{Timed}
use Rattle.timed.specs.declared.set.Refusal.{Refusal}
use Rattle.timed.specs.Set.{started_all, turned}
use Rattle.timed.specs.Entries.{Outcome, refusal_at, of_turn, turn_of}
use Rattle.timed.specs.Parts.{joined, Readable, Messages, AllDone, of_event}

-- no refusal has the number of what is taken
refused_number : (e : CallRefusal) → answer_number e ≡ 0 → ⊥
refused_number CallRefusal.NotSound z = omega arith
refused_number (CallRefusal.Unreadable Unreadable.BadLength) z = omega arith
refused_number (CallRefusal.Unreadable Unreadable.UnknownKind) z = omega arith
refused_number (CallRefusal.Unreadable Unreadable.Retired) z = omega arith
refused_number (CallRefusal.Unreadable (Unreadable.BadBody place)) z = omega arith
refused_number CallRefusal.OtherCall z = omega arith
refused_number CallRefusal.NoRow z = omega arith
refused_number CallRefusal.NoRoom z = omega arith
refused_number CallRefusal.OwnTransmission z = omega arith

-- ---- a refusal

abbrev Keeps : List ℕ → CallOutcome → Type 0
Keeps buffer o = (o.answer ≡ 0 → ⊥) → o.buffer ≡ buffer

keeps : (c : Call) (e : Event) (buffer : List ℕ) → Keeps buffer (decided c e buffer)
unfolding decided carried
keeps c e buffer =
    either (Keeps buffer) (other_call c e) (λ h. refl)
    (either (Keeps buffer) (row_for c e).taken
    (either (Keeps buffer) (over_transmission c e) (λ h. refl)
    (either (Keeps buffer) (leb (length (bytes_of (messages_in (row_for c e)))) (length buffer)) (λ h. absurd (h refl)) (λ h. refl)))
    (λ h. refl))

pub refused_event : (place : ℕ) (t : Timed) (b : Bank) (lengths : List ℕ) (e : Event) (buffer after : List ℕ) (f : CallRefusal)
    → as_call_outcome t.call (Err f) after ≡ decided t.call e buffer → refusal_at (answer_number f) (place_in f) t after ≡ of_event place t b lengths e buffer
unfolding of_event
refused_event place t b lengths e buffer after f is =
    let number : answer_number f ≡ (decided t.call e buffer).answer = ap (λ (o : CallOutcome). o.answer) is in
    let placed : place_in f ≡ (decided t.call e buffer).place = ap (λ (o : CallOutcome). o.place) is in
    let other : (decided t.call e buffer).answer ≡ 0 → ⊥ = λ z. refused_number f (number ∙ z) in
    let left : after ≡ buffer = ap (λ (o : CallOutcome). o.buffer) is ∙ keeps t.call e buffer other in
    rw (ne_eqb _ 0 other, ← number, ← placed, left)

-- an event on a sound record is not refused as the record's fault
known : (c : Call) (e : Event) (buffer : List ℕ) → (decided c e buffer).answer ≡ 1 → ⊥
unfolding decided carried
known c e buffer =
    let P : CallOutcome → Type 0 = λ o. o.answer ≡ 1 → ⊥ in
    either P (other_call c e) (λ h. omega (arith, h))
    (either P (row_for c e).taken
    (either P (over_transmission c e) (λ h. omega (arith, h))
    (either P (leb (length (bytes_of (messages_in (row_for c e)))) (length buffer)) (λ h. omega (arith, h)) (λ h. omega (arith, h))))
    (λ h. omega (arith, h)))

pub not_unsound : (c : Call) (e : Event) (buffer after : List ℕ) (f : CallRefusal) → as_call_outcome c (Err f) after ≡ decided c e buffer
    → Refusal.OfStep f ≡ Refusal.OfStep CallRefusal.NotSound → ⊥
not_unsound c e buffer after f is same =
    let own : f ≡ CallRefusal.NotSound = cc in
    known c e buffer (sym (ap (λ (o : CallOutcome). o.answer) is) ∙ ap answer_number own)

-- ---- an event that is taken

-- the event on its record is a turn of the step
pub is_turn : (c : Call) (e : Event) (bytes buffer : List ℕ) → sound c ≡ true → read events bytes ≡ taken e → outcome c (turn_of bytes buffer) ≡ decided c e buffer
unfolding outcome step_of
is_turn c e bytes buffer s r = rw (s, r)

takes : (c : Call) (e : Event) (bytes buffer : List ℕ) → sound c ≡ true → read events bytes ≡ taken e → (decided c e buffer).answer ≡ 0 → taken_by c (turn_of bytes buffer) ≡ some e
unfolding taken_by
takes c e bytes buffer s r zero = rw (is_turn c e bytes buffer s r, eq-eqb _ 0 zero, r)

-- the bytes that it counts are those of the row's messages
pub wrote : (c : Call) (e : Event) (buffer after : List ℕ) (r : CallStepped) → sound c ≡ true → length c.timers ≡ 7 → Readable e → as_call_outcome c (Ok r) after ≡ decided c e buffer
    → Messages (take r.count after) (messages_in (row_for c e))
unfolding written_by
wrote c e buffer after r s seven (bytes, reads) is =
    let t : Turn = turn_of bytes buffer in
    let none : (decided c e buffer).answer ≡ 0 = sym (ap (λ (o : CallOutcome). o.answer) is) in
    let h : taken_by c t ≡ some e = takes c e bytes buffer s reads none in
    let a : Accepted c t e = accepts c t e h in
    let all : as_call_outcome c (Ok r) after ≡ outcome c t = is ∙ sym (is_turn c e bytes buffer s reads) in
    let count : r.count ≡ length (bytes_of (messages_in (row_for c e))) = ap (λ (o : CallOutcome). o.count) (all ∙ a.gives) in
    let stored_is : take r.count after ≡ bytes_of (messages_in (row_for c e)) =
    rw (count, ap (λ (o : CallOutcome). o.buffer) (all ∙ a.gives)) (stored (bytes_of (messages_in (row_for c e))) buffer (leb-true _ _ a.room)) in
    (rw h at (step_in_range c t (record { size = seven; meets = s })), stored_is)

-- and there are no more of them than bytes were lent
pub fits_in : (c : Call) (e : Event) (buffer after : List ℕ) (r : CallStepped) → sound c ≡ true → Readable e → as_call_outcome c (Ok r) after ≡ decided c e buffer
    → r.count ≤ length after
fits_in c e buffer after r s (bytes, reads) is =
    let t : Turn = turn_of bytes buffer in
    let none : (decided c e buffer).answer ≡ 0 = sym (ap (λ (o : CallOutcome). o.answer) is) in
    let a : Accepted c t e = accepts c t e (takes c e bytes buffer s reads none) in
    let all : as_call_outcome c (Ok r) after ≡ outcome c t = is ∙ sym (is_turn c e bytes buffer s reads) in
    let count : r.count ≡ length (bytes_of (messages_in (row_for c e))) = ap (λ (o : CallOutcome). o.count) (all ∙ a.gives) in
    let size : length after ≡ length buffer = ap (λ (o : CallOutcome). length o.buffer) (all ∙ a.gives) ∙ length-sets buffer 0 (bytes_of (messages_in (row_for c e))) in
    let room : length (bytes_of (messages_in (row_for c e))) ≤ length buffer = leb-true _ _ a.room in
    omega arith

pub taken_event : (place : ℕ) (t : Timed) (b started : Bank) (lengths : List ℕ) (e : Event) (buffer after : List ℕ) (r : CallStepped) → sound t.call ≡ true
    → length t.call.timers ≡ 7
    → Readable e
    → as_call_outcome t.call (Ok r) after ≡ decided t.call e buffer
    → AllDone lengths b (take r.count after) started
    → ◌≡◌ {A = Outcome} (record { answer = 0; place = place; timed = joined r.call started; count = r.count; buffer = after }) (of_event place t b lengths e buffer)
unfolding of_event
taken_event place t b started lengths e buffer after r s seven readable is done =
    let none : (decided t.call e buffer).answer ≡ 0 = sym (ap (λ (o : CallOutcome). o.answer) is) in
    let call : r.call ≡ (decided t.call e buffer).call = ap (λ (o : CallOutcome). o.call) is in
    let count : r.count ≡ (decided t.call e buffer).count = ap (λ (o : CallOutcome). o.count) is in
    let bytes : after ≡ (decided t.call e buffer).buffer = ap (λ (o : CallOutcome). o.buffer) is in
    let starts : started ≡ started_all lengths b (messages_in (row_for t.call e)) = done (messages_in (row_for t.call e)) (wrote t.call e buffer after r s seven readable is) in
    rw (eq-eqb _ 0 none, starts, ← call, ← count, ← bytes)

-- ---- the same as a turn

pub as_turn : (place : ℕ) (t : Timed) (lengths : List ℕ) (reading : ℕ) (bytes buffer : List ℕ) (e : Event) → sound t.call ≡ true → read events bytes ≡ taken e
    → of_event place t (advanced_to t.bank reading) lengths e buffer ≡ of_turn place t lengths reading (turn_of bytes buffer)
unfolding of_event of_turn turned next written_by taken_by
as_turn place t lengths reading bytes buffer e s r =
    let o : outcome t.call (turn_of bytes buffer) ≡ decided t.call e buffer = is_turn t.call e bytes buffer s r in
    let n : next t.call (turn_of bytes buffer) ≡ (decided t.call e buffer).call = ap (λ (x : CallOutcome). x.call) o in
    decide (eqb (decided t.call e buffer).answer 0) (λ q. rw (n, o, r, q)) (λ q. rw (n, o, r, q))
