-- The promises leave no choice: two results that a function's own `ensures` allows are equal, and so are the buffers that it leaves. `Learnt` is that `ensures` as a
-- caller learns it, of the arguments, the result, and the parameters when it returns.
use Rattle.std.proofs.Common.{ℕ, zero, suc, ◌≤◌, ◌≡◌, refl, sym, ◌∙◌, ap, arith, List, Result, Ok, Err}
use mathlib.Core.Bool.{cond}
use lib.Dec.{eqb}
use denote.Enum.Declared.{row}
use Rattle.records.specs.declared.bodies.Unreadable.{Unreadable}
use Rattle.records.specs.declared.bodies.Unwritable.{Unwritable}
use Rattle.records.proofs.Determined.{read_lem, write_lem}
use Rattle.direct.specs.contracts.events.Event.{the_type as event_type}
use Rattle.direct.specs.contracts.messages.Message.{the_type as message_type}
use Rattle.direct.specs.declared.step.Refusal.{Refusal}
use Rattle.direct.specs.declared.step.Stepped.{Stepped}
use Rattle.direct.specs.declared.call.Call.{Call}
use Rattle.direct.specs.declared.call.State.{State}
use Rattle.direct.specs.declared.call.UnknownState.{UnknownState}
use Rattle.direct.specs.Call.{state_number as number_of, StateOf}
use Rattle.direct.specs.Step.{Outcome, as_outcome}
use Rattle.records.proofs.record.read.Reads as read-promise
use Rattle.records.proofs.record.write.Reads as write-promise
use Rattle.direct.proofs.events.EventRecord.of_kind.Reads as event-of-kind-promise
use Rattle.direct.proofs.events.EventRecord.fits.Reads as event-fits-promise
use Rattle.direct.proofs.events.EventRecord.lay.Reads as lay-event-promise
use Rattle.direct.proofs.messages.MessageRecord.of_kind.Reads as message-of-kind-promise
use Rattle.direct.proofs.messages.MessageRecord.fits.Reads as message-fits-promise
use Rattle.direct.proofs.messages.MessageRecord.lay.Reads as lay-message-promise
use Rattle.direct.proofs.call.Call.fresh.Reads as fresh-promise
use Rattle.direct.proofs.call.Call.sound.Reads as sound-promise
use Rattle.direct.proofs.call.U8FromState.from.Reads as state-number-promise
use Rattle.direct.proofs.call.StateTryFromU8.try_from.Reads as state-of-promise
use Rattle.direct.proofs.step.RefusalFromUnreadable.from.Reads as unread-promise
use Rattle.direct.proofs.step.Refusal.number.Reads as number-promise
use Rattle.direct.proofs.step.Refusal.place.Reads as place-promise
use Rattle.direct.proofs.step.step.Reads as step-promise

-- the refusal that a number and a place stand for: no two have the same
refusal_back : ℕ → ℕ → Refusal
refusal_back n place =
    cond (eqb n 1) Refusal.NotSound
    (cond (eqb n 2) (Refusal.Unreadable Unreadable.BadLength)
    (cond (eqb n 3) (Refusal.Unreadable Unreadable.UnknownKind)
    (cond (eqb n 9) (Refusal.Unreadable Unreadable.Retired)
    (cond (eqb n 4) (Refusal.Unreadable (Unreadable.BadBody place)) (cond (eqb n 7) Refusal.NoRoom (cond (eqb n 60) Refusal.BeyondLimits Refusal.NoRow))))))

-- what an outcome says of the code's result
back : Outcome → Result Stepped Refusal
back o = cond (eqb o.answer 0) (Ok (record { count = o.count; call = o.call })) (Err (refusal_back o.answer o.place))

same : (c : Call) (r : Result Stepped Refusal) (b : List ℕ) → back (as_outcome c r b) ≡ r
unfolding back refusal_back
same c (Ok r) b = refl
same c (Err Refusal.NotSound) b = refl
same c (Err (Refusal.Unreadable Unreadable.BadLength)) b = refl
same c (Err (Refusal.Unreadable Unreadable.UnknownKind)) b = refl
same c (Err (Refusal.Unreadable Unreadable.Retired)) b = refl
same c (Err (Refusal.Unreadable (Unreadable.BadBody place))) b = refl
same c (Err Refusal.NoRoom) b = refl
same c (Err Refusal.BeyondLimits) b = refl
same c (Err Refusal.NoRow) b = refl

buffer_same : (c : Call) (r : Result Stepped Refusal) (b : List ℕ) → (as_outcome c r b).buffer ≡ b
buffer_same c (Ok r) b = refl
buffer_same c (Err e) b = refl

same_step : (c : Call) (o : Outcome) (r₁ r₂ : Result Stepped Refusal) (b₁ b₂ : List ℕ) → as_outcome c r₁ b₁ ≡ o → as_outcome c r₂ b₂ ≡ o → (r₁ ≡ r₂) × (b₁ ≡ b₂)
same_step c o r₁ r₂ b₁ b₂ e₁ e₂ =
    (sym (same c r₁ b₁) ∙ ap back (e₁ ∙ sym e₂) ∙ same c r₂ b₂, sym (buffer_same c r₁ b₁) ∙ ap (λ (w : Outcome). w.buffer) (e₁ ∙ sym e₂) ∙ buffer_same c r₂ b₂)

-- ---- the functions

-- reading and writing: records' `read` and `write` at an event and at a message

both : {w₁ w₂ : Result ℕ Unwritable × List ℕ} → w₁ ≡ w₂ → (w₁.0 ≡ w₂.0) × (w₁.1 ≡ w₂.1)
both e = (ap (λ (w : Result ℕ Unwritable × List ℕ). w.0) e, ap (λ (w : Result ℕ Unwritable × List ℕ). w.1) e)

pub read_event : (g₁ g₂ g₃ g₄ g₅ g₆ : _) (κs : _) (a : _) (r₁ r₂ : _) (e₁ e₂ : _) → read-promise.Learnt (row event_type) g₁ g₂ g₃ g₄ g₅ g₆ κs a r₁ e₁ → read-promise.Learnt (row event_type) g₁ g₂ g₃ g₄ g₅ g₆ κs a r₂ e₂ → r₁ ≡ r₂
read_event g₁ g₂ g₃ g₄ g₅ g₆ κs a r₁ r₂ e₁ e₂ p q = read_lem _ r₁ r₂ p q

pub read_message : (g₁ g₂ g₃ g₄ g₅ g₆ : _) (κs : _) (a : _) (r₁ r₂ : _) (e₁ e₂ : _) → read-promise.Learnt (row message_type) g₁ g₂ g₃ g₄ g₅ g₆ κs a r₁ e₁ → read-promise.Learnt (row message_type) g₁ g₂ g₃ g₄ g₅ g₆ κs a r₂ e₂ → r₁ ≡ r₂
read_message g₁ g₂ g₃ g₄ g₅ g₆ κs a r₁ r₂ e₁ e₂ p q = read_lem _ r₁ r₂ p q

pub write_event : (g₁ g₂ g₃ g₄ g₅ g₆ : _) (κs : _) (a : _) (r₁ r₂ : _) (e₁ e₂ : _) → write-promise.Learnt (row event_type) g₁ g₂ g₃ g₄ g₅ g₆ κs a r₁ e₁ → write-promise.Learnt (row event_type) g₁ g₂ g₃ g₄ g₅ g₆ κs a r₂ e₂ → (r₁ ≡ r₂) × (e₁.1.0.now ≡ e₂.1.0.now)
write_event g₁ g₂ g₃ g₄ g₅ g₆ κs a r₁ r₂ e₁ e₂ p q = both (write_lem _ (r₁, e₁.1.0.now) (r₂, e₂.1.0.now) p q)

pub write_message : (g₁ g₂ g₃ g₄ g₅ g₆ : _) (κs : _) (a : _) (r₁ r₂ : _) (e₁ e₂ : _) → write-promise.Learnt (row message_type) g₁ g₂ g₃ g₄ g₅ g₆ κs a r₁ e₁ → write-promise.Learnt (row message_type) g₁ g₂ g₃ g₄ g₅ g₆ κs a r₂ e₂ → (r₁ ≡ r₂) × (e₁.1.0.now ≡ e₂.1.0.now)
write_message g₁ g₂ g₃ g₄ g₅ g₆ κs a r₁ r₂ e₁ e₂ p q = both (write_lem _ (r₁, e₁.1.0.now) (r₂, e₂.1.0.now) p q)

-- the methods of a record, at both

pub event_of_kind : (κs : _) (a : _) (r₁ r₂ : _) (e₁ e₂ : _) → event-of-kind-promise.Learnt κs a r₁ e₁ → event-of-kind-promise.Learnt κs a r₂ e₂ → r₁ ≡ r₂
event_of_kind κs a r₁ r₂ e₁ e₂ p q = read_lem _ r₁ r₂ p q

pub message_of_kind : (κs : _) (a : _) (r₁ r₂ : _) (e₁ e₂ : _) → message-of-kind-promise.Learnt κs a r₁ e₁ → message-of-kind-promise.Learnt κs a r₂ e₂ → r₁ ≡ r₂
message_of_kind κs a r₁ r₂ e₁ e₂ p q = read_lem _ r₁ r₂ p q

pub event_fits : (κs : _) (a : _) (r₁ r₂ : _) (e₁ e₂ : _) → event-fits-promise.Learnt κs a r₁ e₁ → event-fits-promise.Learnt κs a r₂ e₂ → r₁ ≡ r₂
event_fits κs a r₁ r₂ e₁ e₂ p q = p ∙ sym q

pub message_fits : (κs : _) (a : _) (r₁ r₂ : _) (e₁ e₂ : _) → message-fits-promise.Learnt κs a r₁ e₁ → message-fits-promise.Learnt κs a r₂ e₂ → r₁ ≡ r₂
message_fits κs a r₁ r₂ e₁ e₂ p q = p ∙ sym q

pub lay_event : (κs : _) (a : _) (r₁ r₂ : _) (e₁ e₂ : _) → lay-event-promise.Learnt κs a r₁ e₁ → lay-event-promise.Learnt κs a r₂ e₂ → ◌≡◌ {A = ℕ × List ℕ} (r₁, e₁.1.0.now) (r₂, e₂.1.0.now)
lay_event κs a r₁ r₂ e₁ e₂ p q = p ∙ sym q

pub lay_message : (κs : _) (a : _) (r₁ r₂ : _) (e₁ e₂ : _) → lay-message-promise.Learnt κs a r₁ e₁ → lay-message-promise.Learnt κs a r₂ e₂ → ◌≡◌ {A = ℕ × List ℕ} (r₁, e₁.1.0.now) (r₂, e₂.1.0.now)
lay_message κs a r₁ r₂ e₁ e₂ p q = p ∙ sym q

pub fresh : (κs : _) (a : _) (r₁ r₂ : _) (e₁ e₂ : _) → fresh-promise.Learnt κs a r₁ e₁ → fresh-promise.Learnt κs a r₂ e₂ → r₁ ≡ r₂
fresh κs a r₁ r₂ e₁ e₂ p q = p ∙ sym q

pub sound : (κs : _) (a : _) (r₁ r₂ : _) (e₁ e₂ : _) → sound-promise.Learnt κs a r₁ e₁ → sound-promise.Learnt κs a r₂ e₂ → r₁ ≡ r₂
sound κs a r₁ r₂ e₁ e₂ p q = p ∙ sym q

pub number : (κs : _) (a : _) (r₁ r₂ : _) (e₁ e₂ : _) → number-promise.Learnt κs a r₁ e₁ → number-promise.Learnt κs a r₂ e₂ → r₁ ≡ r₂
number κs a r₁ r₂ e₁ e₂ p q = p.0 ∙ sym q.0

pub place : (κs : _) (a : _) (r₁ r₂ : _) (e₁ e₂ : _) → place-promise.Learnt κs a r₁ e₁ → place-promise.Learnt κs a r₂ e₂ → r₁ ≡ r₂
place κs a r₁ r₂ e₁ e₂ p q = p ∙ sym q

pub unread : (κs : _) (a : _) (r₁ r₂ : _) (e₁ e₂ : _) → unread-promise.Learnt κs a r₁ e₁ → unread-promise.Learnt κs a r₂ e₂ → r₁ ≡ r₂
unread κs a r₁ r₂ e₁ e₂ p q = p ∙ sym q

pub state_number : (κs : _) (a : _) (r₁ r₂ : _) (e₁ e₂ : _) → state-number-promise.Learnt κs a r₁ e₁ → state-number-promise.Learnt κs a r₂ e₂ → r₁ ≡ r₂
state_number κs a r₁ r₂ e₁ e₂ p q = p ∙ sym q

-- the state of a number: no two states have the same
state_back : ℕ → State
state_back zero = State.Idle
state_back (suc zero) = State.PresenceCheck
state_back (suc (suc n)) = State.Active

state_same : (s : State) → state_back (number_of s) ≡ s
unfolding state_back
state_same State.Idle = refl
state_same State.PresenceCheck = refl
state_same State.Active = refl

number_small : (s : State) → number_of s ≤ 2
number_small State.Idle = omega arith
number_small State.PresenceCheck = omega arith
number_small State.Active = omega arith

state_of_number : (n : ℕ) (r₁ r₂ : Result State UnknownState) → StateOf n r₁ → StateOf n r₂ → r₁ ≡ r₂
state_of_number n (Ok s) (Ok t) p q = ap (λ (x : State). Ok x) (sym (state_same s) ∙ ap state_back (p ∙ sym q) ∙ state_same t)
state_of_number n (Ok s) (Err u) p q = absurd (omega (arith, p, q.1, number_small s))
state_of_number n (Err u) (Ok t) p q = absurd (omega (arith, p.1, q, number_small t))
state_of_number n (Err u) (Err v) p q = ap (λ (x : ℕ). Err (record { 0 = x })) (p.0 ∙ sym q.0)

pub step : (κs : _) (a : _) (r₁ r₂ : _) (e₁ e₂ : _) → step-promise.Learnt κs a r₁ e₁ → step-promise.Learnt κs a r₂ e₂ → (r₁ ≡ r₂) × (e₁.1.1.0.now ≡ e₂.1.1.0.now)
step κs a r₁ r₂ e₁ e₂ p q = same_step a.0 _ r₁ r₂ _ _ p q

pub state_of : (κs : _) (a : _) (r₁ r₂ : _) (e₁ e₂ : _) → state-of-promise.Learnt κs a r₁ e₁ → state-of-promise.Learnt κs a r₂ e₂ → r₁ ≡ r₂
state_of κs a r₁ r₂ e₁ e₂ p q = state_of_number _ r₁ r₂ p q
