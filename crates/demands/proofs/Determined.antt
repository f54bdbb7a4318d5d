-- The promises of records and of callcontrol leave no choice: two results that a function's own `ensures` allows are equal, and so are the buffers that it leaves.
-- `Learnt` is that `ensures` as a caller learns it, of the arguments, the result, and the parameters when it returns.
use Prim.Native.Nat.{ℕ}
use mathlib.Core.Path.{◌≡◌, sym, ◌∙◌, ap}
use mathlib.Core.List.{List}
use denote.Enum.Declared.{row}
use Rattle.std.specs.Prelude.{Result}
use Rattle.records.specs.declared.bodies.Unwritable.{Unwritable}
use Rattle.records.specs.contracts.events.Event.{the_type as event_type}
use Rattle.records.specs.contracts.messages.Message.{the_type as message_type}
use Rattle.records.proofs.Determined as records
use Rattle.callcontrol.proofs.Determined as callcontrol
use Rattle.records.proofs.record.read.Reads as read-promise
use Rattle.records.proofs.record.write.Reads as write-promise
use Rattle.records.proofs.events.EventRecord.of_kind.Reads as event-of-kind-promise
use Rattle.records.proofs.events.EventRecord.fits.Reads as event-fits-promise
use Rattle.records.proofs.events.EventRecord.lay.Reads as lay-event-promise
use Rattle.records.proofs.messages.MessageRecord.of_kind.Reads as message-of-kind-promise
use Rattle.records.proofs.messages.MessageRecord.fits.Reads as message-fits-promise
use Rattle.records.proofs.messages.MessageRecord.lay.Reads as lay-message-promise
use Rattle.records.proofs.messages.message_size.Reads as message-size-promise
use Rattle.records.proofs.bodies.kind_in.Reads as kind-in-promise
use Rattle.records.proofs.letters.byte_fits.Reads as byte-fits-promise
use Rattle.records.proofs.letters.slots_fit.Reads as slots-fit-promise
use Rattle.records.proofs.letters.word_fits.Reads as word-fits-promise
use Rattle.records.proofs.letters.long_fits.Reads as long-fits-promise
use Rattle.records.proofs.lines.lay_record.Reads as lay-record-promise
use Rattle.records.proofs.bodies.Unreadable.number.Reads as unreadable-number-promise
use Rattle.records.proofs.bodies.Unreadable.place.Reads as unreadable-place-promise
use Rattle.records.proofs.bodies.Unwritable.number.Reads as unwritable-number-promise
use Rattle.records.proofs.fields.word_at.Reads as word-at-promise
use Rattle.records.proofs.fields.long_at.Reads as long-at-promise
use Rattle.records.proofs.fields.size_is.Reads as size-is-promise
use Rattle.records.proofs.fields.size_with_slots.Reads as size-with-slots-promise
use Rattle.records.proofs.fields.byte_in.Reads as byte-in-promise
use Rattle.records.proofs.fields.slots_in.Reads as slots-in-promise
use Rattle.records.proofs.fields.word_in.Reads as word-in-promise
use Rattle.records.proofs.fields.long_in.Reads as long-in-promise
use Rattle.callcontrol.proofs.step.step.Reads as step-promise
use Rattle.callcontrol.proofs.step.decide.Reads as decide-promise
use Rattle.callcontrol.proofs.step.RefusalFromUnreadable.from.Reads as unread-promise
use Rattle.callcontrol.proofs.step.Refusal.place.Reads as place-in-promise
use Rattle.callcontrol.proofs.step.Refusal.number.Reads as answer-number-promise
use Rattle.callcontrol.proofs.call.Call.fresh.Reads as fresh-promise
use Rattle.callcontrol.proofs.call.Call.sound.Reads as sound-promise
use Rattle.callcontrol.proofs.call.Call.is_idle.Reads as is-idle-promise
use Rattle.callcontrol.proofs.call.Call.transmits.Reads as transmits-promise
use Rattle.callcontrol.proofs.call.U8FromState.from.Reads as state-number-promise
use Rattle.callcontrol.proofs.call.U8FromPath.from.Reads as path-number-promise
use Rattle.callcontrol.proofs.rows.plane_granted.Reads as plane-granted-promise
use Rattle.callcontrol.proofs.rows.plane_or_off.Reads as plane-or-off-promise
use Rattle.callcontrol.proofs.rows.asked_after.Reads as asked-after-promise
use Rattle.callcontrol.proofs.rows.restarting.Reads as restarting-promise
use Rattle.callcontrol.proofs.rows.code_after.Reads as code-after-promise
use Rattle.callcontrol.proofs.rows.slots_after.Reads as slots-after-promise
use Rattle.callcontrol.proofs.rows.asked_after_cut.Reads as asked-after-cut-promise
use Rattle.callcontrol.proofs.rows.asks.Reads as asks-promise
use Rattle.callcontrol.proofs.settle.next_by.Reads as next-by-promise

-- ---- records

both : {w₁ w₂ : Result ℕ Unwritable × List ℕ} → w₁ ≡ w₂ → (w₁.0 ≡ w₂.0) × (w₁.1 ≡ w₂.1)
both e = (ap (λ (w : Result ℕ Unwritable × List ℕ). w.0) e, ap (λ (w : Result ℕ Unwritable × List ℕ). w.1) e)

pub read_lem : (t g₁ g₂ g₃ g₄ g₅ g₆ : _) (κs : _) (a : _) (r₁ r₂ : _) (e₁ e₂ : _) → read-promise.Learnt t g₁ g₂ g₃ g₄ g₅ g₆ κs a r₁ e₁ → read-promise.Learnt t g₁ g₂ g₃ g₄ g₅ g₆ κs a r₂ e₂ → r₁ ≡ r₂
read_lem t g₁ g₂ g₃ g₄ g₅ g₆ κs a r₁ r₂ e₁ e₂ p q = records.read_lem _ r₁ r₂ p q

pub write_lem : (t g₁ g₂ g₃ g₄ g₅ g₆ : _) (κs : _) (a : _) (r₁ r₂ : _) (e₁ e₂ : _) → write-promise.Learnt t g₁ g₂ g₃ g₄ g₅ g₆ κs a r₁ e₁ → write-promise.Learnt t g₁ g₂ g₃ g₄ g₅ g₆ κs a r₂ e₂ → (r₁ ≡ r₂) × (e₁.1.0.now ≡ e₂.1.0.now)
write_lem t g₁ g₂ g₃ g₄ g₅ g₆ κs a r₁ r₂ e₁ e₂ p q = both (records.write_lem _ (r₁, e₁.1.0.now) (r₂, e₂.1.0.now) p q)

-- at an event and at a message

pub read_event : (g₁ g₂ g₃ g₄ g₅ g₆ : _) (κs : _) (a : _) (r₁ r₂ : _) (e₁ e₂ : _) → read-promise.Learnt (row event_type) g₁ g₂ g₃ g₄ g₅ g₆ κs a r₁ e₁ → read-promise.Learnt (row event_type) g₁ g₂ g₃ g₄ g₅ g₆ κs a r₂ e₂ → r₁ ≡ r₂
read_event = read_lem (row event_type)

pub read_message : (g₁ g₂ g₃ g₄ g₅ g₆ : _) (κs : _) (a : _) (r₁ r₂ : _) (e₁ e₂ : _) → read-promise.Learnt (row message_type) g₁ g₂ g₃ g₄ g₅ g₆ κs a r₁ e₁ → read-promise.Learnt (row message_type) g₁ g₂ g₃ g₄ g₅ g₆ κs a r₂ e₂ → r₁ ≡ r₂
read_message = read_lem (row message_type)

pub write_event : (g₁ g₂ g₃ g₄ g₅ g₆ : _) (κs : _) (a : _) (r₁ r₂ : _) (e₁ e₂ : _) → write-promise.Learnt (row event_type) g₁ g₂ g₃ g₄ g₅ g₆ κs a r₁ e₁ → write-promise.Learnt (row event_type) g₁ g₂ g₃ g₄ g₅ g₆ κs a r₂ e₂ → (r₁ ≡ r₂) × (e₁.1.0.now ≡ e₂.1.0.now)
write_event = write_lem (row event_type)

pub write_message : (g₁ g₂ g₃ g₄ g₅ g₆ : _) (κs : _) (a : _) (r₁ r₂ : _) (e₁ e₂ : _) → write-promise.Learnt (row message_type) g₁ g₂ g₃ g₄ g₅ g₆ κs a r₁ e₁ → write-promise.Learnt (row message_type) g₁ g₂ g₃ g₄ g₅ g₆ κs a r₂ e₂ → (r₁ ≡ r₂) × (e₁.1.0.now ≡ e₂.1.0.now)
write_message = write_lem (row message_type)

-- the methods of a record, at an event and at a message

pub event_of_kind : (κs : _) (a : _) (r₁ r₂ : _) (e₁ e₂ : _) → event-of-kind-promise.Learnt κs a r₁ e₁ → event-of-kind-promise.Learnt κs a r₂ e₂ → r₁ ≡ r₂
event_of_kind κs a r₁ r₂ e₁ e₂ p q = records.read_lem _ r₁ r₂ p q

pub message_of_kind : (κs : _) (a : _) (r₁ r₂ : _) (e₁ e₂ : _) → message-of-kind-promise.Learnt κs a r₁ e₁ → message-of-kind-promise.Learnt κs a r₂ e₂ → r₁ ≡ r₂
message_of_kind κs a r₁ r₂ e₁ e₂ p q = records.read_lem _ r₁ r₂ p q

pub event_fits : (κs : _) (a : _) (r₁ r₂ : _) (e₁ e₂ : _) → event-fits-promise.Learnt κs a r₁ e₁ → event-fits-promise.Learnt κs a r₂ e₂ → r₁ ≡ r₂
event_fits κs a r₁ r₂ e₁ e₂ p q = p ∙ sym q

pub message_fits : (κs : _) (a : _) (r₁ r₂ : _) (e₁ e₂ : _) → message-fits-promise.Learnt κs a r₁ e₁ → message-fits-promise.Learnt κs a r₂ e₂ → r₁ ≡ r₂
message_fits κs a r₁ r₂ e₁ e₂ p q = p ∙ sym q

pub lay_event : (κs : _) (a : _) (r₁ r₂ : _) (e₁ e₂ : _) → lay-event-promise.Learnt κs a r₁ e₁ → lay-event-promise.Learnt κs a r₂ e₂ → ◌≡◌ {A = ℕ × List ℕ} (r₁, e₁.1.0.now) (r₂, e₂.1.0.now)
lay_event κs a r₁ r₂ e₁ e₂ p q = p ∙ sym q

pub lay_message : (κs : _) (a : _) (r₁ r₂ : _) (e₁ e₂ : _) → lay-message-promise.Learnt κs a r₁ e₁ → lay-message-promise.Learnt κs a r₂ e₂ → ◌≡◌ {A = ℕ × List ℕ} (r₁, e₁.1.0.now) (r₂, e₂.1.0.now)
lay_message κs a r₁ r₂ e₁ e₂ p q = p ∙ sym q

pub message_size_lem : (κs : _) (a : _) (r₁ r₂ : _) (e₁ e₂ : _) → message-size-promise.Learnt κs a r₁ e₁ → message-size-promise.Learnt κs a r₂ e₂ → r₁ ≡ r₂
message_size_lem κs a r₁ r₂ e₁ e₂ p q = p ∙ sym q

pub kind_in_lem : (κs : _) (a : _) (r₁ r₂ : _) (e₁ e₂ : _) → kind-in-promise.Learnt κs a r₁ e₁ → kind-in-promise.Learnt κs a r₂ e₂ → r₁ ≡ r₂
kind_in_lem κs a r₁ r₂ e₁ e₂ p q = records.kind_in_lem _ r₁ r₂ p q

pub byte_fits : (κs : _) (a : _) (r₁ r₂ : _) (e₁ e₂ : _) → byte-fits-promise.Learnt κs a r₁ e₁ → byte-fits-promise.Learnt κs a r₂ e₂ → r₁ ≡ r₂
byte_fits κs a r₁ r₂ e₁ e₂ p q = p ∙ sym q

pub slots_fit : (κs : _) (a : _) (r₁ r₂ : _) (e₁ e₂ : _) → slots-fit-promise.Learnt κs a r₁ e₁ → slots-fit-promise.Learnt κs a r₂ e₂ → r₁ ≡ r₂
slots_fit κs a r₁ r₂ e₁ e₂ p q = p ∙ sym q

pub word_fits : (κs : _) (a : _) (r₁ r₂ : _) (e₁ e₂ : _) → word-fits-promise.Learnt κs a r₁ e₁ → word-fits-promise.Learnt κs a r₂ e₂ → r₁ ≡ r₂
word_fits κs a r₁ r₂ e₁ e₂ p q = p ∙ sym q

pub long_fits : (κs : _) (a : _) (r₁ r₂ : _) (e₁ e₂ : _) → long-fits-promise.Learnt κs a r₁ e₁ → long-fits-promise.Learnt κs a r₂ e₂ → r₁ ≡ r₂
long_fits κs a r₁ r₂ e₁ e₂ p q = p ∙ sym q

pub lay_record : (size bound : _) (κs : _) (a : _) (r₁ r₂ : _) (e₁ e₂ : _) → lay-record-promise.Learnt size bound κs a r₁ e₁ → lay-record-promise.Learnt size bound κs a r₂ e₂ → ◌≡◌ {A = ℕ × List ℕ} (r₁, e₁.1.1.0.now) (r₂, e₂.1.1.0.now)
lay_record size bound κs a r₁ r₂ e₁ e₂ p q = p ∙ sym q

pub unreadable_number_lem : (κs : _) (a : _) (r₁ r₂ : _) (e₁ e₂ : _) → unreadable-number-promise.Learnt κs a r₁ e₁ → unreadable-number-promise.Learnt κs a r₂ e₂ → r₁ ≡ r₂
unreadable_number_lem κs a r₁ r₂ e₁ e₂ p q = p.0 ∙ sym q.0

pub unreadable_place_lem : (κs : _) (a : _) (r₁ r₂ : _) (e₁ e₂ : _) → unreadable-place-promise.Learnt κs a r₁ e₁ → unreadable-place-promise.Learnt κs a r₂ e₂ → r₁ ≡ r₂
unreadable_place_lem κs a r₁ r₂ e₁ e₂ p q = p ∙ sym q

pub unwritable_number_lem : (κs : _) (a : _) (r₁ r₂ : _) (e₁ e₂ : _) → unwritable-number-promise.Learnt κs a r₁ e₁ → unwritable-number-promise.Learnt κs a r₂ e₂ → r₁ ≡ r₂
unwritable_number_lem κs a r₁ r₂ e₁ e₂ p q = p.0 ∙ sym q.0

pub word_at : (κs : _) (a : _) (r₁ r₂ : _) (e₁ e₂ : _) → word-at-promise.Learnt κs a r₁ e₁ → word-at-promise.Learnt κs a r₂ e₂ → r₁ ≡ r₂
word_at κs a r₁ r₂ e₁ e₂ p q = p ∙ sym q

pub long_at : (κs : _) (a : _) (r₁ r₂ : _) (e₁ e₂ : _) → long-at-promise.Learnt κs a r₁ e₁ → long-at-promise.Learnt κs a r₂ e₂ → r₁ ≡ r₂
long_at κs a r₁ r₂ e₁ e₂ p q = p ∙ sym q

pub size_is : (κs : _) (a : _) (r₁ r₂ : _) (e₁ e₂ : _) → size-is-promise.Learnt κs a r₁ e₁ → size-is-promise.Learnt κs a r₂ e₂ → r₁ ≡ r₂
size_is κs a r₁ r₂ e₁ e₂ p q = p ∙ sym q

pub size_with_slots : (κs : _) (a : _) (r₁ r₂ : _) (e₁ e₂ : _) → size-with-slots-promise.Learnt κs a r₁ e₁ → size-with-slots-promise.Learnt κs a r₂ e₂ → r₁ ≡ r₂
size_with_slots κs a r₁ r₂ e₁ e₂ p q = p ∙ sym q

pub byte_in : (κs : _) (a : _) (r₁ r₂ : _) (e₁ e₂ : _) → byte-in-promise.Learnt κs a r₁ e₁ → byte-in-promise.Learnt κs a r₂ e₂ → r₁ ≡ r₂
byte_in κs a r₁ r₂ e₁ e₂ p q = p ∙ sym q

pub slots_in : (κs : _) (a : _) (r₁ r₂ : _) (e₁ e₂ : _) → slots-in-promise.Learnt κs a r₁ e₁ → slots-in-promise.Learnt κs a r₂ e₂ → r₁ ≡ r₂
slots_in κs a r₁ r₂ e₁ e₂ p q = p ∙ sym q

pub word_in : (κs : _) (a : _) (r₁ r₂ : _) (e₁ e₂ : _) → word-in-promise.Learnt κs a r₁ e₁ → word-in-promise.Learnt κs a r₂ e₂ → r₁ ≡ r₂
word_in κs a r₁ r₂ e₁ e₂ p q = p ∙ sym q

pub long_in : (κs : _) (a : _) (r₁ r₂ : _) (e₁ e₂ : _) → long-in-promise.Learnt κs a r₁ e₁ → long-in-promise.Learnt κs a r₂ e₂ → r₁ ≡ r₂
long_in κs a r₁ r₂ e₁ e₂ p q = p ∙ sym q

-- ---- callcontrol

pub step : (κs : _) (a : _) (r₁ r₂ : _) (e₁ e₂ : _) → step-promise.Learnt κs a r₁ e₁ → step-promise.Learnt κs a r₂ e₂ → (r₁ ≡ r₂) × (e₁.1.1.0.now ≡ e₂.1.1.0.now)
step κs a r₁ r₂ e₁ e₂ p q = callcontrol.step _ _ r₁ r₂ _ _ p q

pub decide : (κs : _) (a : _) (r₁ r₂ : _) (e₁ e₂ : _) → decide-promise.Learnt κs a r₁ e₁ → decide-promise.Learnt κs a r₂ e₂ → (r₁ ≡ r₂) × (e₁.1.1.0.now ≡ e₂.1.1.0.now)
decide κs a r₁ r₂ e₁ e₂ p q = callcontrol.step _ _ r₁ r₂ _ _ p q

pub unread : (κs : _) (a : _) (r₁ r₂ : _) (e₁ e₂ : _) → unread-promise.Learnt κs a r₁ e₁ → unread-promise.Learnt κs a r₂ e₂ → r₁ ≡ r₂
unread κs a r₁ r₂ e₁ e₂ p q = p ∙ sym q

pub place_in_lem : (κs : _) (a : _) (r₁ r₂ : _) (e₁ e₂ : _) → place-in-promise.Learnt κs a r₁ e₁ → place-in-promise.Learnt κs a r₂ e₂ → r₁ ≡ r₂
place_in_lem κs a r₁ r₂ e₁ e₂ p q = p ∙ sym q

pub answer_number_lem : (κs : _) (a : _) (r₁ r₂ : _) (e₁ e₂ : _) → answer-number-promise.Learnt κs a r₁ e₁ → answer-number-promise.Learnt κs a r₂ e₂ → r₁ ≡ r₂
answer_number_lem κs a r₁ r₂ e₁ e₂ p q = p.0 ∙ sym q.0

pub fresh : (κs : _) (a : _) (r₁ r₂ : _) (e₁ e₂ : _) → fresh-promise.Learnt κs a r₁ e₁ → fresh-promise.Learnt κs a r₂ e₂ → r₁ ≡ r₂
fresh κs a r₁ r₂ e₁ e₂ p q = p ∙ sym q

pub sound : (κs : _) (a : _) (r₁ r₂ : _) (e₁ e₂ : _) → sound-promise.Learnt κs a r₁ e₁ → sound-promise.Learnt κs a r₂ e₂ → r₁ ≡ r₂
sound κs a r₁ r₂ e₁ e₂ p q = p ∙ sym q

pub is_idle : (κs : _) (a : _) (r₁ r₂ : _) (e₁ e₂ : _) → is-idle-promise.Learnt κs a r₁ e₁ → is-idle-promise.Learnt κs a r₂ e₂ → r₁ ≡ r₂
is_idle κs a r₁ r₂ e₁ e₂ p q = p ∙ sym q

pub state_number : (κs : _) (a : _) (r₁ r₂ : _) (e₁ e₂ : _) → state-number-promise.Learnt κs a r₁ e₁ → state-number-promise.Learnt κs a r₂ e₂ → r₁ ≡ r₂
state_number κs a r₁ r₂ e₁ e₂ p q = p ∙ sym q

pub path_number : (κs : _) (a : _) (r₁ r₂ : _) (e₁ e₂ : _) → path-number-promise.Learnt κs a r₁ e₁ → path-number-promise.Learnt κs a r₂ e₂ → r₁ ≡ r₂
path_number κs a r₁ r₂ e₁ e₂ p q = p ∙ sym q

pub transmits : (κs : _) (a : _) (r₁ r₂ : _) (e₁ e₂ : _) → transmits-promise.Learnt κs a r₁ e₁ → transmits-promise.Learnt κs a r₂ e₂ → r₁ ≡ r₂
transmits κs a r₁ r₂ e₁ e₂ p q = p ∙ sym q

-- ---- callcontrol, for an engine of another shape

pub plane_granted : (κs : _) (a : _) (r₁ r₂ : _) (e₁ e₂ : _) → plane-granted-promise.Learnt κs a r₁ e₁ → plane-granted-promise.Learnt κs a r₂ e₂ → r₁ ≡ r₂
plane_granted κs a r₁ r₂ e₁ e₂ p q = p.0 ∙ sym q.0

pub plane_or_off : (κs : _) (a : _) (r₁ r₂ : _) (e₁ e₂ : _) → plane-or-off-promise.Learnt κs a r₁ e₁ → plane-or-off-promise.Learnt κs a r₂ e₂ → r₁ ≡ r₂
plane_or_off κs a r₁ r₂ e₁ e₂ p q = p.0 ∙ sym q.0

pub asked_after : (κs : _) (a : _) (r₁ r₂ : _) (e₁ e₂ : _) → asked-after-promise.Learnt κs a r₁ e₁ → asked-after-promise.Learnt κs a r₂ e₂ → r₁ ≡ r₂
asked_after κs a r₁ r₂ e₁ e₂ p q = p ∙ sym q

pub restarting : (κs : _) (a : _) (r₁ r₂ : _) (e₁ e₂ : _) → restarting-promise.Learnt κs a r₁ e₁ → restarting-promise.Learnt κs a r₂ e₂ → r₁ ≡ r₂
restarting κs a r₁ r₂ e₁ e₂ p q = p.0 ∙ sym q.0

pub code_after : (κs : _) (a : _) (r₁ r₂ : _) (e₁ e₂ : _) → code-after-promise.Learnt κs a r₁ e₁ → code-after-promise.Learnt κs a r₂ e₂ → r₁ ≡ r₂
code_after κs a r₁ r₂ e₁ e₂ p q = p ∙ sym q

pub slots_after : (κs : _) (a : _) (r₁ r₂ : _) (e₁ e₂ : _) → slots-after-promise.Learnt κs a r₁ e₁ → slots-after-promise.Learnt κs a r₂ e₂ → r₁ ≡ r₂
slots_after κs a r₁ r₂ e₁ e₂ p q = p ∙ sym q

pub asked_after_cut : (κs : _) (a : _) (r₁ r₂ : _) (e₁ e₂ : _) → asked-after-cut-promise.Learnt κs a r₁ e₁ → asked-after-cut-promise.Learnt κs a r₂ e₂ → r₁ ≡ r₂
asked_after_cut κs a r₁ r₂ e₁ e₂ p q = p ∙ sym q

pub asks : (κs : _) (a : _) (r₁ r₂ : _) (e₁ e₂ : _) → asks-promise.Learnt κs a r₁ e₁ → asks-promise.Learnt κs a r₂ e₂ → r₁ ≡ r₂
asks κs a r₁ r₂ e₁ e₂ p q = p ∙ sym q

pub next_by : (κs : _) (a : _) (r₁ r₂ : _) (e₁ e₂ : _) → next-by-promise.Learnt κs a r₁ e₁ → next-by-promise.Learnt κs a r₂ e₂ → r₁ ≡ r₂
next_by κs a r₁ r₂ e₁ e₂ p q = p ∙ sym q
