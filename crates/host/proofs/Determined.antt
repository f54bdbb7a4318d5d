-- The promises leave no choice: two results that an entry's own `ensures` allows are equal, with every lent byte. `Learnt` is that `ensures` as a caller learns it, of
-- the arguments, the result, and the parameters when it returns.
use Prim.Native.Nat.{ℕ}
use mathlib.Core.Path.{◌≡◌, sym, ◌∙◌}
use mathlib.Core.List.{List, []}
use Rattle.callcontrol.specs.Call.{fresh_call}
use Rattle.host.specs.Entries.{Left}
use Rattle.host.specs.SerialLine.{LeftByPiece}
use Rattle.host.specs.Bank.{BankLeft}
use Rattle.host.specs.Channel.{RoomsLeft}
use Rattle.host.proofs.callcontrol_fresh.Reads as fresh-promise
use Rattle.host.proofs.callcontrol_step.Reads as step-promise
use Rattle.host.proofs.leave.Reads as leave-promise
use Rattle.host.proofs.callcontrol_check_event.Reads as check-event-promise
use Rattle.host.proofs.callcontrol_check_message.Reads as check-message-promise
use Rattle.host.proofs.callcontrol_copy_event.Reads as copy-event-promise
use Rattle.host.proofs.callcontrol_copy_message.Reads as copy-message-promise
use Rattle.host.proofs.packed.is_record.Reads as is-record-promise
use Rattle.host.proofs.packed.held.Reads as held-promise
use Rattle.host.proofs.packed.unpacked.Reads as unpacked-promise
use Rattle.host.proofs.packed.pack.Reads as pack-promise
use Rattle.host.proofs.serial.callcontrol_pieces_fresh.Reads as pieces-fresh-promise
use Rattle.host.proofs.serial.callcontrol_pieces_next.Reads as pieces-next-promise
use Rattle.host.proofs.bank.callcontrol_bank_new.Reads as bank-new-promise
use Rattle.host.proofs.bank.callcontrol_bank_stop.Reads as bank-stop-promise
use Rattle.host.proofs.bank.callcontrol_bank_start.Reads as bank-start-promise
use Rattle.host.proofs.bank.callcontrol_bank_advance.Reads as bank-advance-promise
use Rattle.host.proofs.rooms.callcontrol_channel_fresh.Reads as channel-fresh-promise
use Rattle.host.proofs.rooms.callcontrol_channel_ask.Reads as channel-ask-promise
use Rattle.host.proofs.rooms.callcontrol_channel_pdu.Reads as channel-pdu-promise
use Rattle.host.proofs.rooms.callcontrol_channel_decide.Reads as channel-decide-promise
use Rattle.host.proofs.rooms.callcontrol_channel_ended.Reads as channel-ended-promise

pub fresh : (κs : _) (a : _) (r₁ r₂ : _) (e₁ e₂ : _) → fresh-promise.Learnt κs a r₁ e₁ → fresh-promise.Learnt κs a r₂ e₂ → ◌≡◌ {A = ℕ × List ℕ} (r₁, e₁.0.now) (r₂, e₂.0.now)
fresh κs a r₁ r₂ e₁ e₂ p q = p ∙ sym q

pub step : (κs : _) (a : _) (r₁ r₂ : _) (e₁ e₂ : _) → step-promise.Learnt κs a r₁ e₁ → step-promise.Learnt κs a r₂ e₂ → ◌≡◌ {A = Left} (record { result = r₁; call = e₁.0.now; out = e₁.1.1.0.now }) (record { result = r₂; call = e₂.0.now; out = e₂.1.1.0.now })
step κs a r₁ r₂ e₁ e₂ p q = p ∙ sym q

pub leave : (κs : _) (a : _) (r₁ r₂ : _) (e₁ e₂ : _) → leave-promise.Learnt κs a r₁ e₁ → leave-promise.Learnt κs a r₂ e₂ → ◌≡◌ {A = Left} (record { result = r₁; call = e₁.1.0.now; out = [] }) (record { result = r₂; call = e₂.1.0.now; out = [] })
leave κs a r₁ r₂ e₁ e₂ p q = p fresh_call [] ∙ sym (q fresh_call [])

pub check_event : (κs : _) (a : _) (r₁ r₂ : _) (e₁ e₂ : _) → check-event-promise.Learnt κs a r₁ e₁ → check-event-promise.Learnt κs a r₂ e₂ → r₁ ≡ r₂
check_event κs a r₁ r₂ e₁ e₂ p q = p ∙ sym q

pub check_message : (κs : _) (a : _) (r₁ r₂ : _) (e₁ e₂ : _) → check-message-promise.Learnt κs a r₁ e₁ → check-message-promise.Learnt κs a r₂ e₂ → r₁ ≡ r₂
check_message κs a r₁ r₂ e₁ e₂ p q = p ∙ sym q

pub copy_event : (κs : _) (a : _) (r₁ r₂ : _) (e₁ e₂ : _) → copy-event-promise.Learnt κs a r₁ e₁ → copy-event-promise.Learnt κs a r₂ e₂ → ◌≡◌ {A = ℕ × List ℕ} (r₁, e₁.1.0.now) (r₂, e₂.1.0.now)
copy_event κs a r₁ r₂ e₁ e₂ p q = p ∙ sym q

pub copy_message : (κs : _) (a : _) (r₁ r₂ : _) (e₁ e₂ : _) → copy-message-promise.Learnt κs a r₁ e₁ → copy-message-promise.Learnt κs a r₂ e₂ → ◌≡◌ {A = ℕ × List ℕ} (r₁, e₁.1.0.now) (r₂, e₂.1.0.now)
copy_message κs a r₁ r₂ e₁ e₂ p q = p ∙ sym q

pub pieces_fresh : (κs : _) (a : _) (r₁ r₂ : _) (e₁ e₂ : _) → pieces-fresh-promise.Learnt κs a r₁ e₁ → pieces-fresh-promise.Learnt κs a r₂ e₂ → ◌≡◌ {A = ℕ × List ℕ} (r₁, e₁.0.now) (r₂, e₂.0.now)
pieces_fresh κs a r₁ r₂ e₁ e₂ p q = p ∙ sym q

pub pieces_next : (κs : _) (a : _) (r₁ r₂ : _) (e₁ e₂ : _) → pieces-next-promise.Learnt κs a r₁ e₁ → pieces-next-promise.Learnt κs a r₂ e₂ → ◌≡◌ {A = LeftByPiece} (record { result = r₁; reader = e₁.0.now; carry = e₁.1.0.now }) (record { result = r₂; reader = e₂.0.now; carry = e₂.1.0.now })
pieces_next κs a r₁ r₂ e₁ e₂ p q = p ∙ sym q

pub bank_new : (κs : _) (a : _) (r₁ r₂ : _) (e₁ e₂ : _) → bank-new-promise.Learnt κs a r₁ e₁ → bank-new-promise.Learnt κs a r₂ e₂ → ◌≡◌ {A = BankLeft} (record { result = r₁; bank = e₁.0.now; list = [] }) (record { result = r₂; bank = e₂.0.now; list = [] })
bank_new κs a r₁ r₂ e₁ e₂ p q = p ∙ sym q

pub bank_stop : (κs : _) (a : _) (r₁ r₂ : _) (e₁ e₂ : _) → bank-stop-promise.Learnt κs a r₁ e₁ → bank-stop-promise.Learnt κs a r₂ e₂ → ◌≡◌ {A = BankLeft} (record { result = r₁; bank = e₁.0.now; list = [] }) (record { result = r₂; bank = e₂.0.now; list = [] })
bank_stop κs a r₁ r₂ e₁ e₂ p q = p ∙ sym q

pub bank_start : (κs : _) (a : _) (r₁ r₂ : _) (e₁ e₂ : _) → bank-start-promise.Learnt κs a r₁ e₁ → bank-start-promise.Learnt κs a r₂ e₂ → ◌≡◌ {A = BankLeft} (record { result = r₁; bank = e₁.0.now; list = [] }) (record { result = r₂; bank = e₂.0.now; list = [] })
bank_start κs a r₁ r₂ e₁ e₂ p q = p ∙ sym q

pub bank_advance : (κs : _) (a : _) (r₁ r₂ : _) (e₁ e₂ : _) → bank-advance-promise.Learnt κs a r₁ e₁ → bank-advance-promise.Learnt κs a r₂ e₂ → ◌≡◌ {A = BankLeft} (record { result = r₁; bank = e₁.0.now; list = e₁.1.1.0.now }) (record { result = r₂; bank = e₂.0.now; list = e₂.1.1.0.now })
bank_advance κs a r₁ r₂ e₁ e₂ p q = p ∙ sym q

pub channel_fresh : (κs : _) (a : _) (r₁ r₂ : _) (e₁ e₂ : _) → channel-fresh-promise.Learnt κs a r₁ e₁ → channel-fresh-promise.Learnt κs a r₂ e₂ → ◌≡◌ {A = RoomsLeft} (record { result = r₁; rooms = e₁.0.now; out = [] }) (record { result = r₂; rooms = e₂.0.now; out = [] })
channel_fresh κs a r₁ r₂ e₁ e₂ p q = p ∙ sym q

pub channel_ask : (κs : _) (a : _) (r₁ r₂ : _) (e₁ e₂ : _) → channel-ask-promise.Learnt κs a r₁ e₁ → channel-ask-promise.Learnt κs a r₂ e₂ → ◌≡◌ {A = RoomsLeft} (record { result = r₁; rooms = e₁.0.now; out = e₁.1.1.1.1.0.now }) (record { result = r₂; rooms = e₂.0.now; out = e₂.1.1.1.1.0.now })
channel_ask κs a r₁ r₂ e₁ e₂ p q = p ∙ sym q

pub channel_pdu : (κs : _) (a : _) (r₁ r₂ : _) (e₁ e₂ : _) → channel-pdu-promise.Learnt κs a r₁ e₁ → channel-pdu-promise.Learnt κs a r₂ e₂ → ◌≡◌ {A = RoomsLeft} (record { result = r₁; rooms = e₁.0.now; out = e₁.1.1.1.1.0.now }) (record { result = r₂; rooms = e₂.0.now; out = e₂.1.1.1.1.0.now })
channel_pdu κs a r₁ r₂ e₁ e₂ p q = p ∙ sym q

pub channel_decide : (κs : _) (a : _) (r₁ r₂ : _) (e₁ e₂ : _) → channel-decide-promise.Learnt κs a r₁ e₁ → channel-decide-promise.Learnt κs a r₂ e₂ → ◌≡◌ {A = RoomsLeft} (record { result = r₁; rooms = e₁.0.now; out = e₁.1.1.1.0.now }) (record { result = r₂; rooms = e₂.0.now; out = e₂.1.1.1.0.now })
channel_decide κs a r₁ r₂ e₁ e₂ p q = p ∙ sym q

pub channel_ended : (κs : _) (a : _) (r₁ r₂ : _) (e₁ e₂ : _) → channel-ended-promise.Learnt κs a r₁ e₁ → channel-ended-promise.Learnt κs a r₂ e₂ → ◌≡◌ {A = RoomsLeft} (record { result = r₁; rooms = e₁.0.now; out = e₁.1.1.0.now }) (record { result = r₂; rooms = e₂.0.now; out = e₂.1.1.0.now })
channel_ended κs a r₁ r₂ e₁ e₂ p q = p ∙ sym q

-- ---- a record's bytes, for the other archives

pub is_record : (κs : _) (a : _) (r₁ r₂ : _) (e₁ e₂ : _) → is-record-promise.Learnt κs a r₁ e₁ → is-record-promise.Learnt κs a r₂ e₂ → r₁ ≡ r₂
is_record κs a r₁ r₂ e₁ e₂ p q = p ∙ sym q

pub unpacked : (κs : _) (a : _) (r₁ r₂ : _) (e₁ e₂ : _) → unpacked-promise.Learnt κs a r₁ e₁ → unpacked-promise.Learnt κs a r₂ e₂ → r₁ ≡ r₂
unpacked κs a r₁ r₂ e₁ e₂ p q = p ∙ sym q

pub held : (κs : _) (a : _) (r₁ r₂ : _) (e₁ e₂ : _) → held-promise.Learnt κs a r₁ e₁ → held-promise.Learnt κs a r₂ e₂ → r₁ ≡ r₂
held κs a r₁ r₂ e₁ e₂ p q = p ∙ sym q

pub pack : (κs : _) (a : _) (r₁ r₂ : _) (e₁ e₂ : _) → pack-promise.Learnt κs a r₁ e₁ → pack-promise.Learnt κs a r₂ e₂ → e₁.1.0.now ≡ e₂.1.0.now
pack κs a r₁ r₂ e₁ e₂ p q = p ∙ sym q
