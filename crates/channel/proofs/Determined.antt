-- The promises leave no choice: two results that a function's own `ensures` allows are equal, and so are the buffers that it leaves. `Learnt` is that `ensures` as a
-- caller learns it, of the arguments, the result, and the parameters when it returns.
use Prim.Native.Nat.{ℕ}
use mathlib.Core.Path.{◌≡◌, refl, sym, ◌∙◌, ap}
use mathlib.Core.Bool.{cond}
use mathlib.Core.List.{List}
use native.Mathlib.Omega.{arith}
use lib.Dec.{eqb}
use Rattle.std.specs.Prelude.{Result, Ok, Err}
use Rattle.channel.specs.declared.rooms.Room.{Room}
use Rattle.channel.specs.declared.questions.ChannelRefusal.{ChannelRefusal}
use Rattle.channel.specs.declared.questions.Answered.{Answered}
use Rattle.channel.specs.Questions.{Outcome, channel_number, as_outcome}
use Rattle.channel.specs.Demands as claims
use Rattle.channel.proofs.questions.ChannelRefusal.number.Reads as channel-number-promise
use Rattle.channel.proofs.rooms.Wait.number.Reads as wait-number-promise
use Rattle.channel.proofs.rooms.Room.is_of_call.Reads as of-call-promise
use Rattle.channel.proofs.rooms.Rooms.fresh.Reads as fresh-rooms-promise
use Rattle.channel.proofs.rooms.Rooms.number_waits.Reads as number-waits-promise
use Rattle.channel.proofs.rooms.Rooms.are_sound.Reads as rooms-sound-promise
use Rattle.channel.proofs.rooms.Rooms.first_free.Reads as first-free-promise
use Rattle.channel.proofs.rooms.Rooms.first_waiting.Reads as first-waiting-promise
use Rattle.channel.proofs.rooms.Rooms.of_call.Reads as of-call-count-promise
use Rattle.channel.proofs.rooms.Room.freed.Reads as room-freed-promise
use Rattle.channel.proofs.rooms.Rooms.freed.Reads as rooms-freed-promise
use Rattle.channel.proofs.questions.ask.Reads as ask-promise
use Rattle.channel.proofs.questions.ask_pdu.Reads as ask-pdu-promise
use Rattle.channel.proofs.questions.decide.Reads as decide-promise
use Rattle.channel.proofs.questions.ended.Reads as ended-promise

-- a refusal by its number
abbrev refusal_of : ℕ → ChannelRefusal
refusal_of n =
    cond (eqb n 1) ChannelRefusal.NotSound
    (cond (eqb n 4) ChannelRefusal.BadField
    (cond (eqb n 50) ChannelRefusal.NumberWaits
    (cond (eqb n 51) ChannelRefusal.RoomsFull (cond (eqb n 53) ChannelRefusal.OwnGroup (cond (eqb n 52) ChannelRefusal.NoneWaits ChannelRefusal.NoRoom)))))

own : (e : ChannelRefusal) → refusal_of (channel_number e) ≡ e
own ChannelRefusal.NotSound = refl
own ChannelRefusal.BadField = refl
own ChannelRefusal.NumberWaits = refl
own ChannelRefusal.RoomsFull = refl
own ChannelRefusal.OwnGroup = refl
own ChannelRefusal.NoneWaits = refl
own ChannelRefusal.NoRoom = refl

same : (a b : ChannelRefusal) → channel_number a ≡ channel_number b → a ≡ b
same a b e = sym (own a) ∙ ap refusal_of e ∙ own b

-- no refusal has the number of what is taken
not_taken : (e : ChannelRefusal) → channel_number e ≡ 0 → ⊥
not_taken e z = let y : ◌≡◌ {A = ℕ} (channel_number (refusal_of 0)) 0 = ap (λ (n : ℕ). channel_number (refusal_of n)) (sym z) ∙ ap channel_number (own e) ∙ z in omega (arith, y)

results : (rooms : List Room) (r₁ r₂ : Result Answered ChannelRefusal) (b₁ b₂ : List ℕ) → as_outcome rooms r₁ b₁ ≡ as_outcome rooms r₂ b₂ → r₁ ≡ r₂
results rooms (Ok r) (Ok s) b₁ b₂ e =
    let rooms : r.rooms.rooms ≡ s.rooms.rooms = ap (λ (x : Outcome). x.rooms) e in
    let count : r.count ≡ s.count = ap (λ (x : Outcome). x.count) e in
    λ i. Ok (record { count = count i; rooms = record { rooms = rooms i } })
results rooms (Ok r) (Err f) b₁ b₂ e = absurd (not_taken f (sym (ap (λ (x : Outcome). x.answer) e)))
results rooms (Err f) (Ok s) b₁ b₂ e = absurd (not_taken f (ap (λ (x : Outcome). x.answer) e))
results rooms (Err f) (Err g) b₁ b₂ e = ap Err (same f g (ap (λ (x : Outcome). x.answer) e))

left : (rooms : List Room) (r : Result Answered ChannelRefusal) (b : List ℕ) → (as_outcome rooms r b).buffer ≡ b
left rooms (Ok r) b = refl
left rooms (Err e) b = refl

pub determined : claims.Determined
determined o rooms r₁ r₂ b₁ b₂ p q =
    let e : as_outcome rooms r₁ b₁ ≡ as_outcome rooms r₂ b₂ = p ∙ sym q in
    (results rooms r₁ r₂ b₁ b₂ e, sym (left rooms r₁ b₁) ∙ ap (λ (x : Outcome). x.buffer) e ∙ left rooms r₂ b₂)

-- ---- the functions

pub channel_number_lem : (κs : _) (a : _) (r₁ r₂ : _) (e₁ e₂ : _) → channel-number-promise.Learnt κs a r₁ e₁ → channel-number-promise.Learnt κs a r₂ e₂ → r₁ ≡ r₂
channel_number_lem κs a r₁ r₂ e₁ e₂ p q = p.0 ∙ sym q.0

pub wait_number : (κs : _) (a : _) (r₁ r₂ : _) (e₁ e₂ : _) → wait-number-promise.Learnt κs a r₁ e₁ → wait-number-promise.Learnt κs a r₂ e₂ → r₁ ≡ r₂
wait_number κs a r₁ r₂ e₁ e₂ p q = p.0 ∙ sym q.0

pub of_call : (κs : _) (a : _) (r₁ r₂ : _) (e₁ e₂ : _) → of-call-promise.Learnt κs a r₁ e₁ → of-call-promise.Learnt κs a r₂ e₂ → r₁ ≡ r₂
of_call κs a r₁ r₂ e₁ e₂ p q = p ∙ sym q

pub fresh_rooms : (κs : _) (a : _) (r₁ r₂ : _) (e₁ e₂ : _) → fresh-rooms-promise.Learnt κs a r₁ e₁ → fresh-rooms-promise.Learnt κs a r₂ e₂ → r₁ ≡ r₂
fresh_rooms κs a r₁ r₂ e₁ e₂ p q = let e : r₁.rooms ≡ r₂.rooms = p ∙ sym q in λ i. record { rooms = e i }

pub number_waits : (κs : _) (a : _) (r₁ r₂ : _) (e₁ e₂ : _) → number-waits-promise.Learnt κs a r₁ e₁ → number-waits-promise.Learnt κs a r₂ e₂ → r₁ ≡ r₂
number_waits κs a r₁ r₂ e₁ e₂ p q = p ∙ sym q

pub rooms_sound_lem : (κs : _) (a : _) (r₁ r₂ : _) (e₁ e₂ : _) → rooms-sound-promise.Learnt κs a r₁ e₁ → rooms-sound-promise.Learnt κs a r₂ e₂ → r₁ ≡ r₂
rooms_sound_lem κs a r₁ r₂ e₁ e₂ p q = p ∙ sym q

pub first_free : (κs : _) (a : _) (r₁ r₂ : _) (e₁ e₂ : _) → first-free-promise.Learnt κs a r₁ e₁ → first-free-promise.Learnt κs a r₂ e₂ → r₁ ≡ r₂
first_free κs a r₁ r₂ e₁ e₂ p q = p ∙ sym q

pub first_waiting : (κs : _) (a : _) (r₁ r₂ : _) (e₁ e₂ : _) → first-waiting-promise.Learnt κs a r₁ e₁ → first-waiting-promise.Learnt κs a r₂ e₂ → r₁ ≡ r₂
first_waiting κs a r₁ r₂ e₁ e₂ p q = p ∙ sym q

pub room_freed : (κs : _) (a : _) (r₁ r₂ : _) (e₁ e₂ : _) → room-freed-promise.Learnt κs a r₁ e₁ → room-freed-promise.Learnt κs a r₂ e₂ → r₁ ≡ r₂
room_freed κs a r₁ r₂ e₁ e₂ p q = p ∙ sym q

pub rooms_of_call : (κs : _) (a : _) (r₁ r₂ : _) (e₁ e₂ : _) → of-call-count-promise.Learnt κs a r₁ e₁ → of-call-count-promise.Learnt κs a r₂ e₂ → r₁ ≡ r₂
rooms_of_call κs a r₁ r₂ e₁ e₂ p q = p.0 ∙ sym q.0

pub rooms_freed : (κs : _) (a : _) (r₁ r₂ : _) (e₁ e₂ : _) → rooms-freed-promise.Learnt κs a r₁ e₁ → rooms-freed-promise.Learnt κs a r₂ e₂ → r₁ ≡ r₂
rooms_freed κs a r₁ r₂ e₁ e₂ p q = let e : r₁.rooms ≡ r₂.rooms = p ∙ sym q in λ i. record { rooms = e i }

pub ask : (κs : _) (a : _) (r₁ r₂ : _) (e₁ e₂ : _) → ask-promise.Learnt κs a r₁ e₁ → ask-promise.Learnt κs a r₂ e₂ → (r₁ ≡ r₂) × (e₁.1.1.1.1.0.now ≡ e₂.1.1.1.1.0.now)
ask κs a r₁ r₂ e₁ e₂ p q = determined _ _ r₁ r₂ _ _ p q

pub ask_pdu : (κs : _) (a : _) (r₁ r₂ : _) (e₁ e₂ : _) → ask-pdu-promise.Learnt κs a r₁ e₁ → ask-pdu-promise.Learnt κs a r₂ e₂ → (r₁ ≡ r₂) × (e₁.1.1.1.1.0.now ≡ e₂.1.1.1.1.0.now)
ask_pdu κs a r₁ r₂ e₁ e₂ p q = determined _ _ r₁ r₂ _ _ p q

pub decide : (κs : _) (a : _) (r₁ r₂ : _) (e₁ e₂ : _) → decide-promise.Learnt κs a r₁ e₁ → decide-promise.Learnt κs a r₂ e₂ → (r₁ ≡ r₂) × (e₁.1.1.1.0.now ≡ e₂.1.1.1.0.now)
decide κs a r₁ r₂ e₁ e₂ p q = determined _ _ r₁ r₂ _ _ p q

pub ended : (κs : _) (a : _) (r₁ r₂ : _) (e₁ e₂ : _) → ended-promise.Learnt κs a r₁ e₁ → ended-promise.Learnt κs a r₂ e₂ → (r₁ ≡ r₂) × (e₁.1.1.0.now ≡ e₂.1.1.0.now)
ended κs a r₁ r₂ e₁ e₂ p q = determined _ _ r₁ r₂ _ _ p q
