-- What the rooms' entries answer, from what their callees give.
use Prim.Native.Nat.{ℕ, ◌≤◌}
use mathlib.Core.Path.{◌≡◌, refl, sym, ◌∙◌, ap}
use mathlib.Core.Bool.{true, cond, and-true, and_assoc}
use mathlib.Core.List.{List, [], ◌∷◌}
use borrow.Author.Tests.{eqb-true, eq-eqb}
use Rattle.std.specs.List.{list_all}
use lib.Dec.{eqb, leb}
use lib.ListN.{length, get_or}
use Rattle.records.specs.Bytes.{bytes}
use Rattle.channel.specs.declared.rooms.Room.{Room}
use Rattle.channel.specs.declared.rooms.Rooms.{Rooms}
use Rattle.std.specs.Prelude.{Option, Some, None, Result, Ok, Err, IfOk}
use Rattle.channel.specs.declared.questions.ChannelRefusal.{ChannelRefusal}
use Rattle.channel.specs.declared.questions.Answered.{Answered}
use Rattle.channel.specs.Questions.{Outcome, as_outcome, ask_of, decide_of, ended_of}
use Rattle.channel.specs.Runs.{question, decision, end, outcome}
use Rattle.channel.proofs.Written.{few}
use Rattle.host.specs.Channel.{packed_room, packed_rooms, is_rooms, held_rooms, unpacked_rooms, RoomsLeft, rooms_left_by, on_rooms, leaving}
use Rattle.host.proofs.Packing.{items_drop}
use Rattle.host.proofs.Tested.{some_by_test, none_by_test}
use Rattle.demands.proofs.Facts.{left, right}

-- the rooms that some bytes hold, as the code gives them
abbrev found : List ℕ → Option Rooms
found s = cond (is_rooms s) (Some (record { rooms = held_rooms s })) None

-- bytes that are no rooms
pub no_rooms : (s out : List ℕ) (call : List Room → Outcome) → None ≡ found s
    → ◌≡◌ {A = RoomsLeft} (record { result = 16777216; rooms = s; out = out }) (on_rooms s out call)
unfolding on_rooms unpacked_rooms
no_rooms s out call none = rw (none_by_test _ _ none)

-- rooms have 20 bytes
pub rooms_length : (s : List ℕ) {rooms : Rooms} → Some rooms ≡ found s → length s ≡ 20
unfolding is_rooms
rooms_length s held =
    let all : is_rooms s ≡ true = (some_by_test _ held).0 in
    let whole : eqb (length s) 20 ≡ true = search (left, right) depth 20 in
    eqb-true _ _ whole

-- what the code leaves is what the definition says of a turn
pub left_rooms : (s out : List ℕ) (call : List Room → Outcome) (a : Result Answered ChannelRefusal) {rooms : Rooms} {after out' : List ℕ} {r : ℕ}
    → Some rooms ≡ found s → as_outcome rooms.rooms a out' ≡ call rooms.rooms
    → ◌≡◌ {A = ℕ × List ℕ} (r, after) (leaving s a) → ◌≡◌ {A = RoomsLeft} (record { result = r; rooms = after; out = out' }) (on_rooms s out call)
unfolding on_rooms unpacked_rooms
left_rooms s out call a {rooms} {after} {out'} {r} held called e =
    let t = some_by_test (is_rooms s) held in
    let holds : held_rooms s ≡ rooms.rooms = ap (λ (x : Rooms). x.rooms) t.1 in
    let whole : rooms_left_by s (as_outcome rooms.rooms a out') ≡ on_rooms s out call = rw (t.0, holds, ← called) in
    (λ i. record { result = (e i).0; rooms = (e i).1; out = out' }) ∙ by a ∙ whole
  where
    by : (a : Result Answered ChannelRefusal) → ◌≡◌ {A = RoomsLeft} (record { result = (leaving s a).0; rooms = (leaving s a).1; out = out' }) (rooms_left_by s (as_outcome rooms.rooms a out'))
    by (Ok a) = refl
    by (Err ChannelRefusal.NotSound) = refl
    by (Err ChannelRefusal.BadField) = refl
    by (Err ChannelRefusal.NumberWaits) = refl
    by (Err ChannelRefusal.RoomsFull) = refl
    by (Err ChannelRefusal.OwnGroup) = refl
    by (Err ChannelRefusal.NoneWaits) = refl
    by (Err ChannelRefusal.NoRoom) = refl

-- a turn counts at most 28 bytes

taken_few : (rooms : List Room) (a : Result Answered ChannelRefusal) (b : List ℕ) → (as_outcome rooms a b).count ≤ 28 → IfOk a (λ r. r.count ≤ 28)
taken_few rooms (Ok r) b h = h
taken_few rooms (Err e) b h = tt

pub ask_few : (rooms : List Room) (n c a : ℕ) (b after : List ℕ) (r : Result Answered ChannelRefusal) → as_outcome rooms r after ≡ ask_of rooms n c a b → IfOk r (λ r. r.count ≤ 28)
unfolding outcome
ask_few rooms n c a b after r e = taken_few rooms r after (rw e (few rooms (question n c a b)))

pub decide_few : (rooms : List Room) (n d : ℕ) (b after : List ℕ) (r : Result Answered ChannelRefusal) → as_outcome rooms r after ≡ decide_of rooms n d b → IfOk r (λ r. r.count ≤ 28)
unfolding outcome
decide_few rooms n d b after r e = taken_few rooms r after (rw e (few rooms (decision n d b)))

pub ended_few : (rooms : List Room) (c : ℕ) (b after : List ℕ) (r : Result Answered ChannelRefusal) → as_outcome rooms r after ≡ ended_of rooms c b → IfOk r (λ r. r.count ≤ 28)
unfolding outcome
ended_few rooms c b after r e = taken_few rooms r after (rw e (few rooms (end c b)))

-- 20 bytes are rooms where each waits for one of three
pub of_waits : (s : List ℕ) → length s ≡ 20 → is_rooms s ≡ list_all (λ byte. leb byte 2) (get_or s 0 0 ∷ get_or s 5 0 ∷ get_or s 10 0 ∷ get_or s 15 0 ∷ [])
unfolding is_rooms
of_waits s e = rw (eq-eqb _ _ e) (simp (and_assoc, and-true))

-- four rooms of five bytes each

pub four_are : {A : Type 0} (d : A) {l : List A} {a b c e : A} → length l ≡ 4 → get_or l 0 d ≡ a → get_or l 1 d ≡ b → get_or l 2 d ≡ c
    → get_or l 3 d ≡ e → l ≡ a ∷ b ∷ c ∷ e ∷ []
four_are d {l} long e₀ e₁ e₂ e₃ = sym (items_drop 4 0 l d long) ∙ rw (e₀, e₁, e₂, e₃)

pub rooms_long : (rooms : List Room) → length (packed_rooms rooms) ≡ 20
unfolding packed_rooms packed_room bytes
rooms_long rooms = refl
