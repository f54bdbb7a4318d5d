-- What a turn from sound rooms comes to: a refusal that changes nothing, an answer at once, a room taken, a question decided, or a call's questions
-- rejected.
use Prim.Native.Nat.{ℕ, ◌≤◌, ◌<◌}
use mathlib.Core.Path.{◌≡◌, refl, sym}
use mathlib.Core.Bool.{Bool, true, false, cond}
use mathlib.Core.List.{List, [], ◌∷◌}
use native.Mathlib.Omega.{arith}
use borrow.Author.Tests.{leb-true, leb-false}
use lib.Dec.{leb}
use lib.ListN.{length}
use lib.Seq.{sets}
use Rattle.records.specs.declared.messages.Message.{Message}
use Rattle.records.specs.Bodies.{flat_size}
use Rattle.records.specs.Messages.{message_size}
use Rattle.callcontrol.specs.Writing.{bytes_of}
use Rattle.callcontrol.proofs.Laying.{size_one}
use Rattle.channel.specs.declared.rooms.Wait.{Wait}
use Rattle.channel.specs.declared.rooms.Room.{Room}
use Rattle.channel.specs.Rooms.{free_room, is_free, has_number, waits_for, of_call, some?, rooms_sound, in_first, all_freed}
use Rattle.channel.specs.Questions.{Reply, Asked, Decision, refusal, carried, asked_of, decision_of, first_out, taken, decide_of, rejects_in}
use Rattle.channel.specs.Runs.{Turn, question, decision, end, lent_by, outcome}
use Rattle.channel.specs.Demands.{room}
use Rattle.channel.proofs.Counting.{count_length, sound_of}
use Rattle.channel.proofs.Asking.{size_rejects_in, ask_call, ask_unknown, ask_waits, ask_replied, decide_unknown, end_call, end_rejects}

-- taken: the rooms then, and the messages that went out
pub record Wrote (rooms : List Room) (t : Turn) (after : List Room) (ms : List Message) : Type 0 where
  pub fits : length (bytes_of ms) ≤ length (lent_by t)
  pub is : outcome rooms t ≡ record { answer = 0; rooms = after; count = length (bytes_of ms); buffer = sets (lent_by t) 0 (bytes_of ms) }

abbrev pub room_for : Wait → ℕ → ℕ → Room
room_for w n c = record { wait = w; number = n; call = c }

pub data Went (rooms : List Room) : Turn → Type 0 where
  stays : {t : Turn} → (k : ℕ) → (k ≡ 0 → ⊥) → (k ≡ 7 → length (lent_by t) < room t) → outcome rooms t ≡ refusal k rooms (lent_by t) → Went rooms t
  answers : {n c a : ℕ} {b : List ℕ} → (v : ℕ) → asked_of a ≡ Asked.Is (Reply.Now v) → some? (has_number n) rooms ≡ false → Wrote rooms (question n c a b) rooms (Message.ChannelAnswer n v ∷ []) → Went rooms (question n c a b)
  waits : {n c a : ℕ} {b : List ℕ} → (w : Wait) → asked_of a ≡ Asked.Is (Reply.Waits w) → some? (has_number n) rooms ≡ false → some? is_free rooms ≡ true → c ≤ 16383 → Wrote rooms (question n c a b) (in_first is_free (room_for w n c) rooms) (first_out w) → Went rooms (question n c a b)
  decides : {n d : ℕ} {b : List ℕ} → (w : Wait) → (v : ℕ) → decision_of d ≡ Decision.Gives w v → some? (waits_for n w) rooms ≡ true → Wrote rooms (decision n d b) (in_first (waits_for n w) free_room rooms) (Message.ChannelAnswer n v ∷ []) → Went rooms (decision n d b)
  ends : {c : ℕ} {b : List ℕ} → c ≤ 16383 → Wrote rooms (end c b) (all_freed c rooms) (rejects_in c rooms) → Went rooms (end c b)

-- how many bytes they are

pub seven : (n v : ℕ) → length (bytes_of (Message.ChannelAnswer n v ∷ [])) ≡ 7
unfolding message_size flat_size
seven n v = size_one (Message.ChannelAnswer n v)

answer_size : (n v : ℕ) → length (bytes_of (Message.ChannelAnswer n v ∷ [])) ≤ 7
answer_size n v = let z = seven n v in omega (arith, z)

pub first_size : (w : Wait) → length (bytes_of (first_out w)) ≤ 7
unfolding bytes_of message_size flat_size
first_size Wait.Nobody = omega arith
first_size Wait.User = omega arith
first_size Wait.Cancel = let z : length (bytes_of (Message.Cancel ∷ [])) ≡ 4 = size_one Message.Cancel in omega (arith, z)

pub end_size : (c : ℕ) (rooms : List Room) → length rooms ≡ 4 → length (bytes_of (rejects_in c rooms)) ≤ 28
end_size c rooms e = let z = size_rejects_in c rooms in let y = count_length (of_call c) rooms in omega (arith, z, y)

-- messages that fit, or 7
wrote_or : (rooms after : List Room) (ms : List Message) (t : Turn) → length (bytes_of ms) ≤ room t → outcome rooms t ≡ carried rooms after ms (lent_by t) → (Wrote rooms t after ms → Went rooms t) → Went rooms t
unfolding carried
wrote_or rooms after ms t most e k = by (leb (length (bytes_of ms)) (length (lent_by t))) refl e
  where
    by : (b : Bool) → leb (length (bytes_of ms)) (length (lent_by t)) ≡ b
        → outcome rooms t ≡ cond b (record { answer = 0; rooms = after; count = length (bytes_of ms); buffer = sets (lent_by t) 0 (bytes_of ms) }) (refusal 7 rooms (lent_by t)) → Went rooms t
    by true f e = k (record { fits = leb-true _ _ f; is = e })
    by false f e = stays {t = t} 7 (λ z. absurd (omega arith)) (λ z. let y = leb-false (length (bytes_of ms)) (length (lent_by t)) f in omega (arith, y, most)) e

module _ (rooms : List Room) (s : rooms_sound rooms ≡ true) where
  module _ (n c a : ℕ) (b : List ℕ) where
    by_room : (w : Wait) → asked_of a ≡ Asked.Is (Reply.Waits w) → some? (has_number n) rooms ≡ false → c ≤ 16383 → outcome rooms (question n c a b) ≡ taken rooms n c w b
        → (f : Bool) → some? is_free rooms ≡ f → Went rooms (question n c a b)
    unfolding taken
    by_room w e none le is true f = wrote_or rooms (in_first is_free (room_for w n c) rooms) (first_out w) (question n c a b) (first_size w) (rw f at is) (waits w e none f le)
    by_room w e none le is false f = stays 51 (λ z. absurd (omega arith)) (λ z. absurd (omega arith)) (rw f at is)

    by_reply : (reply : Reply) → asked_of a ≡ Asked.Is reply → c ≤ 16383 → (k : Bool) → some? (has_number n) rooms ≡ k → Went rooms (question n c a b)
    unfolding outcome
    by_reply reply e le true w = stays 50 (λ z. absurd (omega arith)) (λ z. absurd (omega arith)) (sym (ask_waits rooms n c a b s le reply (sym e) w))
    by_reply (Reply.Now v) e le false w =
        wrote_or rooms rooms (Message.ChannelAnswer n v ∷ []) (question n c a b) (answer_size n v) (sym (ask_replied rooms n c a b s le (Reply.Now v) _ (sym e) w refl)) (answers v e w)
    by_reply (Reply.Waits u) e le false w =
        by_room u e w le (sym (ask_replied rooms n c a b s le (Reply.Waits u) _ (sym e) w refl)) (some? is_free rooms) refl
    by_reply Reply.Open e le false w = stays 53 (λ z. absurd (omega arith)) (λ z. absurd (omega arith)) (sym (ask_replied rooms n c a b s le Reply.Open _ (sym e) w refl))

    by_asked : (q : Asked) → asked_of a ≡ q → c ≤ 16383 → Went rooms (question n c a b)
    unfolding outcome
    by_asked (Asked.Is reply) e le = by_reply reply e le (some? (has_number n) rooms) refl
    by_asked Asked.Unknown e le = stays 4 (λ z. absurd (omega arith)) (λ z. absurd (omega arith)) (sym (ask_unknown rooms n c a b s le (sym e)))

    by_call : (k : Bool) → leb c 16383 ≡ k → Went rooms (question n c a b)
    unfolding outcome
    by_call true e = by_asked (asked_of a) refl (leb-true _ _ e)
    by_call false e = stays 4 (λ z. absurd (omega arith)) (λ z. absurd (omega arith)) (sym (ask_call rooms n c a b s (leb-false _ _ e)))

  module _ (n d : ℕ) (b : List ℕ) where
    by_waiting : (w : Wait) (v : ℕ) → decision_of d ≡ Decision.Gives w v → (k : Bool) → some? (waits_for n w) rooms ≡ k → Went rooms (decision n d b)
    unfolding outcome decide_of
    by_waiting w v e true f =
        wrote_or rooms (in_first (waits_for n w) free_room rooms) (Message.ChannelAnswer n v ∷ []) (decision n d b) (answer_size n v) (rw (s, e, f)) (decides w v e f)
    by_waiting w v e false f = stays {t = decision n d b} 52 (λ z. absurd (omega arith)) (λ z. absurd (omega arith)) (rw (s, e, f))

    by_decision : (q : Decision) → decision_of d ≡ q → Went rooms (decision n d b)
    unfolding outcome
    by_decision (Decision.Gives w v) e = by_waiting w v e (some? (waits_for n w) rooms) refl
    by_decision Decision.Unknown e = stays 4 (λ z. absurd (omega arith)) (λ z. absurd (omega arith)) (sym (decide_unknown rooms n d b s (sym e)))

  by_end : (c : ℕ) (b : List ℕ) (k : Bool) → leb c 16383 ≡ k → Went rooms (end c b)
  unfolding outcome
  by_end c b true e = wrote_or rooms (all_freed c rooms) (rejects_in c rooms) (end c b) (end_size c rooms (sound_of rooms s).four) (sym (end_rejects rooms c b s _ (leb-true _ _ e) refl)) (ends (leb-true _ _ e))
  by_end c b false e = stays 4 (λ z. absurd (omega arith)) (λ z. absurd (omega arith)) (sym (end_call rooms c b s (leb-false _ _ e)))

  pub went : (t : Turn) → Went rooms t
  went (question n c a b) = by_call n c a b (leb c 16383) refl
  went (decision n d b) = by_decision n d b (decision_of d) refl
  went (end c b) = by_end c b (leb c 16383) refl
