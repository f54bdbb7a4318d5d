-- What is written reads back, how much it is, and that a refusal writes nothing.
use Prim.Native.Nat.{ℕ, ◌≤◌, ◌<◌}
use mathlib.Core.Path.{◌≡◌, refl, sym, ◌∙◌, ap}
use mathlib.Core.Bool.{Bool, true, false, cond}
use mathlib.Core.List.{List, [], ◌∷◌, ◌++◌}
use native.Mathlib.Omega.{arith}
use borrow.Author.Tests.{le-leb, ne_eqb, ltb-true}
use lib.ListN.{length}
use Rattle.records.specs.declared.messages.Message.{Message}
use Rattle.records.specs.Letters.{within}
use Rattle.records.specs.Bodies.{all_fit, flat_fits}
use Rattle.records.specs.Tables.{fine}
use Rattle.records.specs.Messages.{messages}
use Rattle.callcontrol.specs.Writing.{bytes_of}
use Rattle.demands.specs.Demands.{Reads}
use Rattle.demands.specs.Runs as demands
use Rattle.demands.proofs.Facts as facts
use Rattle.demands.proofs.ReadsBack.{read_after_read, stored}
use Rattle.channel.specs.declared.rooms.Wait.{Wait}
use Rattle.channel.specs.declared.rooms.Room.{Room}
use Rattle.channel.specs.Rooms.{fresh_rooms, of_call, every?, rooms_sound}
use Rattle.channel.specs.Questions.{Outcome, refusal, reject, first_out, rejects, rejects_in, ask_of, decide_of, ended_of}
use Rattle.channel.specs.Runs.{Turn, question, decision, end, lent_by, outcome, run, written_by, Handed, said, said_if}
use Rattle.channel.specs.Demands as claims
use Rattle.channel.specs.Answers.{applies, first_of}
use Rattle.channel.proofs.Answering.{answered_in_order}
use Rattle.channel.proofs.Counting.{Sound, sound_of, sound_is}
use Rattle.channel.proofs.Turns.{Wrote, Went, stays, answers, waits, decides, ends, went, seven, first_size, end_size}
use Rattle.channel.proofs.Reading.{small}
use Rattle.channel.proofs.Kept.{always, always_small}
use Rattle.channel.proofs.Once.{asked_verdict, decided_verdict}

-- ---- it reads back

answer_fine : (n v : ℕ) → n < 65536 → v < 3 → fine messages (Message.ChannelAnswer n v) ≡ true
unfolding fine flat_fits all_fit within
answer_fine n v h g = rw (le-leb 0 n (omega arith), le-leb n 65535 (omega arith), le-leb 0 v (omega arith), le-leb v 2 (omega arith))

cancel_fine : (w : Wait) → demands.every? (λ m. fine messages m) (first_out w) ≡ true
unfolding fine flat_fits all_fit
cancel_fine Wait.Nobody = refl
cancel_fine Wait.User = refl
cancel_fine Wait.Cancel = refl

rejects_fine : (c : ℕ) (rooms : List Room) → every? small rooms ≡ true → demands.every? (λ m. fine messages m) (rejects_in c rooms) ≡ true
unfolding rejects
rejects_fine c [] h = refl
rejects_fine c (r ∷ rs) h = by (of_call c r) (rejects_fine c rs (facts.right (small r) _ h))
  where
    by : (o : Bool) → demands.every? (λ m. fine messages m) (rejects_in c rs) ≡ true
        → demands.every? (λ m. fine messages m) (cond o (Message.ChannelAnswer r.number reject ∷ []) [] ++ rejects_in c rs) ≡ true
    by true again = facts.and _ _ (answer_fine r.number reject (ltb-true _ _ (facts.left (small r) _ h)) (omega arith)) again
    by false again = again

wrote_reads : (rooms after : List Room) (ms : List Message) (t : Turn) → Wrote rooms t after ms → demands.every? (λ m. fine messages m) ms ≡ true → said_if rooms t ≡ ms
    → Reads (written_by rooms t) (said rooms t)
unfolding written_by said
wrote_reads rooms after ms t w f e = rw (w.is, stored (bytes_of ms) (lent_by t) w.fits, e) (read_after_read ms f)

reads_went : (rooms : List Room) → every? small rooms ≡ true → (t : Turn) → Handed t → Went rooms t → Reads (written_by rooms t) (said rooms t)
unfolding written_by said
reads_went rooms h t g (stays k not short e) = rw (e, ne_eqb k 0 not)
reads_went rooms h (question n c a b) g (answers v e none w) =
    wrote_reads rooms rooms (Message.ChannelAnswer n v ∷ []) (question n c a b) w (facts.and _ _ (answer_fine n v g (asked_verdict a v e)) refl) (rw e)
reads_went rooms h (question n c a b) g (waits u e none f le w) = wrote_reads rooms _ (first_out u) (question n c a b) w (cancel_fine u) (rw e)
reads_went rooms h (decision n d b) g (decides u v e f w) =
    wrote_reads rooms _ (Message.ChannelAnswer n v ∷ []) (decision n d b) w (facts.and _ _ (answer_fine n v g (decided_verdict d u v e)) refl) (rw e)
reads_went rooms h (end c b) g (ends le w) = wrote_reads rooms _ (rejects_in c rooms) (end c b) w (rejects_fine c rooms h) refl

pub reads_back : claims.ReadsBack
reads_back ts t g k = reads_went (run fresh_rooms ts) (always_small ts g) t k (went (run fresh_rooms ts) (sound_is _ (always ts)) t)

-- ---- how much it is

most : (rooms : List Room) → Sound rooms → (t : Turn) → Went rooms t → (outcome rooms t).count ≤ claims.room t
most rooms s t (stays k not short e) = rw e (omega arith)
most rooms s (question n c a b) (answers v e none w) = rw w.is (let z = seven n v in omega (arith, z))
most rooms s (question n c a b) (waits u e none f le w) = rw w.is (first_size u)
most rooms s (decision n d b) (decides u v e f w) = rw w.is (let z = seven n v in omega (arith, z))
most rooms s (end c b) (ends le w) = rw w.is (end_size c rooms s.four)

pub at_most : claims.AtMost
at_most ts t = most (run fresh_rooms ts) (always ts) t (went (run fresh_rooms ts) (sound_is _ (always ts)) t)

zero_not_seven : {rooms after : List Room} {t : Turn} {ms : List Message} → Wrote rooms t after ms → (outcome rooms t).answer ≡ 7 → ⊥
zero_not_seven w e = let z : ◌≡◌ {A = ℕ} 0 7 = sym (ap (λ (o : Outcome). o.answer) w.is) ∙ e in omega (arith, z)

room_enough : (rooms : List Room) (t : Turn) → claims.room t ≤ length (lent_by t) → Went rooms t → (outcome rooms t).answer ≡ 7 → ⊥
room_enough rooms t room (stays k not short e) f = let z = short (sym (ap (λ (o : Outcome). o.answer) e) ∙ f) in omega (arith, z, room)
room_enough rooms (question n c a b) room (answers v e none w) f = zero_not_seven w f
room_enough rooms (question n c a b) room (waits u e none g le w) f = zero_not_seven w f
room_enough rooms (decision n d b) room (decides u v e g w) f = zero_not_seven w f
room_enough rooms (end c b) room (ends le w) f = zero_not_seven w f

pub enough : claims.Enough
enough ts t room = room_enough (run fresh_rooms ts) t room (went (run fresh_rooms ts) (sound_is _ (always ts)) t)

-- ---- a refusal

unsound : (rooms : List Room) (t : Turn) → rooms_sound rooms ≡ false → outcome rooms t ≡ refusal 1 rooms (lent_by t)
unfolding outcome ask_of decide_of ended_of
unsound rooms (question n c a b) s = rw s
unsound rooms (decision n d b) s = rw s
unsound rooms (end c b) s = rw s

same_refusal : (rooms : List Room) (t : Turn) (k n : ℕ) → outcome rooms t ≡ refusal k rooms (lent_by t) → (outcome rooms t).answer ≡ n → outcome rooms t ≡ refusal n rooms (lent_by t)
same_refusal rooms t k n e h = let same : k ≡ n = sym (ap (λ (o : Outcome). o.answer) e) ∙ h in e ∙ ap (λ (x : ℕ). refusal x rooms (lent_by t)) same

wrote_zero : {rooms after : List Room} {t : Turn} {ms : List Message} {A : Type 0} (n : ℕ) → Wrote rooms t after ms → (outcome rooms t).answer ≡ n → (n ≡ 0 → ⊥) → A
wrote_zero n w h not = absurd (not (sym h ∙ ap (λ (o : Outcome). o.answer) w.is))

refused_went : (rooms : List Room) (t : Turn) (n : ℕ) → (outcome rooms t).answer ≡ n → (n ≡ 0 → ⊥) → Went rooms t → outcome rooms t ≡ refusal n rooms (lent_by t)
refused_went rooms t n h not (stays k some short e) = same_refusal rooms t k n e h
refused_went rooms (question m c a b) n h not (answers v e none w) = wrote_zero n w h not
refused_went rooms (question m c a b) n h not (waits u e none f le w) = wrote_zero n w h not
refused_went rooms (decision m d b) n h not (decides u v e f w) = wrote_zero n w h not
refused_went rooms (end c b) n h not (ends le w) = wrote_zero n w h not

pub refused : claims.Refused
refused rooms t n h not = by (rooms_sound rooms) refl
  where
    by : (s : Bool) → rooms_sound rooms ≡ s → outcome rooms t ≡ refusal n rooms (lent_by t)
    by true s = refused_went rooms t n h not (went rooms s t)
    by false s = same_refusal rooms t 1 n (unsound rooms t s) h

-- 1 is for rooms that are not sound alone
first_one : (p : ℕ → Bool) (a b c d e f : ℕ) → p 1 ≡ false → (a ≡ 1 → ⊥) → (b ≡ 1 → ⊥) → (c ≡ 1 → ⊥) → (d ≡ 1 → ⊥) → (e ≡ 1 → ⊥) → (f ≡ 1 → ⊥)
    → first_of p (1 ∷ a ∷ b ∷ c ∷ d ∷ e ∷ f ∷ []) ≡ 1 → ⊥
first_one p a b c d e f none na nb nc nd ne nf h = by (p a) (p b) (p c) (p d) (p e) (p f) (rw none at h)
  where
    by : (x y z u v w : Bool) → cond x a (cond y b (cond z c (cond u d (cond v e (cond w f 0))))) ≡ 1 → ⊥
    by true y z u v w h = na h
    by false true z u v w h = nb h
    by false false true u v w h = nc h
    by false false false true v w h = nd h
    by false false false false true w h = ne h
    by false false false false false true h = nf h
    by false false false false false false h = omega arith

pub sound_not_one : (rooms : List Room) (t : Turn) → rooms_sound rooms ≡ true → (outcome rooms t).answer ≡ 1 → ⊥
unfolding applies
sound_not_one rooms t s h =
    first_one (λ n. applies n rooms t) 4 50 51 53 52 7 (rw s) (λ e. omega arith) (λ e. omega arith) (λ e. omega arith) (λ e. omega arith) (λ e. omega arith) (λ e. omega arith)
    (sym (answered_in_order rooms t) ∙ h)

-- whatever the rooms, an entry writes at most 28 bytes

room_at_most : (t : Turn) → claims.room t ≤ 28
room_at_most (question n c a b) = omega arith
room_at_most (decision n d b) = omega arith
room_at_most (end c b) = omega arith

pub few : (rooms : List Room) (t : Turn) → (outcome rooms t).count ≤ 28
few rooms t = by (rooms_sound rooms) refl
  where
    by : (s : Bool) → rooms_sound rooms ≡ s → (outcome rooms t).count ≤ 28
    by true s = let z = most rooms (sound_of rooms s) t (went rooms s t) in let y = room_at_most t in omega (arith, z, y)
    by false s = rw (unsound rooms t s) (omega arith)
