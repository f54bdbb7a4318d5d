-- A question that does not wait: the verdict in its own turn; an individually addressed one, by the step; and the one on the PDU that ends the call.
use Prim.Native.Nat.{ℕ, ◌≤◌, ◌<◌}
use mathlib.Core.Path.{◌≡◌, refl, sym, ◌∙◌, ap}
use mathlib.Core.Bool.{Bool, true, false, cond, ◌&&◌}
use mathlib.Core.List.{List, [], ◌∷◌, ◌++◌}
use native.Mathlib.Omega.{arith}
use borrow.Author.Tests.{eq-eqb, le-leb}
use lib.Dec.{eqb}
use lib.ListN.{length}
use Rattle.records.specs.declared.messages.Message.{Message}
use Rattle.records.specs.Bodies.{flat_size}
use Rattle.records.specs.Messages.{message_size}
use Rattle.std.specs.Prelude.{Result, Ok, Err}
use Rattle.callcontrol.specs.declared.call.Call.{Call}
use Rattle.callcontrol.specs.declared.step.Refusal.{Refusal}
use Rattle.callcontrol.specs.declared.step.Stepped.{Stepped}
use Rattle.callcontrol.specs.Step as step
use Rattle.callcontrol.specs.Writing.{bytes_of}
use Rattle.callcontrol.proofs.Laying.{size_one}
use Rattle.demands.proofs.Facts as facts
use Rattle.demands.proofs.ReadsBack.{stored}
use Rattle.channel.specs.declared.rooms.Wait.{Wait}
use Rattle.channel.specs.declared.rooms.Room.{Room}
use Rattle.channel.specs.Rooms.{fresh_rooms, is_free, has_number, of_call, some?, every?, count, in_first, all_freed}
use Rattle.channel.specs.Questions.{Reply, Asked, Outcome, carried, accept, reject, asked_of, asked_by, pdu_of, first_out, taken, rejects_in, step_number}
use Rattle.channel.specs.Runs.{Turn, question, end, lent_by, outcome, run, verdicts, verdicts_in}
use Rattle.channel.specs.Demands as claims
use Rattle.channel.specs.Demands.{Waiting, is_question}
use Rattle.channel.proofs.Asking.{ask_replied, end_rejects}
use Rattle.channel.proofs.Counting.{none_count, mono, Sound, sound_is}
use Rattle.channel.proofs.Turns.{Wrote, room_for, Went, stays, answers, waits, went, seven, end_size}
use Rattle.channel.proofs.Reading.{small, one_answer, times}
use Rattle.channel.proofs.Kept.{next_stays, always, always_small}
use Rattle.channel.proofs.Once.{asked_verdict, one_verdict, end_verdicts}
use Rattle.channel.proofs.Waiting.{other_number, then}

-- what is taken with a verdict at once has written it
wrote_now : (rooms : List Room) (n c a v : ℕ) (b : List ℕ) → asked_of a ≡ Asked.Is (Reply.Now v) → (outcome rooms (question n c a b)).answer ≡ 0 → Went rooms (question n c a b)
    → Wrote rooms (question n c a b) rooms (Message.ChannelAnswer n v ∷ [])
wrote_now rooms n c a v b e zero (stays k not short is) = absurd (not (sym (ap (λ (o : Outcome). o.answer) is) ∙ zero))
wrote_now rooms n c a v b e zero (answers u f none wr) = let same : u ≡ v = cc in rw (← same) wr
wrote_now rooms n c a v b e zero (waits u f none free le wr) = absurd (let z : ◌≡◌ {A = ℕ} 0 1 = cc in omega arith)

pub at_once : claims.AtOnce
at_once ts n c a v b h e zero =
    let rooms = run fresh_rooms ts in
    let wr = wrote_now rooms n c a v b e zero (went rooms (sound_is rooms (always ts)) (question n c a b)) in
    (one_verdict n n v h (asked_verdict a v e) wr ∙ ap (λ (b : Bool). cond b (v ∷ []) []) (eq-eqb n n refl), next_stays rooms (question n c a b) _ wr.is)

-- individually addressed

individual_asked : (k : ℕ) → asked_of (asked_by k) ≡ Asked.Is (Reply.Now (cond (eqb k 0) accept reject))
unfolding asked_of
individual_asked k = by (eqb k 0)
  where
    by : (b : Bool) → asked_of (cond b 0 1) ≡ Asked.Is (Reply.Now (cond b accept reject))
    by true = refl
    by false = refl

-- its number is that of the outcome
number_of : (call : Call) (s : Result Stepped Refusal) (left : List ℕ) → step_number s ≡ (step.as_outcome call s left).answer
number_of call (Ok s) left = refl
number_of call (Err e) left = refl

pub individual : claims.Individual
unfolding pdu_of outcome
individual ts n c b call pdu lent left s h promise zero =
    let rooms = run fresh_rooms ts in
    let k = step_number s in
    let same : k ≡ (step.step_of call pdu lent).answer = number_of call s left ∙ ap (λ (o : step.Outcome). o.answer) promise in
    let wr = wrote_now rooms n c (asked_by k) (cond (eqb k 0) accept reject) b (individual_asked k) zero (went rooms (sound_is rooms (always ts)) (question n c (asked_by k) b)) in
    let v = asked_verdict (asked_by k) (cond (eqb k 0) accept reject) (individual_asked k) in (
      rw (wr.is, stored (bytes_of (Message.ChannelAnswer n (cond (eqb k 0) accept reject) ∷ [])) b wr.fits, ← same) (one_answer n (cond (eqb k 0) accept reject) h (omega (arith, v))),
      ap (λ (o : Outcome). o.rooms) wr.is,
    )

-- messages that fit are written
fits_written : (rooms after : List Room) (ms : List Message) (t : Turn) → outcome rooms t ≡ carried rooms after ms (lent_by t) → length (bytes_of ms) ≤ length (lent_by t) → Wrote rooms t after ms
unfolding carried
fits_written rooms after ms t e le = record { fits = le; is = rw (le-leb (length (bytes_of ms)) (length (lent_by t)) le) at e }

now_written : (rooms : List Room) (s : Sound rooms) (n c a v : ℕ) (b : List ℕ) → asked_of a ≡ Asked.Is (Reply.Now v) → c ≤ 16383 → some? (has_number n) rooms ≡ false → 7 ≤ length b
    → Wrote rooms (question n c a b) rooms (Message.ChannelAnswer n v ∷ [])
unfolding outcome
now_written rooms s n c a v b e le none room =
    fits_written rooms rooms (Message.ChannelAnswer n v ∷ []) (question n c a b)
    (sym (ask_replied rooms n c a b (sound_is rooms s) le (Reply.Now v) _ (sym e) none refl)) (let z = seven n v in omega (arith, z))

pub individual_taken : claims.IndividualTaken
unfolding pdu_of outcome
individual_taken ts n c k b le none room =
    ap (λ (o : Outcome). o.answer) (now_written (run fresh_rooms ts) (always ts) n c (asked_by k) (cond (eqb k 0) accept reject) b (individual_asked k) le none room).is

-- a free room serves
free_written : (rooms : List Room) (s : Sound rooms) (n c a : ℕ) (w : Wait) (b : List ℕ) → asked_of a ≡ Asked.Is (Reply.Waits w) → c ≤ 16383 → some? (has_number n) rooms ≡ false
    → some? is_free rooms ≡ true → length (bytes_of (first_out w)) ≤ length b → Wrote rooms (question n c a b) (in_first is_free (room_for w n c) rooms) (first_out w)
unfolding outcome taken
free_written rooms s n c a w b e le none free room =
    fits_written rooms (in_first is_free (room_for w n c) rooms) (first_out w) (question n c a b)
    (sym (ask_replied rooms n c a b (sound_is rooms s) le (Reply.Waits w) _ (sym e) none (rw free))) room

four_at_most : (w : Wait) → length (bytes_of (first_out w)) ≤ 4
unfolding bytes_of message_size flat_size
four_at_most Wait.Nobody = omega arith
four_at_most Wait.User = omega arith
four_at_most Wait.Cancel = let z : length (bytes_of (Message.Cancel ∷ [])) ≡ 4 = size_one Message.Cancel in omega (arith, z)

pub free_serves : claims.FreeServes
free_serves ts n c a b w e le none free room =
    ap (λ (o : Outcome). o.answer) (free_written (run fresh_rooms ts) (always ts) n c a w b e le none free (let z = four_at_most w in omega (arith, z))).is

-- ---- the ending PDU

module _ (rooms : List Room) (s : Sound rooms) (h : every? small rooms ≡ true) (n c : ℕ) (b d : List ℕ) (le : c ≤ 16383)
    (none : some? (has_number n) rooms ≡ false) (room : 7 ≤ length b) (more : 28 ≤ length d) (two : n < 65536) where
  on_it : Wrote rooms (question n c 0 b) rooms (Message.ChannelAnswer n accept ∷ [])
  unfolding asked_of
  on_it = now_written rooms s n c 0 accept b refl le none room

  end_of_it : Wrote rooms (end c d) (all_freed c rooms) (rejects_in c rooms)
  unfolding outcome
  end_of_it =
      fits_written rooms (all_freed c rooms) (rejects_in c rooms) (end c d) (sym (end_rejects rooms c d (sound_is rooms s) _ le refl))
      (let z = end_size c rooms s.four in omega (arith, z))

  both_turns : (m : ℕ) → verdicts_in m rooms (question n c 0 b ∷ end c d ∷ []) ≡ verdicts m rooms (question n c 0 b) ++ (verdicts m rooms (end c d) ++ [])
  unfolding verdicts_in
  both_turns m = rw (next_stays rooms (question n c 0 b) _ on_it.is)

  first_verdict : (m : ℕ) → verdicts m rooms (question n c 0 b) ≡ cond (eqb n m) (accept ∷ []) []
  first_verdict m = one_verdict m n accept two (omega arith) on_it

  it_accepted : verdicts_in n rooms (question n c 0 b ∷ end c d ∷ []) ≡ accept ∷ []
  it_accepted =
      let z = none_count (has_number n) rooms none in
      let y = mono (λ r. has_number n r && of_call c r) (has_number n) (λ r q. facts.left (has_number n r) _ q) rooms in
      let gone : count (λ r. has_number n r && of_call c r) rooms ≡ 0 = omega (arith, z, y) in
      let silent : verdicts n rooms (end c d) ≡ [] = end_verdicts n c h end_of_it ∙ ap times gone in
      let once : verdicts n rooms (question n c 0 b) ≡ accept ∷ [] = first_verdict n ∙ ap (λ (k : Bool). cond k (accept ∷ []) []) (eq-eqb n n refl) in
      both_turns n ∙ rw (once, silent)

  others_rejected : (m : ℕ) (w : Wait) → Waiting m c w rooms → verdicts_in m rooms (question n c 0 b ∷ end c d ∷ []) ≡ reject ∷ []
  others_rejected m w is =
      let other : verdicts m rooms (question n c 0 b) ≡ [] = first_verdict m ∙ ap (λ (k : Bool). cond k (accept ∷ []) []) (other_number m c n w rooms none is) in
      let zero : (outcome rooms (end c d)).answer ≡ 0 = ap (λ (o : Outcome). o.answer) end_of_it.is in
      let now : verdicts m rooms (end c d) ≡ reject ∷ [] =
      (then rooms s h m c w is (end c d) tt (eq-eqb c c refl) (λ q. let y : ◌≡◌ {A = ℕ} 0 7 = sym zero ∙ q in absurd (omega (arith, y)))).0 in
      both_turns m ∙ rw (other, now)

pub ending_pdu : claims.EndingPdu
ending_pdu ts n c b d g two le none room more =
    let rooms = run fresh_rooms ts in
    (it_accepted rooms (always ts) (always_small ts g) n c b d le none room more two, others_rejected rooms (always ts) (always_small ts g) n c b d le none room more two)
