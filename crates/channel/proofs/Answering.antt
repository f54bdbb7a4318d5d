-- The number given is the first that applies.
use Prim.Native.Nat.{ℕ, ◌*◌, ◌≤◌, ◌<◌}
use mathlib.Core.Path.{◌≡◌, refl, ◌∙◌, ap}
use mathlib.Core.Bool.{Bool, true, false, cond, not, ◌||◌}
use mathlib.Core.List.{List, [], ◌∷◌}
use native.Mathlib.Omega.{arith}
use borrow.Author.Tests.{le-ltb, lt-ltb, leb-true, leb-false, eqb-true, eqb-false, ne_eqb}
use lib.Dec.{eqb, leb, ltb}
use lib.ListN.{length}
use lib.Seq.{sets}
use Rattle.records.specs.declared.messages.Message.{Message}
use Rattle.records.specs.Bodies.{flat_size}
use Rattle.records.specs.Messages.{message_size}
use Rattle.callcontrol.specs.Writing.{bytes_of}
use Rattle.callcontrol.proofs.Laying.{size_one}
use Rattle.channel.proofs.Asking.{size_rejects_in}
use Rattle.channel.specs.declared.rooms.Wait.{Wait}
use Rattle.channel.specs.declared.rooms.Room.{Room}
use Rattle.channel.specs.Rooms.{free_room, is_free, has_number, waits_for, of_call, some?, rooms_sound, in_first, all_freed, count}
use Rattle.channel.specs.Questions.{Asked, Decision, Outcome, refusal, carried, asked_of, decision_of, first_out, taken, decided_as, ask_of, decide_of, ended_of, rejects_in}
use Rattle.channel.specs.Runs.{question, decision, end, outcome}
use Rattle.channel.specs.Answers.{applies, first_of, AnsweredInOrder}
use Rattle.channel.proofs.Turns.{seven}

-- over, and within
over : (m n : ℕ) → ltb m n ≡ not (leb n m)
over m n = by (leb n m) refl
  where
    by : (b : Bool) → leb n m ≡ b → ltb m n ≡ not b
    by true e = le-ltb m n (leb-true n m e)
    by false e = lt-ltb m n (leb-false n m e)

-- 7 where what is written does not fit
carried_answer : (rooms after : List Room) (ms : List Message) (b : List ℕ) (k : ℕ) → length (bytes_of ms) ≡ k → (carried rooms after ms b).answer ≡ cond (ltb (length b) k) 7 0
unfolding carried
carried_answer rooms after ms b k e = rw (over (length b) k, ← e) (by (leb (length (bytes_of ms)) (length b)))
  where
    by : (f : Bool) → (cond f (record { answer = 0; rooms = after; count = length (bytes_of ms); buffer = sets b 0 (bytes_of ms) }) (refusal 7 rooms b)).answer ≡ cond (not f) 7 0
    by true = refl
    by false = refl

-- each number of what is asked, and any other
asked_cases : (P : ℕ → Type 0) → P 0 → P 1 → P 2 → P 3 → P 4 → P 5 → P 6 → P 7 → ((a : ℕ) → 7 < a → P a) → (a : ℕ) → P a
asked_cases P p₀ p₁ p₂ p₃ p₄ p₅ p₆ p₇ other a =
    one 0 p₀ (λ n₀. one 1 p₁ (λ n₁. one 2 p₂ (λ n₂. one 3 p₃ (λ n₃. one 4 p₄ (λ n₄. one 5 p₅ (λ n₅. one 6 p₆ (λ n₆. one 7 p₇ (λ n₇. other a (above n₀ n₁ n₂ n₃ n₄ n₅ n₆ n₇)))))))))
  where
    one : (k : ℕ) → P k → ((a ≡ k → ⊥) → P a) → P a
    one k p q = by (eqb a k) refl
      where
        by : (b : Bool) → eqb a k ≡ b → P a
        by true e = rw (eqb-true a k e) p
        by false e = q (eqb-false a k e)

    past : (k : ℕ) → k ≤ a → (a ≡ k → ⊥) → k < a
    past k le not = omega arith

    above : (a ≡ 0 → ⊥) → (a ≡ 1 → ⊥) → (a ≡ 2 → ⊥) → (a ≡ 3 → ⊥) → (a ≡ 4 → ⊥) → (a ≡ 5 → ⊥) → (a ≡ 6 → ⊥) → (a ≡ 7 → ⊥) → 7 < a
    above n₀ n₁ n₂ n₃ n₄ n₅ n₆ n₇ =
        past 7 (past 6 (past 5 (past 4 (past 3 (past 2 (past 1 (past 0 (omega arith) n₀) n₁) n₂) n₃) n₄) n₅) n₆) n₇

unknown_asked : (a : ℕ) → 7 < a → asked_of a ≡ Asked.Unknown
unfolding asked_of
unknown_asked a h =
    rw
    (ne_eqb a 0 (λ e. omega arith), ne_eqb a 1 (λ e. omega arith), ne_eqb a 2 (λ e. omega arith), ne_eqb a 3 (λ e. omega arith), ne_eqb a 4 (λ e. omega arith), ne_eqb a 5 (λ e. omega arith), ne_eqb a 6 (λ e. omega arith), ne_eqb a 7 (λ e. omega arith))

unknown_decision : (d : ℕ) → 4 < d → decision_of d ≡ Decision.Unknown
unfolding decision_of
unknown_decision d h =
    rw
    (ne_eqb d 0 (λ e. omega arith), ne_eqb d 1 (λ e. omega arith), ne_eqb d 2 (λ e. omega arith), ne_eqb d 3 (λ e. omega arith), ne_eqb d 4 (λ e. omega arith))

-- a question
module _ (rooms : List Room) (n c : ℕ) (b : List ℕ) where
  abbrev InOrder : ℕ → Type 0
  InOrder a = (ask_of rooms n c a b).answer ≡ first_of (λ k. applies k rooms (question n c a b)) (1 ∷ 4 ∷ 50 ∷ 51 ∷ 53 ∷ 52 ∷ 7 ∷ [])

  -- the checks that every question goes through
  in_turn : (s l h : Bool) (o : Outcome) → (cond s (cond l (cond h (refusal 50 rooms b) o) (refusal 4 rooms b)) (refusal 1 rooms b)).answer
      ≡ cond (not s) 1 (cond (not l || false) 4 (cond h 50 o.answer))
  in_turn false l h o = refl
  in_turn true false h o = refl
  in_turn true true true o = refl
  in_turn true true false o = refl

  now : (v : ℕ) → (cond (rooms_sound rooms) (cond (leb c 16383) (cond (some? (has_number n) rooms) (refusal 50 rooms b) (carried rooms rooms (Message.ChannelAnswer n v ∷ []) b)) (refusal 4 rooms b)) (refusal 1 rooms b)).answer
      ≡ cond (not (rooms_sound rooms)) 1 (cond (not (leb c 16383) || false) 4 (cond (some? (has_number n) rooms) 50 (cond (ltb (length b) 7) 7 0)))
  now v =
      in_turn (rooms_sound rooms) (leb c 16383) (some? (has_number n) rooms) _
      ∙ ap (λ (x : ℕ). cond (not (rooms_sound rooms)) 1 (cond (not (leb c 16383) || false) 4 (cond (some? (has_number n) rooms) 50 x))) (carried_answer rooms rooms (Message.ChannelAnswer n v ∷ []) b 7 (seven n v))

  room_answer : (w : Wait) (k : ℕ) → length (bytes_of (first_out w)) ≡ k → (taken rooms n c w b).answer ≡ cond (not (some? is_free rooms)) 51 (cond (ltb (length b) k) 7 0)
  unfolding taken
  room_answer w k e = by (some? is_free rooms)
    where
      by : (f : Bool) → (cond f (carried rooms (in_first is_free (record { wait = w; number = n; call = c }) rooms) (first_out w) b) (refusal 51 rooms b)).answer ≡ cond (not f) 51 (cond (ltb (length b) k) 7 0)
      by true = carried_answer rooms _ (first_out w) b k e
      by false = refl

  room : (w : Wait) (k : ℕ) → length (bytes_of (first_out w)) ≡ k
      → (cond (rooms_sound rooms) (cond (leb c 16383) (cond (some? (has_number n) rooms) (refusal 50 rooms b) (taken rooms n c w b)) (refusal 4 rooms b)) (refusal 1 rooms b)).answer
      ≡ cond (not (rooms_sound rooms)) 1 (cond (not (leb c 16383) || false) 4 (cond (some? (has_number n) rooms) 50 (cond (not (some? is_free rooms)) 51 (cond (ltb (length b) k) 7 0))))
  room w k e =
      in_turn (rooms_sound rooms) (leb c 16383) (some? (has_number n) rooms) _
      ∙ ap (λ (x : ℕ). cond (not (rooms_sound rooms)) 1 (cond (not (leb c 16383) || false) 4 (cond (some? (has_number n) rooms) 50 x))) (room_answer w k e)

  at_0 : InOrder 0
  unfolding ask_of asked_of applies
  at_0 = rw (over 16383 c) (now 0)

  at_1 : InOrder 1
  unfolding ask_of asked_of applies
  at_1 = rw (over 16383 c) (now 1)

  at_2 : InOrder 2
  unfolding ask_of asked_of applies bytes_of
  at_2 = rw (over 16383 c) (room Wait.User 0 refl)

  at_3 : InOrder 3
  unfolding ask_of asked_of applies message_size flat_size
  at_3 = rw (over 16383 c) (room Wait.Cancel 4 (size_one Message.Cancel))

  at_4 : InOrder 4
  unfolding ask_of asked_of applies
  at_4 = rw (over 16383 c) (in_turn (rooms_sound rooms) (leb c 16383) (some? (has_number n) rooms) (refusal 53 rooms b))

  at_5 : InOrder 5
  unfolding ask_of asked_of applies
  at_5 = rw (over 16383 c) (now 0)

  at_6 : InOrder 6
  unfolding ask_of asked_of applies
  at_6 = rw (over 16383 c) (now 2)

  at_7 : InOrder 7
  unfolding ask_of asked_of applies
  at_7 = rw (over 16383 c) (now 1)

  unknown_in_turn : (s l x : Bool) (k : ℕ) → (cond s (cond l (refusal 4 rooms b) (refusal 4 rooms b)) (refusal 1 rooms b)).answer ≡ cond (not s) 1 (cond (x || true) 4 k)
  unknown_in_turn false l x k = refl
  unknown_in_turn true true true k = refl
  unknown_in_turn true true false k = refl
  unknown_in_turn true false true k = refl
  unknown_in_turn true false false k = refl

  at_other : (a : ℕ) → 7 < a → InOrder a
  unfolding ask_of applies
  at_other a h = rw (unknown_asked a h, lt-ltb 7 a h) (unknown_in_turn (rooms_sound rooms) (leb c 16383) (ltb 16383 c) _)

  question_in_order : (a : ℕ) → InOrder a
  question_in_order = asked_cases InOrder at_0 at_1 at_2 at_3 at_4 at_5 at_6 at_7 at_other

-- a decision
module _ (rooms : List Room) (n : ℕ) (b : List ℕ) where
  abbrev Decided : ℕ → Type 0
  Decided d = (decide_of rooms n d b).answer ≡ first_of (λ k. applies k rooms (decision n d b)) (1 ∷ 4 ∷ 50 ∷ 51 ∷ 53 ∷ 52 ∷ 7 ∷ [])

  gave : (w : Wait) (v : ℕ) → (cond (rooms_sound rooms) (decided_as (Decision.Gives w v) rooms n b) (refusal 1 rooms b)).answer
      ≡ cond (not (rooms_sound rooms)) 1 (cond (not (some? (waits_for n w) rooms)) 52 (cond (ltb (length b) 7) 7 0))
  gave w v = by (rooms_sound rooms) (some? (waits_for n w) rooms)
    where
      by : (s f : Bool) → (cond s (cond f (carried rooms (in_first (waits_for n w) free_room rooms) (Message.ChannelAnswer n v ∷ []) b) (refusal 52 rooms b)) (refusal 1 rooms b)).answer
          ≡ cond (not s) 1 (cond (not f) 52 (cond (ltb (length b) 7) 7 0))
      by false f = refl
      by true false = refl
      by true true = carried_answer rooms _ (Message.ChannelAnswer n v ∷ []) b 7 (seven n v)

  for_0 : Decided 0
  unfolding decide_of decision_of applies
  for_0 = gave Wait.User 0

  for_1 : Decided 1
  unfolding decide_of decision_of applies
  for_1 = gave Wait.User 1

  for_2 : Decided 2
  unfolding decide_of decision_of applies
  for_2 = gave Wait.User 1

  for_3 : Decided 3
  unfolding decide_of decision_of applies
  for_3 = gave Wait.Cancel 0

  for_4 : Decided 4
  unfolding decide_of decision_of applies
  for_4 = gave Wait.Cancel 2

  for_other : (d : ℕ) → 4 < d → Decided d
  unfolding decide_of applies
  for_other d h = rw (unknown_decision d h, lt-ltb 4 d h) (by (rooms_sound rooms))
    where
      by : (s : Bool) → (cond s (refusal 4 rooms b) (refusal 1 rooms b)).answer ≡ cond (not s) 1 4
      by true = refl
      by false = refl

  decision_in_order : (d : ℕ) → Decided d
  decision_in_order =
      asked_cases Decided for_0 for_1 for_2 for_3 for_4 (for_other 5 (omega arith)) (for_other 6 (omega arith)) (for_other 7 (omega arith)) (λ d h. for_other d (omega arith))

-- an end
module _ (rooms : List Room) (c : ℕ) (b : List ℕ) where
  end_in_order : (ended_of rooms c b).answer ≡ first_of (λ k. applies k rooms (end c b)) (1 ∷ 4 ∷ 50 ∷ 51 ∷ 53 ∷ 52 ∷ 7 ∷ [])
  unfolding ended_of applies
  end_in_order = rw (over 16383 c) (by (rooms_sound rooms) (leb c 16383))
    where
      by : (s l : Bool) → (cond s (cond l (carried rooms (all_freed c rooms) (rejects_in c rooms) b) (refusal 4 rooms b)) (refusal 1 rooms b)).answer
          ≡ cond (not s) 1 (cond (not l) 4 (cond (ltb (length b) (7 * count (of_call c) rooms)) 7 0))
      by false l = refl
      by true false = refl
      by true true = carried_answer rooms _ (rejects_in c rooms) b _ (size_rejects_in c rooms)

pub answered_in_order : AnsweredInOrder
unfolding outcome
answered_in_order rooms (question n c a b) = question_in_order rooms n c b a
answered_in_order rooms (decision n d b) = decision_in_order rooms n b d
answered_in_order rooms (end c b) = end_in_order rooms c b
