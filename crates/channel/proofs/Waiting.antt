-- A waiting question: it waits through every turn that does not decide it, unanswered, and the turn that decides it answers it.
use Prim.Native.Nat.{ℕ, ◌≤◌, ◌<◌}
use mathlib.Core.Path.{◌≡◌, refl, sym, ◌∙◌, ap}
use mathlib.Core.Bool.{Bool, true, false, cond, not, ◌&&◌, ◌||◌, or-true}
use mathlib.Core.List.{List, [], ◌∷◌, ◌++◌}
use native.Mathlib.Omega.{arith}
use borrow.Author.Tests.{eq-eqb, ne_eqb, eqb-true, leb-true}
use lib.Dec.{eqb, leb}
use lib.ListN.{length}
use lib.Seq.{sets}
use Rattle.records.specs.declared.messages.Message.{Message}
use Rattle.callcontrol.specs.Writing.{bytes_of}
use Rattle.demands.proofs.Facts as facts
use Rattle.demands.proofs.ReadsBack.{stored}
use Rattle.channel.specs.declared.rooms.Wait.{Wait}
use Rattle.channel.specs.declared.rooms.Room.{Room}
use Rattle.channel.specs.Rooms.{wait_number, free_room, fresh_rooms, is_free, has_number, waits_for, of_call, room_fits, some?, every?, in_first, freed, all_freed, count}
use Rattle.channel.specs.Questions.{Reply, Asked, Decision, Outcome, refusal, carried, asked_of, decision_of, decide_of, first_out, rejects_in}
use Rattle.channel.specs.Runs.{Turn, question, decision, end, lent_by, outcome, next, run, written_by, verdicts, verdicts_in, Handed, AllHanded}
use Rattle.channel.specs.Demands as claims
use Rattle.channel.specs.Demands.{is_question, Waiting, gives, decides, undecided, verdict_in, verdict_by}
use Rattle.channel.proofs.Asking.{end_rejects}
use Rattle.channel.proofs.Counting.{some_count, count_some, none_count, mono, never, beside, count_first, count_freed, free_no_number, number_held, waits_number, Sound, sound_is}
use Rattle.channel.proofs.Turns.{Wrote, room_for, Went, stays, answers, waits, ends, went}
use Rattle.channel.proofs.Turns as turns
use Rattle.channel.proofs.Reading.{small, times, verdicts_stays}
use Rattle.channel.proofs.Kept.{somebody, room_number, no_number, count_answered, next_stays, next_sound, next_small, always, always_small}
use Rattle.channel.proofs.Once.{asked_verdict, decided_verdict, one_verdict, no_verdict, end_verdicts}

-- ---- what holds of the room of a question

module _ (n c : ℕ) (w : Wait) (r : Room) where
  question_number : is_question n c w r ≡ true → has_number n r ≡ true
  unfolding is_question waits_for
  question_number h = facts.left (has_number n r) _ (facts.left _ _ h)

  question_call : is_question n c w r ≡ true → r.call ≡ c
  unfolding is_question
  question_call h = eqb-true _ _ (facts.right (waits_for n w r) _ h)

  question_wait : is_question n c w r ≡ true → wait_number r.wait ≡ wait_number w
  unfolding is_question waits_for
  question_wait h = eqb-true _ _ (facts.right (has_number n r) _ (facts.left _ _ h))

  question_of_call : is_question n c w r ≡ true → of_call c r ≡ true
  unfolding of_call
  question_of_call h = rw (number_held n r (question_number h)) (eq-eqb _ _ (question_call h))

  no_question : has_number n r ≡ false → is_question n c w r ≡ false
  unfolding is_question waits_for
  no_question h = rw h

  question_both : is_question n c w r ≡ true → has_number n r && of_call c r ≡ true
  question_both h = facts.and _ _ (question_number h) (question_of_call h)

  question_elsewhere : (k : ℕ) → eqb k c ≡ false → is_question n c w r ≡ true → of_call k r ≡ false
  unfolding of_call
  question_elsewhere k e h = rw (number_held n r (question_number h), question_call h) (ne_eqb c k (λ z. facts.apart (eq-eqb k c (sym z)) e))

  question_fits : is_question n c w r ≡ true → room_fits r ≡ true → c ≤ 16383
  unfolding room_fits
  question_fits h f =
      let y = rw (number_held n r (question_number h), question_call h) at f in
      leb-true _ _ y

free_no_question : (n c : ℕ) (w : Wait) (r : Room) → is_free r ≡ true → is_question n c w r ≡ false
free_no_question n c w r e = no_question n c w r (free_no_number n r e)

question_waits : (n c : ℕ) (w u : Wait) (m : ℕ) (r : Room) → m ≡ n → wait_number u ≡ wait_number w → is_question n c w r ≡ true → waits_for m u r ≡ true
unfolding waits_for
question_waits n c w u m r e f h = rw (e, f) (facts.and _ _ (question_number n c w r h) (eq-eqb _ _ (question_wait n c w r h)))

own_question : (w : Wait) (n c : ℕ) → eqb (wait_number w) 0 ≡ false → is_question n c w (room_for w n c) ≡ true
unfolding is_question waits_for
own_question w n c e = facts.and _ _ (facts.and _ _ (room_number w n c n e ∙ eq-eqb n n refl) (eq-eqb (wait_number w) _ refl)) (eq-eqb c c refl)

-- ---- it begins to wait

module _ (rooms : List Room) (n c a : ℕ) (b : List ℕ) where
  abbrev Begins : Wait → Type 0
  Begins w =
      (verdicts n rooms (question n c a b) ≡ []) × (written_by rooms (question n c a b) ≡ bytes_of (first_out w)) × Waiting n c w (next rooms (question n c a b))

  begun : (w : Wait) → asked_of a ≡ Asked.Is (Reply.Waits w) → some? is_free rooms ≡ true → Wrote rooms (question n c a b) (in_first is_free (room_for w n c) rooms) (first_out w) → Begins w
  unfolding written_by
  begun w e f wr =
      let held = somebody a w e in
      let z = count_first is_free (is_question n c w) false (free_no_question n c w) (room_for w n c) rooms f in
      let y = rw (own_question w n c held) at z in
      (no_verdict n w wr, rw wr.is (stored (bytes_of (first_out w)) b wr.fits), rw (next_stays rooms (question n c a b) _ wr.is) (count_some (is_question n c w) (in_first is_free (room_for w n c) rooms) (omega (arith, y))))

  begins : (w : Wait) → asked_of a ≡ Asked.Is (Reply.Waits w) → (outcome rooms (question n c a b)).answer ≡ 0 → Went rooms (question n c a b) → Begins w
  begins w e zero (stays k not short is) = absurd (not (sym (ap (λ (o : Outcome). o.answer) is) ∙ zero))
  begins w e zero (answers v f none wr) = absurd (let z : ◌≡◌ {A = ℕ} 0 1 = cc in omega arith)
  begins w e zero (waits u f none free le wr) = let same : u ≡ w = cc in rw (← same) (begun u f free wr)

pub waits_claim : claims.Waits
waits_claim ts n c a w b e zero = begins (run fresh_rooms ts) n c a b w e zero (went (run fresh_rooms ts) (sound_is _ (always ts)) (question n c a b))

-- ---- it goes on waiting

-- a number that does not wait is another
pub other_number : (n c m : ℕ) (w : Wait) (rooms : List Room) → some? (has_number m) rooms ≡ false → Waiting n c w rooms → eqb m n ≡ false
other_number n c m w rooms none is = by (eqb m n) refl
  where
    by : (b : Bool) → eqb m n ≡ b → b ≡ false
    by true e =
        let z = none_count (has_number m) rooms none in
        let y = rw (eqb-true m n e) at z in
        let x = some_count (is_question n c w) rooms is in
        let v = mono (is_question n c w) (has_number n) (question_number n c w) rooms in
        absurd (omega (arith, y, x, v))
    by false e = refl

module _ (rooms : List Room) (s : Sound rooms) (h : every? small rooms ≡ true) (n c : ℕ) (w : Wait) (is : Waiting n c w rooms) where
  there : 1 ≤ count (is_question n c w) rooms
  there = some_count (is_question n c w) rooms is

  abbrev Goes : Turn → Type 0
  Goes t = (verdicts n rooms t ≡ []) × Waiting n c w (next rooms t)

  -- a decision for another number
  other_decided : (m d : ℕ) (b : List ℕ) (u : Wait) (v : ℕ) → m < 65536 → decision_of d ≡ Decision.Gives u v → some? (waits_for m u) rooms ≡ true
      → Wrote rooms (decision m d b) (in_first (waits_for m u) free_room rooms) (Message.ChannelAnswer m v ∷ []) → eqb m n ≡ false → Goes (decision m d b)
  other_decided m d b u v g e f wr deny =
      let z = count_first (waits_for m u) (is_question n c w) false (λ r k. no_question n c w r (waits_number m n u r k ∙ deny)) free_room rooms f in
      let y = rw (no_question n c w free_room (no_number n)) at z in (
        one_verdict n m v g (decided_verdict d u v e) wr ∙ ap (λ (b : Bool). cond b (v ∷ []) []) deny,
        rw (next_stays rooms (decision m d b) _ wr.is) (count_some (is_question n c w) (in_first (waits_for m u) free_room rooms) (let x = there in omega (arith, y, x))),
      )

  -- one for its number that it does not wait for is no decision that a room waits for
  not_waited : (m : ℕ) (u : Wait) → some? (waits_for m u) rooms ≡ true → m ≡ n → (wait_number u ≡ wait_number w → ⊥) → ⊥
  unfolding waits_for
  not_waited m u f e deny =
      let p = some_count (waits_for m u) rooms f in
      let one = s.once n in
      let apart = beside (waits_for m u) (is_question n c w) (has_number n)
      (λ r k. ap (λ (z : ℕ). has_number z r) (sym e) ∙ facts.left (has_number m r) _ k) (question_number n c w)
      (λ r k q. deny (sym (eqb-true _ _ (facts.right (has_number m r) _ k)) ∙ question_wait n c w r q)) rooms in
      let x = there in
      omega (arith, p, one, apart, x)

  by_number_lem : (m d : ℕ) (b : List ℕ) (u : Wait) (v : ℕ) → m < 65536 → decision_of d ≡ Decision.Gives u v → some? (waits_for m u) rooms ≡ true
      → Wrote rooms (decision m d b) (in_first (waits_for m u) free_room rooms) (Message.ChannelAnswer m v ∷ [])
      → (k j : Bool) → eqb m n ≡ k → eqb (wait_number u) (wait_number w) ≡ j → k && j ≡ false → Goes (decision m d b)
  by_number_lem m d b u v g e f wr true true p q deny = facts.apart refl deny
  by_number_lem m d b u v g e f wr true false p q deny = absurd (not_waited m u f (eqb-true m n p) (λ z. facts.apart (eq-eqb _ _ z) q))
  by_number_lem m d b u v g e f wr false j p q deny = other_decided m d b u v g e f wr p

  -- another call's end
  other_end : (k : ℕ) (b : List ℕ) → Wrote rooms (end k b) (all_freed k rooms) (rejects_in k rooms) → eqb k c ≡ false → Goes (end k b)
  other_end k b wr deny =
      let apart = beside (λ r. has_number n r && of_call k r) (is_question n c w) (has_number n) (λ r q. facts.left (has_number n r) _ q) (question_number n c w)
      (λ r p q. facts.apart (facts.right (has_number n r) _ p) (question_elsewhere n c w r k deny q)) rooms in
      let one = s.once n in
      let x = there in
      let none : count (λ r. has_number n r && of_call k r) rooms ≡ 0 = omega (arith, apart, one, x) in
      let z = count_freed (is_question n c w) k (no_question n c w free_room (no_number n)) rooms in
      let gone = never (λ r. is_question n c w r && of_call k r) (λ r. elsewhere r (is_question n c w r) refl) rooms in
      (end_verdicts n k h wr ∙ ap times none, rw (next_stays rooms (end k b) _ wr.is) (count_some (is_question n c w) (all_freed k rooms) (omega (arith, z, gone, x))))
    where
      elsewhere : (r : Room) (q : Bool) → is_question n c w r ≡ q → q && of_call k r ≡ false
      elsewhere r true e = question_elsewhere n c w r k deny e
      elsewhere r false e = refl

  -- taken, so that it was not for want of room
  undecided_taken : (t : Turn) (k : Bool) → (outcome rooms t).answer ≡ 0 → not k || eqb (outcome rooms t).answer 7 ≡ true → k ≡ false
  undecided_taken t true zero e = let y = rw zero at e in facts.apart y refl
  undecided_taken t false zero e = refl

  goes_on : (t : Turn) → Handed t → not (decides n c w t) || eqb (outcome rooms t).answer 7 ≡ true → Went rooms t → Goes t
  goes_on t g deny (stays k not short e) = (verdicts_stays rooms t n k e, rw (next_stays rooms t _ e) is)
  goes_on (question m k a b) g deny (answers v e none wr) = (
    one_verdict n m v g (asked_verdict a v e) wr ∙ ap (λ (b : Bool). cond b (v ∷ []) []) (other_number n c m w rooms none is),
    rw (next_stays rooms (question m k a b) _ wr.is) is,
  )
  goes_on (question m k a b) g deny (waits u e none f le wr) =
      let z = count_first is_free (is_question n c w) false (free_no_question n c w) (room_for u m k) rooms f in
      (no_verdict n u wr, rw (next_stays rooms (question m k a b) _ wr.is) (count_some (is_question n c w) (in_first is_free (room_for u m k) rooms) (let x = there in omega (arith, z, x))))
  goes_on (decision m d b) g deny (turns.decides u v e f wr) =
      let untrue = undecided_taken (decision m d b) (eqb m n && gives w (decision_of d)) (ap (λ (o : Outcome). o.answer) wr.is) deny in
      by_number_lem m d b u v g e f wr (eqb m n) (eqb (wait_number u) (wait_number w)) refl refl (rw e at untrue)
  goes_on (end k b) g deny (ends le wr) = other_end k b wr (undecided_taken (end k b) (eqb k c) (ap (λ (o : Outcome). o.answer) wr.is) deny)

run-append : (rooms : List Room) (ts us : List Turn) → run rooms (ts ++ us) ≡ run (run rooms ts) us
unfolding run
run-append rooms [] us = refl
run-append rooms (t ∷ ts) us = run-append (next rooms t) ts us

not_before : (rooms : List Room) (us : List Turn) (n c : ℕ) (w : Wait) → Sound rooms → every? small rooms ≡ true → AllHanded us → Waiting n c w rooms → undecided n c w rooms us ≡ true
    → (verdicts_in n rooms us ≡ []) × Waiting n c w (run rooms us)
unfolding verdicts_in run
not_before rooms [] n c w s h g is deny = (refl, is)
not_before rooms (t ∷ us) n c w s h g is deny =
    let here = goes_on rooms s h n c w is t g.0 (facts.left _ _ deny) (went rooms (sound_is rooms s) t) in
    let later = not_before (next rooms t) us n c w (next_sound rooms s t) (next_small rooms s h t g.0) g.1 here.1 (facts.right (not (decides n c w t) || eqb (outcome rooms t).answer 7) _ deny) in
    (rw here.0 later.0, later.1)

pub not_before_claim : claims.NotBefore
not_before_claim ts us n c w g k is deny =
    let z = not_before (run fresh_rooms ts) us n c w (always ts) (always_small ts g) k is deny in
    (z.0, rw (run-append fresh_rooms ts us) z.1)

-- ---- and is answered

-- what fits is written
wrote_if : (rooms after : List Room) (ms : List Message) (t : Turn) → outcome rooms t ≡ carried rooms after ms (lent_by t) → ((outcome rooms t).answer ≡ 7 → ⊥) → Wrote rooms t after ms
unfolding carried
wrote_if rooms after ms t e deny = by (leb (length (bytes_of ms)) (length (lent_by t))) refl e
  where
    by : (b : Bool) → leb (length (bytes_of ms)) (length (lent_by t)) ≡ b
        → outcome rooms t ≡ cond b (record { answer = 0; rooms = after; count = length (bytes_of ms); buffer = sets (lent_by t) 0 (bytes_of ms) }) (refusal 7 rooms (lent_by t)) → Wrote rooms t after ms
    by true f e = record { fits = leb-true _ _ f; is = e }
    by false f e = absurd (deny (ap (λ (o : Outcome). o.answer) e))

freed_free : (c : ℕ) (rooms : List Room) → some? (of_call c) rooms ≡ true → some? is_free (all_freed c rooms) ≡ true
unfolding freed is_free
freed_free c [] h = h
freed_free c (r ∷ rs) h = by (of_call c r) h (freed_free c rs)
  where
    by : (o : Bool) → o || some? (of_call c) rs ≡ true → (some? (of_call c) rs ≡ true → some? is_free (all_freed c rs) ≡ true)
        → is_free (cond o free_room r) || some? is_free (all_freed c rs) ≡ true
    by true h again = refl
    by false h again = rw (again h) (or-true (is_free r))

module _ (rooms : List Room) (s : Sound rooms) (h : every? small rooms ≡ true) (n c : ℕ) (w : Wait) (is : Waiting n c w rooms) where
  abbrev Answers : Turn → Type 0
  Answers t = (verdicts n rooms t ≡ verdict_by t ∷ []) × (count (has_number n) (next rooms t) ≡ 0) × (some? is_free (next rooms t) ≡ true)

  here : 1 ≤ count (is_question n c w) rooms
  here = some_count (is_question n c w) rooms is

  waits_not_free : (m : ℕ) (u : Wait) (r : Room) → waits_for m u r ≡ true → is_free r ≡ false
  unfolding waits_for
  waits_not_free m u r k = number_held m r (facts.left (has_number m r) _ k)

  decided : (m d : ℕ) (b : List ℕ) (u : Wait) (v : ℕ) → m < 65536 → m ≡ n → wait_number u ≡ wait_number w → decision_of d ≡ Decision.Gives u v
      → ((outcome rooms (decision m d b)).answer ≡ 7 → ⊥) → Answers (decision m d b)
  unfolding outcome decide_of is_free
  decided m d b u v g same wait e deny =
      let f : some? (waits_for m u) rooms ≡ true = count_some (waits_for m u) rooms (let z = mono (is_question n c w) (waits_for m u) (λ r q. question_waits n c w u m r same wait q) rooms in let x = here in omega (arith, z, x)) in
      let wr : Wrote rooms (decision m d b) (in_first (waits_for m u) free_room rooms) (Message.ChannelAnswer m v ∷ []) = wrote_if rooms _ _ (decision m d b) (rw (sound_is rooms s, e, f)) deny in
      let yes : eqb m n ≡ true = eq-eqb m n same in
      let z = count_answered u m n rooms f in
      let y = rw yes at z in
      let one = s.once n in
      let free = count_first (waits_for m u) is_free false (waits_not_free m u) free_room rooms f in (
        one_verdict n m v g (decided_verdict d u v e) wr ∙ ap (λ (b : Bool). cond b (v ∷ []) []) yes ∙ ap (λ (q : Decision). verdict_in q ∷ []) (sym e),
        rw (next_stays rooms (decision m d b) _ wr.is) (omega (arith, y, one)),
        rw (next_stays rooms (decision m d b) _ wr.is) (count_some is_free (in_first (waits_for m u) free_room rooms) (omega (arith, free))),
      )

  by_decision : (m d : ℕ) (b : List ℕ) → m < 65536 → (q : Decision) → decision_of d ≡ q → eqb m n && gives w q ≡ true → ((outcome rooms (decision m d b)).answer ≡ 7 → ⊥) → Answers (decision m d b)
  by_decision m d b g (Decision.Gives u v) e k deny = decided m d b u v g (eqb-true _ _ (facts.left (eqb m n) _ k)) (eqb-true _ _ (facts.right (eqb m n) _ k)) e deny
  by_decision m d b g Decision.Unknown e k deny = facts.apart (facts.right (eqb m n) _ k) refl

  call_fits : (rs : List Room) → every? room_fits rs ≡ true → some? (is_question n c w) rs ≡ true → c ≤ 16383
  call_fits [] f q = facts.apart q refl
  call_fits (r ∷ rs) f q = by (is_question n c w r) refl q (call_fits rs (facts.right (room_fits r) _ f))
    where
      by : (b : Bool) → is_question n c w r ≡ b → b || some? (is_question n c w) rs ≡ true → (some? (is_question n c w) rs ≡ true → c ≤ 16383) → c ≤ 16383
      by true e q again = question_fits n c w r e (facts.left (room_fits r) _ f)
      by false e q again = again q

  at_end : (k : ℕ) (b : List ℕ) → k ≡ c → ((outcome rooms (end k b)).answer ≡ 7 → ⊥) → Answers (end k b)
  unfolding outcome
  at_end k b same deny =
      let le : k ≤ 16383 = (let z = call_fits rooms s.fit is in omega (arith, z, same)) in
      let wr : Wrote rooms (end k b) (all_freed k rooms) (rejects_in k rooms) = wrote_if rooms _ _ (end k b) (sym (end_rejects rooms k b (sound_is rooms s) _ le refl)) deny in
      let low = mono (is_question n c w) (λ r. has_number n r && of_call k r) (λ r q. rw same (question_both n c w r q)) rooms in
      let high = mono (λ r. has_number n r && of_call k r) (has_number n) (λ r q. facts.left (has_number n r) _ q) rooms in
      let mine = mono (λ r. has_number n r && of_call k r) (of_call k) (λ r q. facts.right (has_number n r) _ q) rooms in
      let one = s.once n in
      let x = here in
      let once : count (λ r. has_number n r && of_call k r) rooms ≡ 1 = omega (arith, low, high, one, x) in
      let z = count_freed (has_number n) k (no_number n) rooms in (
        end_verdicts n k h wr ∙ ap times once,
        rw (next_stays rooms (end k b) _ wr.is) (omega (arith, z, once, one)),
        rw (next_stays rooms (end k b) _ wr.is) (freed_free k rooms (count_some (of_call k) rooms (omega (arith, mine, once)))),
      )

  pub then : (t : Turn) → Handed t → decides n c w t ≡ true → ((outcome rooms t).answer ≡ 7 → ⊥) → Answers t
  then (question m k a b) g d deny = facts.apart d refl
  then (decision m q b) g d deny = by_decision m q b g (decision_of q) refl d deny
  then (end k b) g d deny = at_end k b (eqb-true k c d) deny

pub then_claim : claims.Then
then_claim ts t n c w g k is d deny = then (run fresh_rooms ts) (always ts) (always_small ts g) n c w is t k d deny
