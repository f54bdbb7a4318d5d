-- One turn of the console at each place: the record that it leaves there, and what it writes there, are those of the step's turn where the event
-- goes there, and nothing elsewhere.
use Prim.Native.Nat.{ℕ, zero, suc, ◌+◌, ◌≤◌, ◌<◌}
use mathlib.Core.Path.{◌≡◌, refl, sym, ◌∙◌, ap}
use mathlib.Core.Bool.{Bool, true, false, cond, ◌&&◌, and-false}
use mathlib.Core.List.{List, [], ◌∷◌, append-nil}
use mathlib.Core.Logic.{◌⊎◌, inl, inr}
use native.Mathlib.Nat.{zero-add, add-zero}
use native.Mathlib.Omega.{arith}
use borrow.Author.Tests.{eq-eqb, ne_eqb, leb-true, eqb-true, eqb-false}
use lib.Dec.{eqb}
use lib.ListN.{length, drop, set, length-drop}
use lib.Seq.{sets, get_or-set_same, get_or-set_other}
use Rattle.records.specs.declared.events.Event.{Event}
use Rattle.records.specs.declared.messages.Message.{Message}
use Rattle.records.specs.Tables.{taken, refused, read}
use Rattle.records.specs.Events.{events}
use Rattle.callcontrol.specs.declared.call.Call.{Call}
use Rattle.callcontrol.specs.Call.{sound}
use Rattle.callcontrol.specs.Rows.{row_for}
use Rattle.callcontrol.specs.Writing.{messages_in, bytes_of}
use Rattle.callcontrol.specs.Step.{Outcome, decided, step_of}
use Rattle.callcontrol.proofs.Laying.{size-append}
use Rattle.demands.specs.Runs.{Turn, outcome, next, run, taken_by, written_by, written_in}
use Rattle.console.specs.declared.route.Aim.{Aim}
use Rattle.console.specs.Table.{no_call, call_at, some?, table_sound}
use Rattle.console.specs.Route.{Route, aim_of, route_of}
use Rattle.console.specs.Console.{ConsoleOutcome, behind, writes, placed, takes, part, writes_from, all_next, everywhere, at_place, refuses_at}
use Rattle.console.specs.Runs.{ConsoleTurn, console_outcome, console_next, lent_behind, all_fits, goes, went_to, framed_from, framed}
use Rattle.console.proofs.Placing.{taking, Decides, decides, row_carried, carried_whole, placed_refuses, placed_takes}
use Rattle.console.proofs.Everywhere.{part_room, done, done_more, done_within, ours, silent}
use Rattle.console.proofs.Routing.{to_place, to_all}
use Rattle.console.proofs.Tables.{sound_at, eight_of, some_at}
use Rattle.console.proofs.Turns.{Everywhere, everywhere_does, none_takes, no_room, all_take, Came, came, unsound, unread, routes, next_at, next_is}

-- ---- the step's turn at a place

module _ (c : Call) (e : Event) (t : Turn) (holds : sound c ≡ true) (reads : read events t.event ≡ taken e) where
  pub step_decided : outcome c t ≡ decided c e t.buffer
  unfolding outcome step_of
  step_decided = rw (holds, reads)

  next_decided : next c t ≡ (decided c e t.buffer).call
  unfolding next
  next_decided = ap (λ (o : Outcome). o.call) step_decided

  writes_taken : (decided c e t.buffer).answer ≡ 0 → written_by c t ≡ messages_in (row_for c e)
  unfolding written_by taken_by
  writes_taken z = rw (ap (λ (o : Outcome). o.answer) step_decided ∙ z, reads)

  writes_nothing : ((decided c e t.buffer).answer ≡ 0 → ⊥) → written_by c t ≡ []
  unfolding written_by taken_by
  writes_nothing other = rw (ap (λ (o : Outcome). o.answer) step_decided, ne_eqb _ _ other)

run_one : (c : Call) (t : Turn) → run c (t ∷ []) ≡ next c t
unfolding run
run_one c t = refl

written_one : (c : Call) (t : Turn) → written_in c (t ∷ []) ≡ written_by c t
unfolding written_in
written_one c t = append-nil (written_by c t)

-- the step of a place leaves what the step leaves
pub placed_call : (k : ℕ) (c : Call) (e : Event) (b : List ℕ) → (placed k c e b).call ≡ (decided c e (drop 5 b)).call
placed_call k c e b = by_step (decides c e (drop 5 b))
  where
    by_step : Decides c e (drop 5 b) → (placed k c e b).call ≡ (decided c e (drop 5 b)).call
    by_step (Decides.refuses n z d) = ap (λ (o : Outcome). o.call) (sym (placed_refuses k c e b n z d)) ∙ sym (ap (λ (o : Outcome). o.call) d)
    by_step (Decides.takes t f d) = ap (λ (o : Outcome). o.call) (sym (placed_takes k c e b d)) ∙ sym (ap (λ (o : Outcome). o.call) d)

-- where all fit, a place that takes the event has the room that its step wants
module _ (calls : List Call) (e : Event) (b : List ℕ) (k : ℕ) (lt : k < length calls) (fits : all_fits calls e b ≡ true) (every : aim_of e ≡ Aim.Every)
    (takes_it : takes e (call_at calls k) ≡ true) where
  abbrev behind_it : List ℕ
  behind_it = drop 5 (drop (length (bytes_of (done calls e k))) b)

  all_decided : decided (call_at calls k) e behind_it ≡ taking (call_at calls k) e behind_it
  all_decided =
      let c = call_at calls k in
      let whole : length (bytes_of (done calls e (k + 1))) ≡ length (bytes_of (done calls e k)) + length (bytes_of (part k c e)) =
      ap (λ (z : List Message). length (bytes_of z)) (done_more calls e k lt) ∙ size-append (done calls e k) (part k c e) in
      let room : length (bytes_of (part k c e)) ≤ length (drop (length (bytes_of (done calls e k))) b) =
      (let w = done_within calls e (k + 1) in let f = leb-true (length (bytes_of (writes_from 0 calls e))) (length b) fits in let s = whole in
      rw (length-drop (length (bytes_of (done calls e k))) b) (omega arith)) in
      row_carried c e behind_it (ours c e every) takes_it (silent c e every)
      ∙ carried_whole c e behind_it (part_room k c e (drop (length (bytes_of (done calls e k))) b) takes_it room)

-- ---- which turns a place has

module _ (calls : List Call) (t : ConsoleTurn) (k : ℕ) where
  went_unsound : table_sound calls ≡ false → went_to k calls t ≡ []
  unfolding went_to
  went_unsound s = rw s

  went_unread : {n p : ℕ} → table_sound calls ≡ true → read events t.event ≡ refused n p → went_to k calls t ≡ []
  unfolding went_to
  went_unread s h = rw (s, h)

  pub went_routed : {e : Event} {r : Route} → table_sound calls ≡ true → read events t.event ≡ taken e → route_of calls t.place e ≡ r
      → went_to k calls t ≡ goes k r calls e t
  unfolding went_to
  went_routed s h to = rw (s, h, to)

one_or_none : (b : Bool) (v : Turn) → (cond b (v ∷ []) [] ≡ []) ⊎ ((w : Turn) × (cond b (v ∷ []) [] ≡ w ∷ []))
one_or_none true v = inr (v, refl)
one_or_none false v = inl refl

-- a place has at most one turn of the step in a turn of the console
pub at_most_one : (calls : List Call) (t : ConsoleTurn) (k : ℕ) → (went_to k calls t ≡ []) ⊎ ((v : Turn) × (went_to k calls t ≡ v ∷ []))
at_most_one calls t k = by (came calls t)
  where
    by : Came calls t → (went_to k calls t ≡ []) ⊎ ((v : Turn) × (went_to k calls t ≡ v ∷ []))
    by (unsound s o) = inl (went_unsound calls t k s)
    by (unread n p s h o) = inl (went_unread calls t k s h)
    by (routes e (Route.To j) s h r o) = rw (went_routed calls t k s h r) (one_or_none (eqb j k) (lent_behind 0 t))
    by (routes e Route.Everywhere s h r o) =
        rw (went_routed calls t k s h r)
        (one_or_none (all_fits calls e t.buffer && takes e (call_at calls k)) (lent_behind (length (bytes_of (done calls e k))) t))
    by (routes e (Route.Refused a) s h r o) = inl (went_routed calls t k s h r)

-- ---- the record that a turn leaves at a place

module _ (calls : List Call) (t : ConsoleTurn) (k : ℕ) (below : k < 8) where
  abbrev c : Call
  c = call_at calls k

  nothing : console_next calls t ≡ calls → went_to k calls t ≡ [] → call_at (console_next calls t) k ≡ run c (went_to k calls t)
  unfolding run
  nothing same none = rw (same, none)

  module _ (e : Event) (ok : table_sound calls ≡ true) (reads : read events t.event ≡ taken e) where
    lt : k < length calls
    lt = let n = eight_of calls ok in omega arith

    went_one : (at : ℕ) → run c (lent_behind at t ∷ []) ≡ (decided c e (drop 5 (drop at t.buffer))).call
    went_one at = run_one c (lent_behind at t) ∙ next_decided c e (lent_behind at t) (sound_at calls k ok below) reads

    to_one : (j : ℕ) (z : Bool) → eqb j k ≡ z
        → call_at (set calls j (placed j (call_at calls j) e t.buffer).call) k ≡ run c (cond z (lent_behind 0 t ∷ []) [])
    unfolding run
    to_one j true z =
        ap (λ (n : ℕ). call_at (set calls n (placed n (call_at calls n) e t.buffer).call) k) (eqb-true j k z)
        ∙ get_or-set_same calls k (placed k c e t.buffer).call no_call lt
        ∙ placed_call k c e t.buffer
        ∙ sym (went_one 0)
    to_one j false z = get_or-set_other calls j k (placed j (call_at calls j) e t.buffer).call no_call (λ same. eqb-false j k z (sym same))

    to_all_of : (here : Bool) → takes e c ≡ here → all_fits calls e t.buffer ≡ true → aim_of e ≡ Aim.Every
        → call_at (all_next calls e) k ≡ run c (cond here (lent_behind (length (bytes_of (done calls e k))) t ∷ []) [])
    unfolding run
    to_all_of true h f every =
        next_at calls e k lt
        ∙ ap (λ (x : Bool). cond x (row_for c e).call c) h
        ∙ sym (went_one (length (bytes_of (done calls e k))) ∙ ap (λ (o : Outcome). o.call) (all_decided calls e t.buffer k lt f every h))
    to_all_of false h f every = next_at calls e k lt ∙ ap (λ (x : Bool). cond x (row_for c e).call c) h

    -- a place that does not take an event for every place has no turn
    not_taken : (f here : Bool) → takes e c ≡ here → some? (takes e) calls ≡ false
        → cond (f && here) (lent_behind (length (bytes_of (done calls e k))) t ∷ []) [] ≡ []
    not_taken f true h s = absurd (let z : ◌≡◌ {A = ℕ} 0 1 = cc (some_at (takes e) calls k lt h) in omega arith)
    not_taken f false h s = rw (and-false f)

    by_all : aim_of e ≡ Aim.Every → console_outcome calls t ≡ everywhere calls e t.buffer → went_to k calls t ≡ goes k Route.Everywhere calls e t
        → Everywhere calls e t.buffer → call_at (console_next calls t) k ≡ run c (went_to k calls t)
    by_all every o w (none_takes s d) =
        nothing (next_is calls t (o ∙ d)) (w ∙ not_taken (all_fits calls e t.buffer) (takes e c) refl s)
    by_all every o w (no_room s f d) =
        nothing (next_is calls t (o ∙ d)) (w ∙ ap (λ (x : Bool). cond (x && takes e c) (lent_behind (length (bytes_of (done calls e k))) t ∷ []) []) f)
    by_all every o w (all_take s f d) =
        ap (λ (z : List Call). call_at z k) (next_is calls t (o ∙ d))
        ∙ to_all_of (takes e c) refl f every
        ∙ ap (λ (z : List Turn). run c z) (sym (w ∙ ap (λ (x : Bool). cond (x && takes e c) (lent_behind (length (bytes_of (done calls e k))) t ∷ []) []) f))

  pub record_at : call_at (console_next calls t) k ≡ run c (went_to k calls t)
  unfolding at_place
  record_at = by (came calls t)
    where
      by : Came calls t → call_at (console_next calls t) k ≡ run c (went_to k calls t)
      by (unsound s o) = nothing (next_is calls t o) (went_unsound calls t k s)
      by (unread n p s h o) = nothing (next_is calls t o) (went_unread calls t k s h)
      by (routes e (Route.To j) s h r o) =
          ap (λ (z : List Call). call_at z k) (next_is calls t o)
          ∙ to_one e s h j (eqb j k) refl
          ∙ ap (λ (z : List Turn). run c z) (sym (went_routed calls t k s h r))
      by (routes e Route.Everywhere s h r o) =
          by_all e s h (to_all calls t.place e r) o (went_routed calls t k s h r) (everywhere_does calls e t.buffer)
      by (routes e (Route.Refused a) s h r o) = nothing (next_is calls t o) (went_routed calls t k s h r)

-- ---- what a turn writes

module _ (turns : ℕ → List Turn) where
  framed_none : (i : ℕ) (cs : List Call) → ((n : ℕ) → n < length cs → turns (i + n) ≡ []) → framed_from i cs turns ≡ []
  unfolding written_in
  framed_none i [] f = refl
  framed_none i (c ∷ cs) f =
      let here : turns i ≡ [] = ap turns (sym (add-zero i)) ∙ f 0 (omega arith) in
      rw here
      (framed_none (suc i) cs (λ n lt. let m : suc i + n ≡ i + suc n = omega arith in ap turns m ∙ f (suc n) (omega arith)))

  framed_here : (j : ℕ) → ((k : ℕ) → (k ≡ j → ⊥) → turns k ≡ []) → (i n : ℕ) (cs : List Call) → j ≡ i + n → n < length cs
      → framed_from i cs turns ≡ behind j (written_in (call_at cs n) (turns j))
  unfolding written_in
  framed_here j others i n [] is lt = absurd (omega arith)
  framed_here j others i zero (c ∷ cs) is lt =
      let same : i ≡ j = omega arith in
      rw (framed_none (suc i) cs (λ m l. others (suc i + m) (λ e. omega arith)), append-nil (behind i (written_in c (turns i))), same)
  framed_here j others i (suc n) (c ∷ cs) is lt =
      rw (others i (λ e. omega arith)) (framed_here j others (suc i) n cs (omega arith) (omega arith))

  framed_all : (e : Event) (i : ℕ) (cs : List Call) → ((n : ℕ) → n < length cs → behind (i + n) (written_in (call_at cs n) (turns (i + n))) ≡ part (i + n) (call_at cs n) e)
      → framed_from i cs turns ≡ writes_from i cs e
  framed_all e i [] f = refl
  framed_all e i (c ∷ cs) f =
      let here : behind i (written_in c (turns i)) ≡ part i c e = rw (add-zero i) at (f 0 (omega arith)) in
      rw (here, framed_all e (suc i) cs (λ n lt. let m : i + suc n ≡ suc i + n = omega arith in rw m at (f (suc n) (omega arith))))

-- a turn's count and buffer, from the messages that it writes
abbrev pub Wrote : List Message → List ℕ → ConsoleOutcome → Type 0
Wrote ms b o = (o.count ≡ length (bytes_of ms)) × (o.buffer ≡ sets b 0 (bytes_of ms))

module _ (calls : List Call) (t : ConsoleTurn) where
  abbrev turns_of : ℕ → List Turn
  turns_of k = went_to k calls t

  unwritten : {o : ConsoleOutcome} {n p : ℕ} → o ≡ refuses_at n p calls t.buffer → ((k : ℕ) → k < length calls → went_to k calls t ≡ []) → Wrote (framed calls t) t.buffer o
  unfolding framed bytes_of
  unwritten is none =
      let all : framed_from 0 calls turns_of ≡ [] = framed_none turns_of 0 calls (λ n lt. ap turns_of (zero-add n) ∙ none n lt) in rw (is, all) (refl, refl)

  module _ (e : Event) (ok : table_sound calls ≡ true) (reads : read events t.event ≡ taken e) where
    module _ (j : ℕ) (below : j < 8) (to : route_of calls t.place e ≡ Route.To j) where
      abbrev v : Turn
      v = lent_behind 0 t

      here : went_to j calls t ≡ v ∷ []
      here = went_routed calls t j ok reads to ∙ ap (λ (x : Bool). cond x (v ∷ []) []) (eq-eqb j j refl)

      others : (k : ℕ) → (k ≡ j → ⊥) → went_to k calls t ≡ []
      others k d = went_routed calls t k ok reads to ∙ ap (λ (x : Bool). cond x (v ∷ []) []) (ne_eqb j k (λ s. d (sym s)))

      all_is : framed_from 0 calls turns_of ≡ behind j (written_by (call_at calls j) v)
      all_is =
          let n = eight_of calls ok in
          framed_here turns_of j others 0 j calls (sym (zero-add j)) (omega arith)
          ∙ ap (λ (z : List Turn). behind j (written_in (call_at calls j) z)) here
          ∙ ap (λ (z : List Message). behind j z) (written_one (call_at calls j) v)

      give : {ms : List Message} {o : Outcome} → framed_from 0 calls turns_of ≡ ms → placed j (call_at calls j) e t.buffer ≡ o → o.count ≡ length (bytes_of ms)
          → o.buffer ≡ sets t.buffer 0 (bytes_of ms) → Wrote (framed_from 0 calls turns_of) t.buffer (at_place j calls e t.buffer)
      unfolding at_place
      give all is n b = (
        ap (λ (o : Outcome). o.count) is ∙ n ∙ sym (ap (λ (z : List Message). length (bytes_of z)) all),
        ap (λ (o : Outcome). o.buffer) is ∙ b ∙ sym (ap (λ (z : List Message). sets t.buffer 0 (bytes_of z)) all),
      )

      by_step : Decides (call_at calls j) e (drop 5 t.buffer) → Wrote (framed_from 0 calls turns_of) t.buffer (at_place j calls e t.buffer)
      unfolding bytes_of
      by_step (Decides.refuses m z d) =
          let other : (decided (call_at calls j) e (drop 5 t.buffer)).answer ≡ 0 → ⊥ = λ q. (let w = sym (ap (λ (o : Outcome). o.answer) d) ∙ q in omega arith) in
          give (all_is ∙ ap (λ (z : List Message). behind j z) (writes_nothing (call_at calls j) e v (sound_at calls j ok below) reads other))
          (sym (placed_refuses j (call_at calls j) e t.buffer m z d)) refl refl
      by_step (Decides.takes w f d) =
          give (all_is ∙ ap (λ (z : List Message). behind j z) (writes_taken (call_at calls j) e v (sound_at calls j ok below) reads (ap (λ (o : Outcome). o.answer) d)))
          (sym (placed_takes j (call_at calls j) e t.buffer d)) refl refl

      one_place : Wrote (framed calls t) t.buffer (at_place j calls e t.buffer)
      unfolding framed
      one_place = by_step (decides (call_at calls j) e (drop 5 t.buffer))

    every_place : aim_of e ≡ Aim.Every → ((k : ℕ) → went_to k calls t ≡ goes k Route.Everywhere calls e t) → all_fits calls e t.buffer ≡ true
        → framed_from 0 calls turns_of ≡ writes_from 0 calls e
    unfolding written_in
    every_place every went fits = framed_all turns_of e 0 calls (λ n lt. rw (zero-add n) (at_place_lem n lt (takes e (call_at calls n)) refl))
      where
        turn_at : (k : ℕ) {b : Bool} → takes e (call_at calls k) ≡ b → turns_of k ≡ cond b (lent_behind (length (bytes_of (done calls e k))) t ∷ []) []
        turn_at k h =
            went k
            ∙ ap (λ (x : Bool). cond (x && takes e (call_at calls k)) (lent_behind (length (bytes_of (done calls e k))) t ∷ []) []) fits
            ∙ ap (λ (x : Bool). cond x (lent_behind (length (bytes_of (done calls e k))) t ∷ []) []) h

        at_place_lem : (k : ℕ) → k < length calls → (b : Bool) → takes e (call_at calls k) ≡ b → behind k (written_in (call_at calls k) (turns_of k)) ≡ part k (call_at calls k) e
        at_place_lem k lt true h =
            let n = eight_of calls ok in
            let v = lent_behind (length (bytes_of (done calls e k))) t in
            ap (λ (z : List Turn). behind k (written_in (call_at calls k) z)) (turn_at k h)
            ∙ ap (λ (z : List Message). behind k z)
            (written_one (call_at calls k) v
            ∙ writes_taken (call_at calls k) e v (sound_at calls k ok (omega arith)) reads (ap (λ (o : Outcome). o.answer) (all_decided calls e t.buffer k lt fits every h)))
            ∙ ap (λ (x : Bool). cond x (writes k (call_at calls k) e) []) (sym h)
        at_place_lem k lt false h =
            ap (λ (z : List Turn). behind k (written_in (call_at calls k) z)) (turn_at k h)
            ∙ ap (λ (x : Bool). cond x (writes k (call_at calls k) e) []) (sym h)

  pub messages : Wrote (framed calls t) t.buffer (console_outcome calls t)
  unfolding framed
  messages = by (came calls t)
    where
      all : (e : Event) → table_sound calls ≡ true → read events t.event ≡ taken e → route_of calls t.place e ≡ Route.Everywhere
          → console_outcome calls t ≡ everywhere calls e t.buffer → Everywhere calls e t.buffer → Wrote (framed calls t) t.buffer (console_outcome calls t)
      all e s h r o (none_takes x d) =
          let n = eight_of calls s in
          unwritten (o ∙ d) (λ k lt. went_routed calls t k s h r ∙ not_taken calls t k (omega arith) e s h (all_fits calls e t.buffer) (takes e (call_at calls k)) refl x)
      all e s h r o (no_room x f d) =
          unwritten (o ∙ d)
          (λ k lt.
          went_routed calls t k s h r
          ∙ ap (λ (x : Bool). cond (x && takes e (call_at calls k)) (lent_behind (length (bytes_of (done calls e k))) t ∷ []) []) f)
      all e s h r o (all_take x f d) =
          let whole = every_place e s h (to_all calls t.place e r) (λ k. went_routed calls t k s h r) f in rw (o ∙ d, whole) (refl, refl)

      by : Came calls t → Wrote (framed calls t) t.buffer (console_outcome calls t)
      by (unsound s o) = unwritten o (λ k lt. went_unsound calls t k s)
      by (unread n p s h o) = unwritten o (λ k lt. went_unread calls t k s h)
      by (routes e (Route.To j) s h r o) = rw o (one_place e s h j (to_place calls t.place e r) r)
      by (routes e Route.Everywhere s h r o) = all e s h r o (everywhere_does calls e t.buffer)
      by (routes e (Route.Refused a) s h r o) = unwritten o (λ k lt. went_routed calls t k s h r)
