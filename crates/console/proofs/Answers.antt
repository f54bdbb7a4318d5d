-- Every turn gets the first number that applies. An event that is led to a place is of that place's call, so the step's own 5 never comes.
use Prim.Native.Nat.{ℕ, suc, ◌+◌, ◌-◌, ◌≤◌}
use mathlib.Core.Path.{◌≡◌, refl, sym, ◌∙◌, ap}
use mathlib.Core.Bool.{Bool, true, false, cond, not, ◌&&◌, ◌||◌, and-false}
use mathlib.Core.List.{List, [], ◌∷◌}
use native.Mathlib.Omega.{arith}
use borrow.Author.Tests.{eq-eqb, eqb-true, le-leb, lt-leb, leb-true, lt-ltb, le-ltb, ltb-true, ltb-false}
use lib.Dec.{leb, ltb, eqb}
use lib.ListN.{length, drop, length-drop}
use Rattle.records.specs.declared.events.Event.{Event}
use Rattle.records.specs.Tables.{Read, taken, refused}
use Rattle.callcontrol.specs.declared.call.Call.{Call}
use Rattle.callcontrol.specs.declared.step.Refusal.{Refusal}
use Rattle.std.specs.Prelude.{Option, Some, None}
use Rattle.callcontrol.specs.Call.{is_idle}
use Rattle.callcontrol.specs.Rows.{row_for}
use Rattle.callcontrol.specs.Writing.{bytes_of}
use Rattle.callcontrol.specs.Step.{Outcome, named_in, differs, other_call, over_transmission, carried, decided}
use Rattle.demands.specs.Demands.{wrong_length, no_kind, retired_kind, bad_body, first}
use Rattle.demands.proofs.Facts.{apart, left, right, is_not}
use Rattle.demands.proofs.Reading.{Reads, bad_length, no_kind_lem, retired, bad_body_lem, is, reads}
use Rattle.demands.proofs.Turns.{by_tests}
use Rattle.console.specs.declared.route.Aim.{Aim}
use Rattle.console.specs.declared.route.ConsoleRefusal.{ConsoleRefusal}
use Rattle.console.specs.Table.{call_at, holds, some?, lowest}
use Rattle.console.specs.Route.{Route, console_number, aim_of, aimed, at_named, at_lowest_idle, outgoing, incoming, at_holder, route_of}
use Rattle.console.specs.Console.{ConsoleOutcome, at_place, routed, takes, writes, headed}
use Rattle.console.specs.Runs.{console_outcome, all_fits}
use Rattle.console.specs.Answers.{place_over, id_held, id_awaited, no_idle_place, none_fits, no_row_there, transmits_there, too_long, console_applies, Answered}
use Rattle.console.proofs.Answering.{placed_answer}
use Rattle.console.proofs.Everywhere.{part_size}
use Rattle.console.proofs.Placing.{bytes_at}
use Rattle.console.proofs.Tables.{eight_of}
use Rattle.console.proofs.Turns.{Everywhere, everywhere_does, none_takes, no_room, all_take, Came, came, unsound, unread, routes, routed_is}

-- ---- the room at one place: behind five bytes, or none where nothing is written

same_test : (a b c d : ℕ) → (a ≤ b → c ≤ d) → (c ≤ d → a ≤ b) → leb a b ≡ leb c d
same_test a b c d f g = by (leb a b) (leb c d) refl refl
  where
    by : (x y : Bool) → leb a b ≡ x → leb c d ≡ y → leb a b ≡ leb c d
    by true y h w = h ∙ sym (le-leb c d (f (leb-true a b h)))
    by false true h w = apart (le-leb a b (g (leb-true c d w))) h
    by false false h w = h ∙ sym w

headed_fits : (n l : ℕ) (z : Bool) → eqb n 0 ≡ z → leb (cond z 0 (5 + n)) l ≡ leb n (l - 5)
headed_fits n l true e = same_test 0 l n (l - 5) (λ h. omega (arith, eqb-true n 0 e)) (λ h. omega arith)
headed_fits n l false e = same_test (5 + n) l n (l - 5) (λ h. omega arith) (λ h. some_fits h)
  where
    some_fits : n ≤ l - 5 → 5 + n ≤ l
    some_fits h = by (ltb l (5 + n)) refl
      where
        by : (x : Bool) → ltb l (5 + n) ≡ x → 5 + n ≤ l
        by true w = absurd (apart (eq-eqb n 0 (omega (arith, ltb-true l (5 + n) w, h))) e)
        by false w = ltb-false l (5 + n) w

module _ (calls : List Call) (e : Event) (b : List ℕ) (k : ℕ) where
  abbrev c : Call
  c = call_at calls k

  row_room : takes e c ≡ true → leb (length (bytes_at c e)) (length (drop 5 b)) ≡ leb (length (bytes_of (writes k c e))) (length b)
  row_room t =
      let size : length (bytes_of (writes k c e)) ≡ headed (length (bytes_at c e)) =
      sym (ap (λ (x : Bool). length (bytes_of (cond x (writes k c e) []))) t) ∙ part_size c e k true t in
      rw (size, length-drop 5 b) (sym (headed_fits (length (bytes_at c e)) (length b) (eqb (length (bytes_at c e)) 0) refl))

  by_tests_lem : (row over room fits : Bool) → (row ≡ true → room ≡ fits) → {d : Outcome}
      → d ≡ by_tests false row over room c (row_for c e) (drop 5 b)
      → d.answer ≡ cond (not row) 6 (cond over 8 (cond (not fits) 7 0))
  by_tests_lem false over room fits f same = ap (λ (o : Outcome). o.answer) same
  by_tests_lem true true room fits f same = ap (λ (o : Outcome). o.answer) same
  by_tests_lem true false false false f same = ap (λ (o : Outcome). o.answer) same
  by_tests_lem true false true true f same = ap (λ (o : Outcome). o.answer) same
  by_tests_lem true false false true f same = apart (f refl) refl
  by_tests_lem true false true false f same = apart refl (f refl)

  decided_is : other_call c e ≡ false
      → decided c e (drop 5 b) ≡ by_tests false (takes e c) (over_transmission c e) (leb (length (bytes_at c e)) (length (drop 5 b))) c (row_for c e) (drop 5 b)
  unfolding decided carried
  decided_is ours = rw ours

  one_place : other_call c e ≡ false
      → (at_place k calls e b).answer ≡ cond (no_row_there (Route.To k) calls e) 6 (cond (transmits_there (Route.To k) calls e) 8 (cond (too_long (Route.To k) calls e b) 7 0))
  unfolding at_place
  one_place ours =
      placed_answer k c e b
      ∙ by_tests_lem (takes e c) (over_transmission c e) (leb (length (bytes_at c e)) (length (drop 5 b))) (leb (length (bytes_of (writes k c e))) (length b)) row_room (decided_is ours)

-- ---- every place

every_place : (calls : List Call) (e : Event) (b : List ℕ)
    → (routed Route.Everywhere calls e b).answer
    ≡ cond (no_row_there Route.Everywhere calls e) 6 (cond (transmits_there Route.Everywhere calls e) 8 (cond (too_long Route.Everywhere calls e b) 7 0))
every_place calls e b = by (everywhere_does calls e b)
  where
    by : Everywhere calls e b
        → (routed Route.Everywhere calls e b).answer ≡ cond (not (some? (takes e) calls)) 6 (cond false 8 (cond (not (all_fits calls e b)) 7 0))
    by (none_takes s d) = rw s (ap (λ (o : ConsoleOutcome). o.answer) d)
    by (no_room s f d) = rw (s, f) (ap (λ (o : ConsoleOutcome). o.answer) d)
    by (all_take s f d) = rw (s, f) (ap (λ (o : ConsoleOutcome). o.answer) d)

-- ---- the lowest place of a kind is there where some place is of it, and is of it

suc_less : (m n : ℕ) (t : Bool) → ltb m n ≡ t → ltb (suc m) (suc n) ≡ t
suc_less m n true h = lt-ltb (suc m) (suc n) (omega (arith, ltb-true m n h))
suc_less m n false h = le-ltb (suc m) (suc n) (omega (arith, ltb-false m n h))

lowest_there : (p : Call → Bool) (calls : List Call) → ltb (lowest p calls) (length calls) ≡ some? p calls
lowest_there p [] = refl
lowest_there p (x ∷ calls) = by (p x) (lowest_there p calls)
  where
    by : (b : Bool) → ltb (lowest p calls) (length calls) ≡ some? p calls → ltb (cond b 0 (suc (lowest p calls))) (suc (length calls)) ≡ (b || some? p calls)
    by true rest = lt-ltb 0 (suc (length calls)) (omega arith)
    by false rest = suc_less (lowest p calls) (length calls) (some? p calls) rest

lowest_is : (p : Call → Bool) (calls : List Call) → some? p calls ≡ true → p (call_at calls (lowest p calls)) ≡ true
lowest_is p [] some = apart some refl
lowest_is p (x ∷ calls) some = by (p x) refl some (λ rest. lowest_is p calls rest)
  where
    by : (b : Bool) → p x ≡ b → (b || some? p calls) ≡ true → (some? p calls ≡ true → p (call_at calls (lowest p calls)) ≡ true)
        → p (call_at (x ∷ calls) (cond b 0 (suc (lowest p calls)))) ≡ true
    by true h some rest = h
    by false h some rest = rest some

-- ---- an event that is led to a place is of that place's call

abbrev call_named : Aim → Option ℕ
call_named Aim.Place = None
call_named Aim.Outgoing = None
call_named (Aim.Incoming i) = None
call_named (Aim.Held i) = Some i
call_named Aim.Every = None

call_named_lem : (e : Event) → named_in e ≡ call_named (aim_of e)
call_named_lem (Event.SetupRequest a d q s) = refl
call_named_lem Event.SetupResponse = refl
call_named_lem Event.ReleaseRequest = refl
call_named_lem (Event.TxRequest k) = refl
call_named_lem (Event.DCallProceeding i) = refl
call_named_lem (Event.DAlert i) = refl
call_named_lem (Event.DConnect i g d o s) = refl
call_named_lem (Event.DConnectAcknowledge i g o) = refl
call_named_lem (Event.DSetup i a d) = refl
call_named_lem (Event.DInfo i r o d s) = refl
call_named_lem (Event.DTxGranted i g) = refl
call_named_lem (Event.DTxCeased i) = refl
call_named_lem (Event.DTxInterrupt i g) = refl
call_named_lem (Event.DTxWait i) = refl
call_named_lem (Event.DTxContinue i k) = refl
call_named_lem (Event.DCallRestore i g r o) = refl
call_named_lem (Event.DDisconnect i) = refl
call_named_lem (Event.DRelease i) = refl
call_named_lem Event.ReportSent = refl
call_named_lem Event.ReportFailed = refl
call_named_lem Event.Break = refl
call_named_lem Event.Resume = refl
call_named_lem (Event.Expiry n) = refl

of_no_call : (c : Call) (e : Event) → named_in e ≡ None → other_call c e ≡ false
unfolding other_call
of_no_call c e n = ap (λ (w : Option ℕ). differs c w) n

of_holder : (c : Call) (e : Event) (i : ℕ) → named_in e ≡ Some i → holds i c ≡ true → other_call c e ≡ false
unfolding other_call holds
of_holder c e i n h =
    let same = eqb-true c.id i (right (not (is_idle c)) (eqb c.id i) h) in
    ap (λ (w : Option ℕ). differs c w) n ∙ ap (λ (x : Bool). not x && (not (eqb c.id 0) || is_idle c)) (eq-eqb i c.id (sym same))

of_awaiting : (c : Call) (e : Event) (i : ℕ) → named_in e ≡ Some i → holds 0 c ≡ true → other_call c e ≡ false
unfolding other_call holds
of_awaiting c e i n h =
    let busy : is_idle c ≡ false = is_not (is_idle c) (left (not (is_idle c)) (eqb c.id 0) h) in
    ap (λ (w : Option ℕ). differs c w) n
    ∙ (λ j. not (eqb i c.id) && (not (right (not (is_idle c)) (eqb c.id 0) h j) || busy j))
    ∙ and-false (not (eqb i c.id))

-- ---- where it goes

module _ (calls : List Call) (eight : length calls ≡ 8) (e : Event) (b : List ℕ) where
  -- the step's own answers, where the event goes
  abbrev own : Route → ℕ
  own r = cond (no_row_there r calls e) 6 (cond (transmits_there r calls e) 8 (cond (too_long r calls e b) 7 0))

  there : (p : Call → Bool) → ltb (lowest p calls) 8 ≡ some? p calls
  there p = ap (λ (n : ℕ). ltb (lowest p calls) n) (sym eight) ∙ lowest_there p calls

  to_named : (place : ℕ) → named_in e ≡ None → (t : Bool) → ltb place 8 ≡ t
      → (routed (cond t (Route.To place) (Route.Refused ConsoleRefusal.PlaceOver)) calls e b).answer
      ≡ cond (leb 8 place) 40 (own (cond t (Route.To place) (Route.Refused ConsoleRefusal.PlaceOver)))
  to_named place n true h = rw (lt-leb 8 place (ltb-true place 8 h)) (one_place calls e b place (of_no_call _ e n))
  to_named place n false h = rw (le-leb 8 place (ltb-false place 8 h))

  to_idle : named_in e ≡ None → (t : Bool) → some? is_idle calls ≡ t
      → (routed (cond t (Route.To (lowest is_idle calls)) (Route.Refused ConsoleRefusal.NoIdlePlace)) calls e b).answer
      ≡ cond (not t) 43 (own (cond t (Route.To (lowest is_idle calls)) (Route.Refused ConsoleRefusal.NoIdlePlace)))
  to_idle n true h = one_place calls e b (lowest is_idle calls) (of_no_call _ e n)
  to_idle n false h = refl

  to_new : (p : Call → Bool) (a : ConsoleRefusal) → named_in e ≡ None → (t : Bool) → some? p calls ≡ t
      → (routed (cond t (Route.Refused a) (at_lowest_idle calls)) calls e b).answer
      ≡ cond t (console_number a) (cond (not (some? is_idle calls)) 43 (own (cond t (Route.Refused a) (at_lowest_idle calls))))
  unfolding at_lowest_idle
  to_new p a n true h = refl
  to_new p a n false h = rw (there is_idle) (to_idle n (some? is_idle calls) refl)

  to_holder : (i : ℕ) → named_in e ≡ Some i → (t s : Bool) → some? (holds i) calls ≡ t → some? (holds 0) calls ≡ s → {r : Route}
      → r ≡ cond t (Route.To (lowest (holds i) calls)) (cond s (Route.To (lowest (holds 0) calls)) (Route.Refused (ConsoleRefusal.OfStep Refusal.OtherCall)))
      → (routed r calls e b).answer ≡ cond (not t && not s) 5 (own r)
  to_holder i n true s h g goes = rw goes (one_place calls e b (lowest (holds i) calls) (of_holder _ e i n (lowest_is (holds i) calls h)))
  to_holder i n false true h g goes = rw goes (one_place calls e b (lowest (holds 0) calls) (of_awaiting _ e i n (lowest_is (holds 0) calls g)))
  to_holder i n false false h g goes = rw goes

  by_aim : (a : Aim) (place : ℕ) → named_in e ≡ call_named a
      → (routed (aimed a calls place) calls e b).answer
      ≡ cond (place_over a place) 40
      (cond (id_held a calls) 41 (cond (id_awaited a calls) 42 (cond (no_idle_place a calls) 43 (cond (none_fits a calls) 5 (own (aimed a calls place))))))
  unfolding at_named outgoing incoming at_holder
  by_aim Aim.Place place n = to_named place n (ltb place 8) refl
  by_aim Aim.Outgoing place n = rw (there (holds 0)) (to_new (holds 0) ConsoleRefusal.IdAwaited n (some? (holds 0) calls) refl)
  by_aim (Aim.Incoming i) place n = rw (there (holds i)) (to_new (holds i) ConsoleRefusal.IdHeld n (some? (holds i) calls) refl)
  by_aim (Aim.Held i) place n = to_holder i n (some? (holds i) calls) (some? (holds 0) calls) refl refl {r = at_holder calls i} (rw (there (holds i), there (holds 0)))
  by_aim Aim.Every place n = every_place calls e b

-- ---- bytes that are no event

read_first : (s : List ℕ) (n p other : ℕ) {r : Read Event} → Reads s r → r ≡ refused n p → n ≡ cond (wrong_length s) 2 (cond (no_kind s) 3 (cond (retired_kind s) 9 (cond (bad_body s) 4 other)))
read_first s n p other (bad_length l) h = rw l (let z : 2 ≡ n = cc in sym z)
read_first s n p other (no_kind_lem l k) h = rw (l, k) (let z : 3 ≡ n = cc in sym z)
read_first s n p other (retired l k r) h = rw (l, k, r) (let z : 9 ≡ n = cc in sym z)
read_first s n p other (bad_body_lem l k r d) h = rw (l, k, r, d) (let z : 4 ≡ n = cc in sym z)
read_first s n p other (is l k r d f) h = absurd (let z : ◌≡◌ {A = ℕ} 0 1 = cc in omega arith)

read_passes : (s : List ℕ) (e : Event) {r : Read Event} → Reads s r → r ≡ taken e → (wrong_length s ≡ false) × (no_kind s ≡ false) × (retired_kind s ≡ false) × (bad_body s ≡ false)
read_passes s e (bad_length l) h = absurd (let z : ◌≡◌ {A = ℕ} 0 1 = cc in omega arith)
read_passes s e (no_kind_lem l k) h = absurd (let z : ◌≡◌ {A = ℕ} 0 1 = cc in omega arith)
read_passes s e (retired l k r) h = absurd (let z : ◌≡◌ {A = ℕ} 0 1 = cc in omega arith)
read_passes s e (bad_body_lem l k r d) h = absurd (let z : ◌≡◌ {A = ℕ} 0 1 = cc in omega arith)
read_passes s e (is l k r d f) h = (l, k, r, d)

pub answered : Answered
unfolding console_applies route_of
answered calls t = by (came calls t)
  where
    by : Came calls t → (console_outcome calls t).answer ≡ first (λ n. console_applies n calls t) (1 ∷ 2 ∷ 3 ∷ 9 ∷ 4 ∷ 40 ∷ 41 ∷ 42 ∷ 43 ∷ 5 ∷ 6 ∷ 8 ∷ 7 ∷ [])
    by (unsound s o) = rw s (ap (λ (o : ConsoleOutcome). o.answer) o)
    by (unread n p s h o) = rw s (ap (λ (o : ConsoleOutcome). o.answer) o ∙ read_first t.event n p _ (reads t.event) h)
    by (routes e r s h to o) =
        let passes = read_passes t.event e (reads t.event) h in
        rw (s, passes.0, passes.1, passes.2, passes.3, h)
        (ap (λ (o : ConsoleOutcome). o.answer) (routed_is calls t s h refl) ∙ by_aim calls (eight_of calls s) e t.buffer (aim_of e) t.place (call_named_lem e))
