-- In true time: none is due where a step is taken or due has waited, the timer that due expires is the first of those due, and what else is due
-- then stops, but for T310 behind T311.
use Prim.Native.Nat.{ℕ, ◌+◌, ◌<◌, ◌≤◌}
use mathlib.Core.Path.{◌≡◌, refl, sym, ◌∙◌, ap}
use mathlib.Core.Bool.{Bool, true, false}
use mathlib.Core.List.{List, [], ◌∷◌}
use mathlib.Core.Option.{Option, none, some}
use native.Mathlib.Omega.{arith}
use borrow.Author.Tests.{eqb-true, eqb-false, eq-eqb, ne_eqb, leb-false, le-leb, lt-leb}
use lib.Dec.{eqb, lit<}
use lib.ListN.{get_or}
use Rattle.records.specs.declared.events.Event.{Event}
use Rattle.records.specs.declared.events.Event.TheVariants.{Expiry}
use Rattle.records.specs.declared.messages.Message.{Message}
use Rattle.records.specs.declared.messages.Message.TheVariants.{USetup, UConnect, UDisconnect, URelease, UInfo, UTxDemand, UTxCeased, UCallRestore, Stop, Start, Configure, Cancel, Place, ChannelAnswer, SetupIndication, SetupConfirm, Proceed, Alert, Complete, ReleaseIndication, ReleaseConfirm, TxIndication, ModifyIndication}
use Rattle.records.specs.Tables.{fine}
use Rattle.records.specs.Messages.{messages}
use Rattle.timers.specs.Wrap.{shown}
use Rattle.timers.specs.Due.{numbers}
use Rattle.timers.specs.Bank.{length_in}
use Rattle.timers.proofs.Tests.{decide, by_test}
use Rattle.timers.proofs.Indices.{by_index, by_number_lem}
use Rattle.callcontrol.specs.declared.call.State.{State}
use Rattle.callcontrol.specs.declared.call.Path.{Path}
use Rattle.callcontrol.specs.declared.call.Call.{Call}
use Rattle.callcontrol.specs.Call.{runs, T311}
use Rattle.callcontrol.specs.Draft.{Draft}
use Rattle.callcontrol.specs.Rows
use Rattle.callcontrol.specs.Rows.{row_for}
use Rattle.callcontrol.specs.Writing.{by_number, starting, messages_in}
use Rattle.callcontrol.proofs.Verbs.{verbs}
use Rattle.demands.specs.Runs as Steps
use Rattle.demands.specs.Runs.{every?}
use Rattle.demands.specs.Demands.{limits}
use Rattle.demands.proofs.Facts.{apart, left, right}
use Rattle.demands.proofs.ByRow.{Ender, t301, t302, t303, t306, t310, Row, is_row}
use Rattle.demands.proofs.Demands.{step_in_range}
use Rattle.demands.proofs.Situations.{clauses}
use Rattle.demands.proofs.Timers.{Timed, up, disconnect, Few, row_clocked, few}
use Rattle.demands.proofs.Turns.{accepts}
use Rattle.timed.specs.declared.set.Timed as Set
use Rattle.timed.specs.Set.{table_right, first_due, turned}
use Rattle.timed.specs.Entries.{Outcome, turn_of}
use Rattle.timed.specs.Times.{Begun, end, Clocks, is_due, dropped, noted, noted_all, First}
use Rattle.timed.specs.Runs.{Turn, step, due, time_of, table_of, outcome, is_taken, steps_by, taken_by, lapse, Kept, made, then, after, InReach, AllInReach}
use Rattle.timed.specs.Demands.{StepSettled, DueSettled, DueFirst, NotPassedOver, OthersStop, AtMostTwo, OnAir}
use Rattle.timed.proofs.Ranges.{start_long}
use Rattle.timed.proofs.Ledger.{Runs, none≢some}
use Rattle.timed.proofs.Turns.{Did, Refused, Waited, Stepped, Lapsed, refused, waited, stepped, lapsed, did, next_is, lapse_turn, due_waited, due_lapsed, step_stepped}
use Rattle.timed.proofs.Reach.{kept, clocked}
use Rattle.timed.proofs.Holding.{Holds, holds_made, every_run, holds_then, lapse_first, none_due, step_takes, lapse_takes, limits_at, no_lapse, takes_one, writes_one}

-- ---- one timer over the messages of a step

module _ (table : List ℕ) (time n : ℕ) (P : Option Begun → Type 0) (none_so : P none)
    (start-so : (o : ℕ) → fine messages (Start n o) ≡ true → limits (Start n o) ≡ true → P (some (record { at = time; long = length_in table n o }))) where
  noted_at : (u : Clocks) (m : Message) → fine messages m ≡ true → limits m ≡ true → P (u n) → P (noted table time u m n)
  unfolding noted
  noted_at u (USetup a d q s) ok l h = h
  noted_at u (UConnect i) ok l h = h
  noted_at u (UDisconnect i c) ok l h = h
  noted_at u (URelease i) ok l h = h
  noted_at u (UInfo i d) ok l h = h
  noted_at u (UTxDemand i) ok l h = h
  noted_at u (UTxCeased i) ok l h = h
  noted_at u (UCallRestore i a q) ok l h = h
  noted_at u (Stop k) ok l h = by_test (eqb n k) none (u n) P (λ q. none_so) (λ q. h)
  noted_at u (Start k o) ok l h =
      by_test (eqb n k) (some (record { at = time; long = length_in table k o })) (u n) P
      (λ q. rw (sym (eqb-true n k q)) (start-so o (rw (eqb-true n k q) ok) (rw (eqb-true n k q) l))) (λ q. h)
  noted_at u (Configure p) ok l h = h
  noted_at u Cancel ok l h = h
  noted_at u (Place at) ok l h = h
  noted_at u (ChannelAnswer k v) ok l h = h
  noted_at u (SetupIndication i a d) ok l h = h
  noted_at u (SetupConfirm i g) ok l h = h
  noted_at u Proceed ok l h = h
  noted_at u Alert ok l h = h
  noted_at u (Complete g) ok l h = h
  noted_at u (ReleaseIndication c) ok l h = h
  noted_at u ReleaseConfirm ok l h = h
  noted_at u (TxIndication x) ok l h = h
  noted_at u (ModifyIndication d s) ok l h = h

  pub noted_all_at : (u : Clocks) (ms : List Message) → every? (λ m. fine messages m) ms ≡ true → every? limits ms ≡ true → P (u n) → P (noted_all table time u ms n)
  unfolding noted_all
  noted_all_at u [] ok l h = h
  noted_all_at u (m ∷ ms) ok l h =
      noted_all_at (noted table time u m) ms (right (fine messages m) _ ok) (right (limits m) _ l)
      (noted_at u m (left _ (every? (λ m. fine messages m) ms) ok) (left _ (every? limits ms) l) h)

-- a timer that is not due at a time is not due after what a step writes then
not_due_after : (table : List ℕ) → table_right table ≡ true → (time n : ℕ) (u : Clocks) (ms : List Message) → every? (λ m. fine messages m) ms ≡ true → every? limits ms ≡ true
    → is_due time (u n) ≡ false → is_due time (noted_all table time u ms n) ≡ false
not_due_after table ok time n =
    noted_all_at table time n (λ v. is_due time v ≡ false) refl
    (λ o f l. lt-leb (time + length_in table n o) time (let some-length = start_long table ok n o f l in omega (arith, some-length)))

-- ---- the timers after a turn

module _ (k : Kept) where
  pub clocks_refused : (d : Turn) {n place : ℕ} → Refused k.timed d n place → (then k d).clocks ≡ k.clocks
  unfolding then Steps.taken_in Steps.written_in noted_all
  clocks_refused d r = rw r.steps

  pub clocks_waited : (table : List ℕ) (time : ℕ) (buffer : List ℕ) → Waited k.timed table time buffer → (then k (due table time buffer)).clocks ≡ k.clocks
  unfolding then Steps.taken_in Steps.written_in noted_all
  clocks_waited table time buffer r = rw r.steps

  pub clocks_made : (d : Turn) (u : Steps.Turn) (e : Event) → steps_by k.timed d ≡ u ∷ [] → Steps.taken_by k.timed.call u ≡ some e
      → (then k d).clocks ≡ noted_all (table_of d) (time_of d) (lapse k.clocks e) (Steps.written_by k.timed.call u)
  unfolding then
  clocks_made d u e steps takes = rw (steps, takes_one k.timed.call u e takes, writes_one k.timed.call u)

-- ---- which timers run after an expiry

after_ender : {c : Call} → Timed State.CallDisconnect Path.Up c → (q : ℕ) → q < 7 → (q ≡ 4 → ⊥) → runs c q ≡ false
after_ender disconnect =
    by_index _ (λ z. refl) (λ z. refl) (λ z. refl) (λ z. refl) (λ z. absurd (z refl)) (λ z. refl) (λ z. refl)

-- where another than T311 expires at most T308 runs then
row_leaves : {c : Call} {s : State} {w : Path} {n : ℕ} {x : Draft} → Row c s w (Expiry n) x → Timed s w c → eqb n 311 ≡ false → (q : ℕ) → q < 7 → (q ≡ 4 → ⊥) → runs x.call q ≡ false
unfolding verbs Rows.confirmed
row_leaves (Row.expires l n k t z) v e = after_ender (row_clocked (Row.expires l n k t z) v)
row_leaves (Row.talked_out n z y) v e = λ q. apart z e
row_leaves (Row.unanswered n z) disconnect e = by_index _ (λ z. refl) (λ z. refl) (λ z. refl) (λ z. refl) (λ z. refl) (λ z. refl) (λ z. refl)

not_ender : {n k : ℕ} → Ender n k → eqb n 311 ≡ true → ⊥
not_ender {n} (t301 e) h = let a = eqb-true n 301 e in let b = eqb-true n 311 h in omega (arith, a, b)
not_ender {n} (t302 e) h = let a = eqb-true n 302 e in let b = eqb-true n 311 h in omega (arith, a, b)
not_ender {n} (t303 e) h = let a = eqb-true n 303 e in let b = eqb-true n 311 h in omega (arith, a, b)
not_ender {n} (t306 e) h = let a = eqb-true n 306 e in let b = eqb-true n 311 h in omega (arith, a, b)
not_ender {n} (t310 e) h = let a = eqb-true n 310 e in let b = eqb-true n 311 h in omega (arith, a, b)

-- where T311 expires at most T310 runs then
pub row_leaves_311 : {c : Call} {s : State} {w : Path} {n : ℕ} {x : Draft} → Row c s w (Expiry n) x → Timed s w c → eqb n 311 ≡ true → (q : ℕ) → q < 7 → (q ≡ 5 → ⊥) → runs x.call q ≡ false
unfolding verbs Rows.confirmed
row_leaves_311 (Row.expires l n k t z) v e = absurd (not_ender t e)
row_leaves_311 (Row.talked_out n z y) up e = by_index _ (λ z. refl) (λ z. refl) (λ z. refl) (λ z. refl) (λ z. refl) (λ z. absurd (z refl)) (λ z. refl)
row_leaves_311 (Row.unanswered n z) v e = absurd (let a = eqb-true n 311 e in let b = eqb-true n 308 (left (eqb n 308) _ z) in omega (arith, a, b))

-- ---- the bank's flag and the timer in true time

stopped_is : (last : ℕ) (r : Bool) (d : ℕ) (v : Option Begun) → Runs last r d v → r ≡ false → v ≡ none
stopped_is last r d none h e = refl
stopped_is last r d (some x) h e = apart h.0 e

running_is : (last : ℕ) (r : Bool) (d : ℕ) (v : Option Begun) → Runs last r d v → r ≡ true → (x : Begun) × (v ≡ some x)
running_is last r d none h e = apart e h
running_is last r d (some x) h e = (x, refl)

flag_is : (last : ℕ) (r : Bool) (d : ℕ) (v : Option Begun) → Runs last r d v → (x : Begun) → v ≡ some x → r ≡ true
flag_is last r d none h x e = absurd (none≢some e)
flag_is last r d (some y) h x e = h.0

module _ (k : Kept) (h : Holds k) where
  -- a timer that does not run in the record does not in true time
  pub none_runs_lem : (q : ℕ) → q < 7 → runs k.timed.call q ≡ false → k.clocks (get_or numbers q 0) ≡ none
  none_runs_lem q l e =
      stopped_is k.last (get_or k.timed.bank.running q false) (get_or k.timed.bank.deadlines q 0) (k.clocks (get_or numbers q 0)) (h.shows.timers q l)
      (ap (λ (f : List Bool). get_or f q false) h.joined ∙ e)

  pub some_runs : (q : ℕ) → q < 7 → runs k.timed.call q ≡ true → (x : Begun) × (k.clocks (get_or numbers q 0) ≡ some x)
  some_runs q l e =
      running_is k.last (get_or k.timed.bank.running q false) (get_or k.timed.bank.deadlines q 0) (k.clocks (get_or numbers q 0)) (h.shows.timers q l)
      (ap (λ (f : List Bool). get_or f q false) h.joined ∙ e)

  pub runs_so : (q : ℕ) → q < 7 → (x : Begun) → k.clocks (get_or numbers q 0) ≡ some x → runs k.timed.call q ≡ true
  runs_so q l x e =
      sym (ap (λ (f : List Bool). get_or f q false) h.joined)
      ∙ flag_is k.last (get_or k.timed.bank.running q false) (get_or k.timed.bank.deadlines q 0) (k.clocks (get_or numbers q 0)) (h.shows.timers q l) x e

  -- a property of every timer is one of the seven's
  pub by_timer : (P : ℕ → Option Begun → Type 0) → ((n : ℕ) → P n none) → ((q : ℕ) → q < 7 → P (get_or numbers q 0) (k.clocks (get_or numbers q 0))) → (n : ℕ) → P n (k.clocks n)
  by_timer P z f =
      by_number_lem (λ n. P n (k.clocks n)) (f 0 (lit< tt)) (f 1 (lit< tt)) (f 2 (lit< tt)) (f 3 (lit< tt)) (f 4 (lit< tt)) (f 5 (lit< tt)) (f 6 (lit< tt))
      (λ n e. rw (h.shows.others n (omega (arith, e))) (z n))

  pub settled_step : (table : List ℕ) (t : ℕ) (event buffer : List ℕ) → InReach k (step table t event buffer) → Stepped k.timed table t event buffer
      → (n : ℕ) → (is_due t (k.clocks n) ≡ false) × (is_due t ((then k (step table t event buffer)).clocks n) ≡ false)
  settled_step table t event buffer i r n =
      let before = none_due k h t i.not_earlier i.near r.none_due n in
      let e = step_takes k h table t event buffer r in
      let u = turn_of event buffer in
      let plain = no_lapse k.clocks k.timed.call.timers e.0 e.1.1 in
      let is = clocks_made k (step table t event buffer) u e.0 r.steps e.1.0 in (
        before,
        rw (is, plain.0)
            (not_due_after table r.ready.right t n k.clocks (Steps.written_by k.timed.call u) (step_in_range k.timed.call u (kept k.timed.call h.reach)) (limits_at k.timed.call u) before),
      )

  pub settled_due : (table : List ℕ) (t : ℕ) (buffer : List ℕ) → InReach k (due table t buffer) → Waited k.timed table t buffer
      → (n : ℕ) → is_due t ((then k (due table t buffer)).clocks n) ≡ false
  settled_due table t buffer i r n = rw (clocks_waited k table t buffer r) (none_due k h t i.not_earlier i.near r.none_due n)

pub step_settled : StepSettled
step_settled time ds table t event buffer all i zero =
    let k = after (made time) ds in
    settled_step k (every_run time ds all) table t event buffer i (step_stepped k.timed table t event buffer (did k.timed (step table t event buffer)) zero)

pub due_settled : DueSettled
due_settled time ds table t buffer all i zero place =
    let k = after (made time) ds in
    settled_due k (every_run time ds all) table t buffer i (due_waited k.timed table t buffer (did k.timed (due table t buffer)) zero place)

-- ---- due that expires a timer

-- T308 runs beside no other
pub not_beside : {c : Call} → Few c → (p : ℕ) → p < 7 → (p ≡ 4 → ⊥) → runs c p ≡ true → runs c 4 ≡ false
not_beside Few.none p l z e = refl
not_beside Few.one p l z e = refl
not_beside Few.two p l z e = refl
not_beside Few.three p l z e = refl
not_beside {c} Few.eight p l z e =
    by_index (λ p. (p ≡ 4 → ⊥) → runs c p ≡ true → runs c 4 ≡ false) (λ z e. apart e refl) (λ z e. apart e refl) (λ z e. apart e refl) (λ z e. apart e refl) (λ z e. absurd (z refl)) (λ z e. apart e refl)
    (λ z e. apart e refl) p l z e
not_beside Few.ten p l z e = refl
not_beside Few.ten_eleven p l z e = refl
not_beside Few.eleven_only p l z e = refl
not_beside Few.six_only p l z e = refl
not_beside Few.six_ten p l z e = refl

-- T311's expiry gives no order to a timer
row_says_311 : {c : Call} {s : State} {w : Path} {n : ℕ} {x : Draft} → Row c s w (Expiry n) x → Timed s w c → eqb n 311 ≡ true → (table : List ℕ) (time : ℕ) (u : Clocks)
    → noted_all table time u (messages_in x) ≡ u
unfolding verbs Rows.confirmed noted_all noted messages_in by_number starting
row_says_311 (Row.expires l n k t z) v e table time u = absurd (not_ender t e)
row_says_311 (Row.talked_out n z y) up e table time u = refl
row_says_311 (Row.unanswered n z) v e table time u = absurd (let a = eqb-true n 311 e in let b = eqb-true n 308 (left (eqb n 308) _ z) in omega (arith, a, b))

pub writes_row : (c : Call) (u : Steps.Turn) (e : Event) → Steps.taken_by c u ≡ some e → Steps.written_by c u ≡ messages_in (row_for c e)
unfolding Steps.written_by
writes_row c u e h = rw h

is_due_lem : (time : ℕ) (v : Option Begun) (x : Begun) → v ≡ some x → end x ≤ time → is_due time v ≡ true
is_due_lem time v x e past = rw e (le-leb (end x) time past)

module _ (k : Kept) (h : Holds k) (table : List ℕ) (t : ℕ) (buffer : List ℕ) (i : InReach k (due table t buffer)) (r : Lapsed k.timed table t buffer) where
  abbrev d : Turn
  d = due table t buffer

  abbrev c : Call
  c = k.timed.call

  abbrev u : Steps.Turn
  u = lapse_turn k.timed t buffer

  abbrev pub first_index : ℕ
  first_index = (lapse_first k h table t buffer i r).0

  abbrev pub n₀ : ℕ
  n₀ = get_or numbers (lapse_first k h table t buffer i r).0 0

  pub p_small : first_index < 7
  p_small = (lapse_first k h table t buffer i r).1.0

  pub is_first : First k.clocks t n₀
  is_first = (lapse_first k h table t buffer i r).1.2

  pub first_number : first_due k.timed (shown t) ≡ n₀
  first_number = (lapse_first k h table t buffer i r).1.1

  takes : Steps.taken_by c u ≡ some (Expiry n₀)
  takes = lapse_takes k h table t buffer r first_index p_small first_number

  pub taken_is : taken_by k.timed d ≡ Expiry n₀ ∷ []
  taken_is = rw r.steps (takes_one c u (Expiry n₀) takes)

  pub p_runs : runs c first_index ≡ true
  p_runs = runs_so k h first_index p_small is_first.clock is_first.runs

  pub row : Row c c.state c.path (Expiry n₀) (row_for c (Expiry n₀))
  row = is_row c (Expiry n₀) (accepts c u (Expiry n₀) takes).row

  pub clock_row : Timed c.state c.path c
  clock_row = clocked c h.reach

  pub call_then : (then k d).timed.call ≡ (row_for c (Expiry n₀)).call
  unfolding then turned
  call_then = ap (λ (x : Set.Timed). x.call) (next_is k.timed d r.gives) ∙ (accepts c u (Expiry n₀) takes).leaves

  pub holds : Holds (then k d)
  holds = holds_then k h d i

  pub stops_at : (q : ℕ) → q < 7 → runs (row_for c (Expiry n₀)).call q ≡ false → (then k d).clocks (get_or numbers q 0) ≡ none
  stops_at q l e = none_runs_lem (then k d) holds q l (ap (λ (x : Call). runs x q) call_then ∙ e)

  pub clocks_then : (then k d).clocks ≡ noted_all table t (dropped n₀ k.clocks) (Steps.written_by c u)
  clocks_then = clocks_made k d u (Expiry n₀) r.steps takes

  -- T308, if it runs then, was started then
  t308_later : is_due t ((then k d).clocks 308) ≡ false
  t308_later =
      rw clocks_then
      (not_due_after table r.ready.right t 308 (dropped n₀ k.clocks) (Steps.written_by c u) (step_in_range c u (kept c h.reach)) (limits_at c u)
      (decide (eqb first_index 4)
      (λ e. rw (eqb-true first_index 4 e))
      (λ e. by_test (eqb 308 n₀) none (k.clocks 308) (λ v. is_due t v ≡ false) (λ z. refl)
      (λ z. rw (none_runs_lem k h 4 (lit< tt) (not_beside (few clock_row) first_index p_small (eqb-false first_index 4 e) p_runs))))))

  -- but for T311 no timer is due after an expiry
  pub all_settled : eqb n₀ 311 ≡ false → (n : ℕ) → is_due t ((then k d).clocks n) ≡ false
  all_settled e =
      by_timer (then k d) holds (λ n v. is_due t v ≡ false) (λ n. refl)
      (λ q l.
      decide (eqb q 4) (λ z. rw (eqb-true q 4 z) t308_later)
      (λ z. rw (stops_at q l (row_leaves row clock_row e q l (eqb-false q 4 z)))))

  -- and after T311's at most T310
  pub only_310 : eqb n₀ 311 ≡ true → (n : ℕ) → is_due t ((then k d).clocks n) ≡ true → n ≡ 310
  only_310 e =
      by_timer (then k d) holds (λ n v. is_due t v ≡ true → n ≡ 310) (λ n z. apart z refl)
      (λ q l z.
      decide (eqb q 5) (λ y. rw (eqb-true q 5 y))
      (λ y. apart (rw (stops_at q l (row_leaves_311 row clock_row e q l (eqb-false q 5 y))) at z) refl))

  pub same_310 : eqb n₀ 311 ≡ true → (then k d).clocks 310 ≡ k.clocks 310
  same_310 e = rw (clocks_then, writes_row c u (Expiry n₀) takes, row_says_311 row clock_row e table t (dropped n₀ k.clocks), eqb-true n₀ 311 e)

  pub others_stop_at : (n : ℕ) → is_due t ((then k d).clocks n) ≡ true → (first_due k.timed (shown t) ≡ 311) × (n ≡ 310) × ((then k d).clocks n ≡ k.clocks n)
  others_stop_at n z =
      decide (eqb n₀ 311)
      (λ e. let ten = only_310 e n z in (first_number ∙ eqb-true n₀ 311 e, ten, rw ten (same_310 e)))
      (λ e. apart z (all_settled e n))

  -- T311 does not run after an expiry
  pub none_311 : (then k d).clocks 311 ≡ none
  none_311 =
      decide (eqb n₀ 311) (λ e. stops_at 6 (lit< tt) (row_leaves_311 row clock_row e 6 (lit< tt) (λ z. omega (arith, z))))
      (λ e. stops_at 6 (lit< tt) (row_leaves row clock_row e 6 (lit< tt) (λ z. omega (arith, z))))

  due_311 : is_due t ((then k d).clocks 311) ≡ false
  due_311 = rw none_311

pub due_first : DueFirst
due_first time ds table t buffer all i zero one =
    let k = after (made time) ds in
    let h = every_run time ds all in
    let r = due_lapsed k.timed table t buffer (did k.timed (due table t buffer)) zero one in
    rw (first_number k h table t buffer i r) (taken_is k h table t buffer i r, is_first k h table t buffer i r)

pub others_stop : OthersStop
others_stop time ds table t buffer n all i zero one late =
    let k = after (made time) ds in
    others_stop_at k (every_run time ds all) table t buffer i (due_lapsed k.timed table t buffer (did k.timed (due table t buffer)) zero one) n late

-- where a timer is due, due has place 1
not_passed : (k : Kept) → Holds k → (table : List ℕ) (t : ℕ) (buffer : List ℕ) → InReach k (due table t buffer) → (n : ℕ) → Did k.timed (due table t buffer)
    → (outcome k.timed (due table t buffer)).answer ≡ 0 → is_due t (k.clocks n) ≡ true → (outcome k.timed (due table t buffer)).place ≡ 1
not_passed k h table t buffer i n (refused r) zero late = absurd (r.number (rw r.gives at zero))
not_passed k h table t buffer i n (waited r) zero late = apart late (none_due k h t i.not_earlier i.near r.none_due n)
not_passed k h table t buffer i n (lapsed r) zero late = rw r.gives

pub not_passed_over : NotPassedOver
not_passed_over time ds table t buffer n all i zero late =
    let k = after (made time) ds in
    not_passed k (every_run time ds all) table t buffer i n (did k.timed (due table t buffer)) zero late

-- ---- at most two at one reading

first_due_now : (k : Kept) (h : Holds k) (table : List ℕ) (t : ℕ) (buffer : List ℕ) (i : InReach k (due table t buffer)) (r : Lapsed k.timed table t buffer)
    → is_due t (k.clocks (n₀ k h table t buffer i r)) ≡ true
first_due_now k h table t buffer i r =
    let f = is_first k h table t buffer i r in
    is_due_lem t (k.clocks (n₀ k h table t buffer i r)) f.clock f.runs f.due

two_at_most : (k : Kept) → Holds k → (a b c : List ℕ) (t : ℕ) (x y z : List ℕ) → AllInReach k (due a t x ∷ due b t y ∷ due c t z ∷ [])
    → Lapsed k.timed a t x → Lapsed (then k (due a t x)).timed b t y → Lapsed (then (then k (due a t x)) (due b t y)).timed c t z → ⊥
two_at_most k h a b c t x y z i l₁ l₂ l₃ =
    let k₁ = then k (due a t x) in
    let h₁ = holds_then k h (due a t x) i.0 in
    let k₂ = then k₁ (due b t y) in
    let h₂ = holds_then k₁ h₁ (due b t y) i.1.0 in
    let second = first_due_now k₁ h₁ b t y i.1.0 l₂ in
    let third = first_due_now k₂ h₂ c t z i.1.1.0 l₃ in
    let ten = (others_stop_at k h a t x i.0 l₁ (n₀ k₁ h₁ b t y i.1.0 l₂) second).1 in
    let other : eqb (n₀ k₁ h₁ b t y i.1.0 l₂) 311 ≡ false = rw ten refl in
    apart third (all_settled k₁ h₁ b t y i.1.0 l₂ other (n₀ k₂ h₂ c t z i.1.1.0 l₃))

pub at_most_two : AtMostTwo
at_most_two time ds a b c t x y z all i e₁ e₂ e₃ =
    let k = after (made time) ds in
    let k₁ = then k (due a t x) in
    let k₂ = then k₁ (due b t y) in
    two_at_most k (every_run time ds all) a b c t x y z i (due_lapsed k.timed a t x (did k.timed (due a t x)) e₁.0 e₁.1)
    (due_lapsed k₁.timed b t y (did k₁.timed (due b t y)) e₂.0 e₂.1) (due_lapsed k₂.timed c t z (did k₂.timed (due c t z)) e₃.0 e₃.1)

-- ---- (d) on the air

-- a refused turn's reading is not accepted, a taken one's is
pub last_refused : (k : Kept) (d : Turn) {n place : ℕ} → Refused k.timed d n place → (then k d).last ≡ k.last
unfolding then is_taken
last_refused k d {n} r = rw (r.gives, ne_eqb n 0 r.number)

pub last_taken : (k : Kept) (d : Turn) → (outcome k.timed d).answer ≡ 0 → (then k d).last ≡ time_of d
unfolding then is_taken
last_taken k d e = rw e

abbrev pub Quiet311 : Kept → Type 0
Quiet311 k = is_due k.last (k.clocks 311) ≡ false

quiet_then : (k : Kept) → Holds k → (e : Turn) → InReach k e → Did k.timed e → Quiet311 k → Quiet311 (then k e)
quiet_then k h e i (refused r) q = rw (last_refused k e r, clocks_refused k e r) q
quiet_then k h _ i (waited {table} {time} {buffer} r) q =
    rw (last_taken k (due table time buffer) (ap (λ (o : Outcome). o.answer) r.gives)) (settled_due k h table time buffer i r 311)
quiet_then k h _ i (stepped {table} {time} {event} {buffer} r) q =
    rw (last_taken k (step table time event buffer) (ap (λ (o : Outcome). o.answer) r.gives)) (settled_step k h table time event buffer i r 311).1
quiet_then k h _ i (lapsed {table} {time} {buffer} r) q =
    rw (last_taken k (due table time buffer) (ap (λ (o : Outcome). o.answer) r.gives)) (due_311 k h table time buffer i r)

pub quiet_after : (k : Kept) → Holds k → (ds : List Turn) → AllInReach k ds → Quiet311 k → Quiet311 (after k ds)
unfolding after
quiet_after k h [] i q = q
quiet_after k h (e ∷ ds) i q = quiet_after (then k e) (holds_then k h e i.0) ds i.1 (quiet_then k h e i.0 (did k.timed e) q)

pub quiet_made : (time : ℕ) → Quiet311 (made time)
unfolding made
quiet_made time = refl

pub on_air_at : (k : Kept) → Holds k → Quiet311 k → k.timed.call.plane ≡ 1 → (x : Begun) × (k.clocks 311 ≡ some x) × (k.last < x.at + x.long)
on_air_at k h q one =
    let c = k.timed.call in
    let sends : runs c T311 ≡ true = (clauses c (kept c h.reach).meets).t311 ∙ eq-eqb c.plane 1 one in
    let x = some_runs k h 6 (lit< tt) sends in
    (x.0, x.1, leb-false (end x.0) k.last (rw x.1 at q))

pub on_air : OnAir
on_air time ds all one =
    let k = after (made time) ds in
    on_air_at k (every_run time ds all) (quiet_after (made time) (holds_made time) ds all (quiet_made time)) one
