-- A timer that is neither stopped nor started anew expires at the first due at or after its deadline at which no other expires.
use Prim.Native.Nat.{ℕ, ◌≤◌}
use mathlib.Core.Path.{◌≡◌, refl, sym, ◌∙◌, ap}
use mathlib.Core.Bool.{Bool, true, false, cond, not, ◌&&◌, ◌||◌}
use mathlib.Core.List.{List, [], ◌∷◌, ◌++◌}
use mathlib.Core.Option.{Option, none, some}
use borrow.Author.Tests.{eqb-true, eqb-false, eq-eqb, ne_eqb, le-leb, lt-leb}
use lib.Dec.{eqb}
use Rattle.records.specs.declared.messages.Message.{Message}
use Rattle.records.specs.declared.messages.Message.TheVariants.{USetup, UConnect, UDisconnect, URelease, UInfo, UTxDemand, UTxCeased, UCallRestore, Stop, Start, Configure, Cancel, Place, ChannelAnswer, SetupIndication, SetupConfirm, Proceed, Alert, Complete, ReleaseIndication, ReleaseConfirm, TxIndication, ModifyIndication}
use Rattle.timers.specs.Wrap.{shown}
use Rattle.timers.proofs.Tests.{decide, by_test}
use Rattle.demands.specs.Runs as Steps
use Rattle.demands.proofs.Facts.{apart}
use Rattle.timed.specs.Set.{first_due}
use Rattle.timed.specs.Entries.{turn_of}
use Rattle.timed.specs.Times.{Begun, end, Clocks, dropped, noted, noted_all, orders_to, ordered, first_from}
use Rattle.timed.specs.Runs.{Turn, step, due, outcome, is_taken, written_by, lapse, Kept, made, then, after, InReach, AllInReach}
use Rattle.timed.specs.Demands.{expiries, dues, NotOrdered, OnTime}
use Rattle.timed.proofs.Ledger.{none≢some}
use Rattle.timed.proofs.Turns.{Did, Refused, Waited, Stepped, Lapsed, refused, waited, stepped, lapsed, did, lapse_turn}
use Rattle.timed.proofs.Holding.{Holds, every_run, holds_then, none_due, step_takes, no_lapse, writes_one}
use Rattle.timed.proofs.OnTime.{clocks_refused, clocks_waited, clocks_made, clocks_then, n₀, is_first, first_number}
use Rattle.timed.proofs.Silence.{not_late}

-- ---- messages that give no order to a timer

or_first : (a b : Bool) → (a || b) ≡ false → a ≡ false
or_first true b h = h
or_first false b h = refl

or_second : (a b : Bool) → (a || b) ≡ false → b ≡ false
or_second true b h = apart refl h
or_second false b h = h

left_alone : (table : List ℕ) (time n : ℕ) (u : Clocks) (m : Message) → orders_to n m ≡ false → noted table time u m n ≡ u n
unfolding noted
left_alone table time n u (USetup a d q s) h = refl
left_alone table time n u (UConnect i) h = refl
left_alone table time n u (UDisconnect i c) h = refl
left_alone table time n u (URelease i) h = refl
left_alone table time n u (UInfo i d) h = refl
left_alone table time n u (UTxDemand i) h = refl
left_alone table time n u (UTxCeased i) h = refl
left_alone table time n u (UCallRestore i a q) h = refl
left_alone table time n u (Stop k) h = rw h
left_alone table time n u (Start k o) h = rw h
left_alone table time n u (Configure p) h = refl
left_alone table time n u Cancel h = refl
left_alone table time n u (Place at) h = refl
left_alone table time n u (ChannelAnswer k v) h = refl
left_alone table time n u (SetupIndication i a d) h = refl
left_alone table time n u (SetupConfirm i g) h = refl
left_alone table time n u Proceed h = refl
left_alone table time n u Alert h = refl
left_alone table time n u (Complete g) h = refl
left_alone table time n u (ReleaseIndication c) h = refl
left_alone table time n u ReleaseConfirm h = refl
left_alone table time n u (TxIndication x) h = refl
left_alone table time n u (ModifyIndication d s) h = refl

all_alone : (table : List ℕ) (time n : ℕ) (u : Clocks) (ms : List Message) → ordered n ms ≡ false → noted_all table time u ms n ≡ u n
unfolding noted_all
all_alone table time n u [] h = refl
all_alone table time n u (m ∷ ms) h =
    all_alone table time n (noted table time u m) ms (or_second (orders_to n m) _ h) ∙ left_alone table time n u m (or_first (orders_to n m) _ h)

module _ (k : Kept) (h : Holds k) (n : ℕ) where
  abbrev Alone : Turn → Type 0
  Alone d = ordered n (written_by k.timed d) ≡ false

  same_stepped : (table : List ℕ) (time : ℕ) (event buffer : List ℕ) → Stepped k.timed table time event buffer → Alone (step table time event buffer)
      → (then k (step table time event buffer)).clocks n ≡ k.clocks n
  same_stepped table time event buffer r alone =
      let c = k.timed.call in
      let u = turn_of event buffer in
      let e = step_takes k h table time event buffer r in
      let quiet : ordered n (Steps.written_by c u) ≡ false = sym (ap (ordered n) (ap (λ (ts : List Steps.Turn). Steps.written_in c ts) r.steps ∙ writes_one c u)) ∙ alone in
      ap (λ (v : Clocks). v n) (clocks_made k (step table time event buffer) u e.0 r.steps e.1.0)
      ∙ all_alone table time n (lapse k.clocks e.0) (Steps.written_by c u) quiet
      ∙ ap (λ (v : Clocks). v n) (no_lapse k.clocks c.timers e.0 e.1.1).0

  after_lapse : (table : List ℕ) (time : ℕ) (buffer : List ℕ) (i : InReach k (due table time buffer)) (r : Lapsed k.timed table time buffer) → Alone (due table time buffer)
      → (then k (due table time buffer)).clocks n ≡ dropped (n₀ k h table time buffer i r) k.clocks n
  after_lapse table time buffer i r alone =
      let c = k.timed.call in
      let u = lapse_turn k.timed time buffer in
      let quiet : ordered n (Steps.written_by c u) ≡ false = sym (ap (ordered n) (ap (λ (ts : List Steps.Turn). Steps.written_in c ts) r.steps ∙ writes_one c u)) ∙ alone in
      ap (λ (v : Clocks). v n) (clocks_then k h table time buffer i r) ∙ all_alone table time n (dropped (n₀ k h table time buffer i r) k.clocks) (Steps.written_by c u) quiet

-- ---- what one due adds to the lists

abbrev expires_at : ℕ → Kept → List ℕ → ℕ → List ℕ → List ℕ
expires_at n k table time buffer =
    cond (is_taken k.timed (due table time buffer) && (eqb (outcome k.timed (due table time buffer)).place 1 && eqb (first_due k.timed (shown time)) n)) (time ∷ []) []

abbrev due_at : ℕ → Kept → List ℕ → ℕ → List ℕ → List ℕ
due_at n k table time buffer =
    cond (is_taken k.timed (due table time buffer) && not (eqb (outcome k.timed (due table time buffer)).place 1 && not (eqb (first_due k.timed (shown time)) n))) (time ∷ []) []

module _ (n : ℕ) (k : Kept) (table : List ℕ) (time : ℕ) (buffer : List ℕ) where
  refused_lists : {m place : ℕ} → Refused k.timed (due table time buffer) m place → (expires_at n k table time buffer ≡ []) × (due_at n k table time buffer ≡ [])
  unfolding is_taken
  refused_lists {m} r = rw (r.gives, ne_eqb m 0 r.number) (refl, refl)

  waited_lists : Waited k.timed table time buffer → (expires_at n k table time buffer ≡ []) × (due_at n k table time buffer ≡ time ∷ [])
  unfolding is_taken
  waited_lists r = rw r.gives (refl, refl)

  lapsed_lists : (b : Bool) → Lapsed k.timed table time buffer → eqb (first_due k.timed (shown time)) n ≡ b
      → (expires_at n k table time buffer ≡ cond b (time ∷ []) []) × (due_at n k table time buffer ≡ cond b (time ∷ []) [])
  unfolding is_taken
  lapsed_lists true r e = rw (r.gives, e) (refl, refl)
  lapsed_lists false r e = rw (r.gives, e) (refl, refl)

-- ---- a timer that does not run and is not started does not expire

silent_due : (k : Kept) (h : Holds k) (n : ℕ) → k.clocks n ≡ none → (table : List ℕ) (time : ℕ) (buffer : List ℕ) → InReach k (due table time buffer) → Did k.timed (due table time buffer)
    → ordered n (written_by k.timed (due table time buffer)) ≡ false
    → (expires_at n k table time buffer ≡ []) × ((then k (due table time buffer)).clocks n ≡ none)
silent_due k h n z table time buffer i (refused r) o = ((refused_lists n k table time buffer r).0, ap (λ (v : Clocks). v n) (clocks_refused k (due table time buffer) r) ∙ z)
silent_due k h n z table time buffer i (waited r) o = ((waited_lists n k table time buffer r).0, ap (λ (v : Clocks). v n) (clocks_waited k table time buffer r) ∙ z)
silent_due k h n z table time buffer i (lapsed r) o =
    let first = n₀ k h table time buffer i r in
    let other : eqb first n ≡ false = ne_eqb first n (λ e. none≢some (sym z ∙ ap k.clocks (sym e) ∙ (is_first k h table time buffer i r).runs)) in
    let same : eqb (first_due k.timed (shown time)) n ≡ false = ap (λ m. eqb m n) (first_number k h table time buffer i r) ∙ other in (
      (lapsed_lists n k table time buffer false r same).0,
      after_lapse k h n table time buffer i r o ∙ by_test (eqb n first) none (k.clocks n) (λ v. v ≡ none) (λ q. refl) (λ q. z),
    )

silent : (k : Kept) → Holds k → (n : ℕ) → k.clocks n ≡ none → (es : List Turn) → AllInReach k es → NotOrdered n k es → expiries n k es ≡ []
unfolding expiries
silent k h n z [] i o = refl
silent k h n z (step table time event buffer ∷ es) i o =
    let d = step table time event buffer in
    silent (then k d) (holds_then k h d i.0) n (keeps (did k.timed d)) es i.1 o.1
  where
    keeps : Did k.timed (step table time event buffer) → (then k (step table time event buffer)).clocks n ≡ none
    keeps (refused r) = ap (λ (v : Clocks). v n) (clocks_refused k (step table time event buffer) r) ∙ z
    keeps (stepped r) = same_stepped k h n table time event buffer r o.0 ∙ z
silent k h n z (due table time buffer ∷ es) i o =
    let d = due table time buffer in
    let now = silent_due k h n z table time buffer i.0 (did k.timed d) o.0 in
    rw now.0 (silent (then k d) (holds_then k h d i.0) n now.1 es i.1 o.1)

-- ---- one that runs

abbrev or_else : Begun → Option Begun → Begun
or_else a none = a
or_else a (some y) = y

some_same : {a b : Begun} → ◌≡◌ {A = Option Begun} (some a) (some b) → a ≡ b
some_same {a} {b} e = ap (or_else a) e

-- either it runs on, or it expires now
data Now (n : ℕ) (x : Begun) (k : Kept) (table : List ℕ) (time : ℕ) (buffer : List ℕ) : Type 0 where
  goes_on : (then k (due table time buffer)).clocks n ≡ some x → expires_at n k table time buffer ≡ [] → ((rest : List ℕ) → first_from (end x) (due_at n k table time buffer ++ rest) ≡ first_from (end x) rest)
      → Now n x k table time buffer
  expires : (then k (due table time buffer)).clocks n ≡ none → expires_at n k table time buffer ≡ time ∷ [] → ((rest : List ℕ) → first_from (end x) (due_at n k table time buffer ++ rest) ≡ time ∷ [])
      → Now n x k table time buffer

due_now : (k : Kept) (h : Holds k) (n : ℕ) (x : Begun) → k.clocks n ≡ some x → (table : List ℕ) (time : ℕ) (buffer : List ℕ) → InReach k (due table time buffer)
    → Did k.timed (due table time buffer) → ordered n (written_by k.timed (due table time buffer)) ≡ false → Now n x k table time buffer
due_now k h n x z table time buffer i (refused r) o =
    let lists = refused_lists n k table time buffer r in
    goes_on (ap (λ (v : Clocks). v n) (clocks_refused k (due table time buffer) r) ∙ z) lists.0 (λ rest. rw lists.1)
due_now k h n x z table time buffer i (waited r) o =
    let lists = waited_lists n k table time buffer r in
    let early = not_late time (k.clocks n) x z (none_due k h time i.not_earlier i.near r.none_due n) in
    goes_on (ap (λ (v : Clocks). v n) (clocks_waited k table time buffer r) ∙ z) lists.0 (λ rest. rw (lists.1, lt-leb (end x) time early))
due_now k h n x z table time buffer i (lapsed r) o =
    let first = n₀ k h table time buffer i r in
    let number = first_number k h table time buffer i r in
    let f = is_first k h table time buffer i r in
    decide (eqb first n)
    (λ e.
    let lists = lapsed_lists n k table time buffer true r (ap (λ m. eqb m n) number ∙ e) in
    let runs : k.clocks n ≡ some f.clock = ap k.clocks (sym (eqb-true first n e)) ∙ f.runs in
    let past : end x ≤ time = rw (some_same (sym z ∙ runs)) f.due in
    let gone : dropped first k.clocks n ≡ none = rw (eq-eqb n first (sym (eqb-true first n e))) in
    expires (after_lapse k h n table time buffer i r o ∙ gone) lists.0 (λ rest. rw (lists.1, le-leb (end x) time past)))
    (λ e.
    let lists = lapsed_lists n k table time buffer false r (ap (λ m. eqb m n) number ∙ e) in
    let stays : dropped first k.clocks n ≡ some x = rw (ne_eqb n first (λ q. eqb-false first n e (sym q))) z in
    goes_on (after_lapse k h n table time buffer i r o ∙ stays) lists.0 (λ rest. rw lists.1))

in_time : (k : Kept) → Holds k → (n : ℕ) (x : Begun) → k.clocks n ≡ some x → (es : List Turn) → AllInReach k es → NotOrdered n k es → expiries n k es ≡ first_from (end x) (dues n k es)
unfolding expiries dues
in_time k h n x z [] i o = refl
in_time k h n x z (step table time event buffer ∷ es) i o =
    let d = step table time event buffer in
    in_time (then k d) (holds_then k h d i.0) n x (keeps (did k.timed d)) es i.1 o.1
  where
    keeps : Did k.timed (step table time event buffer) → (then k (step table time event buffer)).clocks n ≡ some x
    keeps (refused r) = ap (λ (v : Clocks). v n) (clocks_refused k (step table time event buffer) r) ∙ z
    keeps (stepped r) = same_stepped k h n table time event buffer r o.0 ∙ z
in_time k h n x z (due table time buffer ∷ es) i o =
    by (due_now k h n x z table time buffer i.0 (did k.timed (due table time buffer)) o.0)
    (λ s. in_time (then k (due table time buffer)) (holds_then k h (due table time buffer) i.0) n x s es i.1 o.1)
  where
    by : Now n x k table time buffer
        → ((then k (due table time buffer)).clocks n ≡ some x → expiries n (then k (due table time buffer)) es ≡ first_from (end x) (dues n (then k (due table time buffer)) es))
        → expires_at n k table time buffer ++ expiries n (then k (due table time buffer)) es ≡ first_from (end x) (due_at n k table time buffer ++ dues n (then k (due table time buffer)) es)
    by (goes_on s e f) rest = rw (e, f (dues n (then k (due table time buffer)) es)) (rest s)
    by (expires s e f) rest =
        rw (e, f (dues n (then k (due table time buffer)) es), silent (then k (due table time buffer)) (holds_then k h (due table time buffer) i.0) n s es i.1 o.1)

pub on_time : OnTime
on_time time ds es n x all i runs o = in_time (after (made time) ds) (every_run time ds all) n x runs es i o
