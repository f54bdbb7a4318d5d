-- The bank of a set holds what the counter shows of the timers in true time, over every run in reach: kept by every turn.
use Prim.Native.Nat.{ℕ, ◌<◌, ◌≤◌}
use mathlib.Core.Path.{◌≡◌, refl, sym, ◌∙◌}
use mathlib.Core.Bool.{Bool, true, false, cond}
use mathlib.Core.List.{List, [], ◌∷◌, append-nil}
use mathlib.Core.Option.{some}
use native.Mathlib.Omega.{arith}
use borrow.Author.Tests.{eqb-true, eqb-false, ne_eqb, lt-ltb}
use lib.Dec.{eqb, lit<}
use lib.ListN.{get_or}
use Rattle.records.specs.declared.events.Event.{Event}
use Rattle.records.specs.declared.events.Event.TheVariants.{SetupRequest, SetupResponse, ReleaseRequest, TxRequest, DCallProceeding, DAlert, DConnect, DConnectAcknowledge, DSetup, DInfo, DTxGranted, DTxCeased, DTxInterrupt, DTxWait, DTxContinue, DCallRestore, DDisconnect, DRelease, ReportSent, ReportFailed, Break, Resume, Expiry}
use Rattle.records.specs.declared.messages.Message.{Message}
use Rattle.records.specs.declared.messages.Message.TheVariants.{USetup, UConnect, UDisconnect, URelease, UInfo, UTxDemand, UTxCeased, UCallRestore, Stop, Start, Configure, Cancel, Place, ChannelAnswer, SetupIndication, SetupConfirm, Proceed, Alert, Complete, ReleaseIndication, ReleaseConfirm, TxIndication, ModifyIndication}
use Rattle.records.specs.Tables.{flat, fine, read, taken}
use Rattle.records.specs.Events.{events}
use Rattle.records.specs.Messages.{messages}
use Rattle.timers.specs.declared.bank.Bank.{Bank}
use Rattle.timers.specs.Wrap.{shown}
use Rattle.timers.specs.Due.{numbers}
use Rattle.timers.specs.Bank.{new_bank, index_of, length_in, with, started, advanced_to, keys_at, handed_at}
use Rattle.timers.proofs.Indices.{by_index}
use Rattle.callcontrol.specs.declared.call.Call.{Call}
use Rattle.demands.specs.Runs as Steps
use Rattle.demands.specs.Runs.{every?}
use Rattle.demands.specs.Clocks as Clocks
use Rattle.demands.specs.Clocks.{note_message, note_messages, note_expiry, note_taken}
use Rattle.demands.specs.Demands.{limits}
use Rattle.demands.proofs.Facts.{apart, left, right}
use Rattle.demands.proofs.Demands.{zero_is_taken, taken_gives, step_in_range, starts_with_limit}
use Rattle.timed.specs.declared.set.Timed.{Timed}
use Rattle.timed.specs.Set.{table_right, due_at, first_due, started_by, started_all, with_flags, held_at, turned}
use Rattle.timed.specs.Entries.{turn_of, expiry_of}
use Rattle.timed.specs.Times.{Clocks, is_due, dropped, noted, noted_all, First}
use Rattle.timed.specs.Runs.{Turn, step, due, time_of, table_of, is_taken, next, run, steps_by, taken_by, written_by, lapse, lapses, Kept, made, then, after, Near, InReach, AllInReach}
use Rattle.timed.proofs.Ranges.{timer_index, stop_timer, start_timer, start_long}
use Rattle.timed.proofs.Ledger.{Shows, shows_stop, shows_start, shows_at, first_is, none_due_is}
use Rattle.timed.proofs.Turns.{Did, Refused, Waited, Stepped, Lapsed, refused, waited, stepped, lapsed, did, next_is, lapse_turn}
use Rattle.timed.proofs.Together.{Joined, joined_next, call_next}
use Rattle.timed.proofs.Reach.{Reach, reach_more, kept, tracked, reads_expiry}
use Rattle.timed.proofs.Keys.{head_handed}

-- ---- one message, and all of a step's

module _ (table : List ℕ) (right-table : table_right table ≡ true) (time : ℕ) where
  started_is : (b : Bank) (n o : ℕ) → index_of n < 7 → 1 ≤ length_in table n o → (started b table n o).bank ≡ with b (index_of n) (length_in table n o)
  unfolding started
  started_is b n o k l = rw (lt-ltb (index_of n) 7 k, ne_eqb (length_in table n o) 0 (λ e. omega (arith, e, l)))

  shows_message : (f : List Bool) (b : Bank) (u : Clocks) (m : Message) → fine messages m ≡ true → limits m ≡ true → Shows (with_flags f b) time u
      → Shows (with_flags (note_message f m) (started_by table b m)) time (noted table time u m)
  unfolding note_message started_by noted
  shows_message f b u (USetup a d q s) ok l h = h
  shows_message f b u (UConnect i) ok l h = h
  shows_message f b u (UDisconnect i c) ok l h = h
  shows_message f b u (URelease i) ok l h = h
  shows_message f b u (UInfo i d) ok l h = h
  shows_message f b u (UTxDemand i) ok l h = h
  shows_message f b u (UTxCeased i) ok l h = h
  shows_message f b u (UCallRestore i a q) ok l h = h
  shows_message f b u (Stop n) ok l h =
      let at = timer_index n (stop_timer n ok) in
      rw at.1 (shows_stop (with_flags f b) time u h n at.0)
  shows_message f b u (Start n o) ok l h =
      let at = timer_index n (start_timer n o ok) in
      rw (at.1, started_is b n o at.0 (start_long table right-table n o ok l)) (shows_start (with_flags f b) time u h table n o at.0)
  shows_message f b u (Configure p) ok l h = h
  shows_message f b u Cancel ok l h = h
  shows_message f b u (Place at) ok l h = h
  shows_message f b u (ChannelAnswer n v) ok l h = h
  shows_message f b u (SetupIndication i a d) ok l h = h
  shows_message f b u (SetupConfirm i g) ok l h = h
  shows_message f b u Proceed ok l h = h
  shows_message f b u Alert ok l h = h
  shows_message f b u (Complete g) ok l h = h
  shows_message f b u (ReleaseIndication c) ok l h = h
  shows_message f b u ReleaseConfirm ok l h = h
  shows_message f b u (TxIndication x) ok l h = h
  shows_message f b u (ModifyIndication d s) ok l h = h

  shows_messages : (f : List Bool) (b : Bank) (u : Clocks) (ms : List Message) → every? (λ m. fine messages m) ms ≡ true → every? limits ms ≡ true
      → Shows (with_flags f b) time u → Shows (with_flags (note_messages f ms) (started_all table b ms)) time (noted_all table time u ms)
  unfolding note_messages started_all noted_all
  shows_messages f b u [] ok l h = h
  shows_messages f b u (m ∷ ms) ok l h =
      shows_messages (note_message f m) (started_by table b m) (noted table time u m) ms (right (fine messages m) _ ok) (right (limits m) _ l)
      (shows_message f b u m (left _ (every? (λ m. fine messages m) ms) ok) (left _ (every? limits ms) l) h)

-- ---- what a step writes

pub limits_at : (c : Call) (u : Steps.Turn) → every? limits (Steps.written_by c u) ≡ true
unfolding Steps.written_in
limits_at c u = rw append-nil at (starts_with_limit c (u ∷ []))

-- an event that is no expiry stops no timer by itself
pub no_lapse : (u : Clocks) (f : List Bool) (e : Event) → eqb (flat events e).kind 0x0401 ≡ false → (lapse u e ≡ u) × (note_expiry f e ≡ f)
unfolding note_expiry
no_lapse u f (SetupRequest a d q s) z = (refl, refl)
no_lapse u f SetupResponse z = (refl, refl)
no_lapse u f ReleaseRequest z = (refl, refl)
no_lapse u f (TxRequest k) z = (refl, refl)
no_lapse u f (DCallProceeding i) z = (refl, refl)
no_lapse u f (DAlert i) z = (refl, refl)
no_lapse u f (DConnect i g d o s) z = (refl, refl)
no_lapse u f (DConnectAcknowledge i g o) z = (refl, refl)
no_lapse u f (DSetup i a d) z = (refl, refl)
no_lapse u f (DInfo i r o d s) z = (refl, refl)
no_lapse u f (DTxGranted i g) z = (refl, refl)
no_lapse u f (DTxCeased i) z = (refl, refl)
no_lapse u f (DTxInterrupt i g) z = (refl, refl)
no_lapse u f (DTxWait i) z = (refl, refl)
no_lapse u f (DTxContinue i k) z = (refl, refl)
no_lapse u f (DCallRestore i g r o) z = (refl, refl)
no_lapse u f (DDisconnect i) z = (refl, refl)
no_lapse u f (DRelease i) z = (refl, refl)
no_lapse u f ReportSent z = (refl, refl)
no_lapse u f ReportFailed z = (refl, refl)
no_lapse u f Break z = (refl, refl)
no_lapse u f Resume z = (refl, refl)
no_lapse u f (Expiry n) z = apart refl z

-- a turn of the step that takes an event, and what it takes and writes in a list
pub takes_one : (c : Call) (u : Steps.Turn) (e : Event) → Steps.taken_by c u ≡ some e → Steps.taken_in c (u ∷ []) ≡ e ∷ []
unfolding Steps.taken_in
takes_one c u e h = rw h

pub writes_one : (c : Call) (u : Steps.Turn) → Steps.written_in c (u ∷ []) ≡ Steps.written_by c u
unfolding Steps.written_in
writes_one c u = append-nil (Steps.written_by c u)

-- the seven by their indices
at_index : (p : ℕ) → p < 7 → (index_of (get_or numbers p 0) < 7) × (Clocks.index_of (get_or numbers p 0) ≡ index_of (get_or numbers p 0))
unfolding index_of Clocks.index_of
at_index =
    by_index (λ p. (index_of (get_or numbers p 0) < 7) × (Clocks.index_of (get_or numbers p 0) ≡ index_of (get_or numbers p 0))) (lit< tt, refl) (lit< tt, refl) (lit< tt, refl) (lit< tt, refl)
    (lit< tt, refl) (lit< tt, refl) (lit< tt, refl)

-- ---- the invariant

pub record Holds (k : Kept) : Type 0 where
  pub reach : Reach k.timed.call
  pub joined : Joined k.timed
  pub shows : Shows k.timed.bank k.last k.clocks

pub holds_made : (time : ℕ) → Holds (made time)
unfolding made new_bank Steps.run
holds_made time =
    record {
      reach = record { turns = []; is = refl };
      joined = refl;
      shows =
          record {
            at = refl;
            timers =
                by_index (λ p. get_or (false ∷ false ∷ false ∷ false ∷ false ∷ false ∷ false ∷ []) p false ≡ false) refl refl refl refl refl refl refl;
            others = λ n k. refl;
            sevens = (refl, refl);
          };
    }

-- a turn of the step, from the timers that run when it is made
turn_shows : (c : Call) → Reach c → (u : Steps.Turn) (e : Event) → Steps.taken_by c u ≡ some e → (table : List ℕ) → table_right table ≡ true → (time : ℕ) (b : Bank) (w : Clocks)
    → Shows (with_flags (note_expiry c.timers e) b) time w
    → Shows (with_flags (Steps.next c u).timers (started_all table b (Steps.written_by c u))) time (noted_all table time w (Steps.written_in c (u ∷ [])))
turn_shows c r u e takes table ok time b w h =
    let flags : note_messages (note_expiry c.timers e) (Steps.written_by c u) ≡ (Steps.next c u).timers = rw takes at (tracked c r u) in
    rw (sym flags, writes_one c u)
    (shows_messages table ok time (note_expiry c.timers e) b w (Steps.written_by c u) (step_in_range c u (kept c r)) (limits_at c u) h)

module _ (k : Kept) (h : Holds k) where
  abbrev t : Timed
  t = k.timed

  -- the first of those due, in true time
  pub lapse_first : (table : List ℕ) (time : ℕ) (buffer : List ℕ) → InReach k (due table time buffer) → Lapsed t table time buffer
      → (p : ℕ) × ((p < 7) × (first_due t (shown time) ≡ get_or numbers p 0) × First k.clocks time (get_or numbers p 0))
  unfolding handed_at
  lapse_first table time buffer i r =
      let any = eqb-false (due_at t (shown time)) 0 r.some_due in
      let f = first_is t.bank k.last k.clocks h.shows time i.not_earlier i.near any in
      (f.0, (f.1.0, head_handed (due_at t (shown time)) 34359738368 (keys_at t.bank (shown time)) any ∙ f.1.1, f.1.2))

  pub none_due : (time : ℕ) → k.last ≤ time → ((n : ℕ) → Near time (k.clocks n)) → eqb (due_at t (shown time)) 0 ≡ true → (n : ℕ) → is_due time (k.clocks n) ≡ false
  none_due time a near z = none_due_is t.bank k.last k.clocks h.shows time a near (eqb-true (due_at t (shown time)) 0 z)

  -- what a turn takes
  pub step_takes : (table : List ℕ) (time : ℕ) (event buffer : List ℕ) → Stepped t table time event buffer
      → (e : Event) × ((Steps.taken_by t.call (turn_of event buffer) ≡ some e) × (eqb (flat events e).kind 0x0401 ≡ false))
  step_takes table time event buffer r =
      let e = zero_is_taken t.call (turn_of event buffer) r.taken in
      let g = taken_gives t.call (turn_of event buffer) e.0 e.1 in
      (e.0, (e.1, rw g.0 at r.no_expiry))

  pub lapse_takes : (table : List ℕ) (time : ℕ) (buffer : List ℕ) → Lapsed t table time buffer → (p : ℕ) → p < 7 → first_due t (shown time) ≡ get_or numbers p 0
      → Steps.taken_by t.call (lapse_turn t time buffer) ≡ some (Expiry (get_or numbers p 0))
  unfolding Steps.taken_by
  lapse_takes table time buffer r p l is =
      let reads : read events (expiry_of (first_due t (shown time))) ≡ taken (Expiry (get_or numbers p 0)) = rw is (reads_expiry p l) in
      rw (r.taken, reads)

  held : (time : ℕ) → k.last ≤ time → Shows (with_flags t.call.timers (advanced_to t.bank (shown time))) time k.clocks
  held time a = shows_at t.bank k.last time k.clocks t.call.timers h.joined a h.shows

  shows_idle : (d : Turn) {n place : ℕ} → Refused t d n place
      → Shows (next t d).bank (cond (is_taken t d) (time_of d) k.last) (noted_all (table_of d) (time_of d) (lapses k.clocks (taken_by t d)) (written_by t d))
  unfolding is_taken Steps.taken_in Steps.written_in noted_all
  shows_idle d {n} r = rw (next_is t d r.gives, r.gives, ne_eqb n 0 r.number, r.steps) h.shows

  shows_waited : (table : List ℕ) (time : ℕ) (buffer : List ℕ) → k.last ≤ time → Waited t table time buffer
      → Shows (next t (due table time buffer)).bank (cond (is_taken t (due table time buffer)) time k.last)
      (noted_all table time (lapses k.clocks (taken_by t (due table time buffer))) (written_by t (due table time buffer)))
  unfolding is_taken Steps.taken_in Steps.written_in noted_all held_at
  shows_waited table time buffer a r = rw (next_is t (due table time buffer) r.gives, r.gives, r.steps) (held time a)

  shows_stepped : (table : List ℕ) (time : ℕ) (event buffer : List ℕ) → k.last ≤ time → Stepped t table time event buffer
      → Shows (next t (step table time event buffer)).bank (cond (is_taken t (step table time event buffer)) time k.last)
      (noted_all table time (lapses k.clocks (taken_by t (step table time event buffer))) (written_by t (step table time event buffer)))
  unfolding is_taken turned
  shows_stepped table time event buffer a r =
      let e = step_takes table time event buffer r in
      let plain = no_lapse k.clocks t.call.timers e.0 e.1.1 in
      let u = turn_of event buffer in
      rw (next_is t (step table time event buffer) r.gives, r.gives, r.steps, takes_one t.call u e.0 e.1.0, plain.0)
      (turn_shows t.call h.reach u e.0 e.1.0 table r.ready.right time (advanced_to t.bank (shown time)) k.clocks (rw plain.1 (held time a)))

  shows_lapsed : (table : List ℕ) (time : ℕ) (buffer : List ℕ) → InReach k (due table time buffer) → Lapsed t table time buffer
      → Shows (next t (due table time buffer)).bank (cond (is_taken t (due table time buffer)) time k.last)
      (noted_all table time (lapses k.clocks (taken_by t (due table time buffer))) (written_by t (due table time buffer)))
  unfolding is_taken turned note_expiry
  shows_lapsed table time buffer i r =
      let f = lapse_first table time buffer i r in
      let p = f.0 in
      let n = get_or numbers p 0 in
      let takes = lapse_takes table time buffer r p f.1.0 f.1.1 in
      let u = lapse_turn t time buffer in
      let at = at_index p f.1.0 in
      rw (next_is t (due table time buffer) r.gives, r.gives, r.steps, takes_one t.call u (Expiry n) takes)
      (turn_shows t.call h.reach u (Expiry n) takes table r.ready.right time (advanced_to t.bank (shown time)) (dropped n k.clocks)
      (rw at.1 (shows_stop (with_flags t.call.timers (advanced_to t.bank (shown time))) time k.clocks (held time i.not_earlier) n at.0)))

  shows_then : {d : Turn} → Did t d → InReach k d
      → Shows (next t d).bank (cond (is_taken t d) (time_of d) k.last) (noted_all (table_of d) (time_of d) (lapses k.clocks (taken_by t d)) (written_by t d))
  shows_then (refused {d} r) i = shows_idle d r
  shows_then (waited {table} {time} {buffer} r) i = shows_waited table time buffer i.not_earlier r
  shows_then (stepped {table} {time} {event} {buffer} r) i = shows_stepped table time event buffer i.not_earlier r
  shows_then (lapsed {table} {time} {buffer} r) i = shows_lapsed table time buffer i r

  pub holds_then : (d : Turn) → InReach k d → Holds (then k d)
  unfolding then
  holds_then d i =
      record {
        reach = rw (call_next t d) (reach_more t.call h.reach (steps_by t d));
        joined = joined_next t d h.joined;
        shows = shows_then (did t d) i;
      }

pub holds_after : (k : Kept) → Holds k → (ds : List Turn) → AllInReach k ds → Holds (after k ds)
unfolding after
holds_after k h [] i = h
holds_after k h (d ∷ ds) i = holds_after (then k d) (holds_then k h d i.0) ds i.1

pub every_run : (time : ℕ) (ds : List Turn) → AllInReach (made time) ds → Holds (after (made time) ds)
every_run time ds i = holds_after (made time) (holds_made time) ds i

-- the set of a run in true time is the set of the run
pub timed_after : (k : Kept) (ds : List Turn) → (after k ds).timed ≡ run k.timed ds
unfolding after run then
timed_after k [] = refl
timed_after k (d ∷ ds) = timed_after (then k d) ds
