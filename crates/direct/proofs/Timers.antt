-- The timers that run by the messages written and the expiries taken are those in the record; a STOP is of a running one; and what comes while
-- DT303 does not run is refused.
use Prim.Native.Nat.{ℕ, ◌+◌, ◌≤◌}
use mathlib.Core.Path.{◌≡◌, refl, sym, ◌∙◌, ap}
use mathlib.Core.Bool.{Bool, true, false, cond, not}
use mathlib.Core.List.{List, [], ◌∷◌}
use mathlib.Core.Option.{some}
use native.Mathlib.Omega.{arith}
use borrow.Author.Tests.{not-true, eqb-true}
use lib.Dec.{ltb, eqb}
use lib.ListN.{length}
use Rattle.records.proofs.Laws.{both}
use Rattle.records.specs.Bodies.{flat_size}
use Rattle.records.specs.Tables.{taken, read}
use Rattle.direct.specs.declared.events.Event.{Event}
use Rattle.direct.specs.declared.events.Event.TheVariants.{SetupRequest, DmaReport, DmConnect, DmDisconnect, Expiry}
use Rattle.direct.specs.declared.call.State.{State}
use Rattle.direct.specs.declared.call.Call.{Call}
use Rattle.direct.specs.Events.{events}
use Rattle.direct.specs.Messages.{message_size, sizes_of}
use Rattle.direct.specs.Call.{fresh_call, state_number, in_limits, sound}
use Rattle.direct.specs.Draft.{Draft, messages_in, no_row}
use Rattle.direct.specs.Rows.{asked, awaited, given_up, connected, released, again, exhausted, acceptable, reporting, waiting, row_for}
use Rattle.direct.specs.Step.{refusal, beyond}
use Rattle.direct.specs.Runs.{Turn, outcome, next, run, taken_by, written_by, is_check, is_answer, is_stop, count, log_in, note_message, note_messages, note_taken, note_log, runs_by}
use Rattle.direct.specs.Demands.{Kept, TimersByMessages, NoneInIdle, StopsRunning, is_late, Late, DueExpiry, DueAnswer, DueReport, ReportElsewhere}
use Rattle.direct.proofs.Situations.{sound_in_lem, row_in, row_waiting, row_reporting}
use Rattle.direct.proofs.Turns.{apart, Turned, passed, took, turned, no_row_lem, taking, Which, asks, awaits, gives_up_lem, connects, rejects, disconnects, retries, exhausts, row_of}
use Rattle.direct.proofs.Kept.{fresh_kept, reached, turn_keeps, check_311, idle_fresh, idle_is, check_is}

-- ---- one turn

-- what a turn's expiry and messages leave of a timer
abbrev noted : ℕ → Bool → Event → Draft → Bool
noted n b e d = note_messages n (note_taken n b (some e)) (messages_in d)

module _ (c : Call) (k : Kept c) where
  row_303 : (e : Event) (d : Draft) → Which c e d → noted 303 c.dt303 e d ≡ d.call.dt303
  unfolding note_message note_messages asked awaited given_up connected released again exhausted
  row_303 e d (asks s) = refl
  row_303 e d (awaits s run v) = refl
  row_303 e d (gives_up_lem s run) = run
  row_303 e d (connects s run w) = refl
  row_303 e d (rejects s run w) = refl
  row_303 e d (disconnects s run) = refl
  row_303 e d (retries s run n more) = rw n
  row_303 e d (exhausts s run n more) = rw n

  row_311 : (e : Event) (d : Draft) → Which c e d → noted 311 c.dt311 e d ≡ d.call.dt311
  unfolding note_message note_messages asked awaited given_up connected released again exhausted
  row_311 e d (asks s) = refl
  row_311 e d (awaits s run v) = refl
  row_311 e d (gives_up_lem s run) = check_311 c k.meets s
  row_311 e d (connects s run w) = refl
  row_311 e d (rejects s run w) = check_311 c k.meets s
  row_311 e d (disconnects s run) = check_311 c k.meets s
  row_311 e d (retries s run n more) = rw n
  row_311 e d (exhausts s run n more) = rw n (check_311 c k.meets s)

-- ---- a run

module _ (n : ℕ) (flag : Call → Bool) (row : (c : Call) → Kept c → (e : Event) (d : Draft) → Which c e d → noted n (flag c) e d ≡ flag d.call) where
  turn_noted : (c : Call) (t : Turn) → Kept c → note_messages n (note_taken n (flag c) (taken_by c t)) (written_by c t) ≡ flag (next c t)
  unfolding note_messages
  turn_noted c t k = by (turned c t)
    where
      by : Turned c t → note_messages n (note_taken n (flag c) (taken_by c t)) (written_by c t) ≡ flag (next c t)
      by (passed p) = rw (p.takes, p.writes, p.leaves)
      by (took e a) = rw (a.takes, a.writes, a.leaves) (row c k e (row_for c e) (row_of a))

  run_noted : (c : Call) (ts : List Turn) → Kept c → note_log n (flag c) (log_in c ts) ≡ flag (run c ts)
  unfolding note_log log_in run
  run_noted c [] k = refl
  run_noted c (t ∷ ts) k = ap (λ (b : Bool). note_log n b (log_in (next c t) ts)) (turn_noted c t k) ∙ run_noted (next c t) ts (turn_keeps c t k)

pub timers_by_messages : TimersByMessages
unfolding runs_by
timers_by_messages ts =
    (run_noted 303 (λ c. c.dt303) row_303 fresh_call ts fresh_kept, run_noted 311 (λ c. c.dt311) row_311 fresh_call ts fresh_kept)

pub none_in_idle : NoneInIdle
none_in_idle ts h =
    let fresh : run fresh_call ts ≡ fresh_call = idle_fresh _ (reached ts).meets (idle_is (run fresh_call ts) h) in
    ((timers_by_messages ts).0 ∙ ap (λ (c : Call). c.dt303) fresh, (timers_by_messages ts).1 ∙ ap (λ (c : Call). c.dt311) fresh)

-- ---- STOP

stopped : (c : Call) (n : ℕ) → c.dt303 ≡ true → (n ≡ 303 → c.dt303 ≡ false) → eqb 303 n ≡ false
stopped c n run off = by (eqb 303 n) refl
  where
    by : (b : Bool) → eqb 303 n ≡ b → eqb 303 n ≡ false
    by true h = apart run (off (sym (eqb-true 303 n h)))
    by false h = h

-- a row with a STOP is one of a running DT303
row_stops : (c : Call) (n : ℕ) (e : Event) (d : Draft) → Which c e d → (n ≡ 303 → c.dt303 ≡ false) → count (is_stop n) (messages_in d) ≡ 0
unfolding count asked awaited given_up connected released again exhausted
row_stops c n e d (asks s) off = refl
row_stops c n e d (awaits s run v) off = refl
row_stops c n e d (gives_up_lem s run) off = refl
row_stops c n e d (connects s run w) off = rw (stopped c n run off)
row_stops c n e d (rejects s run w) off = rw (stopped c n run off)
row_stops c n e d (disconnects s run) off = rw (stopped c n run off)
row_stops c n e d (retries s run m more) off = refl
row_stops c n e d (exhausts s run m more) off = refl

pub stops_running : StopsRunning
unfolding count
stops_running ts t n off = by (turned (run fresh_call ts) t)
  where
    off_303 : n ≡ 303 → (run fresh_call ts).dt303 ≡ false
    off_303 e = sym (timers_by_messages ts).0 ∙ (rw e at off)

    by : Turned (run fresh_call ts) t → count (is_stop n) (written_by (run fresh_call ts) t) ≡ 0
    by (passed p) = rw p.writes
    by (took e a) = rw a.writes (row_stops (run fresh_call ts) n e _ (row_of a) off_303)

-- ---- late and due

-- where DT303 does not run there is no row for an answer or an expiry, and where it runs none for a report
late_row : (c : Call) (e : Event) (s : State) → is_late e c.dt303 ≡ true → (b : Bool) → c.dt303 ≡ b → sound c ≡ true → c.state ≡ s → (row_for c e).taken ≡ false
late_row c (SetupRequest t l m) s h b d ok st = apart h refl
late_row c (DmaReport v) State.Idle h b d ok st = ap (λ (x : Draft). x.taken) (row_in c (DmaReport v) State.Idle st)
late_row c (DmaReport v) State.PresenceCheck h b d ok st = ap (λ (x : Draft). x.taken) (row_waiting c (DmaReport v) st h)
late_row c (DmaReport v) State.Active h b d ok st = ap (λ (x : Draft). x.taken) (row_in c (DmaReport v) State.Active st)
late_row c (DmConnect g) State.Idle h b d ok st = ap (λ (x : Draft). x.taken) (row_in c (DmConnect g) State.Idle st)
late_row c (DmConnect g) State.PresenceCheck h true d ok st = apart (rw d at h) refl
late_row c (DmConnect g) State.PresenceCheck h false d ok st = ap (λ (x : Draft). x.taken) (row_reporting c (DmConnect g) st d)
late_row c (DmConnect g) State.Active h b d ok st = ap (λ (x : Draft). x.taken) (row_in c (DmConnect g) State.Active st)
late_row c DmDisconnect State.Idle h b d ok st = ap (λ (x : Draft). x.taken) (row_in c DmDisconnect State.Idle st)
late_row c DmDisconnect State.PresenceCheck h true d ok st = apart (rw d at h) refl
late_row c DmDisconnect State.PresenceCheck h false d ok st = ap (λ (x : Draft). x.taken) (row_reporting c DmDisconnect st d)
late_row c DmDisconnect State.Active h b d ok st = ap (λ (x : Draft). x.taken) (row_in c DmDisconnect State.Active st)
late_row c (Expiry n) State.Idle h b d ok st = ap (λ (x : Draft). x.taken) (row_in c (Expiry n) State.Idle st)
late_row c (Expiry n) State.PresenceCheck h false d ok st = ap (λ (x : Draft). x.taken) (row_reporting c (Expiry n) st d)
late_row c (Expiry n) State.PresenceCheck h true d ok st = ap (λ (x : Draft). x.taken) (row_waiting c (Expiry n) st d) ∙ by (eqb n 303) (rw d at h)
  where
    by : (x : Bool) → not x ≡ true → (cond x (cond (ltb c.used c.limit) (again (c.used + 1) c) (exhausted c)) (no_row c)).taken ≡ false
    by true y = apart y refl
    by false y = refl
late_row c (Expiry n) State.Active h b d ok st = ap (λ (x : Draft). x.taken) (row_in c (Expiry n) State.Active st)

late_within : (e : Event) (b : Bool) → is_late e b ≡ true → beyond e ≡ false
late_within (SetupRequest t l m) b h = apart h refl
late_within (DmaReport v) b h = refl
late_within (DmConnect g) b h = refl
late_within DmDisconnect b h = refl
late_within (Expiry n) b h = refl

pub late : Late
late ts t e reads h =
    let c = run fresh_call ts in
    let held : is_late e c.dt303 ≡ true = rw (timers_by_messages ts).0 at h in
    no_row_lem c t e (reached ts).meets reads (late_within e _ held) (late_row c e c.state held c.dt303 refl (reached ts).meets refl)

-- DT303 runs only in PRESENCE CHECK
runs_in_check : (c : Call) → sound c ≡ true → c.dt303 ≡ true → c.state ≡ State.PresenceCheck
runs_in_check c ok run = by c.state refl
  where
    by : (s : State) → c.state ≡ s → c.state ≡ State.PresenceCheck
    by State.Idle st = apart run (ap (λ (x : Call). x.dt303) (idle_fresh c ok st))
    by State.PresenceCheck st = st
    by State.Active st = apart run (not-true _ (both (in_limits c) _ (both _ c.dt311 (sym (sound_in_lem c State.Active st) ∙ ok)).0).1)

module _ (c : Call) (t : Turn) (ok : sound c ≡ true) (run : c.dt303 ≡ true) where
  due_row : (e : Event) {d : Draft} → read events t.event ≡ taken e → beyond e ≡ false → waiting c e ≡ d → d.taken ≡ true → sizes_of (messages_in d) ≤ length t.buffer → taken_by c t ≡ some e
  due_row e reads within is row room =
      let same = row_waiting c e (runs_in_check c ok run) run ∙ is in
      taking c t e ok reads within (ap (λ (x : Draft). x.taken) same ∙ row) (rw same room)

  pub due_303 : read events t.event ≡ taken (Expiry 303) → 10 ≤ length t.buffer → taken_by c t ≡ some (Expiry 303)
  unfolding again exhausted sizes_of message_size flat_size
  due_303 reads room = by (ltb c.used c.limit) refl
    where
      by : (b : Bool) → ltb c.used c.limit ≡ b → taken_by c t ≡ some (Expiry 303)
      by true h = due_row (Expiry 303) {d = again (c.used + 1) c} reads refl (rw h) refl room
      by false h = due_row (Expiry 303) {d = exhausted c} reads refl (rw h) refl (omega arith)

  due_answer : (e : Event) → read events t.event ≡ taken e → is_answer e ≡ true → 27 ≤ length t.buffer → taken_by c t ≡ some e
  unfolding connected released sizes_of message_size flat_size
  due_answer (SetupRequest x l m) reads a room = apart a refl
  due_answer (DmaReport v) reads a room = apart a refl
  due_answer (DmConnect g) reads a room = by (acceptable c g) refl
    where
      by : (b : Bool) → acceptable c g ≡ b → taken_by c t ≡ some (DmConnect g)
      by true h = due_row (DmConnect g) {d = connected g c} reads refl (rw h) refl room
      by false h = due_row (DmConnect g) {d = released c} reads refl (rw h) refl (omega arith)
  due_answer DmDisconnect reads a room = due_row DmDisconnect {d = released c} reads refl refl refl (omega arith)
  due_answer (Expiry n) reads a room = apart a refl

pub due_expiry : DueExpiry
due_expiry ts t reads runs room = due_303 (run fresh_call ts) t (reached ts).meets (sym (timers_by_messages ts).0 ∙ runs) reads room

pub due_answers : DueAnswer
due_answers ts t e reads a runs room = due_answer (run fresh_call ts) t (reached ts).meets (sym (timers_by_messages ts).0 ∙ runs) e reads a room

module _ (c : Call) (t : Turn) (ok : sound c ≡ true) (v : ℕ) (reads : read events t.event ≡ taken (DmaReport v)) where
  report_row : {d : Draft} → c.state ≡ State.PresenceCheck → c.dt303 ≡ false → reporting c (DmaReport v) ≡ d → d.taken ≡ true → sizes_of (messages_in d) ≤ length t.buffer → taken_by c t ≡ some (DmaReport v)
  report_row here off is row room =
      let same = row_reporting c (DmaReport v) here off ∙ is in
      taking c t (DmaReport v) ok reads refl (ap (λ (x : Draft). x.taken) same ∙ row) (rw same room)

  report_taken : c.state ≡ State.PresenceCheck → c.dt303 ≡ false → 6 ≤ length t.buffer → taken_by c t ≡ some (DmaReport v)
  unfolding awaited given_up sizes_of message_size flat_size
  report_taken here off room = by (eqb v 0) refl
    where
      by : (b : Bool) → eqb v 0 ≡ b → taken_by c t ≡ some (DmaReport v)
      by true h = report_row {d = awaited c} here off (rw h) refl room
      by false h = report_row {d = given_up c} here off (rw h) refl (omega arith)

  report_refused : is_check c ≡ false → outcome c t ≡ refusal 61 c t.buffer
  report_refused elsewhere = no_row_lem c t (DmaReport v) ok reads refl (by c.state refl)
    where
      by : (s : State) → c.state ≡ s → (row_for c (DmaReport v)).taken ≡ false
      by State.Idle st = ap (λ (x : Draft). x.taken) (row_in c (DmaReport v) State.Idle st)
      by State.PresenceCheck st = apart (ap (λ (x : State). eqb (state_number x) 1) st) elsewhere
      by State.Active st = ap (λ (x : Draft). x.taken) (row_in c (DmaReport v) State.Active st)

pub due_report : DueReport
due_report ts t v reads here off room =
    report_taken (run fresh_call ts) t (reached ts).meets v reads (check_is (run fresh_call ts) here) (sym (timers_by_messages ts).0 ∙ off) room

pub report_elsewhere : ReportElsewhere
report_elsewhere ts t v reads elsewhere = report_refused (run fresh_call ts) t (reached ts).meets v reads elsewhere
