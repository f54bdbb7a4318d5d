-- In a reached record an expiry has a row exactly where its timer runs. So a late expiry is refused with 6, a due one is taken where 32 bytes are
-- lent, and a RELEASE request followed by an expiry of T308 leaves the fresh record.
use Prim.Native.Nat.{ℕ, ◌≤◌}
use mathlib.Core.Path.{◌≡◌, refl, sym, ◌∙◌, ap}
use mathlib.Core.Bool.{Bool, true, false, cond, not, ◌&&◌, ◌||◌}
use mathlib.Core.List.{List, [], ◌∷◌}
use mathlib.Core.Option.{some}
use native.Mathlib.Omega.{arith}
use borrow.Author.Tests.{eqb-true, le-leb}
use lib.Dec.{leb, eqb}
use lib.ListN.{length, get_or}
use Rattle.records.specs.declared.events.Event.{Event}
use Rattle.records.specs.declared.events.Event.TheVariants.{ReleaseRequest, Expiry}
use Rattle.records.specs.Letters.{is_timer}
use Rattle.records.specs.Bodies.{flat_fits, all_fit}
use Rattle.records.specs.Tables.{taken, read, fine}
use Rattle.records.specs.Events.{events}
use Rattle.callcontrol.specs.declared.call.State.{State}
use Rattle.callcontrol.specs.declared.call.Path.{Path}
use Rattle.callcontrol.specs.declared.call.Call.{Call}
use Rattle.callcontrol.specs.Draft.{Draft, no_row}
use Rattle.callcontrol.specs.Call.{fresh_call, runs, T301, T302, T303, T306, T308, T310, T311}
use Rattle.callcontrol.specs.Rows
use Rattle.callcontrol.specs.Rows.{row_for}
use Rattle.callcontrol.specs.Writing.{messages_in, bytes_of}
use Rattle.callcontrol.specs.Step.{Outcome, refusal, other_call, over_transmission, carried, decided, step_of}
use Rattle.callcontrol.proofs.Verbs.{verbs}
use Rattle.demands.specs.Runs.{Turn, outcome, next, run, taken_by}
use Rattle.demands.specs.Clocks.{log_in, index_of, runs_by}
use Rattle.demands.specs.Demands.{Kept, ReleaseLeavesFresh, LateExpiry, DueExpiry}
use Rattle.demands.proofs.Facts.{apart, left, right, second}
use Rattle.demands.proofs.ByRow.{Ender, t301, t302, t303, t306, t310, Row, Cell, cell, row, no_row_lem}
use Rattle.demands.proofs.Reading.{read_fine}
use Rattle.demands.proofs.Situations.{call, At, idle, mo, mt, up, broken, restoring, wait, disconnect, situated}
use Rattle.demands.proofs.Sound.{step_keeps_sound, always}
use Rattle.demands.proofs.Turns.{accepted, by_tests, run-append}
use Rattle.demands.proofs.Timers as Timers
use Rattle.demands.proofs.Timers.{Timed, Clocked, reached, turn_kept, Open, open_up, open_broken, open_restoring, open_wait}
use Rattle.demands.proofs.Bound.{row_short}
use Rattle.demands.proofs.Tracked.{timers_by_messages}

-- ---- what a turn makes of an event that was read, in a reached record

module _ (c : Call) (t : Turn) (e : Event) (k : Kept c) (reads : read events t.event ≡ taken e) (ours : other_call c e ≡ false)
    (silent : over_transmission c e ≡ false) where
  fits : Bool
  fits = leb (length (bytes_of (messages_in (row_for c e)))) (length t.buffer)

  by_tests_lem : outcome c t ≡ by_tests (other_call c e) (row_for c e).taken (over_transmission c e) fits c (row_for c e) t.buffer
  unfolding outcome step_of decided carried fits
  by_tests_lem = rw (k.meets, reads)

  -- without a row it is refused with 6
  refused_6 : (row_for c e).taken ≡ false → outcome c t ≡ refusal 6 c t.buffer
  refused_6 h = by_tests_lem ∙ (λ i. by_tests (ours i) (h i) (over_transmission c e) fits c (row_for c e) t.buffer)

  -- with one it is taken, if 32 bytes are lent
  taken_32 : Clocked c → (row_for c e).taken ≡ true → 32 ≤ length t.buffer → outcome c t ≡ accepted (row_for c e) t.buffer
  unfolding fits
  taken_32 v h room =
      let enough : fits ≡ true = le-leb (length (bytes_of (messages_in (row_for c e)))) (length t.buffer) (omega (arith, row_short c e k v h)) in
      by_tests_lem ∙ (λ i. by_tests (ours i) (h i) (silent i) (enough i) c (row_for c e) t.buffer)

  takes_32 : Clocked c → (row_for c e).taken ≡ true → 32 ≤ length t.buffer → taken_by c t ≡ some e
  unfolding taken_by
  takes_32 v h room = rw (taken_32 v h room, reads)

  -- what it leaves
  leaves_32 : Clocked c → 32 ≤ length t.buffer → (b : Bool) → (row_for c e).taken ≡ b → next c t ≡ cond b (row_for c e).call c
  unfolding next
  leaves_32 v room true h = ap (λ (o : Outcome). o.call) (taken_32 v h room)
  leaves_32 v room false h = ap (λ (o : Outcome). o.call) (refused_6 h)

-- no expiry names a call, and no RELEASE request
expiry_ours : (c : Call) (n : ℕ) → other_call c (Expiry n) ≡ false
unfolding other_call
expiry_ours c n = refl

release_ours : (c : Call) → other_call c ReleaseRequest ≡ false
unfolding other_call
release_ours c = refl

-- ---- an expiry that has a row is of a timer that runs

ender_runs : (c : Call) {n k : ℕ} → Ender n k → runs c k ≡ true → runs c (index_of n) ≡ true
unfolding index_of
ender_runs c {n = n} (t301 e) h = rw (eqb-true n 301 e) h
ender_runs c {n = n} (t302 e) h = rw (eqb-true n 302 e) h
ender_runs c {n = n} (t303 e) h = rw (eqb-true n 303 e) h
ender_runs c {n = n} (t306 e) h = rw (eqb-true n 306 e) h
ender_runs c {n = n} (t310 e) h = rw (eqb-true n 310 e) h

row_runs : {c : Call} {s : State} {w : Path} {n : ℕ} {x : Draft} → Row c s w (Expiry n) x → runs c (index_of n) ≡ true
unfolding index_of
row_runs {c} (Row.expires l n k t z) = ender_runs c t z
row_runs (Row.talked_out n z y) = rw (eqb-true n 311 z) y
row_runs {c} (Row.unanswered n z) = rw (eqb-true n 308 (left _ _ z)) (right (eqb n 308) _ z)

late_row : (c : Call) (n : ℕ) → runs c (index_of n) ≡ false → (row_for c (Expiry n)).taken ≡ false
unfolding no_row
late_row c n h = by_cell (cell c (Expiry n))
  where
    by_cell : {x : Draft} → Cell c c.state c.path (Expiry n) x → x.taken ≡ false
    by_cell no_row_lem = refl
    by_cell (row r) = apart (row_runs r) h

pub by_messages : (ts : List Turn) (n : ℕ) → runs_by (log_in fresh_call ts) n ≡ runs (run fresh_call ts) (index_of n)
by_messages ts n = ap (λ (f : List Bool). get_or f (index_of n) false) (timers_by_messages ts)

pub late_expiry : LateExpiry
late_expiry ts t n reads late =
    let c = run fresh_call ts in
    refused_6 c t (Expiry n) (always ts) reads (expiry_ours c n) refl (late_row c n (sym (by_messages ts n) ∙ late))

-- ---- and a timer that runs has a row

abbrev due : ℕ → ℕ → Call → Bool
due n k c = not (runs c k) || (row_for c (Expiry n)).taken

abbrev all_due : Call → Bool
all_due c = due 301 T301 c && due 302 T302 c && due 303 T303 c && due 306 T306 c && due 308 T308 c && due 310 T310 c && due 311 T311 c

open_due : (c : Call) {s : State} {w : Path} → Open s w c → all_due c ≡ true
unfolding verbs Rows.releasing Rows.timed_out Rows.expiry Rows.idle Rows.mo_call_setup Rows.mt_call_setup Rows.active_expiry Rows.active_up Rows.active_broken Rows.active_restoring Rows.wait Rows.confirmed Rows.call_disconnect Rows.active Rows.in_state row_for
open_due c (open_up {u = true} {t = true}) = refl
open_due c (open_up {u = true} {t = false}) = refl
open_due c (open_up {u = false} {t = true}) = refl
open_due c (open_up {u = false} {t = false}) = refl
open_due c (open_broken {u = true}) = refl
open_due c (open_broken {u = false}) = refl
open_due c (open_restoring {u = true}) = refl
open_due c (open_restoring {u = false}) = refl
open_due c (open_wait {u = true}) = refl
open_due c (open_wait {u = false}) = refl

rows_due : {s : State} {w : Path} {c : Call} → Timed s w c → all_due c ≡ true
unfolding verbs Rows.releasing Rows.timed_out Rows.expiry Rows.idle Rows.mo_call_setup Rows.mt_call_setup Rows.active_expiry Rows.active_up Rows.active_broken Rows.active_restoring Rows.wait Rows.confirmed Rows.call_disconnect Rows.active Rows.in_state row_for
rows_due Timers.idle = refl
rows_due (Timers.mo {t = true} h) = refl
rows_due (Timers.mo {t = false} h) = refl
rows_due (Timers.mt {t = true}) = refl
rows_due (Timers.mt {t = false}) = refl
rows_due {c} Timers.up = open_due c open_up
rows_due {c} Timers.broken = open_due c open_broken
rows_due {c} Timers.restoring = open_due c open_restoring
rows_due {c} Timers.wait = open_due c open_wait
rows_due Timers.disconnect = refl

-- one of the seven

pick : {A : Type 0} (a b : Bool) → (a || b) ≡ true → (a ≡ true → A) → (b ≡ true → A) → A
pick true b h f g = f refl
pick false b h f g = g h

seven_timers : (P : ℕ → Type 0) → P 301 → P 302 → P 303 → P 306 → P 308 → P 310 → P 311 → (n : ℕ) → is_timer n ≡ true → P n
unfolding is_timer
seven_timers P p₁ p₂ p₃ p₆ p₈ p₁₀ p₁₁ n h =
    pick _ _ h
    (λ h. pick _ _ h
    (λ h. pick _ _ h
    (λ h. pick _ _ h
    (λ h. pick _ _ h
    (λ h. pick _ _ h (is 301 p₁) (is 302 p₂))
    (is 303 p₃))
    (is 306 p₆))
    (is 308 p₈))
    (is 310 p₁₀))
    (is 311 p₁₁)
  where
    is : (m : ℕ) → P m → eqb n m ≡ true → P n
    is m p e = rw (eqb-true n m e) p

is_timer_lem : (n : ℕ) → fine events (Expiry n) ≡ true → is_timer n ≡ true
unfolding fine flat_fits all_fit
is_timer_lem n h = left _ _ (left _ _ h)

ripe : (n k : ℕ) (c : Call) → due n k c ≡ true → runs c k ≡ true → (row_for c (Expiry n)).taken ≡ true
ripe n k c d z = second (not (runs c k)) _ d (rw z)

due_row : (c : Call) (n : ℕ) → all_due c ≡ true → is_timer n ≡ true → runs c (index_of n) ≡ true → (row_for c (Expiry n)).taken ≡ true
unfolding index_of
due_row c n h =
    seven_timers (λ m. runs c (index_of m) ≡ true → (row_for c (Expiry m)).taken ≡ true)
    (ripe 301 T301 c (search (left, right) depth 8))
    (ripe 302 T302 c (search (left, right) depth 8))
    (ripe 303 T303 c (search (left, right) depth 8))
    (ripe 306 T306 c (search (left, right) depth 8))
    (ripe 308 T308 c (search (left, right) depth 8))
    (ripe 310 T310 c (search (left, right) depth 8))
    (ripe 311 T311 c (search (left, right) depth 8))
    n

pub due_expiry : DueExpiry
due_expiry ts t n reads runs-now room =
    let c = run fresh_call ts in
    takes_32 c t (Expiry n) (always ts) reads (expiry_ours c n) refl (reached ts)
    (due_row c n (rows_due (reached ts)) (is_timer_lem n (read_fine t.event (Expiry n) reads)) (sym (by_messages ts n) ∙ runs-now)) room

-- ---- RELEASE request, and then T308

-- what an event leaves that 32 bytes are lent to
abbrev left_by : Event → Call → Call
left_by e c = cond (row_for c e).taken (row_for c e).call c

-- over, or waiting for T308
data Closing : Call → Type 0 where
  over : Closing fresh_call
  closing : {i a d q s pl k o m : ℕ} → Closing (call State.CallDisconnect Path.Up i a d q s pl k o m false false false false true false false)

one_of : (b : Bool) (x y : Draft) (c : Call) → x.taken ≡ true → y.taken ≡ true → Closing x.call → Closing y.call
    → Closing (cond (cond b x y).taken (cond b x y).call c)
one_of true x y c e f p q = rw e p
one_of false x y c e f p q = rw f q

released : {s : State} {w : Path} {c : Call} → At s w c → Timed s w c → Closing (left_by ReleaseRequest c)
unfolding verbs Rows.releasing Rows.idle Rows.mo_call_setup Rows.mt_call_setup Rows.active_up Rows.active_broken Rows.active_restoring Rows.wait Rows.call_disconnect Rows.active Rows.in_state row_for
released idle Timers.idle = over
released {c} (mo m) (Timers.mo {s = s} h) = one_of (eqb s 0) _ _ c refl refl over closing
released (mt l m) Timers.mt = closing
released (up l p m) Timers.up = closing
released (broken l m) Timers.broken = closing
released (restoring l m) Timers.restoring = closing
released (wait l p m) Timers.wait = closing
released (disconnect m) Timers.disconnect = closing

lapsed : {c : Call} → Closing c → left_by (Expiry 308) c ≡ fresh_call
unfolding verbs Rows.confirmed Rows.call_disconnect Rows.idle Rows.in_state row_for
lapsed over = refl
lapsed closing = refl

pub release_leaves_fresh : ReleaseLeavesFresh
unfolding run next outcome
release_leaves_fresh ts t u asks lapses room room' =
    let c = run fresh_call ts in
    let first : next c t ≡ left_by ReleaseRequest c = leaves_32 c t ReleaseRequest (always ts) asks (release_ours c) refl (reached ts) room _ refl in
    let kept : Kept (next c t) = step_keeps_sound c t.event t.buffer (always ts) in
    let then : next (next c t) u ≡ left_by (Expiry 308) (next c t)
    = leaves_32 (next c t) u (Expiry 308) kept lapses (expiry_ours (next c t) 308) refl (turn_kept c t (reached ts)) room' _ refl in
    run-append fresh_call ts (t ∷ u ∷ []) ∙ then ∙ ap (left_by (Expiry 308)) first ∙ lapsed (released (situated c (always ts)) (reached ts))
