-- Outside IDLE the slots of the record are those that the last of the call's taken events to carry some carried, 1 where none did: a row stores
-- the slots that its event carries, and no other row changes them.
use Prim.Native.Nat.{ℕ}
use mathlib.Core.Path.{◌≡◌, refl, ◌∙◌, ap}
use mathlib.Core.Bool.{Bool, true, false, cond}
use mathlib.Core.List.{List, [], ◌∷◌, ◌++◌}
use lib.Dec.{eqb}
use Rattle.records.specs.declared.events.Event.{Event}
use Rattle.records.specs.declared.events.Event.TheVariants.{SetupRequest, SetupResponse, ReleaseRequest, TxRequest, DCallProceeding, DAlert, DConnect, DConnectAcknowledge, DSetup, DInfo, DTxGranted, DTxCeased, DTxInterrupt, DTxWait, DTxContinue, DCallRestore, DDisconnect, DRelease, ReportSent, ReportFailed, Break, Resume, Expiry}
use Rattle.callcontrol.specs.declared.call.State.{State}
use Rattle.callcontrol.specs.declared.call.Path.{Path}
use Rattle.callcontrol.specs.declared.call.Call.{Call}
use Rattle.callcontrol.specs.Draft.{Draft}
use Rattle.callcontrol.specs.Call.{fresh_call, state_number, is_idle}
use Rattle.callcontrol.specs.Draft.{draft, go, restart, plane, grant, grant_or_off}
use Rattle.callcontrol.specs.Rows
use Rattle.callcontrol.proofs.Verbs.{verbs}
use Rattle.demands.specs.Runs.{Turn, outcome, next, run, taken_by, listed, taken_in}
use Rattle.demands.specs.History.{slots_in, or_before, note_slots, reads_slots, slots_by_history, carry_none}
use Rattle.demands.specs.Demands.{Kept, Slotted, OneSlot, EndedOneSlot}
use Rattle.demands.proofs.Facts.{apart, left, right}
use Rattle.demands.proofs.ByRow.{Live, calling, called, talking, waiting, Row, is_row}
use Rattle.demands.proofs.Cases.{by_plane_each, by_restart, by_grant, by_grant_or_off}
use Rattle.demands.proofs.Situations.{At, idle, situated}
use Rattle.demands.proofs.Turns.{Turned, passed, took, turned, run-append}
use Rattle.demands.proofs.Sound.{fresh_is_sound, step_keeps_sound, always}
use Rattle.demands.proofs.Ended.{ended, idle_is_fresh}

-- ---- the verbs that ask about numbers change no slots

module _ (x : Draft) where
  plane_slots : (p : ℕ) → (plane p x).call.slots ≡ x.call.slots
  unfolding verbs
  plane_slots p = by_plane_each (λ y. y.call.slots ≡ x.call.slots) p x refl refl

  restart_slots : (r o : ℕ) → (restart r o x).call.slots ≡ x.call.slots
  unfolding verbs
  restart_slots r o = by_restart (λ y. y.call.slots ≡ x.call.slots) r o x refl refl refl

  grant_slots : (g : ℕ) → (grant g x).call.slots ≡ x.call.slots
  unfolding verbs
  grant_slots g = by_grant (λ y. y.call.slots ≡ x.call.slots) g x refl refl refl refl refl

  grant_or_off_slots : (g : ℕ) → (grant_or_off g x).call.slots ≡ x.call.slots
  unfolding verbs
  grant_or_off_slots g = by_grant_or_off (λ y. y.call.slots ≡ x.call.slots) g x refl refl refl refl refl refl refl

-- ---- the rows

live : {s : State} → Live s → eqb (state_number s) 0 ≡ false
live calling = refl
live called = refl
live talking = refl
live waiting = refl

row_slotted : {c : Call} {s : State} {w : Path} {e : Event} {x : Draft} (h : ℕ) → Row c s w e x → At s w c → (eqb (state_number s) 0 ≡ false → c.slots ≡ h)
    → is_idle x.call ≡ false → x.call.slots ≡ note_slots h e
unfolding verbs note_slots Rows.releasing Rows.disconnected Rows.released Rows.confirmed
row_slotted h (Row.releases l) v k z = k (live l)
row_slotted h (Row.disconnects l i) v k z = apart refl z
row_slotted h (Row.ends l i) v k z = apart refl z
row_slotted h (Row.expires l n j t r) v k z = k (live l)
row_slotted h (Row.calls a d q s) idle k z = refl
row_slotted h (Row.is_called i a d) idle k z = refl
row_slotted h (Row.takes_back r) v k z = apart refl z
row_slotted h (Row.releases_sent r) v k z = k refl
row_slotted h (Row.proceeds i) v k z = k refl
row_slotted h (Row.alerts i) v k z = k refl
row_slotted h (Row.connects i g d o s) v k z = grant_or_off_slots _ g ∙ ap (or_before s) (k refl)
row_slotted h (Row.sent r) v k z = k refl
row_slotted h (Row.unsent r) v k z = apart refl z
row_slotted h (Row.answers r) v k z = k refl
row_slotted h (Row.completes i g o r) v k z = grant_or_off_slots _ g ∙ k refl
row_slotted h (Row.asks_to_send j r y) v k z = k refl
row_slotted h (Row.stops_sending j r y) v k z = k refl
row_slotted h (Row.asks_no_more j r y x) v k z = k refl
row_slotted {c} h (Row.same_mode i r o d s y) v k z = ap (or_before s) (restart_slots (draft c) r o ∙ k refl)
row_slotted {c} h (Row.new_mode i r o d s y) v k z = ap (or_before s) (restart_slots (draft c) r o ∙ k refl)
row_slotted h (Row.granted i g) v k z = grant_slots _ g ∙ k refl
row_slotted h (Row.ceased i) v k z = k refl
row_slotted {c} h (Row.interrupted i g) v k z = plane_slots (draft c) (cond (eqb g 3) 2 4) ∙ k refl
row_slotted h (Row.pauses i) v k z = k refl
row_slotted h Row.breaks v k z = k refl
row_slotted h (Row.talked_out n r y) v k z = k refl
row_slotted h (Row.wants j r) v k z = k refl
row_slotted h Row.resumes v k z = k refl
row_slotted h (Row.restored i g r o) v k z = restart_slots _ r o ∙ grant_slots _ g ∙ k refl
row_slotted h Row.breaks_again v k z = k refl
row_slotted {c} h (Row.continues i j r) v k z = plane_slots (go State.CallActive (draft c)) c.kept ∙ k refl
row_slotted h (Row.continues_off i j r) v k z = k refl
row_slotted h Row.breaks_paused v k z = k refl
row_slotted h (Row.collides i r) v k z = apart refl z
row_slotted h (Row.collides_sent i r) v k z = apart refl z
row_slotted h (Row.ends_first i r) v k z = apart refl z
row_slotted h (Row.confirms i r) v k z = apart refl z
row_slotted h (Row.end_sent r) v k z = k refl
row_slotted h (Row.end_unsent r) v k z = apart refl z
row_slotted h (Row.unanswered n r) v k z = apart refl z

-- ---- runs

abbrev Holds : Call → ℕ → Type 0
Holds c h = is_idle c ≡ false → c.slots ≡ h

turn_slotted : (c : Call) (h : ℕ) (t : Turn) → Kept c → Holds c h → Turned c t → Holds (next c t) (reads_slots h (listed (taken_by c t)))
unfolding reads_slots
turn_slotted c h t k v (passed p) = rw (p.leaves, p.takes) v
turn_slotted c h t k v (took e a) = rw (a.leaves, a.takes) (row_slotted h (is_row c e a.row) (situated c k) v)

reads-append : (h : ℕ) (a b : List Event) → reads_slots h (a ++ b) ≡ reads_slots (reads_slots h a) b
unfolding reads_slots
reads-append h [] b = refl
reads-append h (e ∷ a) b = reads-append (note_slots h e) a b

run_slotted : (ts : List Turn) (c : Call) (h : ℕ) → Kept c → Holds c h → Holds (run c ts) (reads_slots h (taken_in c ts))
unfolding run taken_in next outcome reads_slots
run_slotted [] c h k v = v
run_slotted (t ∷ ts) c h k v =
    rw (reads-append h (listed (taken_by c t)) (taken_in (next c t) ts))
    (run_slotted ts (next c t) (reads_slots h (listed (taken_by c t))) (step_keeps_sound c t.event t.buffer k) (turn_slotted c h t k v (turned c t)))

pub slotted : Slotted
unfolding slots_by_history
slotted ts = run_slotted ts fresh_call 1 fresh_is_sound (λ z. refl)

-- ---- a call that no event gave slots

note_one : (e : Event) → eqb (slots_in e) 0 ≡ true → note_slots 1 e ≡ 1
unfolding slots_in note_slots
note_one (SetupRequest a d q s) h = rw h
note_one SetupResponse h = refl
note_one ReleaseRequest h = refl
note_one (TxRequest k) h = refl
note_one (DCallProceeding i) h = refl
note_one (DAlert i) h = refl
note_one (DConnect i g d o s) h = rw h
note_one (DConnectAcknowledge i g o) h = refl
note_one (DSetup i a d) h = refl
note_one (DInfo i r o d s) h = rw h
note_one (DTxGranted i g) h = refl
note_one (DTxCeased i) h = refl
note_one (DTxInterrupt i g) h = refl
note_one (DTxWait i) h = refl
note_one (DTxContinue i k) h = refl
note_one (DCallRestore i g r o) h = refl
note_one (DDisconnect i) h = refl
note_one (DRelease i) h = refl
note_one ReportSent h = refl
note_one ReportFailed h = refl
note_one Break h = refl
note_one Resume h = refl
note_one (Expiry n) h = refl

reads_one : (es : List Event) → carry_none es ≡ true → reads_slots 1 es ≡ 1
unfolding reads_slots carry_none
reads_one [] h = refl
reads_one (e ∷ es) h = rw (note_one e (left _ _ h)) (reads_one es (right (eqb (slots_in e) 0) _ h))

pub one_slot : OneSlot
one_slot ts us begin none = by (is_idle (run fresh_call (ts ++ us))) refl
  where
    by : (b : Bool) → is_idle (run fresh_call (ts ++ us)) ≡ b → (run fresh_call (ts ++ us)).slots ≡ 1
    by true e = ap (λ (c : Call). c.slots) (idle_is_fresh (ts ++ us) e)
    by false e =
        let c = run fresh_call ts in
        let whole : run fresh_call (ts ++ us) ≡ run c us = run-append fresh_call ts us in
        ap (λ (c : Call). c.slots) whole ∙ run_slotted us c 1 (always ts) (λ z. apart begin z) (rw whole at e) ∙ reads_one (taken_in c us) none

pub ended_one_slot : EndedOneSlot
ended_one_slot ts t h = ap (λ (c : Call). c.slots) (ended ts t h)
