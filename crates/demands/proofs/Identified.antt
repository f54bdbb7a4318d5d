-- Outside IDLE the identifier of the record is the one that the network gave to the call, by the taken events alone: a row stores the
-- identifier that its event brings to the call, and no other row changes it. So a set transmits only with the identifier of its call.
use Prim.Native.Nat.{ℕ, zero, suc}
use mathlib.Core.Path.{◌≡◌, refl, ◌∙◌}
use mathlib.Core.Bool.{Bool, true, false, cond, ◌||◌}
use mathlib.Core.List.{List, [], ◌∷◌, ◌++◌}
use borrow.Author.Tests.{eqb-true}
use lib.Dec.{eqb}
use Rattle.records.specs.declared.events.Event.{Event}
use Rattle.records.specs.declared.events.Event.TheVariants.{DInfo}
use Rattle.callcontrol.specs.declared.call.State.{State}
use Rattle.callcontrol.specs.declared.call.Path.{Path}
use Rattle.callcontrol.specs.declared.call.Call.{Call}
use Rattle.callcontrol.specs.Draft.{Draft}
use Rattle.callcontrol.specs.Call.{fresh_call, state_number, is_idle}
use Rattle.callcontrol.specs.Draft.{draft, go, restart, plane, grant, grant_or_off}
use Rattle.callcontrol.specs.Rows
use Rattle.callcontrol.proofs.Verbs.{verbs}
use Rattle.demands.specs.Runs.{Turn, outcome, next, run, taken_by, listed, taken_in, told}
use Rattle.demands.specs.History.{note_id, reads_id, id_by_history}
use Rattle.demands.specs.Demands.{Kept, Identified, Transmits, NoInfoOverSpeech}
use Rattle.demands.proofs.Facts.{apart}
use Rattle.demands.proofs.ByRow.{Live, calling, called, talking, waiting, Row, is_row}
use Rattle.demands.proofs.Cases.{by_plane_each, by_restart, by_grant, by_grant_or_off}
use Rattle.demands.proofs.Situations.{At, idle, situated}
use Rattle.demands.proofs.Turns.{Turned, passed, took, turned, accepts}
use Rattle.demands.proofs.Sound.{fresh_is_sound, step_keeps_sound, always}
use Rattle.demands.proofs.Planes.{plane_on}
use Rattle.demands.proofs.Told.{told_is_plane}

-- ---- the verbs that ask about numbers change no identifier

module _ (x : Draft) where
  plane_id : (p : ℕ) → (plane p x).call.id ≡ x.call.id
  unfolding verbs
  plane_id p = by_plane_each (λ y. y.call.id ≡ x.call.id) p x refl refl

  restart_id : (r o : ℕ) → (restart r o x).call.id ≡ x.call.id
  unfolding verbs
  restart_id r o = by_restart (λ y. y.call.id ≡ x.call.id) r o x refl refl refl

  grant_id : (g : ℕ) → (grant g x).call.id ≡ x.call.id
  unfolding verbs
  grant_id g = by_grant (λ y. y.call.id ≡ x.call.id) g x refl refl refl refl refl

  grant_or_off_id : (g : ℕ) → (grant_or_off g x).call.id ≡ x.call.id
  unfolding verbs
  grant_or_off_id g = by_grant_or_off (λ y. y.call.id ≡ x.call.id) g x refl refl refl refl refl refl refl

-- ---- the rows

live : {s : State} → Live s → eqb (state_number s) 0 ≡ false
live calling = refl
live called = refl
live talking = refl
live waiting = refl

row_named : {c : Call} {s : State} {w : Path} {e : Event} {x : Draft} (h : ℕ) → Row c s w e x → At s w c → (eqb (state_number s) 0 ≡ false → c.id ≡ h)
    → is_idle x.call ≡ false → x.call.id ≡ note_id h e
unfolding verbs note_id Rows.releasing Rows.disconnected Rows.released Rows.confirmed
row_named h (Row.releases l) v k z = k (live l)
row_named h (Row.disconnects l i) v k z = apart refl z
row_named h (Row.ends l i) v k z = apart refl z
row_named h (Row.expires l n j t r) v k z = k (live l)
row_named h (Row.calls a d q s) idle k z = refl
row_named h (Row.is_called i a d) v k z = refl
row_named h (Row.takes_back r) v k z = apart refl z
row_named h (Row.releases_sent r) v k z = k refl
row_named h (Row.proceeds i) v k z = refl
row_named h (Row.alerts i) v k z = refl
row_named h (Row.connects i g d o s) v k z = grant_or_off_id _ g
row_named h (Row.sent r) v k z = k refl
row_named h (Row.unsent r) v k z = apart refl z
row_named h (Row.answers r) v k z = k refl
row_named h (Row.completes i g o r) v k z = grant_or_off_id _ g ∙ k refl
row_named h (Row.asks_to_send j r y) v k z = k refl
row_named h (Row.stops_sending j r y) v k z = k refl
row_named h (Row.asks_no_more j r y x) v k z = k refl
row_named h (Row.same_mode i r o d s y) v k z = restart_id _ r o ∙ k refl
row_named h (Row.new_mode i r o d s y) v k z = restart_id _ r o ∙ k refl
row_named h (Row.granted i g) v k z = grant_id _ g ∙ k refl
row_named h (Row.ceased i) v k z = k refl
row_named {c} h (Row.interrupted i g) v k z = plane_id (draft c) (cond (eqb g 3) 2 4) ∙ k refl
row_named h (Row.pauses i) v k z = k refl
row_named h Row.breaks v k z = k refl
row_named h (Row.talked_out n r y) v k z = k refl
row_named h (Row.wants j r) v k z = k refl
row_named h Row.resumes v k z = k refl
row_named h (Row.restored i g r o) v k z = restart_id _ r o ∙ grant_id _ g ∙ k refl
row_named h Row.breaks_again v k z = k refl
row_named {c} h (Row.continues i j r) v k z = plane_id (go State.CallActive (draft c)) c.kept ∙ k refl
row_named h (Row.continues_off i j r) v k z = k refl
row_named h Row.breaks_paused v k z = k refl
row_named h (Row.collides i r) v k z = apart refl z
row_named h (Row.collides_sent i r) v k z = apart refl z
row_named h (Row.ends_first i r) v k z = apart refl z
row_named h (Row.confirms i r) v k z = apart refl z
row_named h (Row.end_sent r) v k z = k refl
row_named h (Row.end_unsent r) v k z = apart refl z
row_named h (Row.unanswered n r) v k z = apart refl z

-- ---- runs

abbrev Named : Call → ℕ → Type 0
Named c h = is_idle c ≡ false → c.id ≡ h

turn_named : (c : Call) (h : ℕ) (t : Turn) → Kept c → Named c h → Turned c t → Named (next c t) (reads_id h (listed (taken_by c t)))
unfolding reads_id
turn_named c h t k v (passed p) = rw (p.leaves, p.takes) v
turn_named c h t k v (took e a) = rw (a.leaves, a.takes) (row_named h (is_row c e a.row) (situated c k) v)

reads-append : (h : ℕ) (a b : List Event) → reads_id h (a ++ b) ≡ reads_id (reads_id h a) b
unfolding reads_id
reads-append h [] b = refl
reads-append h (e ∷ a) b = reads-append (note_id h e) a b

run_named : (ts : List Turn) (c : Call) (h : ℕ) → Kept c → Named c h → Named (run c ts) (reads_id h (taken_in c ts))
unfolding run taken_in next outcome reads_id
run_named [] c h k v = v
run_named (t ∷ ts) c h k v =
    rw (reads-append h (listed (taken_by c t)) (taken_in (next c t) ts))
    (run_named ts (next c t) (reads_id h (listed (taken_by c t))) (step_keeps_sound c t.event t.buffer k) (turn_named c h t k v (turned c t)))

pub identified : Identified
unfolding id_by_history
identified ts = run_named ts fresh_call 0 fresh_is_sound (λ z. refl)

-- ---- transmitting

-- neither of the two planes that transmit is off
transmitting : (p : ℕ) (one : Bool) → eqb p 1 ≡ one → (one || eqb p 3) ≡ true → eqb p 4 ≡ false
transmitting p true e h = rw (eqb-true p 1 e)
transmitting p false e h = rw (eqb-true p 3 h)

pub transmits : Transmits
transmits ts on =
    let p = plane_on (run fresh_call ts) (always ts).meets (rw (told_is_plane ts) at (transmitting (told ts) (eqb (told ts) 1) refl on)) in
    (p.0, p.1, identified ts (rw p.0), p.2)

-- D-INFO then is refused with 8 at the latest
pub no_info_over_speech : NoInfoOverSpeech
no_info_over_speech ts t i r o d zero on h = apart (rw (told_is_plane ts) at on) (accepts (run fresh_call ts) t (DInfo i r o d 0) h).silent
no_info_over_speech ts t i r o d (suc s) on h = apart (rw (told_is_plane ts) at on) (accepts (run fresh_call ts) t (DInfo i r o d (suc s)) h).silent
