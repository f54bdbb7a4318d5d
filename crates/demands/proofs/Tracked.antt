-- The timers that run by the messages written and the expiries taken are those in the record, row by row: in a reached record the flags of a
-- draft are known, and so its messages are computed. Hence none runs in IDLE.
use Prim.Native.Nat.{ℕ}
use mathlib.Core.Path.{◌≡◌, refl, ◌∙◌, ap}
use mathlib.Core.Bool.{Bool, true, false, cond, not, ◌&&◌}
use mathlib.Core.List.{List, [], ◌∷◌, ◌++◌}
use borrow.Author.Tests.{eqb-true}
use lib.Dec.{eqb}
use Rattle.records.specs.declared.events.Event.{Event}
use Rattle.records.specs.declared.events.Event.TheVariants.{Expiry}
use Rattle.records.specs.declared.messages.Message.{Message}
use Rattle.records.specs.declared.messages.Message.TheVariants.{UTxCeased, Configure, SetupConfirm, Complete, ReleaseIndication, TxIndication}
use Rattle.callcontrol.specs.declared.call.State.{State}
use Rattle.callcontrol.specs.declared.call.Path.{Path}
use Rattle.callcontrol.specs.declared.call.Call.{Call}
use Rattle.callcontrol.specs.Draft.{Draft}
use Rattle.callcontrol.specs.Call.{fresh_call, runs, T301, T302, T303, T306, T308, T310, T311}
use Rattle.callcontrol.specs.Draft.{◌▷◌, draft, go, on_path, store_id, store_code, store_mode, store_slots, store_sent, grant, grant_or_off, restart, start, stop, expired, same_plane, plane, off, say, tell, tell_modified, release}
use Rattle.callcontrol.specs.Rows
use Rattle.callcontrol.specs.Rows.{row_for}
use Rattle.callcontrol.specs.Writing.{when, by_number, starting, messages_in}
use Rattle.callcontrol.proofs.Verbs.{verbs}
use Rattle.demands.specs.Runs.{Turn, next, run, taken_by, written_by}
use Rattle.demands.specs.Clocks.{log_in, index_of, note_message, note_messages, note_expiry, note_taken, note_log, running_by}
use Rattle.demands.specs.Demands.{TimersByMessages, NoneInIdle}
use Rattle.demands.proofs.Facts.{apart, left}
use Rattle.demands.proofs.Ended.{idle_is_fresh}
use Rattle.demands.proofs.ByRow.{Ender, t301, t302, t303, t306, t310, Row, is_row}
use Rattle.demands.proofs.Cases.{on_plane, by_plane, by_restart, by_grant, by_grant_or_off, limited_as, by_start310}
use Rattle.demands.proofs.Turns.{Turned, passed, took, turned}
use Rattle.demands.proofs.Timers.{Timed, idle, mo, mt, up, broken, restoring, wait, disconnect, Clocked, turn_kept, Few, ten, ten_eleven, eleven_only, six_only, six_ten, few, Open, open_up, open_restoring}

-- ---- the rows: in a reached record the flags of a draft are known, and its messages are computed

data Tracks (ts : List Bool) (x : Draft) : Type 0 where
  by : note_messages ts (messages_in x) ≡ x.call.timers → Tracks ts x

flagged : Unit {0}
unfolding note_messages note_message note_expiry index_of messages_in by_number starting verbs Rows.releasing Rows.disconnected Rows.released Rows.confirmed
flagged = tt

abbrev lapse : ℕ → Call → Draft
lapse k c = draft c ▷ expired k ▷ release 2 ▷ tell (ReleaseIndication 2)

-- the timers of a situation
abbrev with_302 : List Bool
with_302 = false ∷ true ∷ false ∷ false ∷ false ∷ false ∷ false ∷ []

abbrev with_303 : List Bool
with_303 = false ∷ false ∷ true ∷ false ∷ false ∷ false ∷ false ∷ []

-- a CONFIGURE changes none
configured : (b : Bool) (p : ℕ) (m : Message) (ts us : List Bool) → note_message ts m ≡ us → note_messages ts (when b (Configure p) ++ (m ∷ [])) ≡ us
unfolding note_messages note_message
configured true p m ts us h = h
configured false p m ts us h = h

record Shared (i : ℕ) (c : Call) : Type 0 where
  releasing : Tracks c.timers (Rows.releasing c)
  disconnected : Tracks c.timers (Rows.disconnected i c)
  released : Tracks c.timers (Rows.released c)
  lapsed_301 : Tracks (note_expiry c.timers (Expiry 301)) (lapse T301 c)
  lapsed_302 : Tracks (note_expiry c.timers (Expiry 302)) (lapse T302 c)
  lapsed_303 : Tracks (note_expiry c.timers (Expiry 303)) (lapse T303 c)
  lapsed_306 : Tracks (note_expiry c.timers (Expiry 306)) (lapse T306 c)
  lapsed_310 : Tracks (note_expiry c.timers (Expiry 310)) (lapse T310 c)

shares : (i : ℕ) {c : Call} → Few c → Shared i c
unfolding flagged
shares i Few.none = record { releasing = by refl; disconnected = by refl; released = by refl; lapsed_301 = by refl; lapsed_302 = by refl; lapsed_303 = by refl; lapsed_306 = by refl; lapsed_310 = by refl }
shares i Few.one = record { releasing = by refl; disconnected = by refl; released = by refl; lapsed_301 = by refl; lapsed_302 = by refl; lapsed_303 = by refl; lapsed_306 = by refl; lapsed_310 = by refl }
shares i Few.two = record { releasing = by refl; disconnected = by refl; released = by refl; lapsed_301 = by refl; lapsed_302 = by refl; lapsed_303 = by refl; lapsed_306 = by refl; lapsed_310 = by refl }
shares i Few.three = record { releasing = by refl; disconnected = by refl; released = by refl; lapsed_301 = by refl; lapsed_302 = by refl; lapsed_303 = by refl; lapsed_306 = by refl; lapsed_310 = by refl }
shares i Few.eight = record { releasing = by refl; disconnected = by refl; released = by refl; lapsed_301 = by refl; lapsed_302 = by refl; lapsed_303 = by refl; lapsed_306 = by refl; lapsed_310 = by refl }
shares i ten = record { releasing = by refl; disconnected = by refl; released = by refl; lapsed_301 = by refl; lapsed_302 = by refl; lapsed_303 = by refl; lapsed_306 = by refl; lapsed_310 = by refl }
shares i ten_eleven = record { releasing = by refl; disconnected = by refl; released = by refl; lapsed_301 = by refl; lapsed_302 = by refl; lapsed_303 = by refl; lapsed_306 = by refl; lapsed_310 = by refl }
shares i six_ten = record { releasing = by refl; disconnected = by refl; released = by refl; lapsed_301 = by refl; lapsed_302 = by refl; lapsed_303 = by refl; lapsed_306 = by refl; lapsed_310 = by refl }
shares i eleven_only = record { releasing = by refl; disconnected = by refl; released = by refl; lapsed_301 = by refl; lapsed_302 = by refl; lapsed_303 = by refl; lapsed_306 = by refl; lapsed_310 = by refl }
shares i six_only = record { releasing = by refl; disconnected = by refl; released = by refl; lapsed_301 = by refl; lapsed_302 = by refl; lapsed_303 = by refl; lapsed_306 = by refl; lapsed_310 = by refl }

tracks_lapsed : {c : Call} {n k : ℕ} → Ender n k → Shared 0 c → Tracks (note_expiry c.timers (Expiry n)) (lapse k c)
tracks_lapsed {n = n} (t301 e) f = rw (eqb-true n 301 e) f.lapsed_301
tracks_lapsed {n = n} (t302 e) f = rw (eqb-true n 302 e) f.lapsed_302
tracks_lapsed {n = n} (t303 e) f = rw (eqb-true n 303 e) f.lapsed_303
tracks_lapsed {n = n} (t306 e) f = rw (eqb-true n 306 e) f.lapsed_306
tracks_lapsed {n = n} (t310 e) f = rw (eqb-true n 310 e) f.lapsed_310

interrupts : {c : Call} (b : Bool) → Timed State.CallActive Path.Up c → Tracks c.timers (draft c ▷ plane (cond b 2 4) ▷ tell (TxIndication 5))
unfolding flagged
interrupts true (up {t = true}) = by refl
interrupts true (up {t = false}) = by refl
interrupts false (up {t = true}) = by refl
interrupts false (up {t = false}) = by refl

continuing : {c : Call} {w : Path} (b : Bool) → Timed State.Wait w c
    → Tracks c.timers (tell (TxIndication 7) (cond b (start T311) (stop T311) (same_plane (on_plane c.kept (go State.CallActive (draft c))))))
unfolding flagged
continuing true (wait {k}) = by (configured (not (eqb k 0)) k _ _ _ refl)
continuing false (wait {k}) = by (configured (not (eqb k 0)) k _ _ _ refl)

continues : {c : Call} {w : Path} → Timed State.Wait w c → Tracks c.timers (draft c ▷ go State.CallActive ▷ plane c.kept ▷ tell (TxIndication 7))
continues {c} v = by_plane (λ x. Tracks c.timers (tell (TxIndication 7) x)) c.kept (go State.CallActive (draft c)) (λ b. continuing b v)

talked : {c : Call} → Timed State.CallActive Path.Up c → Tracks (note_expiry c.timers (Expiry 311)) (draft c ▷ expired T311 ▷ say (UTxCeased c.id) ▷ off)
unfolding flagged
talked (up {t = true}) = by refl
talked (up {t = false}) = by refl

talked_out : {c : Call} (n : ℕ) → eqb n 311 ≡ true → Timed State.CallActive Path.Up c
    → Tracks (note_expiry c.timers (Expiry n)) (draft c ▷ expired T311 ▷ say (UTxCeased c.id) ▷ off)
talked_out n z v = rw (eqb-true n 311 z) (talked v)

silent : {c : Call} {w : Path} → Timed State.CallDisconnect w c → Tracks (note_expiry c.timers (Expiry 308)) (draft c ▷ expired T308 ▷ Rows.confirmed)
unfolding flagged
silent disconnect = by refl

unanswered : {c : Call} {w : Path} (n : ℕ) → (eqb n 308 && runs c T308) ≡ true → Timed State.CallDisconnect w c
    → Tracks (note_expiry c.timers (Expiry n)) (draft c ▷ expired T308 ▷ Rows.confirmed)
unanswered n z v = rw (eqb-true n 308 (left _ _ z)) (silent v)

-- rows that start T310 anew, or stop it, whether it runs or not
same_mode : (c : Call) (r o d s : ℕ) → Open State.CallActive Path.Up c → Tracks c.timers (draft c ▷ restart r o ▷ store_slots s ▷ same_plane ▷ tell_modified d)
unfolding flagged
same_mode c r o d s (open_up {pl} {u = true} {t}) =
    by_restart (λ x. Tracks c.timers (tell_modified d (same_plane (store_slots s x)))) r o (draft c) (by (configured (not (eqb pl 0)) pl _ _ _ refl))
    (by (configured (not (eqb pl 0)) pl _ _ _ refl)) (by (configured (not (eqb pl 0)) pl _ _ _ refl))
same_mode c r o d s (open_up {pl} {u = false} {t}) =
    by_restart (λ x. Tracks c.timers (tell_modified d (same_plane (store_slots s x)))) r o (draft c) (by (configured (not (eqb pl 0)) pl _ _ _ refl))
    (by (configured (not (eqb pl 0)) pl _ _ _ refl)) (by (configured (not (eqb pl 0)) pl _ _ _ refl))

new_mode : (c : Call) (r o d s : ℕ) → Open State.CallActive Path.Up c → Tracks c.timers (draft c ▷ restart r o ▷ store_mode d ▷ store_slots s ▷ off ▷ tell_modified d)
unfolding flagged
new_mode c r o d s (open_up {u = true} {t = true}) =
    by_restart (λ x. Tracks c.timers (tell_modified d (off (store_slots s (store_mode d x))))) r o (draft c) (by refl) (by refl) (by refl)
new_mode c r o d s (open_up {u = true} {t = false}) =
    by_restart (λ x. Tracks c.timers (tell_modified d (off (store_slots s (store_mode d x))))) r o (draft c) (by refl) (by refl) (by refl)
new_mode c r o d s (open_up {u = false} {t = true}) =
    by_restart (λ x. Tracks c.timers (tell_modified d (off (store_slots s (store_mode d x))))) r o (draft c) (by refl) (by refl) (by refl)
new_mode c r o d s (open_up {u = false} {t = false}) =
    by_restart (λ x. Tracks c.timers (tell_modified d (off (store_slots s (store_mode d x))))) r o (draft c) (by refl) (by refl) (by refl)

restored : (c : Call) (g r o : ℕ) → Open State.CallActive Path.Restoring c
    → Tracks c.timers (draft c ▷ stop T306 ▷ on_path Path.Up ▷ grant g ▷ restart r o ▷ tell (TxIndication g))
unfolding flagged
restored c g r o (open_restoring {u = true}) =
    by_restart (λ x. Tracks c.timers (tell (TxIndication g) x)) r o (draft c ▷ stop T306 ▷ on_path Path.Up ▷ grant g)
    (by_grant (λ x. Tracks c.timers (tell (TxIndication g) (limited_as false (store_code (cond (eqb o 16) x.call.code o) x)))) g (draft c ▷ stop T306 ▷ on_path Path.Up) (by refl) (by refl) (by refl) (by refl) (by refl))
    (by_grant (λ x. Tracks c.timers (tell (TxIndication g) (limited_as true (store_code (cond (eqb o 16) x.call.code o) x)))) g (draft c ▷ stop T306 ▷ on_path Path.Up) (by refl) (by refl) (by refl) (by refl) (by refl))
    (by_grant (λ x. Tracks c.timers (tell (TxIndication g) x)) g (draft c ▷ stop T306 ▷ on_path Path.Up) (by refl) (by refl) (by refl) (by refl) (by refl))
restored c g r o (open_restoring {u = false}) =
    by_restart (λ x. Tracks c.timers (tell (TxIndication g) x)) r o (draft c ▷ stop T306 ▷ on_path Path.Up ▷ grant g)
    (by_grant (λ x. Tracks c.timers (tell (TxIndication g) (limited_as false (store_code (cond (eqb o 16) x.call.code o) x)))) g (draft c ▷ stop T306 ▷ on_path Path.Up) (by refl) (by refl) (by refl) (by refl) (by refl))
    (by_grant (λ x. Tracks c.timers (tell (TxIndication g) (limited_as true (store_code (cond (eqb o 16) x.call.code o) x)))) g (draft c ▷ stop T306 ▷ on_path Path.Up) (by refl) (by refl) (by refl) (by refl) (by refl))
    (by_grant (λ x. Tracks c.timers (tell (TxIndication g) x)) g (draft c ▷ stop T306 ▷ on_path Path.Up) (by refl) (by refl) (by refl) (by refl) (by refl))

tracks : {c : Call} {s : State} {w : Path} {e : Event} {x : Draft} → Row c s w e x → Timed s w c → Tracks (note_expiry c.timers e) x
unfolding flagged
tracks (Row.releases l) v = (shares 0 (few v)).releasing
tracks (Row.disconnects l i) v = (shares i (few v)).disconnected
tracks (Row.ends l i) v = (shares 0 (few v)).released
tracks (Row.expires l n k t z) v = tracks_lapsed t (shares 0 (few v))
tracks (Row.calls a d q s) idle = by refl
tracks (Row.is_called i a d) idle = by refl
tracks (Row.takes_back z) (mo {t = true} h) = apart z h
tracks (Row.takes_back z) (mo {t = false} h) = by refl
tracks (Row.releases_sent z) v = (shares 0 (few v)).releasing
tracks (Row.proceeds i) (mo {t = true} h) = by refl
tracks (Row.proceeds i) (mo {t = false} h) = by refl
tracks (Row.alerts i) (mo {t = true} h) = by refl
tracks (Row.alerts i) (mo {t = false} h) = by refl
tracks {c} (Row.connects i g d o s) (mo {t = true} h) =
    by_start310 (λ x. Tracks with_302 (tell (SetupConfirm i g) (grant_or_off g x))) (draft c ▷ store_id i ▷ store_mode d ▷ store_code o ▷ store_slots s ▷ store_sent 1 ▷ go State.CallActive ▷ stop T302 ▷ stop T303)
    (by_grant_or_off (λ x. Tracks with_302 (tell (SetupConfirm i g) x)) g (limited_as false (draft c ▷ store_id i ▷ store_mode d ▷ store_code o ▷ store_slots s ▷ store_sent 1 ▷ go State.CallActive ▷ stop T302 ▷ stop T303)) (by refl) (by refl) (by refl) (by refl) (by refl) (by refl) (by refl))
    (by_grant_or_off (λ x. Tracks with_302 (tell (SetupConfirm i g) x)) g (limited_as true (draft c ▷ store_id i ▷ store_mode d ▷ store_code o ▷ store_slots s ▷ store_sent 1 ▷ go State.CallActive ▷ stop T302 ▷ stop T303)) (by refl) (by refl) (by refl) (by refl) (by refl) (by refl) (by refl))
tracks {c} (Row.connects i g d o s) (mo {t = false} h) =
    by_start310 (λ x. Tracks with_303 (tell (SetupConfirm i g) (grant_or_off g x))) (draft c ▷ store_id i ▷ store_mode d ▷ store_code o ▷ store_slots s ▷ store_sent 1 ▷ go State.CallActive ▷ stop T302 ▷ stop T303)
    (by_grant_or_off (λ x. Tracks with_303 (tell (SetupConfirm i g) x)) g (limited_as false (draft c ▷ store_id i ▷ store_mode d ▷ store_code o ▷ store_slots s ▷ store_sent 1 ▷ go State.CallActive ▷ stop T302 ▷ stop T303)) (by refl) (by refl) (by refl) (by refl) (by refl) (by refl) (by refl))
    (by_grant_or_off (λ x. Tracks with_303 (tell (SetupConfirm i g) x)) g (limited_as true (draft c ▷ store_id i ▷ store_mode d ▷ store_code o ▷ store_slots s ▷ store_sent 1 ▷ go State.CallActive ▷ stop T302 ▷ stop T303)) (by refl) (by refl) (by refl) (by refl) (by refl) (by refl) (by refl))
tracks (Row.sent z) (mo {t = true} h) = by refl
tracks (Row.sent z) (mo {t = false} h) = by refl
tracks (Row.unsent z) (mo {t = true} h) = apart z h
tracks (Row.unsent z) (mo {t = false} h) = by refl
tracks (Row.answers z) mt = by refl
tracks {c} (Row.completes i g o z) (mt {t = true}) =
    by_start310 (λ x. Tracks (true ∷ false ∷ false ∷ false ∷ false ∷ false ∷ false ∷ []) (tell (Complete g) (grant_or_off g x))) (draft c ▷ store_code o ▷ go State.CallActive ▷ stop T301)
    (by_grant_or_off (λ x. Tracks (true ∷ false ∷ false ∷ false ∷ false ∷ false ∷ false ∷ []) (tell (Complete g) x)) g (limited_as false (draft c ▷ store_code o ▷ go State.CallActive ▷ stop T301)) (by refl) (by refl) (by refl) (by refl) (by refl) (by refl) (by refl))
    (by_grant_or_off (λ x. Tracks (true ∷ false ∷ false ∷ false ∷ false ∷ false ∷ false ∷ []) (tell (Complete g) x)) g (limited_as true (draft c ▷ store_code o ▷ go State.CallActive ▷ stop T301)) (by refl) (by refl) (by refl) (by refl) (by refl) (by refl) (by refl))
tracks {c} (Row.completes i g o z) (mt {t = false}) =
    by_start310 (λ x. Tracks (false ∷ false ∷ false ∷ false ∷ false ∷ false ∷ false ∷ []) (tell (Complete g) (grant_or_off g x))) (draft c ▷ store_code o ▷ go State.CallActive ▷ stop T301)
    (by_grant_or_off (λ x. Tracks (false ∷ false ∷ false ∷ false ∷ false ∷ false ∷ false ∷ []) (tell (Complete g) x)) g (limited_as false (draft c ▷ store_code o ▷ go State.CallActive ▷ stop T301)) (by refl) (by refl) (by refl) (by refl) (by refl) (by refl) (by refl))
    (by_grant_or_off (λ x. Tracks (false ∷ false ∷ false ∷ false ∷ false ∷ false ∷ false ∷ []) (tell (Complete g) x)) g (limited_as true (draft c ▷ store_code o ▷ go State.CallActive ▷ stop T301)) (by refl) (by refl) (by refl) (by refl) (by refl) (by refl) (by refl))
tracks (Row.asks_to_send k z y) up = by refl
tracks (Row.stops_sending k z y) (up {t = true}) = by refl
tracks (Row.stops_sending k z y) (up {t = false}) = by refl
tracks (Row.asks_no_more k z y x) up = by refl
tracks {c} (Row.same_mode i r o d s z) up = same_mode c r o d s open_up
tracks {c} (Row.new_mode i r o d s z) up = new_mode c r o d s open_up
tracks {c} (Row.granted i g) (up {t = true}) = by_grant (λ x. Tracks c.timers (tell (TxIndication g) x)) g (draft c) (by refl) (by refl) (by refl) (by refl) (by refl)
tracks {c} (Row.granted i g) (up {t = false}) = by_grant (λ x. Tracks c.timers (tell (TxIndication g) x)) g (draft c) (by refl) (by refl) (by refl) (by refl) (by refl)
tracks (Row.ceased i) (up {t = true}) = by refl
tracks (Row.ceased i) (up {t = false}) = by refl
tracks (Row.interrupted i g) v = interrupts (eqb g 3) v
tracks (Row.pauses i) (up {t = true}) = by refl
tracks (Row.pauses i) (up {t = false}) = by refl
tracks Row.breaks (up {t = true}) = by refl
tracks Row.breaks (up {t = false}) = by refl
tracks (Row.talked_out n z y) v = talked_out n z v
tracks (Row.wants k z) broken = by refl
tracks Row.resumes broken = by refl
tracks {c} (Row.restored i g r o) restoring = restored c g r o open_restoring
tracks Row.breaks_again restoring = by refl
tracks (Row.continues i k z) v = continues v
tracks (Row.continues_off i k z) wait = by refl
tracks Row.breaks_paused wait = by refl
tracks (Row.collides i z) disconnect = by refl
tracks (Row.collides_sent i z) disconnect = by refl
tracks (Row.ends_first i z) disconnect = by refl
tracks (Row.confirms i z) disconnect = by refl
tracks (Row.end_sent z) disconnect = by refl
tracks (Row.end_unsent z) disconnect = by refl
tracks (Row.unanswered n z) v = unanswered n z v

-- ---- every run

row_tracked : (c : Call) (e : Event) → Clocked c → (row_for c e).taken ≡ true
    → note_messages (note_expiry c.timers e) (messages_in (row_for c e)) ≡ (row_for c e).call.timers
row_tracked c e v h = is (tracks (is_row c e h) v)
  where
    is : {ts : List Bool} {x : Draft} → Tracks ts x → note_messages ts (messages_in x) ≡ x.call.timers
    is (by p) = p

turn_tracked : (c : Call) (t : Turn) → Clocked c → Turned c t → note_messages (note_taken c.timers (taken_by c t)) (written_by c t) ≡ (next c t).timers
unfolding written_by note_messages
turn_tracked c t v (passed p) = rw (p.takes, p.leaves)
turn_tracked c t v (took e a) = rw (a.takes, a.leaves) (row_tracked c e v a.row)

run_tracked : (c : Call) (ts : List Turn) → Clocked c → note_log c.timers (log_in c ts) ≡ (run c ts).timers
unfolding note_log log_in run
run_tracked c [] v = refl
run_tracked c (t ∷ ts) v =
    ap (λ (f : List Bool). note_log f (log_in (next c t) ts)) (turn_tracked c t v (turned c t)) ∙ run_tracked (next c t) ts (turn_kept c t v)

pub timers_by_messages : TimersByMessages
unfolding running_by
timers_by_messages ts = run_tracked fresh_call ts idle

pub none_in_idle : NoneInIdle
unfolding running_by note_log
none_in_idle ts z = timers_by_messages ts ∙ ap (λ (c : Call). c.timers) (idle_is_fresh ts z)
