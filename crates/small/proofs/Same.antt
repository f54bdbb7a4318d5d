-- The row that the table gives is the one of the definitions.
use Prim.Native.Nat.{ℕ, ◌+◌}
use mathlib.Core.Path.{◌≡◌, refl, sym, ◌∙◌, ap, subst}
use mathlib.Core.Bool.{Bool, true, false, cond, not, ◌&&◌, ◌||◌}
use lib.Dec.{T, eqb, eqb→eq}
use lib.ListN.{set}
use Rattle.std.proofs.Common.{None, Some}
use native.Mathlib.Nat.{add-zero}
use Rattle.records.specs.declared.events.Event.{Event}
use Rattle.records.specs.declared.messages.Message.{Message}
use Rattle.callcontrol.specs.declared.call.Call.{Call}
use Rattle.callcontrol.specs.declared.call.State.{State}
use Rattle.callcontrol.specs.declared.call.Path.{Path}
use Rattle.callcontrol.specs.Call.{runs, T301, T302, T303, T306, T308, T310, T311}
use Rattle.callcontrol.specs.Draft.{Draft, ◌▷◌, draft, no_row, cancel, stop, start, tell, say, over, plane, expired}
use Rattle.callcontrol.specs.Rows.{idle, mo_call_setup, mt_call_setup, demands, ceases, active_up, active_broken, active_restoring, wait, call_disconnect, expiry, timed_out, active_expiry, confirmed, active, row_for}
use Rattle.callcontrol.specs.Rows.{in_state as state_row}
use Rattle.callcontrol.specs.Settle.{draft_of, row_of, STAY, CANCEL, STOP_303, RELEASE_CONFIRM, RELEASE_INDICATION, OVER, U_CONNECT, START_301, restarting, code_after, slots_after}
use Rattle.callcontrol.proofs.Verbs.{verbs}
use Rattle.callcontrol.proofs.Settled.{numbers, releasing_is, released_is, disconnected_is, timed_out_301_is, timed_out_302_is, timed_out_303_is, timed_out_306_is, timed_out_310_is, setup_request_is, d_setup_is, proceeding_is, alert_is, connected_is, reported_is, acknowledged_is, demanded_is, ceased_is, withdrawn_is, informed_same_is, informed_other_is, granted_is, tx_ceased_is, interrupted_for_is, interrupted_is, paused_is, cut_is, spoken_out_is, reasked_is, resumed_is, restored_is, broken_again_is, continued_is, continued_off_is, pause_cut_is, disconnected_unsent_is, released_unsent_is, confirmed_is, confirmed_late_is}
use Rattle.small.specs.declared.flat.Flat.{Flat}
use Rattle.small.specs.Flat.{SETUP_RESPONSE, RELEASE_REQUEST, TX_REQUEST, D_CONNECT_ACKNOWLEDGE, D_INFO, D_TX_INTERRUPT, D_TX_CONTINUE, D_DISCONNECT, D_RELEASE, REPORT_SENT, REPORT_FAILED, EXPIRY, EXPIRY_308, EXPIRY_311, EXPIRY_NONE, late, flat_of, expired_of, bare, named, flat}
use Rattle.small.specs.Table.{AT_IDLE, AT_MO, AT_MT, AT_UP, AT_BROKEN, AT_RESTORING, AT_WAIT, AT_DISCONNECT, on_path, in_state, facts_of, fits, first_of, rows}
use Rattle.small.specs.Line.{row_or, row_by, orders_by, plane_by, asked_by, value_by, code_by, expired_by, table_row}

-- what a line says, computed
unfoldable line : Unit {0}
unfolding flat_of facts_of fits first_of rows row_or row_by orders_by plane_by asked_by value_by code_by expired_by restarting code_after slots_after
line = tt

-- the draft for an event in a situation
abbrev of : ℕ → Call → Flat → Draft
of s c f = draft_of c (row_or (first_of s f.kind (facts_of c f) rows) c f)

-- the same with one guard given
abbrev with : ℕ → Call → Flat → ℕ → Bool → Draft
with s c f g b = draft_of c (row_or (first_of s f.kind (set (facts_of c f) g b) rows) c f)

-- a guard

pick : (G : Bool → Draft) (b : Bool) {x y : Draft} → G true ≡ x → G false ≡ y → G b ≡ cond b x y
pick G true p q = p
pick G false p q = q

pick_not : (G : Bool → Draft) (b : Bool) {x y : Draft} → G true ≡ x → G false ≡ y → G (not b) ≡ cond b y x
pick_not G true p q = q
pick_not G false p q = p

either : (G : Bool → Draft) (b : Bool) {x : Draft} → (b ≡ true → G true ≡ x) → (b ≡ false → G false ≡ x) → G b ≡ x
either G true p q = p refl
either G false p q = q refl

both : (G H : Bool → Draft) (b : Bool) → G true ≡ H true → G false ≡ H false → G b ≡ H b
both G H true p q = p
both G H false p q = q

-- the three guards of TX request
asks_or_stops : (G : Bool → Bool → Bool → Draft) (k d p a : Bool) {x y z w : Draft} → ((u v : Bool) → G true u v ≡ x) → ((v : Bool) → G false true v ≡ y) → G false false true ≡ z → G false false false ≡ w → G (k && d) (not k && p) (not k && a) ≡ cond k (cond d x w) (cond p y (cond a z w))
asks_or_stops G true true p a hx hy hz hw = hx false false
asks_or_stops G true false p a hx hy hz hw = hw
asks_or_stops G false d true a hx hy hz hw = hy a
asks_or_stops G false d false true hx hy hz hw = hz
asks_or_stops G false d false false hx hy hz hw = hw

eqb-true : (m n : ℕ) → eqb m n ≡ true → m ≡ n
eqb-true m n e = eqb→eq m n (subst T (sym e) tt)

-- an expiry, by its timer

past : (G : Flat → Draft) (F : ℕ → Draft) (n m : ℕ) (b : Bool) → eqb n m ≡ b → {x y : Flat} → G x ≡ F m → (eqb n m ≡ false → G y ≡ F n) → G (cond b x y) ≡ F n
past G F n m true e p q = p ∙ ap F (sym (eqb-true n m e))
past G F n m false e p q = q e

by_timer : (c : Call) (n : ℕ) (G : Flat → Draft) (F : ℕ → Draft) → G (late EXPIRY_311 c T311) ≡ F 311 → G (late EXPIRY_308 c T308) ≡ F 308 → G (late EXPIRY c T301) ≡ F 301 → G (late EXPIRY c T302) ≡ F 302 → G (late EXPIRY c T303) ≡ F 303 → G (late EXPIRY c T306) ≡ F 306 → G (late EXPIRY c T310) ≡ F 310 → (eqb n 311 ≡ false → eqb n 308 ≡ false → eqb n 301 ≡ false → eqb n 302 ≡ false → eqb n 303 ≡ false → eqb n 306 ≡ false → eqb n 310 ≡ false → G (late EXPIRY_NONE c T301) ≡ F n) → G (expired_of c n) ≡ F n
unfolding expired_of
by_timer c n G F p311 p308 p301 p302 p303 p306 p310 rest =
    past G F n 311 (eqb n 311) refl p311
    (λ e311. past G F n 308 (eqb n 308) refl p308
    (λ e308. past G F n 301 (eqb n 301) refl p301
    (λ e301. past G F n 302 (eqb n 302) refl p302
    (λ e302. past G F n 303 (eqb n 303) refl p303
    (λ e303. past G F n 306 (eqb n 306) refl p306
    (λ e306. past G F n 310 (eqb n 310) refl p310 (λ e310. rest e311 e308 e301 e302 e303 e306 e310)))))))

no_timer : (c : Call) (n : ℕ) → eqb n 301 ≡ false → eqb n 302 ≡ false → eqb n 303 ≡ false → eqb n 306 ≡ false → eqb n 310 ≡ false → expiry n c ≡ no_row c
unfolding expiry
no_timer c n e301 e302 e303 e306 e310 = rw (e301, e302, e303, e306, e310) refl

-- a row with a plane and no more
end0 : (c : Call) (x i a m q o s v : ℕ) (d : Draft) → draft_of c (Some (record { orders = x; id = i; address = a; mode = m; asked = q; code = o; slots = s; value = v })) ≡ d → draft_of c (Some (record { orders = x + 0; id = i; address = a; mode = m; asked = q; code = o; slots = s; value = v })) ≡ d
end0 c x i a m q o s v d p = rw (add-zero x) p

none_is : (c : Call) → draft_of c None ≡ no_row c
none_is c = refl

-- rows that Settled says with their guard

takes_back_is : (c : Call) → draft_of c (Some (row_of c (CANCEL + STOP_303 + RELEASE_CONFIRM + OVER) 0)) ≡ draft c ▷ cancel ▷ stop T303 ▷ tell Message.ReleaseConfirm ▷ over
unfolding verbs numbers
takes_back_is c = refl

fails_is : (c : Call) → draft_of c (Some (row_of c (STOP_303 + RELEASE_INDICATION + OVER) 4)) ≡ draft c ▷ stop T303 ▷ tell (Message.ReleaseIndication 4) ▷ over
unfolding verbs numbers
fails_is c = refl

answers_is : (c : Call) → draft_of c (Some (row_of c (STAY + U_CONNECT + START_301) 0)) ≡ draft c ▷ say (Message.UConnect c.id) ▷ start T301
unfolding verbs numbers
answers_is c = refl

abbrev transmit : Call → ℕ → Bool → Bool → Bool → Draft
transmit c k u v w =
    draft_of c
    (row_or
    (first_of AT_UP TX_REQUEST (set (set (set (facts_of c (flat TX_REQUEST c.address c.id c.mode k 0 0 c.code 0 0)) 3 u) 4 v) 5 w) rows)
    c
    (flat TX_REQUEST c.address c.id c.mode k 0 0 c.code 0 0))

in_idle : (c : Call) (e : Event) → of AT_IDLE c (flat_of c e) ≡ idle c e
unfolding line idle
in_idle c (Event.SetupRequest a d q s) = setup_request_is c a d q s
in_idle c Event.SetupResponse = none_is c
in_idle c Event.ReleaseRequest = none_is c
in_idle c (Event.TxRequest k) = none_is c
in_idle c (Event.DCallProceeding i) = none_is c
in_idle c (Event.DAlert i) = none_is c
in_idle c (Event.DConnect i g d o s) = none_is c
in_idle c (Event.DConnectAcknowledge i g o) = none_is c
in_idle c (Event.DSetup i a d) = d_setup_is c i a d
in_idle c (Event.DInfo i r o d s) = none_is c
in_idle c (Event.DTxGranted i g) = none_is c
in_idle c (Event.DTxCeased i) = none_is c
in_idle c (Event.DTxInterrupt i g) = none_is c
in_idle c (Event.DTxWait i) = none_is c
in_idle c (Event.DTxContinue i k) = none_is c
in_idle c (Event.DCallRestore i g r o) = none_is c
in_idle c (Event.DDisconnect i) = none_is c
in_idle c (Event.DRelease i) = none_is c
in_idle c Event.ReportSent = none_is c
in_idle c Event.ReportFailed = none_is c
in_idle c Event.Break = none_is c
in_idle c Event.Resume = none_is c
in_idle c (Event.Expiry n) = by_timer c n (of AT_IDLE c) (λ m. no_row c) (none_is c) (none_is c) (none_is c) (none_is c) (none_is c) (none_is c) (none_is c) (λ e311 e308 e301 e302 e303 e306 e310. none_is c)

in_mo : (c : Call) (e : Event) → of AT_MO c (flat_of c e) ≡ mo_call_setup c e
unfolding line mo_call_setup expiry timed_out
in_mo c (Event.SetupRequest a d q s) = none_is c
in_mo c Event.SetupResponse = none_is c
in_mo c Event.ReleaseRequest = pick (with AT_MO c (bare RELEASE_REQUEST c) 1) (eqb c.sent 0) (takes_back_is c) (releasing_is c)
in_mo c (Event.TxRequest k) = none_is c
in_mo c (Event.DCallProceeding i) = proceeding_is c i
in_mo c (Event.DAlert i) = alert_is c i
in_mo c (Event.DConnect i g d o s) = end0 c _ _ _ _ _ _ _ _ _ (connected_is c i g d o s)
in_mo c (Event.DConnectAcknowledge i g o) = none_is c
in_mo c (Event.DSetup i a d) = none_is c
in_mo c (Event.DInfo i r o d s) = none_is c
in_mo c (Event.DTxGranted i g) = none_is c
in_mo c (Event.DTxCeased i) = none_is c
in_mo c (Event.DTxInterrupt i g) = none_is c
in_mo c (Event.DTxWait i) = none_is c
in_mo c (Event.DTxContinue i k) = none_is c
in_mo c (Event.DCallRestore i g r o) = none_is c
in_mo c (Event.DDisconnect i) = disconnected_is c i
in_mo c (Event.DRelease i) = released_is c
in_mo c Event.ReportSent = pick (with AT_MO c (bare REPORT_SENT c) 1) (eqb c.sent 0) (reported_is c) (none_is c)
in_mo c Event.ReportFailed = pick (with AT_MO c (bare REPORT_FAILED c) 1) (eqb c.sent 0) (fails_is c) (none_is c)
in_mo c Event.Break = none_is c
in_mo c Event.Resume = none_is c
in_mo c (Event.Expiry n) = by_timer c n (of AT_MO c) (λ m. expiry m c) (none_is c) (none_is c) (pick (with AT_MO c (late EXPIRY c T301) 0) (runs c T301) (timed_out_301_is c) (none_is c)) (pick (with AT_MO c (late EXPIRY c T302) 0) (runs c T302) (timed_out_302_is c) (none_is c)) (pick (with AT_MO c (late EXPIRY c T303) 0) (runs c T303) (timed_out_303_is c) (none_is c)) (pick (with AT_MO c (late EXPIRY c T306) 0) (runs c T306) (timed_out_306_is c) (none_is c)) (pick (with AT_MO c (late EXPIRY c T310) 0) (runs c T310) (timed_out_310_is c) (none_is c)) (λ e311 e308 e301 e302 e303 e306 e310. none_is c ∙ sym (no_timer c n e301 e302 e303 e306 e310))

in_mt : (c : Call) (e : Event) → of AT_MT c (flat_of c e) ≡ mt_call_setup c e
unfolding line mt_call_setup expiry timed_out
in_mt c (Event.SetupRequest a d q s) = none_is c
in_mt c Event.SetupResponse = pick_not (with AT_MT c (bare SETUP_RESPONSE c) 2) (runs c T301) (answers_is c) (none_is c)
in_mt c Event.ReleaseRequest = releasing_is c
in_mt c (Event.TxRequest k) = none_is c
in_mt c (Event.DCallProceeding i) = none_is c
in_mt c (Event.DAlert i) = none_is c
in_mt c (Event.DConnect i g d o s) = none_is c
in_mt c (Event.DConnectAcknowledge i g o) = pick (with AT_MT c (flat D_CONNECT_ACKNOWLEDGE c.address i c.mode c.asked g 0 o 0 0) 2) (runs c T301) (end0 c _ _ _ _ _ _ _ _ _ (acknowledged_is c g o)) (none_is c)
in_mt c (Event.DSetup i a d) = none_is c
in_mt c (Event.DInfo i r o d s) = none_is c
in_mt c (Event.DTxGranted i g) = none_is c
in_mt c (Event.DTxCeased i) = none_is c
in_mt c (Event.DTxInterrupt i g) = none_is c
in_mt c (Event.DTxWait i) = none_is c
in_mt c (Event.DTxContinue i k) = none_is c
in_mt c (Event.DCallRestore i g r o) = none_is c
in_mt c (Event.DDisconnect i) = disconnected_is c i
in_mt c (Event.DRelease i) = released_is c
in_mt c Event.ReportSent = none_is c
in_mt c Event.ReportFailed = none_is c
in_mt c Event.Break = none_is c
in_mt c Event.Resume = none_is c
in_mt c (Event.Expiry n) = by_timer c n (of AT_MT c) (λ m. expiry m c) (none_is c) (none_is c) (pick (with AT_MT c (late EXPIRY c T301) 0) (runs c T301) (timed_out_301_is c) (none_is c)) (pick (with AT_MT c (late EXPIRY c T302) 0) (runs c T302) (timed_out_302_is c) (none_is c)) (pick (with AT_MT c (late EXPIRY c T303) 0) (runs c T303) (timed_out_303_is c) (none_is c)) (pick (with AT_MT c (late EXPIRY c T306) 0) (runs c T306) (timed_out_306_is c) (none_is c)) (pick (with AT_MT c (late EXPIRY c T310) 0) (runs c T310) (timed_out_310_is c) (none_is c)) (λ e311 e308 e301 e302 e303 e306 e310. none_is c ∙ sym (no_timer c n e301 e302 e303 e306 e310))

in_up : (c : Call) (e : Event) → of AT_UP c (flat_of c e) ≡ active_up c e
unfolding line active_up demands ceases active_expiry expiry timed_out
in_up c (Event.SetupRequest a d q s) = none_is c
in_up c Event.SetupResponse = none_is c
in_up c Event.ReleaseRequest = releasing_is c
in_up c (Event.TxRequest k) = asks_or_stops (transmit c k) (eqb k 1) (eqb c.asked 0 && (eqb c.plane 2 || eqb c.plane 4)) (eqb c.plane 1) (eqb c.asked 1) (λ u v. demanded_is c) (λ v. ceased_is c) (withdrawn_is c) (none_is c)
in_up c (Event.DCallProceeding i) = none_is c
in_up c (Event.DAlert i) = none_is c
in_up c (Event.DConnect i g d o s) = none_is c
in_up c (Event.DConnectAcknowledge i g o) = none_is c
in_up c (Event.DSetup i a d) = none_is c
in_up c (Event.DInfo i r o d s) = either (with AT_UP c (flat D_INFO c.address i d c.asked 0 r o s 0) 7) (eqb d c.mode) (λ e. informed_same_is c r o d s (eqb-true d c.mode e)) (λ e. informed_other_is c r o d s e)
in_up c (Event.DTxGranted i g) = end0 c _ _ _ _ _ _ _ _ _ (granted_is c g)
in_up c (Event.DTxCeased i) = tx_ceased_is c
in_up c (Event.DTxInterrupt i g) = both (with AT_UP c (flat D_TX_INTERRUPT c.address i c.mode c.asked g 0 c.code 0 0) 7) (λ b. draft c ▷ plane (cond b 2 4) ▷ tell (Message.TxIndication 5)) (eqb g 3) (interrupted_for_is c) (interrupted_is c)
in_up c (Event.DTxWait i) = paused_is c
in_up c (Event.DTxContinue i k) = none_is c
in_up c (Event.DCallRestore i g r o) = none_is c
in_up c (Event.DDisconnect i) = disconnected_is c i
in_up c (Event.DRelease i) = released_is c
in_up c Event.ReportSent = none_is c
in_up c Event.ReportFailed = none_is c
in_up c Event.Break = cut_is c
in_up c Event.Resume = none_is c
in_up c (Event.Expiry n) = by_timer c n (of AT_UP c) (λ m. active_expiry m c) (pick (with AT_UP c (late EXPIRY_311 c T311) 0) (runs c T311) (spoken_out_is c) (none_is c)) (none_is c) (pick (with AT_UP c (late EXPIRY c T301) 0) (runs c T301) (timed_out_301_is c) (none_is c)) (pick (with AT_UP c (late EXPIRY c T302) 0) (runs c T302) (timed_out_302_is c) (none_is c)) (pick (with AT_UP c (late EXPIRY c T303) 0) (runs c T303) (timed_out_303_is c) (none_is c)) (pick (with AT_UP c (late EXPIRY c T306) 0) (runs c T306) (timed_out_306_is c) (none_is c)) (pick (with AT_UP c (late EXPIRY c T310) 0) (runs c T310) (timed_out_310_is c) (none_is c)) (λ e311 e308 e301 e302 e303 e306 e310. none_is c ∙ sym (rw e311 (no_timer c n e301 e302 e303 e306 e310)))

in_broken : (c : Call) (e : Event) → of AT_BROKEN c (flat_of c e) ≡ active_broken c e
unfolding line active_broken expiry timed_out
in_broken c (Event.SetupRequest a d q s) = none_is c
in_broken c Event.SetupResponse = none_is c
in_broken c Event.ReleaseRequest = releasing_is c
in_broken c (Event.TxRequest k) = pick_not (with AT_BROKEN c (flat TX_REQUEST c.address c.id c.mode k 0 0 c.code 0 0) 6) (eqb c.asked k) (reasked_is c k) (none_is c)
in_broken c (Event.DCallProceeding i) = none_is c
in_broken c (Event.DAlert i) = none_is c
in_broken c (Event.DConnect i g d o s) = none_is c
in_broken c (Event.DConnectAcknowledge i g o) = none_is c
in_broken c (Event.DSetup i a d) = none_is c
in_broken c (Event.DInfo i r o d s) = none_is c
in_broken c (Event.DTxGranted i g) = none_is c
in_broken c (Event.DTxCeased i) = none_is c
in_broken c (Event.DTxInterrupt i g) = none_is c
in_broken c (Event.DTxWait i) = none_is c
in_broken c (Event.DTxContinue i k) = none_is c
in_broken c (Event.DCallRestore i g r o) = none_is c
in_broken c (Event.DDisconnect i) = disconnected_is c i
in_broken c (Event.DRelease i) = released_is c
in_broken c Event.ReportSent = none_is c
in_broken c Event.ReportFailed = none_is c
in_broken c Event.Break = none_is c
in_broken c Event.Resume = resumed_is c
in_broken c (Event.Expiry n) = by_timer c n (of AT_BROKEN c) (λ m. expiry m c) (none_is c) (none_is c) (pick (with AT_BROKEN c (late EXPIRY c T301) 0) (runs c T301) (timed_out_301_is c) (none_is c)) (pick (with AT_BROKEN c (late EXPIRY c T302) 0) (runs c T302) (timed_out_302_is c) (none_is c)) (pick (with AT_BROKEN c (late EXPIRY c T303) 0) (runs c T303) (timed_out_303_is c) (none_is c)) (pick (with AT_BROKEN c (late EXPIRY c T306) 0) (runs c T306) (timed_out_306_is c) (none_is c)) (pick (with AT_BROKEN c (late EXPIRY c T310) 0) (runs c T310) (timed_out_310_is c) (none_is c)) (λ e311 e308 e301 e302 e303 e306 e310. none_is c ∙ sym (no_timer c n e301 e302 e303 e306 e310))

in_restoring : (c : Call) (e : Event) → of AT_RESTORING c (flat_of c e) ≡ active_restoring c e
unfolding line active_restoring expiry timed_out
in_restoring c (Event.SetupRequest a d q s) = none_is c
in_restoring c Event.SetupResponse = none_is c
in_restoring c Event.ReleaseRequest = releasing_is c
in_restoring c (Event.TxRequest k) = none_is c
in_restoring c (Event.DCallProceeding i) = none_is c
in_restoring c (Event.DAlert i) = none_is c
in_restoring c (Event.DConnect i g d o s) = none_is c
in_restoring c (Event.DConnectAcknowledge i g o) = none_is c
in_restoring c (Event.DSetup i a d) = none_is c
in_restoring c (Event.DInfo i r o d s) = none_is c
in_restoring c (Event.DTxGranted i g) = none_is c
in_restoring c (Event.DTxCeased i) = none_is c
in_restoring c (Event.DTxInterrupt i g) = none_is c
in_restoring c (Event.DTxWait i) = none_is c
in_restoring c (Event.DTxContinue i k) = none_is c
in_restoring c (Event.DCallRestore i g r o) = restored_is c g r o
in_restoring c (Event.DDisconnect i) = disconnected_is c i
in_restoring c (Event.DRelease i) = released_is c
in_restoring c Event.ReportSent = none_is c
in_restoring c Event.ReportFailed = none_is c
in_restoring c Event.Break = broken_again_is c
in_restoring c Event.Resume = none_is c
in_restoring c (Event.Expiry n) = by_timer c n (of AT_RESTORING c) (λ m. expiry m c) (none_is c) (none_is c) (pick (with AT_RESTORING c (late EXPIRY c T301) 0) (runs c T301) (timed_out_301_is c) (none_is c)) (pick (with AT_RESTORING c (late EXPIRY c T302) 0) (runs c T302) (timed_out_302_is c) (none_is c)) (pick (with AT_RESTORING c (late EXPIRY c T303) 0) (runs c T303) (timed_out_303_is c) (none_is c)) (pick (with AT_RESTORING c (late EXPIRY c T306) 0) (runs c T306) (timed_out_306_is c) (none_is c)) (pick (with AT_RESTORING c (late EXPIRY c T310) 0) (runs c T310) (timed_out_310_is c) (none_is c)) (λ e311 e308 e301 e302 e303 e306 e310. none_is c ∙ sym (no_timer c n e301 e302 e303 e306 e310))

in_wait : (c : Call) (e : Event) → of AT_WAIT c (flat_of c e) ≡ wait c e
unfolding line wait expiry timed_out
in_wait c (Event.SetupRequest a d q s) = none_is c
in_wait c Event.SetupResponse = none_is c
in_wait c Event.ReleaseRequest = releasing_is c
in_wait c (Event.TxRequest k) = none_is c
in_wait c (Event.DCallProceeding i) = none_is c
in_wait c (Event.DAlert i) = none_is c
in_wait c (Event.DConnect i g d o s) = none_is c
in_wait c (Event.DConnectAcknowledge i g o) = none_is c
in_wait c (Event.DSetup i a d) = none_is c
in_wait c (Event.DInfo i r o d s) = none_is c
in_wait c (Event.DTxGranted i g) = none_is c
in_wait c (Event.DTxCeased i) = none_is c
in_wait c (Event.DTxInterrupt i g) = none_is c
in_wait c (Event.DTxWait i) = none_is c
in_wait c (Event.DTxContinue i k) = pick (with AT_WAIT c (flat D_TX_CONTINUE c.address i c.mode k 0 0 c.code 0 0) 7) (eqb k 1) (continued_is c) (continued_off_is c)
in_wait c (Event.DCallRestore i g r o) = none_is c
in_wait c (Event.DDisconnect i) = disconnected_is c i
in_wait c (Event.DRelease i) = released_is c
in_wait c Event.ReportSent = none_is c
in_wait c Event.ReportFailed = none_is c
in_wait c Event.Break = pause_cut_is c
in_wait c Event.Resume = none_is c
in_wait c (Event.Expiry n) = by_timer c n (of AT_WAIT c) (λ m. expiry m c) (none_is c) (none_is c) (pick (with AT_WAIT c (late EXPIRY c T301) 0) (runs c T301) (timed_out_301_is c) (none_is c)) (pick (with AT_WAIT c (late EXPIRY c T302) 0) (runs c T302) (timed_out_302_is c) (none_is c)) (pick (with AT_WAIT c (late EXPIRY c T303) 0) (runs c T303) (timed_out_303_is c) (none_is c)) (pick (with AT_WAIT c (late EXPIRY c T306) 0) (runs c T306) (timed_out_306_is c) (none_is c)) (pick (with AT_WAIT c (late EXPIRY c T310) 0) (runs c T310) (timed_out_310_is c) (none_is c)) (λ e311 e308 e301 e302 e303 e306 e310. none_is c ∙ sym (no_timer c n e301 e302 e303 e306 e310))

in_disconnect : (c : Call) (e : Event) → of AT_DISCONNECT c (flat_of c e) ≡ call_disconnect c e
unfolding line call_disconnect
in_disconnect c (Event.SetupRequest a d q s) = none_is c
in_disconnect c Event.SetupResponse = none_is c
in_disconnect c Event.ReleaseRequest = none_is c
in_disconnect c (Event.TxRequest k) = none_is c
in_disconnect c (Event.DCallProceeding i) = none_is c
in_disconnect c (Event.DAlert i) = none_is c
in_disconnect c (Event.DConnect i g d o s) = none_is c
in_disconnect c (Event.DConnectAcknowledge i g o) = none_is c
in_disconnect c (Event.DSetup i a d) = none_is c
in_disconnect c (Event.DInfo i r o d s) = none_is c
in_disconnect c (Event.DTxGranted i g) = none_is c
in_disconnect c (Event.DTxCeased i) = none_is c
in_disconnect c (Event.DTxInterrupt i g) = none_is c
in_disconnect c (Event.DTxWait i) = none_is c
in_disconnect c (Event.DTxContinue i k) = none_is c
in_disconnect c (Event.DCallRestore i g r o) = none_is c
in_disconnect c (Event.DDisconnect i) = pick (with AT_DISCONNECT c (named D_DISCONNECT c i) 1) (eqb c.sent 0) (disconnected_unsent_is c i) (disconnected_is c i)
in_disconnect c (Event.DRelease i) = pick (with AT_DISCONNECT c (named D_RELEASE c i) 1) (eqb c.sent 0) (released_unsent_is c) (confirmed_is c)
in_disconnect c Event.ReportSent = pick (with AT_DISCONNECT c (bare REPORT_SENT c) 1) (eqb c.sent 0) (reported_is c) (none_is c)
in_disconnect c Event.ReportFailed = pick (with AT_DISCONNECT c (bare REPORT_FAILED c) 1) (eqb c.sent 0) (confirmed_is c) (none_is c)
in_disconnect c Event.Break = none_is c
in_disconnect c Event.Resume = none_is c
in_disconnect c (Event.Expiry n) = by_timer c n (of AT_DISCONNECT c) (λ m. cond (eqb m 308 && runs c T308) (draft c ▷ expired T308 ▷ confirmed) (no_row c)) (none_is c) (pick (with AT_DISCONNECT c (late EXPIRY_308 c T308) 0) (runs c T308) (confirmed_late_is c) (none_is c)) (none_is c) (none_is c) (none_is c) (none_is c) (none_is c) (λ e311 e308 e301 e302 e303 e306 e310. rw e308 (none_is c))

in_path : (p : Path) (c : Call) (e : Event) → of (on_path p) c (flat_of c e) ≡ active p c e
unfolding active
in_path Path.Up c e = in_up c e
in_path Path.Broken c e = in_broken c e
in_path Path.Restoring c e = in_restoring c e

in_state_lem : (s : State) (c : Call) (e : Event) → of (in_state s c.path) c (flat_of c e) ≡ state_row s c e
unfolding state_row
in_state_lem State.Idle c e = in_idle c e
in_state_lem State.MoCallSetup c e = in_mo c e
in_state_lem State.MtCallSetup c e = in_mt c e
in_state_lem State.CallActive c e = in_path c.path c e
in_state_lem State.Wait c e = in_wait c e
in_state_lem State.CallDisconnect c e = in_disconnect c e

-- the table's row is the definitions' row
pub same : (c : Call) (e : Event) → draft_of c (table_row c (flat_of c e)) ≡ row_for c e
unfolding table_row row_for
same c e = in_state_lem c.state c e
