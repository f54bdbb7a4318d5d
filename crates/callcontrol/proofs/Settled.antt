-- Each row of the code, a sum of orders, stands for the row of the definitions.
use Prim.Native.Nat.{ℕ, zero, suc, ◌+◌, ◌<◌}
use mathlib.Core.Path.{◌≡◌, refl, ap, ◌∙◌}
use Rattle.std.specs.Prelude.{Some, None}
use mathlib.Core.Bool.{Bool, true, false, cond, not}
use mathlib.Core.List.{List, [], ◌∷◌}
use borrow.Author.Tests.{eq-eqb, ne_eqb}
use native.Mathlib.Omega.{arith}
use lib.Dec.{eqb}
use lib.ListN.{get_or, set}
use Rattle.records.specs.declared.events.Event.{Event}
use Rattle.records.specs.declared.messages.Message.{Message}
use Rattle.callcontrol.specs.declared.call.Call.{Call}
use Rattle.callcontrol.specs.declared.call.State.{State}
use Rattle.callcontrol.specs.declared.call.Path.{Path}
use Rattle.callcontrol.specs.Draft.{Draft}
use Rattle.callcontrol.specs.Call.{runs, transmits, T301, T302, T303, T306, T308, T310, T311}
use Rattle.callcontrol.specs.Draft.{◌▷◌, draft, no_row, go, on_path, store_id, store_mode, store_asked, store_sent, store_code, store_slots, keep, stop, start, expired, release, same_plane, plane, off, say, tell, tell_modified, grant, grant_or_off, restart, cancel}
use Rattle.callcontrol.specs.Rows.{releasing, released, disconnected, idle, mo_call_setup, mt_call_setup, informed, cut, asks, active_broken, active_restoring, wait, confirmed}
use Rattle.callcontrol.specs.Settle.{STAY, MO_CALL_SETUP, MT_CALL_SETUP, CALL_ACTIVE, WAIT, OVER, UP, BROKEN, RESTORING, SENT, PLANE_1, PLANE_2, PLANE_3, PLANE_OFF, SAME_PLANE, KEPT_PLANE, U_SETUP, U_CONNECT, U_RELEASE, U_TX_DEMAND, U_TX_CEASED, U_CALL_RESTORE, SETUP_INDICATION, SETUP_CONFIRM, PROCEED, ALERT, COMPLETE, RELEASE_INDICATION, RELEASE_CONFIRM, TX_INDICATION, MODIFY_INDICATION, CANCEL, STOP_301, STOP_302, STOP_303, STOP_306, START_301, START_302, START_303, START_306, START_310, EXPIRED_301, EXPIRED_302, EXPIRED_303, EXPIRED_306, EXPIRED_308, EXPIRED_310, EXPIRED_311, ENDED, CONFIRMED, RELEASE, has, timing, expire_timer, stop_timer, start_timer, stop_if, start_if, limit_timer, limit_if, expired_by, ordered_by, plane_timer, timing_by, configure_by, plane_by, state_by, kept_by, path_by, sent_by, next_by, pdu_by, user_by, settled, draft_of, row_of, row_asking, row_naming, plane_granted, plane_or_off, asked_after, restarting, code_after, slots_after}
use Rattle.callcontrol.proofs.Verbs.{verbs}

unfoldable pub numbers : Unit {0}
unfolding has timing expire_timer stop_timer start_timer stop_if start_if limit_timer limit_if expired_by ordered_by plane_timer timing_by configure_by plane_by state_by kept_by path_by sent_by next_by pdu_by user_by settled slots_after
numbers = tt

pub releasing_is : (c : Call) → settled c (row_asking c RELEASE 0 1) ≡ releasing c
unfolding verbs numbers releasing
releasing_is c = refl

pub released_is : (c : Call) → settled c (row_of c ENDED 3) ≡ released c
unfolding verbs numbers released
released_is c = refl

pub disconnected_is : (c : Call) (i : ℕ) → settled c (row_naming c (ENDED + U_RELEASE) i 3) ≡ disconnected i c
unfolding verbs numbers disconnected
disconnected_is c i = refl

pub timed_out_301_is : (c : Call) → settled c (row_asking c (EXPIRED_301 + RELEASE + RELEASE_INDICATION) 0 2) ≡ draft c ▷ expired T301 ▷ release 2 ▷ tell (Message.ReleaseIndication 2)
unfolding verbs numbers
timed_out_301_is c = refl

pub timed_out_302_is : (c : Call) → settled c (row_asking c (EXPIRED_302 + RELEASE + RELEASE_INDICATION) 0 2) ≡ draft c ▷ expired T302 ▷ release 2 ▷ tell (Message.ReleaseIndication 2)
unfolding verbs numbers
timed_out_302_is c = refl

pub timed_out_303_is : (c : Call) → settled c (row_asking c (EXPIRED_303 + RELEASE + RELEASE_INDICATION) 0 2) ≡ draft c ▷ expired T303 ▷ release 2 ▷ tell (Message.ReleaseIndication 2)
unfolding verbs numbers
timed_out_303_is c = refl

pub timed_out_306_is : (c : Call) → settled c (row_asking c (EXPIRED_306 + RELEASE + RELEASE_INDICATION) 0 2) ≡ draft c ▷ expired T306 ▷ release 2 ▷ tell (Message.ReleaseIndication 2)
unfolding verbs numbers
timed_out_306_is c = refl

pub timed_out_310_is : (c : Call) → settled c (row_asking c (EXPIRED_310 + RELEASE + RELEASE_INDICATION) 0 2) ≡ draft c ▷ expired T310 ▷ release 2 ▷ tell (Message.ReleaseIndication 2)
unfolding verbs numbers
timed_out_310_is c = refl

-- IDLE

pub setup_request_is : (c : Call) (a d q s : ℕ) → settled c (record { orders = MO_CALL_SETUP + U_SETUP + START_303; id = c.id; address = a; mode = d; asked = q; code = c.code; slots = slots_after s c.slots; value = s }) ≡ idle c (Event.SetupRequest a d q s)
unfolding verbs numbers idle
setup_request_is c a d q s = refl

pub d_setup_is : (c : Call) (i a d : ℕ) → settled c (record { orders = MT_CALL_SETUP + SETUP_INDICATION; id = i; address = a; mode = d; asked = c.asked; code = c.code; slots = c.slots; value = 0 }) ≡ idle c (Event.DSetup i a d)
unfolding verbs numbers idle
d_setup_is c i a d = refl

-- MO-CALL-SETUP

pub cancelled_is : (c : Call) → eqb c.sent 0 ≡ true → settled c (row_of c (CANCEL + STOP_303 + RELEASE_CONFIRM + OVER) 0) ≡ mo_call_setup c Event.ReleaseRequest
unfolding verbs numbers mo_call_setup
cancelled_is c e = rw e refl

pub proceeding_is : (c : Call) (i : ℕ) → settled c (row_naming c (STAY + SENT + STOP_303 + START_302 + PROCEED) i 0) ≡ mo_call_setup c (Event.DCallProceeding i)
unfolding verbs numbers mo_call_setup
proceeding_is c i = refl

pub alert_is : (c : Call) (i : ℕ) → settled c (row_naming c (STAY + SENT + STOP_303 + START_302 + ALERT) i 0) ≡ mo_call_setup c (Event.DAlert i)
unfolding verbs numbers mo_call_setup
alert_is c i = refl

-- grants

-- the six that rule G tells apart
data Granted : Type 0 where
  both one refused queued another neither : Granted

abbrev granting : ℕ → Bool → Granted
granting zero true = both
granting zero false = one
granting (suc zero) duplex = refused
granting (suc (suc zero)) duplex = queued
granting (suc (suc (suc zero))) duplex = another
granting (suc (suc (suc (suc g)))) duplex = neither

-- the plane's order, asked then, and what G does to a draft; with off for 1 and 2 where that is said
abbrev plane_of : Granted → ℕ
plane_of both = PLANE_3
plane_of one = PLANE_1
plane_of refused = 0
plane_of queued = 0
plane_of another = PLANE_2
plane_of neither = 0

abbrev plane_of_or : Granted → ℕ
plane_of_or both = PLANE_3
plane_of_or one = PLANE_1
plane_of_or refused = PLANE_OFF
plane_of_or queued = PLANE_OFF
plane_of_or another = PLANE_2
plane_of_or neither = 0

abbrev asked_of : Granted → ℕ → ℕ
asked_of both q = 0
asked_of one q = 0
asked_of refused q = 0
asked_of queued q = q
asked_of another q = q
asked_of neither q = q

abbrev given : Granted → Draft → Draft
given both d = d ▷ store_asked 0 ▷ plane 3
given one d = d ▷ store_asked 0 ▷ plane 1
given refused d = d ▷ store_asked 0
given queued d = d
given another d = d ▷ plane 2
given neither d = d

abbrev given_or : Granted → Draft → Draft
given_or both d = d ▷ store_asked 0 ▷ plane 3
given_or one d = d ▷ store_asked 0 ▷ plane 1
given_or refused d = d ▷ store_asked 0 ▷ off
given_or queued d = d ▷ off
given_or another d = d ▷ plane 2
given_or neither d = d

-- a grant above 3 is none of the four
above : (n k : ℕ) → k < 4 → eqb (suc (suc (suc (suc n)))) k ≡ false
above n k h = ne_eqb (suc (suc (suc (suc n)))) k (λ e. omega arith)

plane_is : (g d : ℕ) (duplex : Bool) → eqb d 1 ≡ duplex → plane_granted g d ≡ plane_of (granting g duplex)
unfolding plane_granted
plane_is zero d true e = rw e refl
plane_is zero d false e = rw e refl
plane_is (suc zero) d duplex e = refl
plane_is (suc (suc zero)) d duplex e = refl
plane_is (suc (suc (suc zero))) d duplex e = refl
plane_is (suc (suc (suc (suc n)))) d duplex e = rw (above n 0 (omega arith), above n 3 (omega arith)) refl

plane_or_off_is : (g d : ℕ) (duplex : Bool) → eqb d 1 ≡ duplex → plane_or_off g d ≡ plane_of_or (granting g duplex)
unfolding plane_granted plane_or_off
plane_or_off_is zero d true e = rw e refl
plane_or_off_is zero d false e = rw e refl
plane_or_off_is (suc zero) d duplex e = refl
plane_or_off_is (suc (suc zero)) d duplex e = refl
plane_or_off_is (suc (suc (suc zero))) d duplex e = refl
plane_or_off_is (suc (suc (suc (suc n)))) d duplex e =
    rw (above n 0 (omega arith), above n 1 (omega arith), above n 2 (omega arith), above n 3 (omega arith)) refl

asked_is : (g q : ℕ) (duplex : Bool) → asked_after g q ≡ asked_of (granting g duplex) q
unfolding asked_after
asked_is zero q true = refl
asked_is zero q false = refl
asked_is (suc zero) q duplex = refl
asked_is (suc (suc zero)) q duplex = refl
asked_is (suc (suc (suc zero))) q duplex = refl
asked_is (suc (suc (suc (suc n)))) q duplex = rw (above n 0 (omega arith), above n 1 (omega arith)) refl

grant_is : (g : ℕ) (d : Draft) (duplex : Bool) → eqb d.call.mode 1 ≡ duplex → given (granting g duplex) d ≡ grant g d
unfolding grant
grant_is zero d true e = rw e refl
grant_is zero d false e = rw e refl
grant_is (suc zero) d duplex e = refl
grant_is (suc (suc zero)) d duplex e = refl
grant_is (suc (suc (suc zero))) d duplex e = refl
grant_is (suc (suc (suc (suc n)))) d duplex e = rw (above n 0 (omega arith), above n 1 (omega arith), above n 3 (omega arith)) refl

grant_or_off_is : (g : ℕ) (d : Draft) (duplex : Bool) → eqb d.call.mode 1 ≡ duplex → given_or (granting g duplex) d ≡ grant_or_off g d
unfolding grant grant_or_off
grant_or_off_is zero d true e = rw e refl
grant_or_off_is zero d false e = rw e refl
grant_or_off_is (suc zero) d duplex e = refl
grant_or_off_is (suc (suc zero)) d duplex e = refl
grant_or_off_is (suc (suc (suc zero))) d duplex e = refl
grant_or_off_is (suc (suc (suc (suc n)))) d duplex e =
    rw (above n 0 (omega arith), above n 1 (omega arith), above n 2 (omega arith), above n 3 (omega arith)) refl

-- the drafts that G is asked of
abbrev connecting : Call → ℕ → ℕ → ℕ → ℕ → Draft
connecting c i d o s =
    draft c ▷ store_id i ▷ store_mode d ▷ store_code o ▷ store_slots s ▷ store_sent 1 ▷ go State.CallActive ▷ stop T302 ▷ stop T303 ▷ start T310

abbrev acknowledging : Call → ℕ → Draft
acknowledging c o = draft c ▷ store_code o ▷ go State.CallActive ▷ stop T301 ▷ start T310

abbrev restored : Call → Draft
restored c = draft c ▷ stop T306 ▷ on_path Path.Up

connecting_mode : (c : Call) (i d o s : ℕ) → eqb (connecting c i d o s).call.mode 1 ≡ eqb d 1
unfolding verbs
connecting_mode c i d o s = refl

acknowledging_mode : (c : Call) (o : ℕ) → eqb (acknowledging c o).call.mode 1 ≡ eqb c.mode 1
unfolding verbs
acknowledging_mode c o = refl

restored_mode : (c : Call) → eqb (restored c).call.mode 1 ≡ eqb c.mode 1
unfolding verbs
restored_mode c = refl

draft_mode : (c : Call) → eqb (draft c).call.mode 1 ≡ eqb c.mode 1
unfolding verbs
draft_mode c = refl

connected_by : (c : Call) (i g d o s : ℕ) (w : Granted) → settled c (record { orders = CALL_ACTIVE + SENT + STOP_302 + STOP_303 + START_310 + SETUP_CONFIRM + plane_of_or w; id = i; address = c.address; mode = d; asked = asked_of w c.asked; code = o; slots = slots_after s c.slots; value = g }) ≡ given_or w (connecting c i d o s) ▷ tell (Message.SetupConfirm i g)
unfolding verbs numbers
connected_by c i g d o s both = refl
connected_by c i g d o s one = refl
connected_by c i g d o s refused = refl
connected_by c i g d o s queued = refl
connected_by c i g d o s another = refl
connected_by c i g d o s neither = refl

pub connected_is : (c : Call) (i g d o s : ℕ) → settled c (record { orders = CALL_ACTIVE + SENT + STOP_302 + STOP_303 + START_310 + SETUP_CONFIRM + plane_or_off g d; id = i; address = c.address; mode = d; asked = asked_after g c.asked; code = o; slots = slots_after s c.slots; value = g }) ≡ mo_call_setup c (Event.DConnect i g d o s)
unfolding mo_call_setup
connected_is c i g d o s =
    rw (plane_or_off_is g d (eqb d 1) refl, asked_is g c.asked (eqb d 1))
    (connected_by c i g d o s (granting g (eqb d 1))
    ∙ ap (tell (Message.SetupConfirm i g)) (grant_or_off_is g (connecting c i d o s) (eqb d 1) (connecting_mode c i d o s)))

-- REPORTs, in MO-CALL-SETUP and CALL-DISCONNECT

pub reported_is : (c : Call) → settled c (row_of c (STAY + SENT) 0) ≡ draft c ▷ store_sent 1
unfolding verbs numbers
reported_is c = refl

pub failed_is : (c : Call) → eqb c.sent 0 ≡ true → settled c (row_of c (STOP_303 + RELEASE_INDICATION + OVER) 4) ≡ mo_call_setup c Event.ReportFailed
unfolding verbs numbers mo_call_setup
failed_is c e = rw e refl

-- MT-CALL-SETUP

pub responded_is : (c : Call) → runs c T301 ≡ false → settled c (row_of c (STAY + U_CONNECT + START_301) 0) ≡ mt_call_setup c Event.SetupResponse
unfolding verbs numbers mt_call_setup
responded_is c e = rw e refl

acknowledged_by : (c : Call) (g o : ℕ) (w : Granted) → settled c (record { orders = CALL_ACTIVE + STOP_301 + START_310 + COMPLETE + plane_of_or w; id = c.id; address = c.address; mode = c.mode; asked = asked_of w c.asked; code = o; slots = c.slots; value = g }) ≡ given_or w (acknowledging c o) ▷ tell (Message.Complete g)
unfolding verbs numbers
acknowledged_by c g o both = refl
acknowledged_by c g o one = refl
acknowledged_by c g o refused = refl
acknowledged_by c g o queued = refl
acknowledged_by c g o another = refl
acknowledged_by c g o neither = refl

pub acknowledged_is : (c : Call) (g o : ℕ) → settled c (record { orders = CALL_ACTIVE + STOP_301 + START_310 + COMPLETE + plane_or_off g c.mode; id = c.id; address = c.address; mode = c.mode; asked = asked_after g c.asked; code = o; slots = c.slots; value = g }) ≡ acknowledging c o ▷ grant_or_off g ▷ tell (Message.Complete g)
acknowledged_is c g o =
    rw (plane_or_off_is g c.mode (eqb c.mode 1) refl, asked_is g c.asked (eqb c.mode 1))
    (acknowledged_by c g o (granting g (eqb c.mode 1))
    ∙ ap (tell (Message.Complete g)) (grant_or_off_is g (acknowledging c o) (eqb c.mode 1) (acknowledging_mode c o)))

-- CALL-ACTIVE, path up

pub demanded_is : (c : Call) → settled c (row_asking c (STAY + U_TX_DEMAND) 1 0) ≡ draft c ▷ say (Message.UTxDemand c.id) ▷ store_asked 1
unfolding verbs numbers
demanded_is c = refl

pub ceased_is : (c : Call) → settled c (row_of c (STAY + U_TX_CEASED + PLANE_OFF) 0) ≡ draft c ▷ say (Message.UTxCeased c.id) ▷ off
unfolding verbs numbers
ceased_is c = refl

pub withdrawn_is : (c : Call) → settled c (row_asking c (STAY + U_TX_CEASED) 0 0) ≡ draft c ▷ say (Message.UTxCeased c.id) ▷ store_asked 0
unfolding verbs numbers
withdrawn_is c = refl

-- T310 anew: with the received code, with the held one, or left alone
data Restarted : Type 0 where
  anew held left : Restarted

abbrev restarted_by : Bool → Bool → Restarted
restarted_by true true = held
restarted_by true false = anew
restarted_by false absent = left

abbrev start_of : Restarted → ℕ
start_of anew = START_310
start_of held = START_310
start_of left = 0

abbrev code_of : Restarted → ℕ → ℕ → ℕ
code_of anew o h = o
code_of held o h = h
code_of left o h = h

abbrev restarted_for : Restarted → ℕ → Draft → Draft
restarted_for anew o d = d ▷ store_code o ▷ start T310
restarted_for held o d = d ▷ store_code d.call.code ▷ start T310
restarted_for left o d = d

restarting_is : (r o : ℕ) (b absent : Bool) → eqb r 1 ≡ b → restarting r ≡ start_of (restarted_by b absent)
unfolding restarting
restarting_is r o true true e = rw e refl
restarting_is r o true false e = rw e refl
restarting_is r o false absent e = rw e refl

code_is : (r o h : ℕ) (b absent : Bool) → eqb r 1 ≡ b → eqb o 16 ≡ absent → code_after r o h ≡ code_of (restarted_by b absent) o h
unfolding code_after
code_is r o h true true e f = rw (e, f) refl
code_is r o h true false e f = rw (e, f) refl
code_is r o h false absent e f = rw e refl

restart_is : (r o : ℕ) (d : Draft) (b absent : Bool) → eqb r 1 ≡ b → eqb o 16 ≡ absent → restarted_for (restarted_by b absent) o d ≡ restart r o d
unfolding restart
restart_is r o d true true e f = rw (e, f) refl
restart_is r o d true false e f = rw (e, f) refl
restart_is r o d false absent e f = rw e refl

informed_same : (c : Call) (o s : ℕ) (w : Restarted) → settled c (record { orders = STAY + SAME_PLANE + MODIFY_INDICATION + start_of w; id = c.id; address = c.address; mode = c.mode; asked = c.asked; code = code_of w o c.code; slots = slots_after s c.slots; value = 0 }) ≡ restarted_for w o (draft c) ▷ store_slots s ▷ same_plane ▷ tell_modified c.mode
unfolding verbs numbers
informed_same c o s anew = refl
informed_same c o s held = refl
informed_same c o s left = refl

informed_other : (c : Call) (o d s : ℕ) (w : Restarted) → settled c (record { orders = STAY + PLANE_OFF + MODIFY_INDICATION + start_of w; id = c.id; address = c.address; mode = d; asked = c.asked; code = code_of w o c.code; slots = slots_after s c.slots; value = 0 }) ≡ restarted_for w o (draft c) ▷ store_mode d ▷ store_slots s ▷ off ▷ tell_modified d
unfolding verbs numbers
informed_other c o d s anew = refl
informed_other c o d s held = refl
informed_other c o d s left = refl

pub informed_same_is : (c : Call) (r o d s : ℕ) → d ≡ c.mode → settled c (record { orders = STAY + SAME_PLANE + MODIFY_INDICATION + restarting r; id = c.id; address = c.address; mode = d; asked = c.asked; code = code_after r o c.code; slots = slots_after s c.slots; value = 0 }) ≡ informed r o d s c
unfolding informed
informed_same_is c r o d s e =
    rw (e, eq-eqb c.mode c.mode refl, restarting_is r o (eqb r 1) (eqb o 16) refl, code_is r o c.code (eqb r 1) (eqb o 16) refl refl)
    (informed_same c o s (restarted_by (eqb r 1) (eqb o 16))
    ∙ ap (λ t. t ▷ store_slots s ▷ same_plane ▷ tell_modified c.mode) (restart_is r o (draft c) (eqb r 1) (eqb o 16) refl refl))

pub informed_other_is : (c : Call) (r o d s : ℕ) → eqb d c.mode ≡ false → settled c (record { orders = STAY + PLANE_OFF + MODIFY_INDICATION + restarting r; id = c.id; address = c.address; mode = d; asked = c.asked; code = code_after r o c.code; slots = slots_after s c.slots; value = 0 }) ≡ informed r o d s c
unfolding informed
informed_other_is c r o d s e =
    rw (e, restarting_is r o (eqb r 1) (eqb o 16) refl, code_is r o c.code (eqb r 1) (eqb o 16) refl refl)
    (informed_other c o d s (restarted_by (eqb r 1) (eqb o 16))
    ∙ ap (λ t. t ▷ store_mode d ▷ store_slots s ▷ off ▷ tell_modified d) (restart_is r o (draft c) (eqb r 1) (eqb o 16) refl refl))

granted_by : (c : Call) (g : ℕ) (w : Granted) → settled c (record { orders = STAY + TX_INDICATION + plane_of w; id = c.id; address = c.address; mode = c.mode; asked = asked_of w c.asked; code = c.code; slots = c.slots; value = g }) ≡ given w (draft c) ▷ tell (Message.TxIndication g)
unfolding verbs numbers
granted_by c g both = refl
granted_by c g one = refl
granted_by c g refused = refl
granted_by c g queued = refl
granted_by c g another = refl
granted_by c g neither = refl

pub granted_is : (c : Call) (g : ℕ) → settled c (record { orders = STAY + TX_INDICATION + plane_granted g c.mode; id = c.id; address = c.address; mode = c.mode; asked = asked_after g c.asked; code = c.code; slots = c.slots; value = g }) ≡ draft c ▷ grant g ▷ tell (Message.TxIndication g)
granted_is c g =
    rw (plane_is g c.mode (eqb c.mode 1) refl, asked_is g c.asked (eqb c.mode 1))
    (granted_by c g (granting g (eqb c.mode 1))
    ∙ ap (tell (Message.TxIndication g)) (grant_is g (draft c) (eqb c.mode 1) (draft_mode c)))

pub tx_ceased_is : (c : Call) → settled c (row_of c (STAY + PLANE_OFF + TX_INDICATION) 4) ≡ draft c ▷ off ▷ tell (Message.TxIndication 4)
unfolding verbs numbers
tx_ceased_is c = refl

pub interrupted_for_is : (c : Call) → settled c (row_of c (STAY + PLANE_2 + TX_INDICATION) 5) ≡ draft c ▷ plane 2 ▷ tell (Message.TxIndication 5)
unfolding verbs numbers
interrupted_for_is c = refl

pub interrupted_is : (c : Call) → settled c (row_of c (STAY + PLANE_OFF + TX_INDICATION) 5) ≡ draft c ▷ plane 4 ▷ tell (Message.TxIndication 5)
unfolding verbs numbers
interrupted_is c = refl

pub paused_is : (c : Call) → settled c (row_of c (WAIT + PLANE_OFF + TX_INDICATION) 6) ≡ draft c ▷ go State.Wait ▷ keep c.plane ▷ off ▷ tell (Message.TxIndication 6)
unfolding verbs numbers
paused_is c = refl

pub cut_is : (c : Call) → settled c (row_asking c (STAY + BROKEN + PLANE_OFF) (cond (transmits c.plane) 1 c.asked) 0) ≡ cut c
unfolding verbs numbers cut
cut_is c = refl

pub spoken_out_is : (c : Call) → settled c (row_of c (EXPIRED_311 + STAY + U_TX_CEASED + PLANE_OFF) 0) ≡ draft c ▷ expired T311 ▷ say (Message.UTxCeased c.id) ▷ off
unfolding verbs numbers
spoken_out_is c = refl

-- CALL-ACTIVE, broken

pub reasked_is : (c : Call) (k : ℕ) → settled c (row_asking c STAY k 0) ≡ draft c ▷ store_asked k
unfolding verbs numbers
reasked_is c k = refl

pub resumed_is : (c : Call) → settled c (row_asking c (STAY + RESTORING + U_CALL_RESTORE + START_306) (asks c) 0) ≡ active_broken c Event.Resume
unfolding verbs numbers active_broken
resumed_is c = refl

-- CALL-ACTIVE, restoring. The definition starts T310 after the plane, and the code before it

swapped : (ts : List Bool) (x y : Bool) → set (set ts T310 y) T311 x ≡ set (set ts T311 x) T310 y
swapped [] x y = refl
swapped (a ∷ []) x y = refl
swapped (a ∷ b ∷ []) x y = refl
swapped (a ∷ b ∷ c ∷ []) x y = refl
swapped (a ∷ b ∷ c ∷ d ∷ []) x y = refl
swapped (a ∷ b ∷ c ∷ d ∷ e ∷ []) x y = refl
swapped (a ∷ b ∷ c ∷ d ∷ e ∷ f ∷ []) x y = refl
swapped (a ∷ b ∷ c ∷ d ∷ e ∷ f ∷ g ∷ ts) x y = refl

apart : (ts : List Bool) (x y : Bool) → (get_or (set ts T310 y) T311 false ≡ get_or ts T311 false) × (get_or (set ts T311 x) T310 false ≡ get_or ts T310 false)
apart [] x y = (refl, refl)
apart (a ∷ []) x y = (refl, refl)
apart (a ∷ b ∷ []) x y = (refl, refl)
apart (a ∷ b ∷ c ∷ []) x y = (refl, refl)
apart (a ∷ b ∷ c ∷ d ∷ []) x y = (refl, refl)
apart (a ∷ b ∷ c ∷ d ∷ e ∷ []) x y = (refl, refl)
apart (a ∷ b ∷ c ∷ d ∷ e ∷ f ∷ []) x y = (refl, refl)
apart (a ∷ b ∷ c ∷ d ∷ e ∷ f ∷ g ∷ ts) x y = (refl, refl)

restored_by : (c : Call) (g o : ℕ) (w : Granted) (v : Restarted) → settled c (record { orders = STAY + STOP_306 + UP + TX_INDICATION + plane_of w + start_of v; id = c.id; address = c.address; mode = c.mode; asked = asked_of w c.asked; code = code_of v o c.code; slots = c.slots; value = g }) ≡ restarted_for v o (given w (restored c)) ▷ tell (Message.TxIndication g)
unfolding verbs numbers
restored_by c g o both anew = rw (swapped (set c.timers T306 false) false (not (eqb o 0)), (apart (set c.timers T306 false) false (not (eqb o 0))).0, (apart (set c.timers T306 false) false (not (eqb o 0))).1) refl
restored_by c g o both held = rw (swapped (set c.timers T306 false) false (not (eqb c.code 0)), (apart (set c.timers T306 false) false (not (eqb c.code 0))).0, (apart (set c.timers T306 false) false (not (eqb c.code 0))).1) refl
restored_by c g o both left = refl
restored_by c g o one anew = rw (swapped (set c.timers T306 false) true (not (eqb o 0)), (apart (set c.timers T306 false) true (not (eqb o 0))).1) refl
restored_by c g o one held = rw (swapped (set c.timers T306 false) true (not (eqb c.code 0)), (apart (set c.timers T306 false) true (not (eqb c.code 0))).1) refl
restored_by c g o one left = refl
restored_by c g o refused anew = refl
restored_by c g o refused held = refl
restored_by c g o refused left = refl
restored_by c g o queued anew = refl
restored_by c g o queued held = refl
restored_by c g o queued left = refl
restored_by c g o another anew = rw (swapped (set c.timers T306 false) false (not (eqb o 0)), (apart (set c.timers T306 false) false (not (eqb o 0))).0, (apart (set c.timers T306 false) false (not (eqb o 0))).1) refl
restored_by c g o another held = rw (swapped (set c.timers T306 false) false (not (eqb c.code 0)), (apart (set c.timers T306 false) false (not (eqb c.code 0))).0, (apart (set c.timers T306 false) false (not (eqb c.code 0))).1) refl
restored_by c g o another left = refl
restored_by c g o neither anew = refl
restored_by c g o neither held = refl
restored_by c g o neither left = refl

pub restored_is : (c : Call) (g r o : ℕ) → settled c (record { orders = STAY + STOP_306 + UP + TX_INDICATION + plane_granted g c.mode + restarting r; id = c.id; address = c.address; mode = c.mode; asked = asked_after g c.asked; code = code_after r o c.code; slots = c.slots; value = g }) ≡ restored c ▷ grant g ▷ restart r o ▷ tell (Message.TxIndication g)
restored_is c g r o =
    rw (plane_is g c.mode (eqb c.mode 1) refl, asked_is g c.asked (eqb c.mode 1), restarting_is r o (eqb r 1) (eqb o 16) refl, code_is r o c.code (eqb r 1) (eqb o 16) refl refl)
    (restored_by c g o (granting g (eqb c.mode 1)) (restarted_by (eqb r 1) (eqb o 16))
    ∙ ap (λ t. restarted_for (restarted_by (eqb r 1) (eqb o 16)) o t ▷ tell (Message.TxIndication g)) (grant_is g (restored c) (eqb c.mode 1) (restored_mode c))
    ∙ ap (tell (Message.TxIndication g)) (restart_is r o (grant g (restored c)) (eqb r 1) (eqb o 16) refl refl))

pub broken_again_is : (c : Call) → settled c (row_of c (STAY + STOP_306 + BROKEN + PLANE_OFF) 0) ≡ active_restoring c Event.Break
unfolding verbs numbers active_restoring
broken_again_is c = refl

-- WAIT

continued : (c : Call) (b : Bool) → eqb c.kept 1 ≡ b → settled c (row_of c (CALL_ACTIVE + KEPT_PLANE + TX_INDICATION) 7) ≡ draft c ▷ go State.CallActive ▷ plane c.kept ▷ tell (Message.TxIndication 7)
unfolding verbs numbers
continued c true e = rw e refl
continued c false e = rw e refl

pub continued_is : (c : Call) → settled c (row_of c (CALL_ACTIVE + KEPT_PLANE + TX_INDICATION) 7) ≡ draft c ▷ go State.CallActive ▷ plane c.kept ▷ tell (Message.TxIndication 7)
continued_is c = continued c (eqb c.kept 1) refl

pub continued_off_is : (c : Call) → settled c (row_of c (CALL_ACTIVE + PLANE_OFF + TX_INDICATION) 8) ≡ draft c ▷ go State.CallActive ▷ off ▷ tell (Message.TxIndication 8)
unfolding verbs numbers
continued_off_is c = refl

pub pause_cut_is : (c : Call) → settled c (row_asking c (CALL_ACTIVE + BROKEN + PLANE_OFF + TX_INDICATION) c.asked 8) ≡ wait c Event.Break
unfolding verbs numbers wait
pause_cut_is c = refl

-- CALL-DISCONNECT

pub disconnected_unsent_is : (c : Call) (i : ℕ) → settled c (row_naming c (CANCEL + ENDED + U_RELEASE) i 3) ≡ disconnected i c ▷ cancel
unfolding verbs numbers disconnected
disconnected_unsent_is c i = refl

pub released_unsent_is : (c : Call) → settled c (row_of c (CANCEL + ENDED) 3) ≡ released c ▷ cancel
unfolding verbs numbers released
released_unsent_is c = refl

pub confirmed_is : (c : Call) → settled c (row_of c CONFIRMED 0) ≡ draft c ▷ confirmed
unfolding verbs numbers confirmed
confirmed_is c = refl

pub confirmed_late_is : (c : Call) → settled c (row_of c (EXPIRED_308 + CONFIRMED) 0) ≡ draft c ▷ expired T308 ▷ confirmed
unfolding verbs numbers confirmed
confirmed_late_is c = refl

-- a timer's row where it runs
pub timed : (c : Call) (b : Bool) (n : ℕ) (d : Draft) → settled c (row_asking c n 0 2) ≡ d → draft_of c (cond b (Some (row_asking c n 0 2)) None) ≡ cond b d (no_row c)
timed c true n d e = e
timed c false n d e = refl
