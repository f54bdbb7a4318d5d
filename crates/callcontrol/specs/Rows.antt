-- The steps: for each situation, what each event does. One function a situation, a line for each of the 23 events. Beside a row
-- stands its clause of EN 300 392-2, or H for a house choice.
use Rattle.std.specs.Prelude.{ℕ, cond, ◌&&◌, ◌||◌, eqb}
use Rattle.records.specs.declared.events.Event.{Event}
use Rattle.records.specs.declared.events.Event.TheVariants.{SetupRequest, SetupResponse, ReleaseRequest, TxRequest, DCallProceeding, DAlert, DConnect, DConnectAcknowledge, DSetup, DInfo, DTxGranted, DTxCeased, DTxInterrupt, DTxWait, DTxContinue, DCallRestore, DDisconnect, DRelease, ReportSent, ReportFailed, Break, Resume, Expiry}
use Rattle.records.specs.declared.messages.Message.TheVariants.{USetup, UConnect, URelease, UTxDemand, UTxCeased, UCallRestore, SetupIndication, SetupConfirm, Proceed, Alert, Complete, ReleaseIndication, ReleaseConfirm, TxIndication}
use Rattle.callcontrol.specs.declared.call.State.{State}
use Rattle.callcontrol.specs.declared.call.Path.{Path}
use Rattle.callcontrol.specs.declared.call.Call.{Call}
use Rattle.callcontrol.specs.Draft.{Draft}
use Rattle.callcontrol.specs.Call.{runs, transmits, T301, T302, T303, T306, T308, T310, T311}
use Rattle.callcontrol.specs.Draft.{◌▷◌, draft, no_row, go, on_path, store_id, store_address, store_mode, store_asked, store_sent, store_code, store_slots, keep, stop, stop_all, start, expired, restart, same_plane, plane, off, grant, grant_or_off, cancel, say, tell, tell_modified, over, release}

-- what several situations share

-- RELEASE request where the call is known to the network (14.5.1.3.1)
unfoldable pub releasing : Call → Draft
releasing c = draft c ▷ release 1

-- the network has ended the call, or ends it and wants U-RELEASE with the received identifier (14.5.1.3.3)
unfoldable pub released : Call → Draft
released c = draft c ▷ stop_all ▷ off ▷ tell (ReleaseIndication 3) ▷ over

unfoldable pub disconnected : ℕ → Call → Draft
disconnected i c = draft c ▷ stop_all ▷ off ▷ say (URelease i) ▷ tell (ReleaseIndication 3) ▷ over

-- expiry of T301, T302, T303, T306 (H) and T310 (14.5.1.3.4)
unfoldable pub timed_out : ℕ → Call → Draft
timed_out k c = cond (runs c k) (draft c ▷ expired k ▷ release 2 ▷ tell (ReleaseIndication 2)) (no_row c)

unfoldable pub expiry : ℕ → Call → Draft
expiry n c =
    cond (eqb n 301) (timed_out T301 c)
    (cond (eqb n 302) (timed_out T302 c)
    (cond (eqb n 303) (timed_out T303 c)
    (cond (eqb n 306) (timed_out T306 c) (cond (eqb n 310) (timed_out T310 c) (no_row c)))))

-- IDLE
unfoldable pub idle : Call → Event → Draft
-- 14.5.1.1.2
idle c (SetupRequest a d q s) =
    draft c ▷ go State.MoCallSetup ▷ store_address a ▷ store_mode d ▷ store_asked q ▷ store_slots s ▷ say (USetup a d q s) ▷ start T303
idle c SetupResponse = no_row c
idle c ReleaseRequest = no_row c
idle c (TxRequest k) = no_row c
idle c (DCallProceeding i) = no_row c
idle c (DAlert i) = no_row c
idle c (DConnect i g d o s) = no_row c
idle c (DConnectAcknowledge i g o) = no_row c
-- 14.5.1.1.1
idle c (DSetup i a d) = draft c ▷ go State.MtCallSetup ▷ store_id i ▷ store_address a ▷ store_mode d ▷ tell (SetupIndication i a d)
idle c (DInfo i r o d s) = no_row c
idle c (DTxGranted i g) = no_row c
idle c (DTxCeased i) = no_row c
idle c (DTxInterrupt i g) = no_row c
idle c (DTxWait i) = no_row c
idle c (DTxContinue i k) = no_row c
idle c (DCallRestore i g r o) = no_row c
idle c (DDisconnect i) = no_row c
idle c (DRelease i) = no_row c
idle c ReportSent = no_row c
idle c ReportFailed = no_row c
idle c Break = no_row c
idle c Resume = no_row c
idle c (Expiry n) = no_row c

-- MO-CALL-SETUP
unfoldable pub mo_call_setup : Call → Event → Draft
mo_call_setup c (SetupRequest a d q s) = no_row c
mo_call_setup c SetupResponse = no_row c
-- 14.5.1.3.1
mo_call_setup c ReleaseRequest = cond (eqb c.sent 0) (draft c ▷ cancel ▷ stop T303 ▷ tell ReleaseConfirm ▷ over) (releasing c)
mo_call_setup c (TxRequest k) = no_row c
-- 14.5.1.1.2
mo_call_setup c (DCallProceeding i) = draft c ▷ store_id i ▷ store_sent 1 ▷ stop T303 ▷ start T302 ▷ tell Proceed
-- 14.5.1.1.2
mo_call_setup c (DAlert i) = draft c ▷ store_id i ▷ store_sent 1 ▷ stop T303 ▷ start T302 ▷ tell Alert
-- 14.5.1.1.2
mo_call_setup c (DConnect i g d o s) =
    draft c
    ▷ store_id i
    ▷ store_mode d
    ▷ store_code o
    ▷ store_slots s
    ▷ store_sent 1
    ▷ go State.CallActive
    ▷ stop T302
    ▷ stop T303
    ▷ start T310
    ▷ grant_or_off g
    ▷ tell (SetupConfirm i g)
mo_call_setup c (DConnectAcknowledge i g o) = no_row c
mo_call_setup c (DSetup i a d) = no_row c
mo_call_setup c (DInfo i r o d s) = no_row c
mo_call_setup c (DTxGranted i g) = no_row c
mo_call_setup c (DTxCeased i) = no_row c
mo_call_setup c (DTxInterrupt i g) = no_row c
mo_call_setup c (DTxWait i) = no_row c
mo_call_setup c (DTxContinue i k) = no_row c
mo_call_setup c (DCallRestore i g r o) = no_row c
-- 14.5.1.3.3
mo_call_setup c (DDisconnect i) = disconnected i c
-- 14.5.1.3.3
mo_call_setup c (DRelease i) = released c
-- 14.5.1.1.2
mo_call_setup c ReportSent = cond (eqb c.sent 0) (draft c ▷ store_sent 1) (no_row c)
-- H
mo_call_setup c ReportFailed = cond (eqb c.sent 0) (draft c ▷ stop T303 ▷ tell (ReleaseIndication 4) ▷ over) (no_row c)
mo_call_setup c Break = no_row c
mo_call_setup c Resume = no_row c
-- 14.5.1.3.4; T306 H
mo_call_setup c (Expiry n) = expiry n c

-- MT-CALL-SETUP
unfoldable pub mt_call_setup : Call → Event → Draft
mt_call_setup c (SetupRequest a d q s) = no_row c
-- 14.5.1.1.1
mt_call_setup c SetupResponse = cond (runs c T301) (no_row c) (draft c ▷ say (UConnect c.id) ▷ start T301)
-- 14.5.1.3.1
mt_call_setup c ReleaseRequest = releasing c
mt_call_setup c (TxRequest k) = no_row c
mt_call_setup c (DCallProceeding i) = no_row c
mt_call_setup c (DAlert i) = no_row c
mt_call_setup c (DConnect i g d o s) = no_row c
-- 14.5.1.1.1
mt_call_setup c (DConnectAcknowledge i g o) =
    cond (runs c T301)
    (draft c ▷ store_code o ▷ go State.CallActive ▷ stop T301 ▷ start T310 ▷ grant_or_off g ▷ tell (Complete g))
    (no_row c)
mt_call_setup c (DSetup i a d) = no_row c
mt_call_setup c (DInfo i r o d s) = no_row c
mt_call_setup c (DTxGranted i g) = no_row c
mt_call_setup c (DTxCeased i) = no_row c
mt_call_setup c (DTxInterrupt i g) = no_row c
mt_call_setup c (DTxWait i) = no_row c
mt_call_setup c (DTxContinue i k) = no_row c
mt_call_setup c (DCallRestore i g r o) = no_row c
-- 14.5.1.3.3
mt_call_setup c (DDisconnect i) = disconnected i c
-- 14.5.1.3.3
mt_call_setup c (DRelease i) = released c
mt_call_setup c ReportSent = no_row c
mt_call_setup c ReportFailed = no_row c
mt_call_setup c Break = no_row c
mt_call_setup c Resume = no_row c
-- 14.5.1.3.4; T306 H
mt_call_setup c (Expiry n) = expiry n c

-- the user wants to transmit, or stops, with path up (14.5.1.2.1)
unfoldable pub demands : Call → Draft
demands c =
    cond (eqb c.asked 0 && (eqb c.plane 2 || eqb c.plane 4))
    (draft c ▷ say (UTxDemand c.id) ▷ store_asked 1)
    (no_row c)

unfoldable pub ceases : Call → Draft
ceases c =
    cond (eqb c.plane 1) (draft c ▷ say (UTxCeased c.id) ▷ off)
    (cond (eqb c.asked 1) (draft c ▷ say (UTxCeased c.id) ▷ store_asked 0) (no_row c))

-- D-INFO with path up (14.5.1.2.3)
unfoldable pub informed : ℕ → ℕ → ℕ → ℕ → Call → Draft
informed r o d s c =
    cond (eqb d c.mode)
    (draft c ▷ restart r o ▷ store_slots s ▷ same_plane ▷ tell_modified d)
    (draft c ▷ restart r o ▷ store_mode d ▷ store_slots s ▷ off ▷ tell_modified d)

-- BREAK with path up (14.5.1.2.4): a permission that is cut is asked for again (H)
unfoldable pub cut : Call → Draft
cut c =
    draft c
    ▷ store_asked (cond (transmits c.plane) 1 c.asked)
    ▷ on_path Path.Broken
    ▷ off

-- expiry with path up: T311 ends the transmission (14.5.1.2.1)
unfoldable pub active_expiry : ℕ → Call → Draft
active_expiry n c =
    cond (eqb n 311)
    (cond (runs c T311) (draft c ▷ expired T311 ▷ say (UTxCeased c.id) ▷ off) (no_row c))
    (expiry n c)

-- CALL-ACTIVE, path up
unfoldable pub active_up : Call → Event → Draft
active_up c (SetupRequest a d q s) = no_row c
active_up c SetupResponse = no_row c
-- 14.5.1.3.1
active_up c ReleaseRequest = releasing c
-- 14.5.1.2.1
active_up c (TxRequest k) = cond (eqb k 1) (demands c) (ceases c)
active_up c (DCallProceeding i) = no_row c
active_up c (DAlert i) = no_row c
active_up c (DConnect i g d o s) = no_row c
active_up c (DConnectAcknowledge i g o) = no_row c
active_up c (DSetup i a d) = no_row c
-- 14.5.1.2.3
active_up c (DInfo i r o d s) = informed r o d s c
-- 14.5.1.2.1
active_up c (DTxGranted i g) = draft c ▷ grant g ▷ tell (TxIndication g)
-- 14.5.1.2.1
active_up c (DTxCeased i) = draft c ▷ off ▷ tell (TxIndication 4)
-- 14.5.1.2.1
active_up c (DTxInterrupt i g) = draft c ▷ plane (cond (eqb g 3) 2 4) ▷ tell (TxIndication 5)
-- 14.5.1.2.1
active_up c (DTxWait i) = draft c ▷ go State.Wait ▷ keep c.plane ▷ off ▷ tell (TxIndication 6)
active_up c (DTxContinue i k) = no_row c
active_up c (DCallRestore i g r o) = no_row c
-- 14.5.1.3.3
active_up c (DDisconnect i) = disconnected i c
-- 14.5.1.3.3
active_up c (DRelease i) = released c
active_up c ReportSent = no_row c
active_up c ReportFailed = no_row c
active_up c Break = cut c
active_up c Resume = no_row c
active_up c (Expiry n) = active_expiry n c

-- what a restoration asks for: 1 if asked or duplex
unfoldable pub asks : Call → ℕ
asks c = cond (eqb c.asked 1 || eqb c.mode 1) 1 0

-- CALL-ACTIVE, broken
unfoldable pub active_broken : Call → Event → Draft
active_broken c (SetupRequest a d q s) = no_row c
active_broken c SetupResponse = no_row c
-- 14.5.1.3.1
active_broken c ReleaseRequest = releasing c
-- 14.5.1.2.4
active_broken c (TxRequest k) = cond (eqb c.asked k) (no_row c) (draft c ▷ store_asked k)
active_broken c (DCallProceeding i) = no_row c
active_broken c (DAlert i) = no_row c
active_broken c (DConnect i g d o s) = no_row c
active_broken c (DConnectAcknowledge i g o) = no_row c
active_broken c (DSetup i a d) = no_row c
active_broken c (DInfo i r o d s) = no_row c
active_broken c (DTxGranted i g) = no_row c
active_broken c (DTxCeased i) = no_row c
active_broken c (DTxInterrupt i g) = no_row c
active_broken c (DTxWait i) = no_row c
active_broken c (DTxContinue i k) = no_row c
active_broken c (DCallRestore i g r o) = no_row c
-- 14.5.1.3.3
active_broken c (DDisconnect i) = disconnected i c
-- 14.5.1.3.3
active_broken c (DRelease i) = released c
active_broken c ReportSent = no_row c
active_broken c ReportFailed = no_row c
active_broken c Break = no_row c
-- 14.5.1.2.4
active_broken c Resume =
    draft c
    ▷ store_asked (asks c)
    ▷ on_path Path.Restoring
    ▷ say (UCallRestore c.id c.address (asks c))
    ▷ start T306
-- 14.5.1.3.4; T306 H
active_broken c (Expiry n) = expiry n c

-- CALL-ACTIVE, restoring
unfoldable pub active_restoring : Call → Event → Draft
active_restoring c (SetupRequest a d q s) = no_row c
active_restoring c SetupResponse = no_row c
-- 14.5.1.3.1
active_restoring c ReleaseRequest = releasing c
active_restoring c (TxRequest k) = no_row c
active_restoring c (DCallProceeding i) = no_row c
active_restoring c (DAlert i) = no_row c
active_restoring c (DConnect i g d o s) = no_row c
active_restoring c (DConnectAcknowledge i g o) = no_row c
active_restoring c (DSetup i a d) = no_row c
active_restoring c (DInfo i r o d s) = no_row c
active_restoring c (DTxGranted i g) = no_row c
active_restoring c (DTxCeased i) = no_row c
active_restoring c (DTxInterrupt i g) = no_row c
active_restoring c (DTxWait i) = no_row c
active_restoring c (DTxContinue i k) = no_row c
-- 14.5.1.2.4
active_restoring c (DCallRestore i g r o) = draft c ▷ stop T306 ▷ on_path Path.Up ▷ grant g ▷ restart r o ▷ tell (TxIndication g)
-- 14.5.1.3.3
active_restoring c (DDisconnect i) = disconnected i c
-- 14.5.1.3.3
active_restoring c (DRelease i) = released c
active_restoring c ReportSent = no_row c
active_restoring c ReportFailed = no_row c
-- 14.5.1.2.4
active_restoring c Break = draft c ▷ stop T306 ▷ on_path Path.Broken ▷ off
active_restoring c Resume = no_row c
-- 14.5.1.3.4; T306 H
active_restoring c (Expiry n) = expiry n c

-- WAIT
unfoldable pub wait : Call → Event → Draft
wait c (SetupRequest a d q s) = no_row c
wait c SetupResponse = no_row c
-- 14.5.1.3.1
wait c ReleaseRequest = releasing c
wait c (TxRequest k) = no_row c
wait c (DCallProceeding i) = no_row c
wait c (DAlert i) = no_row c
wait c (DConnect i g d o s) = no_row c
wait c (DConnectAcknowledge i g o) = no_row c
wait c (DSetup i a d) = no_row c
wait c (DInfo i r o d s) = no_row c
wait c (DTxGranted i g) = no_row c
wait c (DTxCeased i) = no_row c
wait c (DTxInterrupt i g) = no_row c
wait c (DTxWait i) = no_row c
-- 14.5.1.2.1
wait c (DTxContinue i k) =
    cond (eqb k 1)
    (draft c ▷ go State.CallActive ▷ plane c.kept ▷ tell (TxIndication 7))
    (draft c ▷ go State.CallActive ▷ off ▷ tell (TxIndication 8))
wait c (DCallRestore i g r o) = no_row c
-- 14.5.1.3.3
wait c (DDisconnect i) = disconnected i c
-- 14.5.1.3.3
wait c (DRelease i) = released c
wait c ReportSent = no_row c
wait c ReportFailed = no_row c
-- 14.5.1.2.4
wait c Break = draft c ▷ go State.CallActive ▷ on_path Path.Broken ▷ off ▷ tell (TxIndication 8)
wait c Resume = no_row c
-- 14.5.1.3.4; T306 H
wait c (Expiry n) = expiry n c

-- the end that this side asked for
unfoldable pub confirmed : Draft → Draft
confirmed d = d ▷ stop_all ▷ off ▷ tell ReleaseConfirm ▷ over

-- CALL-DISCONNECT
unfoldable pub call_disconnect : Call → Event → Draft
call_disconnect c (SetupRequest a d q s) = no_row c
call_disconnect c SetupResponse = no_row c
call_disconnect c ReleaseRequest = no_row c
call_disconnect c (TxRequest k) = no_row c
call_disconnect c (DCallProceeding i) = no_row c
call_disconnect c (DAlert i) = no_row c
call_disconnect c (DConnect i g d o s) = no_row c
call_disconnect c (DConnectAcknowledge i g o) = no_row c
call_disconnect c (DSetup i a d) = no_row c
call_disconnect c (DInfo i r o d s) = no_row c
call_disconnect c (DTxGranted i g) = no_row c
call_disconnect c (DTxCeased i) = no_row c
call_disconnect c (DTxInterrupt i g) = no_row c
call_disconnect c (DTxWait i) = no_row c
call_disconnect c (DTxContinue i k) = no_row c
call_disconnect c (DCallRestore i g r o) = no_row c
-- 14.5.1.3.5
call_disconnect c (DDisconnect i) = cond (eqb c.sent 0) (disconnected i c ▷ cancel) (disconnected i c)
-- 14.5.1.3.5
call_disconnect c (DRelease i) = cond (eqb c.sent 0) (released c ▷ cancel) (draft c ▷ confirmed)
-- 14.5.1.3.1
call_disconnect c ReportSent = cond (eqb c.sent 0) (draft c ▷ store_sent 1) (no_row c)
-- 14.5.1.3.1
call_disconnect c ReportFailed = cond (eqb c.sent 0) (draft c ▷ confirmed) (no_row c)
call_disconnect c Break = no_row c
call_disconnect c Resume = no_row c
-- 14.5.1.3.4
call_disconnect c (Expiry n) = cond (eqb n 308 && runs c T308) (draft c ▷ expired T308 ▷ confirmed) (no_row c)

-- CALL-ACTIVE, by its path
unfoldable pub active : Path → Call → Event → Draft
active Path.Up c e = active_up c e
active Path.Broken c e = active_broken c e
active Path.Restoring c e = active_restoring c e

unfoldable pub in_state : State → Call → Event → Draft
in_state State.Idle c e = idle c e
in_state State.MoCallSetup c e = mo_call_setup c e
in_state State.MtCallSetup c e = mt_call_setup c e
in_state State.CallActive c e = active c.path c e
in_state State.Wait c e = wait c e
in_state State.CallDisconnect c e = call_disconnect c e

-- what an event does to a call
unfoldable pub row_for : Call → Event → Draft
row_for c e = in_state c.state c e
