-- The steps: for each situation, what each event does. Beside a row stands the sentence of EN 300 396-3, clause 6.2.2.1, that it is, or H for the
-- house's choice between two that the clause leaves open.
use Rattle.std.specs.Prelude.{ℕ, ◌+◌, Bool, cond, ◌&&◌, leb, ltb, eqb}
use Rattle.direct.specs.declared.events.Event.{Event}
use Rattle.direct.specs.declared.events.Event.TheVariants.{SetupRequest, DmaReport, DmConnect, DmDisconnect, Expiry}
use Rattle.direct.specs.declared.messages.Message.TheVariants.{DmSetupPres, DmConnectAck, DmRelease, SetupConfirm, ReleaseIndication}
use Rattle.direct.specs.declared.call.State.{State}
use Rattle.direct.specs.declared.call.Call.{Call}
use Rattle.direct.specs.Draft.{Draft, ◌▷◌, draft, no_row, go, store, attempts, over, start_dt303, start_dt311, stop_dt303, expired_dt303, say, configure, tell}

-- each row, by its words

-- "convert the DMCC-SETUP request into a corresponding DM-SETUP PRES PDU and send it, and enter CALL SETUP PRES_CHECK ORIGINATING"
unfoldable pub asked : ℕ → ℕ → ℕ → Call → Draft
asked t l m c = draft c ▷ go State.PresenceCheck ▷ store t l m ▷ attempts 1 ▷ say (DmSetupPres t l)

-- "start timer DT303 and await a response"
unfoldable pub awaited : Call → Draft
awaited c = draft c ▷ start_dt303

-- "inform the user application with a DMCC-RELEASE indication and return to state IDLE" (H: no pre-emption)
unfoldable pub given_up : Call → Draft
given_up c = draft c ▷ tell ReleaseIndication ▷ over

-- "send a DM-CONNECT ACK PDU, enter CALL ACTIVE TX OCCUPATION, inform the user application with a DMCC-SETUP confirm, issue a DMC-CONFIGURE
-- request, stop timer DT303 and start timer DT311"
unfoldable pub connected : ℕ → Call → Draft
connected t c =
    draft c ▷ go State.Active ▷ stop_dt303 ▷ say (DmConnectAck t) ▷ start_dt311 ▷ configure t ▷ tell (SetupConfirm t)

-- "send the DM-RELEASE PDU, issue a DMCC-RELEASE indication to the user application, stop timer DT303 and return to state IDLE"
unfoldable pub released : Call → Draft
released c = draft c ▷ stop_dt303 ▷ say DmRelease ▷ tell ReleaseIndication ▷ over

-- "If timer DT303 expires, send the DM-RELEASE PDU, then send the DM-SETUP PRES PDU again": the next DMA-REPORT starts DT303
unfoldable pub again : ℕ → Call → Draft
again n c = draft c ▷ expired_dt303 ▷ say DmRelease ▷ attempts n ▷ say (DmSetupPres c.target c.lowest)

-- "or otherwise issue a DMCC-RELEASE indication to the user application and return to state IDLE"
unfoldable pub exhausted : Call → Draft
exhausted c = draft c ▷ expired_dt303 ▷ say DmRelease ▷ tell ReleaseIndication ▷ over

-- an offer from lowest to target
unfoldable pub acceptable : Call → ℕ → Bool
acceptable c t = leb c.lowest t && leb t c.target

-- IDLE
abbrev pub idle : Call → Event → Draft
idle c (SetupRequest t l m) = asked t l m c
idle c (DmaReport v) = no_row c
idle c (DmConnect t) = no_row c
idle c DmDisconnect = no_row c
idle c (Expiry n) = no_row c

-- PRESENCE CHECK, DT303 stopped: DM-SETUP PRES is with layer 2
abbrev pub reporting : Call → Event → Draft
reporting c (SetupRequest t l m) = no_row c
reporting c (DmaReport v) = cond (eqb v 0) (awaited c) (given_up c)
reporting c (DmConnect t) = no_row c
reporting c DmDisconnect = no_row c
reporting c (Expiry n) = no_row c

-- PRESENCE CHECK, DT303 running: an answer is waited for
abbrev pub waiting : Call → Event → Draft
waiting c (SetupRequest t l m) = no_row c
waiting c (DmaReport v) = no_row c
waiting c (DmConnect t) = cond (acceptable c t) (connected t c) (released c)
waiting c DmDisconnect = released c
waiting c (Expiry n) = cond (eqb n 303) (cond (ltb c.used c.limit) (again (c.used + 1) c) (exhausted c)) (no_row c)

-- ACTIVE: no row; what follows in occupation is not in the request
abbrev pub in_state : State → Call → Event → Draft
in_state State.Idle c e = idle c e
in_state State.PresenceCheck c e = cond c.dt303 (waiting c e) (reporting c e)
in_state State.Active c e = no_row c

unfoldable pub row_for : Call → Event → Draft
row_for c e = in_state c.state c e
