-- The paper's table of events, and what its lines stand for. Where a record may carry the slots at its end (document 02), each of its two bodies
-- is a line; they are one value, whose slots are 0 where the body carries none.
use Rattle.std.specs.Prelude.{ℕ, zero, suc, true, List, [], ◌∷◌, ◌++◌}
use Rattle.records.specs.Letters.{a₁, d, q, k, i, g, o, a, r, o₁₆, i₀, n, s}
use Rattle.records.specs.declared.events.Event.{Event}
use Rattle.records.specs.Bodies.{Values, flat_bytes, laid, laid_next}
use Rattle.records.specs.Tables.{Row, row, Table, flat}

pub data EventKind : Type 0 where
  setup_request setup_request_slots setup_response release_request tx_request d_call_proceeding d_alert d_connect d_connect_slots d_connect_acknowledge d_setup d_info d_info_slots d_tx_granted d_tx_ceased d_tx_interrupt d_tx_wait d_tx_continue d_call_restore d_disconnect d_release report_sent report_failed break resume expiry : EventKind

abbrev pub event_row : EventKind → Row
event_row setup_request = row 0x0101 (a₁ ∷ d ∷ q ∷ [])
event_row setup_request_slots = row 0x0101 (a₁ ∷ d ∷ q ∷ s ∷ [])
event_row setup_response = row 0x0102 ([])
event_row release_request = row 0x0103 ([])
event_row tx_request = row 0x0104 (k ∷ [])
event_row d_call_proceeding = row 0x0201 (i ∷ [])
event_row d_alert = row 0x0202 (i ∷ [])
event_row d_connect = row 0x0203 (i ∷ g ∷ d ∷ o ∷ [])
event_row d_connect_slots = row 0x0203 (i ∷ g ∷ d ∷ o ∷ s ∷ [])
event_row d_connect_acknowledge = row 0x0204 (i ∷ g ∷ o ∷ [])
event_row d_setup = row 0x0205 (i ∷ a ∷ d ∷ [])
event_row d_info = row 0x0206 (i ∷ r ∷ o₁₆ ∷ d ∷ [])
event_row d_info_slots = row 0x0206 (i ∷ r ∷ o₁₆ ∷ d ∷ s ∷ [])
event_row d_tx_granted = row 0x0207 (i ∷ g ∷ [])
event_row d_tx_ceased = row 0x0208 (i ∷ [])
event_row d_tx_interrupt = row 0x0209 (i ∷ g ∷ [])
event_row d_tx_wait = row 0x020a (i ∷ [])
event_row d_tx_continue = row 0x020b (i ∷ k ∷ [])
event_row d_call_restore = row 0x020c (i ∷ g ∷ r ∷ o₁₆ ∷ [])
event_row d_disconnect = row 0x020d (i₀ ∷ [])
event_row d_release = row 0x020e (i₀ ∷ [])
event_row report_sent = row 0x0301 ([])
event_row report_failed = row 0x0302 ([])
event_row break = row 0x0303 ([])
event_row resume = row 0x0304 ([])
event_row expiry = row 0x0401 (n ∷ [])

-- the kinds under the paper's headings: from the user; from the network, those that set a call up or change its mode, and those within a call
-- with its end; from the lower layers and the timers
abbrev pub user_kinds : List EventKind
user_kinds =
    setup_request ∷
    setup_request_slots ∷
    setup_response ∷
    release_request ∷
    tx_request ∷
    []

abbrev pub setup_kinds : List EventKind
setup_kinds =
    d_call_proceeding ∷
    d_alert ∷
    d_connect ∷
    d_connect_slots ∷
    d_connect_acknowledge ∷
    d_setup ∷
    d_info ∷
    d_info_slots ∷
    []

abbrev pub call_kinds : List EventKind
call_kinds =
    d_tx_granted ∷
    d_tx_ceased ∷
    d_tx_interrupt ∷
    d_tx_wait ∷
    d_tx_continue ∷
    d_call_restore ∷
    d_disconnect ∷
    d_release ∷
    []

abbrev pub lower_kinds : List EventKind
lower_kinds =
    report_sent ∷
    report_failed ∷
    break ∷
    resume ∷
    expiry ∷
    []

abbrev pub event_kinds : List EventKind
event_kinds = user_kinds ++ setup_kinds ++ call_kinds ++ lower_kinds

-- the value that a kind's letters stand for
abbrev pub event_of : (kind : EventKind) → Values (event_row kind).letters → Event
event_of setup_request v = Event.SetupRequest v.0 v.1.0 v.1.1.0 0
event_of setup_request_slots v = Event.SetupRequest v.0 v.1.0 v.1.1.0 v.1.1.1.0
event_of setup_response v = Event.SetupResponse
event_of release_request v = Event.ReleaseRequest
event_of tx_request v = Event.TxRequest v.0
event_of d_call_proceeding v = Event.DCallProceeding v.0
event_of d_alert v = Event.DAlert v.0
event_of d_connect v = Event.DConnect v.0 v.1.0 v.1.1.0 v.1.1.1.0 0
event_of d_connect_slots v = Event.DConnect v.0 v.1.0 v.1.1.0 v.1.1.1.0 v.1.1.1.1.0
event_of d_connect_acknowledge v = Event.DConnectAcknowledge v.0 v.1.0 v.1.1.0
event_of d_setup v = Event.DSetup v.0 v.1.0 v.1.1.0
event_of d_info v = Event.DInfo v.0 v.1.0 v.1.1.0 v.1.1.1.0 0
event_of d_info_slots v = Event.DInfo v.0 v.1.0 v.1.1.0 v.1.1.1.0 v.1.1.1.1.0
event_of d_tx_granted v = Event.DTxGranted v.0 v.1.0
event_of d_tx_ceased v = Event.DTxCeased v.0
event_of d_tx_interrupt v = Event.DTxInterrupt v.0 v.1.0
event_of d_tx_wait v = Event.DTxWait v.0
event_of d_tx_continue v = Event.DTxContinue v.0 v.1.0
event_of d_call_restore v = Event.DCallRestore v.0 v.1.0 v.1.1.0 v.1.1.1.0
event_of d_disconnect v = Event.DDisconnect v.0
event_of d_release v = Event.DRelease v.0
event_of report_sent v = Event.ReportSent
event_of report_failed v = Event.ReportFailed
event_of break v = Event.Break
event_of resume v = Event.Resume
event_of expiry v = Event.Expiry v.0

-- a value's kind, and its fields in the letters' order
abbrev pub event_apart : Event → (kind : EventKind) × Values (event_row kind).letters
event_apart (Event.SetupRequest address mode ask zero) = (setup_request, (address, (mode, (ask, tt))))
event_apart (Event.SetupRequest address mode ask (suc n)) = (setup_request_slots, (address, (mode, (ask, (suc n, tt)))))
event_apart Event.SetupResponse = (setup_response, tt)
event_apart Event.ReleaseRequest = (release_request, tt)
event_apart (Event.TxRequest go) = (tx_request, (go, tt))
event_apart (Event.DCallProceeding id) = (d_call_proceeding, (id, tt))
event_apart (Event.DAlert id) = (d_alert, (id, tt))
event_apart (Event.DConnect id grant mode code zero) = (d_connect, (id, (grant, (mode, (code, tt)))))
event_apart (Event.DConnect id grant mode code (suc n)) = (d_connect_slots, (id, (grant, (mode, (code, (suc n, tt))))))
event_apart (Event.DConnectAcknowledge id grant code) = (d_connect_acknowledge, (id, (grant, (code, tt))))
event_apart (Event.DSetup id address mode) = (d_setup, (id, (address, (mode, tt))))
event_apart (Event.DInfo id reset code mode zero) = (d_info, (id, (reset, (code, (mode, tt)))))
event_apart (Event.DInfo id reset code mode (suc n)) = (d_info_slots, (id, (reset, (code, (mode, (suc n, tt))))))
event_apart (Event.DTxGranted id grant) = (d_tx_granted, (id, (grant, tt)))
event_apart (Event.DTxCeased id) = (d_tx_ceased, (id, tt))
event_apart (Event.DTxInterrupt id grant) = (d_tx_interrupt, (id, (grant, tt)))
event_apart (Event.DTxWait id) = (d_tx_wait, (id, tt))
event_apart (Event.DTxContinue id go) = (d_tx_continue, (id, (go, tt)))
event_apart (Event.DCallRestore id grant reset code) = (d_call_restore, (id, (grant, (reset, (code, tt)))))
event_apart (Event.DDisconnect id) = (d_disconnect, (id, tt))
event_apart (Event.DRelease id) = (d_release, (id, tt))
event_apart Event.ReportSent = (report_sent, tt)
event_apart Event.ReportFailed = (report_failed, tt)
event_apart Event.Break = (break, tt)
event_apart Event.Resume = (resume, tt)
event_apart (Event.Expiry timer) = (expiry, (timer, tt))

abbrev pub events : Table
events =
    record {
      Kind = EventKind;
      Value = Event;
      kinds = event_kinds;
      retired = 0x0105 ∷ [];  -- MODIFY request, by document 02
      row_of = event_row;
      value_of = event_of;
      apart = event_apart;
      agrees = λ e. true;
      clash = 0;
    }

-- an event as bytes
unfoldable pub event_bytes : Event → List ℕ
event_bytes e = flat_bytes (flat events e)

-- and stored from a position on where it fits: the position after it, and the buffer then
abbrev pub event_laid : Event → List ℕ → ℕ → ℕ × List ℕ
event_laid e w at = (laid_next (event_bytes e) w at, laid (event_bytes e) w at)
