-- The lines of the tables, each by itself: the kinds are told apart, and a kind with its values is a value of the table, both ways.
use mathlib.Core.Path.{◌≡◌, refl}
use Prim.Native.Nat.{ℕ, zero, suc}
use mathlib.Core.Bool.{Bool, true, false}
use mathlib.Core.List.{List, [], ◌∷◌, ◌++◌}
use mathlib.Core.Option.{some}
use native.Mathlib.Omega.{arith}
use Rattle.records.specs.Letters.{Letter, fits, within, a₁, d, q, i, g, o, r, o₁₆, s}
use Rattle.records.specs.Bodies.{Values, all_fit}
use Rattle.records.specs.Tables.{find, size_of}
use Rattle.records.specs.Laws.{Lawful}
use Rattle.records.proofs.Laws.{both}
use Rattle.records.specs.declared.events.Event.{Event}
use Rattle.records.specs.declared.messages.Message.{Message}
use Rattle.records.specs.Events.{events, EventKind, event_row, event_kinds, event_of, event_apart, setup_request, setup_request_slots, setup_response, release_request, tx_request, d_call_proceeding, d_alert, d_connect, d_connect_slots, d_connect_acknowledge, d_setup, d_info, d_info_slots, d_tx_granted, d_tx_ceased, d_tx_interrupt, d_tx_wait, d_tx_continue, d_call_restore, d_disconnect, d_release, report_sent, report_failed, break, resume, expiry}
use Rattle.records.specs.Messages.{messages, MessageKind, message_row, message_kinds, message_of, message_apart, u_setup, u_setup_slots, u_connect, u_disconnect, u_release, u_info, u_tx_demand, u_tx_ceased, u_call_restore, stop, start, configure, cancel, setup_indication, setup_confirm, proceed, alert, complete, release_indication, release_confirm, tx_indication, modify_indication, named_place, channel_answer}

-- the value of the last letter, which is in its range where all are
abbrev last_of : (ls : List Letter) (l : Letter) → Values (ls ++ (l ∷ [])) → ℕ
last_of [] l vs = vs.0
last_of (k ∷ ls) l vs = last_of ls l vs.1

last_fits : (ls : List Letter) (l : Letter) (vs : Values (ls ++ (l ∷ []))) → all_fit (ls ++ (l ∷ [])) vs ≡ true → fits l (last_of ls l vs) ≡ true
unfolding all_fit
last_fits [] l vs h = (both (fits l vs.0) true h).0
last_fits (k ∷ ls) l vs h = last_fits ls l vs.1 (both (fits k vs.0) (all_fit (ls ++ (l ∷ [])) vs.1) h).1

-- slots in their range are not 0
carried : (P : ℕ → Type 0) (v : ℕ) → fits s v ≡ true → ((m : ℕ) → P (suc m)) → P v
unfolding within
carried P zero h f = let z : ◌≡◌ {A = Bool} false true = h in let y : ◌≡◌ {A = ℕ} 0 1 = cc in absurd (omega arith)
carried P (suc m) h f = f m

-- a kind's number and size lead to it, and its values are taken apart as they were put together
event_line : (k : EventKind) → (find events (event_row k).number (size_of events k) event_kinds ≡ some k) × ((vs : Values (event_row k).letters) → all_fit (event_row k).letters vs ≡ true → ◌≡◌ {A = (k : EventKind) × Values (event_row k).letters} (event_apart (event_of k vs)) (k, vs))
event_line setup_request = (refl, λ vs fit. refl)
event_line setup_request_slots = (refl, λ vs fit. carried (λ v. ◌≡◌ {A = (k : EventKind) × Values (event_row k).letters} (event_apart (Event.SetupRequest vs.0 vs.1.0 vs.1.1.0 v)) (setup_request_slots, (vs.0, (vs.1.0, (vs.1.1.0, (v, tt)))))) vs.1.1.1.0 (last_fits (a₁ ∷ d ∷ q ∷ []) s vs fit) (λ m. refl))
event_line setup_response = (refl, λ vs fit. refl)
event_line release_request = (refl, λ vs fit. refl)
event_line tx_request = (refl, λ vs fit. refl)
event_line d_call_proceeding = (refl, λ vs fit. refl)
event_line d_alert = (refl, λ vs fit. refl)
event_line d_connect = (refl, λ vs fit. refl)
event_line d_connect_slots = (refl, λ vs fit. carried (λ v. ◌≡◌ {A = (k : EventKind) × Values (event_row k).letters} (event_apart (Event.DConnect vs.0 vs.1.0 vs.1.1.0 vs.1.1.1.0 v)) (d_connect_slots, (vs.0, (vs.1.0, (vs.1.1.0, (vs.1.1.1.0, (v, tt))))))) vs.1.1.1.1.0 (last_fits (i ∷ g ∷ d ∷ o ∷ []) s vs fit) (λ m. refl))
event_line d_connect_acknowledge = (refl, λ vs fit. refl)
event_line d_setup = (refl, λ vs fit. refl)
event_line d_info = (refl, λ vs fit. refl)
event_line d_info_slots = (refl, λ vs fit. carried (λ v. ◌≡◌ {A = (k : EventKind) × Values (event_row k).letters} (event_apart (Event.DInfo vs.0 vs.1.0 vs.1.1.0 vs.1.1.1.0 v)) (d_info_slots, (vs.0, (vs.1.0, (vs.1.1.0, (vs.1.1.1.0, (v, tt))))))) vs.1.1.1.1.0 (last_fits (i ∷ r ∷ o₁₆ ∷ d ∷ []) s vs fit) (λ m. refl))
event_line d_tx_granted = (refl, λ vs fit. refl)
event_line d_tx_ceased = (refl, λ vs fit. refl)
event_line d_tx_interrupt = (refl, λ vs fit. refl)
event_line d_tx_wait = (refl, λ vs fit. refl)
event_line d_tx_continue = (refl, λ vs fit. refl)
event_line d_call_restore = (refl, λ vs fit. refl)
event_line d_disconnect = (refl, λ vs fit. refl)
event_line d_release = (refl, λ vs fit. refl)
event_line report_sent = (refl, λ vs fit. refl)
event_line report_failed = (refl, λ vs fit. refl)
event_line break = (refl, λ vs fit. refl)
event_line resume = (refl, λ vs fit. refl)
event_line expiry = (refl, λ vs fit. refl)

pub event_found : (k : EventKind) → find events (event_row k).number (size_of events k) event_kinds ≡ some k
event_found k = (event_line k).0

pub event_again : (e : Event) → event_of (event_apart e).0 (event_apart e).1 ≡ e
event_again (Event.SetupRequest address mode ask zero) = refl
event_again (Event.SetupRequest address mode ask (suc m)) = refl
event_again Event.SetupResponse = refl
event_again Event.ReleaseRequest = refl
event_again (Event.TxRequest go) = refl
event_again (Event.DCallProceeding id) = refl
event_again (Event.DAlert id) = refl
event_again (Event.DConnect id grant mode code zero) = refl
event_again (Event.DConnect id grant mode code (suc m)) = refl
event_again (Event.DConnectAcknowledge id grant code) = refl
event_again (Event.DSetup id address mode) = refl
event_again (Event.DInfo id reset code mode zero) = refl
event_again (Event.DInfo id reset code mode (suc m)) = refl
event_again (Event.DTxGranted id grant) = refl
event_again (Event.DTxCeased id) = refl
event_again (Event.DTxInterrupt id grant) = refl
event_again (Event.DTxWait id) = refl
event_again (Event.DTxContinue id go) = refl
event_again (Event.DCallRestore id grant reset code) = refl
event_again (Event.DDisconnect id) = refl
event_again (Event.DRelease id) = refl
event_again Event.ReportSent = refl
event_again Event.ReportFailed = refl
event_again Event.Break = refl
event_again Event.Resume = refl
event_again (Event.Expiry timer) = refl

pub event_lawful : Lawful events
event_lawful = record { together = λ k. (event_line k).1; again = event_again; found = event_found; current = refl; narrow = refl }

-- a kind's number and size lead to it, and its values are taken apart as they were put together
message_line : (k : MessageKind) → (find messages (message_row k).number (size_of messages k) message_kinds ≡ some k) × ((vs : Values (message_row k).letters) → all_fit (message_row k).letters vs ≡ true → ◌≡◌ {A = (k : MessageKind) × Values (message_row k).letters} (message_apart (message_of k vs)) (k, vs))
message_line u_setup = (refl, λ vs fit. refl)
message_line u_setup_slots = (refl, λ vs fit. carried (λ v. ◌≡◌ {A = (k : MessageKind) × Values (message_row k).letters} (message_apart (Message.USetup vs.0 vs.1.0 vs.1.1.0 v)) (u_setup_slots, (vs.0, (vs.1.0, (vs.1.1.0, (v, tt)))))) vs.1.1.1.0 (last_fits (a₁ ∷ d ∷ q ∷ []) s vs fit) (λ m. refl))
message_line u_connect = (refl, λ vs fit. refl)
message_line u_disconnect = (refl, λ vs fit. refl)
message_line u_release = (refl, λ vs fit. refl)
message_line u_info = (refl, λ vs fit. refl)
message_line u_tx_demand = (refl, λ vs fit. refl)
message_line u_tx_ceased = (refl, λ vs fit. refl)
message_line u_call_restore = (refl, λ vs fit. refl)
message_line stop = (refl, λ vs fit. refl)
message_line start = (refl, λ vs fit. refl)
message_line configure = (refl, λ vs fit. refl)
message_line cancel = (refl, λ vs fit. refl)
message_line setup_indication = (refl, λ vs fit. refl)
message_line setup_confirm = (refl, λ vs fit. refl)
message_line proceed = (refl, λ vs fit. refl)
message_line alert = (refl, λ vs fit. refl)
message_line complete = (refl, λ vs fit. refl)
message_line release_indication = (refl, λ vs fit. refl)
message_line release_confirm = (refl, λ vs fit. refl)
message_line tx_indication = (refl, λ vs fit. refl)
message_line modify_indication = (refl, λ vs fit. refl)
message_line named_place = (refl, λ vs fit. refl)
message_line channel_answer = (refl, λ vs fit. refl)

pub message_found : (k : MessageKind) → find messages (message_row k).number (size_of messages k) message_kinds ≡ some k
message_found k = (message_line k).0

pub message_again : (m : Message) → message_of (message_apart m).0 (message_apart m).1 ≡ m
message_again (Message.USetup address mode ask zero) = refl
message_again (Message.USetup address mode ask (suc m)) = refl
message_again (Message.UConnect id) = refl
message_again (Message.UDisconnect id cause) = refl
message_again (Message.URelease id) = refl
message_again (Message.UInfo id mode) = refl
message_again (Message.UTxDemand id) = refl
message_again (Message.UTxCeased id) = refl
message_again (Message.UCallRestore id address ask) = refl
message_again (Message.Stop timer) = refl
message_again (Message.Start timer code) = refl
message_again (Message.Configure plane) = refl
message_again Message.Cancel = refl
message_again (Message.SetupIndication id address mode) = refl
message_again (Message.SetupConfirm id grant) = refl
message_again Message.Proceed = refl
message_again Message.Alert = refl
message_again (Message.Complete grant) = refl
message_again (Message.ReleaseIndication cause) = refl
message_again Message.ReleaseConfirm = refl
message_again (Message.TxIndication told) = refl
message_again (Message.ModifyIndication mode slots) = refl
message_again (Message.Place at) = refl
message_again (Message.ChannelAnswer number verdict) = refl

pub message_lawful : Lawful messages
message_lawful = record { together = λ k. (message_line k).1; again = message_again; found = message_found; current = refl; narrow = refl }
