-- The table's reading is the definitions' reading, with the event's numbers.
use Prim.Native.Nat.{ℕ, zero, suc, ◌+◌, ◌-◌, ◌%◌, ◌<◌, ◌≤◌}
use mathlib.Core.Path.{◌≡◌, refl, sym, ◌∙◌, ap}
use mathlib.Core.Bool.{Bool, true, false, cond, ◌&&◌, true≢false}
use mathlib.Core.List.{List, [], ◌∷◌, map}
use mathlib.Core.Option.{none, some}
use native.Mathlib.Nat.{le_of_suc-le-suc, not-suc-le-zero}
use native.Mathlib.Omega.{arith}
use borrow.Author.Tests.{eqb-true, leb-true}
use lib.Dec.{leb, eqb}
use lib.ListN.{length, get_or, set}
use Rattle.records.specs.Bytes.{number}
use Rattle.records.specs.Letters.{Letter, width, fits, within, is_timer, a₁, a, i, i₀, n, d, q, k, g, r, o, o₁₆, s}
use Rattle.records.specs.Bodies.{Values, Found, is, bad_at, and_then, value_at, values_at, body_of}
use Rattle.records.specs.Tables.{Read, taken, refused, or_place, sized, size_of, known, read_body, read_among, read_as}
use Rattle.records.specs.Events.{EventKind, event_row, event_kinds, event_of, events}
use Rattle.records.specs.Laws.{every}
use Rattle.records.specs.declared.events.Event.{Event}
use Rattle.records.proofs.Laws.{by_test, both}
use Rattle.callcontrol.specs.declared.call.Call.{Call}
use Rattle.small.specs.declared.flat.Flat.{Flat}
use Rattle.small.specs.Flat.{SETUP_REQUEST, SETUP_RESPONSE, RELEASE_REQUEST, TX_REQUEST, D_CALL_PROCEEDING, D_ALERT, D_CONNECT, D_CONNECT_ACKNOWLEDGE, D_SETUP, D_INFO, D_TX_GRANTED, D_TX_CEASED, D_TX_INTERRUPT, D_TX_WAIT, D_TX_CONTINUE, D_CALL_RESTORE, D_DISCONNECT, D_RELEASE, REPORT_SENT, REPORT_FAILED, BREAK, RESUME, EXPIRY, flat_of, expired_of}
use Rattle.small.specs.Entry.{spell}
use Rattle.small.specs.Reading.{A₁, A, I, I₀, N, D, Q, K, G, R, O, O₁₆, S, TIMER, letters, width_in, least_in, most_in, slot_in, fill_by, fill, timer_place, late_kind, slots, flat_at, timed, with_slots, one_more, letters_for, body_for, body_by, hint_of, place_of, entries, kind_of, RETIRED, kind_by, flatted}

-- the paper's letters by their number
abbrev letter_of : ℕ → Letter
letter_of l = get_or (i ∷ a₁ ∷ a ∷ i ∷ i₀ ∷ n ∷ d ∷ q ∷ k ∷ g ∷ r ∷ o ∷ o₁₆ ∷ s ∷ []) l i

-- a letter's entry says what the letter does
abbrev Same : ℕ → Type 0
Same l = (width (letter_of l) ≡ width_in (get_or letters l 0)) × ((x : ℕ) → fits (letter_of l) x ≡ within (least_in (get_or letters l 0)) (most_in (get_or letters l 0)) x)

abbrev AllSame : List ℕ → Type 0
AllSame [] = Unit {0}
AllSame (l ∷ ls) = Same l × AllSame ls

-- the values into their slots
abbrev store : (ls : List ℕ) → List ℕ → Values (map letter_of ls) → List ℕ
store [] v vs = v
store (l ∷ ls) v vs = store ls (set v (slot_in (get_or letters l 0)) vs.0) vs.1

abbrev stored : {A : Type 0} → (A → List ℕ) → Found A → Found (List ℕ)
stored f (is x) = is (f x)
stored f (bad_at p) = bad_at p

tested : {A : Type 0} (b : Bool) (x : ℕ) (at : ℕ) (rest : Found (List ℕ)) (w : Found A) (f : A → List ℕ) (g : ℕ × A → List ℕ) → rest ≡ stored f w → ((vs : A) → g (x, vs) ≡ f vs)
    → cond b rest (bad_at at) ≡ stored g (and_then (cond b (is x) (bad_at at)) (λ v. and_then w (λ vs. is (v, vs))))
tested false x at rest w f g h e = refl
tested true x at rest (is vs) f g h e = h ∙ ap (λ (z : List ℕ). is z) (sym (e vs))
tested true x at rest (bad_at p) f g h e = h

pub filled : (ls : List ℕ) (v s : List ℕ) (at : ℕ) → AllSame ls → fill ls v s at ≡ stored (store ls v) (values_at (map letter_of ls) s at)
unfolding fill fill_by values_at value_at
filled [] v s at same = refl
filled (l ∷ ls) v s at same =
    let e : ℕ = get_or letters l 0 in
    let w : ℕ = width (letter_of l) in
    let x : ℕ = number w s at in
    rw (← same.0.0, ← same.0.1 x)
    (tested (fits (letter_of l) x) x at (fill ls (set v (slot_in e) x) s (at + w)) (values_at (map letter_of ls) s (at + w)) (store ls (set v (slot_in e) x)) (store (l ∷ ls) v)
    (filled ls (set v (slot_in e) x) s (at + w) same.1) (λ vs. refl))

-- a kind's number, and its entry; both bodies of a kind have one
abbrev number_of : EventKind → ℕ
number_of EventKind.setup_request = SETUP_REQUEST
number_of EventKind.setup_request_slots = SETUP_REQUEST
number_of EventKind.setup_response = SETUP_RESPONSE
number_of EventKind.release_request = RELEASE_REQUEST
number_of EventKind.tx_request = TX_REQUEST
number_of EventKind.d_call_proceeding = D_CALL_PROCEEDING
number_of EventKind.d_alert = D_ALERT
number_of EventKind.d_connect = D_CONNECT
number_of EventKind.d_connect_slots = D_CONNECT
number_of EventKind.d_connect_acknowledge = D_CONNECT_ACKNOWLEDGE
number_of EventKind.d_setup = D_SETUP
number_of EventKind.d_info = D_INFO
number_of EventKind.d_info_slots = D_INFO
number_of EventKind.d_tx_granted = D_TX_GRANTED
number_of EventKind.d_tx_ceased = D_TX_CEASED
number_of EventKind.d_tx_interrupt = D_TX_INTERRUPT
number_of EventKind.d_tx_wait = D_TX_WAIT
number_of EventKind.d_tx_continue = D_TX_CONTINUE
number_of EventKind.d_call_restore = D_CALL_RESTORE
number_of EventKind.d_disconnect = D_DISCONNECT
number_of EventKind.d_release = D_RELEASE
number_of EventKind.report_sent = REPORT_SENT
number_of EventKind.report_failed = REPORT_FAILED
number_of EventKind.break = BREAK
number_of EventKind.resume = RESUME
number_of EventKind.expiry = EXPIRY

abbrev entry_of : EventKind → ℕ
entry_of kind = get_or entries (suc (number_of kind)) 0

module _ (c : Call) (bytes : List ℕ) where
  finish : (kind : ℕ) (w : Found (List ℕ)) {A : Type 0} (f : A → List ℕ) (e : A → Event) (u : Found A) → w ≡ stored f u → ((vs : A) → flat_at kind (f vs) ≡ taken (flat_of c (e vs)))
      → timed kind w ≡ flatted c (or_place u (λ vs. taken (e vs)))
  finish kind w f e (is vs) h at = ap (timed kind) h ∙ at vs
  finish kind w f e (bad_at p) h at = ap (timed kind) h

  -- what the slots hold then is what the definitions read by a kind's letters
  abbrev Reads : ℕ → EventKind → List ℕ → Type 0
  Reads kind x ls = timed kind (fill ls (slots c) bytes 4) ≡ flatted c (or_place (values_at (event_row x).letters bytes 4) (λ vs. taken (event_of x vs)))

  by_letters : (ls : List ℕ) (kind : ℕ) (e : Values (map letter_of ls) → Event) → AllSame ls → ((vs : Values (map letter_of ls)) → flat_at kind (store ls (slots c) vs) ≡ taken (flat_of c (e vs)))
      → timed kind (fill ls (slots c) bytes 4) ≡ flatted c (or_place (values_at (map letter_of ls) bytes 4) (λ vs. taken (e vs)))
  by_letters ls kind e same at = finish kind (fill ls (slots c) bytes 4) (store ls (slots c)) e (values_at (map letter_of ls) bytes 4) (filled ls (slots c) bytes 4 same) at

  -- a kind with one body, and one with two: the body that has the size
  one : (kind l : ℕ) (x : EventKind) → eqb l 0x100000 ≡ false → Reads kind x (spell 5 l) → (b : Bool) → eqb (length bytes) (size_of events x) ≡ b
      → body_for (cond b l 0x100000) kind c bytes ≡ flatted c (or_place (sized (cond b (some x) none)) (λ y. read_body events y bytes))
  unfolding body_for read_body body_of
  one kind l x real reads true size = rw (real, size) reads
  one kind l x real reads false size = refl

  two : (kind l m : ℕ) (x y : EventKind) → eqb l 0x100000 ≡ false → eqb m 0x100000 ≡ false → Reads kind x (spell 5 l) → Reads kind y (spell 5 m) → (b d : Bool)
      → eqb (length bytes) (size_of events x) ≡ b → eqb (length bytes) (size_of events y) ≡ d
      → body_for (cond b l (cond d m 0x100000)) kind c bytes ≡ flatted c (or_place (sized (cond b (some x) (cond d (some y) none))) (λ z. read_body events z bytes))
  unfolding body_for read_body body_of
  two kind l m x y real real-2 reads longer true d size size-2 = rw (real, size) reads
  two kind l m x y real real-2 reads longer false true size size-2 = rw (real-2, size-2) longer
  two kind l m x y real real-2 reads longer false false size size-2 = refl

  unfoldable opened : Unit {0}
  unfolding spell flat_at timer_place late_kind flat_of
  opened = tt

  unfoldable looked_up : Unit {0}
  unfolding body_by letters_for one_more with_slots read_as read_among spell
  looked_up = tt

  setup_request_reads : Reads SETUP_REQUEST EventKind.setup_request (A₁ ∷ D ∷ Q ∷ [])
  unfolding opened
  setup_request_reads = by_letters (A₁ ∷ D ∷ Q ∷ []) SETUP_REQUEST (event_of EventKind.setup_request) ((refl, λ x. refl), ((refl, λ x. refl), ((refl, λ x. refl), tt))) (λ vs. refl)

  setup_request_slots_reads : Reads SETUP_REQUEST EventKind.setup_request_slots (A₁ ∷ D ∷ Q ∷ S ∷ [])
  unfolding opened
  setup_request_slots_reads = by_letters (A₁ ∷ D ∷ Q ∷ S ∷ []) SETUP_REQUEST (event_of EventKind.setup_request_slots) ((refl, λ x. refl), ((refl, λ x. refl), ((refl, λ x. refl), ((refl, λ x. refl), tt)))) (λ vs. refl)

  setup_request_is : body_by (entry_of EventKind.setup_request) SETUP_REQUEST c bytes ≡ flatted c (read_as events (event_row EventKind.setup_request).number bytes)
  unfolding looked_up
  setup_request_is =
      two SETUP_REQUEST 0x761 0xd761 EventKind.setup_request EventKind.setup_request_slots refl refl setup_request_reads setup_request_slots_reads (eqb (length bytes) 10) (eqb (length bytes) 11) refl refl

  setup_response_reads : Reads SETUP_RESPONSE EventKind.setup_response []
  unfolding opened
  setup_response_reads = by_letters [] SETUP_RESPONSE (event_of EventKind.setup_response) tt (λ vs. refl)

  setup_response_is : body_by (entry_of EventKind.setup_response) SETUP_RESPONSE c bytes ≡ flatted c (read_as events (event_row EventKind.setup_response).number bytes)
  unfolding looked_up
  setup_response_is = one SETUP_RESPONSE 0x0 EventKind.setup_response refl setup_response_reads (eqb (length bytes) 4) refl

  release_request_reads : Reads RELEASE_REQUEST EventKind.release_request []
  unfolding opened
  release_request_reads = by_letters [] RELEASE_REQUEST (event_of EventKind.release_request) tt (λ vs. refl)

  release_request_is : body_by (entry_of EventKind.release_request) RELEASE_REQUEST c bytes ≡ flatted c (read_as events (event_row EventKind.release_request).number bytes)
  unfolding looked_up
  release_request_is = one RELEASE_REQUEST 0x0 EventKind.release_request refl release_request_reads (eqb (length bytes) 4) refl

  tx_request_reads : Reads TX_REQUEST EventKind.tx_request (K ∷ [])
  unfolding opened
  tx_request_reads = by_letters (K ∷ []) TX_REQUEST (event_of EventKind.tx_request) ((refl, λ x. refl), tt) (λ vs. refl)

  tx_request_is : body_by (entry_of EventKind.tx_request) TX_REQUEST c bytes ≡ flatted c (read_as events (event_row EventKind.tx_request).number bytes)
  unfolding looked_up
  tx_request_is = one TX_REQUEST 0x8 EventKind.tx_request refl tx_request_reads (eqb (length bytes) 5) refl

  d_call_proceeding_reads : Reads D_CALL_PROCEEDING EventKind.d_call_proceeding (I ∷ [])
  unfolding opened
  d_call_proceeding_reads = by_letters (I ∷ []) D_CALL_PROCEEDING (event_of EventKind.d_call_proceeding) ((refl, λ x. refl), tt) (λ vs. refl)

  d_call_proceeding_is : body_by (entry_of EventKind.d_call_proceeding) D_CALL_PROCEEDING c bytes ≡ flatted c (read_as events (event_row EventKind.d_call_proceeding).number bytes)
  unfolding looked_up
  d_call_proceeding_is = one D_CALL_PROCEEDING 0x3 EventKind.d_call_proceeding refl d_call_proceeding_reads (eqb (length bytes) 6) refl

  d_alert_reads : Reads D_ALERT EventKind.d_alert (I ∷ [])
  unfolding opened
  d_alert_reads = by_letters (I ∷ []) D_ALERT (event_of EventKind.d_alert) ((refl, λ x. refl), tt) (λ vs. refl)

  d_alert_is : body_by (entry_of EventKind.d_alert) D_ALERT c bytes ≡ flatted c (read_as events (event_row EventKind.d_alert).number bytes)
  unfolding looked_up
  d_alert_is = one D_ALERT 0x3 EventKind.d_alert refl d_alert_reads (eqb (length bytes) 6) refl

  d_connect_reads : Reads D_CONNECT EventKind.d_connect (I ∷ G ∷ D ∷ O ∷ [])
  unfolding opened
  d_connect_reads = by_letters (I ∷ G ∷ D ∷ O ∷ []) D_CONNECT (event_of EventKind.d_connect) ((refl, λ x. refl), ((refl, λ x. refl), ((refl, λ x. refl), ((refl, λ x. refl), tt)))) (λ vs. refl)

  d_connect_slots_reads : Reads D_CONNECT EventKind.d_connect_slots (I ∷ G ∷ D ∷ O ∷ S ∷ [])
  unfolding opened
  d_connect_slots_reads = by_letters (I ∷ G ∷ D ∷ O ∷ S ∷ []) D_CONNECT (event_of EventKind.d_connect_slots) ((refl, λ x. refl), ((refl, λ x. refl), ((refl, λ x. refl), ((refl, λ x. refl), ((refl, λ x. refl), tt))))) (λ vs. refl)

  d_connect_is : body_by (entry_of EventKind.d_connect) D_CONNECT c bytes ≡ flatted c (read_as events (event_row EventKind.d_connect).number bytes)
  unfolding looked_up
  d_connect_is =
      two D_CONNECT 0xb693 0xdb693 EventKind.d_connect EventKind.d_connect_slots refl refl d_connect_reads d_connect_slots_reads (eqb (length bytes) 9) (eqb (length bytes) 10) refl refl

  d_connect_acknowledge_reads : Reads D_CONNECT_ACKNOWLEDGE EventKind.d_connect_acknowledge (I ∷ G ∷ O ∷ [])
  unfolding opened
  d_connect_acknowledge_reads = by_letters (I ∷ G ∷ O ∷ []) D_CONNECT_ACKNOWLEDGE (event_of EventKind.d_connect_acknowledge) ((refl, λ x. refl), ((refl, λ x. refl), ((refl, λ x. refl), tt))) (λ vs. refl)

  d_connect_acknowledge_is : body_by (entry_of EventKind.d_connect_acknowledge) D_CONNECT_ACKNOWLEDGE c bytes ≡ flatted c (read_as events (event_row EventKind.d_connect_acknowledge).number bytes)
  unfolding looked_up
  d_connect_acknowledge_is = one D_CONNECT_ACKNOWLEDGE 0xb93 EventKind.d_connect_acknowledge refl d_connect_acknowledge_reads (eqb (length bytes) 8) refl

  d_setup_reads : Reads D_SETUP EventKind.d_setup (I ∷ A ∷ D ∷ [])
  unfolding opened
  d_setup_reads = by_letters (I ∷ A ∷ D ∷ []) D_SETUP (event_of EventKind.d_setup) ((refl, λ x. refl), ((refl, λ x. refl), ((refl, λ x. refl), tt))) (λ vs. refl)

  d_setup_is : body_by (entry_of EventKind.d_setup) D_SETUP c bytes ≡ flatted c (read_as events (event_row EventKind.d_setup).number bytes)
  unfolding looked_up
  d_setup_is = one D_SETUP 0x623 EventKind.d_setup refl d_setup_reads (eqb (length bytes) 11) refl

  d_info_reads : Reads D_INFO EventKind.d_info (I ∷ R ∷ O₁₆ ∷ D ∷ [])
  unfolding opened
  d_info_reads = by_letters (I ∷ R ∷ O₁₆ ∷ D ∷ []) D_INFO (event_of EventKind.d_info) ((refl, λ x. refl), ((refl, λ x. refl), ((refl, λ x. refl), ((refl, λ x. refl), tt)))) (λ vs. refl)

  d_info_slots_reads : Reads D_INFO EventKind.d_info_slots (I ∷ R ∷ O₁₆ ∷ D ∷ S ∷ [])
  unfolding opened
  d_info_slots_reads = by_letters (I ∷ R ∷ O₁₆ ∷ D ∷ S ∷ []) D_INFO (event_of EventKind.d_info_slots) ((refl, λ x. refl), ((refl, λ x. refl), ((refl, λ x. refl), ((refl, λ x. refl), ((refl, λ x. refl), tt))))) (λ vs. refl)

  d_info_is : body_by (entry_of EventKind.d_info) D_INFO c bytes ≡ flatted c (read_as events (event_row EventKind.d_info).number bytes)
  unfolding looked_up
  d_info_is =
      two D_INFO 0x6ca3 0xd6ca3 EventKind.d_info EventKind.d_info_slots refl refl d_info_reads d_info_slots_reads (eqb (length bytes) 9) (eqb (length bytes) 10) refl refl

  d_tx_granted_reads : Reads D_TX_GRANTED EventKind.d_tx_granted (I ∷ G ∷ [])
  unfolding opened
  d_tx_granted_reads = by_letters (I ∷ G ∷ []) D_TX_GRANTED (event_of EventKind.d_tx_granted) ((refl, λ x. refl), ((refl, λ x. refl), tt)) (λ vs. refl)

  d_tx_granted_is : body_by (entry_of EventKind.d_tx_granted) D_TX_GRANTED c bytes ≡ flatted c (read_as events (event_row EventKind.d_tx_granted).number bytes)
  unfolding looked_up
  d_tx_granted_is = one D_TX_GRANTED 0x93 EventKind.d_tx_granted refl d_tx_granted_reads (eqb (length bytes) 7) refl

  d_tx_ceased_reads : Reads D_TX_CEASED EventKind.d_tx_ceased (I ∷ [])
  unfolding opened
  d_tx_ceased_reads = by_letters (I ∷ []) D_TX_CEASED (event_of EventKind.d_tx_ceased) ((refl, λ x. refl), tt) (λ vs. refl)

  d_tx_ceased_is : body_by (entry_of EventKind.d_tx_ceased) D_TX_CEASED c bytes ≡ flatted c (read_as events (event_row EventKind.d_tx_ceased).number bytes)
  unfolding looked_up
  d_tx_ceased_is = one D_TX_CEASED 0x3 EventKind.d_tx_ceased refl d_tx_ceased_reads (eqb (length bytes) 6) refl

  d_tx_interrupt_reads : Reads D_TX_INTERRUPT EventKind.d_tx_interrupt (I ∷ G ∷ [])
  unfolding opened
  d_tx_interrupt_reads = by_letters (I ∷ G ∷ []) D_TX_INTERRUPT (event_of EventKind.d_tx_interrupt) ((refl, λ x. refl), ((refl, λ x. refl), tt)) (λ vs. refl)

  d_tx_interrupt_is : body_by (entry_of EventKind.d_tx_interrupt) D_TX_INTERRUPT c bytes ≡ flatted c (read_as events (event_row EventKind.d_tx_interrupt).number bytes)
  unfolding looked_up
  d_tx_interrupt_is = one D_TX_INTERRUPT 0x93 EventKind.d_tx_interrupt refl d_tx_interrupt_reads (eqb (length bytes) 7) refl

  d_tx_wait_reads : Reads D_TX_WAIT EventKind.d_tx_wait (I ∷ [])
  unfolding opened
  d_tx_wait_reads = by_letters (I ∷ []) D_TX_WAIT (event_of EventKind.d_tx_wait) ((refl, λ x. refl), tt) (λ vs. refl)

  d_tx_wait_is : body_by (entry_of EventKind.d_tx_wait) D_TX_WAIT c bytes ≡ flatted c (read_as events (event_row EventKind.d_tx_wait).number bytes)
  unfolding looked_up
  d_tx_wait_is = one D_TX_WAIT 0x3 EventKind.d_tx_wait refl d_tx_wait_reads (eqb (length bytes) 6) refl

  d_tx_continue_reads : Reads D_TX_CONTINUE EventKind.d_tx_continue (I ∷ K ∷ [])
  unfolding opened
  d_tx_continue_reads = by_letters (I ∷ K ∷ []) D_TX_CONTINUE (event_of EventKind.d_tx_continue) ((refl, λ x. refl), ((refl, λ x. refl), tt)) (λ vs. refl)

  d_tx_continue_is : body_by (entry_of EventKind.d_tx_continue) D_TX_CONTINUE c bytes ≡ flatted c (read_as events (event_row EventKind.d_tx_continue).number bytes)
  unfolding looked_up
  d_tx_continue_is = one D_TX_CONTINUE 0x83 EventKind.d_tx_continue refl d_tx_continue_reads (eqb (length bytes) 7) refl

  d_call_restore_reads : Reads D_CALL_RESTORE EventKind.d_call_restore (I ∷ G ∷ R ∷ O₁₆ ∷ [])
  unfolding opened
  d_call_restore_reads = by_letters (I ∷ G ∷ R ∷ O₁₆ ∷ []) D_CALL_RESTORE (event_of EventKind.d_call_restore) ((refl, λ x. refl), ((refl, λ x. refl), ((refl, λ x. refl), ((refl, λ x. refl), tt)))) (λ vs. refl)

  d_call_restore_is : body_by (entry_of EventKind.d_call_restore) D_CALL_RESTORE c bytes ≡ flatted c (read_as events (event_row EventKind.d_call_restore).number bytes)
  unfolding looked_up
  d_call_restore_is = one D_CALL_RESTORE 0xca93 EventKind.d_call_restore refl d_call_restore_reads (eqb (length bytes) 9) refl

  d_disconnect_reads : Reads D_DISCONNECT EventKind.d_disconnect (I₀ ∷ [])
  unfolding opened
  d_disconnect_reads = by_letters (I₀ ∷ []) D_DISCONNECT (event_of EventKind.d_disconnect) ((refl, λ x. refl), tt) (λ vs. refl)

  d_disconnect_is : body_by (entry_of EventKind.d_disconnect) D_DISCONNECT c bytes ≡ flatted c (read_as events (event_row EventKind.d_disconnect).number bytes)
  unfolding looked_up
  d_disconnect_is = one D_DISCONNECT 0x4 EventKind.d_disconnect refl d_disconnect_reads (eqb (length bytes) 6) refl

  d_release_reads : Reads D_RELEASE EventKind.d_release (I₀ ∷ [])
  unfolding opened
  d_release_reads = by_letters (I₀ ∷ []) D_RELEASE (event_of EventKind.d_release) ((refl, λ x. refl), tt) (λ vs. refl)

  d_release_is : body_by (entry_of EventKind.d_release) D_RELEASE c bytes ≡ flatted c (read_as events (event_row EventKind.d_release).number bytes)
  unfolding looked_up
  d_release_is = one D_RELEASE 0x4 EventKind.d_release refl d_release_reads (eqb (length bytes) 6) refl

  report_sent_reads : Reads REPORT_SENT EventKind.report_sent []
  unfolding opened
  report_sent_reads = by_letters [] REPORT_SENT (event_of EventKind.report_sent) tt (λ vs. refl)

  report_sent_is : body_by (entry_of EventKind.report_sent) REPORT_SENT c bytes ≡ flatted c (read_as events (event_row EventKind.report_sent).number bytes)
  unfolding looked_up
  report_sent_is = one REPORT_SENT 0x0 EventKind.report_sent refl report_sent_reads (eqb (length bytes) 4) refl

  report_failed_reads : Reads REPORT_FAILED EventKind.report_failed []
  unfolding opened
  report_failed_reads = by_letters [] REPORT_FAILED (event_of EventKind.report_failed) tt (λ vs. refl)

  report_failed_is : body_by (entry_of EventKind.report_failed) REPORT_FAILED c bytes ≡ flatted c (read_as events (event_row EventKind.report_failed).number bytes)
  unfolding looked_up
  report_failed_is = one REPORT_FAILED 0x0 EventKind.report_failed refl report_failed_reads (eqb (length bytes) 4) refl

  break_reads : Reads BREAK EventKind.break []
  unfolding opened
  break_reads = by_letters [] BREAK (event_of EventKind.break) tt (λ vs. refl)

  break_is : body_by (entry_of EventKind.break) BREAK c bytes ≡ flatted c (read_as events (event_row EventKind.break).number bytes)
  unfolding looked_up
  break_is = one BREAK 0x0 EventKind.break refl break_reads (eqb (length bytes) 4) refl

  resume_reads : Reads RESUME EventKind.resume []
  unfolding opened
  resume_reads = by_letters [] RESUME (event_of EventKind.resume) tt (λ vs. refl)

  resume_is : body_by (entry_of EventKind.resume) RESUME c bytes ≡ flatted c (read_as events (event_row EventKind.resume).number bytes)
  unfolding looked_up
  resume_is = one RESUME 0x0 EventKind.resume refl resume_reads (eqb (length bytes) 4) refl

  -- the timer's number: one of seven, or wrong
  no_timer : (b : Bool) (x : ℕ) → timer_place x ≡ 7 → timed EXPIRY (cond b (is (set (slots c) TIMER x)) (bad_at 4)) ≡ refused 4 4
  unfolding flat_at
  no_timer true x h = rw h refl
  no_timer false x h = refl

  no_place : (x : ℕ) → eqb x 301 ≡ false → eqb x 302 ≡ false → eqb x 303 ≡ false → eqb x 306 ≡ false → eqb x 308 ≡ false → eqb x 310 ≡ false → eqb x 311 ≡ false → timer_place x ≡ 7
  unfolding timer_place
  no_place x f1 f2 f3 f4 f5 f6 f7 = rw (f1, f2, f3, f4, f5, f6, f7) refl

  not_timer : (x : ℕ) → eqb x 301 ≡ false → eqb x 302 ≡ false → eqb x 303 ≡ false → eqb x 306 ≡ false → eqb x 308 ≡ false → eqb x 310 ≡ false → eqb x 311 ≡ false → is_timer x ≡ false
  unfolding is_timer
  not_timer x f1 f2 f3 f4 f5 f6 f7 = rw (f1, f2, f3, f4, f5, f6, f7) refl

  -- what the definitions read there
  abbrev expiry_at : ℕ → Bool → Read Flat
  expiry_at x b = flatted c (or_place {A = Values (n ∷ [])} (and_then (cond b (is x) (bad_at 4)) (λ v. and_then (is tt) (λ vs. is (v, vs)))) (λ vs. taken (Event.Expiry vs.0)))

  by_number_lem : (x : ℕ) → timed EXPIRY (cond (within 0 65535 x) (is (set (slots c) TIMER x)) (bad_at 4)) ≡ expiry_at x (is_timer x)
  unfolding opened within is_timer expired_of
  by_number_lem x =
      by_test (eqb x 301) (λ t. rw (eqb-true x 301 t) refl) (λ f1.
      (by_test (eqb x 302) (λ t. rw (eqb-true x 302 t) refl) (λ f2.
      (by_test (eqb x 303) (λ t. rw (eqb-true x 303 t) refl) (λ f3.
      (by_test (eqb x 306) (λ t. rw (eqb-true x 306 t) refl) (λ f4.
      (by_test (eqb x 308) (λ t. rw (eqb-true x 308 t) refl) (λ f5.
      (by_test (eqb x 310) (λ t. rw (eqb-true x 310 t) refl) (λ f6.
      (by_test (eqb x 311) (λ t. rw (eqb-true x 311 t) refl) (λ f7.
      no_timer (within 0 65535 x) x (no_place x f1 f2 f3 f4 f5 f6 f7) ∙ ap (expiry_at x) (sym (not_timer x f1 f2 f3 f4 f5 f6 f7)))))))))))))))

  expiry_reads : Reads EXPIRY EventKind.expiry (N ∷ [])
  unfolding opened fill fill_by values_at value_at
  expiry_reads = by_number_lem (number 2 bytes 4)

  expiry_is : body_by (entry_of EventKind.expiry) EXPIRY c bytes ≡ flatted c (read_as events (event_row EventKind.expiry).number bytes)
  unfolding looked_up
  expiry_is = one EXPIRY 0x5 EventKind.expiry refl expiry_reads (eqb (length bytes) 6) refl

  body_is : (x : EventKind) → body_by (entry_of x) (number_of x) c bytes ≡ flatted c (read_as events (event_row x).number bytes)
  body_is EventKind.setup_request = setup_request_is
  body_is EventKind.setup_request_slots = setup_request_is
  body_is EventKind.setup_response = setup_response_is
  body_is EventKind.release_request = release_request_is
  body_is EventKind.tx_request = tx_request_is
  body_is EventKind.d_call_proceeding = d_call_proceeding_is
  body_is EventKind.d_alert = d_alert_is
  body_is EventKind.d_connect = d_connect_is
  body_is EventKind.d_connect_slots = d_connect_is
  body_is EventKind.d_connect_acknowledge = d_connect_acknowledge_is
  body_is EventKind.d_setup = d_setup_is
  body_is EventKind.d_info = d_info_is
  body_is EventKind.d_info_slots = d_info_is
  body_is EventKind.d_tx_granted = d_tx_granted_is
  body_is EventKind.d_tx_ceased = d_tx_ceased_is
  body_is EventKind.d_tx_interrupt = d_tx_interrupt_is
  body_is EventKind.d_tx_wait = d_tx_wait_is
  body_is EventKind.d_tx_continue = d_tx_continue_is
  body_is EventKind.d_call_restore = d_call_restore_is
  body_is EventKind.d_disconnect = d_disconnect_is
  body_is EventKind.d_release = d_release_is
  body_is EventKind.report_sent = report_sent_is
  body_is EventKind.report_failed = report_failed_is
  body_is EventKind.break = break_is
  body_is EventKind.resume = resume_is
  body_is EventKind.expiry = expiry_is

-- which entry

-- the kinds as the table has them, each once
abbrev lines : List EventKind
lines =
    EventKind.setup_request ∷
    EventKind.setup_response ∷
    EventKind.release_request ∷
    EventKind.tx_request ∷
    EventKind.d_call_proceeding ∷
    EventKind.d_alert ∷
    EventKind.d_connect ∷
    EventKind.d_connect_acknowledge ∷
    EventKind.d_setup ∷
    EventKind.d_info ∷
    EventKind.d_tx_granted ∷
    EventKind.d_tx_ceased ∷
    EventKind.d_tx_interrupt ∷
    EventKind.d_tx_wait ∷
    EventKind.d_tx_continue ∷
    EventKind.d_call_restore ∷
    EventKind.d_disconnect ∷
    EventKind.d_release ∷
    EventKind.report_sent ∷
    EventKind.report_failed ∷
    EventKind.break ∷
    EventKind.resume ∷
    EventKind.expiry ∷
    []

abbrev kind_at : ℕ → List EventKind → EventKind
kind_at j ks = get_or ks j EventKind.setup_request

at_map : (f : EventKind → ℕ) (ks : List EventKind) (j : ℕ) → j < length ks → get_or (map f ks) j 0 ≡ f (kind_at j ks)
at_map f [] j h = absurd (not-suc-le-zero h)
at_map f (x ∷ ks) zero h = refl
at_map f (x ∷ ks) (suc j) h = at_map f ks j (le_of_suc-le-suc h)

at_kind : (p : EventKind → Bool) (ks : List EventKind) → every p ks ≡ true → (j : ℕ) → j < length ks → p (kind_at j ks) ≡ true
at_kind p [] t j h = absurd (not-suc-le-zero h)
at_kind p (x ∷ ks) t zero h = (both (p x) (every p ks) t).0
at_kind p (x ∷ ks) t (suc j) h = at_kind p ks (both (p x) (every p ks) t).1 j (le_of_suc-le-suc h)

-- numbered one after the other
abbrev counted : ℕ → List EventKind → Bool
counted from [] = true
counted from (x ∷ ks) = eqb (number_of x) from && counted (suc from) ks

at_count : (ks : List EventKind) (from j : ℕ) → counted from ks ≡ true → j < length ks → number_of (kind_at j ks) ≡ from + j
at_count [] from j t h = absurd (not-suc-le-zero h)
at_count (x ∷ ks) from zero t h = omega (arith, eqb-true (number_of x) from (both (eqb (number_of x) from) (counted (suc from) ks) t).0)
at_count (x ∷ ks) from (suc j) t h = omega (arith, at_count ks (suc from) j (both (eqb (number_of x) from) (counted (suc from) ks) t).1 (le_of_suc-le-suc h))

entry_at : (j : ℕ) → j < 23 → get_or entries (suc j) 0 ≡ entry_of (kind_at j lines)
entry_at j h = at_map entry_of lines j h

number_is : (j : ℕ) → j < 23 → number_of (kind_at j lines) ≡ j
number_is j h = omega (arith, at_count lines 0 j refl h)

-- an entry has its kind's number
named_at : (j : ℕ) → j < 23 → kind_of (get_or entries (suc j) 0) ≡ (event_row (kind_at j lines)).number
named_at j h =
    let same = eqb-true _ _ (at_kind (λ x. eqb (event_row x).number (kind_of (entry_of x))) lines refl j h) in
    ap kind_of (entry_at j h) ∙ sym same

-- the first entry is no kind's
behind_first : (p m : ℕ) → m % 256 ≤ p → kind_of (get_or entries p 0) ≡ m → 0 < p
behind_first zero m h e = absurd (omega arith)
behind_first (suc p) m h e = omega arith

pub not_first : (m : ℕ) → kind_of (get_or entries (place_of m) 0) ≡ m → 0 < place_of m
unfolding place_of
not_first m e = behind_first (place_of m) m (omega arith) e

-- a number that its place does not lead to is no kind's
abbrev led : ℕ → Bool
led m = leb (place_of m) 23 && eqb (kind_of (get_or entries (place_of m) 0)) m

miss : (m : ℕ) (ks : List EventKind) → led m ≡ false → every (λ x. led (event_row x).number) ks ≡ true → known events m ks ≡ false
miss m [] h t = refl
miss m (x ∷ ks) h t =
    let w = both (led (event_row x).number) (every (λ y. led (event_row y).number) ks) t in
    by_test (eqb m (event_row x).number) (λ e. absurd (true≢false (sym w.0 ∙ ap led (sym (eqb-true m (event_row x).number e)) ∙ h))) (λ e. rw e (miss m ks h w.1))

no_kind_lem : (m : ℕ) → led m ≡ false → known events m event_kinds ≡ false
unfolding place_of hint_of
no_kind_lem m h = miss m event_kinds h refl

unread : (m : ℕ) (c : Call) (s : List ℕ) → eqb m RETIRED ≡ false → led m ≡ false → refused 3 0 ≡ flatted c (read_as events m s)
unfolding read_as read_among
unread m c s r h = rw (r, no_kind_lem m h) refl

retired : (m : ℕ) (c : Call) (s : List ℕ) → eqb m RETIRED ≡ true → refused 9 0 ≡ flatted c (read_as events m s)
unfolding read_as
retired m c s r = rw r refl

pub kind_is : (m : ℕ) (c : Call) (s : List ℕ) → kind_by m c s ≡ flatted c (read_as events m s)
unfolding kind_by
kind_is m c s =
    by_test (eqb m RETIRED) (λ r. rw r (retired m c s r))
    (λ current. by_test (leb (place_of m) 23)
    (λ small. by_test (eqb (kind_of (get_or entries (place_of m) 0)) m)
    (λ same.
    let e = eqb-true (kind_of (get_or entries (place_of m) 0)) m same in
    let some = not_first m e in
    let below : place_of m - 1 < 23 = omega (arith, leb-true (place_of m) 23 small) in
    let back : place_of m ≡ suc (place_of m - 1) = omega arith in
    let x : EventKind = kind_at (place_of m - 1) lines in
    let entry : get_or entries (place_of m) 0 ≡ entry_of x = ap (λ (w : ℕ). get_or entries w 0) back ∙ entry_at (place_of m - 1) below in
    let number : (event_row x).number ≡ m = sym (named_at (place_of m - 1) below) ∙ ap (λ (w : ℕ). kind_of (get_or entries w 0)) (sym back) ∙ e in
    rw (current, small, same)
    (ap (λ (w : ℕ). body_by w (place_of m - 1) c s) entry
    ∙ ap (λ (w : ℕ). body_by (entry_of x) w c s) (sym (number_is (place_of m - 1) below))
    ∙ body_is c s x
    ∙ ap (λ (w : ℕ). flatted c (read_as events w s)) number))
    (λ other. rw (current, small, other) (unread m c s current (rw (small, other) refl))))
    (λ big. rw (current, big) (unread m c s current (rw big refl))))
