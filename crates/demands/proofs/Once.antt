-- One call writes at most one U-DISCONNECT and at most one U-RELEASE: the first by a row that leads to CALL-DISCONNECT, where no row writes one; the
-- second by a row that ends the call.
use Prim.Native.Nat.{ℕ, zero, suc, ◌+◌, ◌≤◌}
use mathlib.Core.Path.{◌≡◌, refl}
use mathlib.Core.Bool.{Bool, true, false, cond, not}
use mathlib.Core.List.{List, [], ◌∷◌, ◌++◌}
use native.Mathlib.Omega.{arith}
use lib.Dec.{eqb, lit≤}
use Rattle.records.specs.declared.events.Event.{Event}
use Rattle.records.specs.declared.messages.Message.{Message}
use Rattle.records.specs.declared.messages.Message.TheVariants.{SetupConfirm, Complete, TxIndication, ModifyIndication, Stop, Start, Configure, Cancel}
use Rattle.callcontrol.specs.declared.call.State.{State}
use Rattle.callcontrol.specs.declared.call.Path.{Path}
use Rattle.callcontrol.specs.declared.call.Call.{Call}
use Rattle.callcontrol.specs.Draft.{Slot, Draft, ◌▷◌, draft, go, on_path, store_id, store_mode, store_code, store_slots, store_sent, stop, start, same_plane, plane, off, grant, grant_or_off, restart, tell}
use Rattle.callcontrol.specs.Call.{fresh_call, is_idle, T301, T302, T303, T306, T310}
use Rattle.callcontrol.specs.Rows
use Rattle.callcontrol.specs.Rows.{row_for}
use Rattle.callcontrol.specs.Writing.{when, held, by_number, starting, messages_in}
use Rattle.callcontrol.proofs.Verbs.{verbs}
use Rattle.demands.specs.Runs.{Turn, outcome, next, run, written_by, written_in, is_u_disconnect, is_u_release, of_kind}
use Rattle.demands.specs.Demands.{Kept, count, one_call, OneUDisconnect, OneURelease}
use Rattle.demands.proofs.Facts.{apart, left, right, is_not}
use Rattle.demands.proofs.ByRow.{Live, calling, called, talking, waiting, Row, is_row}
use Rattle.demands.proofs.Cases.{by_plane_each, by_restart, by_grant, by_grant_or_off}
use Rattle.demands.proofs.Situations.{At, disconnect, situated}
use Rattle.demands.proofs.Sound.{step_keeps_sound, always}
use Rattle.demands.proofs.Turns.{Turned, passed, took, turned}

-- ---- among a row's messages, only the U-PDU and the user primitive could be such

module _ (p : Message → Bool) where
  count-append : (xs ys : List Message) → count p (xs ++ ys) ≡ count p xs + count p ys
  count-append [] ys = omega arith
  count-append (x ∷ xs) ys = omega (arith, count-append xs ys)

  when_none : (b : Bool) (m : Message) → p m ≡ false → count p (when b m) ≡ 0
  when_none true m h = rw h
  when_none false m h = refl

  timers_none : (order : ℕ → Message) → ((n : ℕ) → p (order n) ≡ false) → (flags : List Bool) → count p (by_number order flags) ≡ 0
  unfolding by_number
  timers_none order h flags = simp (count-append, when_none, h)

  abbrev in_slots : Draft → ℕ
  in_slots d = count p (held d.pdu) + count p (held d.user)

  module _ (stops : (n : ℕ) → p (Stop n) ≡ false) (starts : (n o : ℕ) → p (Start n o) ≡ false) (configures : (n : ℕ) → p (Configure n) ≡ false) (cancels : p Cancel ≡ false) where
    in_slots_lem : (d : Draft) → count p (messages_in d) ≡ in_slots d
    unfolding messages_in starting
    in_slots_lem d =
        simp (count-append, timers_none Stop stops d.stops, timers_none (λ n. Start n (cond (eqb n 310) d.call.code 0)) (λ n. starts n _) d.starts, when_none, configures, cancels)
        (omega arith)

-- ---- the rows

-- how many U-DISCONNECTs a call may still write
abbrev due : State → ℕ
due State.Idle = 1
due State.MoCallSetup = 1
due State.MtCallSetup = 1
due State.CallActive = 1
due State.Wait = 1
due State.CallDisconnect = 0

due_most : (s : State) → due s ≤ 1
due_most State.Idle = lit≤ tt
due_most State.MoCallSetup = lit≤ tt
due_most State.MtCallSetup = lit≤ tt
due_most State.CallActive = lit≤ tt
due_most State.Wait = lit≤ tt
due_most State.CallDisconnect = lit≤ tt

live : {s : State} → Live s → due s ≡ 1
live calling = refl
live called = refl
live talking = refl
live waiting = refl

data Sends (s : State) (x : Draft) : Type 0 where
  neither : in_slots is_u_disconnect x ≡ 0 → in_slots is_u_release x ≡ 0 → (is_idle x.call ≡ false → due x.call.state ≤ due s) → Sends s x
  u_disconnect : due s ≡ 1 → in_slots is_u_disconnect x ≡ 1 → in_slots is_u_release x ≡ 0 → due x.call.state ≡ 0 → Sends s x
  u_release : in_slots is_u_disconnect x ≡ 0 → in_slots is_u_release x ≡ 1 → is_idle x.call ≡ true → Sends s x

-- the verbs that ask about numbers leave the U-PDU as it is
module _ (x : Draft) (h : x.pdu ≡ Slot.Empty) where
  silent_plane : (n : ℕ) → (plane n x).pdu ≡ Slot.Empty
  unfolding verbs
  silent_plane n = by_plane_each (λ y. y.pdu ≡ Slot.Empty) n x h h

  silent_restart : (r o : ℕ) → (restart r o x).pdu ≡ Slot.Empty
  unfolding verbs
  silent_restart r o = by_restart (λ y. y.pdu ≡ Slot.Empty) r o x h h h

  silent_grant : (g : ℕ) → (grant g x).pdu ≡ Slot.Empty
  unfolding verbs
  silent_grant g = by_grant (λ y. y.pdu ≡ Slot.Empty) g x h h h h h

  silent_grant_or_off : (g : ℕ) → (grant_or_off g x).pdu ≡ Slot.Empty
  unfolding verbs
  silent_grant_or_off g = by_grant_or_off (λ y. y.pdu ≡ Slot.Empty) g x h h h h h h h

  -- a row without a U-PDU, in a state that may still write U-DISCONNECT
  tells_only : {s : State} (m : Message) → due s ≡ 1 → is_u_disconnect m ≡ false → is_u_release m ≡ false → Sends s (tell m x)
  unfolding tell
  tells_only m d e f = neither (rw (h, e)) (rw (h, f)) (λ z. rw d (due_most x.call.state))

sends : {c : Call} {s : State} {w : Path} {e : Event} {x : Draft} → Row c s w e x → At s w c → Sends s x
unfolding verbs of_kind Rows.releasing Rows.disconnected Rows.released Rows.confirmed
sends (Row.releases l) v = u_disconnect (live l) refl refl refl
sends (Row.disconnects l i) v = u_release refl refl refl
sends (Row.ends l i) v = neither refl refl (λ z. apart refl z)
sends (Row.expires l n k t z) v = u_disconnect (live l) refl refl refl
sends (Row.calls a d q zero) v = neither refl refl (λ z. lit≤ tt)
sends (Row.calls a d q (suc s)) v = neither refl refl (λ z. lit≤ tt)
sends (Row.is_called i a d) v = neither refl refl (λ z. lit≤ tt)
sends (Row.takes_back r) v = neither refl refl (λ z. apart refl z)
sends (Row.releases_sent r) v = u_disconnect refl refl refl refl
sends {c} (Row.proceeds i) v = neither refl refl (λ z. due_most c.state)
sends {c} (Row.alerts i) v = neither refl refl (λ z. due_most c.state)
sends {c} (Row.connects i g d o s) v =
    let x : Draft = draft c ▷ store_id i ▷ store_mode d ▷ store_code o ▷ store_slots s ▷ store_sent 1 ▷ go State.CallActive ▷ stop T302 ▷ stop T303 ▷ start T310 in
    tells_only (grant_or_off g x) (silent_grant_or_off x refl g) (SetupConfirm i g) refl refl refl
sends {c} (Row.sent r) v = neither refl refl (λ z. due_most c.state)
sends (Row.unsent r) v = neither refl refl (λ z. apart refl z)
sends {c} (Row.answers r) v = neither refl refl (λ z. due_most c.state)
sends {c} (Row.completes i g o r) v =
    let x : Draft = draft c ▷ store_code o ▷ go State.CallActive ▷ stop T301 ▷ start T310 in
    tells_only (grant_or_off g x) (silent_grant_or_off x refl g) (Complete g) refl refl refl
sends {c} (Row.asks_to_send k r y) v = neither refl refl (λ z. due_most c.state)
sends {c} (Row.stops_sending k r y) v = neither refl refl (λ z. due_most c.state)
sends {c} (Row.asks_no_more k r y x) v = neither refl refl (λ z. due_most c.state)
sends {c} (Row.same_mode i r o d s y) v =
    let x : Draft = same_plane (store_slots s (restart r o (draft c))) in
    tells_only x (silent_restart (draft c) refl r o) (ModifyIndication d x.call.slots) refl refl refl
sends {c} (Row.new_mode i r o d s y) v =
    let x : Draft = off (store_slots s (store_mode d (restart r o (draft c)))) in
    tells_only x (silent_restart (draft c) refl r o) (ModifyIndication d x.call.slots) refl refl refl
sends {c} (Row.granted i g) v = tells_only (grant g (draft c)) (silent_grant (draft c) refl g) (TxIndication g) refl refl refl
sends {c} (Row.ceased i) v = neither refl refl (λ z. due_most c.state)
sends {c} (Row.interrupted i g) v = tells_only (plane (cond (eqb g 3) 2 4) (draft c)) (silent_plane (draft c) refl (cond (eqb g 3) 2 4)) (TxIndication 5) refl refl refl
sends (Row.pauses i) v = neither refl refl (λ z. lit≤ tt)
sends {c} Row.breaks v = neither refl refl (λ z. due_most c.state)
sends {c} (Row.talked_out n r y) v = neither refl refl (λ z. due_most c.state)
sends {c} (Row.wants k r) v = neither refl refl (λ z. due_most c.state)
sends {c} Row.resumes v = neither refl refl (λ z. due_most c.state)
sends {c} (Row.restored i g r o) v =
    let d : Draft = draft c ▷ stop T306 ▷ on_path Path.Up in
    tells_only (restart r o (grant g d)) (silent_restart (grant g d) (silent_grant d refl g) r o) (TxIndication g) refl refl refl
sends {c} Row.breaks_again v = neither refl refl (λ z. due_most c.state)
sends {c} (Row.continues i k r) v = tells_only (plane c.kept (go State.CallActive (draft c))) (silent_plane (go State.CallActive (draft c)) refl c.kept) (TxIndication 7) refl refl refl
sends (Row.continues_off i k r) v = neither refl refl (λ z. lit≤ tt)
sends Row.breaks_paused v = neither refl refl (λ z. lit≤ tt)
sends (Row.collides i r) v = u_release refl refl refl
sends (Row.collides_sent i r) v = u_release refl refl refl
sends (Row.ends_first i r) v = neither refl refl (λ z. apart refl z)
sends (Row.confirms i r) v = neither refl refl (λ z. apart refl z)
sends (Row.end_sent r) (disconnect m) = neither refl refl (λ z. lit≤ tt)
sends (Row.end_unsent r) v = neither refl refl (λ z. apart refl z)
sends (Row.unanswered n r) v = neither refl refl (λ z. apart refl z)

-- ---- turns: what may still be written falls with what is written, until the call is over

record Fall (p : Message → Bool) (allowed : State → ℕ) (before : State) (ms : List Message) (after : Call) : Type 0 where
  most : count p ms ≤ allowed before
  then : is_idle after ≡ false → count p ms + allowed after.state ≤ allowed before

discs : (d : Draft) → count is_u_disconnect (messages_in d) ≡ in_slots is_u_disconnect d
unfolding of_kind
discs d = in_slots_lem is_u_disconnect (λ n. refl) (λ n o. refl) (λ n. refl) refl d

rels : (d : Draft) → count is_u_release (messages_in d) ≡ in_slots is_u_release d
unfolding of_kind
rels d = in_slots_lem is_u_release (λ n. refl) (λ n o. refl) (λ n. refl) refl d

disconnect_falls : {s : State} {x : Draft} → Sends s x → Fall is_u_disconnect due s (messages_in x) x.call
disconnect_falls {x = x} (neither d r f) = record { most = omega (arith, discs x, d); then = λ z. omega (arith, discs x, d, f z) }
disconnect_falls {x = x} (u_disconnect o d r e) = record { most = omega (arith, discs x, d, o); then = λ z. omega (arith, discs x, d, o, e) }
disconnect_falls {x = x} (u_release d r i) = record { most = omega (arith, discs x, d); then = λ z. apart i z }

-- a U-RELEASE ends the call, so that every state allows one
abbrev one : State → ℕ
one s = 1

release_falls : {s : State} {x : Draft} → Sends s x → Fall is_u_release one s (messages_in x) x.call
release_falls {x = x} (neither d r f) = record { most = omega (arith, rels x, r); then = λ z. omega (arith, rels x, r) }
release_falls {x = x} (u_disconnect o d r e) = record { most = omega (arith, rels x, r); then = λ z. omega (arith, rels x, r) }
release_falls {x = x} (u_release d r i) = record { most = omega (arith, rels x, r); then = λ z. apart i z }

module _ (p : Message → Bool) (allowed : State → ℕ) (rows : (s : State) (x : Draft) → Sends s x → Fall p allowed s (messages_in x) x.call) where
  turn_falls : (c : Call) → Kept c → (t : Turn) → Turned c t → Fall p allowed c.state (written_by c t) (next c t)
  unfolding written_by
  turn_falls c k t (passed q) = rw (q.takes, q.leaves) (record { most = omega arith; then = λ z. omega arith })
  turn_falls c k t (took e a) = rw (a.takes, a.leaves) (rows c.state (row_for c e) (sends (is_row c e a.row) (situated c k)))

  run_falls : (c : Call) → Kept c → (us : List Turn) → one_call c us ≡ true → count p (written_in c us) ≤ allowed c.state
  unfolding written_in one_call next outcome
  run_falls c k [] h = omega arith
  run_falls c k (t ∷ []) h = omega (arith, count-append p (written_by c t) [], (turn_falls c k t (turned c t)).most)
  run_falls c k (t ∷ u ∷ us) h =
      let rest : count p (written_in (next c t) (u ∷ us)) ≤ allowed (next c t).state
      = run_falls (next c t) (step_keeps_sound c t.event t.buffer k) (u ∷ us) (right (not (is_idle (next c t))) _ h) in
      let here : count p (written_by c t) + allowed (next c t).state ≤ allowed c.state
      = (turn_falls c k t (turned c t)).then (is_not _ (left (not (is_idle (next c t))) _ h)) in
      omega (arith, count-append p (written_by c t) (written_in (next c t) (u ∷ us)), here, rest)

pub one_u_disconnect : OneUDisconnect
one_u_disconnect ts us h =
    let c = run fresh_call ts in omega (arith, run_falls is_u_disconnect due (λ s x. disconnect_falls) c (always ts) us h, due_most c.state)

pub one_u_release : OneURelease
one_u_release ts us h = run_falls is_u_release one (λ s x. release_falls) (run fresh_call ts) (always ts) us h
