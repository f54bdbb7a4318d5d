-- The eighteen places are the messages of the draft that a row stands for.
use Prim.Native.Nat.{ℕ, zero, suc, ◌/◌, ◌%◌, ◌<◌, ◌≤◌}
use mathlib.Core.Path.{◌≡◌, refl, sym, ◌∙◌, ap}
use mathlib.Core.Bool.{Bool, true, false, cond, not}
use mathlib.Core.List.{List, [], ◌∷◌, ◌++◌, append_assoc, append-nil}
use native.Mathlib.Omega.{arith}
use borrow.Author.Tests.{ne_eqb, lt-ltb, le-leb}
use lib.Dec.{eqb}
use lib.ListN.{length, get_or}
use lib.Seq.{sets}
use Rattle.records.specs.Bytes.{bytes}
use Rattle.records.specs.Bodies.{flat_bytes, flat_size, body_bytes}
use Rattle.records.specs.declared.messages.Message.{Message}
use Rattle.records.specs.Messages.{message_bytes}
use Rattle.callcontrol.specs.declared.row.Row.{Row}
use Rattle.callcontrol.specs.declared.call.Call.{Call}
use Rattle.callcontrol.specs.Draft.{Slot, Draft}
use Rattle.callcontrol.specs.Step.{Outcome, carried}
use Rattle.callcontrol.specs.Settle.{has, pdu_by, user_by, settled}
use Rattle.callcontrol.specs.Writing.{when, held, by_number, starting, messages_in, bytes_of}
use Rattle.small.specs.Entry.{width_of, spell, body, entry_bytes, U_PDUS, PRIMITIVES, STOP, START, CONFIGURE, CANCELLING}
use Rattle.small.specs.Places.{number_after, number_at, timer_at, values_for, place_bytes, places_from, number_of, pdu_of, values_by, bytes_by}

-- a list's bytes in two parts
bytes-append : (ms ns : List Message) → bytes_of (ms ++ ns) ≡ bytes_of ms ++ bytes_of ns
unfolding bytes_of
bytes-append [] ns = refl
bytes-append (m ∷ ms) ns = ap (λ (r : List ℕ). message_bytes m ++ r) (bytes-append ms ns) ∙ sym (append_assoc (message_bytes m) (bytes_of ms) (bytes_of ns))

-- a digit of a row
pub by_digit : (P : ℕ → Type 0) → P 0 → P 1 → P 2 → P 3 → P 4 → P 5 → P 6 → P 7 → P 8 → P 9 → ((d : ℕ) → 9 < d → P d) → (d : ℕ) → P d
by_digit P p0 p1 p2 p3 p4 p5 p6 p7 p8 p9 more zero = p0
by_digit P p0 p1 p2 p3 p4 p5 p6 p7 p8 p9 more (suc zero) = p1
by_digit P p0 p1 p2 p3 p4 p5 p6 p7 p8 p9 more (suc (suc zero)) = p2
by_digit P p0 p1 p2 p3 p4 p5 p6 p7 p8 p9 more (suc (suc (suc zero))) = p3
by_digit P p0 p1 p2 p3 p4 p5 p6 p7 p8 p9 more (suc (suc (suc (suc zero)))) = p4
by_digit P p0 p1 p2 p3 p4 p5 p6 p7 p8 p9 more (suc (suc (suc (suc (suc zero))))) = p5
by_digit P p0 p1 p2 p3 p4 p5 p6 p7 p8 p9 more (suc (suc (suc (suc (suc (suc zero)))))) = p6
by_digit P p0 p1 p2 p3 p4 p5 p6 p7 p8 p9 more (suc (suc (suc (suc (suc (suc (suc zero))))))) = p7
by_digit P p0 p1 p2 p3 p4 p5 p6 p7 p8 p9 more (suc (suc (suc (suc (suc (suc (suc (suc zero)))))))) = p8
by_digit P p0 p1 p2 p3 p4 p5 p6 p7 p8 p9 more (suc (suc (suc (suc (suc (suc (suc (suc (suc zero))))))))) = p9
by_digit P p0 p1 p2 p3 p4 p5 p6 p7 p8 p9 more (suc (suc (suc (suc (suc (suc (suc (suc (suc (suc d)))))))))) = more _ (omega arith)

unfoldable opened : Unit {0}
unfolding place_bytes values_for entry_bytes body spell width_of bytes_of message_bytes flat_bytes flat_size body_bytes bytes number_of pdu_of
opened = tt

module _ (code p : ℕ) (r : Row) where
  abbrev values : List ℕ
  values = values_by code p r

  abbrev pdu_at : ℕ → Slot
  pdu_at d =
      cond (eqb d 1) (Slot.Holds (Message.USetup r.address r.mode r.asked r.value))
      (cond (eqb d 2) (Slot.Holds (Message.UConnect r.id))
      (cond (eqb d 3) (Slot.Holds (Message.UDisconnect r.id r.value))
      (cond (eqb d 4) (Slot.Holds (Message.URelease r.id))
      (cond (eqb d 5) (Slot.Holds (Message.UTxDemand r.id))
      (cond (eqb d 6) (Slot.Holds (Message.UTxCeased r.id))
      (cond (eqb d 7) (Slot.Holds (Message.UCallRestore r.id r.address r.asked)) Slot.Empty))))))

  abbrev user_at : ℕ → Slot
  user_at d =
      cond (eqb d 1) (Slot.Holds (Message.SetupIndication r.id r.address r.mode))
      (cond (eqb d 2) (Slot.Holds (Message.SetupConfirm r.id r.value))
      (cond (eqb d 3) (Slot.Holds Message.Proceed)
      (cond (eqb d 4) (Slot.Holds Message.Alert)
      (cond (eqb d 5) (Slot.Holds (Message.Complete r.value))
      (cond (eqb d 6) (Slot.Holds (Message.ReleaseIndication r.value))
      (cond (eqb d 7) (Slot.Holds Message.ReleaseConfirm)
      (cond (eqb d 8) (Slot.Holds (Message.TxIndication r.value))
      (cond (eqb d 9) (Slot.Holds (Message.ModifyIndication r.mode r.slots)) Slot.Empty))))))))

  stop_place : (b : Bool) (k : ℕ) → place_bytes k (cond b STOP 0) values ≡ bytes_of (when b (Message.Stop (timer_at (k % 9))))
  unfolding opened
  stop_place true k = refl
  stop_place false k = refl

  start_place : (b : Bool) (k : ℕ) → place_bytes k (cond b START 0) values ≡ bytes_of (when b (Message.Start (timer_at (k % 9)) (cond (eqb k 14) code 0)))
  unfolding opened
  start_place true k = refl
  start_place false k = refl

  cancel_place : (b : Bool) → place_bytes 7 (cond b CANCELLING 0) values ≡ bytes_of (when b Message.Cancel)
  unfolding opened
  cancel_place true = refl
  cancel_place false = refl

  plane_place : (b : Bool) → place_bytes 16 (cond b CONFIGURE 0) values ≡ bytes_of (when b (Message.Configure p))
  unfolding opened
  plane_place true = refl
  plane_place false = refl

  no_more : (d : ℕ) → 9 < d → pdu_at d ≡ Slot.Empty
  no_more d h =
      rw (ne_eqb d 1 (λ z. absurd (omega arith)), ne_eqb d 2 (λ z. absurd (omega arith)), ne_eqb d 3 (λ z. absurd (omega arith)), ne_eqb d 4 (λ z. absurd (omega arith)), ne_eqb d 5 (λ z. absurd (omega arith)), ne_eqb d 6 (λ z. absurd (omega arith)), ne_eqb d 7 (λ z. absurd (omega arith))) refl

  no_more_user : (d : ℕ) → 9 < d → user_at d ≡ Slot.Empty
  no_more_user d h =
      rw (ne_eqb d 1 (λ z. absurd (omega arith)), ne_eqb d 2 (λ z. absurd (omega arith)), ne_eqb d 3 (λ z. absurd (omega arith)), ne_eqb d 4 (λ z. absurd (omega arith)), ne_eqb d 5 (λ z. absurd (omega arith)), ne_eqb d 6 (λ z. absurd (omega arith)), ne_eqb d 7 (λ z. absurd (omega arith)), ne_eqb d 8 (λ z. absurd (omega arith)), ne_eqb d 9 (λ z. absurd (omega arith))) refl

  -- U-SETUP with no slots, and with some
  setup_place : (v : ℕ) → place_bytes 8 (pdu_of 1 v) (code ∷ r.id ∷ r.address ∷ r.mode ∷ r.asked ∷ v ∷ 0 ∷ 0 ∷ p ∷ r.slots ∷ []) ≡ bytes_of (held (Slot.Holds (Message.USetup r.address r.mode r.asked v)))
  unfolding opened
  setup_place zero = refl
  setup_place (suc v) = rw (ne_eqb (suc v) 0 (λ z. absurd (omega arith))) refl

  pdu_place : (d : ℕ) → place_bytes 8 (pdu_of d r.value) values ≡ bytes_of (held (pdu_at d))
  unfolding opened
  pdu_place =
      by_digit (λ d. place_bytes 8 (pdu_of d r.value) values ≡ bytes_of (held (pdu_at d))) refl (setup_place r.value) refl refl refl refl refl refl refl refl
      (λ d h. rw (no_more d h, ne_eqb d 0 (λ z. absurd (omega arith)), ne_eqb d 1 (λ z. absurd (omega arith)), lt-ltb 7 d (omega arith)) refl)

  user_place : (d : ℕ) → place_bytes 17 (number_of d PRIMITIVES U_PDUS) values ≡ bytes_of (held (user_at d))
  unfolding opened
  user_place =
      by_digit (λ d. place_bytes 17 (number_of d PRIMITIVES U_PDUS) values ≡ bytes_of (held (user_at d))) refl refl refl refl refl refl refl refl refl refl
      (λ d h. rw (no_more_user d h, ne_eqb d 0 (λ z. absurd (omega arith)), lt-ltb 9 d (omega arith)) refl)

  record Spells (x : List ℕ) (ms : List Message) : Type 0 where
    is : x ≡ bytes_of ms

  then : {x y : List ℕ} {ms ns : List Message} → Spells x ms → Spells y ns → Spells (x ++ y) (ms ++ ns)
  then {x} {y} {ms} {ns} h k = record { is = rw (bytes-append ms ns, h.is, k.is) refl }

  last : {x : List ℕ} {ms : List Message} → Spells x ms → Spells (x ++ []) ms
  last {x} h = record { is = append-nil x ∙ h.is }

  -- the seven of the first part put together
  seven : {x : List ℕ} (a b c d e f g s : List Message) → Spells x (a ++ (b ++ (c ++ (d ++ (e ++ (f ++ (g ++ s))))))) → Spells x ((a ++ (b ++ (c ++ (d ++ (e ++ (f ++ g)))))) ++ s)
  seven a b c d e f g s h = record { is = h.is ∙ ap bytes_of (let one : a ++ (b ++ (c ++ (d ++ (e ++ (f ++ (g ++ s)))))) ≡ (a ++ (b ++ (c ++ (d ++ (e ++ (f ++ g)))))) ++ s = simp append_assoc in one) }

  pub places_are : (stops starts : List Bool)
      → places_from 18 0 (number_at stops starts r.orders r.value p) values
      ≡ bytes_of (by_number Message.Stop stops ++ (when (has r.orders 0x1000000) Message.Cancel ++ (held (pdu_by r) ++ (by_number (starting code) starts ++ (when (not (eqb p 0)) (Message.Configure p) ++ held (user_by r))))))
  unfolding places_from number_at number_after by_number timer_at starting pdu_by user_by
  places_are stops starts =
      let b : Bool = has r.orders 0x1000000 in
      let f : Bool = not (eqb p 0) in
      let d : ℕ = r.orders / 0x10000 % 16 in
      let u : ℕ = r.orders / 0x100000 % 16 in
      let ws : ℕ → List Message = λ k. when (get_or stops k false) (Message.Stop (timer_at (k % 9))) in
      let vs : ℕ → ℕ → List Message = λ k j. when (get_or starts j false) (Message.Start (timer_at (k % 9)) (cond (eqb k 14) code 0)) in
      let stop : (k : ℕ) → Spells (place_bytes k (cond (get_or stops k false) STOP 0) values) (ws k) = λ k. record { is = stop_place (get_or stops k false) k } in
      let start : (k j : ℕ) → Spells (place_bytes k (cond (get_or starts j false) START 0) values) (vs k j) = λ k j. record { is = start_place (get_or starts j false) k } in
      let cancel : Spells (place_bytes 7 (cond b CANCELLING 0) values) (when b Message.Cancel) = record { is = cancel_place b } in
      let pdu : Spells (place_bytes 8 (pdu_of d r.value) values) (held (pdu_at d)) = record { is = pdu_place d } in
      let plane : Spells (place_bytes 16 (cond f CONFIGURE 0) values) (when f (Message.Configure p)) = record { is = plane_place f } in
      let user : Spells (place_bytes 17 (number_of u PRIMITIVES U_PDUS) values) (held (user_at u)) = record { is = user_place u } in
      let later = seven (vs 9 0) (vs 10 1) (vs 11 2) (vs 12 3) (vs 13 4) (vs 14 5) (vs 15 6) (when f (Message.Configure p) ++ held (user_at u))
      (then (start 9 0) (then (start 10 1) (then (start 11 2) (then (start 12 3) (then (start 13 4) (then (start 14 5) (then (start 15 6) (then plane (last user))))))))) in
      (seven (ws 0) (ws 1) (ws 2) (ws 3) (ws 4) (ws 5) (ws 6) _
      (then (stop 0) (then (stop 1) (then (stop 2) (then (stop 3) (then (stop 4) (then (stop 5) (then (stop 6) (then cancel (then pdu later)))))))))).is

-- the whole of a row
pub whole : (c : Call) (r : Row) → bytes_by c r ≡ bytes_of (messages_in (settled c r))
unfolding bytes_by settled messages_in
whole c r = places_are (settled c r).call.code (settled c r).configure r (settled c r).stops (settled c r).starts

pub fitting : (c : Call) (d : Draft) (b after : List ℕ) (n : ℕ) → n ≡ length (bytes_of (messages_in d)) → n ≤ length b → after ≡ sets b 0 (bytes_of (messages_in d))
    → ◌≡◌ {A = Outcome} (record { answer = 0; place = 0; call = d.call; count = n; buffer = after }) (carried c d b)
unfolding carried
fitting c d b after n size room laid = rw (size, le-leb _ _ (rw size at room), laid)
