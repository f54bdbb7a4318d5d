-- No step on a reached record counts more than 32 bytes, and none on a sound record more than 52: by what each row stops, starts and says.
use Prim.Native.Nat.{ℕ, zero, suc, ◌+◌, ◌*◌, ◌≤◌}
use mathlib.Core.Path.{◌≡◌, refl}
use mathlib.Core.Bool.{Bool, true, false, cond, not, ◌&&◌, ◌||◌}
use mathlib.Core.List.{List}
use native.Mathlib.Omega.{arith}
use borrow.Author.Tests.{leb-true, le-leb}
use lib.Dec.{leb, eqb, lit≤}
use lib.ListN.{length}
use Rattle.records.specs.declared.events.Event.{Event}
use Rattle.records.specs.declared.messages.Message.TheVariants.{SetupConfirm, Complete, ReleaseIndication, TxIndication}
use Rattle.records.specs.Tables.{Read}
use Rattle.records.specs.Messages.{message_size}
use Rattle.records.specs.Bodies.{flat_size}
use Rattle.callcontrol.specs.declared.call.State.{State}
use Rattle.callcontrol.specs.declared.call.Path.{Path}
use Rattle.callcontrol.specs.declared.call.Call.{Call}
use Rattle.callcontrol.specs.Draft.{Slot, Draft}
use Rattle.callcontrol.specs.Call.{fresh_call, runs, T301, T302, T303, T306, T308, T310, T311}
use Rattle.callcontrol.specs.Draft.{◌▷◌, draft, go, store_id, store_mode, store_code, store_slots, store_sent, start, stop, expired, same_plane, plane, off, grant_or_off, cancel, tell, tell_modified, release}
use Rattle.callcontrol.specs.Rows
use Rattle.callcontrol.specs.Rows.{row_for}
use Rattle.callcontrol.specs.Writing.{held, messages_in, bytes_of, count_of}
use Rattle.callcontrol.specs.Step.{other_call, over_transmission, carried, decided, when_read, step_of}
use Rattle.callcontrol.proofs.Laying.{size_messages, size_one}
use Rattle.callcontrol.proofs.Verbs.{verbs}
use Rattle.demands.specs.Runs.{Turn, outcome, run}
use Rattle.demands.specs.Demands.{Kept, AtMost32, Enough32, AtMost52}
use Rattle.demands.proofs.Facts.{apart, left, right}
use Rattle.demands.proofs.ByRow.{Ender, t301, t302, t303, t306, t310, Row, is_row}
use Rattle.demands.proofs.Cases.{on_plane, by_plane, by_restart, by_grant, by_grant_or_off, limited_as, by_start310}
use Rattle.demands.proofs.Reading.{Reads, bad_length, no_kind_lem, retired, bad_body_lem, is, reads}
use Rattle.demands.proofs.Situations.{call, At, idle, mo, mt, up, broken, restoring, wait, disconnect, situated}
use Rattle.demands.proofs.Sound.{always}
use Rattle.demands.proofs.Timers as Timers
use Rattle.demands.proofs.Timers.{Timed, Clocked, reached, Few, none, one, two, three, eight, ten, ten_eleven, eleven_only, six_only, six_ten, few}
use Rattle.demands.proofs.Turns.{by_tests, Turned, passed, took, turned}

-- ---- what a draft takes, a CONFIGURE aside

abbrev pub slot : Slot → ℕ
slot Slot.Empty = 0
slot (Slot.Holds m) = message_size m

cost : Draft → ℕ
cost x = 6 * count_of x.stops + cond x.cancel 4 0 + slot x.pdu + 7 * count_of x.starts + slot x.user

abbrev Within : ℕ → Draft → Type 0
Within n x = leb (cost x) n ≡ true

sizes : Unit {0}
unfolding cost verbs Rows.releasing Rows.disconnected Rows.released Rows.confirmed count_of message_size flat_size
sizes = tt

pub slot_size : (s : Slot) → length (bytes_of (held s)) ≡ slot s
unfolding bytes_of
slot_size Slot.Empty = refl
slot_size (Slot.Holds m) = size_one m

configured : (b : Bool) → cond b 5 0 ≤ 5
configured true = lit≤ tt
configured false = lit≤ tt

taken_size : (n : ℕ) (x : Draft) → Within n x → length (bytes_of (messages_in x)) ≤ n + 5
unfolding cost
taken_size n x h = omega (arith, size_messages x, slot_size x.pdu, slot_size x.user, configured (not (eqb x.configure 0)), leb-true (cost x) n h)

-- ---- the rows whose size depends on which timers run: those that stop all, and D-CONNECT, which stops two

abbrev lapse : ℕ → Call → Draft
lapse k c = draft c ▷ expired k ▷ release 2 ▷ tell (ReleaseIndication 2)

-- D-CONNECT and D-CONNECT ACKNOWLEDGE up to T310
abbrev connecting : (i d o s : ℕ) → Call → Draft
connecting i d o s c = draft c ▷ store_id i ▷ store_mode d ▷ store_code o ▷ store_slots s ▷ store_sent 1 ▷ go State.CallActive ▷ stop T302 ▷ stop T303

abbrev completing : ℕ → Call → Draft
completing o c = draft c ▷ store_code o ▷ go State.CallActive ▷ stop T301

abbrev connect : (i g d o s : ℕ) → Call → Draft
connect i g d o s c = connecting i d o s c ▷ start T310 ▷ grant_or_off g ▷ tell (SetupConfirm i g)

record Ends (n : ℕ) (c : Call) : Type 0 where
  releasing : Within n (Rows.releasing c)
  disconnected : (i : ℕ) → Within n (Rows.disconnected i c)
  released : Within n (Rows.released c)
  lapsed : (m k : ℕ) → Ender m k → runs c k ≡ true → Within n (lapse k c)

-- those of CALL-DISCONNECT
record Closes (n : ℕ) (c : Call) : Type 0 where
  collides : (i : ℕ) → Within n (Rows.disconnected i c ▷ cancel)
  ends_first : Within n (Rows.released c ▷ cancel)
  confirmed : Within n (draft c ▷ Rows.confirmed)
  unanswered : Within n (draft c ▷ expired T308 ▷ Rows.confirmed)

-- what a state asks beside
abbrev Special : ℕ → State → Call → Type 0
Special n State.Idle c = Unit {0}
Special n State.MoCallSetup c = (i g d o s : ℕ) → Within n (connect i g d o s c)
Special n State.MtCallSetup c = Unit {0}
Special n State.CallActive c = Unit {0}
Special n State.Wait c = Unit {0}
Special n State.CallDisconnect c = Closes n c

-- ---- every row: the others take at most 27 bytes

interrupts : {c : Call} (b : Bool) → At State.CallActive Path.Up c → Within 27 (draft c ▷ plane (cond b 2 4) ▷ tell (TxIndication 5))
unfolding sizes
interrupts true (up {t₁₁ = true} l p m) = refl
interrupts true (up {t₁₁ = false} l p m) = refl
interrupts false (up {t₁₁ = true} l p m) = refl
interrupts false (up {t₁₁ = false} l p m) = refl

continuing : {c : Call} {w : Path} (b : Bool) → At State.Wait w c
    → Within 27 (tell (TxIndication 7) (cond b (start T311) (stop T311) (same_plane (on_plane c.kept (go State.CallActive (draft c))))))
unfolding sizes
continuing true (wait l p m) = refl
continuing false (wait l p m) = refl

continues : {c : Call} {w : Path} → At State.Wait w c → Within 27 (draft c ▷ go State.CallActive ▷ plane c.kept ▷ tell (TxIndication 7))
continues {c} v = by_plane (λ x. Within 27 (tell (TxIndication 7) x)) c.kept (go State.CallActive (draft c)) (λ b. continuing b v)

module _ (n : ℕ) (enough : 27 ≤ n) where
  more : (k : ℕ) → leb k 27 ≡ true → leb k n ≡ true
  more k h = le-leb k n (omega (arith, leb-true k 27 h))

  within : {c : Call} {s : State} {w : Path} {e : Event} {x : Draft} → Ends n c → Row c s w e x → At s w c → Special n s c → Within n x
  unfolding sizes
  within ends (Row.releases l) v h = ends.releasing
  within ends (Row.disconnects l i) v h = ends.disconnected i
  within ends (Row.ends l i) v h = ends.released
  within ends (Row.expires l m k t z) v h = ends.lapsed m k t z
  within ends (Row.calls a d q zero) idle h = more _ refl
  within ends (Row.calls a d q (suc s)) idle h = more _ refl
  within ends (Row.is_called i a d) idle h = more _ refl
  within ends (Row.takes_back z) (mo {t₃ = true} m) h = more _ refl
  within ends (Row.takes_back z) (mo {t₃ = false} m) h = more _ refl
  within ends (Row.releases_sent z) v h = ends.releasing
  within ends (Row.proceeds i) (mo {t₃ = true} m) h = more _ refl
  within ends (Row.proceeds i) (mo {t₃ = false} m) h = more _ refl
  within ends (Row.alerts i) (mo {t₃ = true} m) h = more _ refl
  within ends (Row.alerts i) (mo {t₃ = false} m) h = more _ refl
  within ends (Row.connects i g d o s) v h = h i g d o s
  within ends (Row.sent z) v h = more _ refl
  within ends (Row.unsent z) (mo {t₃ = true} m) h = more _ refl
  within ends (Row.unsent z) (mo {t₃ = false} m) h = more _ refl
  within ends (Row.answers z) v h = more _ refl
  within {c} ends (Row.completes i g o z) (mt {t₁ = true} {t₁₀ = true} l m) h =
      more _ (by_start310 (λ x. Within 27 (tell (Complete g) (grant_or_off g x))) (completing o c) (by_grant_or_off (λ x. Within 27 (tell (Complete g) x)) g _ refl refl refl refl refl refl refl)
      (by_grant_or_off (λ x. Within 27 (tell (Complete g) x)) g _ refl refl refl refl refl refl refl))
  within {c} ends (Row.completes i g o z) (mt {t₁ = true} {t₁₀ = false} l m) h =
      more _ (by_start310 (λ x. Within 27 (tell (Complete g) (grant_or_off g x))) (completing o c) (by_grant_or_off (λ x. Within 27 (tell (Complete g) x)) g _ refl refl refl refl refl refl refl)
      (by_grant_or_off (λ x. Within 27 (tell (Complete g) x)) g _ refl refl refl refl refl refl refl))
  within ends (Row.completes i g o z) (mt {t₁ = false} l m) h = apart z refl
  within ends (Row.asks_to_send k z y) v h = more _ refl
  within ends (Row.stops_sending k z y) (up {t₁₁ = true} l p m) h = more _ refl
  within ends (Row.stops_sending k z y) (up {t₁₁ = false} l p m) h = more _ refl
  within ends (Row.asks_no_more k z y x) v h = more _ refl
  within ends (Row.same_mode i r o d s z) (up {t₁₀ = true} l p m) h = more _ (by_restart (λ x. Within 27 (tell_modified d (same_plane (store_slots s x)))) r o _ refl refl refl)
  within ends (Row.same_mode i r o d s z) (up {t₁₀ = false} l p m) h = more _ (by_restart (λ x. Within 27 (tell_modified d (same_plane (store_slots s x)))) r o _ refl refl refl)
  within ends (Row.new_mode i r o d s z) (up {t₁₀ = true} {t₁₁ = true} l p m) h = more _ (by_restart (λ x. Within 27 (tell_modified d (off (store_slots s (store_mode d x))))) r o _ refl refl refl)
  within ends (Row.new_mode i r o d s z) (up {t₁₀ = false} {t₁₁ = true} l p m) h = more _ (by_restart (λ x. Within 27 (tell_modified d (off (store_slots s (store_mode d x))))) r o _ refl refl refl)
  within ends (Row.new_mode i r o d s z) (up {t₁₀ = true} {t₁₁ = false} l p m) h = more _ (by_restart (λ x. Within 27 (tell_modified d (off (store_slots s (store_mode d x))))) r o _ refl refl refl)
  within ends (Row.new_mode i r o d s z) (up {t₁₀ = false} {t₁₁ = false} l p m) h = more _ (by_restart (λ x. Within 27 (tell_modified d (off (store_slots s (store_mode d x))))) r o _ refl refl refl)
  within ends (Row.granted i g) (up {t₁₁ = true} l p m) h = more _ (by_grant (λ x. Within 27 (tell (TxIndication g) x)) g _ refl refl refl refl refl)
  within ends (Row.granted i g) (up {t₁₁ = false} l p m) h = more _ (by_grant (λ x. Within 27 (tell (TxIndication g) x)) g _ refl refl refl refl refl)
  within ends (Row.ceased i) (up {t₁₁ = true} l p m) h = more _ refl
  within ends (Row.ceased i) (up {t₁₁ = false} l p m) h = more _ refl
  within ends (Row.interrupted i g) v h = more _ (interrupts (eqb g 3) v)
  within ends (Row.pauses i) (up {t₁₁ = true} l p m) h = more _ refl
  within ends (Row.pauses i) (up {t₁₁ = false} l p m) h = more _ refl
  within ends Row.breaks (up {t₁₁ = true} l p m) h = more _ refl
  within ends Row.breaks (up {t₁₁ = false} l p m) h = more _ refl
  within ends (Row.talked_out k z y) (up {t₁₁ = true} l p m) h = more _ refl
  within ends (Row.talked_out k z y) (up {t₁₁ = false} l p m) h = more _ refl
  within ends (Row.wants k z) v h = more _ refl
  within ends Row.resumes (broken l m) h = more _ refl
  within ends (Row.restored i g r o) (restoring {t₁₀ = true} l m) h =
      more _ (by_restart (λ x. Within 27 (tell (TxIndication g) x)) r o _
      (by_grant (λ x. Within 27 (tell (TxIndication g) (limited_as false (store_code (cond (eqb o 16) x.call.code o) x)))) g _ refl refl refl refl refl)
      (by_grant (λ x. Within 27 (tell (TxIndication g) (limited_as true (store_code (cond (eqb o 16) x.call.code o) x)))) g _ refl refl refl refl refl)
      (by_grant (λ x. Within 27 (tell (TxIndication g) x)) g _ refl refl refl refl refl))
  within ends (Row.restored i g r o) (restoring {t₁₀ = false} l m) h =
      more _ (by_restart (λ x. Within 27 (tell (TxIndication g) x)) r o _
      (by_grant (λ x. Within 27 (tell (TxIndication g) (limited_as false (store_code (cond (eqb o 16) x.call.code o) x)))) g _ refl refl refl refl refl)
      (by_grant (λ x. Within 27 (tell (TxIndication g) (limited_as true (store_code (cond (eqb o 16) x.call.code o) x)))) g _ refl refl refl refl refl)
      (by_grant (λ x. Within 27 (tell (TxIndication g) x)) g _ refl refl refl refl refl))
  within ends Row.breaks_again (restoring l m) h = more _ refl
  within ends (Row.continues i k z) v h = more _ (continues v)
  within ends (Row.continues_off i k z) (wait l p m) h = more _ refl
  within ends Row.breaks_paused (wait l p m) h = more _ refl
  within ends (Row.collides i z) v h = h.collides i
  within ends (Row.collides_sent i z) v h = ends.disconnected i
  within ends (Row.ends_first i z) v h = h.ends_first
  within ends (Row.confirms i z) v h = h.confirmed
  within ends (Row.end_sent z) v h = more _ refl
  within ends (Row.end_unsent z) v h = h.confirmed
  within ends (Row.unanswered k z) v h = h.unanswered

-- ---- a reached record: at most two timers run

-- a timer that expires was running, so it gets no STOP
abbrev lapses : ℕ → Call → Bool
lapses k c = not (runs c k) || leb (cost (lapse k c)) 27

abbrev all_lapse : Call → Bool
all_lapse c = lapses T301 c && lapses T302 c && lapses T303 c && lapses T306 c && lapses T310 c

lapsed : (c : Call) → all_lapse c ≡ true → (m k : ℕ) → Ender m k → runs c k ≡ true → Within 27 (lapse k c)
lapsed c h m k (t301 e) z = rw z at (let l : lapses T301 c ≡ true = search (left, right) depth 6 in l)
lapsed c h m k (t302 e) z = rw z at (let l : lapses T302 c ≡ true = search (left, right) depth 6 in l)
lapsed c h m k (t303 e) z = rw z at (let l : lapses T303 c ≡ true = search (left, right) depth 6 in l)
lapsed c h m k (t306 e) z = rw z at (let l : lapses T306 c ≡ true = search (left, right) depth 6 in l)
lapsed c h m k (t310 e) z = rw z at (let l : lapses T310 c ≡ true = search (left, right) depth 6 in l)

few_ends : {c : Call} → Few c → Ends 27 c
unfolding sizes
few_ends {c} none = record { releasing = refl; disconnected = λ i. refl; released = refl; lapsed = lapsed c refl }
few_ends {c} one = record { releasing = refl; disconnected = λ i. refl; released = refl; lapsed = lapsed c refl }
few_ends {c} two = record { releasing = refl; disconnected = λ i. refl; released = refl; lapsed = lapsed c refl }
few_ends {c} three = record { releasing = refl; disconnected = λ i. refl; released = refl; lapsed = lapsed c refl }
few_ends {c} eight = record { releasing = refl; disconnected = λ i. refl; released = refl; lapsed = lapsed c refl }
few_ends {c} ten = record { releasing = refl; disconnected = λ i. refl; released = refl; lapsed = lapsed c refl }
few_ends {c} ten_eleven = record { releasing = refl; disconnected = λ i. refl; released = refl; lapsed = lapsed c refl }
few_ends {c} eleven_only = record { releasing = refl; disconnected = λ i. refl; released = refl; lapsed = lapsed c refl }
few_ends {c} six_only = record { releasing = refl; disconnected = λ i. refl; released = refl; lapsed = lapsed c refl }
few_ends {c} six_ten = record { releasing = refl; disconnected = λ i. refl; released = refl; lapsed = lapsed c refl }

few_special : {s : State} {w : Path} {c : Call} → Timed s w c → Special 27 s c
unfolding sizes
few_special Timers.idle = tt
few_special {c} (Timers.mo {t = true} h) =
    λ i g d o s. by_start310 (λ x. Within 27 (tell (SetupConfirm i g) (grant_or_off g x))) (connecting i d o s c) (by_grant_or_off (λ x. Within 27 (tell (SetupConfirm i g) x)) g _ refl refl refl refl refl refl refl)
    (by_grant_or_off (λ x. Within 27 (tell (SetupConfirm i g) x)) g _ refl refl refl refl refl refl refl)
few_special {c} (Timers.mo {t = false} h) =
    λ i g d o s. by_start310 (λ x. Within 27 (tell (SetupConfirm i g) (grant_or_off g x))) (connecting i d o s c) (by_grant_or_off (λ x. Within 27 (tell (SetupConfirm i g) x)) g _ refl refl refl refl refl refl refl)
    (by_grant_or_off (λ x. Within 27 (tell (SetupConfirm i g) x)) g _ refl refl refl refl refl refl refl)
few_special Timers.mt = tt
few_special Timers.up = tt
few_special Timers.broken = tt
few_special Timers.restoring = tt
few_special Timers.wait = tt
few_special Timers.disconnect = record { collides = λ i. refl; ends_first = refl; confirmed = refl; unanswered = refl }

pub row_short : (c : Call) (e : Event) → Kept c → Clocked c → (row_for c e).taken ≡ true → length (bytes_of (messages_in (row_for c e))) ≤ 32
row_short c e k v h = taken_size 27 (row_for c e) (within 27 (lit≤ tt) (few_ends (few v)) (is_row c e h) (situated c k) (few_special v))

turn_short : (c : Call) (t : Turn) → Kept c → Clocked c → Turned c t → (outcome c t).count ≤ 32
turn_short c t k v (passed p) = rw p.gives (lit≤ tt)
turn_short c t k v (took e a) = rw a.gives (row_short c e k v a.row)

pub at_most_32 : AtMost32
at_most_32 ts t = turn_short (run fresh_call ts) t (always ts) (reached ts) (turned _ t)

-- ---- so 32 are enough

room_for_row : (other row over room : Bool) (c : Call) (d : Draft) (b : List ℕ) → (row ≡ true → room ≡ true) → (by_tests other row over room c d b).answer ≡ 7 → ⊥
room_for_row true row over room c d b f seven = omega arith
room_for_row false false over room c d b f seven = omega arith
room_for_row false true true room c d b f seven = omega arith
room_for_row false true false false c d b f seven = apart (f refl) refl
room_for_row false true false true c d b f seven = omega arith

read_enough : (c : Call) (s b : List ℕ) → Kept c → Clocked c → 32 ≤ length b → {r : Read Event} → Reads s r → (when_read r c b).answer ≡ 7 → ⊥
unfolding decided carried
read_enough c s b k v lent (bad_length l) seven = omega arith
read_enough c s b k v lent (no_kind_lem l n) seven = omega arith
read_enough c s b k v lent (retired l n r) seven = omega arith
read_enough c s b k v lent (bad_body_lem l n r d) seven = omega arith
read_enough c s b k v lent (is {e} l n r d f) seven =
    room_for_row (other_call c e) (row_for c e).taken (over_transmission c e) (leb (length (bytes_of (messages_in (row_for c e)))) (length b)) c (row_for c e) b
    (λ h. le-leb (length (bytes_of (messages_in (row_for c e)))) (length b) (omega (arith, row_short c e k v h))) seven

pub enough_32 : Enough32
unfolding outcome step_of
enough_32 ts t lent seven =
    read_enough (run fresh_call ts) t.event t.buffer (always ts) (reached ts) lent (reads t.event) (rw (always ts).meets at seven)

-- ---- a sound record: any timers run, but not T306 and T311 at once

data Six : Call → Type 0 where
  not_306 : {st : State} {w : Path} {i a d q s pl k o m : ℕ} {t₁ t₂ t₃ t₈ t₁₀ t₁₁ : Bool} → Six (call st w i a d q s pl k o m t₁ t₂ t₃ false t₈ t₁₀ t₁₁)
  not_311 : {st : State} {w : Path} {i a d q s pl k o m : ℕ} {t₁ t₂ t₃ t₆ t₈ t₁₀ : Bool} → Six (call st w i a d q s pl k o m t₁ t₂ t₃ t₆ t₈ t₁₀ false)

six : {s : State} {w : Path} {c : Call} → At s w c → Six c
six idle = not_306
six (mo m) = not_306
six (mt l m) = not_306
six (up l p m) = not_306
six (broken l m) = not_306
six (restoring l m) = not_311
six (wait l p m) = not_306
six (disconnect m) = not_306

flag : (b : Bool) → cond b 1 0 ≤ 1
flag true = lit≤ tt
flag false = lit≤ tt

six_lapsed : (c : Call) → Six c → (m k : ℕ) → Ender m k → runs c k ≡ true → Within 47 (lapse k c)
unfolding sizes
six_lapsed c (not_306 {t₁} {t₂} {t₃} {t₈} {t₁₀} {t₁₁}) m k (t301 e) z = le-leb (cost (lapse T301 c)) 47 (omega (arith, flag (t₂ || false), flag (t₃ || false), flag (t₁₀ || false), flag (t₁₁ || false)))
six_lapsed c (not_306 {t₁} {t₂} {t₃} {t₈} {t₁₀} {t₁₁}) m k (t302 e) z = le-leb (cost (lapse T302 c)) 47 (omega (arith, flag (t₁ || false), flag (t₃ || false), flag (t₁₀ || false), flag (t₁₁ || false)))
six_lapsed c (not_306 {t₁} {t₂} {t₃} {t₈} {t₁₀} {t₁₁}) m k (t303 e) z = le-leb (cost (lapse T303 c)) 47 (omega (arith, flag (t₁ || false), flag (t₂ || false), flag (t₁₀ || false), flag (t₁₁ || false)))
six_lapsed c not_306 m k (t306 e) z = apart z refl
six_lapsed c (not_306 {t₁} {t₂} {t₃} {t₈} {t₁₀} {t₁₁}) m k (t310 e) z = le-leb (cost (lapse T310 c)) 47 (omega (arith, flag (t₁ || false), flag (t₂ || false), flag (t₃ || false), flag (t₁₁ || false)))
six_lapsed c (not_311 {t₁} {t₂} {t₃} {t₆} {t₈} {t₁₀}) m k (t301 e) z = le-leb (cost (lapse T301 c)) 47 (omega (arith, flag (t₂ || false), flag (t₃ || false), flag (t₆ || false), flag (t₁₀ || false)))
six_lapsed c (not_311 {t₁} {t₂} {t₃} {t₆} {t₈} {t₁₀}) m k (t302 e) z = le-leb (cost (lapse T302 c)) 47 (omega (arith, flag (t₁ || false), flag (t₃ || false), flag (t₆ || false), flag (t₁₀ || false)))
six_lapsed c (not_311 {t₁} {t₂} {t₃} {t₆} {t₈} {t₁₀}) m k (t303 e) z = le-leb (cost (lapse T303 c)) 47 (omega (arith, flag (t₁ || false), flag (t₂ || false), flag (t₆ || false), flag (t₁₀ || false)))
six_lapsed c (not_311 {t₁} {t₂} {t₃} {t₆} {t₈} {t₁₀}) m k (t306 e) z = le-leb (cost (lapse T306 c)) 47 (omega (arith, flag (t₁ || false), flag (t₂ || false), flag (t₃ || false), flag (t₁₀ || false)))
six_lapsed c (not_311 {t₁} {t₂} {t₃} {t₆} {t₈} {t₁₀}) m k (t310 e) z = le-leb (cost (lapse T310 c)) 47 (omega (arith, flag (t₁ || false), flag (t₂ || false), flag (t₃ || false), flag (t₆ || false)))

six_ends : {c : Call} → Six c → Ends 47 c
unfolding sizes
six_ends {c} (not_306 {t₁} {t₂} {t₃} {t₈} {t₁₀} {t₁₁}) =
    record {
      releasing = le-leb (cost (Rows.releasing c)) 47 (omega (arith, flag (t₁ || false), flag (t₂ || false), flag (t₃ || false), flag (t₁₀ || false), flag (t₁₁ || false)));
      disconnected = λ i. le-leb (cost (Rows.disconnected i c)) 47 (omega (arith, flag (t₁ || false), flag (t₂ || false), flag (t₃ || false), flag (t₈ || false), flag (t₁₀ || false), flag (t₁₁ || false)));
      released = le-leb (cost (Rows.released c)) 47 (omega (arith, flag (t₁ || false), flag (t₂ || false), flag (t₃ || false), flag (t₈ || false), flag (t₁₀ || false), flag (t₁₁ || false)));
      lapsed = six_lapsed c not_306;
    }
six_ends {c} (not_311 {t₁} {t₂} {t₃} {t₆} {t₈} {t₁₀}) =
    record {
      releasing = le-leb (cost (Rows.releasing c)) 47 (omega (arith, flag (t₁ || false), flag (t₂ || false), flag (t₃ || false), flag (t₆ || false), flag (t₁₀ || false)));
      disconnected = λ i. le-leb (cost (Rows.disconnected i c)) 47 (omega (arith, flag (t₁ || false), flag (t₂ || false), flag (t₃ || false), flag (t₆ || false), flag (t₈ || false), flag (t₁₀ || false)));
      released = le-leb (cost (Rows.released c)) 47 (omega (arith, flag (t₁ || false), flag (t₂ || false), flag (t₃ || false), flag (t₆ || false), flag (t₈ || false), flag (t₁₀ || false)));
      lapsed = six_lapsed c not_311;
    }

six_special : {s : State} {w : Path} {c : Call} → At s w c → Special 47 s c
unfolding sizes
six_special idle = tt
six_special {c} (mo {t₂ = true} {t₃ = true} {t₁₀ = true} m) =
    λ i g d o s. by_start310 (λ x. Within 47 (tell (SetupConfirm i g) (grant_or_off g x))) (connecting i d o s c) (by_grant_or_off (λ x. Within 47 (tell (SetupConfirm i g) x)) g _ refl refl refl refl refl refl refl)
    (by_grant_or_off (λ x. Within 47 (tell (SetupConfirm i g) x)) g _ refl refl refl refl refl refl refl)
six_special {c} (mo {t₂ = true} {t₃ = true} {t₁₀ = false} m) =
    λ i g d o s. by_start310 (λ x. Within 47 (tell (SetupConfirm i g) (grant_or_off g x))) (connecting i d o s c) (by_grant_or_off (λ x. Within 47 (tell (SetupConfirm i g) x)) g _ refl refl refl refl refl refl refl)
    (by_grant_or_off (λ x. Within 47 (tell (SetupConfirm i g) x)) g _ refl refl refl refl refl refl refl)
six_special {c} (mo {t₂ = true} {t₃ = false} {t₁₀ = true} m) =
    λ i g d o s. by_start310 (λ x. Within 47 (tell (SetupConfirm i g) (grant_or_off g x))) (connecting i d o s c) (by_grant_or_off (λ x. Within 47 (tell (SetupConfirm i g) x)) g _ refl refl refl refl refl refl refl)
    (by_grant_or_off (λ x. Within 47 (tell (SetupConfirm i g) x)) g _ refl refl refl refl refl refl refl)
six_special {c} (mo {t₂ = true} {t₃ = false} {t₁₀ = false} m) =
    λ i g d o s. by_start310 (λ x. Within 47 (tell (SetupConfirm i g) (grant_or_off g x))) (connecting i d o s c) (by_grant_or_off (λ x. Within 47 (tell (SetupConfirm i g) x)) g _ refl refl refl refl refl refl refl)
    (by_grant_or_off (λ x. Within 47 (tell (SetupConfirm i g) x)) g _ refl refl refl refl refl refl refl)
six_special {c} (mo {t₂ = false} {t₃ = true} {t₁₀ = true} m) =
    λ i g d o s. by_start310 (λ x. Within 47 (tell (SetupConfirm i g) (grant_or_off g x))) (connecting i d o s c) (by_grant_or_off (λ x. Within 47 (tell (SetupConfirm i g) x)) g _ refl refl refl refl refl refl refl)
    (by_grant_or_off (λ x. Within 47 (tell (SetupConfirm i g) x)) g _ refl refl refl refl refl refl refl)
six_special {c} (mo {t₂ = false} {t₃ = true} {t₁₀ = false} m) =
    λ i g d o s. by_start310 (λ x. Within 47 (tell (SetupConfirm i g) (grant_or_off g x))) (connecting i d o s c) (by_grant_or_off (λ x. Within 47 (tell (SetupConfirm i g) x)) g _ refl refl refl refl refl refl refl)
    (by_grant_or_off (λ x. Within 47 (tell (SetupConfirm i g) x)) g _ refl refl refl refl refl refl refl)
six_special {c} (mo {t₂ = false} {t₃ = false} {t₁₀ = true} m) =
    λ i g d o s. by_start310 (λ x. Within 47 (tell (SetupConfirm i g) (grant_or_off g x))) (connecting i d o s c) (by_grant_or_off (λ x. Within 47 (tell (SetupConfirm i g) x)) g _ refl refl refl refl refl refl refl)
    (by_grant_or_off (λ x. Within 47 (tell (SetupConfirm i g) x)) g _ refl refl refl refl refl refl refl)
six_special {c} (mo {t₂ = false} {t₃ = false} {t₁₀ = false} m) =
    λ i g d o s. by_start310 (λ x. Within 47 (tell (SetupConfirm i g) (grant_or_off g x))) (connecting i d o s c) (by_grant_or_off (λ x. Within 47 (tell (SetupConfirm i g) x)) g _ refl refl refl refl refl refl refl)
    (by_grant_or_off (λ x. Within 47 (tell (SetupConfirm i g) x)) g _ refl refl refl refl refl refl refl)
six_special (mt l m) = tt
six_special (up l p m) = tt
six_special (broken l m) = tt
six_special (restoring l m) = tt
six_special (wait l p m) = tt
six_special {c} (disconnect {t₁} {t₂} {t₃} {t₈} {t₁₀} m) =
    record {
      collides = λ i. le-leb (cost (Rows.disconnected i c ▷ cancel)) 47 (omega (arith, flag (t₁ || false), flag (t₂ || false), flag (t₃ || false), flag (t₈ || false), flag (t₁₀ || false)));
      ends_first = le-leb (cost (Rows.released c ▷ cancel)) 47 (omega (arith, flag (t₁ || false), flag (t₂ || false), flag (t₃ || false), flag (t₈ || false), flag (t₁₀ || false)));
      confirmed = le-leb (cost (draft c ▷ Rows.confirmed)) 47 (omega (arith, flag (t₁ || false), flag (t₂ || false), flag (t₃ || false), flag (t₈ || false), flag (t₁₀ || false)));
      unanswered = le-leb (cost (draft c ▷ expired T308 ▷ Rows.confirmed)) 47 (omega (arith, flag (t₁ || false), flag (t₂ || false), flag (t₃ || false), flag (t₁₀ || false)));
    }

turn_wide : (c : Call) (t : Turn) → Kept c → Turned c t → (outcome c t).count ≤ 52
turn_wide c t k (passed p) = rw p.gives (lit≤ tt)
turn_wide c t k (took e a) =
    let v : At c.state c.path c = situated c k in
    rw a.gives (taken_size 47 (row_for c e) (within 47 (lit≤ tt) (six_ends (six v)) (is_row c e a.row) v (six_special v)))

pub at_most_52 : AtMost52
at_most_52 c t k = turn_wide c t k (turned c t)
