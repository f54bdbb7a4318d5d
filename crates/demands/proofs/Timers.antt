-- The timers that run in a reached record, by state and path: none in IDLE; one of T302 and T303 in MO-CALL-SETUP; at most T301 in
-- MT-CALL-SETUP; T310 in CALL-ACTIVE and WAIT where the held code is not 0, beside it at most T311 with path up and T306 while restoring; T308 in CALL-DISCONNECT.
use Prim.Native.Nat.{ℕ}
use mathlib.Core.Path.{◌≡◌, refl}
use mathlib.Core.Bool.{Bool, true, false, cond, not, ◌&&◌}
use mathlib.Core.List.{List}
use lib.Dec.{eqb}
use Rattle.records.specs.declared.events.Event.{Event}
use Rattle.records.specs.declared.messages.Message.TheVariants.{ReleaseIndication}
use Rattle.callcontrol.specs.declared.call.State.{State}
use Rattle.callcontrol.specs.declared.call.Path.{Path}
use Rattle.callcontrol.specs.declared.call.Call.{Call}
use Rattle.callcontrol.specs.Draft.{Slot, Draft}
use Rattle.callcontrol.specs.Call.{fresh_call, runs, T302, T311}
use Rattle.callcontrol.specs.Draft.{◌▷◌, draft, store_mode, store_asked, store_code, store_slots, stop, start, expired, restart, same_plane, plane, off, grant, grant_or_off, tell, release}
use Rattle.callcontrol.specs.Rows
use Rattle.callcontrol.specs.Rows.{row_for}
use Rattle.demands.specs.Runs.{Turn, next, run}
use Rattle.demands.specs.Demands.{timers_in, Timers, SentBeforeT302}
use Rattle.demands.proofs.Facts.{apart, either}
use Rattle.demands.proofs.Turns.{turn_keeps, run_keeps}
use Rattle.demands.proofs.Situations.{call, clauses}
use Rattle.demands.proofs.Sound.{always}
use Rattle.demands.proofs.ByRow.{Ender, t301, t302, t303, t306, t310, Row, is_row}
use Rattle.callcontrol.proofs.Verbs.{verbs}

pub data Timed : State → Path → Call → Type 0 where
  idle : {i a d q s pl k o m : ℕ} → Timed State.Idle Path.Up (call State.Idle Path.Up i a d q s pl k o m false false false false false false false)
  -- T302 runs only where U-SETUP is known to be sent
  mo : {i a d q s pl k o m : ℕ} {t : Bool} → (t && eqb s 0) ≡ false
      → Timed State.MoCallSetup Path.Up (call State.MoCallSetup Path.Up i a d q s pl k o m false t (not t) false false false false)
  mt : {i a d q s pl k o m : ℕ} {t : Bool}
      → Timed State.MtCallSetup Path.Up (call State.MtCallSetup Path.Up i a d q s pl k o m t false false false false false false)
  up : {i a d q s pl k o m : ℕ} {t : Bool}
      → Timed State.CallActive Path.Up (call State.CallActive Path.Up i a d q s pl k o m false false false false false (not (eqb o 0)) t)
  broken : {i a d q s pl k o m : ℕ}
      → Timed State.CallActive Path.Broken (call State.CallActive Path.Broken i a d q s pl k o m false false false false false (not (eqb o 0)) false)
  restoring : {i a d q s pl k o m : ℕ}
      → Timed State.CallActive Path.Restoring (call State.CallActive Path.Restoring i a d q s pl k o m false false false true false (not (eqb o 0)) false)
  wait : {i a d q s pl k o m : ℕ} → Timed State.Wait Path.Up (call State.Wait Path.Up i a d q s pl k o m false false false false false (not (eqb o 0)) false)
  disconnect : {i a d q s pl k o m : ℕ}
      → Timed State.CallDisconnect Path.Up (call State.CallDisconnect Path.Up i a d q s pl k o m false false false false true false false)

abbrev pub Clocked : Call → Type 0
Clocked c = Timed c.state c.path c

-- ---- the verbs that ask about numbers, on a call that is active with its path up

data Talks : Draft → Type 0 where
  talks : {i a d q s pl k o m : ℕ} {t : Bool} {stops starts : List Bool} {out : Bool} {pdu user : Slot} {configure : ℕ} {taken : Bool}
      → Talks
      (record {
        call = call State.CallActive Path.Up i a d q s pl k o m false false false false false (not (eqb o 0)) t;
        stops = stops;
        starts = starts;
        cancel = out;
        pdu = pdu;
        configure = configure;
        user = user;
        taken = taken;
      })

clocked : {x : Draft} → Talks x → Clocked x.call
clocked talks = up

one_of : (b : Bool) {x y : Draft} → Talks x → Talks y → Talks (cond b x y)
one_of = either Talks

starts_or_stops : {x : Draft} (b : Bool) → Talks x → Talks (cond b (start T311) (stop T311) x)
unfolding start stop
starts_or_stops true talks = talks
starts_or_stops false talks = talks

planes : {x : Draft} (p : ℕ) → Talks x → Talks (plane p x)
unfolding plane same_plane
planes p talks = starts_or_stops (eqb p 1) talks

off_is : {x : Draft} → Talks x → Talks (off x)
unfolding off
off_is v = planes 4 v

clears : {x : Draft} → Talks x → Talks (store_asked 0 x)
unfolding store_asked
clears talks = talks

modes : {x : Draft} (m : ℕ) → Talks x → Talks (store_mode m x)
unfolding store_mode
modes m talks = talks

slots : {x : Draft} (s : ℕ) → Talks x → Talks (store_slots s x)
unfolding store_slots
slots s talks = talks

grants : {x : Draft} (g : ℕ) → Talks x → Talks (grant g x)
unfolding grant
grants g v = search (one_of, planes, clears)

grants_or_off : {x : Draft} (g : ℕ) → Talks x → Talks (grant_or_off g x)
unfolding grant_or_off
grants_or_off g v = search (one_of, off_is, grants)

restarts : {x : Draft} (r o : ℕ) → Talks x → Talks (restart r o x)
unfolding restart store_code start
restarts r o talks = one_of (eqb r 1) talks talks

-- ---- the rows

and-false : (t : Bool) → (t && false) ≡ false
and-false true = refl
and-false false = refl

-- whatever runs, the end of a call by this side leaves T308 alone
data Any : Call → Type 0 where
  any : {st : State} {w : Path} {i a d q s pl k o m : ℕ} {t₁ t₂ t₃ t₆ t₈ t₁₀ t₁₁ : Bool} → Any (call st w i a d q s pl k o m t₁ t₂ t₃ t₆ t₈ t₁₀ t₁₁)

any_of : {s : State} {w : Path} {c : Call} → Timed s w c → Any c
any_of idle = any
any_of (mo h) = any
any_of mt = any
any_of up = any
any_of broken = any
any_of restoring = any
any_of wait = any
any_of disconnect = any

releasing : {c : Call} → Any c → Clocked (Rows.releasing c).call
unfolding verbs Rows.releasing
releasing any = disconnect

lapsed : {c : Call} {n k : ℕ} → Ender n k → Any c → Clocked (draft c ▷ expired k ▷ release 2 ▷ tell (ReleaseIndication 2)).call
unfolding verbs
lapsed (t301 e) any = disconnect
lapsed (t302 e) any = disconnect
lapsed (t303 e) any = disconnect
lapsed (t306 e) any = disconnect
lapsed (t310 e) any = disconnect

pub row_clocked : {c : Call} {s : State} {w : Path} {e : Event} {x : Draft} → Row c s w e x → Timed s w c → Clocked x.call
unfolding verbs Rows.disconnected Rows.released Rows.confirmed
row_clocked (Row.releases l) v = releasing (any_of v)
row_clocked (Row.disconnects l i) v = idle
row_clocked (Row.ends l i) v = idle
row_clocked (Row.expires l n k t z) v = lapsed t (any_of v)
row_clocked (Row.calls a d q s) idle = mo refl
row_clocked (Row.is_called i a d) idle = mt
row_clocked (Row.takes_back z) (mo h) = idle
row_clocked (Row.releases_sent z) v = releasing (any_of v)
row_clocked (Row.proceeds i) (mo h) = mo refl
row_clocked (Row.alerts i) (mo h) = mo refl
row_clocked (Row.connects i g d o s) (mo h) = clocked (grants_or_off g talks)
row_clocked (Row.sent z) (mo {t} h) = mo (and-false t)
row_clocked (Row.unsent z) (mo h) = idle
row_clocked (Row.answers z) mt = mt
row_clocked (Row.completes i g o z) mt = clocked (grants_or_off g talks)
row_clocked (Row.asks_to_send k z y) up = up
row_clocked (Row.stops_sending k z y) up = up
row_clocked (Row.asks_no_more k z y x) up = up
row_clocked (Row.same_mode i r o d s z) up = clocked (slots s (restarts r o talks))
row_clocked (Row.new_mode i r o d s z) up = clocked (off_is (slots s (modes d (restarts r o talks))))
row_clocked (Row.granted i g) up = clocked (grants g talks)
row_clocked (Row.ceased i) up = up
row_clocked (Row.interrupted i g) (up {pl}) = clocked (planes (cond (eqb g 3) 2 4) (talks {pl = pl} {configure = 0}))
row_clocked (Row.pauses i) up = wait
row_clocked Row.breaks up = broken
row_clocked (Row.talked_out n z y) up = up
row_clocked (Row.wants k z) broken = broken
row_clocked Row.resumes broken = restoring
row_clocked (Row.restored i g r o) restoring = clocked (restarts r o (grants g talks))
row_clocked Row.breaks_again restoring = broken
row_clocked (Row.continues i j z) (wait {pl} {k}) = clocked (planes k (talks {pl = pl} {configure = 0}))
row_clocked (Row.continues_off i k z) wait = up
row_clocked Row.breaks_paused wait = broken
row_clocked (Row.collides i z) disconnect = idle
row_clocked (Row.collides_sent i z) disconnect = idle
row_clocked (Row.ends_first i z) disconnect = idle
row_clocked (Row.confirms i z) disconnect = idle
row_clocked (Row.end_sent z) disconnect = disconnect
row_clocked (Row.end_unsent z) disconnect = idle
row_clocked (Row.unanswered n z) disconnect = idle

-- ---- every record of a run

row_kept : (c : Call) (e : Event) → Clocked c → (row_for c e).taken ≡ true → Clocked (row_for c e).call
row_kept c e v h = row_clocked (is_row c e h) v

pub turn_kept : (c : Call) (t : Turn) → Clocked c → Clocked (next c t)
turn_kept = turn_keeps Clocked row_kept

pub reached : (ts : List Turn) → Clocked (run fresh_call ts)
reached ts = run_keeps Clocked row_kept fresh_call ts idle

-- ---- in the client's words

shown : {s : State} {w : Path} {c : Call} → Timed s w c → runs c T311 ≡ eqb c.plane 1 → c.timers ≡ timers_in s c
unfolding timers_in
shown idle h = refl
shown (mo m) h = refl
shown mt h = refl
shown up h = rw h
shown broken h = rw h
shown restoring h = rw h
shown wait h = refl
shown disconnect h = refl

pub timers : Timers
timers ts = shown (reached ts) (clauses (run fresh_call ts) (always ts).meets).t311

sent_first : {s : State} {w : Path} {c : Call} → Timed s w c → runs c T302 ≡ true → c.sent ≡ 0 → ⊥
sent_first idle h z = apart h refl
sent_first (mo m) h z = apart (rw (h, z)) m
sent_first mt h z = apart h refl
sent_first up h z = apart h refl
sent_first broken h z = apart h refl
sent_first restoring h z = apart h refl
sent_first wait h z = apart h refl
sent_first disconnect h z = apart h refl

pub sent_before_t302 : SentBeforeT302
sent_before_t302 ts = sent_first (reached ts)

-- ---- so at most two run at a time

pub data Few : Call → Type 0 where
  none : {st : State} {w : Path} {i a d q s pl k o m : ℕ} → Few (call st w i a d q s pl k o m false false false false false false false)
  one : {st : State} {w : Path} {i a d q s pl k o m : ℕ} → Few (call st w i a d q s pl k o m true false false false false false false)
  two : {st : State} {w : Path} {i a d q s pl k o m : ℕ} → Few (call st w i a d q s pl k o m false true false false false false false)
  three : {st : State} {w : Path} {i a d q s pl k o m : ℕ} → Few (call st w i a d q s pl k o m false false true false false false false)
  eight : {st : State} {w : Path} {i a d q s pl k o m : ℕ} → Few (call st w i a d q s pl k o m false false false false true false false)
  ten : {st : State} {w : Path} {i a d q s pl k o m : ℕ} → Few (call st w i a d q s pl k o m false false false false false true false)
  ten_eleven : {st : State} {w : Path} {i a d q s pl k o m : ℕ} → Few (call st w i a d q s pl k o m false false false false false true true)
  eleven_only : {st : State} {w : Path} {i a d q s pl k o m : ℕ} → Few (call st w i a d q s pl k o m false false false false false false true)
  six_only : {st : State} {w : Path} {i a d q s pl k o m : ℕ} → Few (call st w i a d q s pl k o m false false false true false false false)
  six_ten : {st : State} {w : Path} {i a d q s pl k o m : ℕ} → Few (call st w i a d q s pl k o m false false false true false true false)

-- T310 runs or not, by its code
beside_311 : {st : State} {w : Path} {i a d q s pl k o m : ℕ} (u t : Bool) → Few (call st w i a d q s pl k o m false false false false false u t)
beside_311 true true = ten_eleven
beside_311 true false = ten
beside_311 false true = eleven_only
beside_311 false false = none

beside_306 : {st : State} {w : Path} {i a d q s pl k o m : ℕ} (u : Bool) → Few (call st w i a d q s pl k o m false false false true false u false)
beside_306 true = six_ten
beside_306 false = six_only

pub few : {s : State} {w : Path} {c : Call} → Timed s w c → Few c
few idle = none
few (mo {t = true} h) = two
few (mo {t = false} h) = three
few (mt {t = true}) = one
few (mt {t = false}) = none
few (up {o} {t}) = beside_311 (not (eqb o 0)) t
few (broken {o}) = beside_311 (not (eqb o 0)) false
few (restoring {o}) = beside_306 (not (eqb o 0))
few (wait {o}) = beside_311 (not (eqb o 0)) false
few disconnect = eight

-- the situations in which T310 may run, whether it does or not
pub data Open : State → Path → Call → Type 0 where
  open_up : {i a d q s pl k o m : ℕ} {u t : Bool} → Open State.CallActive Path.Up (call State.CallActive Path.Up i a d q s pl k o m false false false false false u t)
  open_broken : {i a d q s pl k o m : ℕ} {u : Bool} → Open State.CallActive Path.Broken (call State.CallActive Path.Broken i a d q s pl k o m false false false false false u false)
  open_restoring : {i a d q s pl k o m : ℕ} {u : Bool} → Open State.CallActive Path.Restoring (call State.CallActive Path.Restoring i a d q s pl k o m false false false true false u false)
  open_wait : {i a d q s pl k o m : ℕ} {u : Bool} → Open State.Wait Path.Up (call State.Wait Path.Up i a d q s pl k o m false false false false false u false)
