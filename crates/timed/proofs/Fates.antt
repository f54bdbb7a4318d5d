-- In the network's silence, row by row: a timer that ends the call runs on untouched, or the call is being ended, or it is over.
use Prim.Native.Nat.{ℕ, zero, suc, ◌<◌}
use mathlib.Core.Path.{◌≡◌, refl}
use mathlib.Core.Bool.{true, false, cond}
use mathlib.Core.List.{List}
use native.Mathlib.Omega.{arith}
use borrow.Author.Tests.{eqb-true}
use lib.Dec.{eqb, lit<}
use lib.ListN.{get_or}
use Rattle.records.specs.declared.events.Event.{Event}
use Rattle.records.specs.declared.events.Event.TheVariants.{SetupRequest, DConnect, DInfo, Expiry}
use Rattle.records.specs.declared.messages.Message.TheVariants.{UTxCeased, UCallRestore}
use Rattle.records.specs.Tables.{flat}
use Rattle.records.specs.Events.{events}
use Rattle.timers.specs.Due.{numbers}
use Rattle.timers.proofs.Indices.{by_index}
use Rattle.callcontrol.specs.declared.call.State.{State}
use Rattle.callcontrol.specs.declared.call.Path.{Path}
use Rattle.callcontrol.specs.declared.call.Call.{Call}
use Rattle.callcontrol.specs.Call.{runs, is_idle, state_number, transmits, T301, T306, T308, T311}
use Rattle.callcontrol.specs.Draft.{Draft, ◌▷◌, draft, store_asked, on_path, start, stop, off, say}
use Rattle.callcontrol.specs.Rows
use Rattle.callcontrol.specs.Rows.{row_for}
use Rattle.callcontrol.specs.Writing.{by_number, starting, messages_in}
use Rattle.callcontrol.proofs.Verbs.{verbs}
use Rattle.demands.proofs.Facts.{apart, left}
use Rattle.demands.proofs.ByRow.{Live, Ender, t301, t302, t303, t306, t310, Row}
use Rattle.demands.proofs.Timers.{Timed, idle, mo, mt, up, broken, restoring, wait, disconnect, row_clocked}
use Rattle.timed.specs.Times.{Clocks, noted, noted_all}
use Rattle.timed.specs.Runs.{is_word}

word_connect : (i g d o s : ℕ) → is_word (DConnect i g d o s) ≡ true
unfolding is_word
word_connect i g d o zero = refl
word_connect i g d o (suc s) = refl

word_info : (i r o d s : ℕ) → is_word (DInfo i r o d s) ≡ true
unfolding is_word
word_info i r o d zero = refl
word_info i r o d (suc s) = refl

setup_kind : (a d q s : ℕ) → eqb (flat events (SetupRequest a d q s)).kind 0x0101 ≡ true
setup_kind a d q zero = refl
setup_kind a d q (suc s) = refl

-- the timers that end a call and that neither user nor lower layers touch, by their indices
pub data Watched : ℕ → Type 0 where
  w301 : Watched 0
  w302 : Watched 1
  w303 : Watched 2
  w310 : Watched 5

-- what a row makes of one that runs
pub data Fate (x : Draft) (n : ℕ) : Type 0 where
  ends : is_idle x.call ≡ true → Fate x n
  closes : runs x.call T308 ≡ true → Fate x n
  stays : ((table : List ℕ) (time : ℕ) (u : Clocks) → noted_all table time u (messages_in x) n ≡ u n) → Fate x n

said : Unit {0}
unfolding verbs Rows.releasing Rows.confirmed noted_all noted messages_in by_number starting
said = tt

after_release : {c : Call} → Timed State.CallDisconnect Path.Up c → runs c T308 ≡ true
after_release disconnect = refl

active_310 : {c : Call} {w : Path} {q : ℕ} → Timed State.CallActive w c → Watched q → runs c q ≡ true → get_or numbers q 0 ≡ 310
active_310 v w310 h = refl
active_310 up w301 h = apart h refl
active_310 up w302 h = apart h refl
active_310 up w303 h = apart h refl
active_310 broken w301 h = apart h refl
active_310 broken w302 h = apart h refl
active_310 broken w303 h = apart h refl
active_310 restoring w301 h = apart h refl
active_310 restoring w302 h = apart h refl
active_310 restoring w303 h = apart h refl

wait_310 : {c : Call} {w : Path} {q : ℕ} → Timed State.Wait w c → Watched q → runs c q ≡ true → get_or numbers q 0 ≡ 310
wait_310 v w310 h = refl
wait_310 wait w301 h = apart h refl
wait_310 wait w302 h = apart h refl
wait_310 wait w303 h = apart h refl

rings_not : {c : Call} {w : Path} {q : ℕ} → Timed State.MtCallSetup w c → Watched q → runs c q ≡ true → runs c T301 ≡ false → ⊥
rings_not mt w301 h z = apart h z
rings_not mt w302 h z = apart h refl
rings_not mt w303 h z = apart h refl
rings_not mt w310 h z = apart h refl

idle_not : {c : Call} {w : Path} {q : ℕ} → Timed State.Idle w c → Watched q → runs c q ≡ true → ⊥
idle_not idle w301 h = apart h refl
idle_not idle w302 h = apart h refl
idle_not idle w303 h = apart h refl
idle_not idle w310 h = apart h refl

closed_not : {c : Call} {w : Path} {q : ℕ} → Timed State.CallDisconnect w c → Watched q → runs c q ≡ true → ⊥
closed_not disconnect w301 h = apart h refl
closed_not disconnect w302 h = apart h refl
closed_not disconnect w303 h = apart h refl
closed_not disconnect w310 h = apart h refl

stops_sending : {c : Call} → Timed State.CallActive Path.Up c → Fate (draft c ▷ say (UTxCeased c.id) ▷ off) 310
unfolding said
stops_sending (up {t = true}) = stays (λ table time u. refl)
stops_sending (up {t = false}) = stays (λ table time u. refl)

breaks : {c : Call} → Timed State.CallActive Path.Up c → Fate (draft c ▷ store_asked (cond (transmits c.plane) 1 c.asked) ▷ on_path Path.Broken ▷ off) 310
unfolding said
breaks (up {t = true}) = stays (λ table time u. refl)
breaks (up {t = false}) = stays (λ table time u. refl)

resumes : {c : Call} → Timed State.CallActive Path.Broken c
    → Fate (draft c ▷ store_asked (Rows.asks c) ▷ on_path Path.Restoring ▷ say (UCallRestore c.id c.address (Rows.asks c)) ▷ start T306) 310
unfolding said
resumes broken = stays (λ table time u. refl)

breaks_again : {c : Call} → Timed State.CallActive Path.Restoring c → Fate (draft c ▷ stop T306 ▷ on_path Path.Broken ▷ off) 310
unfolding said
breaks_again restoring = stays (λ table time u. refl)

-- an event of the user or of the lower layers
pub fate : {c : Call} {s : State} {w : Path} {e : Event} {x : Draft} {q : ℕ} → Row c s w e x → Timed s w c → is_word e ≡ false → eqb (flat events e).kind 0x0401 ≡ false → Watched q → runs c q ≡ true
    → Fate x (get_or numbers q 0)
unfolding said is_word
fate (Row.disconnects l i) v z a y h = apart refl z
fate (Row.ends l i) v z a y h = apart refl z
fate (Row.is_called i a d) v z e y h = apart refl z
fate (Row.proceeds i) v z a y h = apart refl z
fate (Row.alerts i) v z a y h = apart refl z
fate (Row.completes i g o z) v n a y h = apart refl n
fate (Row.granted i g) v z a y h = apart refl z
fate (Row.ceased i) v z a y h = apart refl z
fate (Row.interrupted i g) v z a y h = apart refl z
fate (Row.pauses i) v z a y h = apart refl z
fate (Row.restored i g r o) v z a y h = apart refl z
fate (Row.continues i j z) v n a y h = apart refl n
fate (Row.continues_off i j z) v n a y h = apart refl n
fate (Row.collides i z) v n a y h = apart refl n
fate (Row.collides_sent i z) v n a y h = apart refl n
fate (Row.ends_first i z) v n a y h = apart refl n
fate (Row.confirms i z) v n a y h = apart refl n
fate (Row.connects i g d o s) v b a y h = apart (word_connect i g d o s) b
fate (Row.same_mode i r o d s z) v b a y h = apart (word_info i r o d s) b
fate (Row.new_mode i r o d s z) v b a y h = apart (word_info i r o d s) b
fate (Row.expires l n k t z) v b a y h = apart refl a
fate (Row.talked_out n z b₁) v b a y h = apart refl a
fate (Row.unanswered n z) v b a y h = apart refl a
fate (Row.releases l) v b a y h = closes (after_release (row_clocked (Row.releases l) v))
fate (Row.calls a d q s) v b e y h = absurd (idle_not v y h)
fate (Row.takes_back z) (mo m) b a y h = ends refl
fate (Row.releases_sent z) v b a y h = closes (after_release (row_clocked (Row.releases_sent z) v))
fate (Row.sent z) v b a y h = stays (λ table time u. refl)
fate (Row.unsent z) v b a y h = ends refl
fate (Row.answers z) v b a y h = absurd (rings_not v y h z)
fate (Row.asks_to_send k z f) v b a y h = stays (λ table time u. refl)
fate (Row.stops_sending k z f) v b a y h = rw (active_310 v y h) (stops_sending v)
fate (Row.asks_no_more k z f g) v b a y h = stays (λ table time u. refl)
fate Row.breaks v b a y h = rw (active_310 v y h) (breaks v)
fate (Row.wants k z) v b a y h = stays (λ table time u. refl)
fate Row.resumes v b a y h = rw (active_310 v y h) (resumes v)
fate Row.breaks_again v b a y h = rw (active_310 v y h) (breaks_again v)
fate Row.breaks_paused wait b a y h = stays (λ table time u. refl)
fate (Row.end_sent z) v b a y h = absurd (closed_not v y h)
fate (Row.end_unsent z) v b a y h = absurd (closed_not v y h)

-- T308, while a call is being ended: it runs on, or the call is over
pub data Last (x : Draft) : Type 0 where
  is_over : is_idle x.call ≡ true → Last x
  goes_on : ((table : List ℕ) (time : ℕ) (u : Clocks) → noted_all table time u (messages_in x) 308 ≡ u 308) → Last x

live_308 : {c : Call} {s : State} {w : Path} → Live s → Timed s w c → runs c T308 ≡ false
live_308 Live.calling (mo m) = refl
live_308 Live.called mt = refl
live_308 Live.talking up = refl
live_308 Live.talking broken = refl
live_308 Live.talking restoring = refl
live_308 Live.waiting wait = refl

pub fate_308 : {c : Call} {s : State} {w : Path} {e : Event} {x : Draft} → Row c s w e x → Timed s w c → is_word e ≡ false → eqb (flat events e).kind 0x0401 ≡ false → runs c T308 ≡ true → Last x
unfolding said is_word
fate_308 (Row.disconnects l i) v z a h = apart refl z
fate_308 (Row.ends l i) v z a h = apart refl z
fate_308 (Row.is_called i a d) v z e h = apart refl z
fate_308 (Row.proceeds i) v z a h = apart refl z
fate_308 (Row.alerts i) v z a h = apart refl z
fate_308 (Row.completes i g o z) v n a h = apart refl n
fate_308 (Row.granted i g) v z a h = apart refl z
fate_308 (Row.ceased i) v z a h = apart refl z
fate_308 (Row.interrupted i g) v z a h = apart refl z
fate_308 (Row.pauses i) v z a h = apart refl z
fate_308 (Row.restored i g r o) v z a h = apart refl z
fate_308 (Row.continues i j z) v n a h = apart refl n
fate_308 (Row.continues_off i j z) v n a h = apart refl n
fate_308 (Row.collides i z) v n a h = apart refl n
fate_308 (Row.collides_sent i z) v n a h = apart refl n
fate_308 (Row.ends_first i z) v n a h = apart refl n
fate_308 (Row.confirms i z) v n a h = apart refl n
fate_308 (Row.connects i g d o s) v b a h = apart (word_connect i g d o s) b
fate_308 (Row.same_mode i r o d s z) v b a h = apart (word_info i r o d s) b
fate_308 (Row.new_mode i r o d s z) v b a h = apart (word_info i r o d s) b
fate_308 (Row.expires l n k t z) v b a h = apart refl a
fate_308 (Row.talked_out n z b₁) v b a h = apart refl a
fate_308 (Row.unanswered n z) v b a h = apart refl a
fate_308 (Row.releases l) v b a h = apart h (live_308 l v)
fate_308 (Row.calls a d q s) idle b e h = apart h refl
fate_308 (Row.takes_back z) (mo m) b a h = apart h refl
fate_308 (Row.releases_sent z) (mo m) b a h = apart h refl
fate_308 (Row.sent z) (mo m) b a h = apart h refl
fate_308 (Row.unsent z) (mo m) b a h = apart h refl
fate_308 (Row.answers z) mt b a h = apart h refl
fate_308 (Row.asks_to_send k z f) up b a h = apart h refl
fate_308 (Row.stops_sending k z f) up b a h = apart h refl
fate_308 (Row.asks_no_more k z f g) up b a h = apart h refl
fate_308 Row.breaks up b a h = apart h refl
fate_308 (Row.wants k z) broken b a h = apart h refl
fate_308 Row.resumes broken b a h = apart h refl
fate_308 Row.breaks_again restoring b a h = apart h refl
fate_308 Row.breaks_paused wait b a h = apart h refl
fate_308 (Row.end_sent z) v b a h = goes_on (λ table time u. refl)
fate_308 (Row.end_unsent z) v b a h = is_over refl

live_not : {s : State} → Live s → eqb (state_number s) 0 ≡ false
live_not Live.calling = refl
live_not Live.called = refl
live_not Live.talking = refl
live_not Live.waiting = refl

-- nothing but a SETUP request or the network leaves IDLE
pub idle_rests : {c : Call} {w : Path} {e : Event} {x : Draft} → Row c State.Idle w e x → is_word e ≡ false → eqb (flat events e).kind 0x0101 ≡ false → ⊥
unfolding is_word
idle_rests (Row.releases l) b a = apart refl (live_not l)
idle_rests (Row.disconnects l i) b a = apart refl b
idle_rests (Row.ends l i) b a = apart refl b
idle_rests (Row.expires l n k t z) b a = apart refl (live_not l)
idle_rests (Row.calls a d q s) b e = apart (setup_kind a d q s) e
idle_rests (Row.is_called i a d) b e = apart refl b

-- ---- in silence of all

-- the timers that end a call
pub data Ending : ℕ → Type 0 where
  e301 : Ending 0
  e302 : Ending 1
  e303 : Ending 2
  e306 : Ending 3
  e310 : Ending 5

pub ending : {q : ℕ} → Watched q → Ending q
ending w301 = e301
ending w302 = e302
ending w303 = e303
ending w310 = e310

pub small : {q : ℕ} → Ending q → q < 7
small e301 = lit< tt
small e302 = lit< tt
small e303 = lit< tt
small e306 = lit< tt
small e310 = lit< tt

pub not_four : {q : ℕ} → Ending q → q ≡ 4 → ⊥
not_four e301 h = omega (arith, h)
not_four e302 h = omega (arith, h)
not_four e303 h = omega (arith, h)
not_four e306 h = omega (arith, h)
not_four e310 h = omega (arith, h)

-- in IDLE none runs
pub idle_none : {s : State} {w : Path} {c : Call} → Timed s w c → eqb (state_number s) 0 ≡ true → (p : ℕ) → p < 7 → runs c p ≡ false
idle_none {c = c} idle z = by_index (λ p. runs c p ≡ false) refl refl refl refl refl refl refl
idle_none (mo m) z = apart z refl
idle_none mt z = apart z refl
idle_none up z = apart z refl
idle_none broken z = apart z refl
idle_none restoring z = apart z refl
idle_none wait z = apart z refl
idle_none disconnect z = apart z refl

-- beside T311 only T310 runs
pub with_311 : {s : State} {w : Path} {c : Call} {q : ℕ} → Timed s w c → runs c T311 ≡ true → Ending q → runs c q ≡ true → get_or numbers q 0 ≡ 310
with_311 v z e310 h = refl
with_311 idle z e301 h = apart h refl
with_311 idle z e302 h = apart h refl
with_311 idle z e303 h = apart h refl
with_311 idle z e306 h = apart h refl
with_311 (mo m) z e301 h = apart z refl
with_311 (mo m) z e302 h = apart z refl
with_311 (mo m) z e303 h = apart z refl
with_311 (mo m) z e306 h = apart z refl
with_311 mt z e301 h = apart z refl
with_311 mt z e302 h = apart z refl
with_311 mt z e303 h = apart z refl
with_311 mt z e306 h = apart z refl
with_311 up z e301 h = apart h refl
with_311 up z e302 h = apart h refl
with_311 up z e303 h = apart h refl
with_311 up z e306 h = apart h refl
with_311 broken z e301 h = apart z refl
with_311 broken z e302 h = apart z refl
with_311 broken z e303 h = apart z refl
with_311 broken z e306 h = apart z refl
with_311 restoring z e301 h = apart z refl
with_311 restoring z e302 h = apart z refl
with_311 restoring z e303 h = apart z refl
with_311 restoring z e306 h = apart z refl
with_311 wait z e301 h = apart z refl
with_311 wait z e302 h = apart z refl
with_311 wait z e303 h = apart z refl
with_311 wait z e306 h = apart z refl
with_311 disconnect z e301 h = apart z refl
with_311 disconnect z e302 h = apart z refl
with_311 disconnect z e303 h = apart z refl
with_311 disconnect z e306 h = apart z refl

-- an expiry that ends a call starts T308, and T308's own ends it
pub row_closes : {c : Call} {s : State} {w : Path} {n : ℕ} {x : Draft} → Row c s w (Expiry n) x → Timed s w c → eqb n 311 ≡ false → eqb n 308 ≡ false → runs x.call T308 ≡ true
unfolding said
row_closes (Row.expires l n k t z) v a b = after_release (row_clocked (Row.expires l n k t z) v)
row_closes (Row.talked_out n z y) v a b = apart z a
row_closes (Row.unanswered n z) v a b = apart (left (eqb n 308) _ z) b

not_308 : {n k : ℕ} → Ender n k → eqb n 308 ≡ true → ⊥
not_308 {n} (t301 e) h = let a = eqb-true n 301 e in let b = eqb-true n 308 h in omega (arith, a, b)
not_308 {n} (t302 e) h = let a = eqb-true n 302 e in let b = eqb-true n 308 h in omega (arith, a, b)
not_308 {n} (t303 e) h = let a = eqb-true n 303 e in let b = eqb-true n 308 h in omega (arith, a, b)
not_308 {n} (t306 e) h = let a = eqb-true n 306 e in let b = eqb-true n 308 h in omega (arith, a, b)
not_308 {n} (t310 e) h = let a = eqb-true n 310 e in let b = eqb-true n 308 h in omega (arith, a, b)

pub row_over : {c : Call} {s : State} {w : Path} {n : ℕ} {x : Draft} → Row c s w (Expiry n) x → Timed s w c → eqb n 308 ≡ true → is_idle x.call ≡ true
unfolding said
row_over (Row.expires l n k t z) v a = absurd (not_308 t a)
row_over (Row.talked_out n z y) v a = absurd (let b = eqb-true n 311 z in let c = eqb-true n 308 a in omega (arith, b, c))
row_over (Row.unanswered n z) v a = refl

-- T311 does not run, or is untouched
pub data Off (x : Draft) : Type 0 where
  silenced : runs x.call T311 ≡ false → Off x
  untouched : ((table : List ℕ) (time : ℕ) (u : Clocks) → noted_all table time u (messages_in x) 311 ≡ u 311) → Off x

released_311 : {c : Call} → Timed State.CallDisconnect Path.Up c → runs c T311 ≡ false
released_311 disconnect = refl

-- T311: no event of the user or of the lower layers starts it
pub fate_311 : {c : Call} {s : State} {w : Path} {e : Event} {x : Draft} → Row c s w e x → Timed s w c → is_word e ≡ false → eqb (flat events e).kind 0x0401 ≡ false → Off x
unfolding said is_word
fate_311 (Row.disconnects l i) v b e = apart refl b
fate_311 (Row.ends l i) v b e = apart refl b
fate_311 (Row.is_called i a d) v b e = apart refl b
fate_311 (Row.proceeds i) v b e = apart refl b
fate_311 (Row.alerts i) v b e = apart refl b
fate_311 (Row.completes i g o z) v b e = apart refl b
fate_311 (Row.granted i g) v b e = apart refl b
fate_311 (Row.ceased i) v b e = apart refl b
fate_311 (Row.interrupted i g) v b e = apart refl b
fate_311 (Row.pauses i) v b e = apart refl b
fate_311 (Row.restored i g r o) v b e = apart refl b
fate_311 (Row.continues i j z) v b e = apart refl b
fate_311 (Row.continues_off i j z) v b e = apart refl b
fate_311 (Row.collides i z) v b e = apart refl b
fate_311 (Row.collides_sent i z) v b e = apart refl b
fate_311 (Row.ends_first i z) v b e = apart refl b
fate_311 (Row.confirms i z) v b e = apart refl b
fate_311 (Row.connects i g d o s) v b e = apart (word_connect i g d o s) b
fate_311 (Row.same_mode i r o d s z) v b e = apart (word_info i r o d s) b
fate_311 (Row.new_mode i r o d s z) v b e = apart (word_info i r o d s) b
fate_311 (Row.expires l n k t z) v b e = apart refl e
fate_311 (Row.talked_out n z b₁) v b e = apart refl e
fate_311 (Row.unanswered n z) v b e = apart refl e
fate_311 (Row.releases l) v b e = silenced (released_311 (row_clocked (Row.releases l) v))
fate_311 (Row.calls a d q s) idle b e = silenced refl
fate_311 (Row.takes_back z) v b e = silenced refl
fate_311 (Row.releases_sent z) v b e = silenced (released_311 (row_clocked (Row.releases_sent z) v))
fate_311 (Row.sent z) v b e = untouched (λ table time u. refl)
fate_311 (Row.unsent z) v b e = silenced refl
fate_311 (Row.answers z) mt b e = silenced refl
fate_311 (Row.asks_to_send k z f) v b e = untouched (λ table time u. refl)
fate_311 (Row.stops_sending k z f) up b e = silenced refl
fate_311 (Row.asks_no_more k z f g) v b e = untouched (λ table time u. refl)
fate_311 Row.breaks up b e = silenced refl
fate_311 (Row.wants k z) v b e = untouched (λ table time u. refl)
fate_311 Row.resumes broken b e = silenced refl
fate_311 Row.breaks_again restoring b e = silenced refl
fate_311 Row.breaks_paused wait b e = silenced refl
fate_311 (Row.end_sent z) v b e = untouched (λ table time u. refl)
fate_311 (Row.end_unsent z) v b e = silenced refl
