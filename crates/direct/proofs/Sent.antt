-- What goes to the called set and to the lower layers: an answer or an expiry is closed with one DM-RELEASE or DM-CONNECT ACK, an offer that is accepted gives
-- CONFIGURE of its grade, and in ACTIVE nothing is written any more.
use Prim.Native.Nat.{ℕ}
use mathlib.Core.Path.{◌≡◌, refl, sym, ◌∙◌, ap}
use mathlib.Core.Bool.{true, false, cond, ◌&&◌}
use mathlib.Core.List.{List, [], ◌∷◌}
use mathlib.Core.Option.{some}
use lib.Dec.{leb, ltb, eqb}
use Rattle.direct.specs.declared.events.Event.{Event}
use Rattle.direct.specs.declared.events.Event.TheVariants.{DmConnect, Expiry}
use Rattle.direct.specs.declared.messages.Message.{Message}
use Rattle.direct.specs.declared.messages.Message.TheVariants.{DmSetupPres, DmConnectAck, DmRelease, Stop, Start, Configure, SetupConfirm, ReleaseIndication}
use Rattle.direct.specs.declared.call.State.{State}
use Rattle.direct.specs.declared.call.Call.{Call}
use Rattle.direct.specs.Call.{fresh_call, state_number}
use Rattle.direct.specs.Draft.{Draft, messages_in}
use Rattle.direct.specs.Rows.{asked, awaited, given_up, connected, released, again, exhausted, acceptable, row_for}
use Rattle.direct.specs.Runs.{Turn, next, run, taken_by, written_by, written_in, is_idle, is_active, count, is_setup_confirm, is_closing, is_configure, closes, gives_up, log_in, asked_by, pres_by}
use Rattle.direct.specs.Demands.{OneClosing, OneConfigure, ExpiryWrites, WithinConnects, GivenUpIsFresh, ActiveStays}
use Rattle.direct.proofs.Turns.{apart, Turned, passed, took, turned, accepts, Which, asks, awaits, gives_up_lem, connects, rejects, disconnects, retries, exhausts, row_of}
use Rattle.direct.proofs.Attempts.{log_counted}
use Rattle.direct.proofs.Told.{one_confirm, run_held}

-- ---- what a row writes

module _ (c : Call) where
  closing : (e : Event) (d : Draft) → Which c e d → count is_closing (messages_in d) ≡ cond (closes (some e)) 1 0
  unfolding count asked awaited given_up connected released again exhausted
  closing e d (asks s) = refl
  closing e d (awaits s run v) = refl
  closing e d (gives_up_lem s run) = refl
  closing e d (connects s run w) = refl
  closing e d (rejects s run w) = refl
  closing e d (disconnects s run) = refl
  closing e d (retries s run n more) = refl
  closing e d (exhausts s run n more) = refl

  -- CONFIGURE stands with SETUP confirm
  configuring : (e : Event) (d : Draft) → Which c e d → count is_configure (messages_in d) ≡ count is_setup_confirm (messages_in d)
  unfolding count asked awaited given_up connected released again exhausted
  configuring e d (asks s) = refl
  configuring e d (awaits s run v) = refl
  configuring e d (gives_up_lem s run) = refl
  configuring e d (connects s run w) = refl
  configuring e d (rejects s run w) = refl
  configuring e d (disconnects s run) = refl
  configuring e d (retries s run n more) = refl
  configuring e d (exhausts s run n more) = refl

  expiring : (n : ℕ) (d : Draft) → Which c (Expiry n) d → messages_in d ≡ DmRelease ∷ cond (ltb c.used c.limit) (DmSetupPres c.target c.lowest) ReleaseIndication ∷ []
  unfolding again exhausted
  expiring n d (retries s run m more) = rw more
  expiring n d (exhausts s run m more) = rw more

  connecting : (g : ℕ) (d : Draft) → Which c (DmConnect g) d → acceptable c g ≡ true
      → (is_active d.call ≡ true) × (messages_in d ≡ Stop 303 ∷ DmConnectAck g ∷ Start 311 ∷ Configure g ∷ SetupConfirm g ∷ [])
  unfolding connected
  connecting g d (connects s run w) ok = (refl, refl)
  connecting g d (rejects s run w) ok = apart ok w

  giving_up : (e : Event) (d : Draft) → Which c e d → gives_up e ≡ true → d.call ≡ fresh_call
  unfolding given_up released
  giving_up e d (asks s) h = apart h refl
  giving_up e d (awaits s run v) h = apart (rw v at h) refl
  giving_up e d (gives_up_lem s run) h = refl
  giving_up e d (connects s run w) h = apart h refl
  giving_up e d (rejects s run w) h = apart h refl
  giving_up e d (disconnects s run) h = refl
  giving_up e d (retries s run n more) h = apart h refl
  giving_up e d (exhausts s run n more) h = apart h refl

  -- an answer or an expiry is taken outside IDLE alone
  of_answer : {g : ℕ} {d : Draft} → Which c (DmConnect g) d → is_idle c ≡ false
  of_answer (connects s run w) = ap (λ (x : State). eqb (state_number x) 0) s
  of_answer (rejects s run w) = ap (λ (x : State). eqb (state_number x) 0) s

  of_expiry : {n : ℕ} {d : Draft} → Which c (Expiry n) d → is_idle c ≡ false
  of_expiry (retries s run n more) = ap (λ (x : State). eqb (state_number x) 0) s
  of_expiry (exhausts s run n more) = ap (λ (x : State). eqb (state_number x) 0) s

  not_active : {e : Event} {d : Draft} → Which c e d → is_active c ≡ false
  not_active (asks s) = ap (λ (x : State). eqb (state_number x) 2) s
  not_active (awaits s run v) = ap (λ (x : State). eqb (state_number x) 2) s
  not_active (gives_up_lem s run) = ap (λ (x : State). eqb (state_number x) 2) s
  not_active (connects s run w) = ap (λ (x : State). eqb (state_number x) 2) s
  not_active (rejects s run w) = ap (λ (x : State). eqb (state_number x) 2) s
  not_active (disconnects s run) = ap (λ (x : State). eqb (state_number x) 2) s
  not_active (retries s run n more) = ap (λ (x : State). eqb (state_number x) 2) s
  not_active (exhausts s run n more) = ap (λ (x : State). eqb (state_number x) 2) s

-- ---- what a turn of a run writes

pub one_closing : OneClosing
unfolding count
one_closing ts t = by (turned c t)
  where
    c : Call
    c = run fresh_call ts

    by : Turned c t → count is_closing (written_by c t) ≡ cond (closes (taken_by c t)) 1 0
    by (passed p) = rw (p.writes, p.takes)
    by (took e a) = rw (a.writes, a.takes) (closing c e (row_for c e) (row_of a))

pub one_configure : OneConfigure
unfolding count
one_configure ts t = by (turned c t) ∙ one_confirm ts t
  where
    c : Call
    c = run fresh_call ts

    by : Turned c t → count is_configure (written_by c t) ≡ count is_setup_confirm (written_by c t)
    by (passed p) = rw p.writes
    by (took e a) = rw a.writes (configuring c e (row_for c e) (row_of a))

-- what an expiry writes, by the attempts used, the limit and the grades
abbrev expiry_by : ℕ → ℕ → ℕ → ℕ → List Message
expiry_by used limit target lowest = DmRelease ∷ cond (ltb used limit) (DmSetupPres target lowest) ReleaseIndication ∷ []

pub expiry_writes : ExpiryWrites
expiry_writes ts t n h =
    let c = run fresh_call ts in
    let w = accepts c t (Expiry n) h in
    let busy = of_expiry c (row_of w) in
    let held = run_held ts busy in
    w.writes
    ∙ expiring c n (row_for c (Expiry n)) (row_of w)
    ∙ ap (λ (u : ℕ). expiry_by u c.limit c.target c.lowest) (sym ((log_counted ts).used busy))
    ∙ ap (λ (m : ℕ). expiry_by (pres_by (log_in fresh_call ts)) m c.target c.lowest) held.limit
    ∙ ap (λ (x : ℕ). expiry_by (pres_by (log_in fresh_call ts)) (asked_by (log_in fresh_call ts)).attempts x c.lowest) held.target
    ∙ ap (λ (l : ℕ). expiry_by (pres_by (log_in fresh_call ts)) (asked_by (log_in fresh_call ts)).attempts (asked_by (log_in fresh_call ts)).target l) held.lowest

pub within_connects : WithinConnects
unfolding acceptable
within_connects ts t g h within =
    let c = run fresh_call ts in
    let w = accepts c t (DmConnect g) h in
    let held = run_held ts (of_answer c (row_of w)) in
    let ok : (leb c.lowest g && leb g c.target) ≡ true = rw (held.lowest, held.target) within in
    let row = connecting c g (row_for c (DmConnect g)) (row_of w) ok in
    (ap (λ (x : Call). is_active x) w.leaves ∙ row.0, w.writes ∙ row.1)

pub given_up_is_fresh : GivenUpIsFresh
given_up_is_fresh ts t e h gives =
    let w = accepts (run fresh_call ts) t e h in w.leaves ∙ giving_up (run fresh_call ts) e (row_for (run fresh_call ts) e) (row_of w) gives

-- ---- ACTIVE

active_turn : (c : Call) (t : Turn) → is_active c ≡ true → (next c t ≡ c) × (written_by c t ≡ [])
active_turn c t active = by (turned c t)
  where
    by : Turned c t → (next c t ≡ c) × (written_by c t ≡ [])
    by (passed p) = (p.leaves, p.writes)
    by (took e a) = apart active (not_active c (row_of a))

active_turns : (c : Call) (us : List Turn) → is_active c ≡ true → (run c us ≡ c) × (written_in c us ≡ [])
unfolding run written_in
active_turns c [] active = (refl, refl)
active_turns c (t ∷ us) active =
    let one = active_turn c t active in
    let rest = active_turns c us active in
    (rw one.0 rest.0, rw (one.1, one.0) rest.1)

pub active_stays : ActiveStays
active_stays ts us active = active_turns (run fresh_call ts) us active
