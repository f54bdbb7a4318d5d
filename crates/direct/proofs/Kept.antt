-- Every turn gives a sound record from a sound one, and in IDLE that is the fresh record.
use Prim.Native.Nat.{ℕ, ◌+◌, ◌<◌, ◌≤◌}
use mathlib.Core.Path.{◌≡◌, refl, sym, ◌∙◌, ap}
use mathlib.Core.Bool.{Bool, true, false, not, ◌&&◌, ◌||◌}
use mathlib.Core.List.{List, [], ◌∷◌}
use native.Mathlib.Omega.{arith}
use borrow.Author.Tests.{not-true, not-false, leb-true, ltb-true, le-leb, eqb-true}
use lib.Dec.{leb, eqb}
use Rattle.records.specs.Letters.{within}
use Rattle.records.specs.Bodies.{all_fit, flat_fits}
use Rattle.records.specs.Tables.{fine}
use Rattle.records.proofs.Laws.{both}
use Rattle.direct.specs.declared.events.Event.{Event}
use Rattle.direct.specs.declared.events.Event.TheVariants.{SetupRequest}
use Rattle.direct.specs.declared.call.State.{State}
use Rattle.direct.specs.declared.call.Call.{Call}
use Rattle.direct.specs.Events.{events}
use Rattle.direct.specs.Call.{fresh_call, state_number, as_fresh, in_limits, sound}
use Rattle.direct.specs.Draft.{Draft}
use Rattle.direct.specs.Rows.{asked, awaited, given_up, connected, released, again, exhausted, row_for}
use Rattle.direct.specs.Step.{beyond}
use Rattle.direct.specs.Runs.{Turn, next, run, is_idle, is_check}
use Rattle.direct.specs.Demands.{Kept, FreshIsSound, StepKeepsSound, Sound, IdleIsFresh}
use Rattle.direct.proofs.Situations.{sound_in_lem}
use Rattle.direct.proofs.Turns.{apart, event_fine, Turned, passed, took, turned, Which, asks, awaits, gives_up_lem, connects, rejects, disconnects, retries, exhausts, row_of}

-- ---- the numbers of a call, as facts

pub record Limits (c : Call) : Type 0 where
  pub some : 1 ≤ c.limit
  pub few : c.limit ≤ 15
  pub begun : 1 ≤ c.used
  pub left : c.used ≤ c.limit
  pub graded : c.lowest ≤ c.target

pub limits : (c : Call) → in_limits c ≡ true → Limits c
unfolding in_limits
limits c h =
    let p₁ : ((leb 1 c.limit && leb c.limit 15 && leb 1 c.used && leb c.used c.limit) ≡ true) × (leb c.lowest c.target ≡ true) = both _ _ h in
    let p₂ : ((leb 1 c.limit && leb c.limit 15 && leb 1 c.used) ≡ true) × (leb c.used c.limit ≡ true) = both _ _ p₁.0 in
    let p₃ : ((leb 1 c.limit && leb c.limit 15) ≡ true) × (leb 1 c.used ≡ true) = both _ _ p₂.0 in
    let p₄ : (leb 1 c.limit ≡ true) × (leb c.limit 15 ≡ true) = both _ _ p₃.0 in
    record { some = leb-true _ _ p₄.0; few = leb-true _ _ p₄.1; begun = leb-true _ _ p₃.1; left = leb-true _ _ p₂.1; graded = leb-true _ _ p₁.1 }

in_limits_lem : (c : Call) → Limits c → in_limits c ≡ true
unfolding in_limits
in_limits_lem c l = rw (le-leb _ _ l.some, le-leb _ _ l.few, le-leb _ _ l.begun, le-leb _ _ l.left, le-leb _ _ l.graded)

-- ---- what soundness says in each state

module _ (c : Call) (holds : sound c ≡ true) where
  in_check : c.state ≡ State.PresenceCheck → (in_limits c && not c.dt311) ≡ true
  in_check s = sym (sound_in_lem c State.PresenceCheck s) ∙ holds

  pub check_limits : c.state ≡ State.PresenceCheck → Limits c
  check_limits s = limits c (both _ _ (in_check s)).0

  pub check_311 : c.state ≡ State.PresenceCheck → c.dt311 ≡ false
  check_311 s = not-true _ (both (in_limits c) _ (in_check s)).1

  in_idle : c.state ≡ State.Idle → as_fresh c ≡ true
  in_idle s = sym (sound_in_lem c State.Idle s) ∙ holds

  pub idle_fresh : c.state ≡ State.Idle → c ≡ fresh_call
  unfolding as_fresh
  idle_fresh s =
      let p₁ : ((eqb c.target 0 && eqb c.lowest 0 && eqb c.limit 0 && eqb c.used 0 && not c.dt303) ≡ true) × (not c.dt311 ≡ true) = both _ _ (in_idle s) in
      let p₂ : ((eqb c.target 0 && eqb c.lowest 0 && eqb c.limit 0 && eqb c.used 0) ≡ true) × (not c.dt303 ≡ true) = both _ _ p₁.0 in
      let p₃ : ((eqb c.target 0 && eqb c.lowest 0 && eqb c.limit 0) ≡ true) × (eqb c.used 0 ≡ true) = both _ _ p₂.0 in
      let p₄ : ((eqb c.target 0 && eqb c.lowest 0) ≡ true) × (eqb c.limit 0 ≡ true) = both _ _ p₃.0 in
      let p₅ : (eqb c.target 0 ≡ true) × (eqb c.lowest 0 ≡ true) = both _ _ p₄.0 in
      let t : c.target ≡ 0 = eqb-true _ _ p₅.0 in
      let l : c.lowest ≡ 0 = eqb-true _ _ p₅.1 in
      let m : c.limit ≡ 0 = eqb-true _ _ p₄.1 in
      let u : c.used ≡ 0 = eqb-true _ _ p₃.1 in
      let a : c.dt303 ≡ false = not-true _ p₂.1 in
      let b : c.dt311 ≡ false = not-true _ p₁.1 in
      (λ i. record { state = s i; target = t i; lowest = l i; limit = m i; used = u i; dt303 = a i; dt311 = b i })

-- a state that has IDLE's number is IDLE
pub idle_is : (c : Call) → is_idle c ≡ true → c.state ≡ State.Idle
idle_is c h = by c.state h
  where
    by : (s : State) → eqb (state_number s) 0 ≡ true → s ≡ State.Idle
    by State.Idle h = refl
    by State.PresenceCheck h = apart h refl
    by State.Active h = apart h refl

pub check_is : (c : Call) → is_check c ≡ true → c.state ≡ State.PresenceCheck
check_is c h = by c.state h
  where
    by : (s : State) → eqb (state_number s) 1 ≡ true → s ≡ State.PresenceCheck
    by State.Idle h = apart h refl
    by State.PresenceCheck h = refl
    by State.Active h = apart h refl

-- ---- the rows

pub within_byte : (v : ℕ) → within 0 255 v ≡ true → v < 256
unfolding within
within_byte v h = let e : v ≤ 255 = leb-true v 255 (both (leb 0 v) (leb v 255) h).1 in omega arith

pub request_bytes : (t l m : ℕ) → fine events (SetupRequest t l m) ≡ true → (t < 256) × (l < 256)
unfolding fine flat_fits all_fit
request_bytes t l m h =
    let p = both _ _ (both _ _ h).0 in (within_byte t p.0, within_byte l (both _ _ p.1).0)

or-false : (a b : Bool) → (a || b) ≡ false → (a ≡ false) × (b ≡ false)
or-false true b h = apart refl h
or-false false b h = (refl, h)

pub request_limits : (t l m : ℕ) → beyond (SetupRequest t l m) ≡ false → (1 ≤ m) × ((m ≤ 15) × (l ≤ t))
request_limits t l m h =
    let p : ((not (leb 1 m) || not (leb m 15)) ≡ false) × (not (leb l t) ≡ false) = or-false _ _ h in
    let q : (not (leb 1 m) ≡ false) × (not (leb m 15) ≡ false) = or-false _ _ p.0 in
    (leb-true _ _ (not-false _ q.0), (leb-true _ _ (not-false _ q.1), leb-true _ _ (not-false _ p.1)))

pub fresh_kept : FreshIsSound
unfolding sound as_fresh
fresh_kept = record { target = omega arith; lowest = omega arith; meets = refl }

module _ (c : Call) (k : Kept c) where
  -- in PRESENCE CHECK
  checking : (x : Call) → x.state ≡ State.PresenceCheck → Limits x → x.dt311 ≡ false → sound x ≡ true
  checking x s l off = sound_in_lem x State.PresenceCheck s ∙ rw (in_limits_lem x l, off)

  -- the limits of a call that a row keeps
  same_limits : (x : Call) → x.limit ≡ c.limit → x.used ≡ c.used → x.lowest ≡ c.lowest → x.target ≡ c.target → c.state ≡ State.PresenceCheck → Limits x
  same_limits x p q r t s =
      let l = check_limits c k.meets s in
      record { some = omega (arith, l.some); few = omega (arith, l.few); begun = omega (arith, l.begun); left = omega (arith, l.left); graded = omega (arith, l.graded) }

  pub row_keeps : (e : Event) (d : Draft) → Which c e d → fine events e ≡ true → beyond e ≡ false → Kept d.call
  unfolding asked awaited given_up connected released again exhausted
  row_keeps e d (asks {t} {l} {m} s) f b =
      let w = request_limits t l m b in
      let r = request_bytes t l m f in
      let fresh : c ≡ fresh_call = idle_fresh c k.meets s in
      record { target = r.0; lowest = r.1; meets = checking (asked t l m c).call refl (record { some = w.0; few = w.1.0; begun = omega arith; left = w.0; graded = w.1.1 }) (ap (λ (x : Call). x.dt311) fresh) }
  row_keeps e d (awaits s run v) f b =
      record { target = k.target; lowest = k.lowest; meets = checking (awaited c).call s (same_limits (awaited c).call refl refl refl refl s) (check_311 c k.meets s) }
  row_keeps e d (gives_up_lem s run) f b = fresh_kept
  row_keeps e d (connects {g} s run w) f b =
      record { target = k.target; lowest = k.lowest; meets = sound_in_lem (connected g c).call State.Active refl ∙ rw (in_limits_lem (connected g c).call (same_limits (connected g c).call refl refl refl refl s)) }
  row_keeps e d (rejects s run w) f b = fresh_kept
  row_keeps e d (disconnects s run) f b = fresh_kept
  row_keeps e d (retries s run n more) f b =
      let l = check_limits c k.meets s in
      let under : c.used < c.limit = ltb-true _ _ more in
      record { target = k.target; lowest = k.lowest; meets = checking (again (c.used + 1) c).call s (record { some = l.some; few = l.few; begun = omega arith; left = omega arith; graded = l.graded }) (check_311 c k.meets s) }
  row_keeps e d (exhausts s run n more) f b = fresh_kept

pub turn_keeps : StepKeepsSound
turn_keeps c t k = by (turned c t)
  where
    by : Turned c t → Kept (next c t)
    by (passed p) = rw p.leaves k
    by (took e a) = rw a.leaves (row_keeps c k e (row_for c e) (row_of a) (event_fine t.event e a.reads) a.within)

pub run_keeps : (c : Call) (ts : List Turn) → Kept c → Kept (run c ts)
unfolding run
run_keeps c [] k = k
run_keeps c (t ∷ ts) k = run_keeps (next c t) ts (turn_keeps c t k)

-- every record of a run
pub reached : (ts : List Turn) → Kept (run fresh_call ts)
reached ts = run_keeps fresh_call ts fresh_kept

pub sound_runs : Sound
sound_runs ts = (reached ts).meets

pub idle_is_fresh : IdleIsFresh
idle_is_fresh ts h = idle_fresh (run fresh_call ts) (reached ts).meets (idle_is (run fresh_call ts) h)
