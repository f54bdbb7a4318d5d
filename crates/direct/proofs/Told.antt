-- What the user is told: one RELEASE indication where a call ends, one SETUP confirm where it becomes active, and that only for an offer from
-- lowest to target of the request.
use Prim.Native.Nat.{ℕ, ◌+◌, ◌≤◌}
use mathlib.Core.Path.{◌≡◌, refl, ◌∙◌, ap}
use mathlib.Core.Bool.{true, false, cond, not, ◌&&◌, not-and_self}
use mathlib.Core.List.{List, [], ◌∷◌}
use mathlib.Core.Option.{some}
use native.Mathlib.Omega.{arith}
use borrow.Author.Tests.{leb-true, eq-eqb}
use lib.Dec.{leb, eqb}
use Rattle.records.proofs.Laws.{both}
use Rattle.direct.specs.declared.events.Event.{Event}
use Rattle.direct.specs.declared.events.Event.TheVariants.{DmConnect}
use Rattle.direct.specs.declared.call.State.{State}
use Rattle.direct.specs.declared.call.Call.{Call}
use Rattle.direct.specs.Call.{fresh_call, state_number}
use Rattle.direct.specs.Draft.{Draft, messages_in}
use Rattle.direct.specs.Rows.{asked, awaited, given_up, connected, released, again, exhausted, acceptable, row_for}
use Rattle.direct.specs.Runs.{Turn, next, run, taken_by, written_by, is_idle, is_active, enters_idle, enters_active, count, is_setup_confirm, is_release_indication, is_confirm_of, log_in, Asked, note_asked, asked_after, asked_by}
use Rattle.direct.specs.Demands.{OneIndication, OneConfirm, HeldAsAsked, ActiveWithin, OutsideReleases}
use Rattle.direct.proofs.Turns.{apart, Turned, passed, took, turned, accepts, Which, asks, awaits, gives_up_lem, connects, rejects, disconnects, retries, exhausts, row_of}

-- ---- one indication, one confirm

-- the state's tests, before and after a row
before_after : (p : ℕ) (c x : Call) {s s' : State} → c.state ≡ s → x.state ≡ s' → (not (eqb (state_number c.state) p) && eqb (state_number x.state) p) ≡ (not (eqb (state_number s) p) && eqb (state_number s') p)
before_after p c x {s} h h' = ap (λ (y : State). not (eqb (state_number y) p) && eqb (state_number x.state) p) h ∙ ap (λ (y : State). not (eqb (state_number s) p) && eqb (state_number y) p) h'

module _ (c : Call) where
  indicates : (e : Event) (d : Draft) → Which c e d → count is_release_indication (messages_in d) ≡ cond (not (is_idle c) && is_idle d.call) 1 0
  unfolding count asked awaited given_up connected released again exhausted
  indicates e d (asks {t} {l} {m} s) = rw (before_after 0 c (asked t l m c).call s refl)
  indicates e d (awaits s run v) = rw (before_after 0 c (awaited c).call s s)
  indicates e d (gives_up_lem s run) = rw (before_after 0 c fresh_call s refl)
  indicates e d (connects {g} s run w) = rw (before_after 0 c (connected g c).call s refl)
  indicates e d (rejects s run w) = rw (before_after 0 c fresh_call s refl)
  indicates e d (disconnects s run) = rw (before_after 0 c fresh_call s refl)
  indicates e d (retries s run n more) = rw (before_after 0 c (again (c.used + 1) c).call s s)
  indicates e d (exhausts s run n more) = rw (before_after 0 c fresh_call s refl)

  confirms : (e : Event) (d : Draft) → Which c e d → count is_setup_confirm (messages_in d) ≡ cond (not (is_active c) && is_active d.call) 1 0
  unfolding count asked awaited given_up connected released again exhausted
  confirms e d (asks {t} {l} {m} s) = rw (before_after 2 c (asked t l m c).call s refl)
  confirms e d (awaits s run v) = rw (before_after 2 c (awaited c).call s s)
  confirms e d (gives_up_lem s run) = rw (before_after 2 c fresh_call s refl)
  confirms e d (connects {g} s run w) = rw (before_after 2 c (connected g c).call s refl)
  confirms e d (rejects s run w) = rw (before_after 2 c fresh_call s refl)
  confirms e d (disconnects s run) = rw (before_after 2 c fresh_call s refl)
  confirms e d (retries s run n more) = rw (before_after 2 c (again (c.used + 1) c).call s s)
  confirms e d (exhausts s run n more) = rw (before_after 2 c fresh_call s refl)

pub one_indication : OneIndication
unfolding count
one_indication ts t = by (turned c t)
  where
    c : Call
    c = run fresh_call ts

    by : Turned c t → count is_release_indication (written_by c t) ≡ cond (enters_idle c t) 1 0
    by (passed p) = rw (p.writes, p.leaves, not-and_self (is_idle c))
    by (took e a) = rw (a.writes, a.leaves) (indicates c e (row_for c e) (row_of a))

pub one_confirm : OneConfirm
unfolding count
one_confirm ts t = by (turned c t)
  where
    c : Call
    c = run fresh_call ts

    by : Turned c t → count is_setup_confirm (written_by c t) ≡ cond (enters_active c t) 1 0
    by (passed p) = rw (p.writes, p.leaves, not-and_self (is_active c))
    by (took e a) = rw (a.writes, a.leaves) (confirms c e (row_for c e) (row_of a))

-- ---- what is held is what was asked

pub record Holds (c : Call) (a : Asked) : Type 0 where
  pub target : c.target ≡ a.target
  pub lowest : c.lowest ≡ a.lowest
  pub limit : c.limit ≡ a.attempts

fresh_idle : {A : Type 0} (x : Call) → x ≡ fresh_call → is_idle x ≡ false → A
fresh_idle x e h = apart (ap (λ (y : Call). is_idle y) e) h

module _ (c x : Call) (a : Asked) (held : is_idle c ≡ false → Holds c a) where
  busy : {s : State} → c.state ≡ s → (eqb (state_number s) 0 ≡ false) → Holds c a
  busy s h = held (ap (λ (y : State). eqb (state_number y) 0) s ∙ h)

  row_holds : (e : Event) (d : Draft) → Which c e d → x ≡ d.call → is_idle x ≡ false → Holds x (note_asked a (some e))
  unfolding asked awaited given_up connected released again exhausted
  row_holds e d (asks s) n i = record { target = ap (λ (y : Call). y.target) n; lowest = ap (λ (y : Call). y.lowest) n; limit = ap (λ (y : Call). y.limit) n }
  row_holds e d (awaits s run v) n i = let h = busy s refl in record { target = ap (λ (y : Call). y.target) n ∙ h.target; lowest = ap (λ (y : Call). y.lowest) n ∙ h.lowest; limit = ap (λ (y : Call). y.limit) n ∙ h.limit }
  row_holds e d (gives_up_lem s run) n i = fresh_idle x n i
  row_holds e d (connects s run w) n i = let h = busy s refl in record { target = ap (λ (y : Call). y.target) n ∙ h.target; lowest = ap (λ (y : Call). y.lowest) n ∙ h.lowest; limit = ap (λ (y : Call). y.limit) n ∙ h.limit }
  row_holds e d (rejects s run w) n i = fresh_idle x n i
  row_holds e d (disconnects s run) n i = fresh_idle x n i
  row_holds e d (retries s run m more) n i = let h = busy s refl in record { target = ap (λ (y : Call). y.target) n ∙ h.target; lowest = ap (λ (y : Call). y.lowest) n ∙ h.lowest; limit = ap (λ (y : Call). y.limit) n ∙ h.limit }
  row_holds e d (exhausts s run m more) n i = fresh_idle x n i

turn_holds : (c : Call) (t : Turn) (a : Asked) → (is_idle c ≡ false → Holds c a) → is_idle (next c t) ≡ false → Holds (next c t) (note_asked a (taken_by c t))
turn_holds c t a held i = by (turned c t)
  where
    by : Turned c t → Holds (next c t) (note_asked a (taken_by c t))
    by (passed p) = rw (p.takes, p.leaves) (held (rw p.leaves at i))
    by (took e w) = rw w.takes (row_holds c (next c t) a held e (row_for c e) (row_of w) w.leaves i)

run_holds : (c : Call) (ts : List Turn) (a : Asked) → (is_idle c ≡ false → Holds c a) → is_idle (run c ts) ≡ false → Holds (run c ts) (asked_after a (log_in c ts))
unfolding run log_in asked_after
run_holds c [] a held i = held i
run_holds c (t ∷ ts) a held i = run_holds (next c t) ts (note_asked a (taken_by c t)) (turn_holds c t a held) i

-- ---- an offer within

abbrev Within : Call → Turn → Asked → Type 0
Within c t a = (g : ℕ) × ((taken_by c t ≡ some (DmConnect g)) × ((a.lowest ≤ g) × ((g ≤ a.target) × (count (is_confirm_of g) (written_by c t) ≡ 1))))

module _ (c : Call) (t : Turn) (a : Asked) (held : is_idle c ≡ false → Holds c a) where
  offered : c.state ≡ State.PresenceCheck → Holds c a
  offered s = held (ap (λ (y : State). eqb (state_number y) 0) s)

  connects_within : (e : Event) (d : Draft) → Which c e d → taken_by c t ≡ some e → next c t ≡ d.call → written_by c t ≡ messages_in d → is_active (next c t) ≡ true → Within c t a
  unfolding count asked awaited given_up connected released again exhausted acceptable
  connects_within e d (asks s) k n w h = apart h (ap (λ (y : Call). is_active y) n)
  connects_within e d (awaits s run v) k n w h = apart h (ap (λ (y : Call). is_active y) n ∙ ap (λ (y : State). eqb (state_number y) 2) s)
  connects_within e d (gives_up_lem s run) k n w h = apart h (ap (λ (y : Call). is_active y) n)
  connects_within e d (connects {g} s run within) k n w h =
      let o = offered s in
      let b : (leb c.lowest g ≡ true) × (leb g c.target ≡ true) = both _ _ within in
      (g, (k, (omega (arith, o.lowest, leb-true c.lowest g b.0), (omega (arith, o.target, leb-true g c.target b.1), rw (w, eq-eqb g g refl)))))
  connects_within e d (rejects s run within) k n w h = apart h (ap (λ (y : Call). is_active y) n)
  connects_within e d (disconnects s run) k n w h = apart h (ap (λ (y : Call). is_active y) n)
  connects_within e d (retries s run m more) k n w h = apart h (ap (λ (y : Call). is_active y) n ∙ ap (λ (y : State). eqb (state_number y) 2) s)
  connects_within e d (exhausts s run m more) k n w h = apart h (ap (λ (y : Call). is_active y) n)

  active_within : enters_active c t ≡ true → Within c t a
  active_within h = by (turned c t)
    where
      by : Turned c t → Within c t a
      by (passed p) = apart h (rw p.leaves (not-and_self (is_active c)))
      by (took e w) = connects_within e (row_for c e) (row_of w) w.takes w.leaves w.writes (both (not (is_active c)) (is_active (next c t)) h).1

  releases : (g : ℕ) (d : Draft) → Which c (DmConnect g) d → next c t ≡ d.call → (leb a.lowest g && leb g a.target) ≡ false → next c t ≡ fresh_call
  unfolding released acceptable
  releases g d (connects s run within) n h = let o = offered s in apart within (rw (o.lowest, o.target) h)
  releases g d (rejects s run within) n h = n

pub run_held : (ts : List Turn) → is_idle (run fresh_call ts) ≡ false → Holds (run fresh_call ts) (asked_by (log_in fresh_call ts))
unfolding asked_by
run_held ts i = run_holds fresh_call ts (record { target = 0; lowest = 0; attempts = 0 }) (λ y. apart refl y) i

pub held_as_asked : HeldAsAsked
held_as_asked ts i = let h = run_held ts i in (h.target, h.lowest, h.limit)

pub enters_within : ActiveWithin
enters_within ts t h = active_within (run fresh_call ts) t _ (run_held ts) h

pub outside_releases : OutsideReleases
outside_releases ts t g k h =
    let w = accepts (run fresh_call ts) t (DmConnect g) k in releases (run fresh_call ts) t _ (run_held ts) g _ (row_of w) w.leaves h
