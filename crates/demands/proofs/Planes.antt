-- What soundness says of the plane: it is one of the four, and off unless the call is active with its path up.
use Prim.Native.Nat.{ℕ, ◌≤◌}
use mathlib.Core.Path.{◌≡◌, refl}
use mathlib.Core.Bool.{Bool, true, false, ◌&&◌}
use native.Mathlib.Omega.{arith}
use borrow.Author.Tests.{eqb-true, leb-true}
use lib.Dec.{leb, eqb, lit≤}
use Rattle.callcontrol.specs.declared.call.State.{State}
use Rattle.callcontrol.specs.declared.call.Path.{Path}
use Rattle.callcontrol.specs.declared.call.Call.{Call}
use Rattle.callcontrol.specs.Call.{state_number, path_number, is_active, is_up, may_lack_id, sound}
use Rattle.demands.proofs.Facts.{apart, left, right, first, second}
use Rattle.demands.proofs.Situations.{Plane, transmit, receive, duplex, none, clauses}

plane_least : {p : ℕ} {t : Bool} → Plane p t → 1 ≤ p
plane_least transmit = lit≤ tt
plane_least receive = lit≤ tt
plane_least duplex = lit≤ tt
plane_least none = lit≤ tt

pub plane_some : (c : Call) → sound c ≡ true → 1 ≤ c.plane
plane_some c ok = plane_least (clauses c ok).told

pub plane_off : (c : Call) (s : State) (x : Path) → sound c ≡ true → c.state ≡ s → c.path ≡ x → (eqb (state_number s) 3 && eqb (path_number x) 0) ≡ false → c.plane ≡ 4
plane_off c s x ok state path elsewhere =
    let here : (is_active c && is_up c) ≡ false = rw (state, path) elsewhere in
    eqb-true c.plane 4 (first (eqb c.plane 4) (is_active c && is_up c) (clauses c ok).off_unless here)

is_active_lem : (s : State) → eqb (state_number s) 3 ≡ true → s ≡ State.CallActive
is_active_lem State.Idle h = apart h refl
is_active_lem State.MoCallSetup h = apart h refl
is_active_lem State.MtCallSetup h = apart h refl
is_active_lem State.CallActive h = refl
is_active_lem State.Wait h = apart h refl
is_active_lem State.CallDisconnect h = apart h refl

is_up_lem : (x : Path) → eqb (path_number x) 0 ≡ true → x ≡ Path.Up
is_up_lem Path.Up h = refl
is_up_lem Path.Broken h = apart h refl
is_up_lem Path.Restoring h = apart h refl

pub plane_on : (c : Call) → sound c ≡ true → eqb c.plane 4 ≡ false → (c.state ≡ State.CallActive) × (c.path ≡ Path.Up) × (c.id ≡ 0 → ⊥)
plane_on c ok on =
    let here : (is_active c && is_up c) ≡ true = second (eqb c.plane 4) (is_active c && is_up c) (clauses c ok).off_unless on in
    let state : c.state ≡ State.CallActive = is_active_lem c.state (left (is_active c) (is_up c) here) in
    let some : 1 ≤ c.id = leb-true 1 c.id (first (leb 1 c.id) (may_lack_id c.state) (clauses c ok).named_unless (rw state)) in
    (state, is_up_lem c.path (right (is_active c) (is_up c) here), λ zero. omega arith)
