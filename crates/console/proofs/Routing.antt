-- A route leads to one of the eight places, or everywhere for an event that is meant for every place, or is refused with a number of its own.
use Prim.Native.Nat.{ℕ, ◌<◌, ◌≤◌}
use mathlib.Core.Path.{◌≡◌, refl}
use mathlib.Core.Bool.{Bool, true, false, cond}
use mathlib.Core.List.{List}
use native.Mathlib.Omega.{arith}
use borrow.Author.Tests.{ltb-true}
use lib.Dec.{ltb, lit≤}
use Rattle.records.specs.declared.events.Event.{Event}
use Rattle.callcontrol.specs.declared.call.Call.{Call}
use Rattle.callcontrol.specs.Call.{is_idle}
use Rattle.console.specs.declared.route.Aim.{Aim}
use Rattle.console.specs.declared.route.ConsoleRefusal.{ConsoleRefusal}
use Rattle.console.specs.Table.{holds, lowest}
use Rattle.console.specs.Route.{Route, console_number, aim_of, at_named, at_lowest_idle, outgoing, incoming, at_holder, aimed, route_of}

-- what a route says of itself and of the aim that it comes from
abbrev Leads : Aim → Route → Type 0
Leads a (Route.To k) = k < 8
Leads a Route.Everywhere = a ≡ Aim.Every
Leads a (Route.Refused n) = (5 ≤ console_number n) × (console_number n ≡ 7 → ⊥)

found : (a : Aim) (k : ℕ) (t : Bool) → ltb k 8 ≡ t → (other : Route) → Leads a other → Leads a (cond t (Route.To k) other)
found a k true e other l = ltb-true k 8 e
found a k false e other l = l

either : (a : Aim) (t : Bool) (r s : Route) → Leads a r → Leads a s → Leads a (cond t r s)
either a true r s l m = l
either a false r s l m = m

leads : (a : Aim) (calls : List Call) (place : ℕ) → Leads a (aimed a calls place)
unfolding at_named at_lowest_idle outgoing incoming at_holder
leads Aim.Place calls place = found _ place (ltb place 8) refl _ (lit≤ tt, λ z. omega arith)
leads Aim.Outgoing calls place = either _ (ltb (lowest (holds 0) calls) 8) _ _ (lit≤ tt, λ z. omega arith) (found _ (lowest is_idle calls) (ltb (lowest is_idle calls) 8) refl _ (lit≤ tt, λ z. omega arith))
leads (Aim.Incoming i) calls place = either _ (ltb (lowest (holds i) calls) 8) _ _ (lit≤ tt, λ z. omega arith) (found _ (lowest is_idle calls) (ltb (lowest is_idle calls) 8) refl _ (lit≤ tt, λ z. omega arith))
leads (Aim.Held i) calls place =
    found _ (lowest (holds i) calls) (ltb (lowest (holds i) calls) 8) refl _ (found _ (lowest (holds 0) calls) (ltb (lowest (holds 0) calls) 8) refl _ (lit≤ tt, λ z. omega arith))
leads Aim.Every calls place = refl

pub to_place : (calls : List Call) (place : ℕ) (e : Event) {k : ℕ} → route_of calls place e ≡ Route.To k → k < 8
unfolding route_of
to_place calls place e h = rw h at (leads (aim_of e) calls place)

pub to_all : (calls : List Call) (place : ℕ) (e : Event) → route_of calls place e ≡ Route.Everywhere → aim_of e ≡ Aim.Every
unfolding route_of
to_all calls place e h = rw h at (leads (aim_of e) calls place)

pub to_none : (calls : List Call) (place : ℕ) (e : Event) {a : ConsoleRefusal} → route_of calls place e ≡ Route.Refused a → 5 ≤ console_number a
unfolding route_of
to_none calls place e h = (rw h at (leads (aim_of e) calls place)).0

pub not_seven : (calls : List Call) (place : ℕ) (e : Event) {a : ConsoleRefusal} → route_of calls place e ≡ Route.Refused a → console_number a ≡ 7 → ⊥
unfolding route_of
not_seven calls place e h = (rw h at (leads (aim_of e) calls place)).1

-- an event that is meant for every place goes everywhere
pub every_route : (calls : List Call) (place : ℕ) (e : Event) → aim_of e ≡ Aim.Every → route_of calls place e ≡ Route.Everywhere
unfolding route_of
every_route calls place e every = rw every
