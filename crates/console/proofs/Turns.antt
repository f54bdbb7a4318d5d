-- What a turn of the console does to the table: nothing, or the step of one place, or the event at every place that takes it.
use Prim.Native.Nat.{ℕ, zero, suc, ◌<◌}
use mathlib.Core.Path.{◌≡◌, refl, ◌∙◌, ap}
use mathlib.Core.Bool.{Bool, true, false, cond}
use mathlib.Core.List.{List, [], ◌∷◌, ◌++◌}
use native.Mathlib.Omega.{arith}
use lib.ListN.{length, set}
use lib.Seq.{sets}
use Rattle.records.specs.declared.events.Event.{Event}
use Rattle.records.specs.Tables.{Read, taken, refused, read}
use Rattle.records.specs.Events.{events}
use Rattle.callcontrol.specs.declared.call.Call.{Call}
use Rattle.callcontrol.specs.Writing.{bytes_of}
use Rattle.console.specs.declared.route.Aim.{Aim}
use Rattle.console.specs.Table.{call_at, some?, table_sound}
use Rattle.console.specs.Route.{Route, aim_of, route_of}
use Rattle.console.specs.Console as console
use Rattle.console.specs.Console.{ConsoleOutcome, placed, takes, writes_from, next_of, all_next, everywhere, at_place, routed, console_of, refuses_at, refuses}
use Rattle.console.specs.Runs.{ConsoleTurn, console_outcome, console_next, console_run, all_fits}
use Rattle.console.proofs.Routing.{to_all}

-- ---- the event at every place

abbrev pub all_taken : List Call → Event → List ℕ → ConsoleOutcome
all_taken calls e b =
    record { answer = 0; place = 0; calls = all_next calls e; count = length (bytes_of (writes_from 0 calls e)); buffer = sets b 0 (bytes_of (writes_from 0 calls e)) }

pub data Everywhere (calls : List Call) (e : Event) (b : List ℕ) : Type 0 where
  none_takes : some? (takes e) calls ≡ false → everywhere calls e b ≡ refuses 6 calls b → Everywhere calls e b
  no_room : some? (takes e) calls ≡ true → all_fits calls e b ≡ false → everywhere calls e b ≡ refuses 7 calls b → Everywhere calls e b
  all_take : some? (takes e) calls ≡ true → all_fits calls e b ≡ true → everywhere calls e b ≡ all_taken calls e b → Everywhere calls e b

pub everywhere_does : (calls : List Call) (e : Event) (b : List ℕ) → Everywhere calls e b
unfolding everywhere
everywhere_does calls e b = by (some? (takes e) calls) (all_fits calls e b) refl refl
  where
    by : (s f : Bool) → some? (takes e) calls ≡ s → all_fits calls e b ≡ f → Everywhere calls e b
    by false f s r = none_takes s (ap (λ (x : Bool). cond x (cond (all_fits calls e b) (all_taken calls e b) (refuses 7 calls b)) (refuses 6 calls b)) s)
    by true false s r =
        no_room s r
        (ap (λ (x : Bool). cond x (cond (all_fits calls e b) (all_taken calls e b) (refuses 7 calls b)) (refuses 6 calls b)) s
        ∙ ap (λ (x : Bool). cond x (all_taken calls e b) (refuses 7 calls b)) r)
    by true true s r =
        all_take s r
        (ap (λ (x : Bool). cond x (cond (all_fits calls e b) (all_taken calls e b) (refuses 7 calls b)) (refuses 6 calls b)) s
        ∙ ap (λ (x : Bool). cond x (all_taken calls e b) (refuses 7 calls b)) r)

pub next_at : (calls : List Call) (e : Event) (k : ℕ) → k < length calls → call_at (all_next calls e) k ≡ next_of e (call_at calls k)
next_at [] e k lt = absurd (omega arith)
next_at (c ∷ calls) e zero lt = refl
next_at (c ∷ calls) e (suc k) lt = next_at calls e k (omega arith)

-- ---- a turn

-- the outcome of a turn, by how far it comes
pub data Came (calls : List Call) (t : ConsoleTurn) : Type 0 where
  unsound : table_sound calls ≡ false → console_outcome calls t ≡ refuses 1 calls t.buffer → Came calls t
  unread : (n p : ℕ) → table_sound calls ≡ true → read events t.event ≡ refused n p → console_outcome calls t ≡ refuses_at n p calls t.buffer → Came calls t
  routes : (e : Event) (r : Route) → table_sound calls ≡ true → read events t.event ≡ taken e → route_of calls t.place e ≡ r
      → console_outcome calls t ≡ routed r calls e t.buffer → Came calls t

module _ (calls : List Call) (t : ConsoleTurn) where
  came_by : (ok : Bool) (r : Read Event) → table_sound calls ≡ ok → read events t.event ≡ r
      → console_outcome calls t ≡ cond ok (console.when_read r calls t.place t.buffer) (refuses 1 calls t.buffer) → Came calls t
  came_by false r s h o = unsound s o
  came_by true (refused n p) s h o = unread n p s h o
  came_by true (taken e) s h o = routes e (route_of calls t.place e) s h refl o

  pub came : Came calls t
  unfolding console_outcome console_of
  came = came_by (table_sound calls) (read events t.event) refl refl refl

  pub next_is : {o : ConsoleOutcome} → console_outcome calls t ≡ o → console_next calls t ≡ o.calls
  unfolding console_next
  next_is g = ap (λ (o : ConsoleOutcome). o.calls) g

-- where it goes
pub routed_is : (calls : List Call) (t : ConsoleTurn) {e : Event} {r : Route} → table_sound calls ≡ true → read events t.event ≡ taken e → route_of calls t.place e ≡ r
    → console_outcome calls t ≡ routed r calls e t.buffer
unfolding console_outcome console_of
routed_is calls t s h r = rw (s, h, r)

-- what it does to the table
pub data Turned (calls : List Call) (t : ConsoleTurn) : Type 0 where
  stays : console_next calls t ≡ calls → Turned calls t
  goes_on : (e : Event) (i : ℕ) → table_sound calls ≡ true → read events t.event ≡ taken e → route_of calls t.place e ≡ Route.To i
      → console_next calls t ≡ set calls i (placed i (call_at calls i) e t.buffer).call → Turned calls t
  all_go : (e : Event) → table_sound calls ≡ true → read events t.event ≡ taken e → aim_of e ≡ Aim.Every → console_next calls t ≡ all_next calls e → Turned calls t

pub turned : (calls : List Call) (t : ConsoleTurn) → Turned calls t
unfolding at_place
turned calls t = by (came calls t)
  where
    all : (e : Event) → table_sound calls ≡ true → read events t.event ≡ taken e → aim_of e ≡ Aim.Every
        → console_outcome calls t ≡ everywhere calls e t.buffer → Everywhere calls e t.buffer → Turned calls t
    all e s h a o (none_takes x d) = stays (next_is calls t (o ∙ d))
    all e s h a o (no_room x y d) = stays (next_is calls t (o ∙ d))
    all e s h a o (all_take x y d) = all_go e s h a (next_is calls t (o ∙ d))

    by : Came calls t → Turned calls t
    by (unsound s o) = stays (next_is calls t o)
    by (unread n p s h o) = stays (next_is calls t o)
    by (routes e (Route.To i) s h r o) = goes_on e i s h r (next_is calls t o)
    by (routes e Route.Everywhere s h r o) = all e s h (to_all calls t.place e r) o (everywhere_does calls e t.buffer)
    by (routes e (Route.Refused a) s h r o) = stays (next_is calls t o)

-- a run over two lists goes through the one and then the other
pub run-append : (calls : List Call) (ts us : List ConsoleTurn) → console_run calls (ts ++ us) ≡ console_run (console_run calls ts) us
unfolding console_run
run-append calls [] us = refl
run-append calls (t ∷ ts) us = run-append (console_next calls t) ts us
