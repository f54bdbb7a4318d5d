-- An event that goes to one place gets the step's answer there; and the room that is to be lent is enough.
use Prim.Native.Nat.{ℕ, ◌≤◌}
use mathlib.Core.Path.{◌≡◌, refl, sym, ◌∙◌, ap}
use mathlib.Core.Bool.{true}
use mathlib.Core.List.{List}
use native.Mathlib.Omega.{arith}
use borrow.Author.Tests.{le-leb}
use lib.ListN.{length, drop, length-drop}
use Rattle.records.specs.declared.events.Event.{Event}
use Rattle.records.specs.Tables.{Read, taken, refused, read}
use Rattle.records.specs.Events.{events}
use Rattle.callcontrol.specs.declared.call.Call.{Call}
use Rattle.callcontrol.specs.Writing.{bytes_of}
use Rattle.callcontrol.specs.Step.{Outcome, decided}
use Rattle.callcontrol.specs.Call.{fresh_call}
use Rattle.demands.specs.Runs.{outcome, run}
use Rattle.demands.proofs.Demands as step-demands
use Rattle.demands.proofs.Reading.{Reads, bad_length, no_kind_lem, retired, bad_body_lem, is, reads}
use Rattle.console.specs.declared.route.Aim.{Aim}
use Rattle.console.specs.Table.{call_at, table_sound}
use Rattle.console.specs.Route.{Route, aim_of, route_of}
use Rattle.console.specs.Console.{ConsoleOutcome, placed, at_place, writes_from, routed}
use Rattle.console.specs.Runs.{ConsoleTurn, console_outcome, lent_behind}
use Rattle.console.specs.Demands as claims
use Rattle.console.proofs.Demands.{records, table_sound_lem, good}
use Rattle.console.proofs.Everywhere.{every_is}
use Rattle.console.proofs.Placing.{Decides, decides, placed_refuses, placed_takes}
use Rattle.console.proofs.Rooms.{break_room, resume_room}
use Rattle.console.proofs.Routing.{to_place, to_all, not_seven, every_route}
use Rattle.console.proofs.Tables.{sound_at}
use Rattle.console.proofs.Turns.{Everywhere, everywhere_does, none_takes, no_room, all_take, Came, came, unsound, unread, routes, routed_is}
use Rattle.console.proofs.Went as Went

-- ---- one place

pub placed_answer : (k : ℕ) (c : Call) (e : Event) (b : List ℕ) → (placed k c e b).answer ≡ (decided c e (drop 5 b)).answer
placed_answer k c e b = by (decides c e (drop 5 b))
  where
    by : Decides c e (drop 5 b) → (placed k c e b).answer ≡ (decided c e (drop 5 b)).answer
    by (Decides.refuses n z d) = ap (λ (o : Outcome). o.answer) (sym (placed_refuses k c e b n z d)) ∙ sym (ap (λ (o : Outcome). o.answer) d)
    by (Decides.takes t f d) = ap (λ (o : Outcome). o.answer) (sym (placed_takes k c e b d)) ∙ sym (ap (λ (o : Outcome). o.answer) d)

pub answers_at : claims.AnswersAt
unfolding at_place
answers_at calls t e j s h to =
    ap (λ (o : ConsoleOutcome). o.answer) (routed_is calls t s h to)
    ∙ placed_answer j (call_at calls j) e t.buffer
    ∙ sym (ap (λ (o : Outcome). o.answer) (Went.step_decided (call_at calls j) e (lent_behind 0 t) (sound_at calls j s (to_place calls t.place e to)) h))

-- what the step at a place answers in a run
pub answers_in_run : (ts : List ConsoleTurn) (t : ConsoleTurn) (e : Event) (j : ℕ) → read events t.event ≡ taken e → route_of (claims.after ts) t.place e ≡ Route.To j
    → (console_outcome (claims.after ts) t).answer ≡ (outcome (run fresh_call (claims.turns_at j ts)) (lent_behind 0 t)).answer
answers_in_run ts t e j h to =
    answers_at (claims.after ts) t e j (table_sound_lem ts) h to
    ∙ ap (λ (c : Call). (outcome c (lent_behind 0 t)).answer) (records ts j (to_place (claims.after ts) t.place e to))

-- what is left of 37 bytes behind five
pub behind_five : (b : List ℕ) → 37 ≤ length b → 32 ≤ length (drop 5 b)
behind_five b lent = rw (length-drop 5 b) (omega arith)

pub place_enough : claims.PlaceEnough
place_enough ts t e j h to lent seven =
    step-demands.enough_32 (claims.turns_at j ts) (lent_behind 0 t) (behind_five t.buffer lent) (sym (answers_in_run ts t e j h to) ∙ seven)

-- ---- every place

all_enough : (calls : List Call) (t : ConsoleTurn) (e : Event) (m : ℕ) → table_sound calls ≡ true → read events t.event ≡ taken e → aim_of e ≡ Aim.Every
    → length (bytes_of (writes_from 0 calls e)) ≤ m → m ≤ length t.buffer → (console_outcome calls t).answer ≡ 7 → ⊥
all_enough calls t e m s h every most lent seven = by (everywhere_does calls e t.buffer)
  where
    answer_is : {o : ConsoleOutcome} → routed Route.Everywhere calls e t.buffer ≡ o → o.answer ≡ 7
    answer_is d = sym (ap (λ (o : ConsoleOutcome). o.answer) (routed_is calls t s h (every_route calls t.place e every) ∙ d)) ∙ seven

    by : Everywhere calls e t.buffer → ⊥
    by (none_takes x d) = let z = answer_is d in omega arith
    by (no_room x f d) =
        let fits = le-leb (length (bytes_of (writes_from 0 calls e))) (length t.buffer) (omega arith) in
        let z : ◌≡◌ {A = ℕ} 0 1 = cc in
        omega arith
    by (all_take x f d) = let z = answer_is d in omega arith

pub break_enough : claims.BreakEnough
break_enough ts t h = all_enough (claims.after ts) t Event.Break 128 (table_sound_lem ts) h refl (break_room (claims.after ts) (good ts).eight (good ts).kept)

-- an event for every place is one of the two
every_most : (ts : List ConsoleTurn) (e : Event) → aim_of e ≡ Aim.Every → length (bytes_of (writes_from 0 (claims.after ts) e)) ≤ 184
every_most ts =
    every_is (λ e. length (bytes_of (writes_from 0 (claims.after ts) e)) ≤ 184) (let w = break_room (claims.after ts) (good ts).eight (good ts).kept in omega arith)
    (resume_room (claims.after ts) (good ts).eight (good ts).kept)

-- ---- any event

reader_not_seven : {s : List ℕ} {n p : ℕ} {r : Read Event} → Reads s r → r ≡ refused n p → n ≡ 7 → ⊥
reader_not_seven (bad_length l) h seven = let z : ◌≡◌ {A = ℕ} 2 7 = cc in omega arith
reader_not_seven (no_kind_lem l k) h seven = let z : ◌≡◌ {A = ℕ} 3 7 = cc in omega arith
reader_not_seven (retired l k r) h seven = let z : ◌≡◌ {A = ℕ} 9 7 = cc in omega arith
reader_not_seven (bad_body_lem l k r b) h seven = let z : ◌≡◌ {A = ℕ} 4 7 = cc in omega arith
reader_not_seven (is l k r b f) h seven = absurd (let z : ◌≡◌ {A = ℕ} 0 1 = cc in omega arith)

pub enough : claims.Enough
enough ts t lent seven = by (came (claims.after ts) t)
  where
    answer_is : {o : ConsoleOutcome} → console_outcome (claims.after ts) t ≡ o → o.answer ≡ 7
    answer_is o = sym (ap (λ (o : ConsoleOutcome). o.answer) o) ∙ seven

    by : Came (claims.after ts) t → ⊥
    by (unsound s o) = let z = answer_is o in omega arith
    by (unread n p s h o) = reader_not_seven (reads t.event) h (answer_is o)
    by (routes e (Route.To j) s h r o) = place_enough ts t e j h r (omega arith) seven
    by (routes e Route.Everywhere s h r o) =
        let every = to_all (claims.after ts) t.place e r in all_enough (claims.after ts) t e 184 s h every (every_most ts e every) lent seven
    by (routes e (Route.Refused a) s h r o) = not_seven (claims.after ts) t.place e r (answer_is o)
