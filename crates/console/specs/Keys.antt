-- A table by its keys: a record outside IDLE has its identifier, one in IDLE a number that no identifier is and no other place has. On sound
-- records the keys tell where an event goes and whether two are alike, as the records do (proofs/ByKeys).
use Rattle.std.specs.Prelude.{Result, Ok, Err, ℕ, suc, ◌+◌, Bool, true, false, cond, not, ◌&&◌, ◌||◌, List, [], ◌∷◌, leb, ltb, eqb}
use Rattle.records.specs.declared.events.Event.{Event}
use Rattle.records.specs.Tables.{Read, taken, refused}
use Rattle.callcontrol.specs.declared.call.Call.{Call}
use Rattle.callcontrol.specs.declared.step.Refusal.{Refusal}
use Rattle.callcontrol.specs.Call.{is_idle}
use Rattle.console.specs.declared.route.ConsoleRefusal.{ConsoleRefusal}
use Rattle.console.specs.declared.route.Aim.{Aim}
use Rattle.console.specs.declared.route.Target.{Target}
use Rattle.console.specs.Route.{Route, console_number, console_place, aim_of, or_else, at_named}

-- identifiers are at most 16383
abbrev pub key_of : ℕ → Call → ℕ
key_of k c = cond (is_idle c) (16384 + k) c.id

abbrev pub keys_from : ℕ → List Call → List ℕ
keys_from k [] = []
keys_from k (c ∷ cs) = key_of k c ∷ keys_from (suc k) cs

abbrev pub lowest_key : (ℕ → Bool) → List ℕ → ℕ
lowest_key p [] = 0
lowest_key p (n ∷ ns) = cond (p n) 0 (suc (lowest_key p ns))

abbrev pub some_key : ℕ → List ℕ → Bool
some_key m [] = false
some_key m (n ∷ ns) = eqb m n || some_key m ns

-- no two keys are equal
abbrev pub apart_by : List ℕ → Bool
apart_by [] = true
apart_by (n ∷ ns) = not (some_key n ns) && apart_by ns

-- who holds an identifier, and who is IDLE
abbrev pub held_by : ℕ → List ℕ → ℕ
held_by i keys = lowest_key (λ (n : ℕ). eqb n i) keys

abbrev pub idle_by : List ℕ → ℕ
idle_by keys = lowest_key (leb 16384) keys

-- each line of Route, by the keys

unfoldable pub at_idle_by : List ℕ → Route
at_idle_by keys = or_else (idle_by keys) (Route.Refused ConsoleRefusal.NoIdlePlace)

unfoldable pub outgoing_by : List ℕ → Route
outgoing_by keys = cond (ltb (held_by 0 keys) 8) (Route.Refused ConsoleRefusal.IdAwaited) (at_idle_by keys)

unfoldable pub incoming_by : List ℕ → ℕ → Route
incoming_by keys i = cond (ltb (held_by i keys) 8) (Route.Refused ConsoleRefusal.IdHeld) (at_idle_by keys)

unfoldable pub at_holder_by : List ℕ → ℕ → Route
at_holder_by keys i = or_else (held_by i keys) (or_else (held_by 0 keys) (Route.Refused (ConsoleRefusal.OfStep Refusal.OtherCall)))

abbrev pub aimed_by : Aim → List ℕ → ℕ → Route
aimed_by Aim.Place keys place = at_named place
aimed_by Aim.Outgoing keys place = outgoing_by keys
aimed_by (Aim.Incoming i) keys place = incoming_by keys i
aimed_by (Aim.Held i) keys place = at_holder_by keys i
aimed_by Aim.Every keys place = Route.Everywhere

unfoldable pub route_by : List ℕ → ℕ → Event → Route
route_by keys place e = aimed_by (aim_of e) keys place

-- where the bytes of an event lead: to a place, everywhere, or to none, with an answer's number and the place that 4 has with it
pub data Lead : Type 0 where
  goes_to : ℕ → Event → Lead
  goes_everywhere : Event → Lead
  goes_nowhere : ℕ → ℕ → Lead

abbrev pub as_lead : Result (Target × Event) ConsoleRefusal → Lead
as_lead (Ok (Target.Place k, e)) = goes_to k e
as_lead (Ok (Target.Everywhere, e)) = goes_everywhere e
as_lead (Err a) = goes_nowhere (console_number a) (console_place a)

abbrev pub along : Event → Route → Lead
along e (Route.To k) = goes_to k e
along e Route.Everywhere = goes_everywhere e
along e (Route.Refused a) = goes_nowhere (console_number a) 0

abbrev pub lead_by : List ℕ → ℕ → Read Event → Lead
lead_by keys place (taken e) = along e (route_by keys place e)
lead_by keys place (refused n p) = goes_nowhere n p
