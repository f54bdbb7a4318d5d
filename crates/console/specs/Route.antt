-- Where an event goes. Document 02, request 8.
use Rattle.std.specs.Prelude.{ℕ, cond, List, ltb, Result, Ok, Err}
use Rattle.records.specs.declared.events.Event.{Event}
use Rattle.records.specs.declared.events.Event.TheVariants.{SetupRequest, SetupResponse, ReleaseRequest, TxRequest, DCallProceeding, DAlert, DConnect, DConnectAcknowledge, DSetup, DInfo, DTxGranted, DTxCeased, DTxInterrupt, DTxWait, DTxContinue, DCallRestore, DDisconnect, DRelease, ReportSent, ReportFailed, Break, Resume, Expiry}
use Rattle.callcontrol.specs.declared.call.Call.{Call}
use Rattle.callcontrol.specs.declared.step.Refusal.{Refusal}
use Rattle.callcontrol.specs.Call.{is_idle}
use Rattle.callcontrol.specs.Step.{answer_number, place_in}
use Rattle.console.specs.declared.route.ConsoleRefusal.{ConsoleRefusal}
use Rattle.console.specs.declared.route.Aim.{Aim}
use Rattle.console.specs.declared.route.Target.{Target}
use Rattle.console.specs.Table.{holds, lowest}

-- the paper's number for each case of the code's refusal
abbrev pub console_number : ConsoleRefusal → ℕ
console_number (ConsoleRefusal.OfStep a) = answer_number a
console_number ConsoleRefusal.PlaceOver = 40
console_number ConsoleRefusal.IdHeld = 41
console_number ConsoleRefusal.IdAwaited = 42
console_number ConsoleRefusal.NoIdlePlace = 43

-- and the place that comes with it
abbrev pub console_place : ConsoleRefusal → ℕ
console_place (ConsoleRefusal.OfStep a) = place_in a
console_place ConsoleRefusal.PlaceOver = 0
console_place ConsoleRefusal.IdHeld = 0
console_place ConsoleRefusal.IdAwaited = 0
console_place ConsoleRefusal.NoIdlePlace = 0

-- by what each event finds its place: REPORTs, expiries and user events but SETUP request name a place by a number handed in beside the
-- record; SETUP request and D-SETUP begin a call; a network event other than D-SETUP has its identifier; BREAK and RESUME are for every place
abbrev pub aim_of : Event → Aim
aim_of (SetupRequest a d q s) = Aim.Outgoing
aim_of SetupResponse = Aim.Place
aim_of ReleaseRequest = Aim.Place
aim_of (TxRequest k) = Aim.Place
aim_of (DCallProceeding i) = Aim.Held i
aim_of (DAlert i) = Aim.Held i
aim_of (DConnect i g d o s) = Aim.Held i
aim_of (DConnectAcknowledge i g o) = Aim.Held i
aim_of (DSetup i a d) = Aim.Incoming i
aim_of (DInfo i r o d s) = Aim.Held i
aim_of (DTxGranted i g) = Aim.Held i
aim_of (DTxCeased i) = Aim.Held i
aim_of (DTxInterrupt i g) = Aim.Held i
aim_of (DTxWait i) = Aim.Held i
aim_of (DTxContinue i k) = Aim.Held i
aim_of (DCallRestore i g r o) = Aim.Held i
aim_of (DDisconnect i) = Aim.Held i
aim_of (DRelease i) = Aim.Held i
aim_of ReportSent = Aim.Place
aim_of ReportFailed = Aim.Place
aim_of Break = Aim.Every
aim_of Resume = Aim.Every
aim_of (Expiry n) = Aim.Place

-- where an event goes: to one place, to every place that would take it, or to none
pub data Route : Type 0 where
  To : ℕ → Route
  Everywhere : Route
  Refused : ConsoleRefusal → Route

-- what the code has of it
abbrev pub as_route : Result Target ConsoleRefusal → Route
as_route (Ok (Target.Place k)) = Route.To k
as_route (Ok Target.Everywhere) = Route.Everywhere
as_route (Err a) = Route.Refused a

-- to a place that was found; else what is said of it
abbrev pub or_else : ℕ → Route → Route
or_else k other = cond (ltb k 8) (Route.To k) other

-- 40: place over 7
unfoldable pub at_named : ℕ → Route
at_named place = or_else place (Route.Refused ConsoleRefusal.PlaceOver)

-- the lowest IDLE place; 43: no IDLE place
unfoldable pub at_lowest_idle : List Call → Route
at_lowest_idle calls = or_else (lowest is_idle calls) (Route.Refused ConsoleRefusal.NoIdlePlace)

-- SETUP request; 42: a place outside IDLE has no identifier
unfoldable pub outgoing : List Call → Route
outgoing calls = cond (ltb (lowest (holds 0) calls) 8) (Route.Refused ConsoleRefusal.IdAwaited) (at_lowest_idle calls)

-- D-SETUP; 41: its identifier is already held
unfoldable pub incoming : List Call → ℕ → Route
incoming calls i = cond (ltb (lowest (holds i) calls) 8) (Route.Refused ConsoleRefusal.IdHeld) (at_lowest_idle calls)

-- the place outside IDLE that holds the identifier, else the one outside IDLE that has none; 5: no place fits
unfoldable pub at_holder : List Call → ℕ → Route
at_holder calls i = or_else (lowest (holds i) calls) (or_else (lowest (holds 0) calls) (Route.Refused (ConsoleRefusal.OfStep Refusal.OtherCall)))

abbrev pub aimed : Aim → List Call → ℕ → Route
aimed Aim.Place calls place = at_named place
aimed Aim.Outgoing calls place = outgoing calls
aimed (Aim.Incoming i) calls place = incoming calls i
aimed (Aim.Held i) calls place = at_holder calls i
aimed Aim.Every calls place = Route.Everywhere

unfoldable pub route_of : List Call → ℕ → Event → Route
route_of calls place e = aimed (aim_of e) calls place
