-- Where each answer applies, each told without a look at those before it. Document 02, request 8: "first 1 .. record answers 2, 3 and 4; then 40 ..; 41
-- ..; 42 ..; 43 ..; 5, no place fits; then the step's own". From 40 on they speak of an event, so of bytes that are one; and 6, 8 and 7 of where it goes,
-- so that they do not apply to an event that is refused by then.
use Rattle.std.specs.Prelude.{ℕ, ◌≡◌, Bool, false, cond, not, ◌&&◌, List, [], ◌∷◌, leb, eqb, length}
use Rattle.records.specs.declared.events.Event.{Event}
use Rattle.records.specs.Tables.{read}
use Rattle.records.specs.Events.{events}
use Rattle.callcontrol.specs.declared.call.Call.{Call}
use Rattle.callcontrol.specs.Call.{is_idle}
use Rattle.callcontrol.specs.Writing.{bytes_of}
use Rattle.callcontrol.specs.Step.{over_transmission}
use Rattle.demands.specs.Demands.{wrong_length, no_kind, retired_kind, bad_body, of_event, first}
use Rattle.console.specs.declared.route.Aim.{Aim}
use Rattle.console.specs.Table.{call_at, holds, some?, table_sound}
use Rattle.console.specs.Route.{Route, aim_of, route_of}
use Rattle.console.specs.Console.{takes, writes, writes_from}
use Rattle.console.specs.Runs.{ConsoleTurn, console_outcome}

-- 40: an event that names a place, and a place over 7
abbrev pub place_over : Aim → ℕ → Bool
place_over Aim.Place place = leb 8 place
place_over Aim.Outgoing place = false
place_over (Aim.Incoming i) place = false
place_over (Aim.Held i) place = false
place_over Aim.Every place = false

-- 41: D-SETUP with an identifier already held
abbrev pub id_held : Aim → List Call → Bool
id_held Aim.Place calls = false
id_held Aim.Outgoing calls = false
id_held (Aim.Incoming i) calls = some? (holds i) calls
id_held (Aim.Held i) calls = false
id_held Aim.Every calls = false

-- 42: SETUP request while a place outside IDLE has no identifier
abbrev pub id_awaited : Aim → List Call → Bool
id_awaited Aim.Place calls = false
id_awaited Aim.Outgoing calls = some? (holds 0) calls
id_awaited (Aim.Incoming i) calls = false
id_awaited (Aim.Held i) calls = false
id_awaited Aim.Every calls = false

-- 43: a call would begin, and no place is in IDLE
abbrev pub no_idle_place : Aim → List Call → Bool
no_idle_place Aim.Place calls = false
no_idle_place Aim.Outgoing calls = not (some? is_idle calls)
no_idle_place (Aim.Incoming i) calls = not (some? is_idle calls)
no_idle_place (Aim.Held i) calls = false
no_idle_place Aim.Every calls = false

-- 5: no place outside IDLE holds the identifier, and none has no identifier
abbrev pub none_fits : Aim → List Call → Bool
none_fits Aim.Place calls = false
none_fits Aim.Outgoing calls = false
none_fits (Aim.Incoming i) calls = false
none_fits (Aim.Held i) calls = not (some? (holds i) calls) && not (some? (holds 0) calls)
none_fits Aim.Every calls = false

-- 6: no row where it goes, or at any place for BREAK and RESUME
abbrev pub no_row_there : Route → List Call → Event → Bool
no_row_there (Route.To k) calls e = not (takes e (call_at calls k))
no_row_there Route.Everywhere calls e = not (some? (takes e) calls)
no_row_there (Route.Refused a) calls e = false

-- 8: D-INFO at a place that transmits
abbrev pub transmits_there : Route → List Call → Event → Bool
transmits_there (Route.To k) calls e = over_transmission (call_at calls k) e
transmits_there Route.Everywhere calls e = false
transmits_there (Route.Refused a) calls e = false

-- 7: all that it would write, each place's messages behind their record 0605, is longer than the lent buffer
abbrev pub too_long : Route → List Call → Event → List ℕ → Bool
too_long (Route.To k) calls e buffer = not (leb (length (bytes_of (writes k (call_at calls k) e))) (length buffer))
too_long Route.Everywhere calls e buffer = not (leb (length (bytes_of (writes_from 0 calls e))) (length buffer))
too_long (Route.Refused a) calls e buffer = false

unfoldable pub console_applies : ℕ → List Call → ConsoleTurn → Bool
console_applies n calls t =
    cond (eqb n 1) (not (table_sound calls))
    (cond (eqb n 2) (wrong_length t.event)
    (cond (eqb n 3) (no_kind t.event)
    (cond (eqb n 4) (bad_body t.event)
    (cond (eqb n 40) (of_event (λ e. place_over (aim_of e) t.place) (read events t.event))
    (cond (eqb n 41) (of_event (λ e. id_held (aim_of e) calls) (read events t.event))
    (cond (eqb n 42) (of_event (λ e. id_awaited (aim_of e) calls) (read events t.event))
    (cond (eqb n 43) (of_event (λ e. no_idle_place (aim_of e) calls) (read events t.event))
    (cond (eqb n 5) (of_event (λ e. none_fits (aim_of e) calls) (read events t.event))
    (cond (eqb n 6) (of_event (λ e. no_row_there (route_of calls t.place e) calls e) (read events t.event))
    (cond (eqb n 7) (of_event (λ e. too_long (route_of calls t.place e) calls e t.buffer) (read events t.event))
    (cond (eqb n 8) (of_event (λ e. transmits_there (route_of calls t.place e) calls e) (read events t.event))
    (cond (eqb n 9) (retired_kind t.event) false))))))))))))

-- every table, every place, every byte string and every buffer gets the first number that applies, and 0 where none does
abbrev pub Answered : Type 0
Answered =
    (calls : List Call) (t : ConsoleTurn) →
    (console_outcome calls t).answer ≡ first (λ n. console_applies n calls t) (1 ∷ 2 ∷ 3 ∷ 9 ∷ 4 ∷ 40 ∷ 41 ∷ 42 ∷ 43 ∷ 5 ∷ 6 ∷ 8 ∷ 7 ∷ [])
