-- Any run of the console: the table after it, the turns of the step that each place has in it, and the messages that a host reads for each.
use Rattle.std.specs.Prelude.{ℕ, suc, Bool, true, false, cond, ◌&&◌, List, [], ◌∷◌, ◌++◌, leb, eqb, length, take, drop}
use Rattle.std.proofs.Math.Option.{Option, none, some}
use Rattle.records.specs.declared.events.Event.{Event}
use Rattle.records.specs.declared.messages.Message.{Message}
use Rattle.records.specs.declared.messages.Message.TheVariants.{USetup, UConnect, UDisconnect, URelease, UInfo, UTxDemand, UTxCeased, UCallRestore, Stop, Start, Configure, Cancel, Place, ChannelAnswer, SetupIndication, SetupConfirm, Proceed, Alert, Complete, ReleaseIndication, ReleaseConfirm, TxIndication, ModifyIndication}
use Rattle.records.specs.Tables.{Read, taken, refused, read}
use Rattle.records.specs.Events.{events}
use Rattle.callcontrol.specs.declared.call.Call.{Call}
use Rattle.callcontrol.specs.Writing.{bytes_of}
use Rattle.demands.specs.Runs.{Turn, written_in}
use Rattle.console.specs.Table.{call_at, table_sound}
use Rattle.console.specs.Route.{Route, route_of}
use Rattle.console.specs.Console.{ConsoleOutcome, console_of, behind, takes, writes_from}

-- any place named, any bytes handed in, any buffer lent
pub record ConsoleTurn : Type 0 where
  pub place : ℕ
  pub event : List ℕ
  pub buffer : List ℕ

unfoldable pub console_outcome : List Call → ConsoleTurn → ConsoleOutcome
console_outcome calls t = console_of calls t.place t.event t.buffer

-- the table that a turn gives back
unfoldable pub console_next : List Call → ConsoleTurn → List Call
console_next calls t = (console_outcome calls t).calls

-- the table after some turns
unfoldable pub console_run : List Call → List ConsoleTurn → List Call
console_run calls [] = calls
console_run calls (t ∷ ts) = console_run (console_next calls t) ts

-- the step's turn at a place: the event's bytes, and the buffer behind what the places below it write and the record that names the place
abbrev pub lent_behind : ℕ → ConsoleTurn → Turn
lent_behind at t = record { event = t.event; buffer = drop 5 (drop at t.buffer) }

-- whether what an event writes everywhere fits
abbrev pub all_fits : List Call → Event → List ℕ → Bool
all_fits calls e buffer = leb (length (bytes_of (writes_from 0 calls e))) (length buffer)

-- the step's turns at place k that an event brings: one where it goes to k, and else none. An event for every place goes to each that takes it,
-- and to none where there is no room for all
abbrev pub goes : ℕ → Route → List Call → Event → ConsoleTurn → List Turn
goes k (Route.To j) calls e t = cond (eqb j k) (lent_behind 0 t ∷ []) []
goes k Route.Everywhere calls e t =
    cond (all_fits calls e t.buffer && takes e (call_at calls k)) (lent_behind (length (bytes_of (writes_from 0 (take k calls) e))) t ∷ []) []
goes k (Route.Refused a) calls e t = []

abbrev pub goes_read : ℕ → Read Event → List Call → ConsoleTurn → List Turn
goes_read k (taken e) calls t = goes k (route_of calls t.place e) calls e t
goes_read k (refused n p) calls t = []

-- the step's turns at place k in a turn of the console
unfoldable pub went_to : ℕ → List Call → ConsoleTurn → List Turn
went_to k calls t = cond (table_sound calls) (goes_read k (read events t.event) calls t) []

-- and in a run of it
unfoldable pub went_in : ℕ → List Call → List ConsoleTurn → List Turn
went_in k calls [] = []
went_in k calls (t ∷ ts) = went_to k calls t ++ went_in k (console_next calls t) ts

-- what the places of a list write in their turns, places rising, each behind its record 0605
abbrev pub framed_from : ℕ → List Call → (ℕ → List Turn) → List Message
framed_from k [] turns = []
framed_from k (c ∷ cs) turns = behind k (written_in c (turns k)) ++ framed_from (suc k) cs turns

unfoldable pub framed : List Call → ConsoleTurn → List Message
framed calls t = framed_from 0 calls (λ k. went_to k calls t)

-- the place that a message names: the record 0605 has one, and no other kind
unfoldable pub named_by : Message → Option ℕ
named_by (USetup a d q s) = none
named_by (UConnect i) = none
named_by (UDisconnect i c) = none
named_by (URelease i) = none
named_by (UInfo i d) = none
named_by (UTxDemand i) = none
named_by (UTxCeased i) = none
named_by (UCallRestore i a q) = none
named_by (Stop n) = none
named_by (Start n o) = none
named_by (Configure plane) = none
named_by Cancel = none
named_by (Place at) = some at
named_by (ChannelAnswer n v) = none
named_by (SetupIndication i a d) = none
named_by (SetupConfirm i g) = none
named_by Proceed = none
named_by Alert = none
named_by (Complete g) = none
named_by (ReleaseIndication c) = none
named_by ReleaseConfirm = none
named_by (TxIndication x) = none
named_by (ModifyIndication d s) = none

-- whether what follows a message is for place k: as before, unless it names a place
abbrev pub mine_after : ℕ → Bool → Option ℕ → Bool
mine_after k mine none = mine
mine_after k mine (some j) = eqb j k

abbrev pub is_none : Option ℕ → Bool
is_none none = true
is_none (some j) = false

-- of some messages those for place k: behind a record 0605 with k, up to the next such record; and those in front of the first, if they are its own
unfoldable pub own_from : ℕ → Bool → List Message → List Message
own_from k mine [] = []
own_from k mine (m ∷ ms) = cond (mine && is_none (named_by m)) (m ∷ []) [] ++ own_from k (mine_after k mine (named_by m)) ms

-- what a run writes for place k, as a host reads it: each turn anew, from no place
unfoldable pub heard_in : ℕ → List Call → List ConsoleTurn → List Message
heard_in k calls [] = []
heard_in k calls (t ∷ ts) = own_from k false (framed calls t) ++ heard_in k (console_next calls t) ts
