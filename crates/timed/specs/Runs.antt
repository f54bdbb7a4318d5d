-- Any run of a set from new: the set after it, the turns of the step that are made in it, and the timers in true time beside it.
use Rattle.std.specs.Prelude.{ℕ, ◌+◌, ◌/◌, ◌≤◌, ◌<◌, Bool, false, cond, ◌&&◌, ◌||◌, List, [], ◌∷◌, ◌++◌, eqb}
use Rattle.std.proofs.Math.Option.{Option, none, some}
use Rattle.records.specs.declared.events.Event.{Event}
use Rattle.records.specs.declared.events.Event.TheVariants.{SetupRequest, SetupResponse, ReleaseRequest, TxRequest, DCallProceeding, DAlert, DConnect, DConnectAcknowledge, DSetup, DInfo, DTxGranted, DTxCeased, DTxInterrupt, DTxWait, DTxContinue, DCallRestore, DDisconnect, DRelease, ReportSent, ReportFailed, Break, Resume, Expiry}
use Rattle.records.specs.declared.messages.Message.{Message}
use Rattle.records.specs.Tables.{flat}
use Rattle.records.specs.Events.{events}
use Rattle.timers.specs.Wrap.{shown}
use Rattle.demands.specs.Runs as Steps
use Rattle.timed.specs.declared.set.Timed.{Timed}
use Rattle.timed.specs.Set.{new_of, first_due}
use Rattle.timed.specs.Entries.{Outcome, turn_of, expiry_of, step_of, due_of}
use Rattle.timed.specs.Times.{Begun, end, Clocks, no_clock, dropped, noted_all}

-- one call of an entry, with any table, at any true time, of which the counter shows 32 bits: the step with any bytes handed in, or due; any
-- buffer is lent
pub data Turn : Type 0 where
  step : (table : List ℕ) (time : ℕ) (event buffer : List ℕ) → Turn
  due : (table : List ℕ) (time : ℕ) (buffer : List ℕ) → Turn

abbrev pub time_of : Turn → ℕ
time_of (step table time event buffer) = time
time_of (due table time buffer) = time

abbrev pub table_of : Turn → List ℕ
table_of (step table time event buffer) = table
table_of (due table time buffer) = table

abbrev pub lent_to : Turn → List ℕ
lent_to (step table time event buffer) = buffer
lent_to (due table time buffer) = buffer

unfoldable pub outcome : Timed → Turn → Outcome
outcome t (step table time event buffer) = step_of t table (shown time) event buffer
outcome t (due table time buffer) = due_of t table (shown time) buffer

unfoldable pub is_taken : Timed → Turn → Bool
is_taken t d = eqb (outcome t d).answer 0

-- the set that a turn gives back, and the set after some turns
unfoldable pub next : Timed → Turn → Timed
next t d = (outcome t d).timed

unfoldable pub run : Timed → List Turn → Timed
run t [] = t
run t (d ∷ ds) = run (next t d) ds

-- the turn of the step that a turn makes: the event that is taken, or the expiry of the timer that due finds first
unfoldable pub steps_by : Timed → Turn → List Steps.Turn
steps_by t (step table time event buffer) = cond (is_taken t (step table time event buffer)) (turn_of event buffer ∷ []) []
steps_by t (due table time buffer) =
    cond (is_taken t (due table time buffer) && eqb (outcome t (due table time buffer)).place 1)
    (turn_of (expiry_of (first_due t (shown time))) buffer ∷ []) []

-- and those of a run
unfoldable pub steps_in : Timed → List Turn → List Steps.Turn
steps_in t [] = []
steps_in t (d ∷ ds) = steps_by t d ++ steps_in (next t d) ds

-- the events that a turn takes, an expiry made by due among them, and the messages that it writes
abbrev pub taken_by : Timed → Turn → List Event
taken_by t d = Steps.taken_in t.call (steps_by t d)

abbrev pub written_by : Timed → Turn → List Message
written_by t d = Steps.written_in t.call (steps_by t d)

-- an expiry drops its timer
abbrev pub lapse : Clocks → Event → Clocks
lapse u (SetupRequest a d q s) = u
lapse u SetupResponse = u
lapse u ReleaseRequest = u
lapse u (TxRequest k) = u
lapse u (DCallProceeding i) = u
lapse u (DAlert i) = u
lapse u (DConnect i g d o s) = u
lapse u (DConnectAcknowledge i g o) = u
lapse u (DSetup i a d) = u
lapse u (DInfo i r o d s) = u
lapse u (DTxGranted i g) = u
lapse u (DTxCeased i) = u
lapse u (DTxInterrupt i g) = u
lapse u (DTxWait i) = u
lapse u (DTxContinue i k) = u
lapse u (DCallRestore i g r o) = u
lapse u (DDisconnect i) = u
lapse u (DRelease i) = u
lapse u ReportSent = u
lapse u ReportFailed = u
lapse u Break = u
lapse u Resume = u
lapse u (Expiry n) = dropped n u

abbrev pub lapses : Clocks → List Event → Clocks
lapses u [] = u
lapses u (e ∷ es) = lapses (lapse u e) es

-- the network's events are those of kinds 02xx
unfoldable pub is_word : Event → Bool
is_word e = eqb ((flat events e).kind / 256) 2

abbrev pub has_word : List Event → Bool
has_word [] = false
has_word (e ∷ es) = is_word e || has_word es

-- a set with what true time says: when the last reading was accepted, and which timers run
pub record Kept : Type 0 where
  pub timed : Timed
  pub last : ℕ
  pub clocks : Clocks

unfoldable pub made : ℕ → Kept
made time = record { timed = new_of (shown time); last = time; clocks = no_clock }

-- a taken turn's reading is accepted; its expiry comes before what it writes
unfoldable pub then : Kept → Turn → Kept
then k d =
    record {
      timed = next k.timed d;
      last = cond (is_taken k.timed d) (time_of d) k.last;
      clocks = noted_all (table_of d) (time_of d) (lapses k.clocks (taken_by k.timed d)) (written_by k.timed d);
    }

unfoldable pub after : Kept → List Turn → Kept
after k [] = k
after k (d ∷ ds) = after (then k d) ds

-- the premise: every reading is at or after the last accepted one, less than 2^31 ms after it, and less than 2^31 ms after the deadline of each
-- running timer
abbrev pub Near : ℕ → Option Begun → Type 0
Near time none = Unit {0}
Near time (some x) = time < end x + 2147483648

pub record InReach (k : Kept) (d : Turn) : Type 0 where
  pub not_earlier : k.last ≤ time_of d
  pub soon : time_of d < k.last + 2147483648
  pub near : (n : ℕ) → Near (time_of d) (k.clocks n)

abbrev pub AllInReach : Kept → List Turn → Type 0
AllInReach k [] = Unit {0}
AllInReach k (d ∷ ds) = InReach k d × AllInReach (then k d) ds
