-- The console's step: the answers in their order, and what each gives back.
use Rattle.std.specs.Prelude.{Result, Ok, Err, ℕ, suc, ◌+◌, ◌≤◌, ◌<◌, ◌≡◌, Bool, true, false, cond, not, List, [], ◌∷◌, ◌++◌, leb, eqb, length, drop, set}
use Rattle.std.proofs.lemmas.List.Edits.{sets}
use Rattle.records.specs.declared.events.Event.{Event}
use Rattle.records.specs.declared.messages.Message.{Message}
use Rattle.records.specs.Tables.{Read, taken, refused, read}
use Rattle.records.specs.Events.{events}
use Rattle.callcontrol.specs.declared.call.Call.{Call}
use Rattle.callcontrol.specs.Rows.{row_for}
use Rattle.callcontrol.specs.Writing.{messages_in, bytes_of}
use Rattle.callcontrol.specs.Step.{Outcome, refusal, decided}
use Rattle.console.specs.declared.console.ConsoleStepped.{ConsoleStepped}
use Rattle.console.specs.declared.console.AllStepped.{AllStepped}
use Rattle.console.specs.declared.console.SoFar.{SoFar}
use Rattle.console.specs.declared.route.ConsoleRefusal.{ConsoleRefusal}
use Rattle.console.specs.Table.{call_at, some?, table_sound}
use Rattle.console.specs.Route.{Route, console_number, console_place, route_of}

-- what comes back: the answer's number, the place that 4 has with it and 0 else, the eight records, the count of bytes written, and the lent
-- buffer then
pub record ConsoleOutcome : Type 0 where
  pub answer : ℕ
  pub place : ℕ
  pub calls : List Call
  pub count : ℕ
  pub buffer : List ℕ

-- a refusal counts 0 bytes, changes no byte and returns the records as given
abbrev pub refuses_at : ℕ → ℕ → List Call → List ℕ → ConsoleOutcome
refuses_at n place calls buffer = record { answer = n; place = place; calls = calls; count = 0; buffer = buffer }

-- one that has no place
abbrev pub refuses : ℕ → List Call → List ℕ → ConsoleOutcome
refuses n calls buffer = refuses_at n 0 calls buffer

-- a place's messages follow a record 0605 with the place; a place that writes nothing has none
abbrev pub behind : ℕ → List Message → List Message
behind k [] = []
behind k (m ∷ ms) = Message.Place k ∷ m ∷ ms

-- what an event writes at a place
abbrev pub writes : ℕ → Call → Event → List Message
writes k c e = behind k (messages_in (row_for c e))

-- an event at one place: the step's own refusals, where the step is lent what is left behind the five bytes of the record 0605
unfoldable pub placed : ℕ → Call → Event → List ℕ → Outcome
placed k c e buffer =
    cond (eqb (decided c e (drop 5 buffer)).answer 0)
    (record { answer = 0; place = 0; call = (row_for c e).call; count = length (bytes_of (writes k c e)); buffer = sets buffer 0 (bytes_of (writes k c e)) })
    (refusal (decided c e (drop 5 buffer)).answer c buffer)

-- it leaves every other record unchanged
unfoldable pub at_place : ℕ → List Call → Event → List ℕ → ConsoleOutcome
at_place k calls e buffer =
    record {
      answer = (placed k (call_at calls k) e buffer).answer;
      place = (placed k (call_at calls k) e buffer).place;
      calls = set calls k (placed k (call_at calls k) e buffer).call;
      count = (placed k (call_at calls k) e buffer).count;
      buffer = (placed k (call_at calls k) e buffer).buffer;
    }

-- whether a place would take an event
abbrev pub takes : Event → Call → Bool
takes e c = (row_for c e).taken

-- what a place has of what an event writes: nothing where it does not take it
abbrev pub part : ℕ → Call → Event → List Message
part k c e = cond (takes e c) (writes k c e) []

-- what an event writes at every place that takes it, places rising
abbrev pub writes_from : ℕ → List Call → Event → List Message
writes_from k [] e = []
writes_from k (c ∷ cs) e = cond (takes e c) (writes k c e) [] ++ writes_from (suc k) cs e

-- the records then
abbrev pub next_of : Event → Call → Call
next_of e c = cond (takes e c) (row_for c e).call c

abbrev pub all_next : List Call → Event → List Call
all_next [] e = []
all_next (c ∷ cs) e = next_of e c ∷ all_next cs e

-- an event at every place that would take it: 6 with no such place; all of them take it or, for lack of room, none
unfoldable pub everywhere : List Call → Event → List ℕ → ConsoleOutcome
everywhere calls e buffer =
    cond (some? (takes e) calls)
    (cond (leb (length (bytes_of (writes_from 0 calls e))) (length buffer))
    (record { answer = 0; place = 0; calls = all_next calls e; count = length (bytes_of (writes_from 0 calls e)); buffer = sets buffer 0 (bytes_of (writes_from 0 calls e)) })
    (refuses 7 calls buffer))
    (refuses 6 calls buffer)

abbrev pub routed : Route → List Call → Event → List ℕ → ConsoleOutcome
routed (Route.To k) calls e buffer = at_place k calls e buffer
routed Route.Everywhere calls e buffer = everywhere calls e buffer
routed (Route.Refused a) calls e buffer = refuses (console_number a) calls buffer

abbrev pub when_read : Read Event → List Call → ℕ → List ℕ → ConsoleOutcome
when_read (taken e) calls place buffer = routed (route_of calls place e) calls e buffer
when_read (refused n at) calls place buffer = refuses_at n at calls buffer

-- 1 first, then the record's answers, then those of where it goes, then the step's own
unfoldable pub console_of : List Call → ℕ → List ℕ → List ℕ → ConsoleOutcome
console_of calls place bytes buffer = cond (table_sound calls) (when_read (read events bytes) calls place buffer) (refuses 1 calls buffer)

-- the code's result, for the records that were handed in: a refusal counts 0 bytes and leaves those records
abbrev pub as_console : List Call → Result ConsoleStepped ConsoleRefusal → List ℕ → ConsoleOutcome
as_console calls (Ok r) buffer = record { answer = 0; place = 0; calls = r.calls; count = r.count; buffer = buffer }
as_console calls (Err e) buffer = refuses_at (console_number e) (console_place e) calls buffer

-- the same of an event for every place
abbrev pub as_everywhere : List Call → Result AllStepped ConsoleRefusal → List ℕ → ConsoleOutcome
as_everywhere calls (Ok r) buffer = record { answer = 0; place = 0; calls = r.calls; count = r.count; buffer = buffer }
as_everywhere calls (Err e) buffer = refuses_at (console_number e) (console_place e) calls buffer

-- how the code counts and lays

-- how many bytes a place's messages take with the record in front of them
abbrev pub headed : ℕ → ℕ
headed n = cond (eqb n 0) 0 (5 + n)

-- one place more: what it writes is laid behind what those in front of it write, and it is the last that takes the event, or they have that
pub record OneMore (upto size : ℕ) (now : List ℕ) (k : ℕ) (c : Call) (e : Event) (passed : SoFar) (own : List ℕ) : Type 0 where
  pub last : upto ≡ cond (takes e c) (k + 1) passed.upto
  pub behind : size ≡ passed.size + length (bytes_of (part k c e))
  pub bytes : now ≡ sets own passed.size (bytes_of (part k c e))

-- a count of places that ends with one that takes the event, where behind it none does
pub record UpTo (upto : ℕ) (calls : List Call) (e : Event) : Type 0 where
  pub within : upto ≤ 8
  pub tight : (j : ℕ) → upto ≡ suc j → takes e (call_at calls j) ≡ true
  pub behind : (j : ℕ) → upto ≤ j → j < 8 → takes e (call_at calls j) ≡ false

-- what all places write is laid in the buffer from its front; `upto` ends with the last place that takes the event
pub record LaidAll (r : SoFar) (after : List Call) (now : List ℕ) (calls : List Call) (e : Event) (buffer : List ℕ) : Type 0 where
  pub taken : not (eqb r.upto 0) ≡ some? (takes e) calls
  pub last : UpTo r.upto calls e
  pub size : r.size ≡ length (bytes_of (writes_from 0 calls e))
  pub records : after ≡ all_next calls e
  pub bytes : now ≡ sets buffer 0 (bytes_of (writes_from 0 calls e))
