-- What the functions below the entries promise: the reading, the STARTs read back from the bytes that were written, and an event that was read.
use Rattle.std.specs.Prelude.{ℕ, ◌≡◌, Bool, true, cond, List, eqb, Option, Some, None, Result, Ok, Err}
use Rattle.records.specs.declared.events.Event.{Event}
use Rattle.records.specs.declared.messages.Message.{Message}
use Rattle.records.specs.Tables.{taken, read, flat, fine}
use Rattle.records.specs.Events.{events}
use Rattle.records.specs.Messages.{messages}
use Rattle.timers.specs.declared.bank.Bank.{Bank}
use Rattle.timers.specs.Wrap.{forward, is_back}
use Rattle.timers.specs.Bank.{advanced_to}
use Rattle.callcontrol.specs.declared.call.Call.{Call}
use Rattle.callcontrol.specs.Rows.{row_for}
use Rattle.callcontrol.specs.Writing.{messages_in, bytes_of}
use Rattle.callcontrol.specs.Step.{decided}
use Rattle.demands.specs.Runs.{every?}
use Rattle.timed.specs.declared.set.Timed.{Timed}
use Rattle.timed.specs.declared.set.Refusal.{Refusal}
use Rattle.timed.specs.declared.set.Ready.{Ready}
use Rattle.timed.specs.Set.{is_set, table_right, due_at, first_due, started_by, started_all, with_flags}
use Rattle.timed.specs.Entries.{Outcome, refusal_at}

-- a record and a bank on which the record's timers run
abbrev pub joined : Call → Bank → Timed
joined c b = record { call = c; bank = with_flags c.timers b }

-- the first of the timers that are due at a reading
unfoldable pub first_at : Timed → ℕ → Option ℕ
first_at t reading = cond (eqb (due_at t reading) 0) None (Some (first_due t reading))

-- 1, 31 and 32; else the first timer that is due, and the set whose bank has accepted the reading
unfoldable pub ready_at : Timed → List ℕ → ℕ → Result Ready Refusal
ready_at t lengths reading =
    cond (is_set t)
    (cond (table_right lengths)
    (cond (is_back (forward t.bank.last reading)) (Err Refusal.ReadingEarlier)
    (Ok (record { first = first_at t reading; timed = record { call = t.call; bank = advanced_to t.bank reading } })))
    (Err Refusal.LengthOutOfRange))
    (Err Refusal.NoSet)

-- some bytes are those of such messages, one after the other
abbrev pub Messages : List ℕ → List Message → Type 0
Messages bytes ms = (every? (λ m. fine messages m) ms ≡ true) × (bytes ≡ bytes_of ms)

abbrev pub AllMessages : List ℕ → Type 0
AllMessages bytes = (ms : List Message) × Messages bytes ms

-- a bank after the START that some bytes are, and after all STARTs in them
abbrev pub FirstDone : List ℕ → Bank → List ℕ → Bank → Type 0
FirstDone lengths b bytes r = (m : Message) → read messages bytes ≡ taken m → r ≡ started_by lengths b m

abbrev pub AllDone : List ℕ → Bank → List ℕ → Bank → Type 0
AllDone lengths b bytes r = (ms : List Message) → Messages bytes ms → r ≡ started_all lengths b ms

-- an event that some bytes are
abbrev pub Readable : Event → Type 0
Readable e = (bytes : List ℕ) × (read events bytes ≡ taken e)

abbrev pub an_expiry : Event → Bool
an_expiry e = eqb (flat events e).kind 0x0401

-- an event that was read, on a record and on a bank that has accepted the reading
unfoldable pub of_event : ℕ → Timed → Bank → List ℕ → Event → List ℕ → Outcome
of_event place t b lengths e buffer =
    cond (eqb (decided t.call e buffer).answer 0)
    (record {
      answer = 0;
      place = place;
      timed = record {
        call = (decided t.call e buffer).call;
        bank = with_flags (decided t.call e buffer).call.timers (started_all lengths b (messages_in (row_for t.call e)));
      };
      count = (decided t.call e buffer).count;
      buffer = (decided t.call e buffer).buffer;
    })
    (refusal_at (decided t.call e buffer).answer (decided t.call e buffer).place t buffer)
