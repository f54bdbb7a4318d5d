-- A run as a set makes it: callcontrol_direct_fresh once, then callcontrol_direct_step again and again over the same 7 bytes. It is the run of
-- the step over the records that the bytes hold, so that what is proved of every run (crate direct) is said of what a set calls.
use Rattle.std.specs.Prelude.{ℕ, ◌≡◌, List, [], ◌∷◌, length, get_or, take, ◌%◌}
use Rattle.direct.specs.Call.{fresh_call}
use Rattle.direct.specs.Runs.{Turn, outcome, run, written_by, log_in, runs_by}
use Rattle.direct.specs.Demands.{Reads}
use Rattle.host_direct.specs.Packing.{packed, flag}
use Rattle.host_direct.specs.Entries.{PLACE, stepped, freshened, host_step}
use Rattle.host_direct.specs.Laws.{ReadsOff}

-- the record's bytes after some turns
unfoldable pub host_run : List ℕ → List Turn → List ℕ
host_run s [] = s
host_run s (t ∷ ts) = host_run (host_step s t.event t.buffer).call ts

-- from the fresh record on, whatever stood in the 7 bytes
abbrev pub after : List ℕ → List Turn → List ℕ
after s ts = host_run (freshened s).1 ts

-- the bytes are those of the run's record
abbrev pub RunIsPacked : Type 0
RunIsPacked = (s : List ℕ) (ts : List Turn) → length s ≡ 7 → after s ts ≡ packed (run fresh_call ts)

-- one more turn gives the result, the bytes and the buffer of the step on the run's record
abbrev pub TurnIsStep : Type 0
TurnIsStep =
    (s : List ℕ) (ts : List Turn) (t : Turn) →
    length s ≡ 7 → host_step (after s ts) t.event t.buffer ≡ stepped (packed (run fresh_call ts)) (outcome (run fresh_call ts) t)

-- answer, place and count of that step are read off the result
abbrev pub TurnReadsOff : Type 0
TurnReadsOff =
    (s : List ℕ) (ts : List Turn) (t : Turn) →
    length s ≡ 7 →
    ReadsOff (host_step (after s ts) t.event t.buffer).result (outcome (run fresh_call ts) t).answer (outcome (run fresh_call ts) t).place
    (outcome (run fresh_call ts) t).count

-- bytes 5 and 6 of the record are what the messages written and the expiries taken say of DT303 and DT311
abbrev pub TimersInBytes : Type 0
TimersInBytes =
    (s : List ℕ) (ts : List Turn) →
    length s ≡ 7 →
    (get_or (after s ts) 5 0 ≡ flag (runs_by (log_in fresh_call ts) 303)) × (get_or (after s ts) 6 0 ≡ flag (runs_by (log_in fresh_call ts) 311))

-- the bytes that its result counts, of the buffer that it leaves, are record after record the messages of the run's turn
abbrev pub TurnReadsBack : Type 0
TurnReadsBack =
    (s : List ℕ) (ts : List Turn) (t : Turn) →
    length s ≡ 7 →
    Reads (take ((host_step (after s ts) t.event t.buffer).result % PLACE) (host_step (after s ts) t.event t.buffer).out)
    (written_by (run fresh_call ts) t)
