-- A run as a set makes it: callcontrol_fresh once, then callcontrol_step again and again over the same 22 bytes. It is the run of the step
-- over the records that the bytes hold, so that what is proved of every run (crate demands) is said of what a set calls.
use Rattle.std.specs.Prelude.{ℕ, ◌%◌, ◌≡◌, List, [], ◌∷◌, length, get_or, take}
use Rattle.callcontrol.specs.Call.{fresh_call}
use Rattle.demands.specs.Runs.{Turn, outcome, run, taken_in, written_by}
use Rattle.demands.specs.History.{plane_by_history}
use Rattle.demands.specs.Demands.{Reads}
use Rattle.host.specs.Packing.{packed}
use Rattle.host.specs.Entries.{PLACE, stepped, freshened, host_step}

-- the record's bytes after some turns
unfoldable pub host_run : List ℕ → List Turn → List ℕ
host_run s [] = s
host_run s (t ∷ ts) = host_run (host_step s t.event t.buffer).call ts

-- from the fresh record on, whatever stood in the 22 bytes
abbrev pub after : List ℕ → List Turn → List ℕ
after s ts = host_run (freshened s).1 ts

-- the bytes are those of the run's record
abbrev pub RunIsPacked : Type 0
RunIsPacked = (s : List ℕ) (ts : List Turn) → length s ≡ 22 → after s ts ≡ packed (run fresh_call ts)

-- one more turn gives the result, the bytes and the buffer of the step on the run's record
abbrev pub TurnIsStep : Type 0
TurnIsStep =
    (s : List ℕ) (ts : List Turn) (t : Turn) →
    length s ≡ 22 → host_step (after s ts) t.event t.buffer ≡ stepped (packed (run fresh_call ts)) (outcome (run fresh_call ts) t)

-- the bytes that its result counts, of the buffer that it leaves, are record after record the messages of the run's turn
abbrev pub TurnReadsBack : Type 0
TurnReadsBack =
    (s : List ℕ) (ts : List Turn) (t : Turn) →
    length s ≡ 22 →
    Reads (take ((host_step (after s ts) t.event t.buffer).result % PLACE) (host_step (after s ts) t.event t.buffer).out)
    (written_by (run fresh_call ts) t)

-- the plane in the record, its byte 11, is what the history rule reads from the taken events alone
abbrev pub PlaneByHistory : Type 0
PlaneByHistory = (s : List ℕ) (ts : List Turn) → length s ≡ 22 → get_or (after s ts) 11 0 ≡ plane_by_history (taken_in fresh_call ts)
