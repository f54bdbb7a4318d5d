-- A run as the smallest set makes it: callcontrol_fresh once, then callcontrol_step again and again over the same 22 bytes, both of this archive. It
-- is host's run byte for byte, and so the run of the step over the records that the bytes hold: what is proved of every run (crate demands) is said
-- of what the smallest set calls.
use Rattle.std.specs.Prelude.{ℕ, ◌%◌, ◌≡◌, List, [], ◌∷◌, length, get_or, take}
use Rattle.callcontrol.specs.Call.{fresh_call}
use Rattle.demands.specs.Runs.{Turn, outcome, run, taken_in, written_by}
use Rattle.demands.specs.History.{plane_by_history}
use Rattle.demands.specs.Demands.{Reads}
use Rattle.host.specs.Packing.{packed}
use Rattle.host.specs.Entries.{PLACE, Left, stepped, freshened, host_step}
use Rattle.host.specs.Runs.{after}

-- an archive's two entries: what each leaves, the result with every byte of the slices that it may write
pub record Archive : Type 0 where
  pub fresh : List ℕ → ℕ × List ℕ
  pub step : List ℕ → List ℕ → List ℕ → Left

-- their promises, word for word those of host's
pub record Promised (x : Archive) : Type 0 where
  pub fresh : (s : List ℕ) → x.fresh s ≡ freshened s
  pub step : (s event out : List ℕ) → x.step s event out ≡ host_step s event out

-- the record's bytes after some turns, and from the fresh record on, whatever stood in them
unfoldable pub archive_run : Archive → List ℕ → List Turn → List ℕ
archive_run x s [] = s
archive_run x s (t ∷ ts) = archive_run x (x.step s t.event t.buffer).call ts

abbrev pub archive_after : Archive → List ℕ → List Turn → List ℕ
archive_after x s ts = archive_run x (x.fresh s).1 ts

-- two archives that keep the promises give the same result and the same bytes for every record, event and buffer
abbrev pub SameArchive : Type 0
SameArchive =
    (x y : Archive) → Promised x → Promised y →
    ((s : List ℕ) → x.fresh s ≡ y.fresh s) × ((s event out : List ℕ) → x.step s event out ≡ y.step s event out)

-- the bytes after some turns are those of host's run
abbrev pub RunIsHosts : Type 0
RunIsHosts = (x : Archive) → Promised x → (s : List ℕ) (ts : List Turn) → archive_after x s ts ≡ after s ts

-- what an archive's entries may leave: fresh of the record's bytes, and a step of them in a turn
pub record Leaves : Type 1 where
  pub fresh : List ℕ → ℕ × List ℕ → Type 0
  pub step : List ℕ → Turn → Left → Type 0

-- they leave nothing but what the promises allow
pub record Keeps (x : Leaves) : Type 0 where
  pub fresh : (s : List ℕ) (w : ℕ × List ℕ) → x.fresh s w → w ≡ freshened s
  pub step : (s : List ℕ) (t : Turn) (l : Left) → x.step s t l → l ≡ host_step s t.event t.buffer

-- some turns over the bytes, in each anything that may be left, and the bytes that the last of them left
pub data RunBy (x : Leaves) : List ℕ → List Turn → List ℕ → Type 0 where
  none : {s : List ℕ} → RunBy x s [] s
  turn : {s last : List ℕ} {t : Turn} {ts : List Turn} {l : Left} → x.step s t l → RunBy x l.call ts last → RunBy x s (t ∷ ts) last

-- whatever the entries of either archive leave, call after call from the fresh record on, the run of the second is the run of the first, and both are
-- host's: after any turns the same bytes, and in any turn after them the same result and the same lent bytes
abbrev pub OneRun : Type 1
OneRun =
    (first second : Leaves) → Keeps first → Keeps second → (s one other : List ℕ) (w₁ w₂ : ℕ × List ℕ) (ts : List Turn) →
    first.fresh s w₁ → second.fresh s w₂ → RunBy first w₁.1 ts one → RunBy second w₂.1 ts other →
    (one ≡ after s ts) × (other ≡ after s ts) × ((t : Turn) (l₁ l₂ : Left) → first.step one t l₁ → second.step other t l₂ → l₁ ≡ l₂)

-- they are those of the record of the step's run
abbrev pub RunIsPacked : Type 0
RunIsPacked = (x : Archive) → Promised x → (s : List ℕ) (ts : List Turn) → length s ≡ 22 → archive_after x s ts ≡ packed (run fresh_call ts)

-- one more turn gives the result, the bytes and the buffer of the step on the run's record
abbrev pub TurnIsStep : Type 0
TurnIsStep =
    (x : Archive) → Promised x → (s : List ℕ) (ts : List Turn) (t : Turn) →
    length s ≡ 22 → x.step (archive_after x s ts) t.event t.buffer ≡ stepped (packed (run fresh_call ts)) (outcome (run fresh_call ts) t)

-- the bytes that its result counts, of the buffer that it leaves, are record after record the messages of the run's turn
abbrev pub TurnReadsBack : Type 0
TurnReadsBack =
    (x : Archive) → Promised x → (s : List ℕ) (ts : List Turn) (t : Turn) →
    length s ≡ 22 →
    Reads
    (take ((x.step (archive_after x s ts) t.event t.buffer).result % PLACE) (x.step (archive_after x s ts) t.event t.buffer).out)
    (written_by (run fresh_call ts) t)

-- the plane in the record, its byte 11, is what the history rule reads from the taken events alone
abbrev pub PlaneByHistory : Type 0
PlaneByHistory =
    (x : Archive) → Promised x → (s : List ℕ) (ts : List Turn) → length s ≡ 22 → get_or (archive_after x s ts) 11 0 ≡ plane_by_history (taken_in fresh_call ts)
