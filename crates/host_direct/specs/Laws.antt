-- What holds of the packed record, with its proofs in proofs/Packing, and what a host reads off each result, with its proofs in proofs/ReadOff. That the entries'
-- promises leave no choice is said of their own contracts, in proofs/Determined.
use Rattle.std.specs.Prelude.{ℕ, ◌≡◌, true, cond, List, eqb, length}
use Rattle.std.proofs.Math.Option.{Option, none, some}
use Rattle.records.specs.Bodies.{Wrote, wrote, not_written}
use Rattle.records.specs.Tables.{Table, Read, taken, refused, read, write}
use Rattle.direct.specs.declared.call.Call.{Call}
use Rattle.direct.specs.Step.{step_of}
use Rattle.host_direct.specs.Packing.{packed, is_record, held, unpacked}
use Rattle.host_direct.specs.Entries.{answer_of, place_of, count_of, freshened, host_step, checked, copied}

-- what is packed is unpacked as the same record
abbrev pub PackedIsUnpacked : Type 0
PackedIsUnpacked = (c : Call) → unpacked (packed c) ≡ some c

-- what is unpacked is packed as the same bytes
abbrev pub HeldIsPacked : Type 0
HeldIsPacked = (s : List ℕ) → is_record s ≡ true → packed (held s) ≡ s

-- answer, place and count as a host reads them off a result
pub record ReadsOff (result answer place count : ℕ) : Type 0 where
  pub answers : answer_of result ≡ answer
  pub places : place_of result ≡ place
  pub counts : count_of result ≡ count

-- so of each entry, whatever is handed in: of the fresh record,
abbrev pub FreshReadsOff : Type 0
FreshReadsOff = (s : List ℕ) → ReadsOff (freshened s).0 (cond (eqb (length s) 7) 0 1) 0 (cond (eqb (length s) 7) 7 0)

-- of a step: 1 for bytes that are no record, and else what the step on the record gives,
abbrev pub SteppedOff : Option Call → List ℕ → List ℕ → ℕ → Type 0
SteppedOff none event out result = ReadsOff result 1 0 0
SteppedOff (some c) event out result = ReadsOff result (step_of c event out).answer (step_of c event out).place (step_of c event out).count

abbrev pub StepReadsOff : Type 0
StepReadsOff = (s event out : List ℕ) → SteppedOff (unpacked s) event out (host_step s event out).result

-- of a record that is checked: the reader's answer and place,
abbrev pub CheckedOff : {A : Type 0} → Read A → ℕ → Type 0
CheckedOff (taken v) result = ReadsOff result 0 0 0
CheckedOff (refused n place) result = ReadsOff result n place 0

abbrev pub CheckReadsOff : Table → Type 0
CheckReadsOff t = (s : List ℕ) → CheckedOff (read t s) (checked t s)

-- and of one that is copied: the reader's refusal, and else what the writer answers
abbrev pub WrittenOff : Wrote → ℕ → Type 0
WrittenOff (wrote n) result = ReadsOff result 0 0 n
WrittenOff (not_written n) result = ReadsOff result n 0 0

abbrev pub CopiedOff : (t : Table) → Read t.Value → List ℕ → ℕ → Type 0
CopiedOff t (taken v) out result = WrittenOff (write t v out).0 result
CopiedOff t (refused n place) out result = ReadsOff result n place 0

abbrev pub CopyReadsOff : Table → Type 0
CopyReadsOff t = (s out : List ℕ) → CopiedOff t (read t s) out (copied t s out).0
