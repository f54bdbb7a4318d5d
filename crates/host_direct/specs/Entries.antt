-- What each exported function returns, and what it leaves in the lent slices. A result is
-- answer * 2^24 + place * 2^16 + count of bytes written; only 4 has a place, which is the reader's.
use Rattle.std.specs.Prelude.{ℕ, ◌+◌, ◌*◌, ◌/◌, ◌%◌, cond, List, eqb, length}
use Rattle.std.proofs.Math.Option.{Option, none, some}
use Rattle.std.proofs.lemmas.List.Edits.{sets}
use Rattle.records.specs.Bodies.{Wrote, wrote, not_written}
use Rattle.records.specs.Tables.{Table, Read, taken, refused, read, write}
use Rattle.direct.specs.declared.call.Call.{Call}
use Rattle.direct.specs.Call.{fresh_call}
use Rattle.direct.specs.Step.{Outcome, step_of}
use Rattle.host_direct.specs.Packing.{packed, unpacked}

abbrev pub ANSWER : ℕ
ANSWER = 16777216

abbrev pub PLACE : ℕ
PLACE = 65536

abbrev pub word : ℕ → ℕ → ℕ → ℕ
word answer place count = answer * ANSWER + place * PLACE + count

-- what a host reads off a result
abbrev pub answer_of : ℕ → ℕ
answer_of result = result / ANSWER

abbrev pub place_of : ℕ → ℕ
place_of result = result / PLACE % 256

abbrev pub count_of : ℕ → ℕ
count_of result = result % PLACE

-- the fresh record into 7 bytes; 1 for another length
unfoldable pub freshened : List ℕ → ℕ × List ℕ
freshened s = cond (eqb (length s) 7) (word 0 0 7, sets s 0 (packed fresh_call)) (word 1 0 0, s)

-- what a step leaves: the result, the record's bytes and the lent buffer
pub record Left : Type 0 where
  pub result : ℕ
  pub call : List ℕ
  pub out : List ℕ

-- bytes that are no record are answer 1; a refused step leaves record and buffer byte for byte
abbrev pub stepped : List ℕ → Outcome → Left
stepped s o =
    record
    { result = word o.answer o.place o.count; call = cond (eqb o.answer 0) (sets s 0 (packed o.call)) s; out = o.buffer }

abbrev pub step_on : List ℕ → Option Call → List ℕ → List ℕ → Left
step_on s none event out = record { result = word 1 0 0; call = s; out = out }
step_on s (some c) event out = stepped s (step_of c event out)

unfoldable pub host_step : List ℕ → List ℕ → List ℕ → Left
host_step s event out = step_on s (unpacked s) event out

abbrev pub read_word : {A : Type 0} → Read A → ℕ
read_word (taken v) = word 0 0 0
read_word (refused n place) = word n place 0

-- the answer of a reader, with its place
unfoldable pub checked : Table → List ℕ → ℕ
checked t s = read_word (read t s)

abbrev pub wrote_word : Wrote → ℕ
wrote_word (wrote n) = word 0 0 n
wrote_word (not_written n) = word n 0 0

-- what was read is written by a table's writer
abbrev pub copied_by : {A : Type 0} → (A → List ℕ → Wrote × List ℕ) → Read A → List ℕ → ℕ × List ℕ
copied_by writer (taken v) out = (wrote_word (writer v out).0, (writer v out).1)
copied_by writer (refused n place) out = (word n place 0, out)

abbrev pub write_read : (t : Table) → Read t.Value → List ℕ → ℕ × List ℕ
write_read t r out = copied_by (write t) r out

-- a record read, then written back
unfoldable pub copied : Table → List ℕ → List ℕ → ℕ × List ℕ
copied t s out = write_read t (read t s) out
