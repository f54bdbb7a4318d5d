-- One piece: what `next` answers, where the record is, how many bytes of the piece were used, and every byte of the carry then.
use Rattle.std.specs.Prelude.{ℕ, ◌+◌, ◌-◌, Option, None, Some, Result, Ok, Err, true, false, cond, ◌||◌, List, [], ◌++◌, eqb, ltb, length, take}
use Rattle.std.proofs.Math.Seq.{paste}
use Rattle.pieces.specs.Stream.{Front, Unended, Whole, Impossible, front, by_front}
use Rattle.pieces.specs.declared.front.ImpossibleLength.{ImpossibleLength}
use Rattle.pieces.specs.declared.reader.Refusal.{Refusal}
use Rattle.pieces.specs.declared.reader.Where.{Where}
use Rattle.pieces.specs.declared.reader.Reader.{Reader}
use Rattle.pieces.specs.declared.reader.Found.{Found}

abbrev pub fresh_reader : Reader
fresh_reader = record { carried = 0; stopped = false }

abbrev pub stopped_reader : Reader
stopped_reader = record { carried = 0; stopped = true }

-- the number of each refusal, and of where the record is
abbrev pub answer_number : Refusal → ℕ
answer_number Refusal.ImpossibleLength = 20
answer_number Refusal.Stopped = 21
answer_number Refusal.SmallCarry = 22

abbrev pub where_number : Option Where → ℕ
where_number None = 0
where_number (Some (Where.Carry size)) = 1
where_number (Some (Where.Piece size)) = 2

-- no bytes where nothing is handed on
abbrev pub size_handed : Option Where → ℕ
size_handed None = 0
size_handed (Some (Where.Carry size)) = size
size_handed (Some (Where.Piece size)) = size

-- what comes back, with the carry then
pub record Outcome : Type 0 where
  pub answer : ℕ
  pub lies : ℕ
  pub size : ℕ
  pub used : ℕ
  pub reader : Reader
  pub carry : List ℕ

abbrev pub as_taken : Found → Reader → List ℕ → Outcome
as_taken f r carry =
    record { answer = 0; lies = where_number f.handed; size = size_handed f.handed; used = f.used; reader = r; carry = carry }

-- the code's result, with the reader and the carry then
abbrev pub as_outcome : Result Found Refusal → Reader → List ℕ → Outcome
as_outcome (Ok f) r carry = as_taken f r carry
as_outcome (Err e) r carry = record { answer = answer_number e; lies = 0; size = 0; used = 0; reader = r; carry = carry }

-- a refusal hands nothing on, uses no byte and changes none
abbrev pub refusal : ℕ → Reader → List ℕ → Outcome
refusal n r carry = record { answer = n; lies = 0; size = 0; used = 0; reader = r; carry = carry }

-- a piece that ends no record is carried whole, behind what is carried already
unfoldable pub kept : ℕ → List ℕ → List ℕ → Outcome
kept carried carry piece =
    record {
      answer = 0;
      lies = 0;
      size = 0;
      used = length piece;
      reader = record { carried = carried + length piece; stopped = false };
      carry = paste carry carried piece (length piece);
    }

-- a record that the piece holds entire is handed on from there; one that was begun is completed in the carry. Then nothing is carried
unfoldable pub handed_on : ℕ → List ℕ → List ℕ → ℕ → Outcome
handed_on carried carry piece size =
    cond (eqb carried 0)
    (record { answer = 0; lies = 2; size = size; used = size; reader = fresh_reader; carry = carry })
    (record {
      answer = 0;
      lies = 1;
      size = size;
      used = size - carried;
      reader = fresh_reader;
      carry = paste carry carried piece (size - carried);
    })

-- what the code sees at the front
abbrev pub as_front : Result (Option ℕ) ImpossibleLength → Front
as_front (Ok None) = Unended
as_front (Ok (Some size)) = Whole size
as_front (Err e) = Impossible

-- a record that was begun has more bytes than are carried, else it would have been handed on already: a carry that says otherwise was
-- written to by another, and its length is impossible too
abbrev pub begun : ℕ → Front → Front
begun carried Unended = Unended
begun carried (Whole size) = cond (ltb carried size) (Whole size) Impossible
begun carried Impossible = Impossible

unfoldable pub found : ℕ → List ℕ → List ℕ → Outcome
found carried carry piece =
    by_front (begun carried (front (take carried carry ++ piece))) (kept carried carry piece) (handed_on carried carry piece)
    (refusal 20 stopped_reader carry)

-- 22, then 21, then 20. A reader that carries more than 63 bytes is none that was given back, and counts as stopped
unfoldable pub next_of : Reader → List ℕ → List ℕ → Outcome
next_of r carry piece =
    cond (ltb (length carry) 64) (refusal 22 r carry)
    (cond (r.stopped || ltb 63 r.carried) (refusal 21 r carry) (found r.carried carry piece))

-- the record that was handed on, by where it lies and its size
abbrev pub record_in : ℕ → ℕ → List ℕ → List ℕ → List ℕ
record_in lies size carry piece = cond (eqb lies 1) (take size carry) (cond (eqb lies 2) (take size piece) [])
