-- A line as a set reads it: callcontrol_pieces_fresh once, then callcontrol_pieces_next over the same 2 bytes and the same carry, on each piece and then on what
-- a call left of it, until nothing is found. It is the run of the reader that the bytes hold, so that what is proved of every cutting (pieces' Claims) is said
-- of what a set calls. The proofs are in proofs/SerialRuns.
use Rattle.std.specs.Prelude.{ℕ, zero, suc, ◌/◌, ◌%◌, ◌≤◌, ◌<◌, ◌≡◌, true, false, cond, List, [], ◌∷◌, ◌++◌, eqb, length, get_or, take, drop, replicate}
use Rattle.pieces.specs.Stream.{Held, holds}
use Rattle.pieces.specs.Next.{fresh_reader, next_of, record_in}
use Rattle.pieces.specs.Runs.{Fed, run, joined}
use Rattle.host.specs.Entries.{ANSWER, PLACE}
use Rattle.host.specs.SerialLine.{reader_bytes, is_reader, LeftByPiece, left_by, reader_freshened, host_next}

-- what a host reads off a result
abbrev pub answer_of : ℕ → ℕ
answer_of result = result / ANSWER

abbrev pub where_of : ℕ → ℕ
where_of result = result / PLACE % 256

abbrev pub size_of : ℕ → ℕ
size_of result = result / 256 % 256

abbrev pub used_of : ℕ → ℕ
used_of result = result % 256

-- the records that a host found, the answer of every call, and the bytes of the reader and of the carry then
pub record ReadOff : Type 0 where
  pub records : List (List ℕ)
  pub answers : List ℕ
  pub reader : List ℕ
  pub carry : List ℕ

-- what a call found, by its result alone, and then the rest
abbrev pub found_then : LeftByPiece → List ℕ → ReadOff → ReadOff
found_then l piece rest =
    cond (eqb (where_of l.result) 0) (record { records = []; answers = answer_of l.result ∷ []; reader = l.reader; carry = l.carry })
    (record {
      records = record_in (where_of l.result) (size_of l.result) l.carry piece ∷ rest.records;
      answers = answer_of l.result ∷ rest.answers;
      reader = rest.reader;
      carry = rest.carry;
    })

-- at most so many calls
unfoldable pub read_within : ℕ → List ℕ → List ℕ → List ℕ → ReadOff
read_within zero s carry piece = record { records = []; answers = []; reader = s; carry = carry }
read_within (suc k) s carry piece =
    found_then (host_next s carry piece) piece
    (read_within k (host_next s carry piece).reader (host_next s carry piece).carry (drop (used_of (host_next s carry piece).result) piece))

-- one piece; one call more than it has bytes is enough (LineEnds)
unfoldable pub read_piece : List ℕ → List ℕ → List ℕ → ReadOff
read_piece s carry piece = read_within (suc (length piece)) s carry piece

abbrev pub read_then : ReadOff → ReadOff → ReadOff
read_then f g = record { records = f.records ++ g.records; answers = f.answers ++ g.answers; reader = g.reader; carry = g.carry }

-- piece after piece
unfoldable pub line_run : List ℕ → List ℕ → List (List ℕ) → ReadOff
line_run s carry [] = record { records = []; answers = []; reader = s; carry = carry }
line_run s carry (p ∷ ps) = read_then (read_piece s carry p) (line_run (read_piece s carry p).reader (read_piece s carry p).carry ps)

-- from the fresh reader on, whatever stood in the 2 bytes
abbrev pub line_after : List ℕ → List ℕ → List (List ℕ) → ReadOff
line_after s carry pieces = line_run (reader_freshened s).1 carry pieces

-- what shows of it: the records, the bytes carried, and whether the reader is stopped
abbrev pub shown_of : ReadOff → Held
shown_of f = record { records = f.records; left = take (get_or f.reader 0 0) f.carry; stopped = eqb (get_or f.reader 1 0) 1 }

-- a run of the reader, with its reader packed
abbrev pub packed_fed : Fed → ReadOff
packed_fed f = record { records = f.records; answers = f.answers; reader = reader_bytes f.reader; carry = f.carry }

-- for every carry, also one under 64 bytes, and every cutting: the records, the answers, the reader's bytes and every byte of the carry are those of the run
abbrev pub LineIsPacked : Type 0
LineIsPacked = (s carry : List ℕ) (pieces : List (List ℕ)) → length s ≡ 2 → line_after s carry pieces ≡ packed_fed (run fresh_reader carry pieces)

-- one more call gives the result, the bytes and the carry of `next` on the run's reader
abbrev pub CallIsNext : Type 0
CallIsNext =
    (s carry : List ℕ) (pieces : List (List ℕ)) (piece : List ℕ) → length s ≡ 2 →
    host_next (line_after s carry pieces).reader (line_after s carry pieces).carry piece
    ≡ left_by (reader_bytes (run fresh_reader carry pieces).reader)
    (next_of (run fresh_reader carry pieces).reader (run fresh_reader carry pieces).carry piece)

-- however the input is cut, the records, their order, the bytes carried and the stop are those of the input
abbrev pub EveryCuttingRead : Type 0
EveryCuttingRead =
    (s carry : List ℕ) (pieces : List (List ℕ)) →
    length s ≡ 2 → 64 ≤ length carry → shown_of (line_after s carry pieces) ≡ holds (joined pieces)

-- the host's loop over a piece ends: more calls than it has bytes find nothing more
abbrev pub LineEnds : Type 0
LineEnds =
    (k : ℕ) (s carry piece : List ℕ) → is_reader s ≡ true → length piece < k → read_within k s carry piece ≡ read_piece s carry piece

-- That this is not true for the wrong reason: a record over three pieces, one of them empty, and the beginning of another; then its end and a length of 3

abbrev pub lent : List ℕ
lent = replicate 64 255

abbrev pub cut : List (List ℕ)
cut = (4 ∷ []) ∷ [] ∷ (0 ∷ 3 ∷ 3 ∷ 5 ∷ 0 ∷ 4 ∷ []) ∷ []

abbrev pub CutSo : Type 0
CutSo =
    shown_of (line_after (9 ∷ 9 ∷ []) lent cut)
    ≡ record { records = (4 ∷ 0 ∷ 3 ∷ 3 ∷ []) ∷ []; left = 5 ∷ 0 ∷ 4 ∷ []; stopped = false }

abbrev pub StoppedSo : Type 0
StoppedSo =
    shown_of (line_after (9 ∷ 9 ∷ []) lent (cut ++ ((1 ∷ 1 ∷ 3 ∷ 0 ∷ []) ∷ [])))
    ≡ record { records = (4 ∷ 0 ∷ 3 ∷ 3 ∷ []) ∷ (5 ∷ 0 ∷ 4 ∷ 1 ∷ 1 ∷ []) ∷ []; left = []; stopped = true }
