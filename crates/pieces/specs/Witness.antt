-- That the claims are not true for the wrong reason: streams cut so that each of them happens, piece by piece.
use Rattle.std.specs.Prelude.{ℕ, ◌≡◌, Bool, true, false, List, [], ◌∷◌, take, replicate}
use Rattle.pieces.specs.declared.reader.Reader.{Reader}
use Rattle.pieces.specs.Next.{fresh_reader}
use Rattle.pieces.specs.Runs.{Fed, feed}

-- a piece; then the answer of each call, the records handed on, the bytes carried, and whether the reader is stopped
pub record Line : Type 0 where
  pub piece : List ℕ
  pub answers : List ℕ
  pub records : List (List ℕ)
  pub carried : List ℕ
  pub stopped : Bool

abbrev pub line : List ℕ → List ℕ → List (List ℕ) → List ℕ → Bool → Line
line p a rs c z = record { piece = p; answers = a; records = rs; carried = c; stopped = z }

abbrev pub line_of : List ℕ → Fed → Line
line_of p f = line p f.answers f.records (take f.reader.carried f.carry) f.reader.stopped

-- the lines of some pieces
abbrev pub lines_of : Reader → List ℕ → List (List ℕ) → List Line
lines_of r carry [] = []
lines_of r carry (p ∷ ps) = line_of p (feed r carry p) ∷ lines_of (feed r carry p).reader (feed r carry p).carry ps

abbrev pub pieces_of : List Line → List (List ℕ)
pieces_of [] = []
pieces_of (l ∷ ls) = l.piece ∷ pieces_of ls

-- what the carry held before does not matter
abbrev pub lent : List ℕ
lent = replicate 64 255

abbrev pub line_of_calls : List Line
line_of_calls =
    -- a record over three pieces, with one of no bytes among them; the next record begins in the last
    line (5 ∷ []) (0 ∷ []) [] (5 ∷ []) false
    ∷ line [] (0 ∷ []) [] (5 ∷ []) false
    ∷ line (0 ∷ 4 ∷ []) (0 ∷ []) [] (5 ∷ 0 ∷ 4 ∷ []) false
    ∷ line (1 ∷ 1 ∷ 4 ∷ 0 ∷ 3 ∷ []) (0 ∷ 0 ∷ []) ((5 ∷ 0 ∷ 4 ∷ 1 ∷ 1 ∷ []) ∷ []) (4 ∷ 0 ∷ 3 ∷ []) false
    -- the end of that one, three at once, and the beginning of another
    ∷ line (3 ∷ 4 ∷ 0 ∷ 4 ∷ 3 ∷ 4 ∷ 0 ∷ 3 ∷ 3 ∷ 6 ∷ 0 ∷ 8 ∷ 2 ∷ 21 ∷ 0 ∷ 4 ∷ []) (0 ∷ 0 ∷ 0 ∷ 0 ∷ 0 ∷ [])
    ((4 ∷ 0 ∷ 3 ∷ 3 ∷ []) ∷ (4 ∷ 0 ∷ 4 ∷ 3 ∷ []) ∷ (4 ∷ 0 ∷ 3 ∷ 3 ∷ []) ∷ (6 ∷ 0 ∷ 8 ∷ 2 ∷ 21 ∷ 0 ∷ []) ∷ []) (4 ∷ []) false
    -- one byte at a time
    ∷ line (0 ∷ []) (0 ∷ []) [] (4 ∷ 0 ∷ []) false
    ∷ line (1 ∷ []) (0 ∷ []) [] (4 ∷ 0 ∷ 1 ∷ []) false
    ∷ line (3 ∷ []) (0 ∷ 0 ∷ []) ((4 ∷ 0 ∷ 1 ∷ 3 ∷ []) ∷ []) [] false
    -- a record and then a length of 3: the record is handed on, and the reader stops
    ∷ line (4 ∷ 0 ∷ 2 ∷ 1 ∷ 3 ∷ 0 ∷ 7 ∷ []) (0 ∷ 20 ∷ []) ((4 ∷ 0 ∷ 2 ∷ 1 ∷ []) ∷ []) [] true
    -- and stays so
    ∷ line (4 ∷ 0 ∷ 2 ∷ 1 ∷ []) (21 ∷ []) [] [] true
    ∷ line [] (21 ∷ []) [] [] true
    ∷ []

-- 64 bytes are a record, from the piece and from the carry; 65 are none, and the length is judged once its second byte is there
abbrev pub longest : List Line
longest =
    line (64 ∷ 0 ∷ replicate 62 9) (0 ∷ 0 ∷ []) ((64 ∷ 0 ∷ replicate 62 9) ∷ []) [] false
    ∷ line (64 ∷ 0 ∷ replicate 61 9) (0 ∷ []) [] (64 ∷ 0 ∷ replicate 61 9) false
    ∷ line (9 ∷ 65 ∷ []) (0 ∷ 0 ∷ []) ((64 ∷ 0 ∷ replicate 62 9) ∷ []) (65 ∷ []) false
    ∷ line (0 ∷ 9 ∷ []) (20 ∷ []) [] [] true
    ∷ []

-- a run of the pieces goes as the lines say
abbrev pub GoesSo : List Line → Type 0
GoesSo ls = lines_of fresh_reader lent (pieces_of ls) ≡ ls
