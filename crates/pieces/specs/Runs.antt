-- Pieces handed over one after the other, each as a host does it: `next` on the piece, then on what it left, until nothing is found.
use Rattle.std.specs.Prelude.{ℕ, zero, suc, cond, List, [], ◌∷◌, ◌++◌, eqb, length, take, drop}
use Rattle.pieces.specs.declared.reader.Reader.{Reader}
use Rattle.pieces.specs.Stream.{Held}
use Rattle.pieces.specs.Next.{Outcome, next_of, record_in}

-- the records handed on, the answer of every call, and the reader and the carry then
pub record Fed : Type 0 where
  pub records : List (List ℕ)
  pub answers : List ℕ
  pub reader : Reader
  pub carry : List ℕ

-- what was found, and then the rest
abbrev pub found_then : Outcome → List ℕ → Fed → Fed
found_then o piece rest =
    cond (eqb o.lies 0) (record { records = []; answers = o.answer ∷ []; reader = o.reader; carry = o.carry })
    (record {
      records = record_in o.lies o.size o.carry piece ∷ rest.records;
      answers = o.answer ∷ rest.answers;
      reader = rest.reader;
      carry = rest.carry;
    })

-- at most so many calls of `next`
unfoldable pub feed_within : ℕ → Reader → List ℕ → List ℕ → Fed
feed_within zero r carry piece = record { records = []; answers = []; reader = r; carry = carry }
feed_within (suc k) r carry piece =
    found_then (next_of r carry piece) piece
    (feed_within k (next_of r carry piece).reader (next_of r carry piece).carry (drop (next_of r carry piece).used piece))

-- one piece. Each record found uses a byte of it at least, so that one call more than it has bytes is enough
unfoldable pub feed : Reader → List ℕ → List ℕ → Fed
feed r carry piece = feed_within (suc (length piece)) r carry piece

abbrev pub fed_then : Fed → Fed → Fed
fed_then f g = record { records = f.records ++ g.records; answers = f.answers ++ g.answers; reader = g.reader; carry = g.carry }

-- piece after piece
unfoldable pub run : Reader → List ℕ → List (List ℕ) → Fed
run r carry [] = record { records = []; answers = []; reader = r; carry = carry }
run r carry (p ∷ ps) = fed_then (feed r carry p) (run (feed r carry p).reader (feed r carry p).carry ps)

-- what shows of a run: the records, the bytes carried, and whether the reader is stopped
abbrev pub shown : Fed → Held
shown f = record { records = f.records; left = take f.reader.carried f.carry; stopped = f.reader.stopped }

-- pieces, or records, one after the other
unfoldable pub joined : List (List ℕ) → List ℕ
joined [] = []
joined (p ∷ ps) = p ++ joined ps
