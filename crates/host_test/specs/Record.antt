-- The record that was handed on, by where it lies and its size, copied to the front of a lent buffer.
use Rattle.std.specs.Prelude.{ℕ, zero, suc, ◌*◌, Option, None, Some, cond, List, ltb, length}
use Rattle.std.proofs.lemmas.List.Edits.{sets}
use Rattle.pieces.specs.declared.reader.Where.{Where}
use Rattle.pieces.specs.Next.{where_number, record_in}

-- by the number of where it lies; above 2 there is none, as at 0
abbrev pub handed : ℕ → ℕ → Option Where
handed zero size = None
handed (suc zero) size = Some (Where.Carry size)
handed (suc (suc zero)) size = Some (Where.Piece size)
handed (suc (suc (suc n))) size = None

-- a result is answer * ANSWER + count, as host's are
abbrev pub ANSWER : ℕ
ANSWER = 16777216

-- 7 where the buffer is too short, and nothing is written
abbrev pub copied : List ℕ → List ℕ → ℕ × List ℕ
copied r out = cond (ltb (length out) (length r)) (7 * ANSWER, out) (length r, sets out 0 r)

unfoldable pub record_copied : ℕ → ℕ → List ℕ → List ℕ → List ℕ → ℕ × List ℕ
record_copied lies size carry piece out = copied (record_in (where_number (handed lies size)) size carry piece) out
