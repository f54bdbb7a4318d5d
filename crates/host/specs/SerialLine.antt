-- The reader of a serial line at the boundary: a host's 2 bytes (carried, stopped), what each entry returns and what it leaves.
use Rattle.std.specs.Prelude.{ℕ, ◌+◌, ◌*◌, ◌≤◌, ◌≡◌, Bool, true, cond, ◌&&◌, List, [], ◌∷◌, leb, eqb, length, get_or}
use Rattle.std.proofs.lemmas.List.Edits.{sets}
use Rattle.pieces.specs.declared.reader.Reader.{Reader}
use Rattle.pieces.specs.Next.{Outcome, fresh_reader, next_of}
use Rattle.host.specs.Packing.{flag}
use Rattle.host.specs.Entries.{ANSWER, PLACE}

abbrev pub reader_bytes : Reader → List ℕ
reader_bytes r = r.carried ∷ flag r.stopped ∷ []

-- 2 bytes: at most 63 are carried, and stopped is 0 or 1
unfoldable pub is_reader : List ℕ → Bool
is_reader s = eqb (length s) 2 && leb (get_or s 0 0) 63 && leb (get_or s 1 0) 1

-- the reader that some bytes hold
abbrev pub reader_of : List ℕ → Reader
reader_of s = record { carried = get_or s 0 0; stopped = eqb (get_or s 1 0) 1 }

-- answer * 2^24 + where * 2^16 + size * 2^8 + bytes used
abbrev pub found_word : ℕ → ℕ → ℕ → ℕ → ℕ
found_word answer lies size used = answer * ANSWER + lies * PLACE + size * 256 + used

-- the fresh reader into 2 bytes, which are counted; 1 for another length
unfoldable pub reader_freshened : List ℕ → ℕ × List ℕ
reader_freshened s = cond (eqb (length s) 2) (2, sets s 0 (reader_bytes fresh_reader)) (found_word 1 0 0 0, s)

-- what a piece leaves: the result, the reader's bytes and the carry
pub record LeftByPiece : Type 0 where
  pub result : ℕ
  pub reader : List ℕ
  pub carry : List ℕ

abbrev pub left_by : List ℕ → Outcome → LeftByPiece
left_by s o =
    record { result = found_word o.answer o.lies o.size o.used; reader = sets s 0 (reader_bytes o.reader); carry = o.carry }

-- bytes that are no reader are answer 1, before all others
unfoldable pub host_next : List ℕ → List ℕ → List ℕ → LeftByPiece
host_next s carry piece =
    cond (is_reader s) (left_by s (next_of (reader_of s) carry piece)) (record { result = found_word 1 0 0 0; reader = s; carry = carry })

-- What holds of them; the proofs are in proofs/SerialLine

-- a reader packed is the same reader, and bytes that are a reader are packed as the same bytes: so 21 and 22 leave them byte for byte
abbrev pub ReaderIsUnpacked : Type 0
ReaderIsUnpacked = (r : Reader) → r.carried ≤ 63 → (is_reader (reader_bytes r) ≡ true) × (reader_of (reader_bytes r) ≡ r)

abbrev pub ReaderIsPacked : Type 0
ReaderIsPacked = (s : List ℕ) → is_reader s ≡ true → sets s 0 (reader_bytes (reader_of s)) ≡ s

-- what an entry leaves is a reader again
abbrev pub ReaderStays : Type 0
ReaderStays = (s carry piece : List ℕ) → is_reader s ≡ true → is_reader (host_next s carry piece).reader ≡ true
