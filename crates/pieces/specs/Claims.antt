-- What is claimed of the reader, as types. proofs/Claims.antt has a proof of each. A run is one of `next` as a host calls it (Runs), and
-- `next` meets Next's `next_of` for every reader, carry and piece.
use Rattle.std.specs.Prelude.{ℕ, ◌≤◌, ◌<◌, ◌≡◌, Result, Bool, true, false, cond, ◌&&◌, ◌||◌, List, [], ◌∷◌, ◌++◌, eqb, ltb, length, take, drop}
use Rattle.pieces.specs.Stream.{Front, Unended, Whole, Impossible, length_field, possible, front, by_front, left, stop, after, holds}
use Rattle.pieces.specs.declared.reader.Reader.{Reader}
use Rattle.pieces.specs.declared.reader.Refusal.{Refusal}
use Rattle.pieces.specs.declared.reader.Found.{Found}
use Rattle.pieces.specs.Next.{Outcome, as_outcome, fresh_reader, stopped_reader, refusal, begun, next_of}
use Rattle.pieces.specs.Runs.{feed_within, feed, run, shown, joined}

-- the definition without its bound: by the front alone
pub record Holds (s : List ℕ) : Type 0 where
  pub unended : front s ≡ Unended → holds s ≡ left s
  pub whole : (n : ℕ) → front s ≡ Whole n → holds s ≡ after (take n s) (holds (drop n s))
  pub impossible : front s ≡ Impossible → holds s ≡ stop

abbrev pub HoldsByFront : Type 0
HoldsByFront = (s : List ℕ) → Holds s

-- Every cutting

-- however the input is cut, also with pieces of no bytes: the records, their order, the bytes carried and the stop are those of the input
abbrev pub EveryCutting : Type 0
EveryCutting = (carry : List ℕ) (pieces : List (List ℕ)) → 64 ≤ length carry → shown (run fresh_reader carry pieces) ≡ holds (joined pieces)

-- so they are those of the whole input in one piece
abbrev pub AsInOnePiece : Type 0
AsInOnePiece =
    (carry : List ℕ) (pieces : List (List ℕ)) →
    64 ≤ length carry → shown (run fresh_reader carry pieces) ≡ shown (run fresh_reader carry (joined pieces ∷ []))

-- nothing is lost and nothing made up: not stopped, the records one after the other and then the bytes carried are the input
abbrev pub NothingLost : Type 0
NothingLost =
    (carry : List ℕ) (pieces : List (List ℕ)) →
    64 ≤ length carry →
    (run fresh_reader carry pieces).reader.stopped ≡ false →
    joined (run fresh_reader carry pieces).records ++ (shown (run fresh_reader carry pieces)).left ≡ joined pieces

-- stopped, the input is the records and then bytes that begin with an impossible length
abbrev pub StoppedThere : Type 0
StoppedThere =
    (carry : List ℕ) (pieces : List (List ℕ)) →
    64 ≤ length carry →
    (run fresh_reader carry pieces).reader.stopped ≡ true →
    (rest : List ℕ) × (joined (run fresh_reader carry pieces).records ++ rest ≡ joined pieces) × (front rest ≡ Impossible)

-- Records

-- 4 to 64 bytes, and the length field says so
abbrev pub is_record : List ℕ → Bool
is_record r = possible (length r) && eqb (length_field r) (length r)

abbrev pub every? : (List ℕ → Bool) → List (List ℕ) → Bool
every? p [] = true
every? p (r ∷ rs) = p r && every? p rs

-- what is handed on is a record, whatever reader, carry and pieces come
abbrev pub WholeRecords : Type 0
WholeRecords = (r : Reader) (carry : List ℕ) (pieces : List (List ℕ)) → every? is_record (run r carry pieces).records ≡ true

-- it uses a byte of the piece at least, and none behind the piece; where nothing is found and nothing refused, the piece is used up
pub record Uses (o : Outcome) (piece : List ℕ) : Type 0 where
  pub some : (o.lies ≡ 0 → ⊥) → 0 < o.used
  pub within : o.used ≤ length piece
  pub all : o.answer ≡ 0 → o.lies ≡ 0 → o.used ≡ length piece

abbrev pub BytesUsed : Type 0
BytesUsed = (r : Reader) (carry piece : List ℕ) → Uses (next_of r carry piece) piece

-- so a host's loop over a piece ends: more calls than it has bytes find nothing more
abbrev pub LoopEnds : Type 0
LoopEnds = (k : ℕ) (r : Reader) (carry piece : List ℕ) → length piece < k → feed_within k r carry piece ≡ feed r carry piece

-- The stop

abbrev pub StoppedCarriesNothing : Type 0
StoppedCarriesNothing =
    (carry : List ℕ) (pieces : List (List ℕ)) → (run fresh_reader carry pieces).reader.stopped ≡ true → (run fresh_reader carry pieces).reader ≡ stopped_reader

abbrev pub StoppedRefuses : Type 0
StoppedRefuses = (r : Reader) (carry piece : List ℕ) → 64 ≤ length carry → r.stopped ≡ true → next_of r carry piece ≡ refusal 21 r carry

-- an answer for each piece
abbrev pub each : {A : Type 0} → ℕ → List A → List ℕ
each n [] = []
each n (p ∷ ps) = n ∷ each n ps

-- until it is reset: whatever comes, each piece gets 21 and nothing is handed on or changed
abbrev pub StaysStopped : Type 0
StaysStopped =
    (r : Reader) (carry : List ℕ) (pieces : List (List ℕ)) →
    64 ≤ length carry →
    r.stopped ≡ true →
    run r carry pieces ≡ record { records = []; answers = each 21 pieces; reader = r; carry = carry }

-- Refusals

-- a carry that is too small: nothing is ever handed on
abbrev pub SmallCarry : Type 0
SmallCarry =
    (r : Reader) (carry : List ℕ) (pieces : List (List ℕ)) →
    length carry < 64 → run r carry pieces ≡ record { records = []; answers = each 22 pieces; reader = r; carry = carry }

abbrev pub is_impossible : Front → Bool
is_impossible f = by_front f false (λ n. false) true

-- where each refusal applies, told without a look at the others
unfoldable pub applies : ℕ → Reader → List ℕ → List ℕ → Bool
applies n r carry piece =
    cond (eqb n 22) (ltb (length carry) 64)
    (cond (eqb n 21) (r.stopped || ltb 63 r.carried) (is_impossible (begun r.carried (front (take r.carried carry ++ piece)))))

-- the first of some numbers that applies, 0 if none does
abbrev pub first : (ℕ → Bool) → List ℕ → ℕ
first p [] = 0
first p (n ∷ ns) = cond (p n) n (first p ns)

-- 22 before 21 before 20
abbrev pub Answered : Type 0
Answered =
    (r : Reader) (carry piece : List ℕ) →
    (next_of r carry piece).answer ≡ first (λ n. applies n r carry piece) (22 ∷ 21 ∷ 20 ∷ [])

-- nothing is handed on by a refusal, no byte is used and none changed; 20 stops the reader, 21 and 22 leave it
abbrev pub Refused : Type 0
Refused =
    (r : Reader) (carry piece : List ℕ) (n : ℕ) →
    (next_of r carry piece).answer ≡ n →
    (n ≡ 0 → ⊥) →
    next_of r carry piece ≡ refusal n (cond (eqb n 20) stopped_reader r) carry

-- The promise

-- what `next` gives back is a reader, which carries at most 63 bytes, and its other numbers take a byte each
pub record Small (o : Outcome) : Type 0 where
  pub carried : o.reader.carried ≤ 63
  pub size : o.size ≤ 64
  pub used : o.used ≤ 64

abbrev pub SmallNumbers : Type 0
SmallNumbers = (r : Reader) (carry piece : List ℕ) → r.carried ≤ 63 → Small (next_of r carry piece)

-- two results that the promise of `next` allows are equal, with the reader and every byte of the carry
abbrev pub NextDetermined : Type 0
NextDetermined =
    (r : Reader) (carry piece : List ℕ) (f₁ f₂ : Result Found Refusal) (r₁ r₂ : Reader) (c₁ c₂ : List ℕ) →
    as_outcome f₁ r₁ c₁ ≡ next_of r carry piece →
    as_outcome f₂ r₂ c₂ ≡ next_of r carry piece →
    (f₁ ≡ f₂) × (r₁ ≡ r₂) × (c₁ ≡ c₂)
