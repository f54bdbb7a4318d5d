-- What a stream of bytes holds: the records at its front, and then the bytes left of a record that has not ended, or a length that stops it.
use Rattle.std.specs.Prelude.{ℕ, zero, suc, ◌+◌, ◌*◌, Bool, true, false, cond, ◌&&◌, List, [], ◌∷◌, leb, ltb, length, get_or, take, drop}

-- the length of a record is its first two bytes, the lower first
abbrev pub length_field : List ℕ → ℕ
length_field s = get_or s 0 0 + 256 * get_or s 1 0

-- a length below 4 or above 64 can't be passed over
abbrev pub possible : ℕ → Bool
possible n = leb 4 n && leb n 64

-- what some bytes begin with: bytes of a record that has not ended, or none; a whole record of so many bytes; a length that no record has
pub data Front : Type 0 where
  Unended : Front
  Whole : ℕ → Front
  Impossible : Front

unfoldable pub front : List ℕ → Front
front s =
    cond (ltb (length s) 2) Unended
    (cond (possible (length_field s)) (cond (leb (length_field s) (length s)) (Whole (length_field s)) Unended) Impossible)

abbrev pub by_front : {A : Type 0} → Front → A → (ℕ → A) → A → A
by_front Unended unended whole impossible = unended
by_front (Whole n) unended whole impossible = whole n
by_front Impossible unended whole impossible = impossible

-- the records, one after the other; the bytes left; whether an impossible length stopped it
pub record Held : Type 0 where
  pub records : List (List ℕ)
  pub left : List ℕ
  pub stopped : Bool

abbrev pub left : List ℕ → Held
left s = record { records = []; left = s; stopped = false }

-- records before an impossible length are handed on first, then nothing is carried
abbrev pub stop : Held
stop = record { records = []; left = []; stopped = true }

abbrev pub after : List ℕ → Held → Held
after r h = record { records = r ∷ h.records; left = h.left; stopped = h.stopped }

-- at most so many records
unfoldable pub holds_within : ℕ → List ℕ → Held
holds_within zero s = left s
holds_within (suc k) s = by_front (front s) (left s) (λ n. after (take n s) (holds_within k (drop n s))) stop

-- a record has bytes, so there are no more records than bytes
unfoldable pub holds : List ℕ → Held
holds s = holds_within (length s) s
