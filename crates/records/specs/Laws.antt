-- What holds of the tables, and of what is read and written by them. The proofs are in proofs/Tables, proofs/RoundTrip and proofs/Places.
use Rattle.std.specs.Prelude.{ℕ, ◌+◌, ◌<◌, ◌≤◌, ◌≡◌, Bool, true, false, ◌&&◌, not, List, [], ◌∷◌, ◌++◌, map, eqb, ltb, length, get_or, take, drop}
use Rattle.std.proofs.Math.Option.{some}
use Rattle.records.specs.Bytes.{number}
use Rattle.records.specs.Letters.{Letter, width, fits}
use Rattle.records.specs.Bodies.{Values, wrote, size, numbers_at, kind_in, all_fit, flat_bytes}
use Rattle.records.specs.Tables.{Table, size_of, listed, taken, refused, find, read, flat, fine, write}

-- a number stands nowhere in a list
abbrev pub missing : ℕ → List ℕ → Bool
missing n [] = true
missing n (m ∷ ms) = not (eqb n m) && missing n ms

abbrev pub every : {A : Type 0} → (A → Bool) → List A → Bool
every p [] = true
every p (x ∷ xs) = p x && every p xs

-- letters from a position on whose first wrong one stands at a place: each before it has a number in its range, and it has one that is not
pub record FirstWrong (ls : List Letter) (s : List ℕ) (at p : ℕ) : Type 0 where
  pub before : List Letter
  pub letter : Letter
  pub after : List Letter
  pub whole : ls ≡ before ++ (letter ∷ after)
  pub place : p ≡ at + size before
  pub right : all_fit before (numbers_at before s at) ≡ true
  pub wrong : fits letter (number (width letter) s p) ≡ false

module _ (t : Table) where
  -- what is wrong with the body of a kind, and its place: the size, which no kind of its number has; else the first field out of its range; else,
  -- all fields being in range, the field that does not agree
  pub data WrongBody (k : t.Kind) (s : List ℕ) : ℕ → Type 0 where
    wrong_size : ((j : t.Kind) → (t.row_of j).number ≡ (t.row_of k).number → length s ≡ size_of t j → ⊥) → WrongBody k s 2
    wrong_field : {p : ℕ} → length s ≡ 4 + size (t.row_of k).letters → FirstWrong (t.row_of k).letters s 4 p → WrongBody k s p
    wrong_together : length s ≡ 4 + size (t.row_of k).letters → all_fit (t.row_of k).letters (numbers_at (t.row_of k).letters s 4) ≡ true → t.agrees (t.value_of k (numbers_at (t.row_of k).letters s 4)) ≡ false → WrongBody k s t.clash

  -- where 4 comes back with a place, length and kind are right and the body is wrong there
  abbrev pub PlaceIsWrong : Type 0
  PlaceIsWrong = (s : List ℕ) (p : ℕ) → read t s ≡ refused 4 p → (k : t.Kind) × ((kind_in s ≡ some (t.row_of k).number) × WrongBody k s p)

  -- and where length and kind are right and the body is wrong, 4 comes back with the place
  abbrev pub WrongHasPlace : Type 0
  WrongHasPlace = (s : List ℕ) (p : ℕ) (k : t.Kind) → kind_in s ≡ some (t.row_of k).number → WrongBody k s p → read t s ≡ refused 4 p

  -- no other answer has a place
  abbrev pub PlaceOnlyWithFour : Type 0
  PlaceOnlyWithFour = (s : List ℕ) (n p : ℕ) → read t s ≡ refused n p → (n ≡ 4 → ⊥) → p ≡ 0

  -- a retired kind is answered with 9, whatever its body, and nothing else is
  abbrev pub RetiredIsNine : Type 0
  RetiredIsNine = (s : List ℕ) (n : ℕ) → kind_in s ≡ some n → listed n t.retired ≡ true → read t s ≡ refused 9 0

  abbrev pub NineIsRetired : Type 0
  NineIsRetired = (s : List ℕ) (p : ℕ) → read t s ≡ refused 9 p → (n : ℕ) × ((kind_in s ≡ some n) × (listed n t.retired ≡ true))

  -- the numbers of the kinds
  abbrev pub numbers : List ℕ
  numbers = map (λ k. (t.row_of k).number) t.kinds

  -- number and size tell the kinds apart
  abbrev pub ToldApart : Type 0
  ToldApart = (j k : t.Kind) → (t.row_of j).number ≡ (t.row_of k).number → size_of t j ≡ size_of t k → j ≡ k

  -- what the tables meet, line by line
  pub record Lawful : Type 0 where
    -- a kind and values in its letters' ranges are taken apart as they were put together, and the other way round
    pub together : (k : t.Kind) (vs : Values (t.row_of k).letters) → all_fit (t.row_of k).letters vs ≡ true → ◌≡◌ {A = (k : t.Kind) × Values (t.row_of k).letters} (t.apart (t.value_of k vs)) (k, vs)
    pub again : (v : t.Value) → t.value_of (t.apart v).0 (t.apart v).1 ≡ v
    -- a kind's number and size lead to it
    pub found : (k : t.Kind) → find t (t.row_of k).number (size_of t k) t.kinds ≡ some k
    -- no kind is retired
    pub current : every (λ k. not (listed (t.row_of k).number t.retired)) t.kinds ≡ true
    -- numbers and lengths take two bytes
    pub narrow : every (λ k. ltb (t.row_of k).number 65536 && ltb (4 + size (t.row_of k).letters) 65536) t.kinds ≡ true

  -- what is written reads back as the same value
  abbrev pub WrittenReadsBack : Type 0
  WrittenReadsBack = (v : t.Value) → fine t v ≡ true → read t (flat_bytes (flat t v)) ≡ taken v

  -- the same over a writer: the bytes that it counts, of the buffer that it leaves
  abbrev pub WriterReadsBack : Type 0
  WriterReadsBack = (v : t.Value) (n : ℕ) (buffer after : List ℕ) → write t v buffer ≡ (wrote n, after) → read t (take n after) ≡ taken v

  -- what is read is written back as the same bytes
  abbrev pub ReadIsWrittenBack : Type 0
  ReadIsWrittenBack = (v : t.Value) (s : List ℕ) → ((i : ℕ) → get_or s i 0 < 256) → read t s ≡ taken v → (flat_bytes (flat t v) ≡ s) × (fine t v ≡ true)

  -- the same over a writer: where the bytes that were read fit, it counts them, and stores them before what the buffer held behind them
  abbrev pub ReadWritesBack : Type 0
  ReadWritesBack = (v : t.Value) (s buffer : List ℕ) → ((i : ℕ) → get_or s i 0 < 256) → length s ≤ length buffer → read t s ≡ taken v → write t v buffer ≡ (wrote (length s), s ++ drop (length s) buffer)

-- no kind of one table has a number of the other
abbrev pub NoneShared : Table → Table → Type 0
NoneShared t u = (j : t.Kind) (k : u.Kind) → (t.row_of j).number ≡ (u.row_of k).number → ⊥

-- a number that one table has retired stands in no line of either
abbrev pub RetiredInNeither : Table → Table → Type 0
RetiredInNeither t u = (n : ℕ) → listed n t.retired ≡ true → ((j : t.Kind) → (t.row_of j).number ≡ n → ⊥) × ((k : u.Kind) → (u.row_of k).number ≡ n → ⊥)

-- a promise that says `f result ≡ x` leaves one result, whatever x is
abbrev pub Determines : {A B : Type 0} → (A → B) → Type 0
Determines {A} {B} f = (x : B) (r₁ r₂ : A) → f r₁ ≡ x → f r₂ ≡ x → r₁ ≡ r₂
