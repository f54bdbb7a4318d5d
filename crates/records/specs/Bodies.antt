-- A record without its meaning: a kind, and a body of letters with their values, from bytes and into bytes.
use Rattle.std.specs.Prelude.{ℕ, ◌+◌, Bool, true, false, cond, ◌&&◌, List, [], ◌∷◌, ◌++◌, ◌≡◌, leb, eqb, length, Option as Maybe, Some, None, Result, Ok, Err}
use Rattle.std.proofs.Math.Option.{Option, none, some}
use Rattle.std.proofs.lemmas.List.Edits.{sets}
use Rattle.records.specs.Bytes.{number, bytes}
use Rattle.records.specs.Letters.{Letter, width, fits, s}
use Rattle.records.specs.declared.bodies.Unreadable.{Unreadable}
use Rattle.records.specs.declared.bodies.Unwritable.{Unwritable}

-- a value for each letter
abbrev pub Values : List Letter → Type 0
Values [] = Unit {0}
Values (l ∷ ls) = ℕ × Values ls

-- how many bytes the letters take
abbrev pub size : List Letter → ℕ
size [] = 0
size (l ∷ ls) = width l + size ls

-- what reading letters finds: what they hold, or the place of the first that is wrong
pub data Found (A : Type 0) : Type 0 where
  is : A → Found A
  bad_at : ℕ → Found A

abbrev pub and_then : {A B : Type 0} → Found A → (A → Found B) → Found B
and_then (is a) f = f a
and_then (bad_at p) f = bad_at p

-- a letter's value at a position, where it is in the letter's range
unfoldable pub value_at : Letter → List ℕ → ℕ → Found ℕ
value_at l s at = cond (fits l (number (width l) s at)) (is (number (width l) s at)) (bad_at at)

-- the slots where a body may carry them, from its end on: 0 where it ends there
unfoldable pub slots_at : List ℕ → ℕ → Found ℕ
slots_at bytes at = cond (eqb (length bytes) at) (is 0) (value_at s bytes at)

-- the letters' values, one after the other from a position on
unfoldable pub values_at : (ls : List Letter) → List ℕ → ℕ → Found (Values ls)
values_at [] s at = is tt
values_at (l ∷ ls) s at = and_then (value_at l s at) (λ v. and_then (values_at ls s (at + width l)) (λ vs. is (v, vs)))

-- the numbers at the letters, one after the other from a position on
unfoldable pub numbers_at : (ls : List Letter) → List ℕ → ℕ → Values ls
numbers_at [] s at = tt
numbers_at (l ∷ ls) s at = (number (width l) s at, numbers_at ls s (at + width l))

-- the kind, where at least four bytes came and as many as the length says
unfoldable pub kind_in : List ℕ → Option ℕ
kind_in s = cond (leb 4 (length s)) (cond (eqb (number 2 s 0) (length s)) (some (number 2 s 2)) none) none

-- the values of a body that has the letters' size; another size is wrong at 2, before any letter is
unfoldable pub body_of : (ls : List Letter) → List ℕ → Found (Values ls)
body_of ls s = cond (eqb (length s) (4 + size ls)) (values_at ls s 4) (bad_at 2)

-- every value is in its letter's range
unfoldable pub all_fit : (ls : List Letter) → Values ls → Bool
all_fit [] vs = true
all_fit (l ∷ ls) vs = fits l vs.0 && all_fit ls vs.1

unfoldable pub body_bytes : (ls : List Letter) → Values ls → List ℕ
body_bytes [] vs = []
body_bytes (l ∷ ls) vs = bytes (width l) vs.0 ++ body_bytes ls vs.1

-- a kind, letters and their values
pub record Flat : Type 0 where
  pub kind : ℕ
  pub letters : List Letter
  pub values : Values letters

unfoldable pub flat_size : Flat → ℕ
flat_size f = 4 + size f.letters

unfoldable pub flat_fits : Flat → Bool
flat_fits f = all_fit f.letters f.values

-- length, kind and body
unfoldable pub flat_bytes : Flat → List ℕ
flat_bytes f = bytes 2 (flat_size f) ++ (bytes 2 f.kind ++ body_bytes f.letters f.values)

-- what a writer answers: how many bytes it wrote, or the number of the refusal
pub data Wrote : Type 0 where
  wrote : ℕ → Wrote
  not_written : ℕ → Wrote

-- bytes into a lent buffer: the answer, and the buffer then. 4 where a field is out of range, then 7 where the bytes do not fit
unfoldable pub written : Bool → List ℕ → List ℕ → Wrote × List ℕ
written ok out buffer =
    cond ok
    (cond (leb (length out) (length buffer)) (wrote (length out), sets buffer 0 out) (not_written 7, buffer))
    (not_written 4, buffer)

-- bytes stored from a position on, where they fit, and the position after them
unfoldable pub laid : List ℕ → List ℕ → ℕ → List ℕ
laid out buffer at = cond (leb (at + length out) (length buffer)) (sets buffer at out) buffer

unfoldable pub laid_next : List ℕ → List ℕ → ℕ → ℕ
laid_next out buffer at = cond (leb (at + length out) (length buffer)) (at + length out) at

-- a record from its kind and the bytes of its body
unfoldable pub line_bytes : ℕ → List ℕ → List ℕ
line_bytes kind body = bytes 2 (4 + length body) ++ (bytes 2 kind ++ body)

-- and stored from a position on where it fits: the position after it, and the buffer then
abbrev pub line_laid : ℕ → List ℕ → List ℕ → ℕ → ℕ × List ℕ
line_laid kind body buffer at = (laid_next (line_bytes kind body) buffer at, laid (line_bytes kind body) buffer at)

-- bytes stored from a position on: the position after them, and the buffer then
pub record Stored (old : List ℕ) (at : ℕ) (xs : List ℕ) (next : ℕ) (new : List ℕ) : Type 0 where
  pub end : next ≡ at + length xs
  pub now : new ≡ sets old at xs

-- the code's types, in these terms

abbrev pub as_head : Maybe ℕ → Option ℕ
as_head (Some k) = some k
as_head None = none

-- what a reader of one field answers
abbrev pub field : Found ℕ → Result ℕ Unreadable
field (is v) = Ok v
field (bad_at p) = Err (Unreadable.BadBody p)

-- what a test of a record's size answers
abbrev pub size_or_place : Bool → Result Unit Unreadable
size_or_place true = Ok tt
size_or_place false = Err (Unreadable.BadBody 2)

-- the number of a refusal, and the place that comes with it
abbrev pub unreadable_number : Unreadable → ℕ
unreadable_number Unreadable.BadLength = 2
unreadable_number Unreadable.UnknownKind = 3
unreadable_number Unreadable.Retired = 9
unreadable_number (Unreadable.BadBody place) = 4

abbrev pub unreadable_place : Unreadable → ℕ
unreadable_place Unreadable.BadLength = 0
unreadable_place Unreadable.UnknownKind = 0
unreadable_place Unreadable.Retired = 0
unreadable_place (Unreadable.BadBody place) = place

abbrev pub unwritable_number : Unwritable → ℕ
unwritable_number Unwritable.BadField = 4
unwritable_number Unwritable.NoRoom = 7

abbrev pub as_wrote : Result ℕ Unwritable → Wrote
as_wrote (Ok n) = wrote n
as_wrote (Err u) = not_written (unwritable_number u)
