-- The bytes carried and then the piece: how many there are, where each is, and what they begin with.
use Prim.Native.Nat.{ℕ, ◌+◌, ◌*◌, ◌≤◌, ◌<◌}
use mathlib.Core.Path.{◌≡◌}
use mathlib.Core.List.{List, ◌++◌}
use native.Mathlib.Omega.{arith}
use borrow.Author.Tests.{lt-ltb, le-ltb, le-leb, lt-leb}
use lib.ListN.{length, get_or, take, length-append}
use lib.Seq.{length-take-le}
use Rattle.pieces.specs.Stream.{Front, Unended, Whole, Impossible, length_field, front}
use Rattle.pieces.specs.Next.{begun}

-- the first of a carry are as many as they are said to be
pub seen_length : (c : ℕ) (carry piece : List ℕ) → c ≤ length carry → length (take c carry ++ piece) ≡ c + length piece
seen_length c carry piece within = rw (length-append, length-take-le c carry within)

pub of_carry : (c : ℕ) (carry piece : List ℕ) → c ≤ length carry → {f : Front} → f ≡ begun (length (take c carry)) (front (take c carry ++ piece))
    → f ≡ begun c (front (take c carry ++ piece))
of_carry c carry piece within {f} h = rw (length-take-le c carry within) at h

module _ (carried piece : List ℕ) where
  all_length : length (carried ++ piece) ≡ length carried + length piece
  all_length = length-append carried piece

  pub too_short : length carried + length piece < 2 → Unended ≡ begun (length carried) (front (carried ++ piece))
  unfolding front
  too_short h = rw (lt-ltb (length (carried ++ piece)) 2 (omega (arith, all_length)))

  -- with both bytes of the length
  module _
      {size low high : ℕ} (two : 2 ≤ length carried + length piece) (is : size ≡ low + high * 256) (lo : low ≡ get_or (carried ++ piece) 0 0)
      (hi : high ≡ get_or (carried ++ piece) 1 0) where
    says : size ≡ length_field (carried ++ piece)
    says = omega (arith, is, lo, hi)

    long : 2 ≤ length (carried ++ piece)
    long = omega (arith, all_length)

    pub below_4 : size < 4 → Impossible ≡ begun (length carried) (front (carried ++ piece))
    unfolding front
    below_4 h = rw (le-ltb _ 2 long, ← says, lt-leb 4 _ h)

    pub above_64 : 4 ≤ size → 64 < size → Impossible ≡ begun (length carried) (front (carried ++ piece))
    unfolding front
    above_64 h₄ h = rw (le-ltb _ 2 long, ← says, le-leb 4 _ h₄, lt-leb _ 64 h)

    pub carried_already : 4 ≤ size → size ≤ 64 → size ≤ length carried → Impossible ≡ begun (length carried) (front (carried ++ piece))
    unfolding front
    carried_already h₄ h₆₄ h =
        let there : size ≤ length (carried ++ piece) = omega (arith, all_length) in
        rw (le-ltb _ 2 long, ← says, le-leb 4 _ h₄, le-leb _ 64 h₆₄, le-leb _ _ there, le-ltb _ _ h)

    pub ends : 4 ≤ size → size ≤ 64 → length carried < size → size ≤ length carried + length piece → Whole size ≡ begun (length carried) (front (carried ++ piece))
    unfolding front
    ends h₄ h₆₄ h room =
        let there : size ≤ length (carried ++ piece) = omega (arith, all_length) in
        rw (le-ltb _ 2 long, ← says, le-leb 4 _ h₄, le-leb _ 64 h₆₄, le-leb _ _ there, lt-ltb _ _ h)

    pub goes_on : 4 ≤ size → size ≤ 64 → length carried + length piece < size → Unended ≡ begun (length carried) (front (carried ++ piece))
    unfolding front
    goes_on h₄ h₆₄ h =
        let missing : length (carried ++ piece) < size = omega (arith, all_length) in
        rw (le-ltb _ 2 long, ← says, le-leb 4 _ h₄, le-leb _ 64 h₆₄, lt-leb _ _ missing)
