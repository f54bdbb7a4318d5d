-- Reading and writing by a table: each kind's number and letters, and the values that they stand for.
use Rattle.std.specs.Prelude.{ℕ, ◌+◌, Bool, true, false, cond, ◌&&◌, List, [], ◌∷◌, eqb, length, Result, Ok, Err}
use Rattle.std.proofs.Math.Option.{Option, none, some}
use Rattle.records.specs.Letters.{Letter}
use Rattle.records.specs.Bodies.{Values, size, Flat, Found, is, bad_at, Wrote, body_of, kind_in, flat_fits, flat_bytes, written, unreadable_number, unreadable_place}
use Rattle.records.specs.declared.bodies.Unreadable.{Unreadable}

-- a line of a table
pub record Row : Type 0 where
  pub number : ℕ
  pub letters : List Letter

abbrev pub row : ℕ → List Letter → Row
row n ls = record { number = n; letters = ls }

-- what a reader finds: a value, or a refusal's number with its place, which counts from the record's first byte and is 0 for every number but 4
pub data Read (A : Type 0) : Type 0 where
  taken : A → Read A
  refused : ℕ → ℕ → Read A

-- a table, and what its lines stand for. `retired` are the numbers of kinds that are taken no more. `agrees` is what a value must meet beyond the ranges of its letters, and `clash` the place of the field that
-- is wrong where it does not
pub record Table : Type 1 where
  pub Kind : Type 0
  pub Value : Type 0
  pub kinds : List Kind
  pub retired : List ℕ
  pub row_of : Kind → Row
  pub value_of : (k : Kind) → Values (row_of k).letters → Value
  pub apart : Value → (k : Kind) × Values (row_of k).letters
  pub agrees : Value → Bool
  pub clash : ℕ

-- what follows where something was found, and else the refusal
abbrev pub or_refuse : {A B : Type 0} → ℕ → Option A → (A → Read B) → Read B
or_refuse n none f = refused n 0
or_refuse n (some a) f = f a

-- what follows where a body holds something, and else 4 with the place
abbrev pub or_place : {A B : Type 0} → Found A → (A → Read B) → Read B
or_place (is a) f = f a
or_place (bad_at p) f = refused 4 p

-- a kind of the size, or the place of the size
abbrev pub sized : {A : Type 0} → Option A → Found A
sized none = bad_at 2
sized (some k) = is k

-- whether a number stands in a list
abbrev pub listed : ℕ → List ℕ → Bool
listed n [] = false
listed n (m ∷ ms) = cond (eqb n m) true (listed n ms)

module _ (t : Table) where
  -- how many bytes a record of a kind has
  abbrev pub size_of : t.Kind → ℕ
  size_of k = 4 + size (t.row_of k).letters

  -- whether one of some kinds has a number
  abbrev pub known : ℕ → List t.Kind → Bool
  known n [] = false
  known n (k ∷ ks) = cond (eqb n (t.row_of k).number) true (known n ks)

  -- the one of them that has a number and a size
  abbrev pub find : ℕ → ℕ → List t.Kind → Option t.Kind
  find n z [] = none
  find n z (k ∷ ks) = cond (eqb n (t.row_of k).number && eqb z (size_of k)) (some k) (find n z ks)

  unfoldable pub read_body : t.Kind → List ℕ → Read t.Value
  read_body k s =
      or_place (body_of (t.row_of k).letters s)
      (λ vs. cond (t.agrees (t.value_of k vs)) (taken (t.value_of k vs)) (refused 4 t.clash))

  -- the record of one of some kinds by its number: 3 where none of them has it; else 4 at place 2 where none of those that have it has the size
  unfoldable pub read_among : List t.Kind → ℕ → List ℕ → Read t.Value
  read_among ks n s = cond (known n ks) (or_place (sized (find n (length s) ks)) (λ k. read_body k s)) (refused 3 0)

  -- the record of a kind by its number: 9 where the kind is retired, whatever the body
  unfoldable pub read_as : ℕ → List ℕ → Read t.Value
  read_as n s = cond (listed n t.retired) (refused 9 0) (read_among t.kinds n s)

  -- 2 for the length, 3 for the kind, 9 for a retired one, 4 for the body: the first of them that applies
  unfoldable pub read : List ℕ → Read t.Value
  read s = or_refuse 2 (kind_in s) (λ n. read_as n s)

  -- a kind with its values, and a value, as letters
  abbrev pub flat_of : (k : t.Kind) → Values (t.row_of k).letters → Flat
  flat_of k vs = record { kind = (t.row_of k).number; letters = (t.row_of k).letters; values = vs }

  abbrev pub flat : t.Value → Flat
  flat v = flat_of (t.apart v).0 (t.apart v).1

  unfoldable pub fine : t.Value → Bool
  fine v = flat_fits (flat v) && t.agrees v

  unfoldable pub write : t.Value → List ℕ → Wrote × List ℕ
  write v buffer = written (fine v) (flat_bytes (flat v)) buffer

-- the number, the place and the value of what the code reads
abbrev pub as_read : {A : Type 0} → Result A Unreadable → Read A
as_read (Ok v) = taken v
as_read (Err u) = refused (unreadable_number u) (unreadable_place u)
