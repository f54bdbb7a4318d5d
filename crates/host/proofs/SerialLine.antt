-- A reader as 2 bytes, there and back; and what the entries answer, from what their callees give.
use Prim.Native.Nat.{ℕ, zero, suc, ◌≤◌}
use mathlib.Core.Path.{◌≡◌, refl, sym, ◌∙◌, ap, subst}
use mathlib.Core.Bool.{Bool, true, false, cond}
use mathlib.Core.List.{List, [], ◌∷◌}
use native.Mathlib.Omega.{arith}
use borrow.Author.Tests.{eqb-true, leb-true, le-leb}
use lib.Dec.{eqb, leb}
use lib.ListN.{length, get_or}
use lib.Seq.{sets}
use Rattle.pieces.specs.declared.reader.Reader.{Reader}
use Rattle.std.specs.Prelude.{Some, None, Result, Ok, Err}
use Rattle.pieces.specs.declared.reader.Refusal.{Refusal}
use Rattle.pieces.specs.declared.reader.Found.{Found}
use Rattle.pieces.specs.Next.{Outcome, as_outcome, next_of}
use Rattle.pieces.specs.Claims.{Small}
use Rattle.pieces.proofs.Claims.{small_numbers}
use Rattle.host.specs.Packing.{flag}
use Rattle.host.specs.SerialLine.{reader_bytes, is_reader, reader_of, found_word, LeftByPiece, left_by, host_next, ReaderIsUnpacked, ReaderIsPacked, ReaderStays}
use Rattle.demands.proofs.Facts.{left, right}
use Rattle.host.proofs.Tested.{some_by_test, none_by_test}

-- ---- two bytes

pub record Two (s : List ℕ) : Type 0 where
  pub two : length s ≡ 2
  pub carried : get_or s 0 0 ≤ 63
  pub stopped : get_or s 1 0 ≤ 1

pub is_two : (s : List ℕ) → is_reader s ≡ true → Two s
unfolding is_reader
is_two s all =
    let two : eqb (length s) 2 ≡ true = search (left, right) depth 20 in
    let few : leb (get_or s 0 0) 63 ≡ true = search (left, right) depth 20 in
    let one : leb (get_or s 1 0) 1 ≡ true = search (left, right) depth 20 in
    record { two = eqb-true _ _ two; carried = leb-true _ _ few; stopped = leb-true _ _ one }

flag_there : (b : Bool) → (leb (flag b) 1 ≡ true) × (eqb (flag b) 1 ≡ b)
flag_there true = (refl, refl)
flag_there false = (refl, refl)

flag_back : (n : ℕ) → n ≤ 1 → flag (eqb n 1) ≡ n
flag_back zero h = refl
flag_back (suc zero) h = refl
flag_back (suc (suc n)) h = absurd (omega arith)

-- two bytes are stored over two
pub stored : (s : List ℕ) (a b : ℕ) → length s ≡ 2 → sets s 0 (a ∷ b ∷ []) ≡ a ∷ b ∷ []
stored [] a b e = absurd (omega arith)
stored (x ∷ []) a b e = absurd (omega arith)
stored (x ∷ y ∷ []) a b e = refl
stored (x ∷ y ∷ z ∷ s) a b e = absurd (omega arith)

both : (s : List ℕ) → length s ≡ 2 → get_or s 0 0 ∷ get_or s 1 0 ∷ [] ≡ s
both [] e = absurd (omega arith)
both (x ∷ []) e = absurd (omega arith)
both (x ∷ y ∷ []) e = refl
both (x ∷ y ∷ z ∷ s) e = absurd (omega arith)

pub reader_is_unpacked : ReaderIsUnpacked
unfolding is_reader
reader_is_unpacked r h =
    let f = flag_there r.stopped in
    (rw (le-leb r.carried 63 h, f.0), λ i. record { carried = r.carried; stopped = f.1 i })

pub reader_is_packed : ReaderIsPacked
reader_is_packed s is =
    let t = is_two s is in
    stored s (get_or s 0 0) (flag (eqb (get_or s 1 0) 1)) t.two
    ∙ ap (λ (n : ℕ). get_or s 0 0 ∷ n ∷ []) (flag_back (get_or s 1 0) t.stopped)
    ∙ both s t.two

pub reader_stays : ReaderStays
unfolding host_next
reader_stays s carry piece is =
    let t = is_two s is in
    let o = next_of (reader_of s) carry piece in
    let small = small_numbers (reader_of s) carry piece t.carried in
    rw (is, stored s o.reader.carried (flag o.reader.stopped) t.two) (reader_is_unpacked o.reader small.carried).0

-- ---- the entries

pub no_reader : (s carry piece : List ℕ) → None ≡ cond (is_reader s) (Some (reader_of s)) None
    → ◌≡◌ {A = LeftByPiece} (record { result = 16777216; reader = s; carry = carry }) (host_next s carry piece)
unfolding host_next
no_reader s carry piece none = rw (none_by_test _ _ none)

pub a_reader : (s : List ℕ) {r : Reader} → Some r ≡ cond (is_reader s) (Some (reader_of s)) None → Two s
a_reader s held = is_two s (some_by_test _ held).0

module _ (s carry piece : List ℕ) (o : Outcome) (r : Reader) (held : Some r ≡ cond (is_reader s) (Some (reader_of s)) None) (found : o ≡ next_of r carry piece) where
  of_the_bytes : o ≡ next_of (reader_of s) carry piece
  of_the_bytes = found ∙ ap (λ (x : Reader). next_of x carry piece) (sym (some_by_test _ held).1)

  -- what is found has small numbers
  pub small : Small o
  small = subst (λ (o : Outcome). Small o) (sym of_the_bytes) (small_numbers (reader_of s) carry piece (a_reader s held).carried)

  -- and is packed
  pub packs : {w : ℕ} {after : List ℕ} → after ≡ sets s 0 (reader_bytes o.reader) → w ≡ found_word o.answer o.lies o.size o.used
      → ◌≡◌ {A = LeftByPiece} (record { result = w; reader = after; carry = o.carry }) (host_next s carry piece)
  unfolding host_next
  packs {w} {after} pack word = rw ((some_by_test _ held).0, pack, word) (ap (left_by s) of_the_bytes)

pub next_reader : (f : Result Found Refusal) (next : Reader) (then : List ℕ) → (as_outcome f next then).reader ≡ next
next_reader (Ok f) next then = refl
next_reader (Err e) next then = refl
