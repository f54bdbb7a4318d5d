-- A record written: the tests of its fields, and the head and the body stored one after the other, are those of its row.
use Prim.Native.Nat.{ℕ, ◌+◌, ◌-◌, ◌/◌, ◌%◌, ◌<◌, ◌≤◌}
use mathlib.Core.Bool.{Bool, true, false, ◌&&◌, and-true}
use mathlib.Core.List.{List, [], ◌∷◌, ◌++◌, append_assoc}
use mathlib.Core.Path.{◌≡◌, refl, sym, ◌∙◌, ap}
use native.Mathlib.Nat.{zero-add, mod-eq_of_lt}
use native.Mathlib.Omega.{arith}
use borrow.Author.Tests.{lt-leb, le-leb, ltb-true}
use lib.Dec.{leb}
use lib.ListN.{length}
use lib.Seq.{sets, sets-eq}
use borrow.Rule.Slice.PartMut.{put_mid, Post-is}
use Rattle.std.specs.Int.{w16, w32, to_le_bytes}
use lib.ListN.{get_or}
use Rattle.records.specs.declared.letters.Byte.{Byte}
use Rattle.records.specs.declared.letters.Word.{Word}
use Rattle.records.specs.declared.letters.Long.{Long}
use Rattle.records.specs.Bytes.{bytes}
use Rattle.records.specs.Letters.{Letter, fits}
use Rattle.records.specs.Bodies.{Values, Flat, Stored, Wrote, wrote, not_written, size, all_fit, body_bytes, flat_size, flat_fits, flat_bytes, written, line_bytes, laid, laid_next}
use Rattle.records.specs.Tables.{Table, flat, fine}
use Rattle.records.specs.declared.events.Event.{Event}
use Rattle.records.specs.declared.messages.Message.{Message}
use Rattle.records.specs.Events.{events, event_bytes}
use Rattle.records.specs.Messages.{messages, message_bytes}
use Rattle.records.specs.Records.{short}
use Rattle.records.proofs.Laws.{both, by_test, length-body_bytes}

-- ---- the tests

-- a test of every value at its letter
pub record Tested (ls : List Letter) (vs : Values ls) (b : Bool) : Type 0 where
  pub same : b ≡ all_fit ls vs

pub none : Tested [] tt true
unfolding all_fit
none = record { same = refl }

pub only : {l : Letter} {v : ℕ} {b : Bool} → b ≡ fits l v → Tested (l ∷ []) (v, tt) b
unfolding all_fit
only e = record { same = e ∙ sym (and-true _) }

pub also : {l : Letter} {ls : List Letter} {v : ℕ} {vs : Values ls} {a b : Bool} → a ≡ fits l v → Tested ls vs b → Tested (l ∷ ls) (v, vs) (a && b)
unfolding all_fit
also e t = record { same = rw (e, t.same) }

-- ---- a body as its bytes

-- the bytes of letters' values
pub record Body (ls : List Letter) (vs : Values ls) (out : List ℕ) : Type 0 where
  pub are : out ≡ body_bytes ls vs

pub end : Body [] tt []
unfolding body_bytes
end = record { are = refl }

module _ {ls : List Letter} {vs : Values ls} {out : List ℕ} where
  pub byte_then : {b : Byte} {v : ℕ} → v < 256 → Body ls vs out → Body (Letter.byte b ∷ ls) (v, vs) (v ∷ out)
  unfolding body_bytes bytes
  byte_then {v = v} small rest = let e : v % 256 ≡ v = mod-eq_of_lt small in record { are = rw (e, rest.are) }

  pub word_then : {w : Word} {v : ℕ} {r : List ℕ} → r ≡ to_le_bytes w16 v → Body ls vs out → Body (Letter.word w ∷ ls) (v, vs) (get_or r 0 0 ∷ get_or r 1 0 ∷ out)
  unfolding body_bytes bytes
  word_then same rest = record { are = rw (same, rest.are) }

  pub long_then : {a : Long} {v : ℕ} {r : List ℕ} → r ≡ to_le_bytes w32 v → Body ls vs out → Body (Letter.long a ∷ ls) (v, vs) (get_or r 0 0 ∷ get_or r 1 0 ∷ get_or r 2 0 ∷ get_or r 3 0 ∷ out)
  unfolding body_bytes bytes
  long_then {v = v} same rest =
      let third : v / 65536 ≡ v / 256 / 256 = omega arith in
      let fourth : v / 16777216 ≡ v / 256 / 256 / 256 = omega arith in
      record { are = rw (same, third, fourth, rest.are) }

-- ---- a record into a buffer

module _ (out buffer : List ℕ) (at : ℕ) where
  -- nothing where there is no room from a position on
  pub no_room : length buffer < at + length out → ◌≡◌ {A = ℕ × List ℕ} (at, buffer) (laid_next out buffer at, laid out buffer at)
  unfolding laid laid_next
  no_room h = rw (lt-leb (at + length out) (length buffer) h)

  -- and else all
  pub all_laid : {next : ℕ} {new : List ℕ} → at + length out ≤ length buffer → Stored buffer at out next new → ◌≡◌ {A = ℕ × List ℕ} (next, new) (laid_next out buffer at, laid out buffer at)
  unfolding laid laid_next
  all_laid h s = rw (le-leb (at + length out) (length buffer) h, s.end, s.now)

-- a part copied into a buffer
pub copied : (old : List ℕ) (at end : ℕ) (part : List ℕ) → end ≡ at + length part → end ≤ length old → Stored old at part end (put_mid at (end - at) old part)
copied old at end part e room =
    let behind : at ≤ end = omega arith in
    record { end = e; now = rw (Post-is at end old behind, e, ← append_assoc) (sym (sets-eq part old at (omega arith))) }

-- the length takes two bytes, which are those of its remainder by 65536
two_bytes : (v : ℕ) → bytes 2 (v % 65536) ≡ bytes 2 v
unfolding bytes
two_bytes v =
    let a : v % 65536 % 256 ≡ v % 256 = omega arith in
    let b : v % 65536 / 256 % 256 ≡ v / 256 % 256 = omega arith in
    rw (a, b)

-- the head before a body
pub headed : (kind size : ℕ) {r q body : List ℕ} → r ≡ to_le_bytes w16 (size % 65536) → q ≡ to_le_bytes w16 kind → size ≡ 4 + length body → (get_or r 0 0 ∷ get_or r 1 0 ∷ get_or q 0 0 ∷ get_or q 1 0 ∷ []) ++ body ≡ line_bytes kind body
unfolding line_bytes bytes
headed kind size {body = body} e f same =
    let two : bytes 2 (size % 65536) ≡ bytes 2 (4 + length body) = rw (two_bytes, same) in
    rw (e, f) (ap (λ (l : List ℕ). l ++ (kind % 256 ∷ kind / 256 % 256 ∷ body)) two)

-- a record by its kind and its body
pub row_bytes : (f : Flat) {out : List ℕ} → Body f.letters f.values out → line_bytes f.kind out ≡ flat_bytes f
unfolding line_bytes flat_bytes flat_size
row_bytes f body = rw (body.are, length-body_bytes)

pub message_line : (m : Message) {out : List ℕ} → Body (flat messages m).letters (flat messages m).values out → line_bytes (flat messages m).kind out ≡ message_bytes m
unfolding message_bytes
message_line m body = row_bytes (flat messages m) body

pub event_line : (e : Event) {out : List ℕ} → Body (flat events e).letters (flat events e).values out → line_bytes (flat events e).kind out ≡ event_bytes e
unfolding event_bytes
event_line e body = row_bytes (flat events e) body

module _ (t : Table) (v : t.Value) where
  -- every test of a value
  pub all_fit_lem : {b : Bool} → Tested (flat t v).letters (flat t v).values b → t.agrees v ≡ true → b ≡ fine t v
  unfolding fine flat_fits
  all_fit_lem tested agrees = rw (agrees, and-true) tested.same

  pub agreeing : {b c : Bool} → Tested (flat t v).letters (flat t v).values b → c ≡ t.agrees v → (b && c) ≡ fine t v
  unfolding fine flat_fits
  agreeing tested agrees = rw (agrees, tested.same)

-- what is written by a test of the fields
module _ (out buffer : List ℕ) {fine b : Bool} (same : b ≡ fine) where
  pub untested : b ≡ false → (not_written 4, buffer) ≡ written fine out buffer
  unfolding written
  untested h = rw (← same, h)

  pub tested : b ≡ true → {w : Wrote × List ℕ} → w ≡ written true out buffer → w ≡ written fine out buffer
  tested h e = rw (← same, h) e

pub some_bytes : (out : List ℕ) → short out ≡ true → 0 < length out
some_bytes out h = ltb-true _ _ (both _ _ h).0

-- ---- a record, from what laying it at the front leaves

module _ (out buffer : List ℕ) {new : List ℕ} {n : ℕ} (put : ◌≡◌ {A = ℕ × List ℕ} (n, new) (laid_next out buffer 0, laid out buffer 0)) (some : 0 < length out) where
  -- none of it where it does not fit, and else all
  pub put_none : n ≡ 0 → (not_written 7, new) ≡ written true out buffer
  unfolding laid laid_next written
  put_none zero =
      by_test (leb (length out) (length buffer))
      (λ h. let e : n ≡ length out = rw (zero-add, h) at (ap (λ (p : ℕ × List ℕ). p.0) put) in absurd (omega (arith, e)))
      (λ h. let e : new ≡ buffer = rw (zero-add, h) at (ap (λ (p : ℕ × List ℕ). p.1) put) in rw (h, e))

  pub put_all : (n ≡ 0 → ⊥) → (wrote n, new) ≡ written true out buffer
  unfolding laid laid_next written
  put_all other =
      by_test (leb (length out) (length buffer))
      (λ h.
      let e : n ≡ length out = rw (zero-add, h) at (ap (λ (p : ℕ × List ℕ). p.0) put) in
      let f : new ≡ sets buffer 0 out = rw (zero-add, h) at (ap (λ (p : ℕ × List ℕ). p.1) put) in
      rw (h, e, f))
      (λ h. let e : n ≡ 0 = rw (zero-add, h) at (ap (λ (p : ℕ × List ℕ). p.0) put) in absurd (other e))
