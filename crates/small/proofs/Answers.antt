-- What the readers answer, by their tests.
use Prim.Native.Nat.{ℕ, ◌+◌, ◌-◌, ◌/◌, ◌%◌, ◌<◌, ◌≤◌}
use mathlib.Core.Path.{◌≡◌, refl, sym, ap, ◌∙◌}
use mathlib.Core.Bool.{Bool, true, false, cond, true≢false}
use mathlib.Core.List.{List}
use native.Mathlib.Omega.{arith}
use borrow.Author.Tests.{eq-eqb, ne_eqb, eqb-true, le-leb, lt-leb, ltb-true, ltb-false}
use lib.Dec.{leb, ltb, eqb}
use lib.ListN.{length, get_or}
use Rattle.std.proofs.lemmas.Option.{slice_get_within, get_or_from_slice_get, slice_get-get_or, none-some}
use Rattle.std.proofs.Common.{slice_get, Option, Some, None}
use Rattle.std.specs.Option.{unwrap_or}
use Rattle.records.specs.Bodies.{Found, is, bad_at}
use Rattle.records.specs.Tables.{taken, refused}
use Rattle.records.proofs.Laws.{by_test, both}
use Rattle.callcontrol.specs.declared.call.Call.{Call}
use Rattle.small.specs.declared.flat.Timer.{Timer}
use Rattle.small.specs.Flat.{place}
use Rattle.small.specs.Entry.{spell}
use Rattle.small.proofs.Entries.{not_first}
use Rattle.small.proofs.Parts.{value_in, number_in, place_in, is_taken}
use Rattle.small.proofs.Places.{at_entry}
use Rattle.small.specs.Reading.{fill, total, filled, timed, slots, flat_at, with_slots, one_more, letters_for, sized_well, body_for, body_by, place_of, entries, kind_of, RETIRED, kind_by}

-- no timer has the place of none
pub no_place : (t : Timer) → place t ≡ 7 → ⊥
no_place Timer.T301 h = absurd (omega (arith, h))
no_place Timer.T302 h = absurd (omega (arith, h))
no_place Timer.T303 h = absurd (omega (arith, h))
no_place Timer.T306 h = absurd (omega (arith, h))
no_place Timer.T308 h = absurd (omega (arith, h))
no_place Timer.T310 h = absurd (omega (arith, h))
no_place Timer.T311 h = absurd (omega (arith, h))

-- what is filled, and what is not

all_in : (kind : ℕ) (x : Found (List ℕ)) (v : List ℕ) → taken v ≡ filled x → flat_at kind v ≡ timed kind x
all_in kind (is w) v h = ap (λ (z : List ℕ). flat_at kind z) (ap (value_in v) h)
all_in kind (bad_at p) v h = absurd (true≢false (ap is_taken h))

one_out : (kind : ℕ) (x : Found (List ℕ)) (n p : ℕ) → refused n p ≡ filled x → refused n p ≡ timed kind x
one_out kind (is w) n p h = absurd (true≢false (ap is_taken (sym h)))
one_out kind (bad_at q) n p h = rw (ap number_in h, ap place_in h) refl

module _ (entry kind : ℕ) (c : Call) (s : List ℕ) (o : Option ℕ) (body : unwrap_or o 0x100000 ≡ letters_for entry (length s)) where
  pub wrong_size : o ≡ None → refused 4 2 ≡ body_by entry kind c s
  unfolding body_by body_for
  wrong_size h = rw (← body, h) refl

  module _ (l : ℕ) (some : o ≡ Some l) (few : l < 0x100000) where
    is_letters : l ≡ letters_for entry (length s)
    is_letters = rw some at body

    by_letters : body_by entry kind c s ≡ timed kind (fill (spell 5 l) (slots c) s 4)
    unfolding body_by body_for
    by_letters = rw (← is_letters, ne_eqb l 0x100000 (λ z. absurd (omega (arith, few, z)))) refl

    pub wrong_field : (n p : ℕ) → refused n p ≡ filled (fill (spell 5 l) (slots c) s 4) → refused n p ≡ body_by entry kind c s
    wrong_field n p h = one_out kind (fill (spell 5 l) (slots c) s 4) n p h ∙ sym by_letters

    pub all_right : (v : List ℕ) → taken v ≡ filled (fill (spell 5 l) (slots c) s 4) → flat_at kind v ≡ body_by entry kind c s
    all_right v h = all_in kind (fill (spell 5 l) (slots c) s 4) v h ∙ sym by_letters

pub retired_kind : (n : ℕ) (c : Call) (s : List ℕ) → n ≡ RETIRED → refused 9 0 ≡ kind_by n c s
unfolding kind_by
retired_kind n c s h = rw (eq-eqb _ _ h) refl

-- the entry at a place of the table

within_table : (p e : ℕ) → slice_get entries p ≡ Some e → (p < 24) × (get_or entries p 0 ≡ e)
within_table p e h = (slice_get_within entries p e h, get_or_from_slice_get entries p e 0 h)

beyond : (p : ℕ) → slice_get entries p ≡ None → 23 < p
beyond p h = by_test (ltb 23 p) (λ t. ltb-true 23 p t) (λ f. absurd (none-some _ (sym h ∙ slice_get-get_or entries p 0 (omega (arith, ltb-false 23 p f)))))

module _ (n : ℕ) (c : Call) (s : List ℕ) (current : n ≡ RETIRED → ⊥) (p : ℕ) (place : p ≡ place_of n) where
  pub no_entry : slice_get entries p ≡ None → refused 3 0 ≡ kind_by n c s
  unfolding kind_by
  no_entry h = rw (ne_eqb _ _ current, ← place, lt-leb _ _ (beyond p h)) refl

  module _ (e : ℕ) (found : slice_get entries p ≡ Some e) where
    there : (p < 24) × (get_or entries p 0 ≡ e)
    there = within_table p e found

    pub behind_first : kind_of e ≡ n → 0 < p
    behind_first d = rw place (not_first n (rw (← place, there.1) d))

    pub other_kind : (kind_of e ≡ n → ⊥) → refused 3 0 ≡ kind_by n c s
    unfolding kind_by
    other_kind d = rw (ne_eqb _ _ current, ← place, le-leb p 23 (omega (arith, there.0)), there.1, ne_eqb _ _ d) refl

    pub its_kind : kind_of e ≡ n → body_by e (p - 1) c s ≡ kind_by n c s
    unfolding kind_by
    its_kind d = rw (ne_eqb _ _ current, ← place, le-leb p 23 (omega (arith, there.0)), there.1, eq-eqb _ _ d) refl

-- every entry's sizes are those of its letters
pub sized : (p e : ℕ) → slice_get entries p ≡ Some e → sized_well e ≡ true
unfolding sized_well total spell with_slots
sized p e h =
    let there = within_table p e h in
    rw (← there.1) (at_entry sized_well entries refl p (omega (arith, there.0)))

-- so the letters for a body are as long as it is
module _ (entry : ℕ) (well : sized_well entry ≡ true) where
  short_fits : 4 + total (spell 5 (entry % 0x10000)) ≡ entry / 0x10000 % 16
  unfolding sized_well
  short_fits = eqb-true _ _ (both _ _ well).0

  longer : (b : Bool) (x y : ℕ) → cond b (eqb x y) true ≡ true → b ≡ true → x ≡ y
  longer true x y h e = eqb-true x y h
  longer false x y h e = absurd (true≢false (sym e))

  long_fits : leb 0x80000000 entry ≡ true → 4 + total (spell 5 (with_slots (entry % 0x10000))) ≡ entry / 0x10000 % 16 + 1
  unfolding sized_well
  long_fits h = longer (leb 0x80000000 entry) _ _ (both (eqb (4 + total (spell 5 (entry % 0x10000))) (entry / 0x10000 % 16)) _ well).1 h

  pub fitting : (size l : ℕ) → l ≡ letters_for entry size → l < 0x100000 → (4 + total (spell 5 l) ≡ size) × (size ≤ 16)
  unfolding letters_for one_more
  fitting size l h some =
      by_test (eqb size (entry / 0x10000 % 16))
      (λ t.
      let is : l ≡ entry % 0x10000 = h ∙ rw t refl in
      let e = eqb-true size (entry / 0x10000 % 16) t in
      rw is (short_fits ∙ sym e, omega (arith, e)))
      (λ f. by_test (one_more entry size (entry / 0x10000 % 16))
      (λ t.
      let w = both (leb 0x80000000 entry) (eqb size (entry / 0x10000 % 16 + 1)) t in
      let is : l ≡ with_slots (entry % 0x10000) = h ∙ rw (f, t) refl in
      let e = eqb-true size (entry / 0x10000 % 16 + 1) w.1 in
      rw is (long_fits w.0 ∙ sym e, omega (arith, e)))
      (λ g.
      let none : l ≡ 0x100000 = h ∙ rw (f, g) refl in
      absurd (omega (arith, none, some))))
