-- What a reader by a table answers, by the way on which the code came to its answer.
use mathlib.Core.Path.{◌≡◌, refl, sym, ◌∙◌}
use mathlib.Core.Bool.{Bool, true, false, cond}
use mathlib.Core.List.{List, [], ◌∷◌, ◌++◌}
use mathlib.Core.Option.{none, some}
use Prim.Native.Nat.{ℕ, ◌+◌, ◌<◌, ◌≤◌}
use native.Mathlib.Omega.{arith}
use borrow.Author.Tests.{eq-eqb, ne_eqb, eqb-true, eqb-false}
use lib.Dec.{eqb}
use lib.ListN.{length}
use Rattle.records.specs.Bodies.{Values, size, body_of, kind_in, size_or_place}
use Rattle.records.specs.Tables.{Table, Read, as_read, taken, refused, find, known, listed, size_of, read_body, read_among, read_as, read}
use Rattle.records.specs.Laws.{every}
use Rattle.records.proofs.Laws.{by_test, both}
use Rattle.std.proofs.Common.{Result, Ok, Err}
use Rattle.records.specs.declared.bodies.Unreadable.{Unreadable}
use Rattle.records.proofs.Reading.{Good, Bad, Refused, Passes, passed}

-- ---- the body of a kind

module _ (t : Table) (k : t.Kind) (s : List ℕ) where
  -- it has another size
  pub other_size : (length s ≡ 4 + size (t.row_of k).letters → ⊥) → refused 4 2 ≡ read_body t k s
  unfolding read_body body_of
  other_size other = rw (ne_eqb _ _ other)

  module _ (whole : length s ≡ 4 + size (t.row_of k).letters) where
    -- it has a wrong field
    pub bad : {p : ℕ} → Bad (t.row_of k).letters s 4 p → refused 4 p ≡ read_body t k s
    unfolding read_body body_of
    bad body = rw (eq-eqb _ _ whole, ← body.first)

    module _ {vs : Values (t.row_of k).letters} (body : Good (t.row_of k).letters s 4 vs) where
      -- it holds values that agree
      pub good : t.agrees (t.value_of k vs) ≡ true → taken (t.value_of k vs) ≡ read_body t k s
      unfolding read_body body_of
      good agrees = rw (eq-eqb _ _ whole, ← body.held, agrees)

      -- it holds values that do not agree
      pub apart : t.agrees (t.value_of k vs) ≡ false → refused 4 t.clash ≡ read_body t k s
      unfolding read_body body_of
      apart agrees = rw (eq-eqb _ _ whole, ← body.held, agrees)

-- ---- the kind that a number and a size lead to, among some kinds

-- the one that has the number and the size
module _ (t : Table) (ks : List t.Kind) (k : t.Kind) {n : ℕ} (s : List ℕ) (key : n ≡ (t.row_of k).number) (kn : known t (t.row_of k).number ks ≡ true) where
  pub by_size : length s ≡ size_of t k → find t (t.row_of k).number (size_of t k) ks ≡ some k → {r : Read t.Value} → r ≡ read_body t k s → r ≡ read_among t ks n s
  unfolding read_among
  by_size whole found e = rw (key, kn, whole, found) e

-- the only one of them that has the number
module _ (t : Table) (ks : List t.Kind) (k : t.Kind) {n : ℕ} (s : List ℕ) (key : n ≡ (t.row_of k).number) (kn : known t (t.row_of k).number ks ≡ true) (only : find t (t.row_of k).number (length s) ks ≡ cond (eqb (length s) (size_of t k)) (some k) none) {r : Result Unit Unreadable} (tested : r ≡ size_or_place (eqb (length s) (size_of t k))) where
  pub wrong_size : {u : Unreadable} → r ≡ Err u → (q : Result t.Value Unreadable) → Passes u q → as_read q ≡ read_among t ks n s
  unfolding read_among
  wrong_size {u} was q passes =
      by_test (eqb (length s) (size_of t k))
      (λ h. let z : Err u ≡ Ok tt = sym was ∙ rw h at tested in cc)
      (λ h. let z : Err u ≡ Err (Unreadable.BadBody 2) = sym was ∙ rw h at tested in let y : u ≡ Unreadable.BadBody 2 = cc in rw (passed q passes, y, key, kn, only, h))

  of_one : r ≡ Ok tt → {x : Read t.Value} → (length s ≡ size_of t k → x ≡ read_body t k s) → x ≡ read_among t ks n s
  unfolding read_among
  of_one was f =
      by_test (eqb (length s) (size_of t k))
      (λ h. rw (key, kn, only, h) (f (eqb-true _ _ h)))
      (λ h. let z : Ok tt ≡ Err (Unreadable.BadBody 2) = sym was ∙ rw h at tested in cc)

  pub wrong_field : {u : Unreadable} → r ≡ Ok tt → Refused (t.row_of k).letters s 4 u → (q : Result t.Value Unreadable) → Passes u q → as_read q ≡ read_among t ks n s
  wrong_field {u} was body q passes =
      rw (passed q passes, body.said) (of_one was (λ w. bad t k s w body.bad))

  -- the fields are in their ranges and do not agree
  pub wrong_together : {vs : Values (t.row_of k).letters} → r ≡ Ok tt → Good (t.row_of k).letters s 4 vs → t.agrees (t.value_of k vs) ≡ false → refused 4 t.clash ≡ read_among t ks n s
  wrong_together was body agrees = of_one was (λ w. apart t k s w body agrees)

  pub right_body : {vs : Values (t.row_of k).letters} → r ≡ Ok tt → Good (t.row_of k).letters s 4 vs → t.agrees (t.value_of k vs) ≡ true → taken (t.value_of k vs) ≡ read_among t ks n s
  right_body was body agrees = of_one was (λ w. good t k s w body agrees)

-- two kinds that have the number, the second one byte longer
module _ (t : Table) (ks : List t.Kind) (k l : t.Kind) {n : ℕ} (s : List ℕ) (key : n ≡ (t.row_of k).number) (kn : known t (t.row_of k).number ks ≡ true) (two : find t (t.row_of k).number (length s) ks ≡ cond (eqb (length s) (size_of t k)) (some k) (cond (eqb (length s) (size_of t l)) (some l) none)) (longer : size_of t l ≡ size_of t k + 1) where
  neither : (length s ≡ size_of t k → ⊥) → (length s ≡ size_of t l → ⊥) → refused 4 2 ≡ read_among t ks n s
  unfolding read_among
  neither other others = rw (key, kn, two, ne_eqb _ _ other, ne_eqb _ _ others)

  pub under : length s < size_of t k → refused 4 2 ≡ read_among t ks n s
  under h = neither (λ z. omega arith) (λ z. omega arith)

  pub beyond : size_of t l < length s → refused 4 2 ≡ read_among t ks n s
  beyond h = neither (λ z. omega arith) (λ z. omega arith)

  -- what is so for a body of either size
  pub of_two : size_of t k ≤ length s → length s ≤ size_of t l → {r : Read t.Value} → (length s ≡ size_of t k → r ≡ read_body t k s) → (length s ≡ size_of t l → r ≡ read_body t l s) → r ≡ read_among t ks n s
  unfolding read_among
  of_two low high old new =
      by_test (eqb (length s) (size_of t k))
      (λ h. rw (key, kn, two, h) (old (eqb-true _ _ h)))
      (λ h.
      let other : length s ≡ size_of t k → ⊥ = eqb-false _ _ h in
      let whole : length s ≡ size_of t l = omega arith in rw (key, kn, two, h, eq-eqb _ _ whole) (new whole))

module _ (t : Table) (n : ℕ) (s : List ℕ) where
  -- all kinds, where the number is not retired
  pub of_all : listed n t.retired ≡ false → {r : Read t.Value} → r ≡ read_among t t.kinds n s → r ≡ read_as t n s
  unfolding read_as
  of_all current e = rw current e

  -- a retired number
  pub of_none : listed n t.retired ≡ true → refused 9 0 ≡ read_as t n s
  unfolding read_as
  of_none retired = rw retired

-- ---- a number that none of some kinds has

module _ (n : ℕ) where
  -- it is none of some numbers, as the last arm of a match knows it
  abbrev pub Others : Type 0 → List ℕ → Type 0
  Others T [] = T
  Others T (m ∷ ms) = Others (T × (n ≡ m → ⊥)) ms

  apart_from : {T : Type 0} (ms : List ℕ) → Others T ms → ((m : ℕ) → listed m ms ≡ true → n ≡ m → ⊥) × T
  apart_from {T = T} [] rest = (λ m h e. let z : ◌≡◌ {A = Bool} false true = h in let y : ◌≡◌ {A = ℕ} 0 1 = cc in omega arith, rest)
  apart_from {T = T} (x ∷ ms) rest =
      let r = apart_from {T = T × (n ≡ x → ⊥)} ms rest in
      (λ m h e. by_test (eqb m x) (λ y. r.1.1 (e ∙ eqb-true m x y)) (λ no. r.0 m (rw no at h) e), r.1.0)

module _ (t : Table) (n : ℕ) (ms : List ℕ) where
  elsewhere : ((m : ℕ) → listed m ms ≡ true → n ≡ m → ⊥) → (ks ls : List t.Kind) → every (λ k. listed (t.row_of k).number ms) ks ≡ true → (known t n (ks ++ ls) ≡ known t n ls) × ((z : ℕ) → find t n z (ks ++ ls) ≡ find t n z ls)
  elsewhere f [] ls h = (refl, λ z. refl)
  elsewhere f (k ∷ ks) ls h =
      let w : (listed (t.row_of k).number ms ≡ true) × (every (λ j. listed (t.row_of j).number ms) ks ≡ true) = both _ _ h in
      let r = elsewhere f ks ls w.1 in
      (rw (ne_eqb _ _ (f (t.row_of k).number w.0)) r.0, λ z. rw (ne_eqb _ _ (f (t.row_of k).number w.0)) (r.1 z))

  -- the kinds of those numbers are passed over
  pub past_kinds : (ks ls : List t.Kind) (s : List ℕ) → every (λ k. listed (t.row_of k).number ms) ks ≡ true → Others n (Unit {0}) ms → {r : Read t.Value} → r ≡ read_among t ls n s → r ≡ read_among t (ks ++ ls) n s
  unfolding read_among
  past_kinds ks ls s all rest e =
      let w = elsewhere (apart_from n ms rest).0 ks ls all in rw (w.0, w.1 (length s)) e

  -- and behind the last there is none
  pub unknown : (ks : List t.Kind) (s : List ℕ) → every (λ k. listed (t.row_of k).number ms) ks ≡ true → Others n (Unit {0}) ms → refused 3 0 ≡ read_among t (ks ++ []) n s
  unfolding read_among
  unknown ks s all rest = past_kinds ks [] s all rest refl

module _ (t : Table) where
  -- a record whose length is wrong
  pub headless : (s : List ℕ) → none ≡ kind_in s → refused 2 0 ≡ read t s
  unfolding read
  headless s e = rw (← e)

  -- a record whose length is right
  pub headed : (s : List ℕ) {n : ℕ} {r : Read t.Value} → some n ≡ kind_in s → r ≡ read_as t n s → r ≡ read t s
  unfolding read
  headed s e h = rw (← e) h
