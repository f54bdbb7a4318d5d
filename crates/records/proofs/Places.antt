-- Where 4 comes back, its place is that of the first thing wrong with the body, and no other answer has a place: for any lawful table, by
-- induction over the letters of a row.
use Prim.Native.Nat.{ℕ, ◌+◌}
use mathlib.Core.Path.{◌≡◌, refl, sym, subst, ◌∙◌, ap}
use mathlib.Core.Bool.{Bool, true, false, cond}
use mathlib.Core.List.{List, [], ◌∷◌, ◌++◌}
use mathlib.Core.Logic.{◌⊎◌, inl, inr, ⊎_elim}
use mathlib.Core.Option.{Option, none, some}
use native.Mathlib.Omega.{arith}
use borrow.Author.Tests.{eq-eqb}
use lib.ListN.{length}
use Rattle.records.specs.Bytes.{number}
use Rattle.records.specs.Letters.{Letter, width, fits}
use Rattle.records.specs.Bodies.{Values, Found, is, bad_at, and_then, size, value_at, values_at, numbers_at, kind_in, body_of, all_fit}
use Rattle.records.specs.Tables.{Table, Read, taken, refused, or_refuse, or_place, find, known, listed, size_of, sized, read_body, read_among, read_as, read}
use Rattle.records.specs.Events.{events}
use Rattle.records.specs.Messages.{messages}
use Rattle.records.specs.Laws.{Lawful, FirstWrong, WrongBody, wrong_size, wrong_field, wrong_together, PlaceIsWrong, WrongHasPlace, PlaceOnlyWithFour}
use Rattle.records.proofs.Tables.{event_lawful, message_lawful}
use Rattle.records.proofs.Laws.{both, by_test}
use Rattle.records.proofs.Reading.{Bad}
use Rattle.records.proofs.RoundTrip.{one_more, found_number, found_size, found_known, known_kind, in_force}
use Rattle.records.proofs.Rows.{by_size, of_all, bad, apart, headed}

-- ---- letters

-- letters that all fit hold their numbers
pub all_fit_lem : (ls : List Letter) (s : List ℕ) (at : ℕ) → all_fit ls (numbers_at ls s at) ≡ true → values_at ls s at ≡ is (numbers_at ls s at)
unfolding values_at value_at numbers_at all_fit
all_fit_lem [] s at h = refl
all_fit_lem (l ∷ ls) s at h =
    let f : (fits l (number (width l) s at) ≡ true) × (all_fit ls (numbers_at ls s (at + width l)) ≡ true) = both _ _ h in
    rw (f.0, all_fit_lem ls s (at + width l) f.1)

-- and letters that hold values all fit
pub values_fit : (ls : List Letter) (vs : Values ls) (s : List ℕ) (at : ℕ) → values_at ls s at ≡ is vs → (vs ≡ numbers_at ls s at) × (all_fit ls (numbers_at ls s at) ≡ true)
unfolding values_at value_at numbers_at all_fit
values_fit [] vs s at e = (refl, refl)
values_fit (l ∷ ls) vs s at e =
    let p : (fits l (number (width l) s at) ≡ true) × ((number (width l) s at ≡ vs.0) × (values_at ls s (at + width l) ≡ is vs.1)) = one_more _ _ _ _ _ _ e in
    let rest : (vs.1 ≡ numbers_at ls s (at + width l)) × (all_fit ls (numbers_at ls s (at + width l)) ≡ true) = values_fit ls vs.1 s (at + width l) p.1.1 in
    (rw (p.1.0, ← rest.0), rw (p.0, rest.1))

-- letters of which one is wrong do not all fit
pub wrong_misfits : (ls : List Letter) (s : List ℕ) (at : ℕ) {p : ℕ} → values_at ls s at ≡ bad_at p → all_fit ls (numbers_at ls s at) ≡ false
wrong_misfits ls s at {p} e =
    by_test (all_fit ls (numbers_at ls s at)) (λ h. let f : bad_at p ≡ is (numbers_at ls s at) = sym e ∙ all_fit_lem ls s at h in cc) (λ h. h)

-- a first letter that is wrong, or that is right with a wrong one behind it
first : {A B : Type 0} (b : Bool) (x : A) (at p : ℕ) (o : Found B) → and_then (cond b (is x) (bad_at at)) (λ v. and_then {B = A × B} o (λ w. is (v, w))) ≡ bad_at p → ((b ≡ false) × (at ≡ p)) ⊎ ((b ≡ true) × (o ≡ bad_at p))
first true x at p (is w) e = inr (refl, cc)
first true x at p (bad_at q) e = inr (refl, cc)
first false x at p o e = inl (refl, cc)

module _ {l : Letter} {ls : List Letter} {s : List ℕ} {at : ℕ} where
  here : fits l (number (width l) s at) ≡ false → FirstWrong (l ∷ ls) s at at
  unfolding all_fit
  here h = record { before = []; letter = l; after = ls; whole = refl; place = omega arith; right = refl; wrong = h }

  further : {p : ℕ} → fits l (number (width l) s at) ≡ true → FirstWrong ls s (at + width l) p → FirstWrong (l ∷ ls) s at p
  unfolding all_fit numbers_at
  further h w =
      record {
        before = l ∷ w.before;
        letter = w.letter;
        after = w.after;
        whole = ap (λ ms. l ∷ ms) w.whole;
        place = omega (arith, w.place);
        right = rw (h, w.right);
        wrong = w.wrong;
      }

first_wrong : (ls : List Letter) (s : List ℕ) (at p : ℕ) → values_at ls s at ≡ bad_at p → FirstWrong ls s at p
unfolding values_at value_at
first_wrong [] s at p e = let z : ◌≡◌ {A = ℕ} 0 1 = cc in absurd (omega arith)
first_wrong (l ∷ ls) s at p e =
    ⊎_elim (λ w. subst (λ (q : ℕ). FirstWrong (l ∷ ls) s at q) w.1 (here w.0)) (λ w. further w.0 (first_wrong ls s (at + width l) p w.1))
    (first _ _ at p _ e)

wrong_behind : (before : List Letter) (l : Letter) (after : List Letter) (s : List ℕ) (at p : ℕ) → p ≡ at + size before → all_fit before (numbers_at before s at) ≡ true → fits l (number (width l) s p) ≡ false → values_at (before ++ (l ∷ after)) s at ≡ bad_at p
unfolding values_at value_at numbers_at all_fit
wrong_behind [] l after s at p place right wrong = let e : at ≡ p = omega arith in rw (e, wrong)
wrong_behind (m ∷ ms) l after s at p place right wrong =
    let f : (fits m (number (width m) s at) ≡ true) × (all_fit ms (numbers_at ms s (at + width m)) ≡ true) = both _ _ right in
    rw (f.0, wrong_behind ms l after s (at + width m) p (omega arith) f.1 wrong)

first_bad : {ls : List Letter} {s : List ℕ} {at p : ℕ} → FirstWrong ls s at p → Bad ls s at p
first_bad {ls} {s} {at} {p} w =
    let e : values_at (w.before ++ (w.letter ∷ w.after)) s at ≡ bad_at p = wrong_behind w.before w.letter w.after s at p w.place w.right w.wrong in
    record { first = sym (subst (λ (ms : List Letter). values_at ms s at ≡ bad_at p) (sym w.whole) e) }

-- ---- the way to an answer

by_body : {A B : Type 0} (o : Found A) → ((a : A) → o ≡ is a → B) → ((p : ℕ) → o ≡ bad_at p → B) → B
by_body (is a) held wrong = held a refl
by_body (bad_at p) held wrong = wrong p refl

-- 4 is not another refusal
passed : {A B : Type 0} (n : ℕ) (o : Option A) (f : A → Read B) (p : ℕ) → (n ≡ 4 → ⊥) → or_refuse n o f ≡ refused 4 p → (a : A) × ((o ≡ some a) × (f a ≡ refused 4 p))
passed n none f p other e = let four : n ≡ 4 = cc in absurd (other four)
passed n (some a) f p other e = (a, (refl, e))

clashes : {A : Type 0} (b : Bool) (x : A) (q p : ℕ) → cond b (taken x) (refused 4 q) ≡ refused 4 p → (b ≡ false) × (q ≡ p)
clashes true x q p e = (cc, cc)
clashes false x q p e = (refl, cc)

-- a refusal without a place, unless it is 4
abbrev Placeless : {A : Type 0} → Read A → Type 0
Placeless r = (n p : ℕ) → r ≡ refused n p → (n ≡ 4 → ⊥) → p ≡ 0

unplaced : {A B : Type 0} (m : ℕ) (o : Option A) (f : A → Read B) → ((a : A) → Placeless (f a)) → Placeless (or_refuse m o f)
unplaced m none f rest n p e other = cc
unplaced m (some a) f rest n p e other = rest a n p e other

four : {A : Type 0} (b : Bool) (x : A) (q : ℕ) → Placeless (cond b (taken x) (refused 4 q))
four true x q n p e other = cc
four false x q n p e other = let is_four : n ≡ 4 = cc in absurd (other is_four)

body_four : {A B : Type 0} (o : Found A) (f : A → Read B) → ((a : A) → Placeless (f a)) → Placeless (or_place o f)
body_four (is a) f rest n p e other = rest a n p e other
body_four (bad_at q) f rest n p e other = let is_four : n ≡ 4 = cc in absurd (other is_four)

not_nine : {A : Type 0} (b : Bool) (x : Read A) (p : ℕ) → cond b (refused 9 0) x ≡ refused 4 p → x ≡ refused 4 p
not_nine true x p e = let z : ◌≡◌ {A = ℕ} 9 4 = cc in absurd (omega arith)
not_nine false x p e = e

nine_four : {A : Type 0} (b : Bool) (x : Read A) → Placeless x → Placeless (cond b (refused 9 0) x)
nine_four true x rest n p e other = cc
nine_four false x rest n p e other = rest n p e other

not_three : {A : Type 0} (b : Bool) (x : Read A) (p : ℕ) → cond b x (refused 3 0) ≡ refused 4 p → (b ≡ true) × (x ≡ refused 4 p)
not_three true x p e = (refl, e)
not_three false x p e = let z : ◌≡◌ {A = ℕ} 3 4 = cc in absurd (omega arith)

three_four : {A : Type 0} (b : Bool) (x : Read A) → Placeless x → Placeless (cond b x (refused 3 0))
three_four true x rest n p e other = rest n p e other
three_four false x rest n p e other = cc

module _ (t : Table) (lawful : Lawful t) where
  -- a body of the right size
  wrong_in : (k : t.Kind) (s : List ℕ) (p : ℕ) → length s ≡ 4 + size (t.row_of k).letters → or_place (values_at (t.row_of k).letters s 4) (λ vs. cond (t.agrees (t.value_of k vs)) (taken (t.value_of k vs)) (refused 4 t.clash)) ≡ refused 4 p → WrongBody t k s p
  wrong_in k s p whole e =
      by_body (values_at (t.row_of k).letters s 4)
      (λ vs held.
      let fit : (vs ≡ numbers_at (t.row_of k).letters s 4) × (all_fit (t.row_of k).letters (numbers_at (t.row_of k).letters s 4) ≡ true) = values_fit _ vs s 4 held in
      let f : (t.agrees (t.value_of k vs) ≡ false) × (t.clash ≡ p) = clashes _ _ _ _ (rw held at e) in
      subst (WrongBody t k s) f.1 (wrong_together whole fit.1 (rw fit.0 at f.0)))
      (λ q wrong. let same : q ≡ p = cc (rw wrong at e) in wrong_field whole (subst (FirstWrong (t.row_of k).letters s 4) same (first_wrong _ s 4 q wrong)))

  wrong_body : (k : t.Kind) (s : List ℕ) (p : ℕ) → length s ≡ size_of t k → read_body t k s ≡ refused 4 p → WrongBody t k s p
  unfolding read_body body_of
  wrong_body k s p whole e = wrong_in k s p whole (rw (eq-eqb _ _ whole) at e)

  -- no kind of a number has a size
  none_so : (n : ℕ) (s : List ℕ) → find t n (length s) t.kinds ≡ none → (j : t.Kind) → (t.row_of j).number ≡ n → length s ≡ size_of t j → ⊥
  none_so n s missing j key whole =
      let e : find t n (length s) t.kinds ≡ some j = rw (← key, whole) (lawful.found j) in
      let z : ◌≡◌ {A = ℕ} 0 1 = cc in omega arith

  of_number : (n : ℕ) (s : List ℕ) (p : ℕ) (o : Option t.Kind) → find t n (length s) t.kinds ≡ o → known t n t.kinds ≡ true → or_place (sized o) (λ k. read_body t k s) ≡ refused 4 p → (k : t.Kind) × ((n ≡ (t.row_of k).number) × WrongBody t k s p)
  of_number n s p none missing kn e =
      let w : (k : t.Kind) × (n ≡ (t.row_of k).number) = known_kind t lawful n t.kinds kn in
      let two : 2 ≡ p = cc in
      (w.0, (w.1, subst (WrongBody t w.0 s) two (wrong_size (λ j key whole. none_so n s missing j (key ∙ sym w.1) whole))))
  of_number n s p (some k) found kn e = (k, (found_number t lawful n (length s) t.kinds k found, wrong_body k s p (found_size t lawful n (length s) t.kinds k found) e))

  pub place_is_wrong : PlaceIsWrong t
  unfolding read read_as read_among
  place_is_wrong s p e =
      let head : (n : ℕ) × ((kind_in s ≡ some n) × (read_as t n s ≡ refused 4 p)) = passed 2 (kind_in s) (λ n. read_as t n s) p (λ (h : 2 ≡ 4). omega arith) e in
      let line : (known t head.0 t.kinds ≡ true) × (or_place (sized (find t head.0 (length s) t.kinds)) (λ k. read_body t k s) ≡ refused 4 p) = not_three (known t head.0 t.kinds) (or_place (sized (find t head.0 (length s) t.kinds)) (λ k. read_body t k s)) p (not_nine (listed head.0 t.retired) (read_among t t.kinds head.0 s) p head.1.1) in
      let w : (k : t.Kind) × ((head.0 ≡ (t.row_of k).number) × WrongBody t k s p) = of_number head.0 s p (find t head.0 (length s) t.kinds) refl line.0 line.1 in
      (w.0, (head.1.0 ∙ ap some w.1.0, w.1.1))

  so_none : (k : t.Kind) (s : List ℕ) (o : Option t.Kind) → find t (t.row_of k).number (length s) t.kinds ≡ o → ((j : t.Kind) → (t.row_of j).number ≡ (t.row_of k).number → length s ≡ size_of t j → ⊥) → o ≡ none
  so_none k s none found other = refl
  so_none k s (some j) found other = absurd (other j (sym (found_number t lawful _ (length s) t.kinds j found)) (found_size t lawful _ (length s) t.kinds j found))

  size_refused : (k : t.Kind) (s : List ℕ) → ((j : t.Kind) → (t.row_of j).number ≡ (t.row_of k).number → length s ≡ size_of t j → ⊥) → refused 4 2 ≡ read_as t (t.row_of k).number s
  unfolding read_as read_among
  size_refused k s other =
      let kn : known t (t.row_of k).number t.kinds ≡ true = found_known t lawful _ (size_of t k) t.kinds k (lawful.found k) in
      let gone : find t (t.row_of k).number (length s) t.kinds ≡ none = so_none k s (find t (t.row_of k).number (length s) t.kinds) refl other in
      rw (in_force t lawful k, kn, gone)

  by_its_size : (k : t.Kind) (s : List ℕ) → length s ≡ size_of t k → {r : Read t.Value} → r ≡ read_body t k s → r ≡ read_as t (t.row_of k).number s
  by_its_size k s whole e = of_all t _ s (in_force t lawful k) (by_size t t.kinds k s refl (found_known t lawful _ (size_of t k) t.kinds k (lawful.found k)) whole (lawful.found k) e)

  pub wrong_has_place : WrongHasPlace t
  wrong_has_place s p k kind (wrong_size other) = sym (headed t s (sym kind) (size_refused k s other))
  wrong_has_place s p k kind (wrong_field whole w) = sym (headed t s (sym kind) (by_its_size k s whole (bad t k s whole (first_bad w))))
  wrong_has_place s p k kind (wrong_together whole fit clash) =
      sym (headed t s (sym kind) (by_its_size k s whole (apart t k s whole (record { held = sym (all_fit_lem (t.row_of k).letters s 4 fit) }) clash)))

  pub place_only_with_four : PlaceOnlyWithFour t
  unfolding read read_as read_among read_body
  place_only_with_four s =
      unplaced 2 (kind_in s) _
      (λ n. nine_four (listed n t.retired) _ (three_four (known t n t.kinds) _ (body_four (sized (find t n (length s) t.kinds)) _ (λ k. body_four (body_of (t.row_of k).letters s) _ (λ vs. four (t.agrees (t.value_of k vs)) _ t.clash)))))

-- ---- the two tables

pub event_place_is_wrong : PlaceIsWrong events
event_place_is_wrong = place_is_wrong events event_lawful

pub event_wrong_has_place : WrongHasPlace events
event_wrong_has_place = wrong_has_place events event_lawful

pub event_place_only_with_four : PlaceOnlyWithFour events
event_place_only_with_four = place_only_with_four events event_lawful

pub message_place_is_wrong : PlaceIsWrong messages
message_place_is_wrong = place_is_wrong messages message_lawful

pub message_wrong_has_place : WrongHasPlace messages
message_wrong_has_place = wrong_has_place messages message_lawful

pub message_place_only_with_four : PlaceOnlyWithFour messages
message_place_only_with_four = place_only_with_four messages message_lawful
