-- The definition of what a stream holds: by the front alone, over two parts one after the other, and with nothing lost.
use Prim.Native.Nat.{ℕ, zero, suc, ◌≤◌, ◌<◌}
use mathlib.Core.Path.{◌≡◌, refl, sym, ◌∙◌, ap}
use mathlib.Core.Bool.{Bool, true, false, cond}
use mathlib.Core.List.{List, ◌∷◌, ◌++◌, append_assoc}
use native.Mathlib.Omega.{arith}
use borrow.Author.Tests.{lt-ltb}
use lib.ListN.{length, take, drop, length-drop, take-append-drop}
use lib.Seq.{take-append-le, drop-append-le}
use Rattle.pieces.specs.Stream.{Front, Unended, Whole, Impossible, front, by_front, Held, left, stop, after, holds_within, holds}
use Rattle.pieces.specs.Runs.{joined}
use Rattle.pieces.specs.Claims.{Holds}
use Rattle.pieces.proofs.Fronts.{whole_is, whole_append, impossible-append}

brief : (s : List ℕ) → length s < 2 → front s ≡ Unended
unfolding front
brief s h = rw (lt-ltb (length s) 2 h)

-- what is behind a record is shorter
pub shorter : (s : List ℕ) {n k : ℕ} → front s ≡ Whole n → length s ≤ suc k → length (drop n s) ≤ k
shorter s {n} e h = let w = whole_is s e in rw length-drop (omega (arith, w.least, w.there))

-- ---- the bound does not matter

module _ (s : List ℕ) (j k : ℕ) (rest : (n : ℕ) → front s ≡ Whole n → holds_within j (drop n s) ≡ holds_within k (drop n s)) where
  same_step : (f : Front) → front s ≡ f
      → by_front f (left s) (λ n. after (take n s) (holds_within j (drop n s))) stop
      ≡ by_front f (left s) (λ n. after (take n s) (holds_within k (drop n s))) stop
  same_step Unended e = refl
  same_step (Whole n) e = ap (after (take n s)) (rest n e)
  same_step Impossible e = refl

pub bound : (j k : ℕ) (s : List ℕ) → length s ≤ j → length s ≤ k → holds_within j s ≡ holds_within k s
unfolding holds_within
bound zero zero s hj hk = refl
bound zero (suc k) s hj hk = rw (brief s (omega arith))
bound (suc j) zero s hj hk = rw (brief s (omega arith))
bound (suc j) (suc k) s hj hk = same_step s j k (λ n e. bound j k (drop n s) (shorter s e hj) (shorter s e hk)) (front s) refl

module _ (s : List ℕ) where
  one_more : holds_within (suc (length s)) s ≡ holds s
  unfolding holds
  one_more = bound (suc (length s)) (length s) s (omega arith) (omega arith)

  pub holds_unended : front s ≡ Unended → holds s ≡ left s
  unfolding holds_within
  holds_unended e = sym one_more ∙ rw e

  pub holds_impossible : front s ≡ Impossible → holds s ≡ stop
  unfolding holds_within
  holds_impossible e = sym one_more ∙ rw e

  rest_holds : {n : ℕ} → front s ≡ Whole n → holds_within (length s) (drop n s) ≡ holds (drop n s)
  unfolding holds
  rest_holds {n} e = bound (length s) (length (drop n s)) (drop n s) (shorter s e (omega arith)) (omega arith)

  pub holds_whole : (n : ℕ) → front s ≡ Whole n → holds s ≡ after (take n s) (holds (drop n s))
  unfolding holds_within
  holds_whole n e = sym one_more ∙ rw (e, rest_holds e)

  pub by_front_lem : Holds s
  by_front_lem = record { unended = holds_unended; whole = holds_whole; impossible = holds_impossible }

-- ---- one part, and then another

-- records before what is held
abbrev pub behind : List (List ℕ) → Held → Held
behind rs h = record { records = rs ++ h.records; left = h.left; stopped = h.stopped }

-- what is held, and then more bytes
abbrev pub then_more : Held → List ℕ → Held
then_more h t = cond h.stopped h (behind h.records (holds (h.left ++ t)))

after_more : (b : Bool) (r : List ℕ) (h g : Held)
    → cond b (after r h) (behind (r ∷ h.records) g) ≡ after r (cond b h (behind h.records g))
after_more true r h g = refl
after_more false r h g = refl

module _ (t : List ℕ) where
  append_step : (s : List ℕ) → ((n : ℕ) → front s ≡ Whole n → holds (drop n s ++ t) ≡ then_more (holds (drop n s)) t)
      → (f : Front) → front s ≡ f → holds (s ++ t) ≡ then_more (holds s) t
  append_step s rest Unended e = rw (holds_unended s e)
  append_step s rest (Whole n) e =
      let w = whole_is s e in
      holds_whole (s ++ t) n (whole_append s t e)
      ∙ rw (take-append-le n s t w.there, drop-append-le n s t w.there, rest n e, holds_whole s n e)
      (sym (after_more (holds (drop n s)).stopped (take n s) (holds (drop n s)) (holds ((holds (drop n s)).left ++ t))))
  append_step s rest Impossible e = holds_impossible (s ++ t) (impossible-append s t e) ∙ rw (holds_impossible s e)

  append_within : (k : ℕ) (s : List ℕ) → length s ≤ k → holds (s ++ t) ≡ then_more (holds s) t
  append_within zero s h = append_step s (λ n e. absurd (omega (arith, (whole_is s e).least, (whole_is s e).there))) (front s) refl
  append_within (suc k) s h = append_step s (λ n e. append_within k (drop n s) (shorter s e h)) (front s) refl

pub holds-append : (s t : List ℕ) → holds (s ++ t) ≡ then_more (holds s) t
holds-append s t = append_within t (length s) s (omega arith)

-- ---- the records and what follows them are the input

-- what follows the records: the bytes left, or those that begin with the impossible length
pub record Follows (s : List ℕ) : Type 0 where
  pub rest : List ℕ
  pub all : joined (holds s).records ++ rest ≡ s
  pub kept : (holds s).stopped ≡ false → rest ≡ (holds s).left
  pub bad : (holds s).stopped ≡ true → front rest ≡ Impossible

follows_after : (s : List ℕ) (n : ℕ) {h : Held} (rest : List ℕ) → h ≡ after (take n s) (holds (drop n s))
    → joined (holds (drop n s)).records ++ rest ≡ drop n s → joined h.records ++ rest ≡ s
unfolding joined
follows_after s n rest e all = rw (e, append_assoc, all) (take-append-drop n s)

follows_step : (s : List ℕ) → ((n : ℕ) → front s ≡ Whole n → Follows (drop n s)) → (f : Front) → front s ≡ f → Follows s
unfolding joined
follows_step s more Unended e =
    let h = holds_unended s e in
    record { rest = s; all = rw h; kept = λ so. rw h; bad = λ so. absurd (let z : true ≡ false = sym so ∙ ap (λ (x : Held). x.stopped) h in let y : ◌≡◌ {A = ℕ} 0 1 = cc in omega arith) }
follows_step s more (Whole n) e =
    let h = holds_whole s n e in
    let f = more n e in
    let same : (holds s).stopped ≡ (holds (drop n s)).stopped = ap (λ (x : Held). x.stopped) h in
    record {
      rest = f.rest;
      all = follows_after s n f.rest h f.all;
      kept = λ so. f.kept (sym same ∙ so) ∙ sym (ap (λ (x : Held). x.left) h);
      bad = λ so. f.bad (sym same ∙ so);
    }
follows_step s more Impossible e =
    let h = holds_impossible s e in
    record {
      rest = s;
      all = rw h;
      kept = λ so. absurd (let z : true ≡ false = sym (ap (λ (x : Held). x.stopped) h) ∙ so in let y : ◌≡◌ {A = ℕ} 0 1 = cc in omega arith);
      bad = λ so. e;
    }

follows_within : (k : ℕ) (s : List ℕ) → length s ≤ k → Follows s
follows_within zero s h = follows_step s (λ n e. absurd (omega (arith, (whole_is s e).least, (whole_is s e).there))) (front s) refl
follows_within (suc k) s h = follows_step s (λ n e. follows_within k (drop n s) (shorter s e h)) (front s) refl

pub follows : (s : List ℕ) → Follows s
follows s = follows_within (length s) s (omega arith)
