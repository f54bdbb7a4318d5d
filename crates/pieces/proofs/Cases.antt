-- The five ways of `next`, for every reader, carry and piece, and what holds in each.
use Prim.Native.Nat.{ℕ, zero, suc, ◌-◌, ◌≤◌, ◌<◌}
use mathlib.Core.Path.{◌≡◌, refl, sym, ◌∙◌, ap}
use mathlib.Core.Bool.{Bool, true, false, cond, ◌&&◌, ◌||◌}
use mathlib.Core.List.{List, [], ◌∷◌, ◌++◌}
use native.Mathlib.Omega.{arith}
use borrow.Author.Tests.{ltb-false, le-leb, eq-eqb, eqb-false}
use lib.Dec.{eqb, ltb, eqb-suc-zero}
use lib.ListN.{length, take, drop, length-drop}
use lib.Seq.{paste, length-take-le, get_or-take}
use Rattle.pieces.specs.Stream.{Front, Unended, Whole, Impossible, front, by_front}
use Rattle.pieces.specs.declared.reader.Reader.{Reader}
use Rattle.pieces.specs.Next.{Outcome, stopped_reader, refusal, kept, handed_on, begun, found, next_of, record_in}
use Rattle.pieces.specs.Runs.{Fed, found_then, feed_within, feed, run}
use Rattle.pieces.specs.Claims.{is_record, every?, Uses, is_impossible, applies, Answered, Refused, Small, SmallNumbers, BytesUsed, LoopEnds, WholeRecords}
use Rattle.pieces.proofs.Completing.{completed}
use Rattle.pieces.proofs.Fronts.{Wholly, whole_is, unended_short, begun_unended, begun_whole}
use Rattle.pieces.proofs.Seen.{seen_length}

module _ (r : Reader) (carry piece : List ℕ) where
  -- no refusal before the front is looked at
  record Fit : Type 0 where
    room : 64 ≤ length carry
    few : r.carried ≤ 63

  data Way : Outcome → Type 0 where
    small : Way (refusal 22 r carry)
    still : Way (refusal 21 r carry)
    keeps : Fit → front (take r.carried carry ++ piece) ≡ Unended → Way (kept r.carried carry piece)
    hands : Fit → (n : ℕ) → front (take r.carried carry ++ piece) ≡ Whole n → r.carried < n → Way (handed_on r.carried carry piece n)
    stops : Way (refusal 20 stopped_reader carry)

  neither : (a b : Bool) → (a || b) ≡ false → b ≡ false
  neither true b h = cc
  neither false b h = h

  way_by : (b₁ b₂ : Bool) (f : Front) → ltb (length carry) 64 ≡ b₁ → (r.stopped || ltb 63 r.carried) ≡ b₂
      → begun r.carried (front (take r.carried carry ++ piece)) ≡ f
      → Way
      (cond b₁ (refusal 22 r carry)
      (cond b₂ (refusal 21 r carry) (by_front f (kept r.carried carry piece) (handed_on r.carried carry piece) (refusal 20 stopped_reader carry))))
  way_by true b₂ f e₁ e₂ e = small
  way_by false true f e₁ e₂ e = still
  way_by false false Unended e₁ e₂ e =
      keeps (record { room = ltb-false _ _ e₁; few = ltb-false _ _ (neither r.stopped _ e₂) }) (begun_unended r.carried _ e)
  way_by false false (Whole n) e₁ e₂ e =
      let b = begun_whole r.carried _ e in
      hands (record { room = ltb-false _ _ e₁; few = ltb-false _ _ (neither r.stopped _ e₂) }) n b.0 b.1
  way_by false false Impossible e₁ e₂ e = stops

  way : Way (next_of r carry piece)
  unfolding next_of found
  way = way_by _ _ _ refl refl refl

-- ---- a record that is handed on, from the piece or from the carry

either : (P : Outcome → Type 0) (c : ℕ) (carry piece : List ℕ) (n : ℕ)
    → (c ≡ 0 → P (record { answer = 0; lies = 2; size = n; used = n; reader = record { carried = 0; stopped = false }; carry = carry }))
    → ((c ≡ 0 → ⊥)
    → P (record {
      answer = 0;
      lies = 1;
      size = n;
      used = n - c;
      reader = record { carried = 0; stopped = false };
      carry = paste carry c piece (n - c);
    }))
    → P (handed_on c carry piece n)
unfolding handed_on
either P zero carry piece n p q = p refl
either P (suc m) carry piece n p q = rw (eqb-suc-zero m) (q (λ e. omega arith))

-- ---- answers

answer_by : (b₁ b₂ : Bool) (f : Front) (r : Reader) (carry piece : List ℕ)
    → (cond b₁ (refusal 22 r carry)
    (cond b₂ (refusal 21 r carry) (by_front f (kept r.carried carry piece) (handed_on r.carried carry piece) (refusal 20 stopped_reader carry)))
    ).answer
    ≡ cond b₁ 22 (cond b₂ 21 (cond (is_impossible f) 20 0))
unfolding kept
answer_by true b₂ f r carry piece = refl
answer_by false true f r carry piece = refl
answer_by false false Unended r carry piece = refl
answer_by false false (Whole n) r carry piece = either (λ (o : Outcome). o.answer ≡ 0) r.carried carry piece n (λ e. refl) (λ e. refl)
answer_by false false Impossible r carry piece = refl

pub answered : Answered
unfolding next_of found applies
answered r carry piece =
    answer_by (ltb (length carry) 64) (r.stopped || ltb 63 r.carried) (begun r.carried (front (take r.carried carry ++ piece))) r carry piece

refuses_by : (r : Reader) (carry piece : List ℕ) (o : Outcome) → Way r carry piece o → (o.answer ≡ 0 → ⊥)
    → o ≡ refusal o.answer (cond (eqb o.answer 20) stopped_reader r) carry
unfolding kept
refuses_by r carry piece _ small h = refl
refuses_by r carry piece _ still h = refl
refuses_by r carry piece _ (keeps fit e) h = absurd (h refl)
refuses_by r carry piece _ (hands fit n e more) h =
    absurd (h (either (λ (o : Outcome). o.answer ≡ 0) r.carried carry piece n (λ e. refl) (λ e. refl)))
refuses_by r carry piece _ stops h = refl

pub refuses : Refused
refuses r carry piece n is other =
    refuses_by r carry piece (next_of r carry piece) (way r carry piece) (λ zero. other (sym is ∙ zero))
    ∙ ap (λ (m : ℕ). refusal m (cond (eqb m 20) stopped_reader r) carry) is

small_by : (r : Reader) (carry piece : List ℕ) (o : Outcome) → Way r carry piece o → r.carried ≤ 63 → Small o
unfolding kept
small_by r carry piece _ small h = record { carried = h; size = omega arith; used = omega arith }
small_by r carry piece _ still h = record { carried = h; size = omega arith; used = omega arith }
small_by r carry piece _ (keeps fit e) h =
    let short = unended_short (take r.carried carry ++ piece) e in
    let len = seen_length r.carried carry piece (omega (arith, fit.room)) in
    record { carried = omega arith; size = omega arith; used = omega arith }
small_by r carry piece _ (hands fit n e more) h =
    let w = whole_is (take r.carried carry ++ piece) e in
    either (λ (o : Outcome). Small o) r.carried carry piece n
    (λ z. record { carried = omega arith; size = w.most; used = w.most })
    (λ z. record { carried = omega arith; size = w.most; used = omega (arith, w.most) })
small_by r carry piece _ stops h = record { carried = omega arith; size = omega arith; used = omega arith }

pub small_numbers : SmallNumbers
small_numbers r carry piece h = small_by r carry piece (next_of r carry piece) (way r carry piece) h

-- ---- bytes used

uses_by : (r : Reader) (carry piece : List ℕ) (o : Outcome) → Way r carry piece o → Uses o piece
unfolding kept
uses_by r carry piece _ small = record { some = λ h. absurd (h refl); within = omega arith; all = λ e. absurd (omega arith) }
uses_by r carry piece _ still = record { some = λ h. absurd (h refl); within = omega arith; all = λ e. absurd (omega arith) }
uses_by r carry piece _ (keeps fit e) = record { some = λ h. absurd (h refl); within = omega arith; all = λ e p. refl }
uses_by r carry piece _ (hands fit n e more) =
    let w = whole_is (take r.carried carry ++ piece) e in
    let len = seen_length r.carried carry piece (omega (arith, fit.room, fit.few)) in
    either (λ (o : Outcome). Uses o piece) r.carried carry piece n
    (λ z. record { some = λ h. omega (arith, w.least); within = omega (arith, w.there); all = λ a p. absurd (omega arith) })
    (λ z. record { some = λ h. omega (arith, more); within = omega (arith, w.there); all = λ a p. absurd (omega arith) })
uses_by r carry piece _ stops = record { some = λ h. absurd (h refl); within = omega arith; all = λ e. absurd (omega arith) }

pub uses : BytesUsed
uses r carry piece = uses_by r carry piece (next_of r carry piece) (way r carry piece)

-- ---- the loop over a piece

module _ (piece : List ℕ) where
  same_found : (b : Bool) (o : Outcome) {x y : Fed} → eqb o.lies 0 ≡ b → (b ≡ false → x ≡ y) → found_then o piece x ≡ found_then o piece y
  same_found true o e rest = rw e
  same_found false o e rest = rw (rest refl)

pub bound : (j k : ℕ) (r : Reader) (carry piece : List ℕ) → length piece < j → length piece < k
    → feed_within j r carry piece ≡ feed_within k r carry piece
unfolding feed_within
bound zero k r carry piece hj hk = absurd (omega arith)
bound (suc j) zero r carry piece hj hk = absurd (omega arith)
bound (suc j) (suc k) r carry piece hj hk =
    let o = next_of r carry piece in
    let u = uses r carry piece in
    same_found piece (eqb o.lies 0) o refl
    (λ found.
    let some = u.some (eqb-false o.lies 0 found) in
    let shorter : length (drop o.used piece) < length piece = rw length-drop (omega (arith, u.within)) in
    bound j k o.reader o.carry (drop o.used piece) (omega arith) (omega arith))

pub loop_ends : LoopEnds
unfolding feed
loop_ends k r carry piece h = bound k (suc (length piece)) r carry piece h (omega arith)

-- ---- what is handed on is a record

taken_is_record : (s : List ℕ) {n : ℕ} → Wholly s n → is_record (take n s) ≡ true
taken_is_record s {n} w =
    let size = length-take-le n s w.there in
    let low = get_or-take n s 0 0 (omega (arith, w.least)) in
    let high = get_or-take n s 1 0 (omega (arith, w.least)) in
    rw (size, low, high, ← w.says, le-leb 4 n w.least, le-leb n 64 w.most, eq-eqb n n refl)

record_by : (r : Reader) (carry piece : List ℕ) (o : Outcome) → Way r carry piece o → (o.lies ≡ 0 → ⊥)
    → is_record (record_in o.lies o.size o.carry piece) ≡ true
unfolding kept
record_by r carry piece _ small h = absurd (h refl)
record_by r carry piece _ still h = absurd (h refl)
record_by r carry piece _ (keeps fit e) h = absurd (h refl)
record_by r carry piece _ (hands fit n e more) h =
    let w = taken_is_record (take r.carried carry ++ piece) (whole_is (take r.carried carry ++ piece) e) in
    either (λ (o : Outcome). is_record (record_in o.lies o.size o.carry piece) ≡ true) r.carried carry piece n
    (λ z. rw z at w)
    (λ z. rw (completed r.carried carry piece (omega (arith, fit.room, fit.few)) e more) w)
record_by r carry piece _ stops h = absurd (h refl)

every_found : (b : Bool) (o : Outcome) (piece : List ℕ) (rest : Fed) → eqb o.lies 0 ≡ b
    → (b ≡ false → is_record (record_in o.lies o.size o.carry piece) ≡ true) → every? is_record rest.records ≡ true
    → every? is_record (found_then o piece rest).records ≡ true
every_found true o piece rest e is h = rw e
every_found false o piece rest e is h = rw (e, is refl, h)

every_fed : (k : ℕ) (r : Reader) (carry piece : List ℕ) → every? is_record (feed_within k r carry piece).records ≡ true
unfolding feed_within
every_fed zero r carry piece = refl
every_fed (suc k) r carry piece =
    let o = next_of r carry piece in
    every_found (eqb o.lies 0) o piece (feed_within k o.reader o.carry (drop o.used piece)) refl (λ found. record_by r carry piece o (way r carry piece) (eqb-false o.lies 0 found))
    (every_fed k o.reader o.carry (drop o.used piece))

every_cons : (a b d : Bool) → (a && b) ≡ true → (b ≡ true → d ≡ true) → (a && d) ≡ true
every_cons true b d h f = f h
every_cons false b d h f = h

every_append : (xs ys : List (List ℕ)) → every? is_record xs ≡ true → every? is_record ys ≡ true → every? is_record (xs ++ ys) ≡ true
every_append [] ys h k = k
every_append (x ∷ xs) ys h k = every_cons (is_record x) (every? is_record xs) (every? is_record (xs ++ ys)) h (λ h. every_append xs ys h k)

pub whole_records : WholeRecords
unfolding run feed
whole_records r carry [] = refl
whole_records r carry (p ∷ ps) =
    every_append (feed r carry p).records _ (every_fed (suc (length p)) r carry p) (whole_records (feed r carry p).reader (feed r carry p).carry ps)
