-- What `next` answers, from what its callees give.
use Prim.Native.Nat.{ℕ, ◌+◌, ◌≤◌, ◌<◌}
use mathlib.Core.Path.{◌≡◌, sym, ◌∙◌}
use mathlib.Core.Bool.{true, false}
use mathlib.Core.List.{List, ◌++◌}
use native.Mathlib.Omega.{arith}
use borrow.Author.Tests.{lt-ltb, le-ltb}
use lib.ListN.{length, take}
use Rattle.pieces.specs.Stream.{Front, Unended, Whole, Impossible, front, by_front}
use Rattle.pieces.specs.declared.reader.Reader.{Reader}
use Rattle.pieces.specs.Next.{Outcome, stopped_reader, refusal, kept, handed_on, begun, found, next_of}
use Rattle.pieces.proofs.Fronts.{unended_short, whole_is, begun_unended, begun_whole}
use Rattle.pieces.proofs.Seen.{seen_length}

module _ (r : Reader) (carry piece : List ℕ) where
  pub small_carry : length carry < 64 → refusal 22 r carry ≡ next_of r carry piece
  unfolding next_of
  small_carry h = rw (lt-ltb (length carry) 64 h)

  pub stopped : 64 ≤ length carry → r.stopped ≡ true → refusal 21 r carry ≡ next_of r carry piece
  unfolding next_of
  stopped h so = rw (le-ltb (length carry) 64 h, so)

  pub too_many : 64 ≤ length carry → r.stopped ≡ false → 63 < r.carried → refusal 21 r carry ≡ next_of r carry piece
  unfolding next_of
  too_many h so many = rw (le-ltb (length carry) 64 h, so, lt-ltb 63 r.carried many)

  -- a reader that goes on
  module _ (room : 64 ≤ length carry) (so : r.stopped ≡ false) (few : r.carried ≤ 63) where
    pub goes_on : found r.carried carry piece ≡ next_of r carry piece
    unfolding next_of
    goes_on = rw (le-ltb (length carry) 64 room, so, le-ltb 63 r.carried few)

    module _ {f : Front} (is : f ≡ begun r.carried (front (take r.carried carry ++ piece))) where
      goes : by_front f (kept r.carried carry piece) (handed_on r.carried carry piece) (refusal 20 stopped_reader carry) ≡ next_of r carry piece
      unfolding found
      goes = rw is goes_on

      pub keeps : f ≡ Unended → {x : Outcome} → x ≡ kept r.carried carry piece → x ≡ next_of r carry piece
      keeps e {x} k = k ∙ (rw e at goes)

      pub hands_on : {n : ℕ} → f ≡ Whole n → {x : Outcome} → x ≡ handed_on r.carried carry piece n → x ≡ next_of r carry piece
      hands_on e {x} k = k ∙ (rw e at goes)

      pub stops : f ≡ Impossible → refusal 20 stopped_reader carry ≡ next_of r carry piece
      stops e = rw e at goes

      pub keep_room : f ≡ Unended → r.carried + length piece ≤ length carry
      keep_room e =
          let short = unended_short _ (begun_unended r.carried _ (sym is ∙ e)) in
          omega (arith, short, seen_length r.carried carry piece (omega arith))

      pub hand_on_room : {n : ℕ} → f ≡ Whole n → (r.carried < n) × (n ≤ r.carried + length piece) × (n ≤ length carry)
      hand_on_room {n} e =
          let b = begun_whole r.carried _ (sym is ∙ e) in
          let w = whole_is _ b.0 in
          (b.1, omega (arith, w.there, seen_length r.carried carry piece (omega arith)), omega (arith, w.most))
