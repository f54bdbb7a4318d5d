-- A record that was begun is completed at the front of the carry, and the bytes behind it are left in the piece.
use Prim.Native.Nat.{ℕ, ◌+◌, ◌-◌, ◌≤◌, ◌<◌}
use mathlib.Core.Path.{◌≡◌, sym, ◌∙◌, ap}
use mathlib.Core.List.{List, ◌++◌}
use native.Mathlib.Omega.{arith}
use lib.ListN.{length, take, drop}
use lib.Seq.{paste, take-paste, length-paste, length-take-le, take-append-add, drop-append-add}
use Rattle.pieces.specs.Stream.{Whole, front}
use Rattle.pieces.proofs.Fronts.{whole_is}
use Rattle.pieces.proofs.Seen.{seen_length}

module _ (c : ℕ) (carry piece : List ℕ) (within : c ≤ length carry) {n : ℕ} (e : front (take c carry ++ piece) ≡ Whole n) (more : c < n) where
  pub rest_there : n - c ≤ length piece
  rest_there = omega (arith, (whole_is (take c carry ++ piece) e).there, seen_length c carry piece within)

  completes : c + (n - c) ≡ n
  completes = omega (arith, more)

  reached : length (take c carry) + (n - c) ≡ n
  reached = omega (arith, length-take-le c carry within, more)

  pub completed : take n (paste carry c piece (n - c)) ≡ take n (take c carry ++ piece)
  completed =
      ap (λ (k : ℕ). take k (paste carry c piece (n - c))) (sym completes)
      ∙ take-paste carry c piece (n - c) within rest_there
      ∙ sym (take-append-add (take c carry) piece (n - c))
      ∙ ap (λ (k : ℕ). take k (take c carry ++ piece)) reached

  pub left_over : drop (n - c) piece ≡ drop n (take c carry ++ piece)
  left_over = sym (drop-append-add (take c carry) piece (n - c)) ∙ ap (λ (k : ℕ). drop k (take c carry ++ piece)) reached

  pub same_size : 64 ≤ length carry → length (paste carry c piece (n - c)) ≡ length carry
  same_size room = length-paste carry c piece (n - c) (omega (arith, (whole_is (take c carry ++ piece) e).most, completes)) rest_there
