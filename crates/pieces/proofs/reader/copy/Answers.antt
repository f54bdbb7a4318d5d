-- Each turn copies one byte more (`paste`).
use Prim.Native.Nat.{ℕ, ◌+◌, ◌<◌}
use mathlib.Core.Path.{◌≡◌, ◌∙◌, ap}
use mathlib.Core.List.{List}
use native.Mathlib.Numerals.{add-one}
use native.Mathlib.Nat.{le_antisymm}
use native.Mathlib.Omega.{arith}
use lib.ListN.{length, get_or, set}
use lib.Seq.{paste, paste-zero, paste-suc}
use Rattle.pieces.proofs.reader.copy.Goals as goal

-- a turn: one byte more

turn : (d : List ℕ) (at : ℕ) (s : List ℕ) (i : ℕ) {carry : List ℕ} → carry ≡ paste d at s i → at + i < length d → i < length s
    → set carry (at + i) (get_or s i 0) ≡ paste d at s (i + 1)
turn d at s i {carry} e hd hs = rw (add-one, e) (paste-suc d at s i 0 hd hs)

pub loop-i-init : goal.loop-i-init
loop-i-init c = paste-zero c.args.carry.now c.args.at c.args.piece.now

pub loop-i-preserved : goal.loop-i-preserved
loop-i-preserved c = turn _ _ _ _ c.loop-i.invariant (omega arith) (omega arith)

pub returns : goal.returns
returns c = c.loop-i.invariant ∙ ap (λ (k : ℕ). paste c.args.carry.now c.args.at c.args.piece.now k) (le_antisymm c.loop-i.auto.i-end c.loop-i-test.false)
