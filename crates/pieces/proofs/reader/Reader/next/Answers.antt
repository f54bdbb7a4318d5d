-- 22, then 21, then what the front says.
use mathlib.Core.Path.{◌∙◌, ap}
use Prim.Native.Nat.{ℕ}
use native.Mathlib.Omega.{arith}
use Rattle.std.specs.Prelude.{Option, Ok}
use Rattle.pieces.specs.Next.{as_front}
use Rattle.pieces.proofs.Answers.{small_carry, stopped, too_many, keeps, hands_on, stops, keep_room, hand_on_room}
use Rattle.pieces.proofs.Seen.{of_carry}
use Rattle.pieces.proofs.reader.Reader.next.Goals.{then-self-via-then-self, then-self-via-else-self+then-self-gt63}
use Rattle.pieces.proofs.reader.Reader.next.Goals as goal

pub returns-then-carry-lt64 : goal.returns-then-carry-lt64
returns-then-carry-lt64 c = small_carry _ _ _ (omega arith)

pub returns-then-self : goal.returns-then-self
returns-then-self c =
    elim c.then-self.branch [
      | then-self-via-then-self w ↦ stopped _ _ _ (omega arith) w.if-self.true
      | then-self-via-else-self+then-self-gt63 w ↦ too_many _ _ _ (omega arith) w.if-self.false w.if-self-gt63.true
    ]

pub keep-requires : goal.keep-requires
keep-requires c = (keep_room _ _ _ (omega arith) c.if-self.false (omega arith) (of_carry c.args.self.now.carried c.args.carry.now c.args.piece.now (omega arith) c.front_of.ensures) (ap as_front c.in-Ok-None.is ∙ ap (λ (o : Option ℕ). as_front (Ok o)) c.in-Ok-None.field-0-is), c.if-self.false)

pub hand_on-requires : goal.hand_on-requires
hand_on-requires c = hand_on_room _ _ _ (omega arith) c.if-self.false (omega arith) (of_carry c.args.self.now.carried c.args.carry.now c.args.piece.now (omega arith) c.front_of.ensures) (ap as_front c.in-Ok-Some.is ∙ ap (λ (o : Option ℕ). as_front (Ok o)) c.in-Ok-Some.field-0-is)

pub returns-in-Ok-None : goal.returns-in-Ok-None
returns-in-Ok-None c = keeps _ _ _ (omega arith) c.if-self.false (omega arith) (of_carry c.args.self.now.carried c.args.carry.now c.args.piece.now (omega arith) c.front_of.ensures) (ap as_front c.in-Ok-None.is ∙ ap (λ (o : Option ℕ). as_front (Ok o)) c.in-Ok-None.field-0-is) c.keep.ensures

pub returns-in-Ok-Some : goal.returns-in-Ok-Some
returns-in-Ok-Some c = hands_on _ _ _ (omega arith) c.if-self.false (omega arith) (of_carry c.args.self.now.carried c.args.carry.now c.args.piece.now (omega arith) c.front_of.ensures) (ap as_front c.in-Ok-Some.is ∙ ap (λ (o : Option ℕ). as_front (Ok o)) c.in-Ok-Some.field-0-is) c.hand_on.ensures

pub returns-in-Err : goal.returns-in-Err
returns-in-Err c = stops _ _ _ (omega arith) c.if-self.false (omega arith) (of_carry c.args.self.now.carried c.args.carry.now c.args.piece.now (omega arith) c.front_of.ensures) (ap as_front c.in-Err.is)
