-- The promises leave no choice: two results that a function's promise allows are equal, and so are the buffers that it leaves.
use Prim.Native.Nat.{ℕ}
use mathlib.Core.Path.{◌≡◌, refl, sym, ◌∙◌, ap}
use mathlib.Core.Bool.{cond}
use mathlib.Core.List.{List}
use mathlib.Core.Option.{Option, none, some}
use lib.Dec.{eqb}
use Rattle.std.specs.Prelude.{Option as Maybe, Some, None, Result, Ok, Err}
use Rattle.records.specs.declared.bodies.Unreadable.{Unreadable}
use Rattle.records.specs.declared.bodies.Unwritable.{Unwritable}
use Rattle.records.specs.declared.events.Event.{Event}
use Rattle.records.specs.declared.messages.Message.{Message}
use Rattle.records.specs.Bodies.{Wrote, wrote, not_written, as_head, as_wrote, kind_in}
use Rattle.records.specs.Tables.{Read, taken, refused, as_read, read, write}
use Rattle.records.specs.Events.{events}
use Rattle.records.specs.Messages.{messages, message_laid, message_size}
use Rattle.records.specs.Laws.{Determines}

-- what can be turned back leaves one result
turned : {A B : Type 0} (f : A → B) (g : B → A) → ((a : A) → g (f a) ≡ a) → Determines f
turned f g same x r₁ r₂ e₁ e₂ = sym (same r₁) ∙ ap g (e₁ ∙ sym e₂) ∙ same r₂

-- and so does a promise that is an equation of the result: this serves every such promise, here and in the crates above
pub equation : {A : Type 0} → Determines {A = A} {B = A} (λ r. r)
equation = turned (λ r. r) (λ r. r) (λ r. refl)

read_back : {A : Type 0} → Read A → Result A Unreadable
read_back (taken v) = Ok v
read_back (refused n place) = cond (eqb n 2) (Err Unreadable.BadLength) (cond (eqb n 3) (Err Unreadable.UnknownKind) (cond (eqb n 9) (Err Unreadable.Retired) (Err (Unreadable.BadBody place))))

read_same : {A : Type 0} (r : Result A Unreadable) → read_back (as_read r) ≡ r
unfolding read_back
read_same (Ok v) = refl
read_same (Err Unreadable.BadLength) = refl
read_same (Err Unreadable.UnknownKind) = refl
read_same (Err Unreadable.Retired) = refl
read_same (Err (Unreadable.BadBody place)) = refl

head_back : Option ℕ → Maybe ℕ
head_back (some k) = Some k
head_back none = None

head_same : (r : Maybe ℕ) → head_back (as_head r) ≡ r
unfolding head_back
head_same (Some k) = refl
head_same None = refl

wrote_back : Wrote → Result ℕ Unwritable
wrote_back (wrote n) = Ok n
wrote_back (not_written n) = cond (eqb n 4) (Err Unwritable.BadField) (Err Unwritable.NoRoom)

wrote_same : (r : Result ℕ Unwritable) → wrote_back (as_wrote r) ≡ r
unfolding wrote_back
wrote_same (Ok n) = refl
wrote_same (Err Unwritable.BadField) = refl
wrote_same (Err Unwritable.NoRoom) = refl

-- what a writer answers, and its buffer
abbrev wrote_into : Result ℕ Unwritable × List ℕ → Wrote × List ℕ
wrote_into w = (as_wrote w.0, w.1)

into_determined : Determines wrote_into
into_determined = turned wrote_into (λ w. (wrote_back w.0, w.1)) (λ w. ap (λ r. (r, w.1)) (wrote_same w.0))

-- ---- the functions

-- reading and writing, of any record: an event's promise is this at `read events` and `write events`, a message's at `read messages` and `write messages`
pub read_lem : {A : Type 0} (x : Read A) (r₁ r₂ : Result A Unreadable) → as_read r₁ ≡ x → as_read r₂ ≡ x → r₁ ≡ r₂
read_lem x = turned as_read read_back read_same x

pub write_lem : (x : Wrote × List ℕ) (w₁ w₂ : Result ℕ Unwritable × List ℕ) → wrote_into w₁ ≡ x → wrote_into w₂ ≡ x → w₁ ≡ w₂
write_lem x = into_determined x

pub read_event : (s : List ℕ) (r₁ r₂ : Result Event Unreadable) → as_read r₁ ≡ read events s → as_read r₂ ≡ read events s → r₁ ≡ r₂
read_event s = read_lem (read events s)

pub read_message : (s : List ℕ) (r₁ r₂ : Result Message Unreadable) → as_read r₁ ≡ read messages s → as_read r₂ ≡ read messages s → r₁ ≡ r₂
read_message s = read_lem (read messages s)

pub write_event : (e : Event) (buffer : List ℕ) (w₁ w₂ : Result ℕ Unwritable × List ℕ) → wrote_into w₁ ≡ write events e buffer → wrote_into w₂ ≡ write events e buffer → w₁ ≡ w₂
write_event e buffer = write_lem (write events e buffer)

pub write_message : (m : Message) (buffer : List ℕ) (w₁ w₂ : Result ℕ Unwritable × List ℕ) → wrote_into w₁ ≡ write messages m buffer → wrote_into w₂ ≡ write messages m buffer → w₁ ≡ w₂
write_message m buffer = write_lem (write messages m buffer)

-- so of lay_message, and of the function of each message, whose promise is this at its own message
pub lay_message : (m : Message) (buffer : List ℕ) (at : ℕ) (w₁ w₂ : ℕ × List ℕ) → w₁ ≡ message_laid m buffer at → w₂ ≡ message_laid m buffer at → w₁ ≡ w₂
lay_message m buffer at = equation (message_laid m buffer at)

pub message_size_lem : (m : Message) (r₁ r₂ : ℕ) → r₁ ≡ message_size m → r₂ ≡ message_size m → r₁ ≡ r₂
message_size_lem m = equation (message_size m)

pub kind_in_lem : (s : List ℕ) (r₁ r₂ : Maybe ℕ) → as_head r₁ ≡ kind_in s → as_head r₂ ≡ kind_in s → r₁ ≡ r₂
kind_in_lem s = turned as_head head_back head_same (kind_in s)
