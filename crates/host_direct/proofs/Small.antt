-- Every count is small, so that a result is a u32.
use Prim.Native.Nat.{ℕ, ◌≤◌}
use mathlib.Core.Path.{◌≡◌, ap}
use mathlib.Core.Bool.{Bool, true, false, cond}
use mathlib.Core.List.{List}
use native.Mathlib.Omega.{arith}
use borrow.Author.Tests.{leb-true}
use lib.Dec.{leb}
use lib.ListN.{length}
use lib.Seq.{sets}
use Rattle.records.specs.Bodies.{Wrote, wrote, not_written, flat_size, written}
use Rattle.records.specs.Tables.{flat}
use Rattle.records.specs.Records.{short}
use Rattle.records.proofs.Laws.{both}
use Rattle.direct.specs.declared.events.Event.{Event}
use Rattle.direct.specs.declared.messages.Message.{Message}
use Rattle.direct.specs.declared.call.Call.{Call}
use Rattle.direct.specs.Events.{events}
use Rattle.direct.specs.Messages.{messages}
use Rattle.direct.specs.Step.{Outcome, step_of}
use Rattle.direct.specs.Runs.{outcome}
use Rattle.direct.proofs.Demands.{at_most_27}

-- a step writes at most 27 bytes
pub step_small : (c : Call) (e b : List ℕ) {o : Outcome} → o ≡ step_of c e b → o.count ≤ 27
unfolding outcome
step_small c e b same = rw same (at_most_27 c (record { event = e; buffer = b }))

-- a record has at most 7
pub event_small : (e : Event) → flat_size (flat events e) ≤ 7
unfolding flat_size
event_small (Event.SetupRequest target lowest attempts) = omega arith
event_small (Event.DmaReport fared) = omega arith
event_small (Event.DmConnect grade) = omega arith
event_small Event.DmDisconnect = omega arith
event_small (Event.Expiry timer) = omega arith

pub message_small : (m : Message) → flat_size (flat messages m) ≤ 7
unfolding flat_size
message_small (Message.DmSetupPres target lowest) = omega arith
message_small (Message.DmConnectAck grade) = omega arith
message_small Message.DmRelease = omega arith
message_small (Message.Stop timer) = omega arith
message_small (Message.Start timer) = omega arith
message_small (Message.Configure grade) = omega arith
message_small (Message.SetupConfirm grade) = omega arith
message_small Message.ReleaseIndication = omega arith

-- and what is written of a short record at most 64
pub count_small : (ok : Bool) (out b : List ℕ) {n : ℕ} {after : List ℕ} → short out ≡ true → ◌≡◌ {A = Wrote × List ℕ} (wrote n, after) (written ok out b) → n ≤ 64
unfolding written
count_small ok out b {n} few e = by ok (leb (length out) (length b)) (ap (λ (p : Wrote × List ℕ). p.0) e)
  where
    by : (a c : Bool) → wrote n ≡ (cond {A = Wrote × List ℕ} a (cond c (wrote (length out), sets b 0 out) (not_written 7, b)) (not_written 4, b)).0 → n ≤ 64
    by true true same = let all : n ≡ length out = cc in rw all (leb-true _ _ (both _ _ few).1)
    by true false same = cc
    by false c same = cc
