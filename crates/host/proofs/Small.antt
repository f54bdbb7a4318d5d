-- Every count is small, so that a result is a u32.
use Prim.Native.Nat.{ℕ, ◌≤◌}
use mathlib.Core.Path.{◌≡◌, ◌∙◌, ap}
use mathlib.Core.Bool.{Bool, true, false, cond}
use mathlib.Core.List.{List}
use borrow.Author.Tests.{leb-true}
use lib.Dec.{leb, ltb, lit≤}
use lib.ListN.{length}
use Rattle.std.specs.Prelude.{Result, Ok, Err, IfOk}
use Rattle.records.specs.declared.events.Event.{Event}
use Rattle.records.specs.Records.{short}
use Rattle.records.specs.Bodies.{Wrote, wrote, not_written, written}
use Rattle.records.specs.Tables.{Read, taken, refused, read}
use Rattle.records.specs.Events.{events}
use Rattle.callcontrol.specs.declared.call.Call.{Call}
use Rattle.callcontrol.specs.Call.{sound}
use Rattle.callcontrol.specs.Rows.{row_for}
use Rattle.callcontrol.specs.Writing.{messages_in, bytes_of}
use Rattle.callcontrol.specs.declared.step.Refusal.{Refusal}
use Rattle.callcontrol.specs.declared.step.Stepped.{Stepped}
use Rattle.callcontrol.specs.Step.{Outcome, as_outcome, refusal_at, other_call, over_transmission, carried, decided, when_read, step_of}
use Rattle.callcontrol.proofs.Laying.{messages_small}
use Rattle.demands.proofs.Facts.{right}

-- ---- a step writes at most seven STOPs and seven STARTs, CANCEL, a PDU, CONFIGURE and a primitive

record Few (o : Outcome) : Type 0 where
  few : o.count ≤ 122

either : (b : Bool) {x y : Outcome} → Few x → Few y → Few (cond b x y)
either true h k = h
either false h k = k

none : {n place : ℕ} {c : Call} {b : List ℕ} → Few (refusal_at n place c b)
none = record { few = lit≤ tt }

read_few : (r : Read Event) (c : Call) (b : List ℕ) → Few (when_read r c b)
unfolding decided carried
read_few (taken e) c b =
    either (other_call c e) none
    (either (row_for c e).taken
    (either (over_transmission c e) none
    (either (leb (length (bytes_of (messages_in (row_for c e)))) (length b)) (record { few = messages_small (row_for c e) }) none))
    none)
read_few (refused n place) c b = none

step_few : (c : Call) (e b : List ℕ) → Few (step_of c e b)
unfolding step_of
step_few c e b = either (sound c) (read_few (read events e) c b) none

pub step_small : (c : Call) (e b : List ℕ) {o : Outcome} → o ≡ step_of c e b → o.count ≤ 122
step_small c e b same = rw same (step_few c e b).few

taken_small : (c : Call) (a : Result Stepped Refusal) (b : List ℕ) → (as_outcome c a b).count ≤ 122 → IfOk a (λ s. s.count ≤ 122)
taken_small c (Ok s) b h = h
taken_small c (Err e) b h = tt

pub answered_small : (c : Call) (e b after : List ℕ) (a : Result Stepped Refusal) → as_outcome c a after ≡ step_of c e b → IfOk a (λ s. s.count ≤ 122)
answered_small c e b after a same = taken_small c a after (step_small c e b same)

-- ---- a record has 64 bytes at most

abbrev count_in : Wrote → ℕ
count_in (wrote n) = n
count_in (not_written n) = 0

count_short : (ok room : Bool) (n : ℕ) (x y : List ℕ) → n ≤ 64
    → count_in (cond {A = Wrote × List ℕ} ok (cond room (wrote n, x) (not_written 7, y)) (not_written 4, y)).0 ≤ 64
count_short true true n x y h = h
count_short true false n x y h = lit≤ tt
count_short false true n x y h = lit≤ tt
count_short false false n x y h = lit≤ tt

pub short_count : (ok : Bool) (bytes out : List ℕ) {m : ℕ} {after : List ℕ} {w : Wrote × List ℕ} → short bytes ≡ true
    → ◌≡◌ {A = Wrote × List ℕ} (wrote m, after) w → w ≡ written ok bytes out → m ≤ 64
unfolding written
short_count ok bytes out {m} {after} h e is =
    let few : leb (length bytes) 64 ≡ true = right (ltb 0 (length bytes)) _ h in
    let m_is : m ≡ count_in (written ok bytes out).0 = ap (λ (w : Wrote × List ℕ). count_in w.0) (e ∙ is) in
    rw m_is (count_short ok (leb (length bytes) (length out)) (length bytes) _ _ (leb-true _ _ few))
