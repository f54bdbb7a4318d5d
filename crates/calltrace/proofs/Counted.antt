-- How many bytes a step writes: no more than it is lent.
use Prim.Native.Nat.{ℕ, ◌≤◌, zero-le}
use mathlib.Core.Path.{◌≡◌, ap}
use mathlib.Core.List.{List}
use borrow.Author.Tests.{leb-true}
use Rattle.std.proofs.lemmas.Bool.{cond_both}
use lib.ListN.{length}
use Rattle.records.specs.declared.events.Event.{Event}
use Rattle.records.specs.Tables.{Read, taken, refused, read}
use Rattle.records.specs.Events.{events}
use Rattle.callcontrol.specs.declared.call.Call.{Call}
use Rattle.callcontrol.specs.Draft.{Draft}
use Rattle.std.specs.Prelude.{Ok}
use Rattle.callcontrol.specs.declared.step.Stepped.{Stepped}
use Rattle.callcontrol.specs.Call.{sound}
use Rattle.callcontrol.specs.Rows.{row_for}
use Rattle.callcontrol.specs.Step.{Outcome, other_call, over_transmission, carried, decided, when_read, step_of, as_outcome}

abbrev Counts : List ℕ → Outcome → Type 0
Counts buffer o = o.count ≤ length buffer

carried_count : (c : Call) (d : Draft) (buffer : List ℕ) → Counts buffer (carried c d buffer)
unfolding carried
carried_count c d buffer = cond_both _ _ _ (Counts buffer) (λ e. leb-true _ _ e) (λ e. zero-le)

decided_count : (c : Call) (e : Event) (buffer : List ℕ) → Counts buffer (decided c e buffer)
unfolding decided
decided_count c e buffer =
    cond_both (other_call c e) _ _ (Counts buffer) (λ h. zero-le)
    (λ h. cond_both (row_for c e).taken _ _ (Counts buffer)
    (λ k. cond_both (over_transmission c e) _ _ (Counts buffer) (λ j. zero-le) (λ j. carried_count c (row_for c e) buffer)) (λ k. zero-le))

read_count : (r : Read Event) (c : Call) (buffer : List ℕ) → Counts buffer (when_read r c buffer)
read_count (taken e) c buffer = decided_count c e buffer
read_count (refused n place) c buffer = zero-le

step_count : (c : Call) (bytes buffer : List ℕ) → Counts buffer (step_of c bytes buffer)
unfolding step_of
step_count c bytes buffer = cond_both (sound c) _ _ (Counts buffer) (λ h. read_count (read events bytes) c buffer) (λ h. zero-le)

pub count_of_taken : (c : Call) (s : Stepped) (bytes buffer after : List ℕ) → as_outcome c (Ok s) after ≡ step_of c bytes buffer → s.count ≤ length buffer
count_of_taken c s bytes buffer after e = rw (ap (λ (o : Outcome). o.count) e) (step_count c bytes buffer)
