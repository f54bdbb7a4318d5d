-- A host's run is the run of the step: each record of a run is sound, so its bytes are unpacked as it stands, and what a step leaves is
-- packed over them.
use Prim.Native.Nat.{ℕ, ◌+◌, ◌*◌, ◌%◌, ◌≤◌}
use mathlib.Core.Path.{◌≡◌, refl, sym, ◌∙◌, ap}
use mathlib.Core.Bool.{Bool, true, false, cond}
use mathlib.Core.List.{List, [], ◌∷◌, ◌++◌}
use native.Mathlib.Omega.{arith}
use borrow.Author.Tests.{eq-eqb, eqb-false}
use lib.Dec.{eqb}
use lib.ListN.{length, get_or, drop, drop_of_length-le}
use lib.Seq.{sets, sets-eq}
use Rattle.records.specs.Bytes.{bytes}
use Rattle.callcontrol.specs.declared.call.Call.{Call}
use Rattle.callcontrol.specs.Call.{fresh_call}
use Rattle.callcontrol.specs.Step.{Outcome}
use Rattle.demands.specs.Runs.{Turn, outcome, next, run}
use Rattle.demands.specs.Demands.{Kept}
use Rattle.demands.proofs.Demands.{refuses, fresh_is_sound, step_keeps_sound, told_by_history, reads_back}
use Rattle.demands.proofs.Sound.{always}
use Rattle.host.specs.Packing.{names, settings, running, packed}
use Rattle.host.specs.Entries.{Left, stepped, freshened, host_step}
use Rattle.host.specs.Runs.{host_run, RunIsPacked, TurnIsStep, TurnReadsBack, PlaneByHistory}
use Rattle.host.proofs.Packing.{packed_length, sound_is_unpacked}
use Rattle.host.proofs.Small.{step_small}

-- over 22 bytes a packed record leaves none of them
nothing_left : (s : List ℕ) → length s ≡ 22 → drop 22 s ≡ []
nothing_left s h = drop_of_length-le s {i = 22} (omega arith)

append_none : (l : List ℕ) → l ++ [] ≡ l
append_none [] = refl
append_none (x ∷ l) = ap (λ r. x ∷ r) (append_none l)

packed_over : (s : List ℕ) (c : Call) → length s ≡ 22 → sets s 0 (packed c) ≡ packed c
packed_over s c h =
    sets-eq (packed c) s 0 (omega (arith, packed_length c))
    ∙ rw (packed_length c, nothing_left s h, append_none (packed c))

-- a step on a packed record that is sound
turn_packed : (c : Call) (t : Turn) → Kept c → host_step (packed c) t.event t.buffer ≡ stepped (packed c) (outcome c t)
unfolding host_step outcome
turn_packed c t k = rw (sound_is_unpacked c k.meets k.size)

step_packed : (c : Call) (t : Turn) → Kept c → (host_step (packed c) t.event t.buffer).call ≡ packed (next c t)
unfolding next outcome
step_packed c t k = ap (λ (l : Left). l.call) (turn_packed c t k) ∙ by_answer (eqb (outcome c t).answer 0) refl
  where
    by_answer : (b : Bool) → eqb (outcome c t).answer 0 ≡ b → cond b (sets (packed c) 0 (packed (outcome c t).call)) (packed c) ≡ packed (outcome c t).call
    by_answer true e = packed_over (packed c) (outcome c t).call (packed_length c)
    by_answer false e = ap (λ (o : Outcome). packed o.call) (sym (refuses c t.event t.buffer (outcome c t).answer refl (eqb-false _ 0 e)))

run_packed : (c : Call) (ts : List Turn) → Kept c → host_run (packed c) ts ≡ packed (run c ts)
unfolding host_run run next outcome
run_packed c [] k = refl
run_packed c (t ∷ ts) k = rw (step_packed c t k) (run_packed (next c t) ts (step_keeps_sound c t.event t.buffer k))

begun : (s : List ℕ) → length s ≡ 22 → (freshened s).1 ≡ packed fresh_call
unfolding freshened
begun s h = rw (eq-eqb (length s) 22 h) (packed_over s fresh_call h)

pub run_is_packed : RunIsPacked
run_is_packed s ts h = rw (begun s h) (run_packed fresh_call ts fresh_is_sound)

pub turn_is_step : TurnIsStep
turn_is_step s ts t h = rw (run_is_packed s ts h) (turn_packed (run fresh_call ts) t (always ts))

-- the count is in the low two bytes of the result
low : (answer place count : ℕ) → count ≤ 122 → (answer * 16777216 + place * 65536 + count) % 65536 ≡ count
low answer place count h = omega arith

pub turn_reads_back : TurnReadsBack
unfolding outcome
turn_reads_back s ts t h =
    let c = run fresh_call ts in
    rw (turn_is_step s ts t h, low (outcome c t).answer (outcome c t).place (outcome c t).count (step_small c t.event t.buffer refl)) (reads_back c t (always ts))

plane_byte : (c : Call) → get_or (packed c) 11 0 ≡ c.plane
unfolding packed names settings running bytes
plane_byte c = refl

pub plane_by_history : PlaneByHistory
plane_by_history s ts h = rw (run_is_packed s ts h) (plane_byte (run fresh_call ts) ∙ sym (told_by_history ts).1 ∙ (told_by_history ts).0)
