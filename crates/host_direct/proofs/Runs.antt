-- A host's run is the run of the step: each record of a run is sound, so its bytes are unpacked as it stands, and what a step leaves is
-- packed over them.
use Prim.Native.Nat.{ℕ}
use mathlib.Core.Path.{◌≡◌, refl, sym, ◌∙◌, ap}
use mathlib.Core.Bool.{Bool, true, false, cond}
use mathlib.Core.List.{List, [], ◌∷◌, ◌++◌}
use native.Mathlib.Omega.{arith}
use borrow.Author.Tests.{eq-eqb, eqb-false}
use lib.Dec.{eqb}
use lib.ListN.{length, get_or, drop, drop_of_length-le}
use lib.Seq.{sets, sets-eq}
use Rattle.direct.specs.declared.call.Call.{Call}
use Rattle.direct.specs.Call.{fresh_call}
use Rattle.direct.specs.Step.{Outcome}
use Rattle.direct.specs.Runs.{Turn, outcome, next, run}
use Rattle.direct.specs.Demands.{Kept}
use Rattle.direct.proofs.Demands.{refuses, fresh_is_sound, step_keeps_sound, reads_back, timers_by_messages}
use Rattle.direct.proofs.Kept.{reached}
use Rattle.host_direct.specs.Packing.{packed, flag}
use Rattle.host_direct.specs.Entries.{Left, stepped, freshened, host_step}
use Rattle.host_direct.specs.Runs.{host_run, RunIsPacked, TurnIsStep, TurnReadsOff, TurnReadsBack, TimersInBytes}
use Rattle.host_direct.proofs.Packing.{packed_length, packed_is_unpacked}
use Rattle.host_direct.proofs.ReadOff.{outcome_off}

-- over 7 bytes a packed record leaves none of them
nothing_left : (s : List ℕ) → length s ≡ 7 → drop 7 s ≡ []
nothing_left s h = drop_of_length-le s {i = 7} (omega arith)

append_none : (l : List ℕ) → l ++ [] ≡ l
append_none [] = refl
append_none (x ∷ l) = ap (λ r. x ∷ r) (append_none l)

packed_over : (s : List ℕ) (c : Call) → length s ≡ 7 → sets s 0 (packed c) ≡ packed c
packed_over s c h =
    sets-eq (packed c) s 0 (omega (arith, packed_length c))
    ∙ rw (packed_length c, nothing_left s h, append_none (packed c))

-- a step on a packed record that is sound
turn_packed : (c : Call) (t : Turn) → Kept c → host_step (packed c) t.event t.buffer ≡ stepped (packed c) (outcome c t)
unfolding host_step outcome
turn_packed c t k = rw (packed_is_unpacked c)

step_packed : (c : Call) (t : Turn) → Kept c → (host_step (packed c) t.event t.buffer).call ≡ packed (next c t)
unfolding next outcome
step_packed c t k = ap (λ (l : Left). l.call) (turn_packed c t k) ∙ by_answer (eqb (outcome c t).answer 0) refl
  where
    by_answer : (b : Bool) → eqb (outcome c t).answer 0 ≡ b → cond b (sets (packed c) 0 (packed (outcome c t).call)) (packed c) ≡ packed (outcome c t).call
    by_answer true e = packed_over (packed c) (outcome c t).call (packed_length c)
    by_answer false e = ap (λ (o : Outcome). packed o.call) (sym (refuses c t.event t.buffer (outcome c t).answer refl (eqb-false _ 0 e)))

run_packed : (c : Call) (ts : List Turn) → Kept c → host_run (packed c) ts ≡ packed (run c ts)
unfolding host_run run next outcome
run_packed c [] k = refl
run_packed c (t ∷ ts) k = rw (step_packed c t k) (run_packed (next c t) ts (step_keeps_sound c t k))

begun : (s : List ℕ) → length s ≡ 7 → (freshened s).1 ≡ packed fresh_call
unfolding freshened
begun s h = rw (eq-eqb (length s) 7 h) (packed_over s fresh_call h)

pub run_is_packed : RunIsPacked
run_is_packed s ts h = rw (begun s h) (run_packed fresh_call ts fresh_is_sound)

pub turn_is_step : TurnIsStep
turn_is_step s ts t h = rw (run_is_packed s ts h) (turn_packed (run fresh_call ts) t (reached ts))

pub turn_reads_off : TurnReadsOff
unfolding outcome
turn_reads_off s ts t h =
    rw (turn_is_step s ts t h) (outcome_off (run fresh_call ts) t.event t.buffer)

pub turn_reads_back : TurnReadsBack
turn_reads_back s ts t h = rw ((turn_reads_off s ts t h).counts, turn_is_step s ts t h) (reads_back ts t)

pub timers_in_bytes : TimersInBytes
unfolding packed
timers_in_bytes s ts h =
    let same = run_is_packed s ts h in
    (ap (λ (l : List ℕ). get_or l 5 0) same ∙ ap flag (sym (timers_by_messages ts).0), ap (λ (l : List ℕ). get_or l 6 0) same ∙ ap flag (sym (timers_by_messages ts).1))
