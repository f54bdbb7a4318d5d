-- Record and bank stay together over every run, and the record is the step's.
use Prim.Native.Nat.{ℕ}
use mathlib.Core.Path.{◌≡◌, refl, sym, ◌∙◌, ap}
use mathlib.Core.Bool.{Bool, true, false, beq}
use mathlib.Core.List.{List, [], ◌∷◌, ◌++◌, append_assoc, append-nil}
use native.Mathlib.Omega.{arith}
use lib.ListN.{length, get_or}
use lib.Seq.{sets}
use Rattle.timers.specs.Bank.{new_bank}
use Rattle.callcontrol.specs.declared.call.Call.{Call}
use Rattle.callcontrol.specs.Call.{sound}
use Rattle.callcontrol.specs.Writing.{bytes_of}
use Rattle.demands.specs.Runs as Steps
use Rattle.demands.proofs.Turns.{run-append}
use Rattle.demands.proofs.Sound.{always}
use Rattle.demands.proofs.Told.{told_is_plane}
use Rattle.demands.proofs.Demands.{zero_is_taken, taken_gives, never_unsound}
use Rattle.timed.specs.declared.set.Timed.{Timed}
use Rattle.timed.specs.Set.{new_of, same_flags, is_set, held_at, turned}
use Rattle.timed.specs.Runs.{Turn, lent_to, outcome, next, run, steps_by, steps_in, written_by}
use Rattle.timed.specs.Demands.{BankIsRecord, StaysSet, NeverNoSet, FollowsStep, AllTaken, StepsTaken, WritesStep, StepsAppend, ToldSet}
use Rattle.timed.proofs.Turns.{Did, refused, waited, stepped, lapsed, did, next_is}

-- ---- one turn

module _ (t : Timed) where
  -- the bank's flags are the record's
  abbrev pub Joined : Type 0
  Joined = t.bank.running ≡ t.call.timers

pub joined_next : (t : Timed) (d : Turn) → Joined t → Joined (next t d)
unfolding held_at turned
joined_next t d j = by (did t d)
  where
    by : {e : Turn} → Did t e → Joined (next t e)
    by (refused r) = rw (next_is t _ r.gives) j
    by (waited r) = rw (next_is t _ r.gives) refl
    by (stepped r) = rw (next_is t _ r.gives) refl
    by (lapsed r) = rw (next_is t _ r.gives) refl

-- the record after a turn is the step's after the turns that it makes
pub call_next : (t : Timed) (d : Turn) → (next t d).call ≡ Steps.run t.call (steps_by t d)
unfolding held_at turned Steps.run
call_next t d = by (did t d)
  where
    by : {e : Turn} → Did t e → (next t e).call ≡ Steps.run t.call (steps_by t e)
    by (refused r) = rw (next_is t _ r.gives, r.steps)
    by (waited r) = rw (next_is t _ r.gives, r.steps)
    by (stepped r) = rw (next_is t _ r.gives, r.steps)
    by (lapsed r) = rw (next_is t _ r.gives, r.steps)

pub taken_next : (t : Timed) (d : Turn) → AllTaken t.call (steps_by t d)
taken_next t d = by (did t d)
  where
    by : {e : Turn} → Did t e → AllTaken t.call (steps_by t e)
    by (refused r) = rw r.steps tt
    by (waited r) = rw r.steps tt
    by (stepped r) = rw r.steps (r.taken, tt)
    by (lapsed r) = rw r.steps (r.taken, tt)

-- ---- runs

pub joined_run : (t : Timed) (ds : List Turn) → Joined t → Joined (run t ds)
unfolding run
joined_run t [] j = j
joined_run t (d ∷ ds) j = joined_run (next t d) ds (joined_next t d j)

pub call_run : (t : Timed) (ds : List Turn) → (run t ds).call ≡ Steps.run t.call (steps_in t ds)
unfolding run steps_in Steps.run
call_run t [] = refl
call_run t (d ∷ ds) =
    call_run (next t d) ds ∙ ap (λ (c : Call). Steps.run c (steps_in (next t d) ds)) (call_next t d)
    ∙ sym (run-append t.call (steps_by t d) (steps_in (next t d) ds))

pub bank_is_record : BankIsRecord
unfolding new_bank
bank_is_record reading ds = joined_run (new_of reading) ds refl

pub follows_step : FollowsStep
follows_step reading ds = call_run (new_of reading) ds

-- ---- so it is a set

same_bit : (b : Bool) → beq b b ≡ true
same_bit true = refl
same_bit false = refl

same_flags_lem : (f : List Bool) → same_flags f f ≡ true
unfolding same_flags
same_flags_lem f = rw (same_bit (get_or f 0 false), same_bit (get_or f 1 false), same_bit (get_or f 2 false), same_bit (get_or f 3 false), same_bit (get_or f 4 false), same_bit (get_or f 5 false), same_bit (get_or f 6 false))

pub is_set_lem : (t : Timed) → Joined t → sound t.call ≡ true → is_set t ≡ true
unfolding is_set
is_set_lem t j s = rw (j, s) (same_flags_lem t.call.timers)

pub sound_run : (reading : ℕ) (ds : List Turn) → sound (run (new_of reading) ds).call ≡ true
sound_run reading ds = rw (follows_step reading ds) (always (steps_in (new_of reading) ds)).meets

pub stays_set : StaysSet
stays_set reading ds = is_set_lem (run (new_of reading) ds) (bank_is_record reading ds) (sound_run reading ds)

-- ---- steps taken

taken-append : (c : Call) (ts us : List Steps.Turn) → AllTaken c ts → AllTaken (Steps.run c ts) us → AllTaken c (ts ++ us)
unfolding Steps.run
taken-append c [] us p q = q
taken-append c (t ∷ ts) us p q = (p.0, taken-append (Steps.next c t) ts us p.1 q)

taken_run : (t : Timed) (ds : List Turn) → AllTaken t.call (steps_in t ds)
unfolding steps_in
taken_run t [] = tt
taken_run t (d ∷ ds) = taken-append t.call (steps_by t d) _ (taken_next t d) (rw (← (call_next t d)) (taken_run (next t d) ds))

pub steps_taken : StepsTaken
steps_taken reading ds = taken_run (new_of reading) ds

pub steps_append : StepsAppend
unfolding steps_in run
steps_append t [] es = refl
steps_append t (d ∷ ds) es = rw (steps_append (next t d) ds es) (sym (append_assoc (steps_by t d) (steps_in (next t d) ds) (steps_in (run (next t d) ds) es)))

pub told_set : ToldSet
told_set reading ds = told_is_plane (steps_in (new_of reading) ds) ∙ ap (λ (c : Call). c.plane) (sym (follows_step reading ds))

-- ---- 1 never comes back

pub never_no_set : NeverNoSet
never_no_set reading ds d h = by (did (run (new_of reading) ds) d) h
  where
    by : {e : Turn} → Did (run (new_of reading) ds) e → (outcome (run (new_of reading) ds) e).answer ≡ 1 → ⊥
    by (refused r) one =
        let from = r.one (stays_set reading ds) (rw r.gives at one) in
        never_unsound (steps_in (new_of reading) ds) from.0 (rw (follows_step reading ds) at from.1)
    by (waited r) one = let z : ◌≡◌ {A = ℕ} 0 1 = rw r.gives at one in omega (arith, z)
    by (stepped r) one = let z : ◌≡◌ {A = ℕ} 0 1 = rw r.gives at one in omega (arith, z)
    by (lapsed r) one = let z : ◌≡◌ {A = ℕ} 0 1 = rw r.gives at one in omega (arith, z)

-- ---- what a turn counts and stores

stores : (c : Call) (u : Steps.Turn) → (Steps.outcome c u).answer ≡ 0
    → ((Steps.outcome c u).count ≡ length (bytes_of (Steps.written_by c u))) × ((Steps.outcome c u).buffer ≡ sets u.buffer 0 (bytes_of (Steps.written_by c u)))
stores c u h =
    let e = zero_is_taken c u h in
    let g = taken_gives c u e.0 e.1 in
    (g.2, g.3)

wrote : (t : Timed) (d : Turn) → Did t d
    → ((outcome t d).count ≡ length (bytes_of (written_by t d))) × ((outcome t d).buffer ≡ sets (lent_to d) 0 (bytes_of (written_by t d)))
unfolding Steps.written_in bytes_of
wrote t d (refused r) = rw (r.gives, r.steps) (refl, refl)
wrote t _ (waited r) = rw (r.gives, r.steps) (refl, refl)
wrote t _ (stepped r) = rw (r.gives, r.steps, append-nil) (stores t.call _ r.taken)
wrote t _ (lapsed r) = rw (r.gives, r.steps, append-nil) (stores t.call _ r.taken)

pub writes_step : WritesStep
writes_step reading ds d = wrote (run (new_of reading) ds) d (did (run (new_of reading) ds) d)
