-- Calls end by their timers alone: each expiry of a running timer lowers a number that is 3 at most, and where it is 0 no timer runs.
use Prim.Native.Nat.{ℕ, suc, ◌+◌, ◌≤◌}
use mathlib.Core.Path.{◌≡◌, refl, sym, ◌∙◌, ap}
use mathlib.Core.Bool.{Bool, true, false, cond, not, ◌||◌}
use mathlib.Core.List.{List, [], ◌∷◌, ◌++◌}
use mathlib.Core.Option.{some}
use native.Mathlib.Omega.{arith}
use borrow.Author.Tests.{eqb-true}
use lib.Dec.{eqb, lit≤}
use lib.ListN.{length, get_or}
use Rattle.records.specs.declared.events.Event.TheVariants.{Expiry}
use Rattle.callcontrol.specs.declared.call.State.{State}
use Rattle.callcontrol.specs.declared.call.Path.{Path}
use Rattle.callcontrol.specs.declared.call.Call.{Call}
use Rattle.records.specs.declared.messages.Message.TheVariants.{ReleaseIndication}
use Rattle.callcontrol.specs.Draft.{Draft}
use Rattle.callcontrol.specs.Draft.{◌▷◌, draft, expired, release, tell}
use Rattle.callcontrol.specs.Call.{fresh_call, runs, is_idle, T301, T302, T303, T306, T308, T310, T311}
use Rattle.callcontrol.specs.Rows
use Rattle.callcontrol.specs.Rows.{row_for}
use Rattle.callcontrol.proofs.Verbs.{verbs}
use Rattle.demands.specs.Runs.{Turn, next, run, taken_by}
use Rattle.demands.specs.Clocks.{running_by, note_log, index_of}
use Rattle.demands.specs.Demands.{OnlyDue, AtMostThreeDue, NoneAfterThree, AtRest, over, rings, talks, pauses, NoneRuns, NoLimitNoExpiry}
use Rattle.demands.proofs.ByRow.{Live, Ender, t301, t302, t303, t306, t310, Row, is_row}
use Rattle.demands.proofs.Turns.{accepts, run_last, run-append}
use Rattle.demands.proofs.Timers.{Timed, idle, mo, mt, up, broken, restoring, wait, disconnect, row_clocked, reached}
use Rattle.demands.proofs.Tracked.{timers_by_messages}
use Rattle.demands.proofs.Expiries.{by_messages, late_expiry, due_expiry}
use Rattle.demands.proofs.Ended.{idle_is_fresh}
use Rattle.demands.proofs.Facts.{apart}

-- how many expiries may still come: T308's is the last, one of the five that end a call is followed by it, T311's ends none
weigh : Bool → Bool → Bool → ℕ
weigh speaks released live = cond speaks 1 0 + (cond released 1 0 + cond live 2 0)

rank : Call → ℕ
rank c = weigh (runs c T311) (runs c T308) (runs c T301 || (runs c T302 || (runs c T303 || (runs c T306 || runs c T310))))

or_first : (a b : Bool) → a ≡ true → (a || b) ≡ true
or_first a b h = rw h

or-true : (a b : Bool) → b ≡ true → (a || b) ≡ true
or-true true b h = refl
or-true false b h = h

heavy : (s r l : Bool) → l ≡ true → 2 ≤ weigh s r l
unfolding weigh
heavy true true l h = rw h (lit≤ tt)
heavy true false l h = rw h (lit≤ tt)
heavy false true l h = rw h (lit≤ tt)
heavy false false l h = rw h (lit≤ tt)

-- one of the five that end a call
live : (c : Call) {n k : ℕ} → Ender n k → runs c k ≡ true
    → (runs c T301 || (runs c T302 || (runs c T303 || (runs c T306 || runs c T310)))) ≡ true
live c (t301 e) z = or_first (runs c T301) _ z
live c (t302 e) z = or-true (runs c T301) _ (or_first (runs c T302) (runs c T303 || (runs c T306 || runs c T310)) z)
live c (t303 e) z = or-true (runs c T301) _ (or-true (runs c T302) _ (or_first (runs c T303) (runs c T306 || runs c T310) z))
live c (t306 e) z = or-true (runs c T301) _ (or-true (runs c T302) _ (or-true (runs c T303) _ (or_first (runs c T306) (runs c T310) z)))
live c (t310 e) z = or-true (runs c T301) _ (or-true (runs c T302) _ (or-true (runs c T303) _ (or-true (runs c T306) (runs c T310) z)))

released : {c : Call} → Timed State.CallDisconnect Path.Up c → rank c ≡ 1
unfolding rank weigh
released disconnect = refl

spoken : (b : Bool) → suc (weigh false false b) ≤ weigh true false b
unfolding weigh
spoken true = lit≤ tt
spoken false = lit≤ tt

ended : (c d : Call) → rank d ≡ 1 → 2 ≤ rank c → suc (rank d) ≤ rank c
ended c d e h = omega (arith, e, h)

last : (c : Call) {n k : ℕ} → Ender n k → runs c k ≡ true → 2 ≤ rank c
unfolding rank
last c t z = heavy _ _ _ (live c t z)

-- each expiry that has a row lowers it
expires_falls : {c : Call} {s : State} {w : Path} (l : Live s) (n k : ℕ) (t : Ender n k) (z : runs c k ≡ true) → Timed s w c
    → suc (rank (draft c ▷ expired k ▷ release 2 ▷ tell (ReleaseIndication 2)).call) ≤ rank c
unfolding verbs
expires_falls {c} l n k t z v = ended c _ (released (row_clocked (Row.expires l n k t z) v)) (last c t z)

falls : {c : Call} {s : State} {w : Path} {n : ℕ} {x : Draft} → Row c s w (Expiry n) x → Timed s w c → suc (rank x.call) ≤ rank c
unfolding verbs Rows.confirmed rank weigh
falls (Row.expires l n k t z) v = expires_falls l n k t z v
falls (Row.talked_out n z y) (up {o} {t}) = rw y (spoken (not (eqb o 0)))
falls (Row.unanswered n z) disconnect = lit≤ tt

turn_falls : (ts : List Turn) (u : Turn) (n : ℕ) → taken_by (run fresh_call ts) u ≡ some (Expiry n) → suc (rank (next (run fresh_call ts) u)) ≤ rank (run fresh_call ts)
turn_falls ts u n h =
    let c = run fresh_call ts in
    let a = accepts c u (Expiry n) h in
    rw a.leaves (falls (is_row c (Expiry n) a.row) (reached ts))

all_fall : (ts us : List Turn) → OnlyDue ts us → length us + rank (run (run fresh_call ts) us) ≤ rank (run fresh_call ts)
unfolding run
all_fall ts [] h = omega arith
all_fall ts (u ∷ us) (n, reads, runs-now, room, rest) =
    let now = turn_falls ts u n (due_expiry ts u n reads runs-now room) in
    let then = rw (run_last fresh_call ts u) at (all_fall (ts ++ u ∷ []) us rest) in
    omega (arith, now, then)

-- ---- it is 3 at most, and 0 where no timer runs

small : (s l : Bool) → weigh s false l ≤ 3
unfolding weigh
small true true = lit≤ tt
small true false = lit≤ tt
small false true = lit≤ tt
small false false = lit≤ tt

most : {s : State} {w : Path} {c : Call} → Timed s w c → rank c ≤ 3
unfolding rank weigh
most idle = small false false
most (mo {t = true} h) = small false true
most (mo {t = false} h) = small false true
most (mt {t}) = small false (t || false)
most (up {o} {t}) = small t (not (eqb o 0))
most (broken {o}) = small false (not (eqb o 0))
most restoring = small false true
most (wait {o}) = small false (not (eqb o 0))
most disconnect = lit≤ tt

stopped : List Bool
stopped = false ∷ false ∷ false ∷ false ∷ false ∷ false ∷ false ∷ []

weightless : (s l : Bool) → weigh s false l ≡ 0 → (false ∷ false ∷ false ∷ false ∷ false ∷ l ∷ s ∷ []) ≡ stopped
unfolding weigh stopped
weightless true true h = absurd (omega (arith, h))
weightless true false h = absurd (omega (arith, h))
weightless false true h = absurd (omega (arith, h))
weightless false false h = refl

none_left : {s : State} {w : Path} {c : Call} → Timed s w c → rank c ≡ 0 → c.timers ≡ stopped
unfolding rank weigh stopped
none_left idle h = refl
none_left (mo {t = true} e) h = absurd (omega (arith, h))
none_left (mo {t = false} e) h = absurd (omega (arith, h))
none_left (mt {t = true}) h = absurd (omega (arith, h))
none_left (mt {t = false}) h = refl
none_left (up {o} {t}) h = weightless t (not (eqb o 0)) h
none_left (broken {o}) h = weightless false (not (eqb o 0)) h
none_left restoring h = absurd (omega (arith, h))
none_left (wait {o}) h = weightless false (not (eqb o 0)) h
none_left disconnect h = absurd (omega (arith, h))

pub at_most_three_due : AtMostThreeDue
at_most_three_due ts us h = omega (arith, all_fall ts us h, most (reached ts))

pub none_after_three : NoneAfterThree
unfolding stopped running_by note_log
none_after_three ts us h three =
    let weight : rank (run fresh_call (ts ++ us)) ≡ 0 = rw (run-append fresh_call ts us) (omega (arith, all_fall ts us h, most (reached ts), three)) in
    timers_by_messages (ts ++ us) ∙ none_left (reached (ts ++ us)) weight

-- ---- where none runs

flag : {f : List Bool} (k : ℕ) → f ≡ stopped → get_or f k false ≡ get_or stopped k false
flag k e = ap (λ (f : List Bool). get_or f k false) e

code_0 : (o : ℕ) (b : Bool) → eqb o 0 ≡ b → not b ≡ false → o ≡ 0
code_0 o true e h = eqb-true o 0 e
code_0 o false e h = apart refl h

rests : {s : State} {w : Path} {c : Call} → Timed s w c → (is_idle c ≡ true → c ≡ fresh_call) → c.timers ≡ stopped → AtRest c
unfolding stopped
rests idle f e = over (f refl)
rests (mo {t = true} h) f e = apart refl (flag T302 e)
rests (mo {t = false} h) f e = apart refl (flag T303 e)
rests mt f e = rings refl (flag T301 e)
rests (up {o}) f e = talks refl (code_0 o _ refl (flag T310 e))
rests (broken {o}) f e = talks refl (code_0 o _ refl (flag T310 e))
rests restoring f e = apart refl (flag T306 e)
rests (wait {o}) f e = pauses refl (code_0 o _ refl (flag T310 e))
rests disconnect f e = apart refl (flag T308 e)

pub none_runs_lem : NoneRuns
unfolding stopped running_by note_log
none_runs_lem ts h = rests (reached ts) (idle_is_fresh ts) (sym (timers_by_messages ts) ∙ h)

-- ---- code 0

clockless : {s : State} {w : Path} {c : Call} → Timed s w c → c.code ≡ 0 → runs c T310 ≡ false
clockless idle h = refl
clockless (mo e) h = refl
clockless mt h = refl
clockless up h = rw h
clockless broken h = rw h
clockless restoring h = rw h
clockless wait h = rw h
clockless disconnect h = refl

pub no_limit_no_expiry : NoLimitNoExpiry
unfolding index_of
no_limit_no_expiry ts t h reads = late_expiry ts t 310 reads (by_messages ts 310 ∙ clockless (reached ts) h)
