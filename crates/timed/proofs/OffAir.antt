-- A simplex set is off the air soon after the network's last word: in its silence T311 is not started, and plane 1 is told only while it runs.
use Prim.Native.Nat.{ℕ, ◌+◌, ◌<◌, ◌≤◌}
use mathlib.Core.Path.{◌≡◌, refl, sym, ◌∙◌, ap}
use mathlib.Core.Bool.{false}
use mathlib.Core.List.{List, [], ◌∷◌}
use mathlib.Core.Option.{Option, none, some}
use native.Mathlib.Omega.{arith}
use lib.Dec.{eqb, lit<}
use Rattle.records.specs.declared.events.Event.{Event}
use Rattle.timers.proofs.Tests.{by_test}
use Rattle.callcontrol.specs.declared.call.Call.{Call}
use Rattle.callcontrol.specs.Call.{runs, T311}
use Rattle.callcontrol.specs.Rows.{row_for}
use Rattle.demands.specs.Runs as Steps
use Rattle.demands.proofs.Demands.{step_in_range}
use Rattle.timed.specs.Entries.{turn_of}
use Rattle.timed.specs.Times.{Begun, Clocks, dropped}
use Rattle.timed.specs.Runs.{Turn, step, due, taken_by, has_word, Kept, made, then, after, InReach, AllInReach}
use Rattle.timed.specs.Demands.{Silent, OffAir, Started, OutlivesNetwork}
use Rattle.timed.proofs.Ledger.{none≢some}
use Rattle.timed.proofs.Turns.{Did, Stepped, refused, waited, stepped, lapsed, did, lapse_turn}
use Rattle.timed.proofs.Reach.{kept, clocked}
use Rattle.timed.proofs.Holding.{Holds, holds_made, every_run, holds_after, holds_then, step_takes, limits_at, no_lapse}
use Rattle.timed.proofs.OnTime.{noted_all_at, clocks_refused, clocks_waited, clocks_made, clocks_then, none_runs_lem, n₀, none_311, last_refused, last_taken, quiet_after, quiet_made, on_air_at}
use Rattle.timed.proofs.Fates.{Off, silenced, untouched, fate_311}
use Rattle.timed.proofs.Silence.{answered, Plain, plain, outlives}

-- ---- T311 in the network's silence: as it was, or it does not run

data Air (v : Option Begun) (k : Kept) : Type 0 where
  silent : k.clocks 311 ≡ none → Air v k
  same : k.clocks 311 ≡ v → Air v k

module _ (v : Option Begun) (k : Kept) (h : Holds k) where
  as_before : (d : Turn) → (then k d).clocks 311 ≡ k.clocks 311 → Air v k → Air v (then k d)
  as_before d e (silent z) = silent (e ∙ z)
  as_before d e (same z) = same (e ∙ z)

  air_stepped : (table : List ℕ) (time : ℕ) (event buffer : List ℕ) → InReach k (step table time event buffer) → Stepped k.timed table time event buffer
      → has_word (taken_by k.timed (step table time event buffer)) ≡ false → Air v k → Air v (then k (step table time event buffer))
  air_stepped table time event buffer i r s z =
      let w = plain k h table time event buffer r s in
      by w.0 w.1 (fate_311 w.1.row (clocked k.timed.call h.reach) w.1.no_word w.1.no_expiry)
    where
      by : (e : Event) → Plain k table time event buffer e → Off (row_for k.timed.call e) → Air v (then k (step table time event buffer))
      by e w (silenced f) =
          silent (none_runs_lem (then k (step table time event buffer)) (holds_then k h (step table time event buffer) i) 6 (lit< tt) (ap (λ (c : Call). runs c T311) w.calls ∙ f))
      by e w (untouched f) = as_before (step table time event buffer) (ap (λ (u : Clocks). u 311) w.clocks ∙ f table time k.clocks) z

air_then : (v : Option Begun) (k : Kept) → Holds k → {d : Turn} → Did k.timed d → InReach k d → has_word (taken_by k.timed d) ≡ false → Air v k → Air v (then k d)
air_then v k h (refused {d} r) i s z = as_before v k h d (ap (λ (u : Clocks). u 311) (clocks_refused k d r)) z
air_then v k h (waited {table} {time} {buffer} r) i s z = as_before v k h (due table time buffer) (ap (λ (u : Clocks). u 311) (clocks_waited k table time buffer r)) z
air_then v k h (stepped {table} {time} {event} {buffer} r) i s z = air_stepped v k h table time event buffer i r s z
air_then v k h (lapsed {table} {time} {buffer} r) i s z = silent (none_311 k h table time buffer i r)

air_after : (v : Option Begun) (k : Kept) → Holds k → (es : List Turn) → AllInReach k es → Silent k es → Air v k → Air v (after k es)
unfolding after
air_after v k h [] i s z = z
air_after v k h (d ∷ es) i s z = air_after v (then k d) (holds_then k h d i.0) es i.1 s.1 (air_then v k h (did k.timed d) i.0 s.0 z)

-- ---- a timer that runs was started at or before the last reading

abbrev Since : ℕ → Option Begun → Type 0
Since w none = Unit {0}
Since w (some x) = x.at ≤ w

since_later : (w time : ℕ) → w ≤ time → (v : Option Begun) → Since w v → Since time v
since_later w time a none h = tt
since_later w time a (some x) h = omega (arith, h, a)

since_then : (k : Kept) → Holds k → {d : Turn} → Did k.timed d → InReach k d → (n : ℕ) → Since k.last (k.clocks n) → Since (then k d).last ((then k d).clocks n)
since_then k h (refused {d} r) i n z = rw (last_refused k d r, clocks_refused k d r) z
since_then k h (waited {table} {time} {buffer} r) i n z =
    rw (last_taken k (due table time buffer) (answered k.timed (due table time buffer) r.gives refl), clocks_waited k table time buffer r) (since_later k.last time i.not_earlier (k.clocks n) z)
since_then k h (stepped {table} {time} {event} {buffer} r) i n z =
    let c = k.timed.call in
    let u = turn_of event buffer in
    let e = step_takes k h table time event buffer r in
    rw (
      last_taken k (step table time event buffer) (answered k.timed (step table time event buffer) r.gives refl),
      clocks_made k (step table time event buffer) u e.0 r.steps e.1.0,
      (no_lapse k.clocks c.timers e.0 e.1.1).0,
    )
    (noted_all_at table time n (Since time) tt (λ o f l. omega arith) k.clocks (Steps.written_by c u) (step_in_range c u (kept c h.reach)) (limits_at c u) (since_later k.last time i.not_earlier (k.clocks n) z))
since_then k h (lapsed {table} {time} {buffer} r) i n z =
    let c = k.timed.call in
    let u = lapse_turn k.timed time buffer in
    rw (last_taken k (due table time buffer) (answered k.timed (due table time buffer) r.gives refl), clocks_then k h table time buffer i r)
    (noted_all_at table time n (Since time) tt (λ o f l. omega arith) (dropped (n₀ k h table time buffer i r) k.clocks) (Steps.written_by c u) (step_in_range c u (kept c h.reach)) (limits_at c u)
    (by_test (eqb n (n₀ k h table time buffer i r)) none (k.clocks n) (Since time) (λ q. tt) (λ q. since_later k.last time i.not_earlier (k.clocks n) z)))

since_after : (k : Kept) → Holds k → (ds : List Turn) → AllInReach k ds → (n : ℕ) → Since k.last (k.clocks n) → Since (after k ds).last ((after k ds).clocks n)
unfolding after
since_after k h [] i n z = z
since_after k h (d ∷ ds) i n z = since_after (then k d) (holds_then k h d i.0) ds i.1 n (since_then k h (did k.timed d) i.0 n z)

since_made : (time n : ℕ) → Since (made time).last ((made time).clocks n)
unfolding made
since_made time n = tt

pub started_so : Started
started_so time ds n x all runs =
    let k = after (made time) ds in
    let s : Since k.last (k.clocks n) = since_after (made time) (holds_made time) ds all n (since_made time n) in
    rw runs at s

pub outlives_network : OutlivesNetwork
outlives_network time ds es long G L now x all i runs most some-long silence none-asked punctual settled a b =
    let k = after (made time) ds in
    let since = started_so time ds 310 x all runs in
    outlives time ds es 310 (k.last + long) G L now x all i refl runs (omega (arith, since, most)) (omega (arith, some-long)) silence none-asked punctual settled a b

-- ---- off the air

pub off_air : OffAir
off_air time ds es long G now all i most silence a b one =
    let k = after (made time) ds in
    let h = every_run time ds all in
    let end-holds = holds_after k h es i in
    let quiet = quiet_after k h es i (quiet_after (made time) (holds_made time) ds all (quiet_made time)) in
    let y = on_air_at (after k es) end-holds quiet one in
    by y.0 y.1 y.2 (air_after (k.clocks 311) k h es i silence (same refl))
  where
    by : (y : Begun) → (after (after (made time) ds) es).clocks 311 ≡ some y → (after (after (made time) ds) es).last < y.at + y.long
        → Air ((after (made time) ds).clocks 311) (after (after (made time) ds) es) → ⊥
    by y runs before (silent z) = none≢some (sym z ∙ runs)
    by y runs before (same z) =
        let at_first = sym z ∙ runs in
        let since = started_so time ds 311 y all at_first in
        let short = most y at_first in
        omega (arith, since, short, before, a, b)
