-- A row's messages laid in a room of our own, and copied.
use Prim.Native.Nat.{ℕ, ◌+◌, ◌/◌, ◌%◌, ◌≤◌}
use mathlib.Core.Path.{◌≡◌, refl, sym, ◌∙◌, ap}
use mathlib.Core.List.{List, ◌++◌}
use native.Mathlib.Nat.{zero-add}
use native.Mathlib.Omega.{arith}
use lib.Dec.{eqb}
use lib.ListN.{length, take, drop}
use lib.Seq.{sets, sets-eq, length-sets, take-append_seam, length-take-le}
use mathlib.Core.Bool.{Bool}
use Rattle.records.specs.Bodies.{Stored}
use Rattle.records.proofs.Laws.{by_test}
use Rattle.callcontrol.specs.declared.call.Call.{Call}
use Rattle.callcontrol.specs.declared.row.Row.{Row}
use Rattle.callcontrol.specs.Settle.{configure_by, next_by, timing_by, settled}
use Rattle.callcontrol.specs.Step.{Outcome, carried}
use Rattle.callcontrol.specs.Writing.{messages_in, bytes_of}
use Rattle.small.specs.Places.{places_from, number_at, number_in, turns, code_of, values_by, bytes_by}
use Rattle.small.proofs.Carrying.{whole, fitting}
use Rattle.small.proofs.Timing.{bits_are, runs_are}

-- what was laid is in our own room
pub own_fits : {own₀ own v : List ℕ} {size : ℕ} → Stored own₀ 0 v size own → size ≤ 360 → 360 ≡ length own₀ → size ≤ length own
own_fits {own₀} {own} {v} s most room =
    let l : length own ≡ length own₀ = ap length s.now ∙ length-sets own₀ 0 v in
    omega arith

pub front_size : (n : ℕ) (own : List ℕ) → n ≤ length own → n ≡ length (take n own)
front_size n own fits = sym (length-take-le n own fits)

pub front_within : (n : ℕ) (own b : List ℕ) → n ≤ length own → n ≤ length b → length (take n own) ≤ length b
front_within n own b fits room = let s = front_size n own fits in omega arith

-- what is copied is what was laid
copied : (b : List ℕ) {own₀ own now v : List ℕ} {size : ℕ} → Stored own₀ 0 v size own → size ≤ length b → size ≤ length own
    → now ≡ take size own ++ drop size b → now ≡ sets b 0 v
copied b {own₀} {own} {now} {v} {size} s room fits is =
    let n : size ≡ length v = s.end ∙ zero-add (length v) in
    let l : length own ≡ length own₀ = ap length s.now ∙ length-sets own₀ 0 v in
    let front : take size own ≡ v =
    ap (λ (m : ℕ). take m own) n ∙ ap (λ (z : List ℕ). take (length v) z) (s.now ∙ sets-eq v own₀ 0 (omega arith))
    ∙ take-append_seam v (drop (0 + length v) own₀) in
    is ∙ ap (λ (z : List ℕ). z ++ drop size b) front ∙ ap (λ (m : ℕ). v ++ drop m b) n
    ∙ sym (sets-eq v b 0 (omega arith) ∙ ap (λ (m : ℕ). v ++ drop m b) (zero-add (length v)))

module _ (c : Call) (r : Row) (seven : length c.timers ≡ 7) where
  abbrev pub plane : ℕ
  plane = configure_by (r.orders / 0x1000 % 16) c

  abbrev pub laid : List ℕ
  laid = places_from 18 0 (number_in r.orders r.code r.value plane c.timers) (values_by (code_of r.orders r.code) plane r)

  code_is : code_of r.orders r.code ≡ (settled c r).call.code
  unfolding settled next_by code_of
  code_is = by_test (eqb (r.orders % 16) 7) (λ e. rw e refl) (λ e. rw e refl)

  whole_laid : laid ≡ bytes_of (messages_in (settled c r))
  unfolding bytes_by settled
  whole_laid =
      bits_are r.orders r.code r.value plane (values_by (code_of r.orders r.code) plane r) c.timers seven
      ∙ ap
      (λ (o : ℕ). places_from 18 0 (number_at (timing_by r.orders r.code c.timers plane).stops (timing_by r.orders r.code c.timers plane).starts r.orders r.value plane) (values_by o plane r))
      code_is
      ∙ whole c r

  pub sized : {own₀ own : List ℕ} {size : ℕ} → Stored own₀ 0 laid size own → size ≡ length (bytes_of (messages_in (settled c r)))
  sized s = s.end ∙ zero-add (length laid) ∙ ap length whole_laid

  pub carries : (b : List ℕ) {own₀ own now : List ℕ} {size : ℕ} (running : List Bool) → Stored own₀ 0 laid size own → running ≡ turns r.orders r.code plane 18 0 c.timers
      → size ≤ length b → size ≤ length own → now ≡ take size own ++ drop size b
      → ◌≡◌ {A = Outcome} (record { answer = 0; place = 0; call = next_by c r plane running; count = size; buffer = now }) (carried c (settled c r) b)
  unfolding settled
  carries b {own₀} {own} {now} {size} running s ran room fits is =
      rw (ran, runs_are r.orders r.code plane c.timers seven)
      (fitting c (settled c r) b now size (sized s) room (copied b s room fits is ∙ ap (λ (v : List ℕ). sets b 0 v) whole_laid))
