-- The promises leave no choice: two results that a function's own `ensures` allows are equal, and so are the buffers that it leaves. `Learnt` is that `ensures` as a
-- caller learns it, of the arguments, the result, and the parameters when it returns. Of what works on a lent table both sides stand as
-- the `ensures` has them.
use Prim.Native.Nat.{ℕ, ◌-◌, ◌<◌}
use mathlib.Core.Path.{◌≡◌, refl, sym, ◌∙◌, ap}
use mathlib.Core.Bool.{Bool, true, false, cond}
use mathlib.Core.List.{List, []}
use native.Mathlib.Omega.{arith}
use borrow.Author.Tests.{ltb-true, ltb-false}
use lib.Dec.{ltb, lit<}
use lib.ListN.{set}
use Rattle.std.specs.Prelude.{Result, Ok, Err, IfOk}
use Rattle.records.specs.declared.events.Event.{Event}
use Rattle.records.proofs.Laws.{by_test}
use Rattle.callcontrol.specs.declared.call.Call.{Call}
use Rattle.records.specs.declared.bodies.Unreadable.{Unreadable}
use Rattle.callcontrol.specs.declared.step.Refusal.{Refusal}
use Rattle.callcontrol.specs.declared.step.Stepped.{Stepped}
use Rattle.callcontrol.specs.Call.{fresh_call}
use Rattle.callcontrol.specs.Step.{answer_number, place_in, refusal_at}
use Rattle.callcontrol.proofs.Determined as step-determined
use Rattle.console.specs.declared.route.ConsoleRefusal.{ConsoleRefusal}
use Rattle.console.specs.declared.route.Target.{Target}
use Rattle.console.specs.declared.console.ConsoleStepped.{ConsoleStepped}
use Rattle.console.specs.declared.console.AllStepped.{AllStepped}
use Rattle.console.specs.Route.{console_number, console_place, as_route}
use Rattle.console.proofs.Refused.{refused_some}
use Rattle.console.specs.declared.console.SoFar.{SoFar}
use Rattle.console.specs.Table.{call_at}
use Rattle.console.specs.Console.{ConsoleOutcome, as_console, as_everywhere, takes, next_of, OneMore, UpTo, LaidAll}
use Rattle.console.specs.Keys.{as_lead}
use Rattle.console.proofs.console.console_step.Reads as console-step-promise
use Rattle.console.proofs.console.everywhere.Reads as everywhere-promise
use Rattle.console.proofs.console.own_buffer.Reads as own-buffer-promise
use Rattle.console.proofs.console.place_step.Reads as place-step-promise
use Rattle.console.proofs.console.turn.Reads as turn-promise
use Rattle.console.proofs.route.ConsoleRefusal.number.Reads as console-number-promise
use Rattle.console.proofs.route.ConsoleRefusal.place.Reads as console-place-promise
use Rattle.console.proofs.route.ConsoleRefusalFromRefusal.from.Reads as of-step-promise
use Rattle.console.proofs.route.ConsoleRefusalFromUnreadable.from.Reads as of-reader-promise
use Rattle.console.proofs.route.aim_of.Reads as aim-of-promise
use Rattle.console.proofs.route.route_of.Reads as route-of-promise
use Rattle.console.proofs.route.lead.Reads as lead-promise
use Rattle.console.proofs.keys.key_of.Reads as key-of-promise
use Rattle.console.proofs.keys.Keys.of.Reads as keys-of-promise
use Rattle.console.proofs.keys.Keys.apart.Reads as apart-by-promise
use Rattle.console.proofs.keys.Keys.held_by.Reads as held-by-promise
use Rattle.console.proofs.keys.Keys.lowest_idle.Reads as idle-by-promise
use Rattle.console.proofs.table.table_sound.Reads as table-sound-promise

-- no two of the step's refusals have one number and place, and none has a number of the console's own
step_same : (a b : Refusal) → answer_number a ≡ answer_number b → place_in a ≡ place_in b → a ≡ b
step_same a b e p =
    let same : ◌≡◌ {A = Result Stepped Refusal} (Err a) (Err b) =
    (step-determined.step fresh_call (refusal_at (answer_number b) (place_in b) fresh_call []) (Err a) (Err b) [] [] (λ i. refusal_at (e i) (p i) fresh_call []) refl).0 in
    cc

below_40 : (a : Refusal) → answer_number a < 40
below_40 Refusal.NotSound = lit< tt
below_40 (Refusal.Unreadable Unreadable.BadLength) = lit< tt
below_40 (Refusal.Unreadable Unreadable.UnknownKind) = lit< tt
below_40 (Refusal.Unreadable Unreadable.Retired) = lit< tt
below_40 (Refusal.Unreadable (Unreadable.BadBody p)) = lit< tt
below_40 Refusal.OtherCall = lit< tt
below_40 Refusal.NoRow = lit< tt
below_40 Refusal.NoRoom = lit< tt
below_40 Refusal.OwnTransmission = lit< tt

same : (a b : ConsoleRefusal) → console_number a ≡ console_number b → console_place a ≡ console_place b → a ≡ b
same (ConsoleRefusal.OfStep a) (ConsoleRefusal.OfStep b) e p = ap ConsoleRefusal.OfStep (step_same a b e p)
same (ConsoleRefusal.OfStep a) ConsoleRefusal.PlaceOver e p = absurd (omega (arith, below_40 a, e))
same (ConsoleRefusal.OfStep a) ConsoleRefusal.IdHeld e p = absurd (omega (arith, below_40 a, e))
same (ConsoleRefusal.OfStep a) ConsoleRefusal.IdAwaited e p = absurd (omega (arith, below_40 a, e))
same (ConsoleRefusal.OfStep a) ConsoleRefusal.NoIdlePlace e p = absurd (omega (arith, below_40 a, e))
same ConsoleRefusal.PlaceOver (ConsoleRefusal.OfStep b) e p = absurd (omega (arith, below_40 b, e))
same ConsoleRefusal.PlaceOver ConsoleRefusal.PlaceOver e p = refl
same ConsoleRefusal.PlaceOver ConsoleRefusal.IdHeld e p = absurd (omega arith)
same ConsoleRefusal.PlaceOver ConsoleRefusal.IdAwaited e p = absurd (omega arith)
same ConsoleRefusal.PlaceOver ConsoleRefusal.NoIdlePlace e p = absurd (omega arith)
same ConsoleRefusal.IdHeld (ConsoleRefusal.OfStep b) e p = absurd (omega (arith, below_40 b, e))
same ConsoleRefusal.IdHeld ConsoleRefusal.PlaceOver e p = absurd (omega arith)
same ConsoleRefusal.IdHeld ConsoleRefusal.IdHeld e p = refl
same ConsoleRefusal.IdHeld ConsoleRefusal.IdAwaited e p = absurd (omega arith)
same ConsoleRefusal.IdHeld ConsoleRefusal.NoIdlePlace e p = absurd (omega arith)
same ConsoleRefusal.IdAwaited (ConsoleRefusal.OfStep b) e p = absurd (omega (arith, below_40 b, e))
same ConsoleRefusal.IdAwaited ConsoleRefusal.PlaceOver e p = absurd (omega arith)
same ConsoleRefusal.IdAwaited ConsoleRefusal.IdHeld e p = absurd (omega arith)
same ConsoleRefusal.IdAwaited ConsoleRefusal.IdAwaited e p = refl
same ConsoleRefusal.IdAwaited ConsoleRefusal.NoIdlePlace e p = absurd (omega arith)
same ConsoleRefusal.NoIdlePlace (ConsoleRefusal.OfStep b) e p = absurd (omega (arith, below_40 b, e))
same ConsoleRefusal.NoIdlePlace ConsoleRefusal.PlaceOver e p = absurd (omega arith)
same ConsoleRefusal.NoIdlePlace ConsoleRefusal.IdHeld e p = absurd (omega arith)
same ConsoleRefusal.NoIdlePlace ConsoleRefusal.IdAwaited e p = absurd (omega arith)
same ConsoleRefusal.NoIdlePlace ConsoleRefusal.NoIdlePlace e p = refl

same_console : (calls : List Call) (o : ConsoleOutcome) (r₁ r₂ : Result ConsoleStepped ConsoleRefusal) (b₁ b₂ : List ℕ) → as_console calls r₁ b₁ ≡ o → as_console calls r₂ b₂ ≡ o
    → (r₁ ≡ r₂) × (b₁ ≡ b₂)
same_console calls o r₁ r₂ b₁ b₂ e₁ e₂ = by r₁ r₂ (e₁ ∙ sym e₂)
  where
    by : (r₁ r₂ : Result ConsoleStepped ConsoleRefusal) → as_console calls r₁ b₁ ≡ as_console calls r₂ b₂ → (r₁ ≡ r₂) × (b₁ ≡ b₂)
    by (Ok r) (Ok s) e =
        let count : r.count ≡ s.count = ap (λ (w : ConsoleOutcome). w.count) e in
        let after : r.calls ≡ s.calls = ap (λ (w : ConsoleOutcome). w.calls) e in
        (λ i. Ok (record { count = count i; calls = after i }), ap (λ (w : ConsoleOutcome). w.buffer) e)
    by (Ok r) (Err b) e = absurd (omega (arith, refused_some b, ap (λ (w : ConsoleOutcome). w.answer) e))
    by (Err a) (Ok s) e = absurd (omega (arith, refused_some a, ap (λ (w : ConsoleOutcome). w.answer) e))
    by (Err a) (Err b) e =
        let own : a ≡ b = same a b (ap (λ (w : ConsoleOutcome). w.answer) e) (ap (λ (w : ConsoleOutcome). w.place) e) in
        (ap Err own, ap (λ (w : ConsoleOutcome). w.buffer) e)

-- where an event goes, by what its cases stand for
same_route : (x y : Result Target ConsoleRefusal) → as_route x ≡ as_route y → x ≡ y
same_route (Ok (Target.Place j)) (Ok (Target.Place k)) h = cc
same_route (Ok (Target.Place j)) (Ok Target.Everywhere) h = cc
same_route (Ok (Target.Place j)) (Err b) h = cc
same_route (Ok Target.Everywhere) (Ok (Target.Place k)) h = cc
same_route (Ok Target.Everywhere) (Ok Target.Everywhere) h = refl
same_route (Ok Target.Everywhere) (Err b) h = cc
same_route (Err a) (Ok (Target.Place k)) h = cc
same_route (Err a) (Ok Target.Everywhere) h = cc
same_route (Err a) (Err b) h = cc

-- where an event leads, by what its cases stand for
same_lead : (x y : Result (Target × Event) ConsoleRefusal) → as_lead x ≡ as_lead y → x ≡ y
same_lead (Ok (Target.Place k, e)) (Ok (Target.Place l, f)) h = cc
same_lead (Ok (Target.Place k, e)) (Ok (Target.Everywhere, f)) h = cc
same_lead (Ok (Target.Place k, e)) (Err b) h = cc
same_lead (Ok (Target.Everywhere, e)) (Ok (Target.Place l, f)) h = cc
same_lead (Ok (Target.Everywhere, e)) (Ok (Target.Everywhere, f)) h = cc
same_lead (Ok (Target.Everywhere, e)) (Err b) h = cc
same_lead (Err a) (Ok (Target.Place l, f)) h = cc
same_lead (Err a) (Ok (Target.Everywhere, f)) h = cc
same_lead (Err a) (Err b) h =
    let number : console_number a ≡ console_number b = cc in
    let place : console_place a ≡ console_place b = cc in
    ap Err (same a b number place)

-- ---- the functions

-- one place more: the table is in the promise of `step_at` alone
same_more : (k : ℕ) (c : Call) (e : Event) (p : SoFar) (own : List ℕ) (u₁ u₂ s₁ s₂ : ℕ) (b₁ b₂ : List ℕ) → OneMore u₁ s₁ b₁ k c e p own → OneMore u₂ s₂ b₂ k c e p own
    → (u₁ ≡ u₂) × ((s₁ ≡ s₂) × (b₁ ≡ b₂))
same_more k c e p own u₁ u₂ s₁ s₂ b₁ b₂ m n = (m.last ∙ sym n.last, (m.behind ∙ sym n.behind, m.bytes ∙ sym n.bytes))

pub step_at : (calls : List Call) (k : ℕ) (e : Event) (p : SoFar) (own : List ℕ) (r₁ r₂ : SoFar) (t₁ t₂ : List Call) (b₁ b₂ : List ℕ)
    → (t₁ ≡ set calls k (next_of e (call_at calls k))) × OneMore r₁.upto r₁.size b₁ k (call_at calls k) e p own
    → (t₂ ≡ set calls k (next_of e (call_at calls k))) × OneMore r₂.upto r₂.size b₂ k (call_at calls k) e p own → (r₁ ≡ r₂) × ((t₁ ≡ t₂) × (b₁ ≡ b₂))
step_at calls k e p own r₁ r₂ t₁ t₂ b₁ b₂ e₁ e₂ =
    let m = same_more k (call_at calls k) e p own r₁.upto r₂.upto r₁.size r₂.size b₁ b₂ e₁.1 e₂.1 in
    (λ i. record { upto = m.0 i; size = m.1.0 i }, (e₁.0 ∙ sym e₂.0, m.1.1))

-- all places: `upto` is the least number behind which none takes the event
module _ (calls : List Call) (e : Event) where
  not_below : (u₁ u₂ : ℕ) → UpTo u₁ calls e → UpTo u₂ calls e → u₁ < u₂ → ⊥
  not_below u₁ u₂ m n lt =
      let w = n.within in
      let takes_it : takes e (call_at calls (u₂ - 1)) ≡ true = n.tight (u₂ - 1) (omega arith) in
      let leaves_it : takes e (call_at calls (u₂ - 1)) ≡ false = m.behind (u₂ - 1) (omega arith) (omega arith) in
      let z : ◌≡◌ {A = ℕ} 0 1 = ap (λ (b : Bool). cond b 0 1) (sym takes_it ∙ leaves_it) in
      omega arith

  same_upto : (u₁ u₂ : ℕ) → UpTo u₁ calls e → UpTo u₂ calls e → u₁ ≡ u₂
  same_upto u₁ u₂ m n =
      by_test (ltb u₁ u₂) (λ b. absurd (not_below u₁ u₂ m n (ltb-true u₁ u₂ b)))
      (λ b. by_test (ltb u₂ u₁) (λ c. absurd (not_below u₂ u₁ n m (ltb-true u₂ u₁ c)))
      (λ c. let x = ltb-false u₁ u₂ b in let y = ltb-false u₂ u₁ c in omega arith))

  pub put_all : (buffer : List ℕ) (r₁ r₂ : SoFar) (t₁ t₂ : List Call) (b₁ b₂ : List ℕ) → LaidAll r₁ t₁ b₁ calls e buffer → LaidAll r₂ t₂ b₂ calls e buffer → (r₁ ≡ r₂) × ((t₁ ≡ t₂) × (b₁ ≡ b₂))
  put_all buffer r₁ r₂ t₁ t₂ b₁ b₂ m n =
      let upto = same_upto r₁.upto r₂.upto m.last n.last in
      let size = m.size ∙ sym n.size in
      (λ i. record { upto = upto i; size = size i }, (m.records ∙ sym n.records, m.bytes ∙ sym n.bytes))

  same_everywhere : (o : ConsoleOutcome) (r₁ r₂ : Result AllStepped ConsoleRefusal) (b₁ b₂ : List ℕ) → as_everywhere calls r₁ b₁ ≡ o → IfOk r₁ (λ r. UpTo r.upto calls e)
      → as_everywhere calls r₂ b₂ ≡ o → IfOk r₂ (λ r. UpTo r.upto calls e) → (r₁ ≡ r₂) × (b₁ ≡ b₂)
  same_everywhere o r₁ r₂ b₁ b₂ e₁ u₁ e₂ u₂ = by r₁ r₂ (e₁ ∙ sym e₂) u₁ u₂
    where
      by : (r₁ r₂ : Result AllStepped ConsoleRefusal) → as_everywhere calls r₁ b₁ ≡ as_everywhere calls r₂ b₂ → IfOk r₁ (λ r. UpTo r.upto calls e) → IfOk r₂ (λ r. UpTo r.upto calls e) → (r₁ ≡ r₂) × (b₁ ≡ b₂)
      by (Ok r) (Ok s) e u v =
          let upto : r.upto ≡ s.upto = same_upto r.upto s.upto u v in
          let count : r.count ≡ s.count = ap (λ (w : ConsoleOutcome). w.count) e in
          let after : r.calls ≡ s.calls = ap (λ (w : ConsoleOutcome). w.calls) e in
          (λ i. Ok (record { upto = upto i; count = count i; calls = after i }), ap (λ (w : ConsoleOutcome). w.buffer) e)
      by (Ok r) (Err b) e u v = absurd (omega (arith, refused_some b, ap (λ (w : ConsoleOutcome). w.answer) e))
      by (Err a) (Ok s) e u v = absurd (omega (arith, refused_some a, ap (λ (w : ConsoleOutcome). w.answer) e))
      by (Err a) (Err b) e u v =
          let own : a ≡ b = same a b (ap (λ (w : ConsoleOutcome). w.answer) e) (ap (λ (w : ConsoleOutcome). w.place) e) in
          (ap Err own, ap (λ (w : ConsoleOutcome). w.buffer) e)

pub console_step : (κs : _) (a : _) (r₁ r₂ : _) (e₁ e₂ : _) → console-step-promise.Learnt κs a r₁ e₁ → console-step-promise.Learnt κs a r₂ e₂ → (r₁ ≡ r₂) × (e₁.1.1.1.0.now ≡ e₂.1.1.1.0.now)
console_step κs a r₁ r₂ e₁ e₂ p q = same_console _ _ r₁ r₂ _ _ p q

pub everywhere : (κs : _) (a : _) (r₁ r₂ : _) (e₁ e₂ : _) → everywhere-promise.Learnt κs a r₁ e₁ → everywhere-promise.Learnt κs a r₂ e₂ → (r₁ ≡ r₂) × (e₁.1.1.0.now ≡ e₂.1.1.0.now)
everywhere κs a r₁ r₂ e₁ e₂ p q = same_everywhere _ _ _ r₁ r₂ _ _ p.0 p.1 q.0 q.1

pub place_step : (κs : _) (a : _) (r₁ r₂ : _) (e₁ e₂ : _) → place-step-promise.Learnt κs a r₁ e₁ → place-step-promise.Learnt κs a r₂ e₂ → (r₁ ≡ r₂) × (e₁.1.1.1.0.now ≡ e₂.1.1.1.0.now)
place_step κs a r₁ r₂ e₁ e₂ p q = step-determined.step _ _ r₁ r₂ _ _ p q

pub turn : (κs : _) (a : _) (r₁ r₂ : _) (e₁ e₂ : _) → turn-promise.Learnt κs a r₁ e₁ → turn-promise.Learnt κs a r₂ e₂
    → (r₁ ≡ r₂) × ((e₁.0.now ≡ e₂.0.now) × (e₁.1.1.1.1.0.now ≡ e₂.1.1.1.1.0.now))
turn κs a r₁ r₂ e₁ e₂ p q =
    let m = same_more _ _ _ _ _ r₁.upto r₂.upto r₁.size r₂.size _ _ p.1 q.1 in
    (λ i. record { upto = m.0 i; size = m.1.0 i }, (p.0 ∙ sym q.0, m.1.1))

pub own_buffer : (κs : _) (a : _) (r₁ r₂ : _) (e₁ e₂ : _) → own-buffer-promise.Learnt κs a r₁ e₁ → own-buffer-promise.Learnt κs a r₂ e₂ → r₁ ≡ r₂
own_buffer κs a r₁ r₂ e₁ e₂ p q = p.0 ∙ sym q.0

pub console_number_lem : (κs : _) (a : _) (r₁ r₂ : _) (e₁ e₂ : _) → console-number-promise.Learnt κs a r₁ e₁ → console-number-promise.Learnt κs a r₂ e₂ → r₁ ≡ r₂
console_number_lem κs a r₁ r₂ e₁ e₂ p q = p.0 ∙ sym q.0

pub console_place_lem : (κs : _) (a : _) (r₁ r₂ : _) (e₁ e₂ : _) → console-place-promise.Learnt κs a r₁ e₁ → console-place-promise.Learnt κs a r₂ e₂ → r₁ ≡ r₂
console_place_lem κs a r₁ r₂ e₁ e₂ p q = p ∙ sym q

pub from_refusal : (κs : _) (a : _) (r₁ r₂ : _) (e₁ e₂ : _) → of-step-promise.Learnt κs a r₁ e₁ → of-step-promise.Learnt κs a r₂ e₂ → r₁ ≡ r₂
from_refusal κs a r₁ r₂ e₁ e₂ p q = p ∙ sym q

pub from_unreadable : (κs : _) (a : _) (r₁ r₂ : _) (e₁ e₂ : _) → of-reader-promise.Learnt κs a r₁ e₁ → of-reader-promise.Learnt κs a r₂ e₂ → r₁ ≡ r₂
from_unreadable κs a r₁ r₂ e₁ e₂ p q = p ∙ sym q

pub aim_of : (κs : _) (a : _) (r₁ r₂ : _) (e₁ e₂ : _) → aim-of-promise.Learnt κs a r₁ e₁ → aim-of-promise.Learnt κs a r₂ e₂ → r₁ ≡ r₂
aim_of κs a r₁ r₂ e₁ e₂ p q = p ∙ sym q

pub route_of : (κs : _) (a : _) (r₁ r₂ : _) (e₁ e₂ : _) → route-of-promise.Learnt κs a r₁ e₁ → route-of-promise.Learnt κs a r₂ e₂ → r₁ ≡ r₂
route_of κs a r₁ r₂ e₁ e₂ p q = same_route r₁ r₂ (p ∙ sym q)

pub key_of_lem : (κs : _) (a : _) (r₁ r₂ : _) (e₁ e₂ : _) → key-of-promise.Learnt κs a r₁ e₁ → key-of-promise.Learnt κs a r₂ e₂ → r₁ ≡ r₂
key_of_lem κs a r₁ r₂ e₁ e₂ p q = p ∙ sym q

pub keys_of : (κs : _) (a : _) (r₁ r₂ : _) (e₁ e₂ : _) → keys-of-promise.Learnt κs a r₁ e₁ → keys-of-promise.Learnt κs a r₂ e₂ → r₁ ≡ r₂
keys_of κs a r₁ r₂ e₁ e₂ p q = λ i. record { each = (p ∙ sym q) i }

pub apart_by_lem : (κs : _) (a : _) (r₁ r₂ : _) (e₁ e₂ : _) → apart-by-promise.Learnt κs a r₁ e₁ → apart-by-promise.Learnt κs a r₂ e₂ → r₁ ≡ r₂
apart_by_lem κs a r₁ r₂ e₁ e₂ p q = p ∙ sym q

pub held_by_lem : (κs : _) (a : _) (r₁ r₂ : _) (e₁ e₂ : _) → held-by-promise.Learnt κs a r₁ e₁ → held-by-promise.Learnt κs a r₂ e₂ → r₁ ≡ r₂
held_by_lem κs a r₁ r₂ e₁ e₂ p q = p ∙ sym q

pub idle_by_lem : (κs : _) (a : _) (r₁ r₂ : _) (e₁ e₂ : _) → idle-by-promise.Learnt κs a r₁ e₁ → idle-by-promise.Learnt κs a r₂ e₂ → r₁ ≡ r₂
idle_by_lem κs a r₁ r₂ e₁ e₂ p q = p ∙ sym q

pub table_sound_lem : (κs : _) (a : _) (r₁ r₂ : _) (e₁ e₂ : _) → table-sound-promise.Learnt κs a r₁ e₁ → table-sound-promise.Learnt κs a r₂ e₂ → r₁ ≡ r₂
table_sound_lem κs a r₁ r₂ e₁ e₂ p q = p ∙ sym q

pub lead : (κs : _) (a : _) (r₁ r₂ : _) (e₁ e₂ : _) → lead-promise.Learnt κs a r₁ e₁ → lead-promise.Learnt κs a r₂ e₂ → r₁ ≡ r₂
lead κs a r₁ r₂ e₁ e₂ p q = same_lead r₁ r₂ (p ∙ sym q)
