-- A record is sound exactly where it is in one of eight situations, written out by state and path. In each the state, the path, the planes
-- that must be off and the timers that go with them are constructors and numerals, so that a row computes there.
use Prim.Native.Nat.{ℕ, zero, suc, ◌≤◌}
use mathlib.Core.Bool.{Bool, true, false, ◌&&◌, ◌||◌, beq, or-true, false≢true}
use mathlib.Core.List.{List, [], ◌∷◌}
use mathlib.Core.Path.{◌≡◌, refl}
use native.Mathlib.Omega.{arith}
use borrow.Author.Tests.{leb-true, eqb-true, le-leb, not-true}
use lib.Dec.{leb, eqb}
use lib.ListN.{length}
use Rattle.callcontrol.specs.declared.call.State.{State}
use Rattle.callcontrol.specs.declared.call.Path.{Path}
use Rattle.callcontrol.specs.declared.call.Call.{Call}
use Rattle.callcontrol.specs.Call.{◌⇒◌, fresh_call, state_number, path_number, is_idle, is_active, is_up, may_lack_id, runs, T301, T302, T303, T306, T308, T310, T311, sound, in_range, as_fresh, all_stopped, timers_agree, state_agrees}
use Rattle.demands.specs.Demands.{Kept}
use Rattle.demands.proofs.Facts.{and, left, right}

-- ---- the situations

-- the numbers that every situation leaves open
pub record Numbers (i a d q s o m : ℕ) : Type 0 where
  pub id : i ≤ 16383
  pub address : a ≤ 16777215
  pub mode : d ≤ 1
  pub asked : q ≤ 1
  pub sent : s ≤ 1
  pub code : o ≤ 15
  pub some_slots : 1 ≤ m
  pub slots : m ≤ 4

-- the planes one by one, each with whether T311 runs in it
pub data Plane : ℕ → Bool → Type 0 where
  transmit : Plane 1 true
  receive : Plane 2 false
  duplex : Plane 3 false
  none : Plane 4 false

-- a call, its timers one by one
abbrev pub call : State → Path → (i a d q s pl k o m : ℕ) (t₁ t₂ t₃ t₆ t₈ t₁₀ t₁₁ : Bool) → Call
call st p i a d q s pl k o m t₁ t₂ t₃ t₆ t₈ t₁₀ t₁₁ =
    record {
      state = st;
      id = i;
      address = a;
      mode = d;
      asked = q;
      sent = s;
      path = p;
      plane = pl;
      kept = k;
      code = o;
      slots = m;
      timers = t₁ ∷ t₂ ∷ t₃ ∷ t₆ ∷ t₈ ∷ t₁₀ ∷ t₁₁ ∷ [];
    }

-- the sound calls of each state and path
pub data At : State → Path → Call → Type 0 where
  idle : At State.Idle Path.Up fresh_call
  mo : {i a d q s o m : ℕ} {t₁ t₂ t₃ t₈ t₁₀ : Bool} → Numbers i a d q s o m
      → At State.MoCallSetup Path.Up (call State.MoCallSetup Path.Up i a d q s 4 4 o m t₁ t₂ t₃ false t₈ t₁₀ false)
  mt : {i a d q s o m : ℕ} {t₁ t₂ t₃ t₈ t₁₀ : Bool} → 1 ≤ i → Numbers i a d q s o m
      → At State.MtCallSetup Path.Up (call State.MtCallSetup Path.Up i a d q s 4 4 o m t₁ t₂ t₃ false t₈ t₁₀ false)
  up : {i a d q s p o m : ℕ} {t₁ t₂ t₃ t₈ t₁₀ t₁₁ : Bool} → 1 ≤ i → Plane p t₁₁ → Numbers i a d q s o m
      → At State.CallActive Path.Up (call State.CallActive Path.Up i a d q s p 4 o m t₁ t₂ t₃ false t₈ t₁₀ t₁₁)
  broken : {i a d q s o m : ℕ} {t₁ t₂ t₃ t₈ t₁₀ : Bool} → 1 ≤ i → Numbers i a d q s o m
      → At State.CallActive Path.Broken (call State.CallActive Path.Broken i a d q s 4 4 o m t₁ t₂ t₃ false t₈ t₁₀ false)
  restoring : {i a d q s o m : ℕ} {t₁ t₂ t₃ t₈ t₁₀ : Bool} → 1 ≤ i → Numbers i a d q s o m
      → At State.CallActive Path.Restoring (call State.CallActive Path.Restoring i a d q s 4 4 o m t₁ t₂ t₃ true t₈ t₁₀ false)
  wait : {i a d q s k o m : ℕ} {t₁ t₂ t₃ t₈ t₁₀ t : Bool} → 1 ≤ i → Plane k t → Numbers i a d q s o m
      → At State.Wait Path.Up (call State.Wait Path.Up i a d q s 4 k o m t₁ t₂ t₃ false t₈ t₁₀ false)
  disconnect : {i a d q s o m : ℕ} {t₁ t₂ t₃ t₈ t₁₀ : Bool} → Numbers i a d q s o m
      → At State.CallDisconnect Path.Up (call State.CallDisconnect Path.Up i a d q s 4 4 o m t₁ t₂ t₃ false t₈ t₁₀ false)

-- a call in its own situation
abbrev pub Situated : Call → Type 0
Situated c = At c.state c.path c

-- ---- a situation is sound: each part of the test is in the situation's facts

or_left : (a b : Bool) → a ≡ true → (a || b) ≡ true
or_left true b p = refl
or_left false b p = cc

plane_fits : {p : ℕ} {t : Bool} → Plane p t → (leb 1 p ≡ true) × (leb p 4 ≡ true) × (beq t (eqb p 1) ≡ true)
plane_fits transmit = (refl, refl, refl)
plane_fits receive = (refl, refl, refl)
plane_fits duplex = (refl, refl, refl)
plane_fits none = (refl, refl, refl)

ranged : {t u : Bool} (c : Call) → Numbers c.id c.address c.mode c.asked c.sent c.code c.slots → Plane c.plane t
    → Plane c.kept u → in_range c ≡ true
unfolding in_range
ranged c n p k = search (and, le-leb, (plane_fits p).0, (plane_fits p).1, (plane_fits k).0, (plane_fits k).1) depth 12

ruleset meeting = (and, or_left, or-true, ranged, none, le-leb)

pub kept : {s : State} {w : Path} {c : Call} → At s w c → Kept c
unfolding sound as_fresh all_stopped timers_agree state_agrees in_range
kept idle = record { size = refl; meets = refl }
kept (mo n) = record { size = refl; meets = search meeting depth 8 }
kept (mt l n) = record { size = refl; meets = search meeting depth 8 }
kept (up l p n) = record { size = refl; meets = search (meeting, (plane_fits p).2) depth 8 }
kept (broken l n) = record { size = refl; meets = search meeting depth 8 }
kept (restoring l n) = record { size = refl; meets = search meeting depth 8 }
kept (wait l k n) = record { size = refl; meets = search meeting depth 8 }
kept (disconnect n) = record { size = refl; meets = search meeting depth 8 }

-- ---- a sound record is in a situation: the test is taken apart, and what it fixes is put in

agree : (a b : Bool) → beq a b ≡ true → a ≡ b
agree true true h = refl
agree true false h = cc
agree false true h = cc
agree false false h = refl

plane_of : (p : ℕ) → leb 1 p ≡ true → leb p 4 ≡ true → Plane p (eqb p 1)
plane_of zero l h = absurd (false≢true l)
plane_of (suc zero) l h = transmit
plane_of (suc (suc zero)) l h = receive
plane_of (suc (suc (suc zero))) l h = duplex
plane_of (suc (suc (suc (suc zero)))) l h = none
plane_of (suc (suc (suc (suc (suc p))))) l h = absurd (omega (arith, leb-true (suc (suc (suc (suc (suc p))))) 4 h))

-- the paper's clauses one by one
pub record Clauses (c : Call) : Type 0 where
  pub numbers : Numbers c.id c.address c.mode c.asked c.sent c.code c.slots
  pub told : Plane c.plane (eqb c.plane 1)
  pub held : Plane c.kept (eqb c.kept 1)
  pub fresh : (is_idle c ⇒ as_fresh c) ≡ true
  pub t311 : runs c T311 ≡ eqb c.plane 1
  pub t306 : runs c T306 ≡ eqb (path_number c.path) 2
  pub off_unless : (eqb c.plane 4 || is_active c && is_up c) ≡ true
  pub up_unless : (is_up c || is_active c) ≡ true
  pub four_unless : (eqb c.kept 4 || eqb (state_number c.state) 4) ≡ true
  pub named_unless : (leb 1 c.id || may_lack_id c.state) ≡ true

numbers_of : (c : Call) → in_range c ≡ true → Numbers c.id c.address c.mode c.asked c.sent c.code c.slots
unfolding in_range
numbers_of c h = search (left, right, leb-true) depth 12

told_of : (c : Call) → in_range c ≡ true → Plane c.plane (eqb c.plane 1)
unfolding in_range
told_of c h = search (left, right, plane_of) depth 12

held_of : (c : Call) → in_range c ≡ true → Plane c.kept (eqb c.kept 1)
unfolding in_range
held_of c h = search (left, right, plane_of) depth 12

pub clauses : (c : Call) → sound c ≡ true → Clauses c
unfolding sound timers_agree state_agrees
clauses c h = search (left, right, numbers_of, told_of, held_of, agree)

or_no : (a : Bool) → (a || false) ≡ true → a ≡ true
or_no true h = refl
or_no false h = h

is_four : (p : ℕ) → (eqb p 4 || false) ≡ true → p ≡ 4
is_four p h = eqb-true p 4 (or_no _ h)

pub is_named : (i : ℕ) → (leb 1 i || false) ≡ true → 1 ≤ i
is_named i h = leb-true 1 i (or_no _ h)

-- IDLE leaves nothing open
record Fresh (c : Call) : Type 0 where
  id : c.id ≡ 0
  address : c.address ≡ 0
  mode : c.mode ≡ 0
  asked : c.asked ≡ 0
  sent : c.sent ≡ 0
  plane : c.plane ≡ 4
  kept : c.kept ≡ 4
  code : c.code ≡ 0
  slots : c.slots ≡ 1
  t301 : runs c T301 ≡ false
  t302 : runs c T302 ≡ false
  t303 : runs c T303 ≡ false
  t306 : runs c T306 ≡ false
  t308 : runs c T308 ≡ false
  t310 : runs c T310 ≡ false
  t311 : runs c T311 ≡ false

fresh_of : (c : Call) → as_fresh c ≡ true → Fresh c
unfolding as_fresh all_stopped
fresh_of c h = search (left, right, eqb-true, not-true) depth 20

blank : (i a d q s p k o m : ℕ) (t₁ t₂ t₃ t₆ t₈ t₁₀ t₁₁ : Bool) → Fresh (call State.Idle Path.Up i a d q s p k o m t₁ t₂ t₃ t₆ t₈ t₁₀ t₁₁)
    → call State.Idle Path.Up i a d q s p k o m t₁ t₂ t₃ t₆ t₈ t₁₀ t₁₁ ≡ fresh_call
blank i a d q s p k o m t₁ t₂ t₃ t₆ t₈ t₁₀ t₁₁ f = cc

module _ {i a d q s p k o m : ℕ} {t₁ t₂ t₃ t₆ t₈ t₁₀ t₁₁ : Bool} where
  -- a state and path in which the plane is off and none is kept
  still : {st : State} {w : Path} → At st w (call st w i a d q s 4 4 o m t₁ t₂ t₃ (eqb (path_number w) 2) t₈ t₁₀ false)
      → (eqb p 4 || false) ≡ true → (eqb k 4 || false) ≡ true → t₁₁ ≡ eqb p 1 → t₆ ≡ eqb (path_number w) 2
      → At st w (call st w i a d q s p k o m t₁ t₂ t₃ t₆ t₈ t₁₀ t₁₁)
  still v h₁ h₂ h₃ h₄ = rw (h₄, h₃, is_four p h₁, is_four k h₂) v

  seen_up : (st : State) → Clauses (call st Path.Up i a d q s p k o m t₁ t₂ t₃ t₆ t₈ t₁₀ t₁₁)
      → At st Path.Up (call st Path.Up i a d q s p k o m t₁ t₂ t₃ t₆ t₈ t₁₀ t₁₁)
  seen_up State.Idle f = rw (blank i a d q s p k o m t₁ t₂ t₃ t₆ t₈ t₁₀ t₁₁ (fresh_of _ f.fresh)) idle
  seen_up State.MoCallSetup f = still (mo f.numbers) f.off_unless f.four_unless f.t311 f.t306
  seen_up State.MtCallSetup f = still (mt (is_named i f.named_unless) f.numbers) f.off_unless f.four_unless f.t311 f.t306
  seen_up State.CallActive f =
      rw (f.t306, f.t311, is_four k f.four_unless) (up (is_named i f.named_unless) f.told f.numbers)
  seen_up State.Wait f =
      rw (f.t306, f.t311, is_four p f.off_unless) (wait (is_named i f.named_unless) f.held f.numbers)
  seen_up State.CallDisconnect f = still (disconnect f.numbers) f.off_unless f.four_unless f.t311 f.t306

  seen_active : (w : Path) → Clauses (call State.CallActive w i a d q s p k o m t₁ t₂ t₃ t₆ t₈ t₁₀ t₁₁)
      → At State.CallActive w (call State.CallActive w i a d q s p k o m t₁ t₂ t₃ t₆ t₈ t₁₀ t₁₁)
  seen_active Path.Up f = seen_up State.CallActive f
  seen_active Path.Broken f =
      still (broken (is_named i f.named_unless) f.numbers) f.off_unless f.four_unless f.t311 f.t306
  seen_active Path.Restoring f =
      still (restoring (is_named i f.named_unless) f.numbers) f.off_unless f.four_unless f.t311 f.t306

  -- the path is up in every other state
  seen_other : (st : State) → eqb (state_number st) 3 ≡ false → (w : Path)
      → Clauses (call st w i a d q s p k o m t₁ t₂ t₃ t₆ t₈ t₁₀ t₁₁)
      → At st w (call st w i a d q s p k o m t₁ t₂ t₃ t₆ t₈ t₁₀ t₁₁)
  seen_other st h Path.Up f = seen_up st f
  seen_other st h Path.Broken f = absurd (false≢true (rw h at f.up_unless))
  seen_other st h Path.Restoring f = absurd (false≢true (rw h at f.up_unless))

  seen : (st : State) (w : Path) → Clauses (call st w i a d q s p k o m t₁ t₂ t₃ t₆ t₈ t₁₀ t₁₁)
      → At st w (call st w i a d q s p k o m t₁ t₂ t₃ t₆ t₈ t₁₀ t₁₁)
  seen State.Idle = seen_other State.Idle refl
  seen State.MoCallSetup = seen_other State.MoCallSetup refl
  seen State.MtCallSetup = seen_other State.MtCallSetup refl
  seen State.CallActive = seen_active
  seen State.Wait = seen_other State.Wait refl
  seen State.CallDisconnect = seen_other State.CallDisconnect refl

-- an array's seven timers
data Seven : List Bool → Type 0 where
  seven : {t₁ t₂ t₃ t₆ t₈ t₁₀ t₁₁ : Bool} → Seven (t₁ ∷ t₂ ∷ t₃ ∷ t₆ ∷ t₈ ∷ t₁₀ ∷ t₁₁ ∷ [])

seven_of : (ts : List Bool) → length ts ≡ 7 → Seven ts
seven_of [] h = absurd (omega arith)
seven_of (t₁ ∷ []) h = absurd (omega arith)
seven_of (t₁ ∷ t₂ ∷ []) h = absurd (omega arith)
seven_of (t₁ ∷ t₂ ∷ t₃ ∷ []) h = absurd (omega arith)
seven_of (t₁ ∷ t₂ ∷ t₃ ∷ t₆ ∷ []) h = absurd (omega arith)
seven_of (t₁ ∷ t₂ ∷ t₃ ∷ t₆ ∷ t₈ ∷ []) h = absurd (omega arith)
seven_of (t₁ ∷ t₂ ∷ t₃ ∷ t₆ ∷ t₈ ∷ t₁₀ ∷ []) h = absurd (omega arith)
seven_of (t₁ ∷ t₂ ∷ t₃ ∷ t₆ ∷ t₈ ∷ t₁₀ ∷ t₁₁ ∷ []) h = seven
seven_of (t₁ ∷ t₂ ∷ t₃ ∷ t₆ ∷ t₈ ∷ t₁₀ ∷ t₁₁ ∷ t ∷ ts) h = absurd (omega arith)

pub situated : (c : Call) → Kept c → Situated c
situated c h = timers (seven_of c.timers h.size) (clauses c h.meets)
  where
    with_timers : List Bool → Call
    with_timers ts =
        record {
          state = c.state;
          id = c.id;
          address = c.address;
          mode = c.mode;
          asked = c.asked;
          sent = c.sent;
          path = c.path;
          plane = c.plane;
          kept = c.kept;
          code = c.code;
          slots = c.slots;
          timers = ts;
        }

    timers : {ts : List Bool} → Seven ts → Clauses (with_timers ts) → Situated (with_timers ts)
    timers seven f = seen c.state c.path f
