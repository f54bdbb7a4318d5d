-- No two places hold one identifier, and at most one outside IDLE has none, whatever events come.
use Prim.Native.Nat.{ℕ, zero, suc, ◌<◌, ◌≤◌}
use mathlib.Core.Path.{◌≡◌, refl, sym, ◌∙◌, ap}
use mathlib.Core.Bool.{Bool, true, false, cond, not, ◌&&◌, ◌||◌}
use mathlib.Core.List.{List, [], ◌∷◌}
use native.Mathlib.Omega.{arith}
use borrow.Author.Tests.{eq-eqb, ltb-true, ltb-false, eqb-true, eqb-false, leb-true}
use lib.Dec.{leb, ltb, eqb}
use lib.ListN.{length, drop, set, length-set}
use lib.Seq.{get_or-set_same, get_or-set_other}
use Rattle.records.specs.declared.events.Event.{Event}
use Rattle.callcontrol.specs.declared.call.Call.{Call}
use Rattle.callcontrol.specs.Call.{fresh_call, is_idle, as_fresh, sound, ◌⇒◌}
use Rattle.callcontrol.specs.Rows.{row_for}
use Rattle.callcontrol.specs.Step.{decided}
use Rattle.callcontrol.specs.declared.step.Refusal.{Refusal}
use Rattle.demands.specs.Runs.{Turn, outcome, next, run}
use Rattle.demands.specs.Demands.{Kept}
use Rattle.demands.proofs.Facts.{left, right, is_not}
use Rattle.demands.proofs.Demands.{fresh_is_sound, step_keeps_sound}
use Rattle.console.specs.declared.route.Aim.{Aim}
use Rattle.console.specs.declared.route.ConsoleRefusal.{ConsoleRefusal}
use Rattle.console.specs.Table.{no_call, call_at, fresh_table, holds, alike, some?, every?, apart, table_sound, lowest}
use Rattle.console.specs.Route.{Route, aim_of, or_else, at_lowest_idle, outgoing, incoming, at_holder, aimed, route_of}
use Rattle.console.specs.Console.{placed, takes, next_of}
use Rattle.console.specs.Runs.{ConsoleTurn, console_next, console_run, went_to}
use Rattle.console.proofs.Placing.{Decides, decides}
use Rattle.console.proofs.Routing.{to_place}
use Rattle.console.proofs.Named.{Names, gone, kept, begun, brought, named, names}
use Rattle.console.proofs.Everywhere.{next_length}
use Rattle.console.proofs.Turns.{Turned, turned, stays, goes_on, all_go, next_at}
use Rattle.console.proofs.Went.{record_at, placed_call}

-- two calls of which not both are outside IDLE with one identifier
abbrev pub NoTwin : Call → Call → Type 0
NoTwin c d = is_idle c ≡ false → is_idle d ≡ false → c.id ≡ d.id → ⊥

turned_round : (c d : Call) → NoTwin c d → NoTwin d c
turned_round c d n p q e = n q p (sym e)

false_true : {A : Type 0} {b : Bool} → b ≡ true → b ≡ false → A
false_true p q = absurd (let z : ◌≡◌ {A = ℕ} 0 1 = cc in omega arith)

-- ---- as the table's test has it

pub idle_id : (c : Call) → sound c ≡ true → is_idle c ≡ true → c.id ≡ 0
unfolding sound as_fresh
idle_id c ok idle =
    let fresh : (is_idle c ⇒ as_fresh c) ≡ true = search (left, right) depth 8 in
    let all : as_fresh c ≡ true = rw idle at fresh in
    let none : eqb c.id 0 ≡ true = search (left, right) depth 20 in
    eqb-true c.id 0 none

outside : (c : Call) (b : Bool) → is_idle c ≡ b → sound c ≡ true → leb 1 c.id ≡ true → is_idle c ≡ false
outside c true idle ok some = absurd (let z = idle_id c ok idle in let l = leb-true 1 c.id some in omega arith)
outside c false idle ok some = idle

or_case : {A : Type 0} (a b : Bool) → (a || b) ≡ true → (a ≡ true → A) → (b ≡ true → A) → A
or_case true b h f g = f refl
or_case false b h f g = g h

twin : (c d : Call) (b : Bool) → alike c d ≡ b → sound c ≡ true → sound d ≡ true → NoTwin c d → alike c d ≡ false
unfolding alike
twin c d false is s t none = is
twin c d true is s t none =
    let same : c.id ≡ d.id = eqb-true c.id d.id (left (eqb c.id d.id) _ is) in
    absurd
    (or_case (leb 1 c.id) (not (is_idle c) && not (is_idle d)) (right (eqb c.id d.id) _ is)
    (λ some. none (outside c (is_idle c) refl s some) (outside d (is_idle d) refl t (rw same at some)) same)
    (λ both. none (is_not (is_idle c) (left (not (is_idle c)) (not (is_idle d)) both)) (is_not (is_idle d) (right (not (is_idle c)) (not (is_idle d)) both)) same))

no_twin : (c d : Call) → alike c d ≡ false → NoTwin c d
unfolding alike
no_twin c d unlike p q same =
    false_true (rw (eq-eqb c.id d.id same, p, q) (or-true (leb 1 c.id))) unlike
  where
    or-true : (a : Bool) → (a || true) ≡ true
    or-true true = refl
    or-true false = refl

-- ---- the pairs of a list

none_of : (p : Call → Bool) (cs : List Call) → ((k : ℕ) → k < length cs → p (call_at cs k) ≡ false) → some? p cs ≡ false
none_of p [] f = refl
none_of p (c ∷ cs) f = rw (f 0 (omega arith)) (none_of p cs (λ k lt. f (suc k) (omega arith)))

all_of : (p : Call → Bool) (cs : List Call) → ((k : ℕ) → k < length cs → p (call_at cs k) ≡ true) → every? p cs ≡ true
all_of p [] f = refl
all_of p (c ∷ cs) f = rw (f 0 (omega arith)) (all_of p cs (λ k lt. f (suc k) (omega arith)))

pairs : (cs : List Call) → ((j k : ℕ) → j < k → k < length cs → alike (call_at cs j) (call_at cs k) ≡ false) → apart cs ≡ true
pairs [] f = refl
pairs (c ∷ cs) f =
    rw (none_of (alike c) cs (λ k lt. f 0 (suc k) (omega arith) (omega arith)))
    (pairs cs (λ j k jk lt. f (suc j) (suc k) (omega arith) (omega arith)))

below_by : (p : Call → Bool) (c : Call) (cs : List Call) (b : Bool) → p c ≡ b → (k : ℕ) → k < cond b 0 (suc (lowest p cs))
    → ((j : ℕ) → j < lowest p cs → p (call_at cs j) ≡ false) → p (call_at (c ∷ cs) k) ≡ false
below_by p c cs true is k l f = absurd (omega arith)
below_by p c cs false is zero l f = is
below_by p c cs false is (suc k) l f = f k (omega arith)

below_lowest : (p : Call → Bool) (cs : List Call) (k : ℕ) → k < lowest p cs → p (call_at cs k) ≡ false
below_lowest p [] k lt = absurd (omega arith)
below_lowest p (c ∷ cs) k lt = below_by p c cs (p c) refl k lt (below_lowest p cs)

at_by : (p : Call → Bool) (c : Call) (cs : List Call) (b : Bool) → p c ≡ b → cond b 0 (suc (lowest p cs)) < suc (length cs)
    → (lowest p cs < length cs → p (call_at cs (lowest p cs)) ≡ true) → p (call_at (c ∷ cs) (cond b 0 (suc (lowest p cs)))) ≡ true
at_by p c cs true is l f = is
at_by p c cs false is l f = f (omega arith)

at_lowest : (p : Call → Bool) (cs : List Call) → lowest p cs < length cs → p (call_at cs (lowest p cs)) ≡ true
at_lowest p [] lt = absurd (omega arith)
at_lowest p (c ∷ cs) lt = at_by p c cs (p c) refl lt (at_lowest p cs)

-- ---- a table that a run reaches

pub record Good (calls : List Call) : Type 0 where
  pub eight : length calls ≡ 8
  pub kept : (k : ℕ) → k < 8 → Kept (call_at calls k)
  pub single : (j k : ℕ) → j < 8 → k < 8 → (j ≡ k → ⊥) → NoTwin (call_at calls j) (call_at calls k)

pub good_sound : (calls : List Call) → Good calls → table_sound calls ≡ true
unfolding table_sound
good_sound calls g =
    let n = g.eight in
    rw (
      eq-eqb (length calls) 8 n,
      all_of sound calls (λ k lt. (g.kept k (omega arith)).meets),
      pairs calls
          (λ j k jk lt.
          twin (call_at calls j) (call_at calls k) (alike (call_at calls j) (call_at calls k)) refl (g.kept j (omega arith)).meets (g.kept k (omega arith)).meets
          (g.single j k (omega arith) (omega arith) (λ e. omega arith))),
    )

run_kept : (c : Call) (ts : List Turn) → Kept c → Kept (run c ts)
unfolding run next outcome
run_kept c [] k = k
run_kept c (t ∷ ts) k = run_kept (next c t) ts (step_keeps_sound c t.event t.buffer k)

-- ---- where an event goes, and who holds its identifier

holds_it : (i : ℕ) (d : Call) → is_idle d ≡ false → d.id ≡ i → holds i d ≡ true
unfolding holds
holds_it i d out is = rw (out, eq-eqb d.id i is)

held_id : (i : ℕ) (d : Call) → holds i d ≡ true → d.id ≡ i
unfolding holds
held_id i d h = eqb-true d.id i (right (not (is_idle d)) (eqb d.id i) h)

module _ (calls : List Call) (g : Good calls) (i : ℕ) (lt : i < 8) where
  abbrev goer : Call
  goer = call_at calls i

  -- nobody holds it, or the place itself does
  data Free (n : ℕ) : Type 0 where
    unheld : 8 ≤ lowest (holds n) calls → Free n
    here : goer.id ≡ n → Free n

  free_other : {n : ℕ} (k : ℕ) → k < 8 → 8 ≤ lowest (holds n) calls → is_idle (call_at calls k) ≡ false → (call_at calls k).id ≡ n → ⊥
  free_other {n} k kl none out is =
      false_true (holds_it n (call_at calls k) out is) (below_lowest (holds n) calls k (omega arith))

  refused_or : (z : Bool) (n : ℕ) (a : ConsoleRefusal) (r : Route) → ltb (lowest (holds n) calls) 8 ≡ z → cond z (Route.Refused a) r ≡ Route.To i → 8 ≤ lowest (holds n) calls
  refused_or true n a r z h = absurd (let w : ◌≡◌ {A = ℕ} 0 1 = cc in omega arith)
  refused_or false n a r z h = ltb-false (lowest (holds n) calls) 8 z

  for_outgoing : outgoing calls ≡ Route.To i → 8 ≤ lowest (holds 0) calls
  unfolding outgoing
  for_outgoing h = refused_or (ltb (lowest (holds 0) calls) 8) 0 ConsoleRefusal.IdAwaited (at_lowest_idle calls) refl h

  for_incoming : (n : ℕ) → incoming calls n ≡ Route.To i → 8 ≤ lowest (holds n) calls
  unfolding incoming
  for_incoming n h = refused_or (ltb (lowest (holds n) calls) 8) n ConsoleRefusal.IdHeld (at_lowest_idle calls) refl h

  for_held : (n : ℕ) → at_holder calls n ≡ Route.To i → Free n
  unfolding at_holder
  for_held n h = by (ltb (lowest (holds n) calls) 8) refl h
    where
      by : (z : Bool) → ltb (lowest (holds n) calls) 8 ≡ z
          → cond z (Route.To (lowest (holds n) calls)) (or_else (lowest (holds 0) calls) (Route.Refused (ConsoleRefusal.OfStep Refusal.OtherCall))) ≡ Route.To i → Free n
      by true z w =
          let same : lowest (holds n) calls ≡ i = cc in
          let eight = g.eight in
          here (held_id n goer (rw same at (at_lowest (holds n) calls (let l = ltb-true (lowest (holds n) calls) 8 z in omega arith))))
      by false z w = unheld (ltb-false (lowest (holds n) calls) 8 z)

  module _ (place : ℕ) (e : Event) (to : route_of calls place e ≡ Route.To i) where
    aim_to : (a : Aim) → aim_of e ≡ a → aimed a calls place ≡ Route.To i
    unfolding route_of
    aim_to a is = rw is at to

    -- the row of an event that comes here makes no twin of another place's call
    row_single : (row_for goer e).taken ≡ true → (k : ℕ) → k < 8 → (i ≡ k → ⊥) → NoTwin (row_for goer e).call (call_at calls k)
    row_single w k kl other = by (names goer e w)
      where
        by : Names goer e (row_for goer e) → NoTwin (row_for goer e).call (call_at calls k)
        by (gone is) p q s = false_true (ap is_idle is) p
        by (kept out same) p q s = g.single i k lt kl other out q (sym same ∙ s)
        by (begun idle aim same) p q s =
            free_other {n = 0} k kl (for_outgoing (aim_to Aim.Outgoing aim)) q (sym s ∙ same ∙ idle_id goer (g.kept i lt).meets idle)
        by (brought n aim same) p q s = free_other {n = n} k kl (for_incoming n (aim_to (Aim.Incoming n) aim)) q (sym s ∙ same)
        by (named n aim out same) p q s = with_free (for_held n (aim_to (Aim.Held n) aim))
          where
            with_free : Free n → ⊥
            with_free (unheld none) = free_other {n = n} k kl none q (sym s ∙ same)
            with_free (here own) = g.single i k lt kl other out q (own ∙ sym same ∙ s)

    placed_single : (b : List ℕ) (k : ℕ) → k < 8 → (i ≡ k → ⊥) → NoTwin (placed i goer e b).call (call_at calls k)
    placed_single b k kl other = rw (placed_call i goer e b) (by (decides goer e (drop 5 b)))
      where
        by : Decides goer e (drop 5 b) → NoTwin (decided goer e (drop 5 b)).call (call_at calls k)
        by (Decides.refuses n z d) = rw d (g.single i k lt kl other)
        by (Decides.takes w f d) = rw d (row_single w k kl other)

-- ---- every turn keeps it

module _ (e : Event) (every : aim_of e ≡ Aim.Every) where
  next_same : (c : Call) → is_idle (next_of e c) ≡ false → (is_idle c ≡ false) × ((next_of e c).id ≡ c.id)
  next_same c out = by (takes e c) refl
    where
      row : Names c e (row_for c e) → is_idle (row_for c e).call ≡ false → (is_idle c ≡ false) × ((row_for c e).call.id ≡ c.id)
      row (gone is) p = false_true (ap is_idle is) p
      row (kept o same) p = (o, same)
      row (begun idle aim same) p = absurd (let z : ◌≡◌ {A = ℕ} 0 1 = cc (sym aim ∙ every) in omega arith)
      row (brought n aim same) p = absurd (let z : ◌≡◌ {A = ℕ} 0 1 = cc (sym aim ∙ every) in omega arith)
      row (named n aim o same) p = absurd (let z : ◌≡◌ {A = ℕ} 0 1 = cc (sym aim ∙ every) in omega arith)

      by : (b : Bool) → takes e c ≡ b → (is_idle c ≡ false) × ((next_of e c).id ≡ c.id)
      by true t =
          let is : next_of e c ≡ (row_for c e).call = ap (λ (x : Bool). cond x (row_for c e).call c) t in
          let w = row (names c e t) (rw is at out) in (w.0, ap (λ (d : Call). d.id) is ∙ w.1)
      by false t = let is : next_of e c ≡ c = ap (λ (x : Bool). cond x (row_for c e).call c) t in (rw is at out, ap (λ (d : Call). d.id) is)

pub good_next : (calls : List Call) (t : ConsoleTurn) → Good calls → Good (console_next calls t)
good_next calls t g = by (turned calls t)
  where
    kept_next : (k : ℕ) → k < 8 → Kept (call_at (console_next calls t) k)
    kept_next k lt = rw (record_at calls t k lt) (run_kept (call_at calls k) (went_to k calls t) (g.kept k lt))

    by : Turned calls t → Good (console_next calls t)
    by (stays same) =
        record { eight = ap length same ∙ g.eight; kept = kept_next; single = λ j k jl kl d. rw same (g.single j k jl kl d) }
    by (goes_on e i ok reads to same) =
        let n = g.eight in
        let il = to_place calls t.place e to in
        record {
          eight = ap length same ∙ length-set calls i _ ∙ g.eight;
          kept = kept_next;
          single = λ j k jl kl d. rw same (pair e i il to j k jl kl d (eqb i j) (eqb i k) refl refl);
        }
      where
        pair : (e : Event) (i : ℕ) → i < 8 → route_of calls t.place e ≡ Route.To i → (j k : ℕ) → j < 8 → k < 8 → (j ≡ k → ⊥) → (x y : Bool) → eqb i j ≡ x → eqb i k ≡ y
            → NoTwin (call_at (set calls i (placed i (call_at calls i) e t.buffer).call) j) (call_at (set calls i (placed i (call_at calls i) e t.buffer).call) k)
        pair e i il to j k jl kl d true true x y = absurd (d (sym (eqb-true i j x) ∙ eqb-true i k y))
        pair e i il to j k jl kl d true false x y =
            let n = g.eight in
            rw (← eqb-true i j x, get_or-set_same calls i (placed i (call_at calls i) e t.buffer).call no_call (omega arith), get_or-set_other calls i k (placed i (call_at calls i) e t.buffer).call no_call (λ s. eqb-false i k y (sym s)))
            (placed_single calls g i il t.place e to t.buffer k kl (eqb-false i k y))
        pair e i il to j k jl kl d false true x y =
            let n = g.eight in
            rw (← eqb-true i k y, get_or-set_same calls i (placed i (call_at calls i) e t.buffer).call no_call (omega arith), get_or-set_other calls i j (placed i (call_at calls i) e t.buffer).call no_call (λ s. eqb-false i j x (sym s)))
            (turned_round (placed i (call_at calls i) e t.buffer).call (call_at calls j) (placed_single calls g i il t.place e to t.buffer j jl (eqb-false i j x)))
        pair e i il to j k jl kl d false false x y =
            rw (get_or-set_other calls i j (placed i (call_at calls i) e t.buffer).call no_call (λ s. eqb-false i j x (sym s)), get_or-set_other calls i k (placed i (call_at calls i) e t.buffer).call no_call (λ s. eqb-false i k y (sym s)))
            (g.single j k jl kl d)
    by (all_go e ok reads every same) =
        let n = g.eight in
        record {
          eight = ap length same ∙ next_length calls e ∙ g.eight;
          kept = kept_next;
          single = λ j k jl kl d.
              rw (same, next_at calls e j (omega arith), next_at calls e k (omega arith))
              (λ p q s.
              let a = next_same e every (call_at calls j) p in
              let b = next_same e every (call_at calls k) q in
              g.single j k jl kl d a.0 b.0 (sym a.1 ∙ s ∙ b.1));
        }

pub fresh_at : (k : ℕ) → k < 8 → call_at fresh_table k ≡ fresh_call
fresh_at zero lt = refl
fresh_at (suc zero) lt = refl
fresh_at (suc (suc zero)) lt = refl
fresh_at (suc (suc (suc zero))) lt = refl
fresh_at (suc (suc (suc (suc zero)))) lt = refl
fresh_at (suc (suc (suc (suc (suc zero))))) lt = refl
fresh_at (suc (suc (suc (suc (suc (suc zero)))))) lt = refl
fresh_at (suc (suc (suc (suc (suc (suc (suc zero))))))) lt = refl
fresh_at (suc (suc (suc (suc (suc (suc (suc (suc k)))))))) lt = absurd (omega arith)

pub good_fresh : Good fresh_table
good_fresh =
    record {
      eight = refl;
      kept = λ k lt. rw (fresh_at k lt) fresh_is_sound;
      single = λ j k jl kl d. rw (fresh_at j jl) (λ p q s. false_true refl p);
    }

pub good_run : (calls : List Call) (ts : List ConsoleTurn) → Good calls → Good (console_run calls ts)
unfolding console_run
good_run calls [] g = g
good_run calls (t ∷ ts) g = good_run (console_next calls t) ts (good_next calls t g)
