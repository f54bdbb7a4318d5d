-- How much room BREAK and RESUME want of a sound table: 16 bytes for a place that is cut, 23 for one that is restored, and no more.
use Prim.Native.Nat.{ℕ, suc, ◌+◌, ◌*◌, ◌≤◌, ◌<◌}
use mathlib.Core.Path.{◌≡◌, refl, sym, ◌∙◌, ap}
use mathlib.Core.Bool.{Bool, true, false, cond, not}
use mathlib.Core.List.{List, [], ◌∷◌}
use native.Mathlib.Omega.{arith}
use borrow.Author.Tests.{leb-true}
use lib.Dec.{leb, eqb}
use lib.ListN.{length, drop, get_or, set}
use Rattle.records.specs.declared.events.Event.{Event}
use Rattle.records.specs.Messages.{message_size}
use Rattle.records.specs.Bodies.{flat_size}
use Rattle.callcontrol.specs.declared.call.State.{State}
use Rattle.callcontrol.specs.declared.call.Path.{Path}
use Rattle.callcontrol.specs.declared.call.Call.{Call}
use Rattle.callcontrol.specs.Call.{runs, T306, T311}
use Rattle.callcontrol.specs.Draft.{Draft}
use Rattle.callcontrol.specs.Rows.{row_for}
use Rattle.callcontrol.specs.Writing.{messages_in, bytes_of, count_of}
use Rattle.callcontrol.proofs.Laying.{size_messages, size-append}
use Rattle.callcontrol.proofs.Verbs.{verbs}
use Rattle.demands.specs.Demands.{Kept}
use Rattle.demands.proofs.Bound.{slot, slot_size}
use Rattle.demands.proofs.ByRow.{Row, is_row}
use Rattle.demands.proofs.Situations.{At, up, broken, restoring, wait, transmit, receive, duplex, none, situated}
use Rattle.console.specs.declared.console.SoFar.{SoFar}
use Rattle.console.specs.declared.route.Aim.{Aim}
use Rattle.console.specs.Table.{call_at, table_sound}
use Rattle.console.specs.Route.{Route, aim_of}
use Rattle.console.specs.Console.{ConsoleOutcome, LaidAll, takes, writes, part, placed, at_place, everywhere, writes_from, console_of}
use Rattle.console.specs.Runs.{ConsoleTurn, console_outcome}
use Rattle.console.proofs.Placing.{bytes_at, Decides, decides, placed_refuses, placed_takes}
use Rattle.console.proofs.Tables.{eight_of}
use Rattle.console.proofs.Turns.{Everywhere, everywhere_does, none_takes, no_room, all_take, Came, came, unsound, unread, routes}
use Rattle.console.proofs.Everywhere.{part_size, part_few, every_is, own_fits}

-- ---- how many bytes a row writes, by its parts

cost : Draft → ℕ
cost x =
    6 * count_of x.stops + cond x.cancel 4 0 + slot x.pdu + 7 * count_of x.starts + cond (not (eqb x.configure 0)) 5 0 + slot x.user

cost_is : (x : Draft) → length (bytes_of (messages_in x)) ≡ cost x
unfolding cost
cost_is x = omega (arith, size_messages x, slot_size x.pdu, slot_size x.user)

-- ---- the rows of BREAK and RESUME, each in its situation

break_cost : {c : Call} {s : State} {w : Path} {x : Draft} → Row c s w Event.Break x → At s w c → leb (cost x) 11 ≡ true
unfolding cost verbs count_of message_size flat_size
break_cost Row.breaks (up l transmit n) = refl
break_cost Row.breaks (up l receive n) = refl
break_cost Row.breaks (up l duplex n) = refl
break_cost Row.breaks (up l none n) = refl
break_cost Row.breaks_again (restoring l n) = refl
break_cost Row.breaks_paused (wait l k n) = refl

resume_cost : {c : Call} {s : State} {w : Path} {x : Draft} → Row c s w Event.Resume x → At s w c → leb (cost x) 18 ≡ true
unfolding cost verbs count_of message_size flat_size
resume_cost Row.resumes (broken l n) = refl

-- and of any record: T306 and T311 are stopped only where they run

-- T311 where T306 has been stopped
abbrev still : Call → Bool
still c = get_or (set c.timers T306 false) T311 false

break_any : {c : Call} {s : State} {w : Path} {x : Draft} → Row c s w Event.Break x → (a b d : Bool) → runs c T306 ≡ a → runs c T311 ≡ b → still c ≡ d
    → leb (cost x) 18 ≡ true
unfolding cost verbs count_of message_size flat_size
break_any Row.breaks a true d p q r = rw q
break_any Row.breaks a false d p q r = rw q
break_any Row.breaks_again true b true p q r = rw (p, r)
break_any Row.breaks_again true b false p q r = rw (p, r)
break_any Row.breaks_again false b true p q r = rw (p, r)
break_any Row.breaks_again false b false p q r = rw (p, r)
break_any Row.breaks_paused a true d p q r = rw q
break_any Row.breaks_paused a false d p q r = rw q

resume_any : {c : Call} {s : State} {w : Path} {x : Draft} → Row c s w Event.Resume x → leb (cost x) 18 ≡ true
unfolding cost verbs count_of message_size flat_size
resume_any Row.resumes = refl

headed_most : (n m : ℕ) (z : Bool) → n ≤ m → cond z 0 (5 + n) ≤ 5 + m
headed_most n m true h = omega arith
headed_most n m false h = omega arith

-- what a place writes, from what its step writes
pub written_most : (k : ℕ) (c : Call) (e : Event) (m : ℕ) → takes e c ≡ true → length (bytes_at c e) ≤ m → length (bytes_of (writes k c e)) ≤ 5 + m
written_most k c e m t most =
    rw (sym (ap (λ (x : Bool). length (bytes_of (cond x (writes k c e) []))) t) ∙ part_size c e k true t)
    (headed_most (length (bytes_at c e)) m (eqb (length (bytes_at c e)) 0) most)

-- and from what its row costs
part_most : (k : ℕ) (c : Call) (e : Event) (m : ℕ) (t : Bool) → takes e c ≡ t → (takes e c ≡ true → leb (cost (row_for c e)) m ≡ true)
    → length (bytes_of (part k c e)) ≤ 5 + m
part_most k c e m true t f =
    rw (part_size c e k true t)
    (headed_most (length (bytes_at c e)) m (eqb (length (bytes_at c e)) 0) (rw (cost_is (row_for c e)) (leb-true (cost (row_for c e)) m (f t))))
part_most k c e m false t f = rw (part_size c e k false t) (omega arith)

-- ---- all places

all_most : (e : Event) (m : ℕ) (i : ℕ) (cs : List Call) → ((n k : ℕ) → n < length cs → length (bytes_of (part k (call_at cs n) e)) ≤ m)
    → length (bytes_of (writes_from i cs e)) ≤ m * length cs
unfolding bytes_of
all_most e m i [] f = omega arith
all_most e m i (c ∷ cs) f =
    omega (arith, size-append (part i c e) (writes_from (suc i) cs e), f 0 i (omega arith), all_most e m (suc i) cs (λ n k lt. f (suc n) k (omega arith)))

-- BREAK and RESUME at every place of any table of eight
pub every_room : (calls : List Call) (e : Event) → aim_of e ≡ Aim.Every → length calls ≤ 8 → length (bytes_of (writes_from 0 calls e)) ≤ 184
every_room calls e every eight =
    let w = all_most e 23 0 calls (λ n k lt. part_most k (call_at calls n) e 18 (takes e (call_at calls n)) refl (any (call_at calls n))) in
    omega arith
  where
    any : (c : Call) → takes e c ≡ true → leb (cost (row_for c e)) 18 ≡ true
    any c =
        every_is (λ v. takes v c ≡ true → leb (cost (row_for c v)) 18 ≡ true)
        (λ t. break_any (is_row c Event.Break t) (runs c T306) (runs c T311) (still c) refl refl refl)
        (λ t. resume_any (is_row c Event.Resume t))
        e every

-- so they have room in our own buffer
pub own_room : (calls : List Call) (e : Event) (own : List ℕ) → aim_of e ≡ Aim.Every → length calls ≡ 8 → 184 ≡ length own
    → length (bytes_of (writes_from 0 calls e)) ≤ length own
own_room calls e own every eight size = let w = every_room calls e every (omega arith) in omega arith

-- and what was laid is within it
pub own_laid : (calls : List Call) (e : Event) {r : SoFar} {after : List Call} {own own₀ : List ℕ} → aim_of e ≡ Aim.Every → length calls ≡ 8 → 184 ≡ length own₀
    → LaidAll r after own calls e own₀ → r.size ≤ length own
own_laid calls e {own₀ = own₀} every eight size laid = own_fits calls e laid (own_room calls e own₀ every eight size)

module _ (calls : List Call) (eight : length calls ≡ 8) (kept : (k : ℕ) → k < 8 → Kept (call_at calls k)) where
  pub break_room : length (bytes_of (writes_from 0 calls Event.Break)) ≤ 128
  break_room =
      let w = all_most Event.Break 16 0 calls
      (λ n k lt.
      let c = call_at calls n in
      part_most k c Event.Break 11 (takes Event.Break c) refl (λ t. break_cost (is_row c Event.Break t) (situated c (kept n (omega arith))))) in
      omega arith

  pub resume_room : length (bytes_of (writes_from 0 calls Event.Resume)) ≤ 184
  resume_room =
      let w = all_most Event.Resume 23 0 calls
      (λ n k lt.
      let c = call_at calls n in
      part_most k c Event.Resume 18 (takes Event.Resume c) refl (λ t. resume_cost (is_row c Event.Resume t) (situated c (kept n (omega arith))))) in
      omega arith

-- ---- any table of eight: a bound for the boundary's number

pub place_few : (k : ℕ) (c : Call) (e : Event) (b : List ℕ) → (placed k c e b).count ≤ 127
place_few k c e b = by (decides c e (drop 5 b))
  where
    by : Decides c e (drop 5 b) → (placed k c e b).count ≤ 127
    by (Decides.refuses n z d) = rw (← placed_refuses k c e b n z d) (omega arith)
    by (Decides.takes w f d) =
        let m = part_few k c e (takes e c) refl in
        rw (← placed_takes k c e b d) (rw (ap (λ (x : Bool). length (bytes_of (cond x (writes k c e) []))) w) at m)

pub console_few : (calls : List Call) (place : ℕ) (bytes b : List ℕ) {o : ConsoleOutcome} → o ≡ console_of calls place bytes b → o.count ≤ 1016
unfolding console_outcome at_place
console_few calls place bytes b {o} is = rw is (by (came calls t))
  where
    t : ConsoleTurn
    t = record { place = place; event = bytes; buffer = b }

    all : (e : Event) → table_sound calls ≡ true → Everywhere calls e b → (everywhere calls e b).count ≤ 1016
    all e s (none_takes x d) = rw d (omega arith)
    all e s (no_room x f d) = rw d (omega arith)
    all e s (all_take x f d) =
        let n = eight_of calls s in
        let w = all_most e 127 0 calls (λ n k lt. part_few k (call_at calls n) e (takes e (call_at calls n)) refl) in
        rw d (omega arith)

    by : Came calls t → (console_outcome calls t).count ≤ 1016
    by (unsound s g) = rw g (omega arith)
    by (unread n p s h g) = rw g (omega arith)
    by (routes e (Route.To j) s h r g) = rw g (let w = place_few j (call_at calls j) e b in omega arith)
    by (routes e Route.Everywhere s h r g) = rw g (all e s (everywhere_does calls e b))
    by (routes e (Route.Refused a) s h r g) = rw g (omega arith)
