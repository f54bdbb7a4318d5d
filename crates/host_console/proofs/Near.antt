-- A place of an event's reader, and so of the console, takes one byte, so that a result's first byte is the answer.
use Prim.Native.Nat.{ℕ, ◌+◌, ◌≤◌}
use mathlib.Core.Path.{◌≡◌, refl}
use mathlib.Core.Bool.{Bool, true, false, cond}
use mathlib.Core.List.{List, [], ◌∷◌}
use mathlib.Core.Option.{Option, some}
use native.Mathlib.Omega.{arith}
use borrow.Author.Tests.{leb-true}
use lib.Dec.{eqb, leb, lit≤}
use lib.ListN.{length, drop}
use Rattle.records.specs.declared.events.Event.{Event}
use Rattle.records.specs.Bytes.{number}
use Rattle.records.specs.Letters.{Letter, width, fits}
use Rattle.records.specs.Bodies.{Found, is, bad_at, and_then, value_at, values_at, kind_in, body_of, size}
use Rattle.records.specs.Tables.{Read, taken, refused, or_refuse, or_place, sized, listed, known, find, read, read_among, read_as, read_body}
use Rattle.records.specs.Events.{events}
use Rattle.callcontrol.specs.declared.call.Call.{Call}
use Rattle.callcontrol.specs.Step.{Outcome, decided}
use Rattle.console.specs.Table.{call_at}
use Rattle.console.specs.Route.{Route}
use Rattle.console.specs.Console.{placed, at_place, everywhere}
use Rattle.console.specs.Runs.{ConsoleTurn, console_outcome}
use Rattle.console.proofs.Turns.{Everywhere, everywhere_does, none_takes, no_room, all_take, Came, came, unsound, unread, routes}
use Rattle.records.proofs.RoundTrip.{every_found}
use Rattle.records.proofs.Tables.{event_lawful}

abbrev Within : {A : Type 0} → ℕ → Found A → Type 0
Within m (is a) = Unit {0}
Within m (bad_at p) = p ≤ m

then_within : {A B : Type 0} (m : ℕ) (o : Found A) (f : A → Found B) → Within m o → ((a : A) → Within m (f a)) → Within m (and_then o f)
then_within m (is a) f w g = g a
then_within m (bad_at p) f w g = w

test_within : {A : Type 0} (m at : ℕ) (b : Bool) (o : Found A) → at ≤ m → Within m o → Within m (cond b o (bad_at at))
test_within m at true o h w = w
test_within m at false o h w = h

values_within : (ls : List Letter) (s : List ℕ) (at m : ℕ) → at + size ls ≤ m → Within m (values_at ls s at)
unfolding values_at value_at
values_within [] s at m h = tt
values_within (l ∷ ls) s at m h =
    then_within m (cond (fits l (number (width l) s at)) (is (number (width l) s at)) (bad_at at)) _
    (test_within m at (fits l (number (width l) s at)) (is (number (width l) s at)) (omega arith) tt)
    (λ v. then_within m (values_at ls s (at + width l)) _ (values_within ls s (at + width l) m (omega arith)) (λ vs. tt))

abbrev Near : {A : Type 0} → Read A → Type 0
Near (taken v) = Unit {0}
Near (refused n p) = p ≤ 255

or_near : {A B : Type 0} (n : ℕ) (o : Option A) (f : A → Read B) → ((a : A) → o ≡ some a → Near (f a)) → Near (or_refuse n o f)
or_near n Option.none f g = lit≤ tt
or_near n (some a) f g = g a refl

place_near : {A B : Type 0} (o : Found A) (f : A → Read B) → Within 255 o → ((a : A) → Near (f a)) → Near (or_place o f)
place_near (is a) f w g = g a
place_near (bad_at p) f w g = w

current_near : {A : Type 0} (b : Bool) (r : Read A) → Near r → Near (cond b (refused 9 0) r)
current_near true r h = lit≤ tt
current_near false r h = h

known_near : {A : Type 0} (b : Bool) (r : Read A) → Near r → Near (cond b r (refused 3 0))
known_near true r h = h
known_near false r h = lit≤ tt

sized_near : {A B : Type 0} (o : Option A) (f : A → Read B) → ((a : A) → o ≡ some a → Near (f a)) → Near (or_place (sized o) f)
sized_near Option.none f g = lit≤ tt
sized_near (some a) f g = g a refl

test_near : {A : Type 0} (b : Bool) (v : A) → Near (cond b (taken v) (refused 4 0))
test_near true v = tt
test_near false v = lit≤ tt

reader_near : (s : List ℕ) → Near (read events s)
unfolding read read_as read_among read_body body_of
reader_near s =
    or_near 2 (kind_in s) _
    (λ n e. current_near (listed n events.retired) _
    (known_near (known events n events.kinds) _
    (sized_near (find events n (length s) events.kinds) _
    (λ k f.
    let row = (events.row_of k).letters in
    let short : leb (4 + size row) 255 ≡ true = every_found events event_lawful (λ k. leb (4 + size (events.row_of k).letters) 255) n (length s) events.kinds k f refl in
    let small : 4 + size row ≤ 255 = leb-true (4 + size row) 255 short in
    place_near (cond (eqb (length s) (4 + size row)) (values_at row s 4) (bad_at 2)) _
    (test_within 255 2 (eqb (length s) (4 + size row)) (values_at row s 4) (lit≤ tt) (values_within row s 4 255 (omega arith)))
    (λ vs. test_near (events.agrees (events.value_of k vs)) (events.value_of k vs))))))

read_near : (s : List ℕ) {n p : ℕ} → read events s ≡ refused n p → p ≤ 255
read_near s h = rw h at (reader_near s)

-- what is routed has no place
placed_none : (k : ℕ) (c : Call) (e : Event) (b : List ℕ) → (placed k c e b).place ≡ 0
unfolding placed
placed_none k c e b = by (eqb (decided c e (drop 5 b)).answer 0) _ _ refl refl
  where
    by : (z : Bool) (x y : Outcome) → x.place ≡ 0 → y.place ≡ 0 → (cond z x y).place ≡ 0
    by true x y p q = p
    by false x y p q = q

all_none : (calls : List Call) (e : Event) (b : List ℕ) → Everywhere calls e b → (everywhere calls e b).place ≡ 0
all_none calls e b (none_takes x d) = rw d
all_none calls e b (no_room x f d) = rw d
all_none calls e b (all_take x f d) = rw d

pub console_near : (calls : List Call) (t : ConsoleTurn) → (console_outcome calls t).place ≤ 255
unfolding at_place
console_near calls t = by (came calls t)
  where
    by : Came calls t → (console_outcome calls t).place ≤ 255
    by (unsound s o) = rw o (lit≤ tt)
    by (unread n p s h o) = rw o (read_near t.event h)
    by (routes e (Route.To j) s h r o) = rw (o, placed_none j (call_at calls j) e t.buffer) (lit≤ tt)
    by (routes e Route.Everywhere s h r o) = rw (o, all_none calls e t.buffer (everywhere_does calls e t.buffer)) (lit≤ tt)
    by (routes e (Route.Refused a) s h r o) = rw o (lit≤ tt)
