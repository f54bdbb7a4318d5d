-- The first room of a kind: whether there is one, and what is stored there. And what a walk over the rooms gives.
use Prim.Native.Nat.{ℕ, suc, ◌+◌, ◌-◌, ◌≤◌, ◌<◌}
use mathlib.Core.Path.{◌≡◌, refl, ap}
use mathlib.Core.Bool.{Bool, true, false, cond, not, ◌&&◌, ◌||◌}
use mathlib.Core.List.{List, [], ◌∷◌, ◌++◌, append-nil}
use native.Mathlib.Omega.{arith}
use borrow.Author.Tests.{eq-eqb, ltb-true, ltb-false}
use lib.Dec.{ltb}
use native.Mathlib.Numerals.{add-one, one-add}
use lib.ListN.{length, get_or, set, take, drop, drop_of_length-le, length-drop}
use lib.Seq.{drop-cons}
use Rattle.std.specs.Prelude.{Option, Some, None, Ok, Err}
use Rattle.std.specs.Option.{ok_or}
use Rattle.std.specs.List.{list_any, list_all, count_by, position, position_or_len}
use Rattle.std.proofs.lemmas.List.{take_all}
use Rattle.std.proofs.lemmas.List.Recursion.{is_count_by}
use Rattle.channel.specs.declared.rooms.Room.{Room}
use Rattle.channel.specs.Rooms.{free_room, room_fits, apart_from, some?, every?, apart, rooms_sound, in_first, all_freed, count}

pub some_is : (p : Room → Bool) (rooms : List Room) → list_any p rooms ≡ some? p rooms
some_is p [] = refl
some_is p (r ∷ rs) = ap (λ (b : Bool). p r || b) (some_is p rs)

pub every_is : (p : Room → Bool) (rooms : List Room) → list_all p rooms ≡ every? p rooms
every_is p [] = refl
every_is p (r ∷ rs) = ap (λ (b : Bool). p r && b) (every_is p rs)

pub count_is : (p : Room → Bool) (rooms : List Room) → count p rooms ≡ count_by p rooms
count_is p = is_count_by (count p) p refl (λ r rs. by rs (p r))
  where
    by : (rs : List Room) (b : Bool) → cond b 1 0 + count p rs ≡ cond b (1 + count p rs) (count p rs)
    by rs true = refl
    by rs false = omega arith

-- a walk over the rooms, at a room and the later ones: what it tests, and what it frees

abbrev pub fitting : List Room → Bool
fitting rooms = every? room_fits rooms && apart rooms

pub sound_is_fitting : (rooms : List Room) → length rooms ≡ 4 → rooms_sound rooms ≡ fitting rooms
unfolding rooms_sound
sound_is_fitting rooms h = rw (eq-eqb (length rooms) 4 h)

-- what the code tests of a room, and of the slice of the later ones
pub fitting_on : (rooms : List Room) (k : ℕ) {b : Bool} → k < length rooms
    → b ≡ room_fits (get_or rooms k free_room) && every? (apart_from (get_or rooms k free_room)) (take (length rooms - (k + 1)) (drop (k + 1) rooms))
    → fitting (drop k rooms) ≡ b && fitting (drop (k + 1) rooms)
fitting_on rooms k h e =
    let whole : length (drop (k + 1) rooms) ≤ length rooms - (k + 1) = omega (arith, length-drop (k + 1) rooms) in
    rw (e, take_all (length rooms - (k + 1)) (drop (k + 1) rooms) whole, drop-cons rooms k free_room h, add-one)
    (by (room_fits (get_or rooms k free_room)) (every? room_fits (drop (suc k) rooms)) (every? (apart_from (get_or rooms k free_room)) (drop (suc k) rooms)) (apart (drop (suc k) rooms)))
  where
    by : (a b c d : Bool) → (a && b) && (c && d) ≡ (a && c) && (b && d)
    by false b c d = refl
    by true false false d = refl
    by true false true d = refl
    by true true c d = refl

pub freed_all : (call : ℕ) (rooms : List Room) (k : ℕ) → length rooms ≤ k → take k rooms ++ all_freed call (drop k rooms) ≡ rooms
freed_all call rooms k h = rw (drop_of_length-le rooms {i = k} h, append-nil, take_all k rooms h)

-- what `ok_or` makes an error was none, and the error is that which was handed in
pub was_none : {A E : Type 0} (o : Option A) (e x : E) → Err x ≡ ok_or o e → (o ≡ None) × (x ≡ e)
was_none None e x h = (refl, cc)
was_none (Some a) e x h = cc

pub was_some : {A E : Type 0} (o : Option A) (e : E) (a : A) → Ok a ≡ ok_or o e → o ≡ Some a
was_some None e a h = cc
was_some (Some b) e a h = cc

module _ (p : Room → Bool) where
  some_below : (rooms : List Room) → position_or_len p rooms < length rooms → some? p rooms ≡ true
  some_below [] h = absurd (omega arith)
  some_below (r ∷ rs) h = by (p r) h (some_below rs)
    where
      by : (b : Bool) → cond (not b) (1 + position_or_len p rs) 0 < suc (length rs) → (position_or_len p rs < length rs → some? p rs ≡ true) → b || some? p rs ≡ true
      by true h again = refl
      by false h again = again (omega arith)

  none_below : (rooms : List Room) → length rooms ≤ position_or_len p rooms → some? p rooms ≡ false
  none_below [] h = refl
  none_below (r ∷ rs) h = by (p r) h (none_below rs)
    where
      by : (b : Bool) → suc (length rs) ≤ cond (not b) (1 + position_or_len p rs) 0 → (length rs ≤ position_or_len p rs → some? p rs ≡ false) → b || some? p rs ≡ false
      by true h again = absurd (omega arith)
      by false h again = again (omega arith)

  set_below : (x : Room) (rooms : List Room) → position_or_len p rooms < length rooms → set rooms (position_or_len p rooms) x ≡ in_first p x rooms
  set_below x [] h = absurd (omega arith)
  set_below x (r ∷ rs) h = by (p r) h (set_below x rs)
    where
      by : (b : Bool) → cond (not b) (1 + position_or_len p rs) 0 < suc (length rs) → (position_or_len p rs < length rs → set rs (position_or_len p rs) x ≡ in_first p x rs)
          → set (r ∷ rs) (cond (not b) (1 + position_or_len p rs) 0) x ≡ cond b (x ∷ rs) (r ∷ in_first p x rs)
      by true h again = refl
      by false h again = rw (one-add) (ap (λ (l : List Room). r ∷ l) (again (omega arith)))

  -- where there is none
  pub none_first : (rooms : List Room) → position p rooms ≡ None → some? p rooms ≡ false
  none_first rooms e = by (ltb (position_or_len p rooms) (length rooms)) refl e
    where
      by : (b : Bool) → ltb (position_or_len p rooms) (length rooms) ≡ b → cond b (Some (position_or_len p rooms)) None ≡ None → some? p rooms ≡ false
      by true t e = cc
      by false t e = none_below rooms (ltb-false _ _ t)

  -- where there is one
  record At (rooms : List Room) (k : ℕ) : Type 0 where
    below : position_or_len p rooms < length rooms
    at : position_or_len p rooms ≡ k

  at_first : (rooms : List Room) (k : ℕ) → position p rooms ≡ Some k → At rooms k
  at_first rooms k e = by (ltb (position_or_len p rooms) (length rooms)) refl e
    where
      by : (b : Bool) → ltb (position_or_len p rooms) (length rooms) ≡ b → cond b (Some (position_or_len p rooms)) None ≡ Some k → At rooms k
      by true t e = record { below = ltb-true _ _ t; at = cc }
      by false t e = cc

  pub some_first : (rooms : List Room) (k : ℕ) → position p rooms ≡ Some k → some? p rooms ≡ true
  some_first rooms k e = some_below rooms (at_first rooms k e).below

  pub set_first : (x : Room) (rooms : List Room) (k : ℕ) → position p rooms ≡ Some k → set rooms k x ≡ in_first p x rooms
  set_first x rooms k e = let z = at_first rooms k e in rw (← z.at) (set_below x rooms z.below)

-- for a room that is looked for, and `?` on what was found
pub ruleset firsts = (was_none, was_some, none_first, some_first, set_first)
