-- What a sound table says of each place.
use Prim.Native.Nat.{ℕ, zero, suc, ◌<◌}
use mathlib.Core.Path.{◌≡◌, refl}
use mathlib.Core.Bool.{Bool, true, false, ◌&&◌, ◌||◌}
use mathlib.Core.List.{List, [], ◌∷◌}
use native.Mathlib.Omega.{arith}
use borrow.Author.Tests.{eqb-true}
use lib.Dec.{eqb}
use lib.ListN.{length}
use Rattle.callcontrol.specs.declared.call.Call.{Call}
use Rattle.callcontrol.specs.Call.{sound}
use Rattle.demands.proofs.Facts.{left, right}
use Rattle.console.specs.Table.{call_at, some?, every?, apart, table_sound}

every_at : (p : Call → Bool) (calls : List Call) (k : ℕ) → k < length calls → every? p calls ≡ true → p (call_at calls k) ≡ true
every_at p (c ∷ calls) zero lt h = left (p c) (every? p calls) h
every_at p (c ∷ calls) (suc k) lt h = every_at p calls k (omega arith) (right (p c) (every? p calls) h)
every_at p [] k lt h = absurd (omega arith)

pub some_at : (p : Call → Bool) (calls : List Call) (k : ℕ) → k < length calls → p (call_at calls k) ≡ true → some? p calls ≡ true
some_at p (c ∷ calls) zero lt h = rw h
some_at p (c ∷ calls) (suc k) lt h = or_right (p c) (some_at p calls k (omega arith) h)
  where
    or_right : (a : Bool) {b : Bool} → b ≡ true → (a || b) ≡ true
    or_right true e = refl
    or_right false e = e
some_at p [] k lt h = absurd (omega arith)

module _ (calls : List Call) (ok : table_sound calls ≡ true) where
  pub eight_of : length calls ≡ 8
  unfolding table_sound
  eight_of = eqb-true (length calls) 8 (left (eqb (length calls) 8) (every? sound calls && apart calls) ok)

  pub sound_all : every? sound calls ≡ true
  unfolding table_sound
  sound_all = left (every? sound calls) (apart calls) (right (eqb (length calls) 8) (every? sound calls && apart calls) ok)

  pub apart_all : apart calls ≡ true
  unfolding table_sound
  apart_all = right (every? sound calls) (apart calls) (right (eqb (length calls) 8) (every? sound calls && apart calls) ok)

module _ (calls : List Call) (k : ℕ) where
  pub sound_at : table_sound calls ≡ true → k < 8 → sound (call_at calls k) ≡ true
  sound_at ok below = let n = eight_of calls ok in every_at sound calls k (omega arith) (sound_all calls ok)
