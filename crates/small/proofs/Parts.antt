-- What a reader found, part by part.
use Rattle.std.proofs.Common.{ℕ, Bool, true, false, ◌≡◌, refl, Option, Some, None, Ok, Err}
use Rattle.std.specs.Option.{ok_or}
use Rattle.records.specs.Tables.{Read, taken, refused}

abbrev pub value_in : {A : Type 0} → A → Read A → A
value_in other (taken v) = v
value_in other (refused n p) = other

abbrev pub number_in : {A : Type 0} → Read A → ℕ
number_in (taken v) = 0
number_in (refused n p) = n

abbrev pub place_in : {A : Type 0} → Read A → ℕ
place_in (taken v) = 0
place_in (refused n p) = p

abbrev pub is_taken : {A : Type 0} → Read A → Bool
is_taken (taken v) = true
is_taken (refused n p) = false

-- what an optional value was, of which `ok_or` made a result

pub was_some : {A E : Type 0} (o : Option A) (e : E) (a : A) → Ok a ≡ ok_or o e → o ≡ Some a
was_some None e a h = cc
was_some (Some b) e a h = cc

pub was_none : {A E : Type 0} (o : Option A) (e u : E) → Err u ≡ ok_or o e → o ≡ None
was_none None e u h = refl
was_none (Some b) e u h = cc

pub is_error : {A E : Type 0} (o : Option A) (e u : E) → Err u ≡ ok_or o e → u ≡ e
is_error None e u h = cc
is_error (Some b) e u h = cc
