-- What the last arm of a match on an event knows: its tag is one of those that no other arm has.
use Prim.Native.Nat.{ℕ}
use mathlib.Core.Path.{◌≡◌, subst, sym}
use mathlib.Core.Bool.{Bool, true, false, ◌||◌}
use mathlib.Core.List.{List, [], ◌∷◌}
use mathlib.Core.Logic.{⊎_elim}
use lib.Dec.{T, eqb, eqb_refl}
use types.Run.{OneOf}
use denote.Enum.Declared as Declared
use Rattle.records.specs.declared.events.Event.{Event}
use Rattle.records.specs.contracts.events.Event as event

-- a number is in a list
abbrev pub has : List ℕ → ℕ → Bool
has [] x = false
has (k ∷ ks) x = eqb x k || has ks x

abbrev pub has_tag : List ℕ → Event → Bool
has_tag ks e = has ks (Declared.tag_of event.the_type e)

left : (a b : Bool) → T a → T (a || b)
left true b t = tt
left false b t = absurd t

right : (a b : Bool) → T b → T (a || b)
right true b t = tt
right false b t = t

here : (k x : ℕ) (b : Bool) → x ≡ k → T (eqb x k || b)
here k x b e = left (eqb x k) b (subst (λ (y : ℕ). T (eqb y k)) (sym e) (eqb_refl k))

among : (ks : List ℕ) (x : ℕ) → OneOf ks x → T (has ks x)
among [] x h = h
among (k ∷ []) x h = here k x false h
among (k ∷ l ∷ ks) x h = ⊎_elim (here k x (has (l ∷ ks) x)) (λ g. right (eqb x k) (has (l ∷ ks) x) (among (l ∷ ks) x g)) h

pub one_of : (ks : List ℕ) (e : Event) → OneOf ks (Declared.tag_of event.the_type e) → T (has_tag ks e)
one_of ks e h = among ks (Declared.tag_of event.the_type e) h
