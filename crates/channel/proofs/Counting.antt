-- In how many rooms something holds, once a room gets another content or the rooms of a call are freed; and sound rooms by such counts.
use Prim.Native.Nat.{ℕ, ◌+◌, ◌≤◌}
use mathlib.Core.Path.{◌≡◌, refl, sym, ◌∙◌, ap}
use mathlib.Core.Bool.{Bool, true, false, cond, not, ◌&&◌, ◌||◌}
use mathlib.Core.List.{List, [], ◌∷◌}
use native.Mathlib.Omega.{arith}
use borrow.Author.Tests.{eq-eqb, eqb-true}
use lib.Dec.{eqb}
use lib.ListN.{length}
use Rattle.demands.proofs.Facts as facts
use Rattle.channel.specs.declared.rooms.Wait.{Wait}
use Rattle.channel.specs.declared.rooms.Room.{Room}
use Rattle.channel.specs.Rooms.{free_room, is_free, has_number, waits_for, of_call, room_fits, apart_from, some?, every?, apart, rooms_sound, in_first, freed, all_freed, count}

-- ---- some room, and how many

pub some_count : (p : Room → Bool) (rooms : List Room) → some? p rooms ≡ true → 1 ≤ count p rooms
some_count p [] h = facts.apart h refl
some_count p (r ∷ rs) h = by (p r) h (some_count p rs)
  where
    by : (b : Bool) → b || some? p rs ≡ true → (some? p rs ≡ true → 1 ≤ count p rs) → 1 ≤ cond b 1 0 + count p rs
    by true h again = omega arith
    by false h again = let z = again h in omega arith

pub count_some : (p : Room → Bool) (rooms : List Room) → 1 ≤ count p rooms → some? p rooms ≡ true
count_some p [] h = absurd (omega arith)
count_some p (r ∷ rs) h = by (p r) h (count_some p rs)
  where
    by : (b : Bool) → 1 ≤ cond b 1 0 + count p rs → (1 ≤ count p rs → some? p rs ≡ true) → b || some? p rs ≡ true
    by true h again = refl
    by false h again = again (omega arith)

pub none_count : (p : Room → Bool) (rooms : List Room) → some? p rooms ≡ false → count p rooms ≡ 0
none_count p [] h = refl
none_count p (r ∷ rs) h = by (p r) h (none_count p rs)
  where
    by : (b : Bool) → b || some? p rs ≡ false → (some? p rs ≡ false → count p rs ≡ 0) → cond b 1 0 + count p rs ≡ 0
    by true h again = facts.apart refl h
    by false h again = let z = again h in omega arith

pub count_length : (p : Room → Bool) (rooms : List Room) → count p rooms ≤ length rooms
count_length p [] = omega arith
count_length p (r ∷ rs) = by (p r) (count_length p rs)
  where
    by : (b : Bool) → count p rs ≤ length rs → cond b 1 0 + count p rs ≤ length (r ∷ rs)
    by true le = omega arith
    by false le = omega arith

pub never : (p : Room → Bool) → ((r : Room) → p r ≡ false) → (rooms : List Room) → count p rooms ≡ 0
never p h [] = refl
never p h (r ∷ rs) = let z = never p h rs in rw (h r) (omega (arith, z))

-- two that never hold together, where a third holds
pub beside : (p q m : Room → Bool) → ((r : Room) → p r ≡ true → m r ≡ true) → ((r : Room) → q r ≡ true → m r ≡ true) → ((r : Room) → p r ≡ true → q r ≡ true → ⊥)
    → (rooms : List Room) → count p rooms + count q rooms ≤ count m rooms
beside p q m f g deny [] = omega arith
beside p q m f g deny (r ∷ rs) = by (p r) (q r) (m r) (f r) (g r) (deny r) (beside p q m f g deny rs)
  where
    by : (a b c : Bool) → (a ≡ true → c ≡ true) → (b ≡ true → c ≡ true) → (a ≡ true → b ≡ true → ⊥) → count p rs + count q rs ≤ count m rs
        → cond a 1 0 + count p rs + (cond b 1 0 + count q rs) ≤ cond c 1 0 + count m rs
    by true true c i j k le = absurd (k refl refl)
    by true false true i j k le = omega arith
    by true false false i j k le = facts.apart (i refl) refl
    by false true true i j k le = omega arith
    by false true false i j k le = facts.apart (j refl) refl
    by false false true i j k le = omega arith
    by false false false i j k le = omega arith

-- where something holds, another does
pub mono : (p q : Room → Bool) → ((r : Room) → p r ≡ true → q r ≡ true) → (rooms : List Room) → count p rooms ≤ count q rooms
mono p q h [] = omega arith
mono p q h (r ∷ rs) = by (p r) (q r) (h r) (mono p q h rs)
  where
    by : (a b : Bool) → (a ≡ true → b ≡ true) → count p rs ≤ count q rs → cond a 1 0 + count p rs ≤ cond b 1 0 + count q rs
    by true true i le = omega arith
    by true false i le = facts.apart (i refl) refl
    by false true i le = omega arith
    by false false i le = omega arith

-- ---- another content

module _ (p q : Room → Bool) (v : Bool) (alike : (r : Room) → p r ≡ true → q r ≡ v) (x : Room) where
  pub count_first : (rooms : List Room) → some? p rooms ≡ true → count q (in_first p x rooms) + cond v 1 0 ≡ cond (q x) 1 0 + count q rooms
  count_first [] h = facts.apart h refl
  count_first (r ∷ rs) h = by (p r) refl h (count_first rs)
    where
      by : (b : Bool) → p r ≡ b → b || some? p rs ≡ true → (some? p rs ≡ true → count q (in_first p x rs) + cond v 1 0 ≡ cond (q x) 1 0 + count q rs)
          → count q (cond b (x ∷ rs) (r ∷ in_first p x rs)) + cond v 1 0 ≡ cond (q x) 1 0 + (cond (q r) 1 0 + count q rs)
      by true e h again = rw (alike r e) (omega arith)
      by false e h again = let z = again h in omega arith

pub length-first : (p : Room → Bool) (x : Room) (rooms : List Room) → length (in_first p x rooms) ≡ length rooms
length-first p x [] = refl
length-first p x (r ∷ rs) = by (p r) (length-first p x rs)
  where
    by : (b : Bool) → length (in_first p x rs) ≡ length rs → length (cond b (x ∷ rs) (r ∷ in_first p x rs)) ≡ length (r ∷ rs)
    by true again = refl
    by false again = omega arith

pub every_first : (q p : Room → Bool) (x : Room) → q x ≡ true → (rooms : List Room) → every? q rooms ≡ true → every? q (in_first p x rooms) ≡ true
every_first q p x is [] h = refl
every_first q p x is (r ∷ rs) h = by (p r) (every_first q p x is rs (facts.right (q r) _ h))
  where
    by : (b : Bool) → every? q (in_first p x rs) ≡ true → every? q (cond b (x ∷ rs) (r ∷ in_first p x rs)) ≡ true
    by true again = facts.and _ _ is (facts.right (q r) _ h)
    by false again = facts.and _ _ (facts.left (q r) _ h) again

-- ---- the rooms of a call freed

pub count_freed : (q : Room → Bool) (c : ℕ) → q free_room ≡ false → (rooms : List Room)
    → count q (all_freed c rooms) + count (λ r. q r && of_call c r) rooms ≡ count q rooms
unfolding freed
count_freed q c f [] = refl
count_freed q c f (r ∷ rs) = by (of_call c r) (q r) refl (count_freed q c f rs)
  where
    by : (o k : Bool) → q r ≡ k → count q (all_freed c rs) + count (λ s. q s && of_call c s) rs ≡ count q rs
        → cond (q (cond o free_room r)) 1 0 + count q (all_freed c rs) + (cond (k && o) 1 0 + count (λ s. q s && of_call c s) rs) ≡ cond k 1 0 + count q rs
    by true true e again = rw f (omega arith)
    by true false e again = rw f (omega arith)
    by false true e again = rw e (omega arith)
    by false false e again = rw e (omega arith)

pub length-freed : (c : ℕ) (rooms : List Room) → length (all_freed c rooms) ≡ length rooms
length-freed c [] = refl
length-freed c (r ∷ rs) = let z = length-freed c rs in omega arith

pub every_freed : (q : Room → Bool) (c : ℕ) → q free_room ≡ true → (rooms : List Room) → every? q rooms ≡ true → every? q (all_freed c rooms) ≡ true
unfolding freed
every_freed q c f [] h = refl
every_freed q c f (r ∷ rs) h = facts.and _ _ (by (of_call c r)) (every_freed q c f rs (facts.right (q r) _ h))
  where
    by : (o : Bool) → q (cond o free_room r) ≡ true
    by true = f
    by false = facts.left (q r) _ h

-- ---- what holds of a room

pub free_no_number : (n : ℕ) (r : Room) → is_free r ≡ true → has_number n r ≡ false
unfolding has_number
free_no_number n r e = rw e

pub number_held : (n : ℕ) (r : Room) → has_number n r ≡ true → is_free r ≡ false
unfolding has_number
number_held n r h = facts.is_not _ (facts.left _ _ h)

pub number_is : (n : ℕ) (r : Room) → has_number n r ≡ true → r.number ≡ n
unfolding has_number
number_is n r h = eqb-true _ _ (facts.right (not (is_free r)) _ h)

pub has_own : (n : ℕ) (r : Room) → is_free r ≡ false → has_number n r ≡ eqb r.number n
unfolding has_number
has_own n r e = rw e

pub waits_number : (n m : ℕ) (w : Wait) (r : Room) → waits_for n w r ≡ true → has_number m r ≡ eqb n m
unfolding waits_for
waits_number n m w r h =
    let k = facts.left (has_number n r) _ h in
    has_own m r (number_held n r k) ∙ ap (λ (z : ℕ). eqb z m) (number_is n r k)

pub call_held : (c : ℕ) (r : Room) → of_call c r ≡ true → is_free r ≡ false
unfolding of_call
call_held c r h = facts.is_not _ (facts.left _ _ h)

-- ---- sound rooms

alone : (n : ℕ) (r : Room) (rooms : List Room) → every? (apart_from r) rooms ≡ true → has_number n r ≡ true → count (has_number n) rooms ≡ 0
unfolding apart_from
alone n r [] h k = refl
alone n r (s ∷ ss) h k =
    let not_s : not (has_number r.number s) ≡ true = facts.second (is_free r) _ (facts.left (is_free r || not (has_number r.number s)) _ h) (number_held n r k) in
    let s_not : has_number n s ≡ false = ap (λ (z : ℕ). has_number z s) (sym (number_is n r k)) ∙ facts.is_not _ not_s in
    let z = alone n r ss (facts.right (is_free r || not (has_number r.number s)) _ h) k in
    rw s_not (omega (arith, z))

pub apart_count : (rooms : List Room) → apart rooms ≡ true → (n : ℕ) → count (has_number n) rooms ≤ 1
apart_count [] h n = omega arith
apart_count (r ∷ rs) h n = by (has_number n r) (alone n r rs (facts.left (every? (apart_from r) rs) _ h)) (apart_count rs (facts.right (every? (apart_from r) rs) _ h) n)
  where
    by : (b : Bool) → (b ≡ true → count (has_number n) rs ≡ 0) → count (has_number n) rs ≤ 1 → cond b 1 0 + count (has_number n) rs ≤ 1
    by true none le = let z = none refl in omega arith
    by false none le = omega arith

all_apart : (r : Room) (rooms : List Room) → (is_free r ≡ false → count (has_number r.number) rooms ≡ 0) → every? (apart_from r) rooms ≡ true
unfolding apart_from
all_apart r [] h = refl
all_apart r (s ∷ ss) h = by (is_free r) (has_number r.number s) refl h (all_apart r ss)
  where
    by : (f b : Bool) → is_free r ≡ f → (f ≡ false → cond b 1 0 + count (has_number r.number) ss ≡ 0) → ((is_free r ≡ false → count (has_number r.number) ss ≡ 0) → every? (apart_from r) ss ≡ true)
        → (f || not b) && every? (apart_from r) ss ≡ true
    by true b e k again = again (λ n. facts.apart e n)
    by false true e k again = let z = k refl in absurd (omega arith)
    by false false e k again = again (λ n. let z = k refl in omega arith)

pub count_apart : (rooms : List Room) → ((n : ℕ) → count (has_number n) rooms ≤ 1) → apart rooms ≡ true
count_apart [] h = refl
count_apart (r ∷ rs) h =
    facts.and _ _
    (all_apart r rs (λ e. let own : has_number r.number r ≡ true = has_own r.number r e ∙ eq-eqb r.number r.number refl in let z = rw own at (h r.number) in omega (arith, z)))
    (count_apart rs (λ n. let z = h n in omega (arith, z)))

pub record Sound (rooms : List Room) : Type 0 where
  pub four : length rooms ≡ 4
  pub fit : every? room_fits rooms ≡ true
  pub once : (n : ℕ) → count (has_number n) rooms ≤ 1

pub sound_of : (rooms : List Room) → rooms_sound rooms ≡ true → Sound rooms
unfolding rooms_sound
sound_of rooms h =
    let k = facts.right (eqb (length rooms) 4) _ h in
    record { four = eqb-true (length rooms) 4 (facts.left (eqb (length rooms) 4) _ h); fit = facts.left (every? room_fits rooms) _ k; once = apart_count rooms (facts.right (every? room_fits rooms) _ k) }

pub sound_is : (rooms : List Room) → Sound rooms → rooms_sound rooms ≡ true
unfolding rooms_sound
sound_is rooms s = facts.and _ _ (eq-eqb (length rooms) 4 s.four) (facts.and _ _ s.fit (count_apart rooms s.once))
