-- Every turn leaves sound rooms sound, and numbers of two bytes.
use Prim.Native.Nat.{ℕ, ◌+◌, ◌≤◌}
use mathlib.Core.Path.{◌≡◌, refl, ◌∙◌, ap}
use mathlib.Core.Bool.{Bool, true, false, cond}
use mathlib.Core.List.{List, [], ◌∷◌}
use native.Mathlib.Omega.{arith}
use borrow.Author.Tests.{eqb-true, le-leb, lt-ltb}
use lib.Dec.{eqb}
use Rattle.channel.specs.declared.rooms.Wait.{Wait}
use Rattle.channel.specs.declared.rooms.Room.{Room}
use Rattle.channel.specs.Rooms.{wait_number, free_room, fresh_rooms, is_free, has_number, waits_for, room_fits, apart_from, some?, every?, rooms_sound, in_first, count}
use Rattle.channel.specs.Questions.{Reply, Asked, Outcome, asked_of}
use Rattle.channel.specs.Runs.{Turn, question, decision, end, outcome, next, run, Handed, AllHanded}
use Rattle.channel.proofs.Counting.{none_count, count_first, length-first, every_first, count_freed, length-freed, every_freed, free_no_number, waits_number, Sound, sound_of, sound_is}
use Rattle.channel.proofs.Turns.{room_for, Went, stays, answers, waits, decides, ends, went}
use Rattle.channel.proofs.Reading.{small}

-- no question waits for nobody
nobody : (a b c d e f g h : Bool) →
    cond a (Asked.Is (Reply.Now 0))
    (cond b (Asked.Is (Reply.Now 1))
    (cond c (Asked.Is (Reply.Waits Wait.User))
    (cond d (Asked.Is (Reply.Waits Wait.Cancel))
    (cond e (Asked.Is Reply.Open)
    (cond f (Asked.Is (Reply.Now 0))
    (cond g (Asked.Is (Reply.Now 2)) (cond h (Asked.Is (Reply.Now 1)) Asked.Unknown)))))))
    ≡ Asked.Is (Reply.Waits Wait.Nobody) → ◌≡◌ {A = ℕ} 0 1
nobody true b c d e f g h q = cc
nobody false true c d e f g h q = cc
nobody false false true d e f g h q = cc
nobody false false false true e f g h q = cc
nobody false false false false true f g h q = cc
nobody false false false false false true g h q = cc
nobody false false false false false false true h q = cc
nobody false false false false false false false true q = cc
nobody false false false false false false false false q = cc

pub somebody : (a : ℕ) (w : Wait) → asked_of a ≡ Asked.Is (Reply.Waits w) → eqb (wait_number w) 0 ≡ false
unfolding asked_of
somebody a Wait.Nobody e =
    absurd (let z = nobody (eqb a 0) (eqb a 1) (eqb a 2) (eqb a 3) (eqb a 4) (eqb a 5) (eqb a 6) (eqb a 7) e in omega (arith, z))
somebody a Wait.User e = refl
somebody a Wait.Cancel e = refl

-- a room that is taken has its question's number, and fits
pub room_held : (w : Wait) (n c : ℕ) → eqb (wait_number w) 0 ≡ false → is_free (room_for w n c) ≡ false
unfolding is_free
room_held w n c e = e

pub room_number : (w : Wait) (n c m : ℕ) → eqb (wait_number w) 0 ≡ false → has_number m (room_for w n c) ≡ eqb n m
unfolding has_number
room_number w n c m e = rw (room_held w n c e)

room_fits_lem : (w : Wait) (n c : ℕ) → eqb (wait_number w) 0 ≡ false → c ≤ 16383 → room_fits (room_for w n c) ≡ true
unfolding room_fits
room_fits_lem w n c e le = rw (room_held w n c e) (le-leb _ _ le)

-- the counts of a number, when a room is taken, answered, or freed

pub count_taken : (w : Wait) (n c m : ℕ) (rooms : List Room) → eqb (wait_number w) 0 ≡ false → some? is_free rooms ≡ true
    → count (has_number m) (in_first is_free (room_for w n c) rooms) ≡ cond (eqb n m) 1 0 + count (has_number m) rooms
count_taken w n c m rooms e f =
    let z = count_first is_free (has_number m) false (free_no_number m) (room_for w n c) rooms f in
    let y = rw (room_number w n c m e) at z in
    omega (arith, y)

pub no_number : (n : ℕ) → has_number n free_room ≡ false
unfolding has_number is_free
no_number n = refl

pub count_answered : (w : Wait) (n m : ℕ) (rooms : List Room) → some? (waits_for n w) rooms ≡ true
    → count (has_number m) (in_first (waits_for n w) free_room rooms) + cond (eqb n m) 1 0 ≡ count (has_number m) rooms
count_answered w n m rooms f =
    let z = count_first (waits_for n w) (has_number m) (eqb n m) (waits_number n m w) free_room rooms f in
    let y = rw (no_number m) at z in
    omega (arith, y)

none_or_one : (n m : ℕ) (rooms : List Room) → some? (has_number n) rooms ≡ false → count (has_number m) rooms ≤ 1 → cond (eqb n m) 1 0 + count (has_number m) rooms ≤ 1
none_or_one n m rooms none le = by (eqb n m) refl
  where
    by : (b : Bool) → eqb n m ≡ b → cond b 1 0 + count (has_number m) rooms ≤ 1
    by true e = let z = none_count (has_number n) rooms none in let y = rw (eqb-true n m e) at z in omega (arith, y)
    by false e = omega arith

fits_free : room_fits free_room ≡ true
unfolding room_fits is_free
fits_free = refl

-- the rooms that a turn gives back
pub next_stays : (rooms : List Room) (t : Turn) (o : Outcome) → outcome rooms t ≡ o → next rooms t ≡ o.rooms
unfolding next
next_stays rooms t o e = ap (λ (x : Outcome). x.rooms) e

module _ (rooms : List Room) (s : Sound rooms) where
  sound_went : (t : Turn) → Went rooms t → Sound (next rooms t)
  sound_went t (stays k not short e) = rw (next_stays rooms t _ e) s
  sound_went (question n c a b) (answers v e none w) = rw (next_stays rooms (question n c a b) _ w.is) s
  sound_went (question n c a b) (waits u e none f le w) =
      rw (next_stays rooms (question n c a b) _ w.is)
      (record {
        four = length-first is_free (room_for u n c) rooms ∙ s.four;
        fit = every_first room_fits is_free (room_for u n c) (room_fits_lem u n c (somebody a u e) le) rooms s.fit;
        once = λ m. rw (count_taken u n c m rooms (somebody a u e) f) (none_or_one n m rooms none (s.once m));
      })
  sound_went (decision n d b) (decides u v e f w) =
      rw (next_stays rooms (decision n d b) _ w.is)
      (record {
        four = length-first (waits_for n u) free_room rooms ∙ s.four;
        fit = every_first room_fits (waits_for n u) free_room fits_free rooms s.fit;
        once = λ m. let z = count_answered u n m rooms f in let y = s.once m in omega (arith, z, y);
      })
  sound_went (end c b) (ends le w) =
      rw (next_stays rooms (end c b) _ w.is)
      (record {
        four = length-freed c rooms ∙ s.four;
        fit = every_freed room_fits c fits_free rooms s.fit;
        once = λ m. let z = count_freed (has_number m) c (no_number m) rooms in let y = s.once m in omega (arith, z, y);
      })

  pub next_sound : (t : Turn) → Sound (next rooms t)
  next_sound t = sound_went t (went rooms (sound_is rooms s) t)

  small_went : every? small rooms ≡ true → (t : Turn) → Handed t → Went rooms t → every? small (next rooms t) ≡ true
  small_went h t g (stays k not short e) = rw (next_stays rooms t _ e) h
  small_went h (question n c a b) g (answers v e none w) = rw (next_stays rooms (question n c a b) _ w.is) h
  small_went h (question n c a b) g (waits u e none f le w) =
      rw (next_stays rooms (question n c a b) _ w.is) (every_first small is_free (room_for u n c) (lt-ltb _ _ g) rooms h)
  small_went h (decision n d b) g (decides u v e f w) =
      rw (next_stays rooms (decision n d b) _ w.is) (every_first small (waits_for n u) free_room refl rooms h)
  small_went h (end c b) g (ends le w) = rw (next_stays rooms (end c b) _ w.is) (every_freed small c refl rooms h)

  pub next_small : every? small rooms ≡ true → (t : Turn) → Handed t → every? small (next rooms t) ≡ true
  next_small h t g = small_went h t g (went rooms (sound_is rooms s) t)

-- so after any turns

pub run_sound : (rooms : List Room) (ts : List Turn) → Sound rooms → Sound (run rooms ts)
unfolding run
run_sound rooms [] s = s
run_sound rooms (t ∷ ts) s = run_sound (next rooms t) ts (next_sound rooms s t)

pub run_small : (rooms : List Room) (ts : List Turn) → Sound rooms → AllHanded ts → every? small rooms ≡ true → every? small (run rooms ts) ≡ true
unfolding run
run_small rooms [] s g h = h
run_small rooms (t ∷ ts) s g h = run_small (next rooms t) ts (next_sound rooms s t) g.1 (next_small rooms s h t g.0)

fresh_is_sound : rooms_sound fresh_rooms ≡ true
unfolding rooms_sound room_fits apart_from has_number is_free
fresh_is_sound = refl

pub fresh_sound : Sound fresh_rooms
fresh_sound = sound_of fresh_rooms fresh_is_sound

pub always : (ts : List Turn) → Sound (run fresh_rooms ts)
always ts = run_sound fresh_rooms ts fresh_sound

pub always_small : (ts : List Turn) → AllHanded ts → every? small (run fresh_rooms ts) ≡ true
always_small ts g = run_small fresh_rooms ts fresh_sound g refl
