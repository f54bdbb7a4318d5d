-- The questions of a number that were taken are as many as its answers, and one more while it waits: turn by turn.
use Prim.Native.Nat.{ℕ, ◌+◌, ◌<◌}
use mathlib.Core.Path.{◌≡◌, refl, ◌∙◌, ap}
use mathlib.Core.Bool.{Bool, true, false, cond, ◌&&◌}
use mathlib.Core.List.{List, [], ◌∷◌, append-nil}
use native.Mathlib.Omega.{arith}
use borrow.Author.Tests.{ne_eqb}
use lib.Dec.{eqb}
use lib.ListN.{length, length-append}
use Rattle.records.specs.declared.messages.Message.{Message}
use Rattle.channel.specs.declared.rooms.Wait.{Wait}
use Rattle.channel.specs.declared.rooms.Room.{Room}
use Rattle.channel.specs.Rooms.{fresh_rooms, is_free, has_number, of_call, every?, count}
use Rattle.channel.specs.Questions.{Reply, Asked, Decision, asked_of, decision_of, first_out, rejects_in}
use Rattle.channel.specs.Runs.{Turn, question, decision, end, outcome, next, run, Given, verdicts_on, verdicts, verdicts_in, asks, asked, Handed, AllHanded}
use Rattle.channel.specs.Demands.{Once}
use Rattle.channel.proofs.Counting.{count_freed, Sound, sound_is}
use Rattle.channel.proofs.Turns.{Wrote, Went, stays, answers, waits, decides, ends, went}
use Rattle.channel.proofs.Reading.{one_answer, no_answer, rejected, times, length-times, rejects_on, small, verdicts_wrote, verdicts_stays}
use Rattle.channel.proofs.Kept.{somebody, count_taken, count_answered, no_number, next_stays, next_sound, next_small, fresh_sound}

-- a verdict is 0, 1 or 2

at_once : (a b c d e f g h : Bool) (v : ℕ) →
    cond a (Asked.Is (Reply.Now 0))
    (cond b (Asked.Is (Reply.Now 1))
    (cond c (Asked.Is (Reply.Waits Wait.User))
    (cond d (Asked.Is (Reply.Waits Wait.Cancel))
    (cond e (Asked.Is Reply.Open)
    (cond f (Asked.Is (Reply.Now 0))
    (cond g (Asked.Is (Reply.Now 2)) (cond h (Asked.Is (Reply.Now 1)) Asked.Unknown)))))))
    ≡ Asked.Is (Reply.Now v) → v < 3
at_once true b c d e f g h v q = let z : 0 ≡ v = cc in omega (arith, z)
at_once false true c d e f g h v q = let z : 1 ≡ v = cc in omega (arith, z)
at_once false false true d e f g h v q = absurd (let z : ◌≡◌ {A = ℕ} 0 1 = cc in omega arith)
at_once false false false true e f g h v q = absurd (let z : ◌≡◌ {A = ℕ} 0 1 = cc in omega arith)
at_once false false false false true f g h v q = absurd (let z : ◌≡◌ {A = ℕ} 0 1 = cc in omega arith)
at_once false false false false false true g h v q = let z : 0 ≡ v = cc in omega (arith, z)
at_once false false false false false false true h v q = let z : 2 ≡ v = cc in omega (arith, z)
at_once false false false false false false false true v q = let z : 1 ≡ v = cc in omega (arith, z)
at_once false false false false false false false false v q = absurd (let z : ◌≡◌ {A = ℕ} 0 1 = cc in omega arith)

pub asked_verdict : (a v : ℕ) → asked_of a ≡ Asked.Is (Reply.Now v) → v < 3
unfolding asked_of
asked_verdict a v e = at_once (eqb a 0) (eqb a 1) (eqb a 2) (eqb a 3) (eqb a 4) (eqb a 5) (eqb a 6) (eqb a 7) v e

given_then : (a b c d e : Bool) (w : Wait) (v : ℕ) →
    cond a (Decision.Gives Wait.User 0)
    (cond b (Decision.Gives Wait.User 1)
    (cond c (Decision.Gives Wait.User 1) (cond d (Decision.Gives Wait.Cancel 0) (cond e (Decision.Gives Wait.Cancel 2) Decision.Unknown))))
    ≡ Decision.Gives w v → v < 3
given_then true b c d e w v q = let z : 0 ≡ v = cc in omega (arith, z)
given_then false true c d e w v q = let z : 1 ≡ v = cc in omega (arith, z)
given_then false false true d e w v q = let z : 1 ≡ v = cc in omega (arith, z)
given_then false false false true e w v q = let z : 0 ≡ v = cc in omega (arith, z)
given_then false false false false true w v q = let z : 2 ≡ v = cc in omega (arith, z)
given_then false false false false false w v q = absurd (let z : ◌≡◌ {A = ℕ} 0 1 = cc in omega arith)

pub decided_verdict : (d : ℕ) (w : Wait) (v : ℕ) → decision_of d ≡ Decision.Gives w v → v < 3
unfolding decision_of
decided_verdict d w v e = given_then (eqb d 0) (eqb d 1) (eqb d 2) (eqb d 3) (eqb d 4) w v e

-- the verdicts of a turn that wrote one answer, none, or those of an end

pub one_verdict : (n m v : ℕ) → m < 65536 → v < 3 → {rooms after : List Room} {t : Turn} → Wrote rooms t after (Message.ChannelAnswer m v ∷ [])
    → verdicts n rooms t ≡ cond (eqb m n) (v ∷ []) []
one_verdict n m v h g w =
    verdicts_wrote n w ∙ ap (λ (gs : List Given). verdicts_on n gs) (one_answer m v h (omega arith)) ∙ append-nil (cond (eqb m n) (v ∷ []) [])

pub no_verdict : (n : ℕ) (u : Wait) → {rooms after : List Room} {t : Turn} → Wrote rooms t after (first_out u) → verdicts n rooms t ≡ []
no_verdict n u w = verdicts_wrote n w ∙ ap (λ (gs : List Given). verdicts_on n gs) (no_answer u)

pub end_verdicts : (n c : ℕ) {rooms after : List Room} {t : Turn} → every? small rooms ≡ true → Wrote rooms t after (rejects_in c rooms)
    → verdicts n rooms t ≡ times (count (λ r. has_number n r && of_call c r) rooms)
end_verdicts n c {rooms} h w = verdicts_wrote n w ∙ ap (λ (gs : List Given). verdicts_on n gs) (rejected c rooms h) ∙ rejects_on n c rooms

-- one turn
module _ (rooms : List Room) (s : Sound rooms) (h : every? small rooms ≡ true) (n : ℕ) where
  abbrev Balance : Turn → Type 0
  Balance t = cond (asks n t && eqb (outcome rooms t).answer 0) 1 0 + count (has_number n) rooms ≡ length (verdicts n rooms t) + count (has_number n) (next rooms t)

  refused_balance : (b : Bool) → cond (b && false) 1 0 + count (has_number n) rooms ≡ 0 + count (has_number n) rooms
  refused_balance true = refl
  refused_balance false = refl

  answered_balance : (b : Bool) (v : ℕ) → cond (b && true) 1 0 + count (has_number n) rooms ≡ length (cond b (v ∷ []) []) + count (has_number n) rooms
  answered_balance true v = refl
  answered_balance false v = refl

  waiting_balance : (b : Bool) → cond (b && true) 1 0 + count (has_number n) rooms ≡ 0 + (cond b 1 0 + count (has_number n) rooms)
  waiting_balance true = omega arith
  waiting_balance false = omega arith

  decided_balance : (b : Bool) (v k : ℕ) → k + cond b 1 0 ≡ count (has_number n) rooms → 0 + count (has_number n) rooms ≡ length (cond b (v ∷ []) []) + k
  decided_balance true v k e = omega arith
  decided_balance false v k e = omega arith

  by_went : (t : Turn) → Handed t → Went rooms t → Balance t
  by_went t g (stays k not short e) = rw (next_stays rooms t _ e, verdicts_stays rooms t n k e, e, ne_eqb k 0 not) (refused_balance (asks n t))
  by_went (question m c a b) g (answers v e none w) =
      rw (next_stays rooms (question m c a b) _ w.is, one_verdict n m v g (asked_verdict a v e) w, w.is) (answered_balance (eqb m n) v)
  by_went (question m c a b) g (waits u e none f le w) =
      rw (next_stays rooms (question m c a b) _ w.is, no_verdict n u w, w.is, count_taken u m c n rooms (somebody a u e) f) (waiting_balance (eqb m n))
  by_went (decision m d b) g (decides u v e f w) =
      rw (next_stays rooms (decision m d b) _ w.is, one_verdict n m v g (decided_verdict d u v e) w) (decided_balance (eqb m n) v _ (count_answered u m n rooms f))
  by_went (end c b) g (ends le w) =
      rw (next_stays rooms (end c b) _ w.is, end_verdicts n c h w, length-times)
      (let z = count_freed (has_number n) c (no_number n) rooms in omega (arith, z))

  balance : (t : Turn) → Handed t → Balance t
  balance t g = by_went t g (went rooms (sound_is rooms s) t)

-- some turns
balanced : (rooms : List Room) (ts : List Turn) (n : ℕ) → Sound rooms → every? small rooms ≡ true → AllHanded ts
    → asked n rooms ts + count (has_number n) rooms ≡ length (verdicts_in n rooms ts) + count (has_number n) (run rooms ts)
unfolding asked verdicts_in run
balanced rooms [] n s h g = omega arith
balanced rooms (t ∷ ts) n s h g =
    let one = balance rooms s h n t g.0 in
    let rest = balanced (next rooms t) ts n (next_sound rooms s t) (next_small rooms s h t g.0) g.1 in
    rw length-append (omega (arith, one, rest))

fresh_none : (n : ℕ) → count (has_number n) fresh_rooms ≡ 0
unfolding has_number is_free
fresh_none n = refl

pub once : Once
once ts n g = let z = balanced fresh_rooms ts n fresh_sound refl g in let y = fresh_none n in omega (arith, z, y)
