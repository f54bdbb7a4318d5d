-- What the lower layers read in the bytes of a turn is the answers that were written.
use Prim.Native.Nat.{ℕ, zero, suc, ◌+◌, ◌*◌, ◌%◌, ◌/◌, ◌≤◌, ◌<◌}
use mathlib.Core.Path.{◌≡◌, refl, sym, ◌∙◌, ap}
use mathlib.Core.Bool.{Bool, true, false, cond, ◌&&◌}
use mathlib.Core.List.{List, [], ◌∷◌, ◌++◌}
use native.Mathlib.Omega.{arith}
use borrow.Author.Tests.{le-ltb, ltb-true}
use lib.Dec.{eqb, ltb}
use lib.ListN.{length}
use Rattle.records.specs.declared.messages.Message.{Message}
use Rattle.records.specs.Bytes.{number, bytes}
use Rattle.records.specs.Bodies.{body_bytes, flat_size, flat_bytes}
use Rattle.records.specs.Messages.{message_bytes}
use Rattle.callcontrol.specs.Writing.{bytes_of}
use Rattle.demands.proofs.Facts as facts
use Rattle.demands.proofs.ReadsBack.{stored}
use Rattle.channel.proofs.Asking.{size_rejects_in}
use Rattle.channel.specs.declared.rooms.Wait.{Wait}
use Rattle.channel.specs.declared.rooms.Room.{Room}
use Rattle.channel.specs.Rooms.{has_number, of_call, every?, count}
use Rattle.channel.specs.Questions.{refusal, reject, first_out, rejects, rejects_in}
use Rattle.channel.specs.Runs.{Turn, lent_by, outcome, written_by, Given, answer_at, answers_within, answers_in, verdicts_on, verdicts}
use Rattle.channel.proofs.Counting.{has_own, call_held}
use Rattle.channel.proofs.Turns.{Wrote}

abbrev pub given : ℕ → ℕ → Given
given n v = record { number = n; verdict = v }

-- a record 0606 at the front
answer_in_front : (n v : ℕ) (rest : List ℕ) (k : ℕ) → n < 65536 → v < 256
    → answers_within (suc k) (message_bytes (Message.ChannelAnswer n v) ++ rest) ≡ given n v ∷ answers_within k rest
unfolding answers_within answer_at number message_bytes flat_bytes flat_size body_bytes bytes
answer_in_front n v rest k h g =
    let p : n % 256 + 256 * (n / 256 % 256 + 256 * 0) ≡ n = omega arith in
    let q : v % 256 + 256 * 0 ≡ v = omega arith in
    let long : ltb (suc (suc (suc (suc (suc (suc (suc (length rest)))))))) 4 ≡ false = le-ltb (suc (suc (suc (suc (suc (suc (suc (length rest)))))))) 4 (omega arith) in
    rw (long, p, q)

none_left : (k : ℕ) → answers_within k [] ≡ []
unfolding answers_within
none_left zero = refl
none_left (suc k) = refl

pub nothing : answers_in [] ≡ []
unfolding answers_in answers_within
nothing = refl

pub one_answer : (n v : ℕ) → n < 65536 → v < 256 → answers_in (bytes_of (Message.ChannelAnswer n v ∷ [])) ≡ given n v ∷ []
unfolding answers_in bytes_of message_bytes flat_bytes flat_size body_bytes bytes
one_answer n v h g = answer_in_front n v [] 6 h g ∙ ap (λ (gs : List Given). given n v ∷ gs) (none_left 6)

-- neither CANCEL nor no message is an answer
pub no_answer : (w : Wait) → answers_in (bytes_of (first_out w)) ≡ []
unfolding answers_in answers_within answer_at number bytes_of message_bytes flat_bytes flat_size body_bytes bytes
no_answer Wait.Nobody = refl
no_answer Wait.User = refl
no_answer Wait.Cancel = refl

-- ---- the answers of an end

abbrev pub rejected_in : ℕ → List Room → List Given
rejected_in c [] = []
rejected_in c (r ∷ rs) = cond (of_call c r) (given r.number reject ∷ []) [] ++ rejected_in c rs

abbrev pub small : Room → Bool
small r = ltb r.number 65536

rejected_within : (c : ℕ) (rooms : List Room) (k : ℕ) → every? small rooms ≡ true → count (of_call c) rooms ≤ k → answers_within k (bytes_of (rejects_in c rooms)) ≡ rejected_in c rooms
unfolding bytes_of rejects
rejected_within c [] k h le = none_left k
rejected_within c (r ∷ rs) k h le = by (of_call c r) k le (λ j. rejected_within c rs j (facts.right (small r) _ h))
  where
    by : (o : Bool) (k : ℕ) → cond o 1 0 + count (of_call c) rs ≤ k → ((j : ℕ) → count (of_call c) rs ≤ j → answers_within j (bytes_of (rejects_in c rs)) ≡ rejected_in c rs)
        → answers_within k (bytes_of (cond o (Message.ChannelAnswer r.number reject ∷ []) [] ++ rejects_in c rs)) ≡ cond o (given r.number reject ∷ []) [] ++ rejected_in c rs
    by true zero le again = absurd (omega arith)
    by true (suc k) le again =
        answer_in_front r.number reject (bytes_of (rejects_in c rs)) k (ltb-true _ _ (facts.left (small r) _ h)) (omega arith)
        ∙ ap (λ (gs : List Given). given r.number reject ∷ gs) (again k (omega arith))
    by false k le again = again k (omega arith)

pub rejected : (c : ℕ) (rooms : List Room) → every? small rooms ≡ true → answers_in (bytes_of (rejects_in c rooms)) ≡ rejected_in c rooms
unfolding answers_in
rejected c rooms h = rejected_within c rooms (length (bytes_of (rejects_in c rooms))) h (let z = size_rejects_in c rooms in omega arith)

-- so many rejects
abbrev pub times : ℕ → List ℕ
times zero = []
times (suc k) = reject ∷ times k

pub length-times : (k : ℕ) → length (times k) ≡ k
length-times zero = refl
length-times (suc k) = let z = length-times k in omega arith

pub rejects_on : (n c : ℕ) (rooms : List Room) → verdicts_on n (rejected_in c rooms) ≡ times (count (λ r. has_number n r && of_call c r) rooms)
rejects_on n c [] = refl
rejects_on n c (r ∷ rs) = by (of_call c r) (has_number n r) (λ e. has_own n r (call_held c r e)) (rejects_on n c rs)
  where
    both : (h e : Bool) → h ≡ e → verdicts_on n (rejected_in c rs) ≡ times (count (λ s. has_number n s && of_call c s) rs)
        → cond e (reject ∷ []) [] ++ verdicts_on n (rejected_in c rs) ≡ times (cond (h && true) 1 0 + count (λ s. has_number n s && of_call c s) rs)
    both true true q again = ap (λ (l : List ℕ). reject ∷ l) again ∙ ap times (let z : suc (count (λ s. has_number n s && of_call c s) rs) ≡ 1 + count (λ s. has_number n s && of_call c s) rs = omega arith in z)
    both true false q again = facts.apart refl q
    both false true q again = facts.apart refl (sym q)
    both false false q again = again ∙ ap times (let z : count (λ s. has_number n s && of_call c s) rs ≡ 0 + count (λ s. has_number n s && of_call c s) rs = omega arith in z)

    neither : (h : Bool) → verdicts_on n (rejected_in c rs) ≡ times (count (λ s. has_number n s && of_call c s) rs)
        → verdicts_on n (rejected_in c rs) ≡ times (cond (h && false) 1 0 + count (λ s. has_number n s && of_call c s) rs)
    neither true again = again ∙ ap times (let z : count (λ s. has_number n s && of_call c s) rs ≡ 0 + count (λ s. has_number n s && of_call c s) rs = omega arith in z)
    neither false again = again ∙ ap times (let z : count (λ s. has_number n s && of_call c s) rs ≡ 0 + count (λ s. has_number n s && of_call c s) rs = omega arith in z)

    by : (o h : Bool) → (o ≡ true → h ≡ eqb r.number n) → verdicts_on n (rejected_in c rs) ≡ times (count (λ s. has_number n s && of_call c s) rs)
        → verdicts_on n (cond o (given r.number reject ∷ []) [] ++ rejected_in c rs) ≡ times (cond (h && o) 1 0 + count (λ s. has_number n s && of_call c s) rs)
    by true h e again = both h (eqb r.number n) (e refl) again
    by false h e again = neither h again

-- ---- the verdicts of a turn

pub verdicts_wrote : {rooms after : List Room} {t : Turn} {ms : List Message} → (n : ℕ) → Wrote rooms t after ms → verdicts n rooms t ≡ verdicts_on n (answers_in (bytes_of ms))
unfolding verdicts written_by
verdicts_wrote {rooms} {after} {t} {ms} n w = rw (w.is, stored (bytes_of ms) (lent_by t) w.fits)

pub verdicts_stays : (rooms : List Room) (t : Turn) (n k : ℕ) → outcome rooms t ≡ refusal k rooms (lent_by t) → verdicts n rooms t ≡ []
unfolding verdicts written_by
verdicts_stays rooms t n k e = rw (e, nothing)
