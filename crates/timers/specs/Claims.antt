-- What is claimed of the bank against true time, over every run of orders and readings from a new bank, as types. proofs/Claims.antt has a
-- proof of each.
use Rattle.std.specs.Prelude.{◌≡◌, ℕ, ◌+◌, ◌<◌, ◌≤◌, Bool, true, false, cond, ◌&&◌, ◌||◌, List, [], ◌∷◌, length, ◌==◌, nat_le, nat_lt, slice_index, slice_index_or}
use Rattle.std.proofs.Math.Option.{Option, none, some}
use Rattle.timers.specs.declared.bank.Bank.{Bank}
use Rattle.timers.specs.Wrap.{shown}
use Rattle.timers.specs.Due.{numbers}
use Rattle.timers.specs.Bank.{refusal, index_of, length_in}
use Rattle.timers.specs.Time.{Call, stop, start, reading, outcome, is_taken, handed_by, Times, is_due, Kept, made, next, run, InReach, AllInReach, occurs, accepted, handouts, NotOrdered}

-- the first of some times that is at or after another, as a list of one; of no time where there is none
abbrev pub first_from : ℕ → List ℕ → List ℕ
first_from deadline [] = []
first_from deadline (time ∷ times) = cond (nat_le deadline time) (time ∷ []) (first_from deadline times)

-- the request's sentence. A timer is started, a length after the last accepted reading; the calls after that neither stop it nor start it
-- anew. Then it is handed out at the first accepted reading at or after its deadline, once, and at no other
abbrev pub OnTime : Type 0
OnTime =
    (time : ℕ) (before : List Call) (table : List ℕ) (n code : ℕ) (later : List Call) →
    AllInReach (made time) before →
    is_taken (run (made time) before).bank (start table n code) ≡ true →
    AllInReach (next (run (made time) before) (start table n code)) later →
    NotOrdered n (next (run (made time) before) (start table n code)) later →
    handouts n (next (run (made time) before) (start table n code)) later
    ≡ first_from ((run (made time) before).times.last + length_in table n code) (accepted (next (run (made time) before) (start table n code)) later)

-- how many of the seven timers are due at a time
abbrev pub due_of : List ℕ → Times → ℕ → ℕ
due_of [] m time = 0
due_of (n ∷ ns) m time = cond (is_due time (m.until n)) 1 0 + due_of ns m time

-- a timer comes before another: its deadline is earlier, or the deadlines are equal and its number is lower
abbrev pub before? : ℕ → Option ℕ → ℕ → Option ℕ → Bool
before? k none n e = false
before? k (some d) n none = false
before? k (some d) n (some e) = nat_lt d e || (d == e && nat_lt k n)

abbrev pub before_all : Times → ℕ → List ℕ → Bool
before_all m k [] = true
before_all m k (n ∷ ns) = before? k (m.until k) n (m.until n) && before_all m k ns

abbrev pub in_order : Times → List ℕ → Bool
in_order m [] = true
in_order m (k ∷ ks) = before_all m k ks && in_order m ks

-- a reading is answered with 33 exactly when more timers are due than the list holds, and else accepted: never with 32. An accepted one
-- hands out each timer that is due, once, and no other, earliest deadline first, equal deadlines by rising number
pub record Answered (s : Kept) (time : ℕ) (list : List ℕ) : Type 0 where
  pub answer : (outcome s.bank (reading time list)).answer ≡ cond (nat_lt (length list) (due_of numbers s.times time)) 33 0
  pub once : is_taken s.bank (reading time list) ≡ true
      → (n : ℕ) → occurs n (handed_by s.bank (reading time list)) ≡ cond (is_due time (s.times.until n)) 1 0
  pub order : is_taken s.bank (reading time list) ≡ true → in_order s.times (handed_by s.bank (reading time list)) ≡ true

abbrev pub EveryReading : Type 0
EveryReading =
    (time : ℕ) (calls : List Call) (t : ℕ) (list : List ℕ) →
    AllInReach (made time) calls →
    InReach (run (made time) calls).times (reading t list) →
    Answered (run (made time) calls) t list

-- a refused call changes nothing, of any bank
abbrev pub lent_by : Call → List ℕ
lent_by (stop n) = []
lent_by (start table n code) = []
lent_by (reading time list) = list

abbrev pub Unchanged : Type 0
Unchanged = (b : Bank) (c : Call) → is_taken b c ≡ false → outcome b c ≡ refusal (outcome b c).answer b (lent_by c)

-- the invariant, stated once: the bank holds what the counter shows of the true times, and the deadline of a running timer lies after the
-- last reading, by at most 2^30 ms
abbrev pub Runs : ℕ → Bool → ℕ → Option ℕ → Type 0
Runs last running deadline none = running ≡ false
Runs last running deadline (some d) = (running ≡ true) × (deadline ≡ shown d) × (last < d) × (d ≤ last + 1073741824)

pub record Holds (s : Kept) : Type 0 where
  pub last : s.bank.last ≡ shown s.times.last
  pub timers : (index : ℕ) → index < 7
      → Runs s.times.last (slice_index_or s.bank.running index false) (slice_index s.bank.deadlines index) (s.times.until (slice_index numbers index))
  pub others : (n : ℕ) → 7 ≤ index_of n → s.times.until n ≡ none
  pub sevens : (length s.bank.running ≡ 7) × (length s.bank.deadlines ≡ 7)

abbrev pub EveryRun : Type 0
EveryRun = (time : ℕ) (calls : List Call) → AllInReach (made time) calls → Holds (run (made time) calls)
