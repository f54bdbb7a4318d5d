-- A bank in true time: a whole number of milliseconds, which never wraps. The counter shows it modulo 2^32, and the bank sees no more than
-- that. Beside the bank the definitions keep what the calls so far say of the timers in true time.
use Rattle.std.specs.Prelude.{◌≡◌, ℕ, ◌+◌, ◌<◌, ◌≤◌, Bool, false, cond, ◌&&◌, List, [], ◌∷◌, ◌++◌, take, replicate, ◌==◌, nat_le}
use Rattle.std.proofs.Math.Option.{Option, none, some}
use Rattle.timers.specs.declared.bank.Bank.{Bank}
use Rattle.timers.specs.Wrap.{shown}
use Rattle.timers.specs.Bank.{Outcome, new_bank, stopped, started, advanced, length_in}

-- one call on a bank: an order, or a reading at a true time with a list that is lent
pub data Call : Type 0 where
  stop : (timer : ℕ) → Call
  start : (table : List ℕ) (timer code : ℕ) → Call
  reading : (time : ℕ) (list : List ℕ) → Call

unfoldable pub outcome : Bank → Call → Outcome
outcome b (stop n) = stopped b n
outcome b (start table n code) = started b table n code
outcome b (reading time list) = advanced b (shown time) list

unfoldable pub is_taken : Bank → Call → Bool
is_taken b c = (outcome b c).answer == 0

-- the timers that a call hands out
unfoldable pub handed_by : Bank → Call → List ℕ
handed_by b c = take (outcome b c).count (outcome b c).list

-- the timers in true time: when the last reading was accepted, and until when each timer runs, by its number
pub record Times : Type 0 where
  pub last : ℕ
  pub until : ℕ → Option ℕ

abbrev pub is_due : ℕ → Option ℕ → Bool
is_due time none = false
is_due time (some deadline) = nat_le deadline time

-- what a taken call makes of them: a START counts from the last reading, and a timer that is due at a reading no longer runs
unfoldable pub noted : Times → Call → Times
noted m (stop n) = record { last = m.last; until = λ k. cond (k == n) none (m.until k) }
noted m (start table n code) =
    record { last = m.last; until = λ k. cond (k == n) (some (m.last + length_in table n code)) (m.until k) }
noted m (reading time list) = record { last = time; until = λ k. cond (is_due time (m.until k)) none (m.until k) }

-- a bank, and the timers in true time
pub record Kept : Type 0 where
  pub bank : Bank
  pub times : Times

unfoldable pub made : ℕ → Kept
made time = record { bank = new_bank (shown time); times = record { last = time; until = λ k. none } }

unfoldable pub next : Kept → Call → Kept
next s c = record { bank = (outcome s.bank c).bank; times = cond (is_taken s.bank c) (noted s.times c) s.times }

unfoldable pub run : Kept → List Call → Kept
run s [] = s
run s (c ∷ cs) = run (next s c) cs

-- the premise: every reading is at or after the last accepted one, and less than 2^31 ms after it
abbrev pub InReach : Times → Call → Type 0
InReach m (stop n) = Unit {0}
InReach m (start table n code) = Unit {0}
InReach m (reading time list) = (m.last ≤ time) × (time < m.last + 2147483648)

abbrev pub AllInReach : Kept → List Call → Type 0
AllInReach s [] = Unit {0}
AllInReach s (c ∷ cs) = InReach s.times c × AllInReach (next s c) cs

-- how often a timer stands in a list
abbrev pub occurs : ℕ → List ℕ → ℕ
occurs n [] = 0
occurs n (k ∷ ks) = cond (k == n) 1 0 + occurs n ks

-- the true times of the readings that some calls accept
abbrev pub accepted_by : Bank → Call → List ℕ
accepted_by b (stop n) = []
accepted_by b (start table n code) = []
accepted_by b (reading time list) = cond (is_taken b (reading time list)) (time ∷ []) []

unfoldable pub accepted : Kept → List Call → List ℕ
accepted s [] = []
accepted s (c ∷ cs) = accepted_by s.bank c ++ accepted (next s c) cs

-- the true times at which some calls hand a timer out: one for each time that it stands in a list handed out
abbrev pub hands_out : ℕ → Bank → Call → List ℕ
hands_out n b (stop k) = []
hands_out n b (start table k code) = []
hands_out n b (reading time list) = replicate (occurs n (handed_by b (reading time list))) time

unfoldable pub handouts : ℕ → Kept → List Call → List ℕ
handouts n s [] = []
handouts n s (c ∷ cs) = hands_out n s.bank c ++ handouts n (next s c) cs

-- no call stops a timer or starts it anew
abbrev pub orders_to : ℕ → Call → Bool
orders_to n (stop k) = n == k
orders_to n (start table k code) = n == k
orders_to n (reading time list) = false

abbrev pub NotOrdered : ℕ → Kept → List Call → Type 0
NotOrdered n s [] = Unit {0}
NotOrdered n s (c ∷ cs) = (orders_to n c && is_taken s.bank c ≡ false) × NotOrdered n (next s c) cs
