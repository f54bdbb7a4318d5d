-- The bank of timers, on readings of a 32-bit counter: each call's answer, the next bank, and what is handed out.
use Rattle.std.specs.Prelude.{ℕ, ◌+◌, ◌%◌, Option, None, Some, Result, Ok, Err, true, false, cond, List, [], ◌∷◌, ◌++◌, length, drop, ◌==◌, nat_le, nat_lt, slice_index, slice_set}
use Rattle.timers.specs.declared.bank.Refusal.{Refusal}
use Rattle.timers.specs.declared.bank.Bank.{Bank}
use Rattle.timers.specs.declared.bank.Advanced.{Advanced}
use Rattle.timers.specs.Wrap.{forward, is_back}
use Rattle.timers.specs.Due.{keys_of, count_of, handed, staying}

-- the code's refusal as the paper's number
abbrev pub answer_number : Refusal → ℕ
answer_number Refusal.TimerUnknown = 30
answer_number Refusal.LengthOutOfRange = 31
answer_number Refusal.ReadingEarlier = 32
answer_number Refusal.ListShort = 33

-- what comes back of a call: the answer's number, the next bank, the number of timers handed out, and the lent list then
pub record Outcome : Type 0 where
  pub answer : ℕ
  pub bank : Bank
  pub count : ℕ
  pub list : List ℕ

-- a refusal hands out nothing and changes nothing
abbrev pub refusal : ℕ → Bank → List ℕ → Outcome
refusal n b list = record { answer = n; bank = b; count = 0; list = list }

-- STOP and START are lent no list
abbrev pub ordered : Bank → Outcome
ordered b = record { answer = 0; bank = b; count = 0; list = [] }

-- the code's result of a call on a bank
abbrev pub as_ordered : Bank → Result Bank Refusal → Outcome
as_ordered b (Ok next) = ordered next
as_ordered b (Err e) = refusal (answer_number e) b []

abbrev pub as_advanced : Bank → Result Advanced Refusal → List ℕ → Outcome
as_advanced b (Ok r) list = record { answer = 0; bank = r.bank; count = r.count; list = list }
as_advanced b (Err e) list = refusal (answer_number e) b list

-- made with a first reading: no timer runs
unfoldable pub new_bank : ℕ → Bank
new_bank reading =
    record {
      last = reading;
      deadlines = 0 ∷ 0 ∷ 0 ∷ 0 ∷ 0 ∷ 0 ∷ 0 ∷ [];
      running = false ∷ false ∷ false ∷ false ∷ false ∷ false ∷ false ∷ [];
    }

-- a timer's index of seven, by rising number; 7 for a number that no timer has
unfoldable pub index_of : ℕ → ℕ
index_of n =
    cond (n == 301) 0
    (cond (n == 302) 1
    (cond (n == 303) 2 (cond (n == 306) 3 (cond (n == 308) 4 (cond (n == 310) 5 (cond (n == 311) 6 7))))))

-- as the code gives it
abbrev pub index_given : ℕ → Option ℕ
index_given index = cond (nat_lt index 7) (Some index) None

-- its entry in the lent table: T301 T302 T303 T306 T308 T311, then T310's by code
unfoldable pub entry_of : ℕ → ℕ → ℕ
entry_of n code =
    cond (n == 301) 0
    (cond (n == 302) 1 (cond (n == 303) 2 (cond (n == 306) 3 (cond (n == 308) 4 (cond (n == 311) 5 (6 + code))))))

-- a length is 1 to 2^30; 0 stands for one that is out of range or missing
abbrev pub in_range : ℕ → ℕ
in_range length = cond (nat_le length 1073741824) length 0

unfoldable pub length_in : List ℕ → ℕ → ℕ → ℕ
length_in table n code = cond (nat_lt (entry_of n code) 22) (in_range (slice_index table (entry_of n code))) 0

-- as the code gives it
abbrev pub length_given : ℕ → Option ℕ
length_given length = cond (length == 0) None (Some length)

-- a timer stopped, and one started with a length from the last reading on
abbrev pub without : Bank → ℕ → Bank
without b index = record { last = b.last; deadlines = b.deadlines; running = slice_set b.running index false }

abbrev pub with : Bank → ℕ → ℕ → Bank
with b index length =
    record {
      last = b.last;
      deadlines = slice_set b.deadlines index ((b.last + length) % 4294967296);
      running = slice_set b.running index true;
    }

unfoldable pub stopped : Bank → ℕ → Outcome
stopped b n = cond (nat_lt (index_of n) 7) (ordered (without b (index_of n))) (refusal 30 b [])

unfoldable pub started : Bank → List ℕ → ℕ → ℕ → Outcome
started b table n code =
    cond (nat_lt (index_of n) 7)
    (cond (length_in table n code == 0) (refusal 31 b []) (ordered (with b (index_of n) (length_in table n code))))
    (refusal 30 b [])

-- the keys of the timers at a reading, and the bank after those due are handed out
unfoldable pub keys_at : Bank → ℕ → List ℕ
keys_at b reading = keys_of b.running b.deadlines reading

unfoldable pub advanced_to : Bank → ℕ → Bank
advanced_to b reading = record { last = reading; deadlines = b.deadlines; running = staying b.running (keys_at b reading) }

-- no wrapped difference is 2^32 or more, so every key is below 2^35
unfoldable pub handed_at : Bank → ℕ → List ℕ
handed_at b reading = handed (count_of (keys_at b reading)) 34359738368 (keys_at b reading)

unfoldable pub advanced : Bank → ℕ → List ℕ → Outcome
advanced b reading list =
    cond (is_back (forward b.last reading)) (refusal 32 b list)
    (cond (nat_lt (length list) (count_of (keys_at b reading))) (refusal 33 b list)
    (record {
      answer = 0;
      bank = advanced_to b reading;
      count = count_of (keys_at b reading);
      list = handed_at b reading ++ drop (count_of (keys_at b reading)) list;
    }))
