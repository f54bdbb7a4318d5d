-- A run as a set makes it: callcontrol_bank_new once, then the bank's other entries again and again over the same 39 bytes. It is the run of
-- the bank that the bytes hold, so that what is proved in true time (timers' Claims) is said of what a set calls.
use Rattle.std.specs.Prelude.{ℕ, ◌≡◌, List, [], ◌∷◌, length}
use Rattle.timers.specs.Wrap.{shown}
use Rattle.timers.specs.Time.{Call, outcome, made, run}
use Rattle.timers.specs.Claims.{lent_by}
use Rattle.host.specs.Bank.{packed_bank, BankLeft, left_by, bank_made, on_bank}

-- one call of an entry, by the promise of each
abbrev pub as_called : List ℕ → Call → BankLeft
as_called s c = on_bank s (lent_by c) (λ b. outcome b c)

-- the bank's bytes after some calls
unfoldable pub bank_run : List ℕ → List Call → List ℕ
bank_run s [] = s
bank_run s (c ∷ cs) = bank_run (as_called s c).bank cs

-- from a new bank on, whatever stood in the 39 bytes
abbrev pub bank_after : List ℕ → ℕ → List Call → List ℕ
bank_after s time cs = bank_run (bank_made s (shown time)).bank cs

-- the bytes are those of the run's bank
abbrev pub BankRunIsPacked : Type 0
BankRunIsPacked =
    (s : List ℕ) (time : ℕ) (cs : List Call) → length s ≡ 39 → bank_after s time cs ≡ packed_bank (run (made time) cs).bank

-- one more call gives the result, the bytes and the list of the bank's own
abbrev pub CallIsTheBanks : Type 0
CallIsTheBanks =
    (s : List ℕ) (time : ℕ) (cs : List Call) (c : Call) →
    length s ≡ 39 →
    as_called (bank_after s time cs) c ≡ left_by (packed_bank (run (made time) cs).bank) (outcome (run (made time) cs).bank c)
