-- The timers of a set in true time: a whole number of milliseconds, which never wraps. What is kept here is read from the messages that are
-- written and the expiries that are made; it looks at no bank and at no record.
use Rattle.std.specs.Prelude.{ℕ, ◌+◌, ◌≤◌, ◌≡◌, Bool, false, cond, ◌||◌, List, [], ◌∷◌, eqb, leb}
use Rattle.std.proofs.Math.Option.{Option, none, some}
use Rattle.records.specs.declared.messages.Message.{Message}
use Rattle.records.specs.declared.messages.Message.TheVariants.{USetup, UConnect, UDisconnect, URelease, UInfo, UTxDemand, UTxCeased, UCallRestore, Stop, Start, Configure, Cancel, Place, ChannelAnswer, SetupIndication, SetupConfirm, Proceed, Alert, Complete, ReleaseIndication, ReleaseConfirm, TxIndication, ModifyIndication}
use Rattle.timers.specs.Bank.{length_in}

-- when a timer was started, and for how long
pub record Begun : Type 0 where
  pub at : ℕ
  pub long : ℕ

-- its deadline
abbrev pub end : Begun → ℕ
end x = x.at + x.long

-- the running timers, by their numbers
abbrev pub Clocks : Type 0
Clocks = ℕ → Option Begun

abbrev pub no_clock : Clocks
no_clock k = none

-- due at a time: it runs, and its deadline is at or before the time
abbrev pub is_due : ℕ → Option Begun → Bool
is_due time none = false
is_due time (some x) = leb (end x) time

-- a STOP or an expiry, and a START at a time with a table
abbrev pub dropped : ℕ → Clocks → Clocks
dropped n u = λ k. cond (eqb k n) none (u k)

abbrev pub begun : List ℕ → ℕ → ℕ → ℕ → Clocks → Clocks
begun table time n code u = λ k. cond (eqb k n) (some (record { at = time; long = length_in table n code })) (u k)

unfoldable pub noted : List ℕ → ℕ → Clocks → Message → Clocks
noted table time u (USetup a d q s) = u
noted table time u (UConnect i) = u
noted table time u (UDisconnect i c) = u
noted table time u (URelease i) = u
noted table time u (UInfo i d) = u
noted table time u (UTxDemand i) = u
noted table time u (UTxCeased i) = u
noted table time u (UCallRestore i a q) = u
noted table time u (Stop n) = dropped n u
noted table time u (Start n o) = begun table time n o u
noted table time u (Configure p) = u
noted table time u Cancel = u
noted table time u (Place at) = u
noted table time u (ChannelAnswer n v) = u
noted table time u (SetupIndication i a d) = u
noted table time u (SetupConfirm i g) = u
noted table time u Proceed = u
noted table time u Alert = u
noted table time u (Complete g) = u
noted table time u (ReleaseIndication c) = u
noted table time u ReleaseConfirm = u
noted table time u (TxIndication x) = u
noted table time u (ModifyIndication d s) = u

unfoldable pub noted_all : List ℕ → ℕ → Clocks → List Message → Clocks
noted_all table time u [] = u
noted_all table time u (m ∷ ms) = noted_all table time (noted table time u m) ms

-- whether a message is a STOP or a START of a timer, and whether one of some is
abbrev pub orders_to : ℕ → Message → Bool
orders_to n (USetup a d q s) = false
orders_to n (UConnect i) = false
orders_to n (UDisconnect i c) = false
orders_to n (URelease i) = false
orders_to n (UInfo i d) = false
orders_to n (UTxDemand i) = false
orders_to n (UTxCeased i) = false
orders_to n (UCallRestore i a q) = false
orders_to n (Stop k) = eqb n k
orders_to n (Start k o) = eqb n k
orders_to n (Configure p) = false
orders_to n Cancel = false
orders_to n (Place at) = false
orders_to n (ChannelAnswer k v) = false
orders_to n (SetupIndication i a d) = false
orders_to n (SetupConfirm i g) = false
orders_to n Proceed = false
orders_to n Alert = false
orders_to n (Complete g) = false
orders_to n (ReleaseIndication c) = false
orders_to n ReleaseConfirm = false
orders_to n (TxIndication x) = false
orders_to n (ModifyIndication d s) = false

abbrev pub ordered : ℕ → List Message → Bool
ordered n [] = false
ordered n (m ∷ ms) = orders_to n m || ordered n ms

-- the first of some times that is at or after another, as a list of one; of no time where there is none
abbrev pub first_from : ℕ → List ℕ → List ℕ
first_from deadline [] = []
first_from deadline (time ∷ times) = cond (leb deadline time) (time ∷ []) (first_from deadline times)

-- a timer comes before another: its deadline is earlier, or the deadlines are equal and its number is not higher
abbrev pub Before : (k d n e : ℕ) → Type 0
Before k d n e = (d ≤ e) × (d ≡ e → k ≤ n)

-- a timer is the first of those due at a time
pub record First (u : Clocks) (time k : ℕ) : Type 0 where
  pub clock : Begun
  pub runs : u k ≡ some clock
  pub due : end clock ≤ time
  pub before : (n : ℕ) (x : Begun) → u n ≡ some x → end x ≤ time → Before k (end clock) n (end x)
