-- What holds of a packed bank. The proofs are in proofs/BankPacking.
use Rattle.std.specs.Prelude.{ℕ, ◌<◌, ◌^◌, ◌≡◌, true, List, length, get_or}
use Rattle.std.proofs.Math.Option.{some}
use Rattle.timers.specs.declared.bank.Bank.{Bank}
use Rattle.host.specs.Bank.{packed_bank, is_bank, held_bank, unpacked_bank}

-- the numbers fit their bytes, and there are seven timers
pub record FittingBank (b : Bank) : Type 0 where
  pub last : b.last < 2 ^ 32
  pub deadlines : (i : ℕ) → get_or b.deadlines i 0 < 2 ^ 32
  pub sevens : (length b.deadlines ≡ 7) × (length b.running ≡ 7)

-- what is packed is unpacked as the same bank
abbrev pub PackedBankIsUnpacked : Type 0
PackedBankIsUnpacked = (b : Bank) → FittingBank b → unpacked_bank (packed_bank b) ≡ some b

-- what is unpacked is packed as the same bytes
abbrev pub HeldBankIsPacked : Type 0
HeldBankIsPacked = (s : List ℕ) → ((i : ℕ) → get_or s i 0 < 256) → is_bank s ≡ true → packed_bank (held_bank s) ≡ s
