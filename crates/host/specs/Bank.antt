-- A bank of timers as a host's 39 bytes: the last reading u32, the deadlines u32 of the timers 301 302 303 306 308 310 311, and whether each
-- runs; little-endian. What its entries return, and what they leave. A result is answer * 2^24 + count.
use Rattle.std.specs.Prelude.{ℕ, ◌+◌, ◌*◌, Bool, false, cond, ◌&&◌, List, [], ◌∷◌, ◌++◌, leb, eqb, length, get_or}
use Rattle.std.proofs.Math.Option.{Option, none, some}
use Rattle.std.proofs.lemmas.List.Edits.{sets}
use Rattle.records.specs.Bytes.{number, bytes}
use Rattle.timers.specs.declared.bank.Bank.{Bank}
use Rattle.timers.specs.Bank.{Outcome, new_bank}
use Rattle.host.specs.Packing.{flag}
use Rattle.host.specs.Entries.{ANSWER}

unfoldable pub flags : List Bool → List ℕ
flags running =
    flag (get_or running 0 false) ∷ flag (get_or running 1 false) ∷ flag (get_or running 2 false) ∷ flag (get_or running 3 false)
    ∷ flag (get_or running 4 false) ∷ flag (get_or running 5 false) ∷ flag (get_or running 6 false) ∷ []

unfoldable pub packed_bank : Bank → List ℕ
packed_bank b =
    bytes 4 b.last ++ (bytes 4 (get_or b.deadlines 0 0)
    ++ (bytes 4 (get_or b.deadlines 1 0)
    ++ (bytes 4 (get_or b.deadlines 2 0)
    ++ (bytes 4 (get_or b.deadlines 3 0)
    ++ (bytes 4 (get_or b.deadlines 4 0)
    ++ (bytes 4 (get_or b.deadlines 5 0) ++ (bytes 4 (get_or b.deadlines 6 0) ++ flags b.running)))))))

-- the bytes are a bank: 39 of them, with flags up to 1
unfoldable pub is_bank : List ℕ → Bool
is_bank s =
    eqb (length s) 39 && leb (get_or s 32 0) 1 && leb (get_or s 33 0) 1 && leb (get_or s 34 0) 1 && leb (get_or s 35 0) 1 && leb (get_or s 36 0) 1
    && leb (get_or s 37 0) 1 && leb (get_or s 38 0) 1

-- the bank that some bytes hold
unfoldable pub held_bank : List ℕ → Bank
held_bank s =
    record {
      last = number 4 s 0;
      deadlines =
          number 4 s 4 ∷ number 4 s 8 ∷ number 4 s 12 ∷ number 4 s 16 ∷ number 4 s 20 ∷ number 4 s 24 ∷ number 4 s 28 ∷ [];
      running =
          eqb (get_or s 32 0) 1 ∷ eqb (get_or s 33 0) 1 ∷ eqb (get_or s 34 0) 1 ∷ eqb (get_or s 35 0) 1 ∷ eqb (get_or s 36 0) 1 ∷ eqb (get_or s 37 0) 1
          ∷ eqb (get_or s 38 0) 1 ∷ [];
    }

unfoldable pub unpacked_bank : List ℕ → Option Bank
unpacked_bank s = cond (is_bank s) (some (held_bank s)) none

abbrev pub bank_word : ℕ → ℕ → ℕ
bank_word answer count = answer * ANSWER + count

-- what an entry leaves: the result, the bank's bytes and the lent list, which is none but for a reading
pub record BankLeft : Type 0 where
  pub result : ℕ
  pub bank : List ℕ
  pub list : List ℕ

-- a new bank into 39 bytes; 1 for another length
unfoldable pub bank_made : List ℕ → ℕ → BankLeft
bank_made s reading =
    cond (eqb (length s) 39) (record { result = bank_word 0 39; bank = sets s 0 (packed_bank (new_bank reading)); list = [] })
    (record { result = bank_word 1 0; bank = s; list = [] })

-- a call on the bank: a refused one leaves the bytes
abbrev pub left_by : List ℕ → Outcome → BankLeft
left_by s o =
    record
    { result = bank_word o.answer o.count; bank = cond (eqb o.answer 0) (sets s 0 (packed_bank o.bank)) s; list = o.list }

-- bytes that are no bank are answer 1, before all others
abbrev pub asked : List ℕ → List ℕ → (Bank → Outcome) → Option Bank → BankLeft
asked s list call none = record { result = bank_word 1 0; bank = s; list = list }
asked s list call (some b) = left_by s (call b)

unfoldable pub on_bank : List ℕ → List ℕ → (Bank → Outcome) → BankLeft
on_bank s list call = asked s list call (unpacked_bank s)
