-- What holds of the packed record; the proofs are in proofs/Packing. That the entries' promises leave no choice is said of their own contracts, in proofs/Determined.
use Rattle.std.specs.Prelude.{ℕ, ◌<◌, ◌^◌, ◌≡◌, true, List, length, get_or}
use Rattle.std.proofs.Math.Option.{some}
use Rattle.callcontrol.specs.declared.call.Call.{Call}
use Rattle.callcontrol.specs.Call.{sound}
use Rattle.host.specs.Packing.{packed, is_record, held, unpacked}

-- the numbers of more than one byte fit their places, and there are seven timers
pub record Fitting (c : Call) : Type 0 where
  pub id : c.id < 2 ^ 16
  pub address : c.address < 2 ^ 32
  pub timers : length c.timers ≡ 7

-- what is packed is unpacked as the same record
abbrev pub PackedIsUnpacked : Type 0
PackedIsUnpacked = (c : Call) → Fitting c → unpacked (packed c) ≡ some c

abbrev pub SoundIsUnpacked : Type 0
SoundIsUnpacked = (c : Call) → sound c ≡ true → length c.timers ≡ 7 → unpacked (packed c) ≡ some c

-- what is unpacked is packed as the same bytes
abbrev pub HeldIsPacked : Type 0
HeldIsPacked = (s : List ℕ) → ((i : ℕ) → get_or s i 0 < 256) → is_record s ≡ true → packed (held s) ≡ s
