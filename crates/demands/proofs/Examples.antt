-- Every starred example of the paper holds of the definitions, and the one that counts 32 bytes shows that no smaller buffer is always enough; nor is one of
-- less than 52 for every sound record.
use mathlib.Core.Path.{refl}
use Rattle.demands.specs.Examples.{Starred}
use Rattle.demands.specs.Demands.{Writes32, Writes52}
use Rattle.demands.proofs.Computed.{computed}

pub starred : Starred
unfolding computed
starred = refl

pub writes_32 : Writes32
unfolding computed
writes_32 = refl

pub writes_52 : Writes52
unfolding computed
writes_52 = (record { size = refl; meets = refl }, refl)
