-- Numbers as bytes, the lowest first.
use Rattle.std.specs.Prelude.{ℕ, zero, suc, ◌+◌, ◌*◌, ◌/◌, ◌%◌, List, [], ◌∷◌, get_or}

-- the number that `wide` bytes from position `at` on stand for
unfoldable pub number : ℕ → List ℕ → ℕ → ℕ
number zero s at = 0
number (suc wide) s at = get_or s at 0 + 256 * number wide s (suc at)

-- a number as `wide` bytes
unfoldable pub bytes : ℕ → ℕ → List ℕ
bytes zero v = []
bytes (suc wide) v = v % 256 ∷ bytes wide (v / 256)
