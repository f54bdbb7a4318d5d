-- Readings of a 32-bit counter: the way from one to another, and whether it leads back.
use Rattle.std.specs.Prelude.{ℕ, ◌+◌, ◌-◌, ◌%◌, Bool, cond, ℤ, pos, negsuc, int_lt, nat_lt}

-- what the counter shows at a true time
abbrev pub shown : ℕ → ℕ
shown time = time % 4294967296

-- the wrapped difference
unfoldable pub forward : ℕ → ℕ → ℕ
forward from to = (to + (4294967296 - from)) % 4294967296

-- the signed number of the same 32 bits
unfoldable pub signed : ℕ → ℤ
signed d = cond (nat_lt d 2147483648) (pos d) (negsuc (4294967295 - d))

-- the sign of a wrapped difference
unfoldable pub is_back : ℕ → Bool
is_back d = int_lt (signed d) (pos 0)
