-- The sign of a wrapped difference tells forward from back, where the true times are less than 2^31 apart.
use Rattle.std.proofs.Common.{◌≡◌, ℕ, ◌+◌, ◌-◌, ◌<◌, ◌≤◌, true, false, zero-le, arith, le-ltb, lt-ltb}
use Rattle.timers.specs.Wrap.{shown, forward, signed, is_back}

pub not_back : (d : ℕ) → d < 2147483648 → is_back d ≡ false
unfolding is_back signed
not_back d h = rw (lt-ltb d 2147483648 h) (le-ltb d 0 zero-le)

pub back : (d : ℕ) → 2147483648 ≤ d → is_back d ≡ true
unfolding is_back signed
back d h = rw (le-ltb d 2147483648 h)

-- forward, the wrapped difference is the true one
pub ahead : (from to : ℕ) → from ≤ to → to < from + 2147483648 → forward (shown from) (shown to) ≡ to - from
unfolding forward
ahead from to h k = omega arith

pub behind : (from to : ℕ) → to < from → from ≤ to + 2147483648 → 2147483648 ≤ forward (shown from) (shown to)
unfolding forward
behind from to h k = omega arith
