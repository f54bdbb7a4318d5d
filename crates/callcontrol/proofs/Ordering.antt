-- The orders for timers one after the other, as the code goes through them.
use Rattle.std.specs.Prelude.{ℕ, zero, suc, ◌*◌, ◌^◌}
use Rattle.callcontrol.specs.declared.settle.Timing.{Timing}
use Rattle.callcontrol.specs.Settle.{has, stop_if, start_if, STOP_301, START_301}

-- the stops of the first timers, and their starts

abbrev pub stops_to : ℕ → ℕ → Timing → Timing
stops_to n zero t = t
stops_to n (suc k) t = stop_if (has n (STOP_301 * 2 ^ k)) k (stops_to n k t)

abbrev pub starts_to : ℕ → ℕ → Timing → Timing
starts_to n zero t = t
starts_to n (suc k) t = start_if (has n (START_301 * 2 ^ k)) k (starts_to n k t)
