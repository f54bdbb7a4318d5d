-- The record of an outgoing direct mode call: fresh, its limits, and what makes it sound.
use Rattle.std.specs.Prelude.{◌≡◌, ℕ, ◌<◌, Bool, false, not, ◌&&◌, leb, eqb, Result, MatchResult}
use Rattle.direct.specs.declared.call.State.{State}
use Rattle.direct.specs.declared.call.UnknownState.{UnknownState}
use Rattle.direct.specs.declared.call.Call.{Call}

abbrev pub fresh_call : Call
fresh_call = record { state = State.Idle; target = 0; lowest = 0; limit = 0; used = 0; dt303 = false; dt311 = false }

-- the states as numbers, those of a host's record
abbrev pub state_number : State → ℕ
state_number State.Idle = 0
state_number State.PresenceCheck = 1
state_number State.Active = 2

-- the state of a number; above 2 there is none
abbrev pub StateOf : ℕ → Result State UnknownState → Type 0
StateOf n r = MatchResult r (λ state. state_number state ≡ n) (λ e. (e.0 ≡ n) × (2 < n))

-- all but the state as in the fresh record
unfoldable pub as_fresh : Call → Bool
as_fresh c = eqb c.target 0 && eqb c.lowest 0 && eqb c.limit 0 && eqb c.used 0 && not c.dt303 && not c.dt311

-- attempts, 1 to 15; and how many a call has used, at least one and no more than its limit; lowest at most target
unfoldable pub in_limits : Call → Bool
in_limits c = leb 1 c.limit && leb c.limit 15 && leb 1 c.used && leb c.used c.limit && leb c.lowest c.target

-- IDLE only if fresh, else the numbers in range; DT303 runs only in PRESENCE CHECK, DT311 exactly in ACTIVE
abbrev pub sound_in : State → Call → Bool
sound_in State.Idle c = as_fresh c
sound_in State.PresenceCheck c = in_limits c && not c.dt311
sound_in State.Active c = in_limits c && not c.dt303 && c.dt311

unfoldable pub sound : Call → Bool
sound c = sound_in c.state c
