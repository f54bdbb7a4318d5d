-- That the claims are not true for the wrong reason: runs that meet their premises, each term of the bound reached by one, and what goes wrong
-- where a part of the premise does not hold.
use Rattle.std.specs.Prelude.{ℕ, zero, suc, ◌+◌, ◌≡◌, Bool, true, false, not, ◌&&◌, ◌||◌, List, [], ◌∷◌, eqb, leb, ltb}
use Rattle.std.proofs.Math.Option.{Option, none, some}
use Rattle.timers.specs.Due.{numbers}
use Rattle.callcontrol.specs.Call.{state_number, runs, T310}
use Rattle.timed.specs.Times.{Begun, end, Clocks, is_due}
use Rattle.timed.specs.Runs.{Turn, step, due, time_of, outcome, Kept, made, then, after}

abbrev zeros : ℕ → List ℕ
zeros zero = []
zeros (suc n) = 0 ∷ zeros n

-- T301 30 ms, T302 and T303 60, T306 6, T308 10, T311 8; T310 0 for code 0, 72 for code 15 and 3 for the others
abbrev pub lengths : List ℕ
lengths = 30 ∷ 60 ∷ 60 ∷ 6 ∷ 10 ∷ 8 ∷ 0 ∷ 3 ∷ 3 ∷ 3 ∷ 3 ∷ 3 ∷ 3 ∷ 3 ∷ 3 ∷ 3 ∷ 3 ∷ 3 ∷ 3 ∷ 3 ∷ 3 ∷ 72 ∷ []

-- the events: SETUP request, SETUP response, RELEASE request, D-ALERT, D-CONNECT with a grant, a mode and a code, D-SETUP, BREAK, RESUME
abbrev setup_request : List ℕ
setup_request = 10 ∷ 0 ∷ 1 ∷ 1 ∷ 7 ∷ 0 ∷ 0 ∷ 0 ∷ 0 ∷ 1 ∷ []

abbrev setup_response : List ℕ
setup_response = 4 ∷ 0 ∷ 2 ∷ 1 ∷ []

abbrev release_request : List ℕ
release_request = 4 ∷ 0 ∷ 3 ∷ 1 ∷ []

abbrev d_alert : List ℕ
d_alert = 6 ∷ 0 ∷ 2 ∷ 2 ∷ 21 ∷ 0 ∷ []

abbrev d_connect : ℕ → ℕ → ℕ → List ℕ
d_connect g d o = 9 ∷ 0 ∷ 3 ∷ 2 ∷ 21 ∷ 0 ∷ g ∷ d ∷ o ∷ []

abbrev d_setup : List ℕ
d_setup = 11 ∷ 0 ∷ 5 ∷ 2 ∷ 21 ∷ 0 ∷ 7 ∷ 0 ∷ 0 ∷ 0 ∷ 0 ∷ []

abbrev break : List ℕ
break = 4 ∷ 0 ∷ 3 ∷ 3 ∷ []

abbrev resume : List ℕ
resume = 4 ∷ 0 ∷ 4 ∷ 3 ∷ []

-- the turns, some milliseconds after the first reading, which is 7 ms before the counter wraps; 64 bytes are lent to a step and 30 to due
abbrev begin : ℕ
begin = 4294967289

abbrev event : ℕ → List ℕ → Turn
event ms bytes = step lengths (begin + ms) bytes (zeros 64)

abbrev reading : ℕ → Turn
reading ms = due lengths (begin + ms) (zeros 30)

-- what a turn shows: the answer, the place, and the state of the record then
pub record Line : Type 0 where
  pub turn : Turn
  pub answer : ℕ
  pub place : ℕ
  pub state : ℕ

abbrev pub line : Turn → ℕ → ℕ → ℕ → Line
line t a p s = record { turn = t; answer = a; place = p; state = s }

-- the premises, of the seven timers
abbrev near_by : ℕ → Option Begun → Bool
near_by time none = true
near_by time (some x) = ltb time (end x + 2147483648)

abbrev each : (Option Begun → Bool) → Clocks → List ℕ → Bool
each p u [] = true
each p u (n ∷ ns) = p (u n) && each p u ns

abbrev in_reach : Kept → Turn → Bool
in_reach k d = leb k.last (time_of d) && ltb (time_of d) (k.last + 2147483648) && each (near_by (time_of d)) k.clocks numbers

-- gaps of at most 100 ms, and nothing left due where the reading moves on
abbrev punctual : Kept → Turn → Bool
punctual k d = leb (time_of d) (k.last + 100) && (eqb (time_of d) k.last || each (λ v. not (is_due k.last v)) k.clocks numbers)

unfoldable pub shows : Kept → List Line → Bool
shows k [] = true
shows k (l ∷ ls) =
    in_reach k l.turn && punctual k l.turn && eqb (outcome k.timed l.turn).answer l.answer
    && eqb (outcome k.timed l.turn).place l.place && eqb (state_number (then k l.turn).timed.call.state) l.state
    && shows (then k l.turn) ls

-- ---- the bound is reached, G being 100: a deadline is missed by one millisecond, and the next reading comes a whole G later. Up to the
-- millisecond before the last reading of each run the call is not over

-- SETUP request: 60 + 10 + 198
abbrev by_t303 : List Line
by_t303 =
    line (event 0 setup_request) 0 0 1
    ∷ line (reading 59) 0 0 1
    -- a step is not taken while a timer is due, and an expiry never
    ∷ line (event 159 release_request) 34 0 1
    ∷ line (reading 159) 0 1 5
    ∷ line (reading 159) 0 0 5
    ∷ line (event 159 (6 ∷ 0 ∷ 1 ∷ 4 ∷ 52 ∷ 1 ∷ [])) 35 0 5
    ∷ line (reading 168) 0 0 5
    ∷ line (reading 268) 0 1 0
    ∷ line (reading 268) 0 0 0
    ∷ []

-- D-ALERT after it: the same by T302
abbrev by_t302 : List Line
by_t302 =
    line (event 0 setup_request) 0 0 1
    ∷ line (event 0 d_alert) 0 0 1
    ∷ line (reading 59) 0 0 1
    ∷ line (reading 159) 0 1 5
    ∷ line (reading 159) 0 0 5
    ∷ line (reading 168) 0 0 5
    ∷ line (reading 268) 0 1 0
    ∷ line (reading 268) 0 0 0
    ∷ []

-- D-SETUP, SETUP response: 30 + 10 + 198
abbrev by_t301 : List Line
by_t301 =
    line (event 0 d_setup) 0 0 2
    ∷ line (event 0 setup_response) 0 0 2
    ∷ line (reading 29) 0 0 2
    ∷ line (reading 129) 0 1 5
    ∷ line (reading 129) 0 0 5
    ∷ line (reading 138) 0 0 5
    ∷ line (reading 238) 0 1 0
    ∷ line (reading 238) 0 0 0
    ∷ []

-- D-CONNECT without a limit, BREAK, RESUME: 6 + 10 + 198
abbrev by_t306 : List Line
by_t306 =
    line (event 0 setup_request) 0 0 1
    ∷ line (event 0 (d_connect 1 0 0)) 0 0 3
    ∷ line (event 0 break) 0 0 3
    ∷ line (event 0 resume) 0 0 3
    ∷ line (reading 5) 0 0 3
    ∷ line (reading 105) 0 1 5
    ∷ line (reading 105) 0 0 5
    ∷ line (reading 114) 0 0 5
    ∷ line (reading 214) 0 1 0
    ∷ line (reading 214) 0 0 0
    ∷ []

-- D-CONNECT with a grant and code 15: 72 + 10 + 198, T311 adding nothing
abbrev by_t310 : List Line
by_t310 =
    line (event 0 setup_request) 0 0 1
    ∷ line (event 0 (d_connect 0 0 15)) 0 0 3
    ∷ line (reading 71) 0 1 3
    ∷ line (reading 71) 0 0 3
    ∷ line (reading 171) 0 1 5
    ∷ line (reading 171) 0 0 5
    ∷ line (reading 180) 0 0 5
    ∷ line (reading 280) 0 1 0
    ∷ line (reading 280) 0 0 0
    ∷ []

-- RELEASE request: 10 + 99
abbrev by_t308 : List Line
by_t308 =
    line (event 0 setup_request) 0 0 1
    ∷ line (event 0 (d_connect 0 0 15)) 0 0 3
    ∷ line (event 0 release_request) 0 0 5
    ∷ line (reading 9) 0 0 5
    ∷ line (reading 109) 0 1 0
    ∷ line (reading 109) 0 0 0
    ∷ []

-- D-CONNECT with a grant and no limit: 8 + 99, and then at rest in CALL-ACTIVE
abbrev by_t311 : List Line
by_t311 =
    line (event 0 setup_request) 0 0 1
    ∷ line (event 0 (d_connect 0 0 0)) 0 0 3
    ∷ line (reading 7) 0 0 3
    ∷ line (reading 107) 0 1 3
    ∷ line (reading 107) 0 0 3
    ∷ line (reading 207) 0 0 3
    ∷ []

-- T311 and T310 at one reading: two expire, in the order of deadlines, and no third
abbrev two_at_once : List Line
two_at_once =
    line (event 0 setup_request) 0 0 1
    ∷ line (event 0 (d_connect 0 0 15)) 0 0 3
    ∷ line (reading 72) 0 1 3
    ∷ line (reading 72) 0 1 5
    ∷ line (reading 72) 0 0 5
    ∷ []

pub record Reached : Type 0 where
  pub t303 : shows (made begin) by_t303 ≡ true
  pub t302 : shows (made begin) by_t302 ≡ true
  pub t301 : shows (made begin) by_t301 ≡ true
  pub t306 : shows (made begin) by_t306 ≡ true
  pub t310 : shows (made begin) by_t310 ≡ true
  pub t308 : shows (made begin) by_t308 ≡ true
  pub t311 : shows (made begin) by_t311 ≡ true
  pub two : shows (made begin) two_at_once ≡ true

-- ---- the most bytes are written: 32 by a step, D-CONNECT with a grant; 30 by due, T310's expiry in plane 1
abbrev connected : Kept
connected = after (made begin) (event 0 setup_request ∷ event 0 (d_connect 0 0 1) ∷ [])

abbrev pub Writes32 : Type 0
Writes32 = (outcome (after (made begin) (event 0 setup_request ∷ [])).timed (event 0 (d_connect 0 0 1))).count ≡ 32

abbrev pub Writes30 : Type 0
Writes30 = ((outcome connected.timed (reading 3)).answer ≡ 0) × ((outcome connected.timed (reading 3)).count ≡ 30)

-- ---- the premise is needed

-- a reading 2^32 ms earlier than T303's deadline, which the counter shows as the deadline, expires it
abbrev pub Earlier : Type 0
Earlier =
    ((outcome (after (made 4294968296) (step lengths 4294968296 setup_request (zeros 64) ∷ [])).timed (due lengths 1060 (zeros 30))).answer ≡ 0)
    × ((outcome (after (made 4294968296) (step lengths 4294968296 setup_request (zeros 64) ∷ [])).timed (due lengths 1060 (zeros 30))).place ≡ 1)

-- one 2^31 ms after the last is answered with 32, and one 2^32 ms after it is accepted with place 0, long after T303's deadline
abbrev pub TooLate : Type 0
TooLate =
    ((outcome (after (made begin) (event 0 setup_request ∷ [])).timed (reading 2147483648)).answer ≡ 32)
    × ((outcome (after (made begin) (event 0 setup_request ∷ [])).timed (reading 4294967296)).answer ≡ 0)
    × ((outcome (after (made begin) (event 0 setup_request ∷ [])).timed (reading 4294967296)).place ≡ 0)

-- T310 lies behind T311 at one reading, and at the next, each less than 2^31 ms after the last but 2^31 ms after T310's deadline, due has place 0
-- while T310 runs on, and a step is taken
abbrev lying : Kept
lying = after (made begin) (event 0 setup_request ∷ event 0 (d_connect 0 0 15) ∷ reading 2147483647 ∷ [])

abbrev pub LiesTooLong : Type 0
LiesTooLong =
    ((outcome lying.timed (reading 4294967294)).answer ≡ 0)
    × ((outcome lying.timed (reading 4294967294)).place ≡ 0)
    × (runs (then lying (reading 4294967294)).timed.call T310 ≡ true)
    × (is_due 8589934583 ((then lying (reading 4294967294)).clocks 310) ≡ true)
    × ((outcome (then lying (reading 4294967294)).timed (event 4294967294 release_request)).answer ≡ 0)

-- ---- duplex without a limit: plane 3, and no timer runs, so that silence leaves it transmitting
abbrev duplex : Kept
duplex = after (made begin) (event 0 (10 ∷ 0 ∷ 1 ∷ 1 ∷ 7 ∷ 0 ∷ 0 ∷ 0 ∷ 1 ∷ 1 ∷ []) ∷ event 0 (d_connect 0 1 0) ∷ [])

abbrev pub DuplexRests : Type 0
DuplexRests =
    (duplex.timed.call.plane ≡ 3)
    × (duplex.timed.bank.running ≡ false ∷ false ∷ false ∷ false ∷ false ∷ false ∷ false ∷ [])
