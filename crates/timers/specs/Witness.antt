-- That the claims are not true for the wrong reason: a run through two wraps of the counter, call by call, and what goes wrong where the
-- premise does not hold.
use Rattle.std.specs.Prelude.{◌≡◌, ℕ, ◌+◌, Bool, true, false, ◌&&◌, List, [], ◌∷◌, ◌==◌, nat_le, nat_lt}
use Rattle.timers.specs.Time.{Call, stop, start, reading, outcome, handed_by, Times, Kept, made, next, run}

-- what a run shows: each call, its answer, and the timers that it hands out
pub record Line : Type 0 where
  pub call : Call
  pub answer : ℕ
  pub handed : List ℕ

abbrev pub line : Call → ℕ → List ℕ → Line
line c a l = record { call = c; answer = a; handed = l }

abbrev same : List ℕ → List ℕ → Bool
same [] [] = true
same [] (y ∷ ys) = false
same (x ∷ xs) [] = false
same (x ∷ xs) (y ∷ ys) = x == y && same xs ys

abbrev in_reach : Times → Call → Bool
in_reach m (stop n) = true
in_reach m (start table n code) = true
in_reach m (reading time list) = nat_le m.last time && nat_lt time (m.last + 2147483648)

-- every line shows what it says, with every reading in reach
unfoldable pub shows : Kept → List Line → Bool
shows s [] = true
shows s (l ∷ ls) =
    in_reach s.times l.call && (outcome s.bank l.call).answer == l.answer && same (handed_by s.bank l.call) l.handed
    && shows (next s l.call) ls

-- T301 and T302 5 s, T303 6 s, T306 2 s, T308 4 s, T311 3 s; T310 60 s for code 1 and 2^30 ms for code 2, 0 for code 0, more than 2^30 for 3
abbrev pub lengths : List ℕ
lengths =
    5000 ∷ 5000 ∷ 6000 ∷ 2000 ∷ 4000 ∷ 3000 ∷ 0 ∷ 60000 ∷ 1073741824 ∷ 1073741825 ∷ []

abbrev pub seven : List ℕ
seven = 0 ∷ 0 ∷ 0 ∷ 0 ∷ 0 ∷ 0 ∷ 0 ∷ []

-- made 3 s before the counter's first wrap
abbrev pub through_two_wraps : List Line
through_two_wraps =
    -- T302 and T301 for the same time, T303 for longer, T311 up to the wrap itself
    line (start lengths 302 0) 0 []
    ∷ line (start lengths 301 0) 0 []
    ∷ line (start lengths 303 0) 0 []
    ∷ line (start lengths 311 0) 0 []
    -- refused: timer unknown; code 0's length 0, code 3's over 2^30, code 4's and code 16's missing
    ∷ line (start lengths 304 0) 30 []
    ∷ line (stop 0) 30 []
    ∷ line (start lengths 310 0) 31 []
    ∷ line (start lengths 310 3) 31 []
    ∷ line (start lengths 310 4) 31 []
    ∷ line (start lengths 310 16) 31 []
    -- a millisecond before the wrap nothing is due; at the wrap T311 is, and at 2 s past it T301 before T302
    ∷ line (reading 4294967295 seven) 0 []
    ∷ line (reading 4294967296 seven) 0 (311 ∷ [])
    ∷ line (reading 4294969296 (0 ∷ [])) 33 []
    ∷ line (reading 4294969296 seven) 0 (301 ∷ 302 ∷ [])
    -- T303 was stopped, so that it is never handed out; T308 is started anew
    ∷ line (stop 303) 0 []
    ∷ line (start lengths 308 0) 0 []
    ∷ line (reading 4294972296 seven) 0 []
    ∷ line (start lengths 308 0) 0 []
    ∷ line (reading 4294973296 seven) 0 []
    ∷ line (reading 4294976296 seven) 0 (308 ∷ [])
    -- the longest length; one reading a millisecond before its deadline, and the next 2^31 - 1 ms later
    ∷ line (start lengths 310 2) 0 []
    ∷ line (reading 5368718119 seven) 0 []
    ∷ line (reading 7516201766 seven) 0 (310 ∷ [])
    -- the same over the second wrap, with T306 started at the wrap itself
    ∷ line (start lengths 310 2) 0 []
    ∷ line (reading 8589934592 seven) 0 []
    ∷ line (start lengths 306 0) 0 []
    ∷ line (reading 8589943589 seven) 0 (306 ∷ [])
    ∷ line (reading 8589943590 seven) 0 (310 ∷ [])
    -- the same reading again, with no list
    ∷ line (reading 8589943590 []) 0 []
    ∷ []

abbrev pub TwoWraps : Type 0
TwoWraps = shows (made 4294964296) through_two_wraps ≡ true

-- a reading 2^31 ms after the last is answered with 32, as if it were earlier
abbrev pub AtTheLimit : Type 0
AtTheLimit = (outcome (made 1000).bank (reading 2147484648 seven)).answer ≡ 32

-- and one 2^32 ms after it is accepted and hands out nothing, long after the deadline of T306
abbrev pub PastTheLimit : Type 0
PastTheLimit =
    ((outcome (run (made 1000) (start lengths 306 0 ∷ [])).bank (reading 4294968296 seven)).answer ≡ 0)
    × (handed_by (run (made 1000) (start lengths 306 0 ∷ [])).bank (reading 4294968296 seven) ≡ [])
