-- How many bytes the answer of a read or of a write tells of.
use Rattle.std.specs.Prelude.{ℕ, min, Result, Ok, Err}

-- as many as the read says, and no more than there was room for; none where it failed
abbrev pub count_of : {E : Type 0} → Result ℕ E → ℕ → ℕ
count_of (Ok n) most = min n most
count_of (Err e) most = 0

-- as many as it says; none where it is an error
abbrev pub count_told : {E : Type 0} → Result ℕ E → ℕ
count_told (Ok n) = n
count_told (Err e) = 0
