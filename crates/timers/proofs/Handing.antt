-- Handing out one timer more: what stands in the list, and what is still to come.
use Rattle.std.proofs.Common.{◌≡◌, ℕ, suc, ◌+◌, ◌<◌, List, ◌++◌, length, take, set, append_assoc, add-one, take-suc-set}
use Rattle.timers.specs.Due.{below, number_of, handed}

pub one_more : (n i bound : ℕ) (due keys : List ℕ) → i < length due
    → take (i + 1) (set due i (number_of (below bound keys))) ++ handed n (below bound keys) keys ≡ take i due ++ handed (suc n) bound keys
unfolding handed
one_more n i bound due keys h = rw (add-one i, take-suc-set due i (number_of (below bound keys)), append_assoc)
