-- Which timers are due at a reading, and the order in which they are handed out: each timer has a key, and the greatest key goes first.
use Rattle.std.specs.Prelude.{ℕ, zero, suc, ◌+◌, ◌-◌, ◌*◌, ◌%◌, ◌≤◌, Bool, false, cond, ◌&&◌, List, [], ◌∷◌, ◌==◌, nat_lt, slice_index, slice_index_or}
use Rattle.timers.specs.Wrap.{forward, is_back}

-- the timers' numbers, by index
abbrev pub numbers : List ℕ
numbers = 301 ∷ 302 ∷ 303 ∷ 306 ∷ 308 ∷ 310 ∷ 311 ∷ []

-- a timer's key: 0 where it is not due; else the later the greater, and of two that are equally late the lower number's is the greater
unfoldable pub key_of : ℕ → Bool → ℕ → ℕ → ℕ
key_of index running deadline reading =
    cond running (cond (is_back (forward deadline reading)) 0 (forward deadline reading * 8 + (7 - index))) 0

unfoldable pub keys_of : List Bool → List ℕ → ℕ → List ℕ
keys_of running deadlines reading =
    key_of 0 (slice_index_or running 0 false) (slice_index deadlines 0) reading ∷ key_of 1 (slice_index_or running 1 false) (slice_index deadlines 1) reading
    ∷ key_of 2 (slice_index_or running 2 false) (slice_index deadlines 2) reading ∷ key_of 3 (slice_index_or running 3 false) (slice_index deadlines 3) reading
    ∷ key_of 4 (slice_index_or running 4 false) (slice_index deadlines 4) reading ∷ key_of 5 (slice_index_or running 5 false) (slice_index deadlines 5) reading
    ∷ key_of 6 (slice_index_or running 6 false) (slice_index deadlines 6) reading ∷ []

abbrev pub one_if : ℕ → ℕ
one_if key = cond (key == 0) 0 1

-- how many are due
unfoldable pub count_of : List ℕ → ℕ
count_of keys =
    one_if (slice_index keys 0) + one_if (slice_index keys 1) + one_if (slice_index keys 2) + one_if (slice_index keys 3) + one_if (slice_index keys 4)
    + one_if (slice_index keys 5) + one_if (slice_index keys 6)

-- a key where it is below a bound, else 0
unfoldable pub under : ℕ → ℕ → ℕ
under bound key = cond (nat_lt key bound) key 0

unfoldable pub greater : ℕ → ℕ → ℕ
greater a b = cond (nat_lt a b) b a

unfoldable pub lesser : ℕ → ℕ → ℕ
lesser a b = cond (nat_lt a b) a b

-- the keys with the greater of each pair first
unfoldable pub paired : List ℕ → List ℕ
paired keys =
    greater (slice_index keys 0) (slice_index keys 1) ∷ lesser (slice_index keys 0) (slice_index keys 1) ∷ greater (slice_index keys 2) (slice_index keys 3)
    ∷ lesser (slice_index keys 2) (slice_index keys 3) ∷ greater (slice_index keys 4) (slice_index keys 5) ∷ lesser (slice_index keys 4) (slice_index keys 5)
    ∷ slice_index keys 6 ∷ []

abbrev pub Paired : List ℕ → Type 0
Paired keys = (slice_index keys 1 ≤ slice_index keys 0) × (slice_index keys 3 ≤ slice_index keys 2) × (slice_index keys 5 ≤ slice_index keys 4)

-- the greatest key below a bound, 0 where there is none
unfoldable pub below : ℕ → List ℕ → ℕ
below bound keys =
    greater
    (greater (greater (under bound (slice_index keys 0)) (under bound (slice_index keys 1)))
    (greater (under bound (slice_index keys 2)) (under bound (slice_index keys 3))))
    (greater (greater (under bound (slice_index keys 4)) (under bound (slice_index keys 5))) (under bound (slice_index keys 6)))

-- the number of the timer that a key is of
unfoldable pub number_of : ℕ → ℕ
number_of key = slice_index numbers (7 - key % 8)

-- the numbers of the keys below a bound, the greatest first
unfoldable pub handed : ℕ → ℕ → List ℕ → List ℕ
handed zero bound keys = []
handed (suc n) bound keys = number_of (below bound keys) ∷ handed n (below bound keys) keys

abbrev pub stays : Bool → ℕ → Bool
stays running key = running && key == 0

-- those handed out no longer run
unfoldable pub staying : List Bool → List ℕ → List Bool
staying running keys =
    stays (slice_index_or running 0 false) (slice_index keys 0) ∷ stays (slice_index_or running 1 false) (slice_index keys 1) ∷ stays (slice_index_or running 2 false) (slice_index keys 2)
    ∷ stays (slice_index_or running 3 false) (slice_index keys 3) ∷ stays (slice_index_or running 4 false) (slice_index keys 4)
    ∷ stays (slice_index_or running 5 false) (slice_index keys 5) ∷ stays (slice_index_or running 6 false) (slice_index keys 6) ∷ []
