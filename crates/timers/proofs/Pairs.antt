-- Looking at the keys by pairs, the greater first, finds the same.
use Rattle.std.proofs.Common.{◌≡◌, ℕ, min, zero, suc, ◌<◌, ◌≤◌, ltb, List, get_or, sym, refl, ◌∙◌, arith, ltb-false, ltb-true, le-ltb, lt-ltb}
use Rattle.timers.specs.Due.{under, greater, lesser, paired, below, handed}
use Rattle.timers.proofs.Tests.{decide}
use Rattle.timers.proofs.Keys.{greater_is}

-- a pair whose greater key is below the bound
pub high_taken : (b h l : ℕ) → l ≤ h → h < b → h ≡ greater (under b h) (under b l)
unfolding under
high_taken b h l k t = rw (lt-ltb h b t, lt-ltb l b (omega arith), greater_is) (omega arith)

-- and one whose greater key is not
none_under : (b h : ℕ) → b ≤ h → under b h ≡ 0
unfolding under
none_under b h t = rw (le-ltb h b t)

pub low_taken : (b h l : ℕ) {r : ℕ} → b ≤ h → r ≡ under b l → r ≡ greater (under b h) (under b l)
low_taken b h l {r} t e =
    let least : greater 0 (under b l) ≡ under b l = rw (greater_is 0 (under b l)) (omega arith) in
    e ∙ sym (rw (none_under b h t) least)

-- whichever of the two is the greater
by_size : (x y : ℕ) (P : ℕ → ℕ → Type 0) → (x < y → P y x) → (y ≤ x → P x y) → P (greater x y) (lesser x y)
unfolding greater lesser
by_size x y P f g = decide (ltb x y) (λ q. rw q (f (ltb-true x y q))) (λ q. rw q (g (ltb-false x y q)))

pub lesser_is : (x y : ℕ) → lesser x y ≡ min x y
lesser_is x y = by_size x y (λ h l. l ≡ min x y) (λ k. omega arith) (λ k. omega arith)

turned : (u v : ℕ) → greater u v ≡ greater v u
turned u v = rw (greater_is u v, greater_is v u) (omega arith)

pair_same : (b x y : ℕ) → greater (under b (greater x y)) (under b (lesser x y)) ≡ greater (under b x) (under b y)
pair_same b x y =
    by_size x y (λ h l. greater (under b h) (under b l) ≡ greater (under b x) (under b y)) (λ k. turned (under b y) (under b x)) (λ k. refl)

below_paired : (b : ℕ) (keys : List ℕ) → below b (paired keys) ≡ below b keys
unfolding below paired
below_paired b keys =
    rw (pair_same b (get_or keys 0 0) (get_or keys 1 0), pair_same b (get_or keys 2 0) (get_or keys 3 0), pair_same b (get_or keys 4 0) (get_or keys 5 0))

pub handed_paired : (n b : ℕ) (keys : List ℕ) → handed n b (paired keys) ≡ handed n b keys
unfolding handed
handed_paired zero b keys = refl
handed_paired (suc n) b keys = rw (below_paired b keys, handed_paired n (below b keys) keys)
