-- A run of stores after another is one run.
use Prim.Native.Nat.{ℕ, zero, suc, ◌+◌, ◌*◌, ◌<◌}
use mathlib.Core.Path.{◌≡◌, refl, sym, ◌∙◌, ap}
use mathlib.Core.List.{List, [], ◌∷◌, ◌++◌, append_assoc, append-nil}
use native.Mathlib.Omega.{arith}
use lib.ListN.{length, get_or, take, set, length-append}
use lib.Seq.{sets, length-take-le}
use mathlib.Core.Bool.{Bool, true, false}
use native.Mathlib.Numerals.{add-one}
use Rattle.records.specs.Bytes.{bytes}
use Rattle.timers.specs.declared.bank.Bank.{Bank}
use Rattle.timers.proofs.Sevens.{seven_items}
use Rattle.host.specs.Packing.{flag}
use Rattle.host.specs.Bank.{flags, packed_bank}

pub sets-append : (vs l : List ℕ) (i : ℕ) (ws : List ℕ) (j : ℕ) → i + length vs ≡ j → sets (sets l i vs) j ws ≡ sets l i (vs ++ ws)
sets-append [] l i ws j e = let same : j ≡ i = omega (arith, e) in rw same
sets-append (v ∷ vs) l i ws j e = sets-append vs (set l i v) (suc i) ws j (omega (arith, e))

pub four_bytes : (v : ℕ) → length (bytes 4 v) ≡ 4
unfolding bytes
four_bytes v = refl

pub one_byte : (v : ℕ) → length (bytes 1 v) ≡ 1
unfolding bytes
one_byte v = refl

pub flag_byte : (b : Bool) → bytes 1 (flag b) ≡ flag b ∷ []
unfolding bytes
flag_byte true = refl
flag_byte false = refl

-- numbers of four bytes each, and flags of one, one after the other
abbrev pub longs : List ℕ → List ℕ
longs [] = []
longs (v ∷ vs) = bytes 4 v ++ longs vs

abbrev pub marks : List Bool → List ℕ
marks [] = []
marks (b ∷ bs) = flag b ∷ marks bs

length-longs : (d : List ℕ) → length (longs d) ≡ 4 * length d
unfolding bytes
length-longs [] = refl
length-longs (v ∷ d) = let h = length-longs d in omega (arith, h)

length-marks : (r : List Bool) → length (marks r) ≡ length r
length-marks [] = refl
length-marks (b ∷ r) = let h = length-marks r in omega (arith, h)

longs_more : (i : ℕ) (d : List ℕ) → i < length d → longs (take (suc i) d) ≡ longs (take i d) ++ bytes 4 (get_or d i 0)
longs_more i [] h = absurd (omega arith)
longs_more zero (v ∷ d) h = append-nil (bytes 4 v)
longs_more (suc i) (v ∷ d) h = rw (longs_more i d (omega arith)) (sym (append_assoc (bytes 4 v) (longs (take i d)) (bytes 4 (get_or d i 0))))

marks_more : (i : ℕ) (r : List Bool) → i < length r → marks (take (suc i) r) ≡ marks (take i r) ++ flag (get_or r i false) ∷ []
marks_more i [] h = absurd (omega arith)
marks_more zero (b ∷ r) h = refl
marks_more (suc i) (b ∷ r) h = rw (marks_more i r (omega arith))

-- a deadline more, and a flag more
pub deadline_put : (s₀ : List ℕ) (last i : ℕ) (d : List ℕ) {s new : List ℕ} {at : ℕ} → i < length d → at ≡ 4 + 4 * i
    → s ≡ sets s₀ 0 (bytes 4 last ++ longs (take i d)) → new ≡ sets s at (bytes 4 (get_or d i 0)) → new ≡ sets s₀ 0 (bytes 4 last ++ longs (take (i + 1) d))
deadline_put s₀ last i d {s} {new} {at} h e is put =
    let pre = bytes 4 last ++ longs (take i d) in
    let long : 0 + length pre ≡ at
    = omega (arith, e, length-append (bytes 4 last) (longs (take i d)), four_bytes last, length-longs (take i d), length-take-le i d (omega arith)) in
    let ws = bytes 4 (get_or d i 0) in
    let more : pre ++ ws ≡ bytes 4 last ++ longs (take (i + 1) d)
    = rw (add-one i, longs_more i d h, append_assoc (bytes 4 last) (longs (take i d)) ws) in
    put ∙ ap (λ (z : List ℕ). sets z at ws) is ∙ sets-append pre s₀ 0 ws at long ∙ ap (sets s₀ 0) more

pub flag_put : (s₀ : List ℕ) (last i : ℕ) (d : List ℕ) (r : List Bool) {s new : List ℕ} {at : ℕ} → length d ≡ 7 → i < length r → at ≡ 32 + i
    → s ≡ sets s₀ 0 (bytes 4 last ++ (longs d ++ marks (take i r))) → new ≡ sets s at (flag (get_or r i false) ∷ [])
    → new ≡ sets s₀ 0 (bytes 4 last ++ (longs d ++ marks (take (i + 1) r)))
flag_put s₀ last i d r {s} {new} {at} seven h e is put =
    let pre = bytes 4 last ++ (longs d ++ marks (take i r)) in
    let mark = flag (get_or r i false) ∷ [] in
    let long : 0 + length pre ≡ at
    = omega (arith, e, seven, length-append (bytes 4 last) (longs d ++ marks (take i r)), length-append (longs d) (marks (take i r)), four_bytes last, length-longs d, length-marks (take i r), length-take-le i r (omega arith)) in
    let more : pre ++ mark ≡ bytes 4 last ++ (longs d ++ marks (take (i + 1) r))
    = rw (add-one i, marks_more i r h, append_assoc (bytes 4 last) (longs d ++ marks (take i r)) mark, append_assoc (longs d) (marks (take i r)) mark) in
    put ∙ ap (λ (z : List ℕ). sets z at mark) is ∙ sets-append pre s₀ 0 mark at long ∙ ap (sets s₀ 0) more

-- all of them are the bank's bytes
pub packed_is : (b : Bank) → length b.deadlines ≡ 7 → length b.running ≡ 7
    → bytes 4 b.last ++ (longs b.deadlines ++ marks b.running) ≡ packed_bank b
unfolding packed_bank flags bytes
packed_is b d r =
    ap (λ (ds : List ℕ). bytes 4 b.last ++ (longs ds ++ marks b.running)) (seven_items 0 b.deadlines d)
    ∙ ap
    (λ (rs : List Bool).
    bytes 4 b.last
    ++ (longs
    (get_or b.deadlines 0 0 ∷ get_or b.deadlines 1 0 ∷ get_or b.deadlines 2 0 ∷ get_or b.deadlines 3 0 ∷ get_or b.deadlines 4 0 ∷ get_or b.deadlines 5 0
    ∷ get_or b.deadlines 6 0 ∷ [])
    ++ marks rs))
    (seven_items false b.running r)
