-- What a row's orders make of the timers, one by one: the definitions' timers are those that the turns of the places leave.
use Prim.Native.Nat.{ℕ, ◌/◌, ◌%◌}
use mathlib.Core.Path.{◌≡◌, refl, ◌∙◌, ap}
use mathlib.Core.Bool.{Bool, true, false, cond, not, ◌&&◌, ◌||◌}
use mathlib.Core.List.{List, [], ◌∷◌}
use native.Mathlib.Omega.{arith}
use borrow.Author.Tests.{ne_eqb, eqb-true}
use lib.Dec.{eqb}
use lib.ListN.{length}
use Rattle.records.proofs.Laws.{by_test}
use Rattle.callcontrol.specs.declared.settle.Timing.{Timing}
use Rattle.callcontrol.specs.Settle.{has, timing, expire_timer, stop_timer, start_timer, stop_if, start_if, limit_timer, limit_if, expired_by, ordered_by, plane_timer, timing_by}
use Rattle.small.specs.Places.{places_from, number_after, number_at, ordered, tells_plane, starts_at, stops_at, ran_at, started, stopped, stop_of, runs_of, turned, turns, number_in}
use Rattle.small.proofs.Carrying.{by_digit}

-- a timer: whether it runs, is to be stopped and to be started
record Cell : Type 0 where
  runs : Bool
  stops : Bool
  starts : Bool

abbrev of : Cell → Cell → Cell → Cell → Cell → Cell → Cell → Timing
of a b c d e f g =
    record {
      running = a.runs ∷ b.runs ∷ c.runs ∷ d.runs ∷ e.runs ∷ f.runs ∷ g.runs ∷ [];
      stops = a.stops ∷ b.stops ∷ c.stops ∷ d.stops ∷ e.stops ∷ f.stops ∷ g.stops ∷ [];
      starts = a.starts ∷ b.starts ∷ c.starts ∷ d.starts ∷ e.starts ∷ f.starts ∷ g.starts ∷ [];
    }

-- the orders on one timer

abbrev held : Bool → Cell
held r = record { runs = r; stops = false; starts = false }

abbrev expires : Bool → Cell → Cell
expires o x = record { runs = cond o false x.runs; stops = x.stops; starts = x.starts }

abbrev stop : Bool → Cell → Cell
stop o x = record { runs = cond o false x.runs; stops = cond o (x.runs || x.stops) x.stops; starts = x.starts }

abbrev start : Bool → Cell → Cell
start o x = record { runs = cond o true x.runs; stops = cond o false x.stops; starts = cond o true x.starts }

-- T310, with a limit or with none
abbrev limit : Bool → Bool → Cell → Cell
limit o l x =
    record { runs = cond o l x.runs; stops = cond o (not l && (x.runs || x.stops)) x.stops; starts = cond o l x.starts }

-- T311, with plane 1 or with another
abbrev goes : Bool → Bool → Cell → Cell
goes o one x = cond o (cond one (start true x) (stop true x)) x

-- the same of the definitions' timers

stop_0 : (o : Bool) (a b c d e f g : Cell) → stop_if o 0 (of a b c d e f g) ≡ of (stop o a) b c d e f g
unfolding stop_if stop_timer
stop_0 true a b c d e f g = refl
stop_0 false a b c d e f g = refl

stop_1 : (o : Bool) (a b c d e f g : Cell) → stop_if o 1 (of a b c d e f g) ≡ of a (stop o b) c d e f g
unfolding stop_if stop_timer
stop_1 true a b c d e f g = refl
stop_1 false a b c d e f g = refl

stop_2 : (o : Bool) (a b c d e f g : Cell) → stop_if o 2 (of a b c d e f g) ≡ of a b (stop o c) d e f g
unfolding stop_if stop_timer
stop_2 true a b c d e f g = refl
stop_2 false a b c d e f g = refl

stop_3 : (o : Bool) (a b c d e f g : Cell) → stop_if o 3 (of a b c d e f g) ≡ of a b c (stop o d) e f g
unfolding stop_if stop_timer
stop_3 true a b c d e f g = refl
stop_3 false a b c d e f g = refl

stop_4 : (o : Bool) (a b c d e f g : Cell) → stop_if o 4 (of a b c d e f g) ≡ of a b c d (stop o e) f g
unfolding stop_if stop_timer
stop_4 true a b c d e f g = refl
stop_4 false a b c d e f g = refl

stop_5 : (o : Bool) (a b c d e f g : Cell) → stop_if o 5 (of a b c d e f g) ≡ of a b c d e (stop o f) g
unfolding stop_if stop_timer
stop_5 true a b c d e f g = refl
stop_5 false a b c d e f g = refl

stop_6 : (o : Bool) (a b c d e f g : Cell) → stop_if o 6 (of a b c d e f g) ≡ of a b c d e f (stop o g)
unfolding stop_if stop_timer
stop_6 true a b c d e f g = refl
stop_6 false a b c d e f g = refl

start_0 : (o : Bool) (a b c d e f g : Cell) → start_if o 0 (of a b c d e f g) ≡ of (start o a) b c d e f g
unfolding start_if start_timer
start_0 true a b c d e f g = refl
start_0 false a b c d e f g = refl

start_1 : (o : Bool) (a b c d e f g : Cell) → start_if o 1 (of a b c d e f g) ≡ of a (start o b) c d e f g
unfolding start_if start_timer
start_1 true a b c d e f g = refl
start_1 false a b c d e f g = refl

start_2 : (o : Bool) (a b c d e f g : Cell) → start_if o 2 (of a b c d e f g) ≡ of a b (start o c) d e f g
unfolding start_if start_timer
start_2 true a b c d e f g = refl
start_2 false a b c d e f g = refl

start_3 : (o : Bool) (a b c d e f g : Cell) → start_if o 3 (of a b c d e f g) ≡ of a b c (start o d) e f g
unfolding start_if start_timer
start_3 true a b c d e f g = refl
start_3 false a b c d e f g = refl

start_4 : (o : Bool) (a b c d e f g : Cell) → start_if o 4 (of a b c d e f g) ≡ of a b c d (start o e) f g
unfolding start_if start_timer
start_4 true a b c d e f g = refl
start_4 false a b c d e f g = refl

limits : (o : Bool) (n : ℕ) (a b c d e f g : Cell) → limit_if o n (of a b c d e f g) ≡ of a b c d e (limit o (not (eqb n 0)) f) g
unfolding limit_if limit_timer
limits true n a b c d e f g = refl
limits false n a b c d e f g = refl

expired : (a b c d e f g : Cell) (n : ℕ) → expired_by n (of a b c d e f g) ≡ of (expires (eqb n 1) a) (expires (eqb n 2) b) (expires (eqb n 3) c) (expires (eqb n 4) d) (expires (eqb n 5) e) (expires (eqb n 6) f) (expires (eqb n 7) g)
unfolding expired_by expire_timer
expired a b c d e f g n =
    by_digit (λ n. expired_by n (of a b c d e f g) ≡ of (expires (eqb n 1) a) (expires (eqb n 2) b) (expires (eqb n 3) c) (expires (eqb n 4) d) (expires (eqb n 5) e) (expires (eqb n 6) f) (expires (eqb n 7) g)) refl refl refl refl refl refl refl refl refl refl
    (λ n h. rw (ne_eqb n 1 (λ z. absurd (omega arith)), ne_eqb n 2 (λ z. absurd (omega arith)), ne_eqb n 3 (λ z. absurd (omega arith)), ne_eqb n 4 (λ z. absurd (omega arith)), ne_eqb n 5 (λ z. absurd (omega arith)), ne_eqb n 6 (λ z. absurd (omega arith)), ne_eqb n 7 (λ z. absurd (omega arith))) refl)
    n

plane : (z w one : Bool) (a b c d e f g : Cell)
    → cond z (of a b c d e f g) (cond w (of a b c d e f g) (cond one (start_timer 6 (of a b c d e f g)) (stop_timer 6 (of a b c d e f g)))) ≡ of a b c d e f (goes (not z && not w) one g)
unfolding start_timer stop_timer
plane true w one a b c d e f g = refl
plane false true one a b c d e f g = refl
plane false false true a b c d e f g = refl
plane false false false a b c d e f g = refl

in_turn : (s0 s1 s2 s3 s4 s5 s6 g0 g1 g2 g3 g4 g5 : Bool) (n : ℕ) (a b c d e f g : Cell)
    → limit_if g5 n (start_if g4 4 (start_if g3 3 (start_if g2 2 (start_if g1 1 (start_if g0 0 (stop_if s6 6 (stop_if s5 5 (stop_if s4 4 (stop_if s3 3 (stop_if s2 2 (stop_if s1 1 (stop_if s0 0 (of a b c d e f g)))))))))))))
    ≡ of (start g0 (stop s0 a)) (start g1 (stop s1 b)) (start g2 (stop s2 c)) (start g3 (stop s3 d)) (start g4 (stop s4 e)) (limit g5 (not (eqb n 0)) (stop s5 f)) (stop s6 g)
in_turn s0 s1 s2 s3 s4 s5 s6 g0 g1 g2 g3 g4 g5 n a b c d e f g =
    let p0 = stop_0 s0 a b c d e f g in
    let p1 = ap (λ (t : Timing). stop_if s1 1 t) p0 ∙ stop_1 s1 (stop s0 a) b c d e f g in
    let p2 = ap (λ (t : Timing). stop_if s2 2 t) p1 ∙ stop_2 s2 (stop s0 a) (stop s1 b) c d e f g in
    let p3 = ap (λ (t : Timing). stop_if s3 3 t) p2 ∙ stop_3 s3 (stop s0 a) (stop s1 b) (stop s2 c) d e f g in
    let p4 = ap (λ (t : Timing). stop_if s4 4 t) p3 ∙ stop_4 s4 (stop s0 a) (stop s1 b) (stop s2 c) (stop s3 d) e f g in
    let p5 = ap (λ (t : Timing). stop_if s5 5 t) p4 ∙ stop_5 s5 (stop s0 a) (stop s1 b) (stop s2 c) (stop s3 d) (stop s4 e) f g in
    let p6 = ap (λ (t : Timing). stop_if s6 6 t) p5 ∙ stop_6 s6 (stop s0 a) (stop s1 b) (stop s2 c) (stop s3 d) (stop s4 e) (stop s5 f) g in
    let p7 = ap (λ (t : Timing). start_if g0 0 t) p6 ∙ start_0 g0 (stop s0 a) (stop s1 b) (stop s2 c) (stop s3 d) (stop s4 e) (stop s5 f) (stop s6 g) in
    let p8 = ap (λ (t : Timing). start_if g1 1 t) p7 ∙ start_1 g1 (start g0 (stop s0 a)) (stop s1 b) (stop s2 c) (stop s3 d) (stop s4 e) (stop s5 f) (stop s6 g) in
    let p9 = ap (λ (t : Timing). start_if g2 2 t) p8 ∙ start_2 g2 (start g0 (stop s0 a)) (start g1 (stop s1 b)) (stop s2 c) (stop s3 d) (stop s4 e) (stop s5 f) (stop s6 g) in
    let p10 = ap (λ (t : Timing). start_if g3 3 t) p9 ∙ start_3 g3 (start g0 (stop s0 a)) (start g1 (stop s1 b)) (start g2 (stop s2 c)) (stop s3 d) (stop s4 e) (stop s5 f) (stop s6 g) in
    let p11 = ap (λ (t : Timing). start_if g4 4 t) p10 ∙ start_4 g4 (start g0 (stop s0 a)) (start g1 (stop s1 b)) (start g2 (stop s2 c)) (start g3 (stop s3 d)) (stop s4 e) (stop s5 f) (stop s6 g) in
    ap (λ (t : Timing). limit_if g5 n t) p11 ∙ limits g5 n (start g0 (stop s0 a)) (start g1 (stop s1 b)) (start g2 (stop s2 c)) (start g3 (stop s3 d)) (start g4 (stop s4 e)) (stop s5 f) (stop s6 g)

-- where there is no order, no bit is set
no_bit : (m d : ℕ) → m / d % 2 ≡ 0 → eqb (m / d % 2) 1 ≡ false
no_bit m d h = rw h refl

orders : (m n : ℕ) (a b c d e f g : Cell)
    → ordered_by m n (of a b c d e f g)
    ≡ of (start (has m 0x1000000000) (stop (has m 0x10000000) a)) (start (has m 0x2000000000) (stop (has m 0x20000000) b)) (start (has m 0x4000000000) (stop (has m 0x40000000) c)) (start (has m 0x8000000000) (stop (has m 0x80000000) d)) (start (has m 0x10000000000) (stop (has m 0x100000000) e)) (limit (has m 0x20000000000) (not (eqb n 0)) (stop (has m 0x200000000) f)) (stop (has m 0x400000000) g)
unfolding ordered_by has
orders m n a b c d e f g =
    by_test (eqb (m / 0x10000000 % 0x10000) 0)
    (λ none.
    let h : m / 0x10000000 % 0x10000 ≡ 0 = eqb-true _ _ none in
    rw (
      none,
      no_bit m 0x10000000 (omega (arith, h)),
      no_bit m 0x20000000 (omega (arith, h)),
      no_bit m 0x40000000 (omega (arith, h)),
      no_bit m 0x80000000 (omega (arith, h)),
      no_bit m 0x100000000 (omega (arith, h)),
      no_bit m 0x200000000 (omega (arith, h)),
      no_bit m 0x400000000 (omega (arith, h)),
      no_bit m 0x1000000000 (omega (arith, h)),
      no_bit m 0x2000000000 (omega (arith, h)),
      no_bit m 0x4000000000 (omega (arith, h)),
      no_bit m 0x8000000000 (omega (arith, h)),
      no_bit m 0x10000000000 (omega (arith, h)),
      no_bit m 0x20000000000 (omega (arith, h)),
    ) refl)
    (λ some. rw some (in_turn (has m 0x10000000) (has m 0x20000000) (has m 0x40000000) (has m 0x80000000) (has m 0x100000000) (has m 0x200000000) (has m 0x400000000) (has m 0x1000000000) (has m 0x2000000000) (has m 0x4000000000) (has m 0x8000000000) (has m 0x10000000000) (has m 0x20000000000) n a b c d e f g))

-- what becomes of one timer

unexpired : (r o : Bool) → expires o (held r) ≡ held (r && not o)
unexpired true true = refl
unexpired true false = refl
unexpired false true = refl
unexpired false false = refl

abbrev became : Bool → Bool → Bool → Cell
became r s g = record { runs = g || (r && not s); stops = (r && s) && not g; starts = g }

plain : (r s g : Bool) → start g (stop s (held r)) ≡ became r s g
plain true true true = refl
plain true true false = refl
plain true false true = refl
plain true false false = refl
plain false true true = refl
plain false true false = refl
plain false false true = refl
plain false false false = refl

limited : (r s g l : Bool) → limit g l (stop s (held r)) ≡ became r (s || g) (g && l)
limited true true true true = refl
limited true true true false = refl
limited true true false true = refl
limited true true false false = refl
limited true false true true = refl
limited true false true false = refl
limited true false false true = refl
limited true false false false = refl
limited false true true true = refl
limited false true true false = refl
limited false true false true = refl
limited false true false false = refl
limited false false true true = refl
limited false false true false = refl
limited false false false true = refl
limited false false false false = refl

planed : (r s t one : Bool) → goes t one (stop s (held r)) ≡ became r (s || t) (t && one)
planed true true true true = refl
planed true true true false = refl
planed true true false true = refl
planed true true false false = refl
planed true false true true = refl
planed true false true false = refl
planed true false false true = refl
planed true false false false = refl
planed false true true true = refl
planed false true true false = refl
planed false true false true = refl
planed false true false false = refl
planed false false true true = refl
planed false false true false = refl
planed false false false true = refl
planed false false false false = refl

alike : {a b c d e f g a' b' c' d' e' f' g' : Cell} → a ≡ a' → b ≡ b' → c ≡ c' → d ≡ d' → e ≡ e' → f ≡ f' → g ≡ g' → of a b c d e f g ≡ of a' b' c' d' e' f' g'
alike {a} {b} {c} {d} {e} {f} {g} {a'} {b'} {c'} {d'} {e'} {f'} {g'} pa pb pc pd pe pf pg =
    ap (λ (x : Cell). of x b c d e f g) pa
    ∙ ap (λ (x : Cell). of a' x c d e f g) pb
    ∙ ap (λ (x : Cell). of a' b' x d e f g) pc
    ∙ ap (λ (x : Cell). of a' b' c' x e f g) pd
    ∙ ap (λ (x : Cell). of a' b' c' d' x f g) pe
    ∙ ap (λ (x : Cell). of a' b' c' d' e' x g) pf
    ∙ ap (λ (x : Cell). of a' b' c' d' e' f' x) pg

-- all of them
pub timed : (n code p : ℕ) (a b c d e f g : Bool)
    → timing_by n code (a ∷ b ∷ c ∷ d ∷ e ∷ f ∷ g ∷ []) p
    ≡ record {
      running = runs_of n code p a 0 ∷ runs_of n code p b 1 ∷ runs_of n code p c 2 ∷ runs_of n code p d 3 ∷ runs_of n code p e 4 ∷ runs_of n code p f 5 ∷ runs_of n code p g 6 ∷ [];
      stops = stop_of n code p a 0 ∷ stop_of n code p b 1 ∷ stop_of n code p c 2 ∷ stop_of n code p d 3 ∷ stop_of n code p e 4 ∷ stop_of n code p f 5 ∷ stop_of n code p g 6 ∷ [];
      starts = started n code p 0 ∷ started n code p 1 ∷ started n code p 2 ∷ started n code p 3 ∷ started n code p 4 ∷ started n code p 5 ∷ started n code p 6 ∷ [];
    }
unfolding timing_by timing plane_timer runs_of stop_of started stopped ran_at starts_at stops_at ordered tells_plane has
timed n code p a b c d e f g =
    let x = n / 0x100000000000 % 16 in
    let first = expired (held a) (held b) (held c) (held d) (held e) (held f) (held g) x in
    let then =
    ap (λ (t : Timing). ordered_by n code t) first
    ∙ orders n code (expires (eqb x 1) (held a)) (expires (eqb x 2) (held b)) (expires (eqb x 3) (held c)) (expires (eqb x 4) (held d)) (expires (eqb x 5) (held e)) (expires (eqb x 6) (held f)) (expires (eqb x 7) (held g)) in
    ap (λ (t : Timing). plane_timer (n / 0x1000 % 16) p t) then
    ∙ plane (eqb (n / 0x1000 % 16) 0) (eqb (n / 0x1000 % 16) 5) (eqb p 1)
    (start (has n 0x1000000000) (stop (has n 0x10000000) (expires (eqb x 1) (held a)))) (start (has n 0x2000000000) (stop (has n 0x20000000) (expires (eqb x 2) (held b)))) (start (has n 0x4000000000) (stop (has n 0x40000000) (expires (eqb x 3) (held c)))) (start (has n 0x8000000000) (stop (has n 0x80000000) (expires (eqb x 4) (held d)))) (start (has n 0x10000000000) (stop (has n 0x100000000) (expires (eqb x 5) (held e)))) (limit (has n 0x20000000000) (not (eqb code 0)) (stop (has n 0x200000000) (expires (eqb x 6) (held f)))) (stop (has n 0x400000000) (expires (eqb x 7) (held g)))
    ∙ alike
    (ap (λ (y : Cell). start (has n 0x1000000000) (stop (has n 0x10000000) y)) (unexpired a (eqb x 1)) ∙ plain (a && not (eqb x 1)) (has n 0x10000000) (has n 0x1000000000))
    (ap (λ (y : Cell). start (has n 0x2000000000) (stop (has n 0x20000000) y)) (unexpired b (eqb x 2)) ∙ plain (b && not (eqb x 2)) (has n 0x20000000) (has n 0x2000000000))
    (ap (λ (y : Cell). start (has n 0x4000000000) (stop (has n 0x40000000) y)) (unexpired c (eqb x 3)) ∙ plain (c && not (eqb x 3)) (has n 0x40000000) (has n 0x4000000000))
    (ap (λ (y : Cell). start (has n 0x8000000000) (stop (has n 0x80000000) y)) (unexpired d (eqb x 4)) ∙ plain (d && not (eqb x 4)) (has n 0x80000000) (has n 0x8000000000))
    (ap (λ (y : Cell). start (has n 0x10000000000) (stop (has n 0x100000000) y)) (unexpired e (eqb x 5)) ∙ plain (e && not (eqb x 5)) (has n 0x100000000) (has n 0x10000000000))
    (ap (λ (y : Cell). limit (has n 0x20000000000) (not (eqb code 0)) (stop (has n 0x200000000) y)) (unexpired f (eqb x 6)) ∙ limited (f && not (eqb x 6)) (has n 0x200000000) (has n 0x20000000000) (not (eqb code 0)))
    (ap (λ (y : Cell). goes (not (eqb (n / 0x1000 % 16) 0) && not (eqb (n / 0x1000 % 16) 5)) (eqb p 1) (stop (has n 0x400000000) y)) (unexpired g (eqb x 7)) ∙ planed (g && not (eqb x 7)) (has n 0x400000000) (not (eqb (n / 0x1000 % 16) 0) && not (eqb (n / 0x1000 % 16) 5)) (eqb p 1))

-- the messages' numbers by the bits are those by the definitions' timers
pub bits_are : (n code value p : ℕ) (v : List ℕ) (t : List Bool) → length t ≡ 7
    → places_from 18 0 (number_in n code value p t) v ≡ places_from 18 0 (number_at (timing_by n code t p).stops (timing_by n code t p).starts n value p) v
unfolding places_from number_in number_at number_after
bits_are n code value p v [] h = absurd (omega (arith, h))
bits_are n code value p v (a ∷ []) h = absurd (omega (arith, h))
bits_are n code value p v (a ∷ b ∷ []) h = absurd (omega (arith, h))
bits_are n code value p v (a ∷ b ∷ c ∷ []) h = absurd (omega (arith, h))
bits_are n code value p v (a ∷ b ∷ c ∷ d ∷ []) h = absurd (omega (arith, h))
bits_are n code value p v (a ∷ b ∷ c ∷ d ∷ e ∷ []) h = absurd (omega (arith, h))
bits_are n code value p v (a ∷ b ∷ c ∷ d ∷ e ∷ f ∷ []) h = absurd (omega (arith, h))
bits_are n code value p v (a ∷ b ∷ c ∷ d ∷ e ∷ f ∷ g ∷ []) h = rw (timed n code p a b c d e f g) refl
bits_are n code value p v (a ∷ b ∷ c ∷ d ∷ e ∷ f ∷ g ∷ x ∷ xs) h = absurd (omega (arith, h))

pub runs_are : (n code p : ℕ) (t : List Bool) → length t ≡ 7 → turns n code p 18 0 t ≡ (timing_by n code t p).running
unfolding turns turned
runs_are n code p [] h = absurd (omega (arith, h))
runs_are n code p (a ∷ []) h = absurd (omega (arith, h))
runs_are n code p (a ∷ b ∷ []) h = absurd (omega (arith, h))
runs_are n code p (a ∷ b ∷ c ∷ []) h = absurd (omega (arith, h))
runs_are n code p (a ∷ b ∷ c ∷ d ∷ []) h = absurd (omega (arith, h))
runs_are n code p (a ∷ b ∷ c ∷ d ∷ e ∷ []) h = absurd (omega (arith, h))
runs_are n code p (a ∷ b ∷ c ∷ d ∷ e ∷ f ∷ []) h = absurd (omega (arith, h))
runs_are n code p (a ∷ b ∷ c ∷ d ∷ e ∷ f ∷ g ∷ []) h = rw (timed n code p a b c d e f g) refl
runs_are n code p (a ∷ b ∷ c ∷ d ∷ e ∷ f ∷ g ∷ x ∷ xs) h = absurd (omega (arith, h))
