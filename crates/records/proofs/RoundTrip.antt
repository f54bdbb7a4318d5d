-- What is written reads back as the same value, and what is read is written back as the same bytes: for any lawful table, by induction
-- over the letters of a row.
use Prim.Native.Nat.{ℕ, zero, suc, ◌+◌, ◌*◌, ◌/◌, ◌%◌, ◌^◌, ◌<◌, ◌≤◌}
use mathlib.Core.Path.{◌≡◌, refl, sym, ◌∙◌, ap}
use mathlib.Core.Bool.{Bool, true, false, cond, ◌&&◌, ◌||◌}
use mathlib.Core.List.{List, [], ◌∷◌, ◌++◌}
use mathlib.Core.Logic.{◌⊎◌, inl, inr, ⊎_elim}
use mathlib.Core.Option.{Option, none, some}
use native.Mathlib.Omega.{arith}
use native.Mathlib.Nat.{pow-suc, zero-add}
use borrow.Author.Tests.{ltb-true, leb-true, eqb-true, le-leb, eq-eqb, not-true}
use lib.Dec.{lit<, ltb, leb, eqb}
use lib.ListN.{length, get_or, take, drop, length-drop, take-append-drop}
use lib.Seq.{drop-cons, drop-drop, drop_at, take-add, take_all, take-append_seam, sets, sets-eq}
use Rattle.records.specs.declared.letters.Byte.{Byte}
use Rattle.records.specs.declared.letters.Word.{Word}
use Rattle.records.specs.declared.letters.Long.{Long}
use Rattle.records.specs.Letters.{Letter, byte, word, long, width, fits, span_of, within, is_timer, is_direct_timer}
use Rattle.records.specs.Bytes.{number, bytes}
use Rattle.records.specs.Bodies.{Values, Wrote, wrote, not_written, Found, is, bad_at, size, and_then, value_at, values_at, kind_in, body_of, all_fit, body_bytes, flat_size, flat_fits, flat_bytes, written}
use Rattle.records.specs.Tables.{Table, Read, taken, refused, or_refuse, or_place, find, known, listed, size_of, sized, read_body, read_among, read_as, read, flat_of, flat, fine, write}
use Rattle.records.specs.Laws.{every, Lawful, WrittenReadsBack, WriterReadsBack, ReadIsWrittenBack, ReadWritesBack}
use Rattle.records.specs.Events.{events}
use Rattle.records.specs.Messages.{messages}
use Rattle.records.proofs.Laws.{by_test, both, length-bytes, length-body_bytes}
use Rattle.records.proofs.Rows.{by_size, of_all, good, headed}
use Rattle.records.proofs.Tables.{event_lawful, message_lawful}

-- ---- tests and options that came out well

either : {n : ℕ} (a : Bool) (v k : ℕ) → (a ≡ true → v < n) → k < n → (a || eqb v k) ≡ true → v < n
either true v k f h e = f refl
either false v k f h e = omega (arith, eqb-true v k e)

-- ---- a letter's values take no more bytes than it has

most : (b : Byte) → (span_of b).most < 256
most Byte.G = lit< tt
most Byte.D = lit< tt
most Byte.Q = lit< tt
most Byte.R = lit< tt
most Byte.K = lit< tt
most Byte.O = lit< tt
most Byte.O16 = lit< tt
most Byte.C = lit< tt
most Byte.P = lit< tt
most Byte.X = lit< tt
most Byte.S = lit< tt
most Byte.Y = lit< tt
most Byte.V = lit< tt
most Byte.Any = lit< tt

timer : (v : ℕ) → is_timer v ≡ true → v < 65536
unfolding is_timer
timer v =
    either _ v 311
    (either _ v 310
    (either _ v 308
    (either _ v 306
    (either _ v 303
    (either _ v 302 (λ (h : eqb v 301 ≡ true). omega (arith, eqb-true v 301 h)) (lit< tt))
    (lit< tt))
    (lit< tt))
    (lit< tt))
    (lit< tt))
    (lit< tt)

direct_timer : (v : ℕ) → is_direct_timer v ≡ true → v < 65536
unfolding is_direct_timer
direct_timer v = either _ v 311 (λ (h : eqb v 303 ≡ true). omega (arith, eqb-true v 303 h)) (lit< tt)

capped : (least most v : ℕ) → within least most v ≡ true → v ≤ most
unfolding within
capped least most v h = leb-true v most (both (leb least v) (leb v most) h).1

pub below : (l : Letter) (v : ℕ) → fits l v ≡ true → v < 256 ^ width l
below (byte b) v h = omega (arith, most b, capped (span_of b).least (span_of b).most v h)
below (word Word.I) v h = omega (arith, capped 1 16383 v h)
below (word Word.I0) v h = omega (arith, capped 0 16383 v h)
below (word Word.N) v h = timer v h
below (word Word.U) v h = omega (arith, capped 0 65535 v h)
below (word Word.N2) v h = direct_timer v h
below (long Long.A) v h = omega (arith, capped 0 16777215 v h)
below (long Long.A1) v h = omega (arith, capped 1 16777215 v h)

-- ---- numbers and bytes

head_at : (s : List ℕ) (at x : ℕ) (rest : List ℕ) → drop at s ≡ x ∷ rest → (get_or s at 0 ≡ x) × (drop (suc at) s ≡ rest)
head_at [] zero x rest e = (cc, cc)
head_at [] (suc at) x rest e = (cc, cc)
head_at (y ∷ s) zero x rest e = (cc, cc)
head_at (y ∷ s) (suc at) x rest e = head_at s at x rest e

-- the bytes of a number stand for it
number_bytes : (w v at : ℕ) (s rest : List ℕ) → v < 256 ^ w → drop at s ≡ bytes w v ++ rest → number w s at ≡ v
unfolding number bytes
number_bytes zero v at s rest h e = omega arith
number_bytes (suc w) v at s rest h e =
    let p : (get_or s at 0 ≡ v % 256) × (drop (suc at) s ≡ bytes w (v / 256) ++ rest) = head_at s at (v % 256) _ e in
    let q : number w s (suc at) ≡ v / 256 = number_bytes w (v / 256) (suc at) s rest (omega (arith, pow-suc 256 w)) p.1 in
    omega (arith, p.0, q)

-- the number that bytes stand for has those bytes
bytes_number : (w at : ℕ) (s : List ℕ) → ((i : ℕ) → get_or s i 0 < 256) → at + w ≤ length s → bytes w (number w s at) ≡ take w (drop at s)
unfolding number bytes
bytes_number zero at s small h = refl
bytes_number (suc w) at s small h =
    let low : (get_or s at 0 + 256 * number w s (suc at)) % 256 ≡ get_or s at 0 = omega (arith, small at) in
    let high : (get_or s at 0 + 256 * number w s (suc at)) / 256 ≡ number w s (suc at) = omega (arith, small at) in
    rw (low, high, drop-cons s at 0 (omega arith), bytes_number w (suc at) s small (omega arith))

-- ---- bodies

-- the bytes of values hold those values
values_body : (ls : List Letter) (vs : Values ls) (s : List ℕ) (at : ℕ) → all_fit ls vs ≡ true → drop at s ≡ body_bytes ls vs → values_at ls s at ≡ is vs
unfolding values_at value_at all_fit body_bytes
values_body [] vs s at fit e = refl
values_body (l ∷ ls) vs s at fit e =
    let f : (fits l vs.0 ≡ true) × (all_fit ls vs.1 ≡ true) = both _ _ fit in
    let n : number (width l) s at ≡ vs.0 = number_bytes (width l) vs.0 at s _ (below l vs.0 f.0) e in
    let rest : drop (at + width l) s ≡ body_bytes ls vs.1 = sym (drop-drop (width l) at s) ∙ ap (drop (width l)) e ∙ drop_at (bytes (width l) vs.0) _ (width l) (length-bytes (width l) vs.0) in
    rw (n, f.0, values_body ls vs.1 s (at + width l) f.1 rest)

-- a value that was taken, and then the others
pub one_more : {A B : Type 0} (b : Bool) (x y : A) (p : ℕ) (o : Found B) (z : B) → and_then (cond b (is x) (bad_at p)) (λ v. and_then {B = A × B} o (λ w. is (v, w))) ≡ is (y, z) → (b ≡ true) × ((x ≡ y) × (o ≡ is z))
one_more {A} {B} true x y p (is w) z e = let q : ◌≡◌ {A = A × B} (x, w) (y, z) = cc in (refl, (ap (λ r. r.0) q, ap is (ap (λ r. r.1) q)))
one_more true x y p (bad_at n) z e = (refl, (cc, cc))
one_more false x y p o z e = (cc, (cc, cc))

-- the values that bytes hold have those bytes
body_values : (ls : List Letter) (vs : Values ls) (s : List ℕ) (at : ℕ) → ((i : ℕ) → get_or s i 0 < 256) → at + size ls ≤ length s → values_at ls s at ≡ is vs → (body_bytes ls vs ≡ take (size ls) (drop at s)) × (all_fit ls vs ≡ true)
unfolding values_at value_at all_fit body_bytes
body_values [] vs s at small h e = (refl, refl)
body_values (l ∷ ls) vs s at small h e =
    let p : (fits l (number (width l) s at) ≡ true) × ((number (width l) s at ≡ vs.0) × (values_at ls s (at + width l) ≡ is vs.1)) = one_more _ _ _ _ _ _ e in
    let fit : fits l vs.0 ≡ true = rw p.1.0 at p.0 in
    let first : bytes (width l) vs.0 ≡ take (width l) (drop at s) = rw p.1.0 at (bytes_number (width l) at s small (omega arith)) in
    let rest : (body_bytes ls vs.1 ≡ take (size ls) (drop (at + width l) s)) × (all_fit ls vs.1 ≡ true) = body_values ls vs.1 s (at + width l) small (omega arith) p.1.1 in
    (rw (take-add, drop-drop, first, rest.0), rw (fit, rest.1))

-- ---- tests on the way to an answer

chosen : {A : Type 0} (b : Bool) (j k : A) (o : Option A) → cond b (some j) o ≡ some k → ((b ≡ true) × (j ≡ k)) ⊎ (o ≡ some k)
chosen true j k o e = inl (refl, cc)
chosen false j k o e = inr e

kept : {A : Type 0} (b : Bool) (o : Option A) (a : A) → cond b o none ≡ some a → (b ≡ true) × (o ≡ some a)
kept true o a e = (refl, e)
kept false o a e = (cc, cc)

measured : {A : Type 0} (b : Bool) (o : Found A) (a : A) → cond b o (bad_at 2) ≡ is a → (b ≡ true) × (o ≡ is a)
measured true o a e = (refl, e)
measured false o a e = (cc, cc)

took : {A B : Type 0} (n : ℕ) (o : Option A) (f : A → Read B) (v : B) → or_refuse n o f ≡ taken v → (a : A) × ((o ≡ some a) × (f a ≡ taken v))
took n none f v e = let z : ◌≡◌ {A = ℕ} 0 1 = cc in absurd (omega arith)
took n (some a) f v e = (a, (refl, e))

held : {A B : Type 0} (o : Found A) (f : A → Read B) (v : B) → or_place o f ≡ taken v → (a : A) × ((o ≡ is a) × (f a ≡ taken v))
held (is a) f v e = (a, (refl, e))
held (bad_at p) f v e = let z : ◌≡◌ {A = ℕ} 0 1 = cc in absurd (omega arith)

-- a number that is not retired and is known, and a kind that has the size
used : {A : Type 0} (b : Bool) (x : Read A) (v : A) → cond b (refused 9 0) x ≡ taken v → x ≡ taken v
used true x v e = cc
used false x v e = e

knew : {A : Type 0} (b : Bool) (x : Read A) (v : A) → cond b x (refused 3 0) ≡ taken v → x ≡ taken v
knew true x v e = e
knew false x v e = cc

pub of_size : {A : Type 0} (o : Option A) (k : A) → sized o ≡ is k → o ≡ some k
of_size none k e = cc
of_size (some j) k e = cc

agreed : {A : Type 0} (b : Bool) (x v : A) (p : ℕ) → cond b (taken x) (refused 4 p) ≡ taken v → (b ≡ true) × (x ≡ v)
agreed true x v p e = (refl, cc)
agreed false x v p e = (cc, cc)

roomy : (ok room : Bool) (out full buffer after : List ℕ) (n : ℕ) → ◌≡◌ {A = Wrote × List ℕ} (cond ok (cond room (wrote (length out), full) (not_written 7, buffer)) (not_written 4, buffer)) (wrote n, after) → (ok ≡ true) × ((room ≡ true) × ((length out ≡ n) × (full ≡ after)))
roomy true true out full buffer after n e = let q : wrote (length out) ≡ wrote n = ap (λ r. r.0) e in (refl, (refl, (cc, ap (λ r. r.1) e)))
roomy true false out full buffer after n e = let q : not_written 7 ≡ wrote n = ap (λ r. r.0) e in (refl, (cc, (cc, cc)))
roomy false room out full buffer after n e = let q : not_written 4 ≡ wrote n = ap (λ r. r.0) e in (cc, (cc, (cc, cc)))

-- ---- records

-- four bytes and the rest
cut : (s : List ℕ) (n : ℕ) → length s ≡ 4 + n → take 2 s ++ (take 2 (drop 2 s) ++ take n (drop 4 s)) ≡ s
cut s n e =
    rw (take_all n (drop 4 s) (rw length-drop (omega arith)), ← drop-drop 2 2 s, take-append-drop, take-append-drop)

module _ (t : Table) (lawful : Lawful t) where
  -- the kind that is found has the number
  pub found_number : (n z : ℕ) (ks : List t.Kind) (k : t.Kind) → find t n z ks ≡ some k → n ≡ (t.row_of k).number
  found_number n z [] k e = cc
  found_number n z (j ∷ ks) k e =
      ⊎_elim (λ w. eqb-true n (t.row_of j).number (both _ _ w.0).0 ∙ ap (λ i. (t.row_of i).number) w.1) (found_number n z ks k)
      (chosen (eqb n (t.row_of j).number && eqb z (size_of t j)) j k (find t n z ks) e)

  -- and the size
  pub found_size : (n z : ℕ) (ks : List t.Kind) (k : t.Kind) → find t n z ks ≡ some k → z ≡ size_of t k
  found_size n z [] k e = cc
  found_size n z (j ∷ ks) k e =
      ⊎_elim (λ w. eqb-true z (size_of t j) (both (eqb n (t.row_of j).number) (eqb z (size_of t j)) w.0).1 ∙ ap (size_of t) w.1) (found_size n z ks k)
      (chosen (eqb n (t.row_of j).number && eqb z (size_of t j)) j k (find t n z ks) e)

  -- a number that is known is a kind's
  pub known_kind : (n : ℕ) (ks : List t.Kind) → known t n ks ≡ true → (k : t.Kind) × (n ≡ (t.row_of k).number)
  known_kind n [] h = let z : ◌≡◌ {A = Bool} false true = h in let y : ◌≡◌ {A = ℕ} 0 1 = cc in absurd (omega arith)
  known_kind n (j ∷ ks) h = by_test (eqb n (t.row_of j).number) (λ y. (j, eqb-true _ _ y)) (λ no. known_kind n ks (rw no at h))

  -- a number that leads to a kind is known
  pub found_known : (n z : ℕ) (ks : List t.Kind) (k : t.Kind) → find t n z ks ≡ some k → known t n ks ≡ true
  found_known n z [] k e = cc
  found_known n z (j ∷ ks) k e = by_test (eqb n (t.row_of j).number) (λ h. rw h) (λ h. rw h (found_known n z ks k (rw h at e)))

  -- and a test of every kind holds of it
  pub every_found : (p : t.Kind → Bool) (n z : ℕ) (ks : List t.Kind) (k : t.Kind) → find t n z ks ≡ some k → every p ks ≡ true → p k ≡ true
  every_found p n z [] k e h = cc
  every_found p n z (j ∷ ks) k e h =
      ⊎_elim (λ w. rw w.1 at (both (p j) (every p ks) h).0) (λ w. every_found p n z ks k w (both (p j) (every p ks) h).1)
      (chosen (eqb n (t.row_of j).number && eqb z (size_of t j)) j k (find t n z ks) e)

  pub in_force : (k : t.Kind) → listed (t.row_of k).number t.retired ≡ false
  in_force k = not-true _ (every_found _ (t.row_of k).number (size_of t k) t.kinds k (lawful.found k) lawful.current)

  pub narrow : (k : t.Kind) → ((t.row_of k).number < 65536) × (4 + size (t.row_of k).letters < 65536)
  narrow k =
      let w : (ltb (t.row_of k).number 65536 ≡ true) × (ltb (4 + size (t.row_of k).letters) 65536 ≡ true) = both _ _ (every_found _ (t.row_of k).number (size_of t k) t.kinds k (lawful.found k) lawful.narrow) in
      (ltb-true _ _ w.0, ltb-true _ _ w.1)

  -- bytes that are the record of a kind with its values
  record Holds (k : t.Kind) (vs : Values (t.row_of k).letters) (s : List ℕ) : Type 0 where
    measured : length s ≡ 4 + size (t.row_of k).letters
    said : number 2 s 0 ≡ length s
    kind : number 2 s 2 ≡ (t.row_of k).number
    body : values_at (t.row_of k).letters s 4 ≡ is vs

  -- they are read so
  holds_read : (k : t.Kind) (vs : Values (t.row_of k).letters) (s : List ℕ) → Holds k vs s → t.agrees (t.value_of k vs) ≡ true → read t s ≡ taken (t.value_of k vs)
  unfolding kind_in
  holds_read k vs s h agrees =
      let head : some (t.row_of k).number ≡ kind_in s = rw (le-leb 4 (length s) (omega arith), eq-eqb _ _ h.said, h.kind) in
      sym (headed t s head (of_all t _ s (in_force k) (by_size t t.kinds k s refl (found_known _ _ t.kinds k (lawful.found k)) h.measured (lawful.found k) (good t k s h.measured (record { held = sym h.body }) agrees))))

  -- and nothing else is
  read_holds : (v : t.Value) (s : List ℕ) → read t s ≡ taken v → (k : t.Kind) × ((vs : Values (t.row_of k).letters) × (Holds k vs s × ((t.agrees v ≡ true) × (t.value_of k vs ≡ v))))
  unfolding read read_as read_among read_body kind_in body_of
  read_holds v s e =
      let head : (n : ℕ) × ((kind_in s ≡ some n) × (read_as t n s ≡ taken v)) = took 2 (kind_in s) (λ n. read_as t n s) v e in
      let line : (k : t.Kind) × ((sized (find t head.0 (length s) t.kinds) ≡ is k) × (read_body t k s ≡ taken v)) = held (sized (find t head.0 (length s) t.kinds)) (λ k. read_body t k s) v (knew (known t head.0 t.kinds) (or_place (sized (find t head.0 (length s) t.kinds)) (λ k. read_body t k s)) v (used (listed head.0 t.retired) (read_among t t.kinds head.0 s) v head.1.1)) in
      let k : t.Kind = line.0 in
      let w : (vs : Values (t.row_of k).letters) × ((body_of (t.row_of k).letters s ≡ is vs) × (cond (t.agrees (t.value_of k vs)) (taken (t.value_of k vs)) (refused 4 t.clash) ≡ taken v)) = held (body_of (t.row_of k).letters s) _ v line.1.1 in
      let vs : Values (t.row_of k).letters = w.0 in
      let ok : (t.agrees (t.value_of k vs) ≡ true) × (t.value_of k vs ≡ v) = agreed _ _ v t.clash w.1.1 in
      let four : (leb 4 (length s) ≡ true) × (cond (eqb (number 2 s 0) (length s)) (some (number 2 s 2)) none ≡ some head.0) = kept _ _ _ head.1.0 in
      let said : (eqb (number 2 s 0) (length s) ≡ true) × (some (number 2 s 2) ≡ some head.0) = kept _ _ _ four.1 in
      let body : (eqb (length s) (4 + size (t.row_of k).letters) ≡ true) × (values_at (t.row_of k).letters s 4 ≡ is vs) = measured _ _ _ w.1.0 in
      let number : number 2 s 2 ≡ head.0 = cc said.1 in
      (k, (vs, (record { measured = eqb-true _ _ body.0; said = eqb-true _ _ said.0; kind = number ∙ found_number head.0 (length s) t.kinds k (of_size _ k line.1.0); body = body.1 }, (rw ok.1 at ok.0, ok.1))))

  -- the bytes that are written are such
  bytes_hold : (k : t.Kind) (vs : Values (t.row_of k).letters) → all_fit (t.row_of k).letters vs ≡ true → Holds k vs (flat_bytes (flat_of t k vs))
  unfolding flat_bytes flat_size bytes
  bytes_hold k vs fit =
      let measured : length (flat_bytes (flat_of t k vs)) ≡ 4 + size (t.row_of k).letters = omega (arith, length-body_bytes (t.row_of k).letters vs) in
      record {
        measured = measured;
        said = number_bytes 2 (4 + size (t.row_of k).letters) 0 _ (bytes 2 (t.row_of k).number ++ body_bytes (t.row_of k).letters vs) (narrow k).1 refl ∙ sym measured;
        kind = number_bytes 2 (t.row_of k).number 2 _ (body_bytes (t.row_of k).letters vs) (narrow k).0 refl;
        body = values_body (t.row_of k).letters vs _ 4 fit refl;
      }

  -- and nothing else is
  holds_bytes : (k : t.Kind) (vs : Values (t.row_of k).letters) (s : List ℕ) → ((i : ℕ) → get_or s i 0 < 256) → Holds k vs s → (flat_bytes (flat_of t k vs) ≡ s) × (all_fit (t.row_of k).letters vs ≡ true)
  unfolding flat_bytes flat_size
  holds_bytes k vs s small h =
      let length : bytes 2 (4 + size (t.row_of k).letters) ≡ take 2 s = rw (h.said, h.measured) at (bytes_number 2 0 s small (omega arith)) in
      let kind : bytes 2 (t.row_of k).number ≡ take 2 (drop 2 s) = rw h.kind at (bytes_number 2 2 s small (omega arith)) in
      let body : (body_bytes (t.row_of k).letters vs ≡ take (size (t.row_of k).letters) (drop 4 s)) × (all_fit (t.row_of k).letters vs ≡ true) = body_values (t.row_of k).letters vs s 4 small (omega arith) h.body in
      (rw (length, kind, body.0) (cut s _ h.measured), body.1)

  pub written_reads_back : WrittenReadsBack t
  unfolding fine flat_fits
  written_reads_back v ok =
      let w : (all_fit (flat t v).letters (flat t v).values ≡ true) × (t.agrees v ≡ true) = both _ _ ok in
      rw (lawful.again v) at (holds_read (t.apart v).0 (t.apart v).1 (flat_bytes (flat t v)) (bytes_hold (t.apart v).0 (t.apart v).1 w.0) (rw (lawful.again v) w.1))

  pub writer_reads_back : WriterReadsBack t
  unfolding write written
  writer_reads_back v n buffer after e =
      let w : (fine t v ≡ true) × ((leb (length (flat_bytes (flat t v))) (length buffer) ≡ true) × ((length (flat_bytes (flat t v)) ≡ n) × (sets buffer 0 (flat_bytes (flat t v)) ≡ after))) = roomy _ _ (flat_bytes (flat t v)) _ buffer after n e in
      let room : length (flat_bytes (flat t v)) ≤ length buffer = leb-true (length (flat_bytes (flat t v))) (length buffer) w.1.0 in
      rw (← w.1.1.0, ← w.1.1.1, sets-eq (flat_bytes (flat t v)) buffer 0 (omega arith), take-append_seam) (written_reads_back v w.0)

  pub read_is_written_back : ReadIsWrittenBack t
  unfolding fine flat_fits
  read_is_written_back v s small e =
      let w : (k : t.Kind) × ((vs : Values (t.row_of k).letters) × (Holds k vs s × ((t.agrees v ≡ true) × (t.value_of k vs ≡ v)))) = read_holds v s e in
      let b : (flat_bytes (flat_of t w.0 w.1.0) ≡ s) × (all_fit (t.row_of w.0).letters w.1.0 ≡ true) = holds_bytes w.0 w.1.0 s small w.1.1.0 in
      let same : ◌≡◌ {A = (k : t.Kind) × Values (t.row_of k).letters} (t.apart v) (w.0, w.1.0) = rw w.1.1.1.1 at (lawful.together w.0 w.1.0 b.1) in
      (ap (λ kv. flat_bytes (flat_of t kv.0 kv.1)) same ∙ b.0, rw (ap (λ kv. flat_fits (flat_of t kv.0 kv.1)) same ∙ b.1, w.1.1.1.0))

  pub read_writes_back : ReadWritesBack t
  unfolding write written
  read_writes_back v s buffer small room e =
      let w : (flat_bytes (flat t v) ≡ s) × (fine t v ≡ true) = read_is_written_back v s small e in
      rw (w.1, w.0, le-leb _ _ room, sets-eq s buffer 0 (omega arith), zero-add)

-- ---- the two tables

pub event_written_reads_back : WrittenReadsBack events
event_written_reads_back = written_reads_back events event_lawful

pub event_writer_reads_back : WriterReadsBack events
event_writer_reads_back = writer_reads_back events event_lawful

pub event_read_is_written_back : ReadIsWrittenBack events
event_read_is_written_back = read_is_written_back events event_lawful

pub event_read_writes_back : ReadWritesBack events
event_read_writes_back = read_writes_back events event_lawful

pub message_written_reads_back : WrittenReadsBack messages
message_written_reads_back = written_reads_back messages message_lawful

pub message_writer_reads_back : WriterReadsBack messages
message_writer_reads_back = writer_reads_back messages message_lawful

pub message_read_is_written_back : ReadIsWrittenBack messages
message_read_is_written_back = read_is_written_back messages message_lawful

pub message_read_writes_back : ReadWritesBack messages
message_read_writes_back = read_writes_back messages message_lawful
