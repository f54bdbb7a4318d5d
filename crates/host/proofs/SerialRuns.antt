-- A host's line is the run of the reader: a reader that is given back carries at most 63 bytes, so its 2 bytes are unpacked as it stands, and each number of a
-- result has its own byte.
use Prim.Native.Nat.{ℕ, zero, suc, ◌≤◌}
use mathlib.Core.Path.{◌≡◌, refl, sym, ◌∙◌, ap}
use mathlib.Core.Bool.{Bool, true, false, cond, ◌||◌}
use mathlib.Core.List.{List, [], ◌∷◌, ◌++◌}
use native.Mathlib.Omega.{arith}
use borrow.Author.Tests.{eq-eqb}
use lib.Dec.{eqb, ltb}
use lib.ListN.{length, take, drop}
use Rattle.pieces.specs.Stream.{Front, Unended, Whole, Impossible, front, by_front}
use Rattle.pieces.specs.declared.reader.Reader.{Reader}
use Rattle.pieces.specs.Next.{Outcome, fresh_reader, stopped_reader, refusal, kept, handed_on, begun, found, next_of, record_in}
use Rattle.pieces.specs.Runs as runs
use Rattle.pieces.specs.Runs.{Fed, feed_within, feed, run}
use Rattle.pieces.specs.Claims.{Small}
use Rattle.pieces.proofs.Claims.{small_numbers, every_cutting, loop_ends}
use Rattle.host.specs.SerialLine.{reader_bytes, is_reader, reader_of, found_word, LeftByPiece, left_by, reader_freshened, host_next}
use Rattle.host.specs.SerialRuns.{answer_of, where_of, size_of, used_of, ReadOff, found_then, read_within, read_piece, read_then, line_run, shown_of, packed_fed, LineIsPacked, CallIsNext, EveryCuttingRead, LineEnds, CutSo, StoppedSo}
use Rattle.host.proofs.SerialLine.{is_two, stored, reader_is_unpacked, reader_is_packed}

-- ---- each number of a result

-- where a record may be
handed_where : (b : Bool) (carried : ℕ) (carry piece : List ℕ) (n : ℕ) → eqb carried 0 ≡ b → (handed_on carried carry piece n).lies ≤ 2
unfolding handed_on
handed_where true carried carry piece n e = rw e (omega arith)
handed_where false carried carry piece n e = rw e (omega arith)

where_by : (b₁ b₂ : Bool) (f : Front) (r : Reader) (carry piece : List ℕ)
    → (cond b₁ (refusal 22 r carry)
    (cond b₂ (refusal 21 r carry) (by_front f (kept r.carried carry piece) (handed_on r.carried carry piece) (refusal 20 stopped_reader carry)))
    ).lies
    ≤ 2
unfolding kept
where_by true b₂ f r carry piece = omega arith
where_by false true f r carry piece = omega arith
where_by false false Unended r carry piece = omega arith
where_by false false (Whole n) r carry piece = handed_where (eqb r.carried 0) r.carried carry piece n refl
where_by false false Impossible r carry piece = omega arith

where_small : (r : Reader) (carry piece : List ℕ) → (next_of r carry piece).lies ≤ 2
unfolding next_of found
where_small r carry piece =
    where_by (ltb (length carry) 64) (r.stopped || ltb 63 r.carried) (begun r.carried (front (take r.carried carry ++ piece))) r carry piece

module _ (a w n u : ℕ) (hw : w ≤ 2) (hn : n ≤ 64) (hu : u ≤ 64) where
  answer_off : answer_of (found_word a w n u) ≡ a
  answer_off = omega arith

  where_off : where_of (found_word a w n u) ≡ w
  where_off = omega arith

  size_off : size_of (found_word a w n u) ≡ n
  size_off = omega arith

  used_off : used_of (found_word a w n u) ≡ u
  used_off = omega arith

-- ---- one call over packed bytes

abbrev packed_left : Outcome → LeftByPiece
packed_left o =
    record { result = found_word o.answer o.lies o.size o.used; reader = reader_bytes o.reader; carry = o.carry }

next_packed : (r : Reader) (carry piece : List ℕ) → r.carried ≤ 63 → host_next (reader_bytes r) carry piece ≡ packed_left (next_of r carry piece)
unfolding host_next
next_packed r carry piece h =
    let u = reader_is_unpacked r h in
    ap (λ (b : Bool).
    cond b (left_by (reader_bytes r) (next_of (reader_of (reader_bytes r)) carry piece)) (record { result = found_word 1 0 0 0; reader = reader_bytes r; carry = carry })) u.0
    ∙ ap (λ (x : Reader). left_by (reader_bytes r) (next_of x carry piece)) u.1

-- what the host reads off a result is what was found
module _ (o : Outcome) (small : Small o) (lies : o.lies ≤ 2) (piece : List ℕ) (rest : Fed) where
  then_by : (b : Bool) → eqb o.lies 0 ≡ b
      → cond b (record { records = []; answers = o.answer ∷ []; reader = reader_bytes o.reader; carry = o.carry })
      (record {
        records = record_in o.lies o.size o.carry piece ∷ rest.records;
        answers = o.answer ∷ rest.answers;
        reader = reader_bytes rest.reader;
        carry = rest.carry;
      })
      ≡ packed_fed (runs.found_then o piece rest)
  then_by true e = rw e
  then_by false e = rw e

  then_packed : found_then (packed_left o) piece (packed_fed rest) ≡ packed_fed (runs.found_then o piece rest)
  then_packed =
      rw (
        answer_off o.answer o.lies o.size o.used lies small.size small.used,
        where_off o.answer o.lies o.size o.used lies small.size small.used,
        size_off o.answer o.lies o.size o.used lies small.size small.used,
      )
      (then_by (eqb o.lies 0) refl)

-- ---- a piece, and a run

fed_packed : (k : ℕ) (r : Reader) (carry piece : List ℕ) → r.carried ≤ 63 → read_within k (reader_bytes r) carry piece ≡ packed_fed (feed_within k r carry piece)
unfolding read_within feed_within
fed_packed zero r carry piece h = refl
fed_packed (suc k) r carry piece h =
    let o = next_of r carry piece in
    let small = small_numbers r carry piece h in
    let lies = where_small r carry piece in
    let used = used_off o.answer o.lies o.size o.used lies small.size small.used in
    ap (λ (l : LeftByPiece). found_then l piece (read_within k l.reader l.carry (drop (used_of l.result) piece))) (next_packed r carry piece h)
    ∙ ap (λ (n : ℕ). found_then (packed_left o) piece (read_within k (reader_bytes o.reader) o.carry (drop n piece))) used
    ∙ ap (found_then (packed_left o) piece) (fed_packed k o.reader o.carry (drop o.used piece) small.carried)
    ∙ then_packed o small lies piece (feed_within k o.reader o.carry (drop o.used piece))

fed_few : (k : ℕ) (r : Reader) (carry piece : List ℕ) → r.carried ≤ 63 → (feed_within k r carry piece).reader.carried ≤ 63
unfolding feed_within
fed_few zero r carry piece h = h
fed_few (suc k) r carry piece h =
    let o = next_of r carry piece in
    let small = small_numbers r carry piece h in
    by (eqb o.lies 0) o (feed_within k o.reader o.carry (drop o.used piece)) refl small.carried (fed_few k o.reader o.carry (drop o.used piece) small.carried)
  where
    by : (b : Bool) (o : Outcome) (rest : Fed) → eqb o.lies 0 ≡ b → o.reader.carried ≤ 63 → rest.reader.carried ≤ 63
        → (runs.found_then o piece rest).reader.carried ≤ 63
    by true o rest e h₁ h₂ = rw e h₁
    by false o rest e h₁ h₂ = rw e h₂

run_packed : (r : Reader) (carry : List ℕ) (pieces : List (List ℕ)) → r.carried ≤ 63 → line_run (reader_bytes r) carry pieces ≡ packed_fed (run r carry pieces)
unfolding line_run run read_piece feed
run_packed r carry [] h = refl
run_packed r carry (p ∷ ps) h =
    let f = feed_within (suc (length p)) r carry p in
    ap (λ (l : ReadOff). read_then l (line_run l.reader l.carry ps)) (fed_packed (suc (length p)) r carry p h)
    ∙ ap (read_then (packed_fed f)) (run_packed f.reader f.carry ps (fed_few (suc (length p)) r carry p h))

run_few : (r : Reader) (carry : List ℕ) (pieces : List (List ℕ)) → r.carried ≤ 63 → (run r carry pieces).reader.carried ≤ 63
unfolding run feed
run_few r carry [] h = h
run_few r carry (p ∷ ps) h =
    let f = feed_within (suc (length p)) r carry p in
    run_few f.reader f.carry ps (fed_few (suc (length p)) r carry p h)

begun_fresh : (s : List ℕ) → length s ≡ 2 → (reader_freshened s).1 ≡ reader_bytes fresh_reader
unfolding reader_freshened
begun_fresh s h = rw (eq-eqb (length s) 2 h) (stored s 0 0 h)

-- ---- the claims

pub line_is_packed : LineIsPacked
line_is_packed s carry pieces h =
    ap (λ (l : List ℕ). line_run l carry pieces) (begun_fresh s h) ∙ run_packed fresh_reader carry pieces (omega arith)

pub call_is_next : CallIsNext
call_is_next s carry pieces piece h =
    let f = run fresh_reader carry pieces in
    ap (λ (l : ReadOff). host_next l.reader l.carry piece) (line_is_packed s carry pieces h)
    ∙ next_packed f.reader f.carry piece (run_few fresh_reader carry pieces (omega arith))

pub every_cutting_read : EveryCuttingRead
every_cutting_read s carry pieces h room =
    let f = run fresh_reader carry pieces in
    let u = reader_is_unpacked f.reader (run_few fresh_reader carry pieces (omega arith)) in
    ap shown_of (line_is_packed s carry pieces h)
    ∙ ap (λ (r : Reader). runs.shown (record { records = f.records; answers = f.answers; reader = r; carry = f.carry })) u.1
    ∙ every_cutting carry pieces room

pub line_ends : LineEnds
unfolding read_piece feed
line_ends k s carry piece is less =
    let t = is_two s is in
    let same : reader_bytes (reader_of s) ≡ s = sym (stored s _ _ t.two) ∙ reader_is_packed s is in
    rw (← same)
    (fed_packed k (reader_of s) carry piece t.carried
    ∙ ap packed_fed (loop_ends k (reader_of s) carry piece less)
    ∙ sym (fed_packed (suc (length piece)) (reader_of s) carry piece t.carried))

-- ---- the witness, by computing it

pub cut_so : CutSo
unfolding front kept handed_on found next_of is_reader reader_freshened host_next read_within read_piece line_run
cut_so = refl

pub stopped_so : StoppedSo
unfolding front kept handed_on found next_of is_reader reader_freshened host_next read_within read_piece line_run
stopped_so = refl
