-- A run of `next` from the fresh reader shows what the input holds, however the input was cut.
use Prim.Native.Nat.{ℕ, zero, suc, ◌+◌, ◌-◌, ◌≤◌, ◌<◌}
use mathlib.Core.Path.{◌≡◌, refl, sym, ◌∙◌, ap}
use mathlib.Core.Bool.{Bool, true, false, cond}
use mathlib.Core.List.{List, [], ◌∷◌, ◌++◌, append_assoc, append-nil}
use native.Mathlib.Omega.{arith}
use borrow.Author.Tests.{lt-ltb, le-ltb, ltb-true, ltb-false}
use lib.Dec.{ltb, lit≤, eqb-suc-zero}
use lib.ListN.{length, take, drop, length-drop}
use lib.Seq.{paste, take-paste, length-paste, take-length, length-take-le}
use Rattle.pieces.specs.Stream.{Front, Unended, Whole, Impossible, front, by_front, Held, after, holds}
use Rattle.pieces.specs.declared.reader.Reader.{Reader}
use Rattle.pieces.specs.Next.{Outcome, fresh_reader, stopped_reader, refusal, kept, handed_on, begun, found, next_of}
use Rattle.pieces.specs.Runs.{Fed, found_then, feed_within, feed, fed_then, run, shown, joined}
use Rattle.pieces.specs.Claims.{each}
use Rattle.pieces.proofs.Answers.{goes_on}
use Rattle.pieces.proofs.Completing.{rest_there, completed, left_over, same_size}
use Rattle.pieces.proofs.Fronts.{whole_is, unended_short, unended_more, same_length_field}
use Rattle.pieces.proofs.Holding.{behind, then_more, holds_unended, holds_whole, holds_impossible, holds-append}
use Rattle.pieces.proofs.Seen.{seen_length}

abbrev pub going : ℕ → Reader
going c = record { carried = c; stopped = false }

-- a reader that goes on, with a carry: what it carries is a record that has not ended
pub record Ready (c : ℕ) (carry : List ℕ) : Type 0 where
  pub room : 64 ≤ length carry
  pub begins : front (take c carry) ≡ Unended
  pub few : c ≤ 63

-- how a reader of a run stands
pub data Standing : Reader → List ℕ → Type 0 where
  goes : {c : ℕ} {carry : List ℕ} → Ready c carry → Standing (going c) carry
  halted : {carry : List ℕ} → 64 ≤ length carry → Standing stopped_reader carry

-- ---- one call of `next`

module _ (c : ℕ) (carry piece : List ℕ) (ready : Ready c carry) where
  abbrev pub seen : List ℕ
  seen = take c carry ++ piece

  within : c ≤ length carry
  within = omega (arith, ready.room, ready.few)

  carried_length : length (take c carry) ≡ c
  carried_length = length-take-le c carry within

  more_by : (b : Bool) → ltb c 2 ≡ b → {n : ℕ} → front seen ≡ Whole n → c < n
  more_by true h {n} e = omega (arith, ltb-true c 2 h, (whole_is seen e).least)
  more_by false h {n} e =
      let two : 2 ≤ length (take c carry) = omega (arith, ltb-false c 2 h, carried_length) in
      omega
      (arith, carried_length, unended_more (take c carry) ready.begins two, same_length_field (take c carry) piece two, (whole_is seen e).says)

  -- a record that was begun has more bytes than are carried
  more_than_carried : {n : ℕ} → front seen ≡ Whole n → c < n
  more_than_carried e = more_by (ltb c 2) refl e

  as_seen : (f : Front) → front seen ≡ f → begun c f ≡ f
  as_seen Unended e = refl
  as_seen (Whole n) e = rw (lt-ltb c n (more_than_carried e))
  as_seen Impossible e = refl

  next_is : next_of (going c) carry piece
      ≡ by_front (front seen) (kept c carry piece) (handed_on c carry piece) (refusal 20 stopped_reader carry)
  unfolding found
  next_is = sym (goes_on (going c) carry piece ready.room refl ready.few) ∙ rw (as_seen (front seen) refl)

  -- a piece that is kept is carried behind the rest
  kept_seen : take (c + length piece) (paste carry c piece (length piece)) ≡ seen
  kept_seen = take-paste carry c piece (length piece) within (omega arith) ∙ ap (λ (l : List ℕ). take c carry ++ l) (take-length piece)

  keeps_ready : front seen ≡ Unended → Ready (c + length piece) (paste carry c piece (length piece))
  keeps_ready e =
      let short : c + length piece ≤ 63 = omega (arith, unended_short seen e, seen_length c carry piece within) in
      let same = length-paste carry c piece (length piece) (omega (arith, ready.room)) (omega arith) in
      record { room = omega (arith, ready.room, same); begins = rw kept_seen e; few = short }

pub nothing_carried : {carry : List ℕ} → 64 ≤ length carry → Ready 0 carry
unfolding front
nothing_carried room = record { room = room; begins = refl; few = lit≤ tt }

-- ---- one piece, with the loop over what each call leaves

pub record Feeds (f : Fed) (s : List ℕ) : Type 0 where
  pub shows : shown f ≡ holds s
  pub stands : Standing f.reader f.carry

abbrev fed_by : ℕ → Outcome → List ℕ → Fed
fed_by k o piece = found_then o piece (feed_within k o.reader o.carry (drop o.used piece))

abbrev Fewer : ℕ → Type 0
Fewer k = (carry piece : List ℕ) → 64 ≤ length carry → length piece < k → Feeds (feed_within k fresh_reader carry piece) piece

module _ (k : ℕ) (fewer : Fewer k) where
  -- after a record, the rest of the piece
  then_rest : (s r t : List ℕ) {n : ℕ} {f : Fed} → front s ≡ Whole n → r ≡ take n s → t ≡ drop n s → Feeds f t → after r (shown f) ≡ holds s
  then_rest s r t {n} {f} e is rest feeds =
      ap (after r) feeds.shows ∙ ap (λ (x : List ℕ). after x (holds t)) is ∙ ap (λ (x : List ℕ). after (take n s) (holds x)) rest
      ∙ sym (holds_whole s n e)

  handed_on_lem : (c : ℕ) (carry piece : List ℕ) (ready : Ready c carry) {n : ℕ} → front (take c carry ++ piece) ≡ Whole n → length piece < suc k
      → Feeds (fed_by k (handed_on c carry piece n) piece) (take c carry ++ piece)
  unfolding handed_on
  handed_on_lem zero carry piece ready {n} e room =
      let w = whole_is piece e in
      let f = fewer carry (drop n piece) ready.room (rw length-drop (omega (arith, w.least, w.there))) in
      record { shows = then_rest piece (take n piece) (drop n piece) e refl refl f; stands = f.stands }
  handed_on_lem (suc m) carry piece ready {n} e room =
      let in_carry = within (suc m) carry piece ready in
      let more = more_than_carried (suc m) carry piece ready e in
      let there = rest_there (suc m) carry piece in_carry e more in
      let f =
      fewer (paste carry (suc m) piece (n - suc m)) (drop (n - suc m) piece)
      (omega (arith, ready.room, same_size (suc m) carry piece in_carry e more ready.room))
      (rw length-drop (omega (arith, there, more))) in
      rw (eqb-suc-zero m)
      (record { shows = then_rest (take (suc m) carry ++ piece) (take n (paste carry (suc m) piece (n - suc m))) (drop (n - suc m) piece) e (completed (suc m) carry piece in_carry e more) (left_over (suc m) carry piece in_carry e more) f; stands = f.stands })

  by_case : (c : ℕ) (carry piece : List ℕ) (ready : Ready c carry) → length piece < suc k → (f : Front) → front (take c carry ++ piece) ≡ f
      → Feeds (fed_by k (by_front f (kept c carry piece) (handed_on c carry piece) (refusal 20 stopped_reader carry)) piece) (take c carry ++ piece)
  unfolding kept
  by_case c carry piece ready room Unended e =
      record {
        shows = rw (kept_seen c carry piece ready, holds_unended (take c carry ++ piece) e);
        stands = goes (keeps_ready c carry piece ready e);
      }
  by_case c carry piece ready room (Whole n) e = handed_on_lem c carry piece ready e room
  by_case c carry piece ready room Impossible e =
      record { shows = sym (holds_impossible (take c carry ++ piece) e); stands = halted ready.room }

  feeds_one : (c : ℕ) (carry piece : List ℕ) → Ready c carry → length piece < suc k
      → Feeds (feed_within (suc k) (going c) carry piece) (take c carry ++ piece)
  unfolding feed_within
  feeds_one c carry piece ready room = rw (next_is c carry piece ready) (by_case c carry piece ready room (front (take c carry ++ piece)) refl)

fewer_calls : (k : ℕ) → Fewer k
fewer_calls zero carry piece room h = absurd (omega arith)
fewer_calls (suc k) carry piece room h = feeds_one k (fewer_calls k) 0 carry piece (nothing_carried room) h

pub feeds : (c : ℕ) (carry piece : List ℕ) → Ready c carry → Feeds (feed (going c) carry piece) (take c carry ++ piece)
unfolding feed
feeds c carry piece ready = feeds_one (length piece) (fewer_calls (length piece)) c carry piece ready (omega arith)

-- ---- a stopped reader

pub stopped_next : (r : Reader) (carry piece : List ℕ) → 64 ≤ length carry → r.stopped ≡ true → next_of r carry piece ≡ refusal 21 r carry
unfolding next_of
stopped_next r carry piece room so = rw (le-ltb (length carry) 64 room, so)

-- a reader that refuses each piece and is left as it was
module _ (n : ℕ) (r : Reader) (carry : List ℕ) (refuses : (piece : List ℕ) → next_of r carry piece ≡ refusal n r carry) where
  pub refused_feed : (piece : List ℕ) → feed r carry piece ≡ record { records = []; answers = n ∷ []; reader = r; carry = carry }
  unfolding feed feed_within
  refused_feed piece = rw (refuses piece)

  pub refused_run : (ps : List (List ℕ)) → run r carry ps ≡ record { records = []; answers = each n ps; reader = r; carry = carry }
  unfolding run
  refused_run [] = refl
  refused_run (p ∷ ps) = rw (refused_feed p, refused_run ps)

pub small_next : (r : Reader) (carry piece : List ℕ) → length carry < 64 → next_of r carry piece ≡ refusal 22 r carry
unfolding next_of
small_next r carry piece h = rw (lt-ltb (length carry) 64 h)

-- ---- piece after piece

-- a reader and its carry, with no record handed on yet
abbrev holding : Reader → List ℕ → Held
holding r carry = record { records = []; left = take r.carried carry; stopped = r.stopped }

behind_more : (b : Bool) (rs : List (List ℕ)) (l : List ℕ) (h : Held)
    → behind rs (cond b (record { records = []; left = l; stopped = b }) (behind [] h)) ≡ cond b (record { records = rs; left = l; stopped = b }) (behind rs h)
behind_more true rs l h = rw (append-nil rs)
behind_more false rs l h = refl

module _ (f g : Fed) (s t : List ℕ) (shows : shown f ≡ holds s) (more : shown g ≡ then_more (holding f.reader f.carry) t) where
  pub joins : shown (fed_then f g) ≡ holds (s ++ t)
  joins =
      ap (behind f.records) more
      ∙ behind_more f.reader.stopped f.records (take f.reader.carried f.carry) (holds (take f.reader.carried f.carry ++ t))
      ∙ ap (λ (h : Held). then_more h t) shows
      ∙ sym (holds-append s t)

pub record Runs (f : Fed) (h : Held) : Type 0 where
  pub shows : shown f ≡ h
  pub stands : Standing f.reader f.carry

pub runs : (ps : List (List ℕ)) {r : Reader} {carry : List ℕ} → Standing r carry → Runs (run r carry ps) (then_more (holding r carry) (joined ps))
unfolding run joined
runs [] (goes {c} {carry} ready) =
    record { shows = rw (append-nil (take c carry), holds_unended (take c carry) ready.begins); stands = goes ready }
runs [] (halted room) = record { shows = refl; stands = halted room }
runs (p ∷ ps) (goes {c} {carry} ready) =
    let f = feeds c carry p ready in
    let g = runs ps f.stands in
    record {
      shows = rw (← append_assoc (take c carry) p (joined ps)) (joins (feed (going c) carry p) (run (feed (going c) carry p).reader (feed (going c) carry p).carry ps) (take c carry ++ p) (joined ps) f.shows g.shows);
      stands = g.stands;
    }
runs (p ∷ ps) (halted {carry} room) =
    let g = runs ps (halted {carry = carry} room) in
    rw (refused_feed 21 stopped_reader carry (λ q. stopped_next stopped_reader carry q room refl) p) (record { shows = g.shows; stands = g.stands })

pub from_fresh : (carry : List ℕ) (ps : List (List ℕ)) → 64 ≤ length carry → Runs (run fresh_reader carry ps) (holds (joined ps))
from_fresh carry ps room = runs ps (goes (nothing_carried room))
