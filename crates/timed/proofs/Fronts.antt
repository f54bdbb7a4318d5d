-- The messages that some bytes are, one after the other: the length at the front is that of the first, and what follows are the others.
use Prim.Native.Nat.{ℕ, ◌+◌, ◌≤◌, ◌<◌}
use mathlib.Core.Path.{◌≡◌, refl, sym, ◌∙◌, ap}
use mathlib.Core.Bool.{Bool, true, false}
use mathlib.Core.List.{List, [], ◌∷◌, ◌++◌}
use native.Mathlib.Omega.{arith}
use borrow.Author.Tests.{leb-true, eqb-false, eqb-true}
use lib.Dec.{ltb, eqb}
use lib.ListN.{length, take, drop, length-append}
use lib.Seq.{take-append_seam, drop-append_seam}
use Rattle.records.specs.declared.messages.Message.{Message}
use Rattle.records.specs.Bytes.{number, bytes}
use Rattle.records.specs.Bodies.{Flat, flat_size, flat_bytes}
use Rattle.records.specs.Tables.{taken, read, flat, fine}
use Rattle.records.specs.Messages.{messages, message_bytes}
use Rattle.records.specs.Records.{message_short}
use Rattle.records.proofs.Laws.{length-flat_bytes}
use Rattle.records.proofs.RoundTrip.{message_written_reads_back}
use Rattle.callcontrol.specs.Writing.{bytes_of}
use Rattle.demands.proofs.Facts.{left, right}
use Rattle.timers.specs.declared.bank.Bank.{Bank}
use Rattle.timed.specs.Set.{started_by, started_all}
use Rattle.timed.specs.Parts.{Messages, AllMessages, FirstDone, AllDone}

-- ---- one message

-- a message's bytes read as it
reads : (m : Message) → fine messages m ≡ true → read messages (message_bytes m) ≡ taken m
unfolding message_bytes
reads m h = message_written_reads_back m h

-- the length at the front is that of its bytes, of which there are at least four
record Headed (m : Message) (rest : List ℕ) : Type 0 where
  size : number 2 (message_bytes m ++ rest) 0 ≡ length (message_bytes m)
  four : 4 ≤ length (message_bytes m)

flat_headed : (f : Flat) (rest : List ℕ) → flat_size f ≤ 64 → number 2 (flat_bytes f ++ rest) 0 ≡ flat_size f
unfolding number flat_bytes bytes
flat_headed f rest h = omega arith

four_at_least : (f : Flat) → 4 ≤ flat_size f
unfolding flat_size
four_at_least f = omega arith

headed : (m : Message) (rest : List ℕ) → Headed m rest
unfolding message_bytes
headed m rest =
    let long = length-flat_bytes (flat messages m) in
    let short : length (flat_bytes (flat messages m)) ≤ 64 = leb-true _ 64 (right (ltb 0 (length (flat_bytes (flat messages m)))) _ (message_short m)) in
    record {
      size = flat_headed (flat messages m) rest (omega (arith, long, short)) ∙ sym long;
      four = omega (arith, long, four_at_least (flat messages m));
    }

-- bytes that read as a message read as no other, and those that do not read as none
pub same_done : (lengths : List ℕ) (b : Bank) (s : List ℕ) (m : Message) {r : Bank} → taken m ≡ read messages s → r ≡ started_by lengths b m → FirstDone lengths b s r
same_done lengths b s m is done other e = let same : m ≡ other = let z : taken m ≡ taken other = is ∙ e in cc in done ∙ ap (started_by lengths b) same

-- ---- one message after the other

-- bytes that are messages, and not none, begin with one
record Fronted (written : List ℕ) : Type 0 where
  first : Message
  others : List Message
  fine_first : fine messages first ≡ true
  whole : written ≡ message_bytes first ++ bytes_of others
  later : Messages (bytes_of others) others

fronted : (written : List ℕ) (ms : List Message) → 0 < length written → Messages written ms → Fronted written
unfolding bytes_of
fronted written [] h w = absurd (omega (arith, ap length w.1))
fronted written (m ∷ ms) h w =
    record { first = m; others = ms; fine_first = left (fine messages m) _ w.0; whole = w.1; later = (right (fine messages m) _ w.0, refl) }

-- there are bytes
pub some_left : (written : List ℕ) {empty : Bool} → empty ≡ eqb (length written) 0 → empty ≡ false → 0 < length written
some_left written is other = let z = eqb-false (length written) 0 (sym is ∙ other) in omega (arith, z)

-- how long the first is
pub record Cut (written : List ℕ) (size : ℕ) : Type 0 where
  pub some : 0 < size
  pub within : size ≤ length written
  pub later : AllMessages (drop size written)

pub front_two : (written : List ℕ) → 0 < length written → AllMessages written → 2 ≤ length written
front_two written h (ms, w) =
    let f = fronted written ms h w in
    omega (arith, ap length f.whole ∙ length-append (message_bytes f.first) (bytes_of f.others), (headed f.first (bytes_of f.others)).four)

after_first : {written : List ℕ} {size : ℕ} (m : Message) (ms : List Message) → size ≡ length (message_bytes m) → written ≡ message_bytes m ++ bytes_of ms → drop size written ≡ bytes_of ms
after_first {written} {size} m ms long whole =
    ap (drop size) whole ∙ ap (λ (k : ℕ). drop k (message_bytes m ++ bytes_of ms)) long ∙ drop-append_seam (message_bytes m) (bytes_of ms)

first_taken : {written : List ℕ} {size : ℕ} (m : Message) (ms : List Message) → size ≡ length (message_bytes m) → written ≡ message_bytes m ++ bytes_of ms → take size written ≡ message_bytes m
first_taken {written} {size} m ms long whole =
    ap (take size) whole ∙ ap (λ (k : ℕ). take k (message_bytes m ++ bytes_of ms)) long ∙ take-append_seam (message_bytes m) (bytes_of ms)

pub cut : (written : List ℕ) {size : ℕ} → 0 < length written → AllMessages written → size ≡ number 2 written 0 → Cut written size
cut written {size} h (ms, w) is =
    let f = fronted written ms h w in
    let head = headed f.first (bytes_of f.others) in
    let long : size ≡ length (message_bytes f.first) = is ∙ ap (λ (x : List ℕ). number 2 x 0) f.whole ∙ head.size in
    let all : length written ≡ length (message_bytes f.first) + length (bytes_of f.others) = ap length f.whole ∙ length-append (message_bytes f.first) (bytes_of f.others) in
    record { some = omega (arith, long, head.four); within = omega (arith, long, all); later = (f.others, (f.later.0, after_first f.first f.others long f.whole)) }

-- where no byte is left no message is
pub none_done : (lengths : List ℕ) (b : Bank) (written : List ℕ) {empty : Bool} → empty ≡ eqb (length written) 0 → empty ≡ true → AllDone lengths b written b
unfolding started_all bytes_of
none_done lengths b written is none [] w = refl
none_done lengths b written is none (m ∷ ms) w =
    let z = eqb-true (length written) 0 (sym is ∙ none) in
    absurd (omega (arith, z, ap length w.1, length-append (message_bytes m) (bytes_of ms), (headed m []).four))

-- the first is done, and then the others
pub one_done : (lengths : List ℕ) (b next r : Bank) (written : List ℕ) {size : ℕ} → 0 < length written → size ≡ number 2 written 0
    → FirstDone lengths b (take size written) next → AllDone lengths next (drop size written) r → AllDone lengths b written r
unfolding started_all bytes_of
one_done lengths b next r written h is first others [] w = absurd (omega (arith, ap length w.1))
one_done lengths b next r written {size} h is first others (m ∷ ms) w =
    let head = headed m (bytes_of ms) in
    let long : size ≡ length (message_bytes m) = is ∙ ap (λ (x : List ℕ). number 2 x 0) w.1 ∙ head.size in
    let done : next ≡ started_by lengths b m = first m (ap (read messages) (first_taken m ms long w.1) ∙ reads m (left (fine messages m) _ w.0)) in
    others ms (right (fine messages m) _ w.0, after_first m ms long w.1) ∙ ap (λ (x : Bank). started_all lengths x ms) done

-- what start_all is proved by, its last return aside
pub ruleset fronts = (front_two, some_left, cut, none_done)
