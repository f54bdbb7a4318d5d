-- What a turn of a run writes reads back: the bytes that it counts are, record after record, the messages of its row.
use Prim.Native.Nat.{ℕ, ◌<◌, ◌≤◌}
use mathlib.Core.Path.{◌≡◌, refl, ◌∙◌}
use mathlib.Core.Bool.{Bool, true, false, cond}
use mathlib.Core.List.{List, [], ◌∷◌, ◌++◌}
use mathlib.Core.Option.{none, some}
use native.Mathlib.Omega.{arith}
use borrow.Author.Tests.{eqb-true, leb-true, le-leb}
use lib.Dec.{leb, eqb}
use lib.ListN.{length, take, get_or-append}
use lib.Seq.{sets, sets-eq, take-append_seam, drop-append_seam}
use Rattle.records.specs.Bytes.{number}
use Rattle.records.specs.Letters.{within, is_direct_timer}
use Rattle.records.specs.Bodies.{all_fit, flat_fits, kind_in}
use Rattle.records.specs.Tables.{Table, taken, or_refuse, read_as, read, fine}
use Rattle.records.proofs.Laws.{both}
use Rattle.records.proofs.RoundTrip.{written_reads_back}
use Rattle.direct.specs.declared.events.Event.{Event}
use Rattle.direct.specs.declared.events.Event.TheVariants.{DmConnect}
use Rattle.direct.specs.declared.messages.Message.{Message}
use Rattle.direct.specs.declared.messages.Message.TheVariants.{DmSetupPres, DmConnectAck}
use Rattle.direct.specs.declared.call.Call.{Call}
use Rattle.direct.specs.Events.{events}
use Rattle.direct.specs.Messages.{messages, message_bytes, bytes_of}
use Rattle.direct.specs.Call.{fresh_call}
use Rattle.direct.specs.Draft.{Draft, messages_in}
use Rattle.direct.specs.Rows.{asked, awaited, given_up, connected, released, again, exhausted, row_for}
use Rattle.direct.specs.Runs.{Turn, outcome, next, run, written_by, written_in, every?}
use Rattle.direct.specs.Demands.{Kept, Reads, WrittenInRange, ReadsBack}
use Rattle.direct.proofs.Tables.{message_lawful}
use Rattle.direct.proofs.Turns.{event_fine, Turned, passed, took, turned, Which, asks, awaits, gives_up_lem, connects, rejects, disconnects, retries, exhausts, row_of}
use Rattle.direct.proofs.Kept.{fresh_kept, reached, turn_keeps, request_bytes, within_byte}

-- ---- every field in its range

pub byte_within : (v : ℕ) → v < 256 → within 0 255 v ≡ true
unfolding within
byte_within v h = rw (le-leb 0 v (omega arith), le-leb v 255 (omega arith))

module _ (t l : ℕ) (h : t < 256) (k : l < 256) where
  pres_fine : fine messages (DmSetupPres t l) ≡ true
  unfolding fine flat_fits all_fit
  pres_fine = rw (byte_within t h, byte_within l k)

module _ (t : ℕ) (h : t < 256) where
  ack_fine : fine messages (DmConnectAck t) ≡ true
  unfolding fine flat_fits all_fit
  ack_fine = rw (byte_within t h)

offer_byte : (g : ℕ) → fine events (DmConnect g) ≡ true → g < 256
unfolding fine flat_fits all_fit
offer_byte g h = within_byte g (both _ _ (both _ _ h).0).0

module _ (c : Call) (k : Kept c) where
  row_fine : (e : Event) (d : Draft) → Which c e d → fine events e ≡ true → every? (λ m. fine messages m) (messages_in d) ≡ true
  unfolding every? asked awaited given_up connected released again exhausted fine flat_fits all_fit is_direct_timer
  row_fine e d (asks {t} {l} {m} s) f = let r = request_bytes t l m f in rw (pres_fine t l r.0 r.1)
  row_fine e d (awaits s run v) f = refl
  row_fine e d (gives_up_lem s run) f = refl
  row_fine e d (connects {g} s run w) f = let h = offer_byte g f in rw (ack_fine g h)
  row_fine e d (rejects s run w) f = refl
  row_fine e d (disconnects s run) f = refl
  row_fine e d (retries s run n more) f = rw (pres_fine c.target c.lowest k.target k.lowest)
  row_fine e d (exhausts s run n more) f = refl

turn_fine : (c : Call) (t : Turn) → Kept c → every? (λ m. fine messages m) (written_by c t) ≡ true
unfolding every?
turn_fine c t k = by (turned c t)
  where
    by : Turned c t → every? (λ m. fine messages m) (written_by c t) ≡ true
    by (passed p) = rw p.writes
    by (took e a) = rw a.writes (row_fine c k e (row_for c e) (row_of a) (event_fine t.event e a.reads))

every_append : (p : Message → Bool) (ms ns : List Message) → every? p ms ≡ true → every? p ns ≡ true → every? p (ms ++ ns) ≡ true
unfolding every?
every_append p [] ns h k = k
every_append p (m ∷ ms) ns h k = let b = both (p m) _ h in rw b.0 (every_append p ms ns b.1 k)

run_fine : (c : Call) (ts : List Turn) → Kept c → every? (λ m. fine messages m) (written_in c ts) ≡ true
unfolding written_in every?
run_fine c [] k = refl
run_fine c (t ∷ ts) k = every_append _ (written_by c t) (written_in (next c t) ts) (turn_fine c t k) (run_fine (next c t) ts (turn_keeps c t k))

pub written_in_range : WrittenInRange
written_in_range ts = run_fine fresh_call ts fresh_kept

-- ---- record after record

-- a record that is read has at least four bytes, and as many as its length says
measured : (t : Table) (s : List ℕ) (v : t.Value) → read t s ≡ taken v → (4 ≤ length s) × (number 2 s 0 ≡ length s)
unfolding read kind_in
measured t s v h = long (leb 4 (length s)) (eqb (number 2 s 0) (length s)) refl refl h
  where
    long : (a b : Bool) → leb 4 (length s) ≡ a → eqb (number 2 s 0) (length s) ≡ b
        → or_refuse 2 (cond a (cond b (some (number 2 s 2)) none) none) (λ n. read_as t n s) ≡ taken v → (4 ≤ length s) × (number 2 s 0 ≡ length s)
    long false b p q r = let z : ◌≡◌ {A = ℕ} 0 1 = cc in absurd (omega arith)
    long true false p q r = let z : ◌≡◌ {A = ℕ} 0 1 = cc in absurd (omega arith)
    long true true p q r = (leb-true 4 (length s) p, eqb-true (number 2 s 0) (length s) q)

-- so the length at the front of some bytes is that of the record there
in_front : (s rest : List ℕ) → 4 ≤ length s → number 2 (s ++ rest) 0 ≡ number 2 s 0
unfolding number
in_front s rest h = rw (get_or-append s rest 0 0 (omega arith), get_or-append s rest 0 1 (omega arith))

one_reads : (m : Message) → fine messages m ≡ true → read messages (message_bytes m) ≡ taken m
unfolding message_bytes
one_reads m h = written_reads_back messages message_lawful m h

read_after_read : (ms : List Message) → every? (λ m. fine messages m) ms ≡ true → Reads (bytes_of ms) ms
unfolding bytes_of every?
read_after_read [] h = refl
read_after_read (m ∷ ms) h = rw (length-is, take-append_seam s rest, drop-append_seam s rest) (reads_m, read_after_read ms (both (fine messages m) _ h).1)
  where
    s : List ℕ
    s = message_bytes m

    rest : List ℕ
    rest = bytes_of ms

    reads_m : read messages s ≡ taken m
    reads_m = one_reads m (both _ _ h).0

    length-is : number 2 (s ++ rest) 0 ≡ length s
    length-is = in_front s rest (measured messages s m reads_m).0 ∙ (measured messages s m reads_m).1

-- the bytes that are stored are at the front of the buffer
stored : (out buffer : List ℕ) → length out ≤ length buffer → take (length out) (sets buffer 0 out) ≡ out
stored out buffer h = rw (sets-eq out buffer 0 (omega arith), take-append_seam)

pub reads_back : ReadsBack
reads_back ts t = by (turned c t)
  where
    c : Call
    c = run fresh_call ts

    by : Turned c t → Reads (take (outcome c t).count (outcome c t).buffer) (written_by c t)
    by (passed p) = rw (p.gives, p.writes)
    by (took e a) =
        rw (a.gives, a.writes, stored (bytes_of (messages_in (row_for c e))) t.buffer (leb-true _ _ a.room))
        (read_after_read (messages_in (row_for c e)) (row_fine c (reached ts) e (row_for c e) (row_of a) (event_fine t.event e a.reads)))
