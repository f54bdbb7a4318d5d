-- What a step from a sound record writes reads back: the bytes that it counts are, record after record, the messages of its row.
use Prim.Native.Nat.{ℕ, ◌≤◌}
use mathlib.Core.Path.{◌≡◌, refl, ◌∙◌}
use mathlib.Core.Bool.{Bool, true, false, cond}
use mathlib.Core.List.{List, [], ◌∷◌, ◌++◌}
use mathlib.Core.Option.{none, some}
use native.Mathlib.Omega.{arith}
use borrow.Author.Tests.{eqb-true, leb-true}
use lib.Dec.{leb, eqb}
use lib.ListN.{length, take, get_or-append}
use lib.Seq.{sets, sets-eq, take-append_seam, drop-append_seam}
use Rattle.records.specs.declared.messages.Message.{Message}
use Rattle.records.specs.Bytes.{number}
use Rattle.records.specs.Bodies.{kind_in}
use Rattle.records.specs.Tables.{Table, taken, or_refuse, read_as, read, fine}
use Rattle.records.specs.Messages.{messages, message_bytes}
use Rattle.records.proofs.RoundTrip.{message_written_reads_back}
use Rattle.callcontrol.specs.declared.call.Call.{Call}
use Rattle.callcontrol.specs.Rows.{row_for}
use Rattle.callcontrol.specs.Writing.{messages_in, bytes_of}
use Rattle.demands.specs.Runs.{Turn, outcome, written_by, every?}
use Rattle.demands.specs.Demands.{Reads, ReadsBack}
use Rattle.demands.proofs.Facts.{left, right}
use Rattle.demands.proofs.Turns.{Turned, passed, took, turned}
use Rattle.demands.proofs.WrittenInRange.{step_in_range}

-- a record that is read has at least four bytes, and as many as its length says
measured : (t : Table) (s : List ℕ) (v : t.Value) → read t s ≡ taken v → (4 ≤ length s) × (number 2 s 0 ≡ length s)
unfolding read kind_in
measured t s v h = long (leb 4 (length s)) (eqb (number 2 s 0) (length s)) refl refl h
  where
    long : (a b : Bool) → leb 4 (length s) ≡ a → eqb (number 2 s 0) (length s) ≡ b
        → or_refuse 2 (cond a (cond b (some (number 2 s 2)) none) none) (λ n. read_as t n s) ≡ taken v → (4 ≤ length s) × (number 2 s 0 ≡ length s)
    long false b p q r = let z : ◌≡◌ {A = ℕ} 0 1 = cc in absurd (omega arith)
    long true false p q r = let z : ◌≡◌ {A = ℕ} 0 1 = cc in absurd (omega arith)
    long true true p q r = (leb-true 4 (length s) p, eqb-true (number 2 s 0) (length s) q)

-- so the length at the front of some bytes is that of the record there
in_front : (s rest : List ℕ) → 4 ≤ length s → number 2 (s ++ rest) 0 ≡ number 2 s 0
unfolding number
in_front s rest h = rw (get_or-append s rest 0 0 (omega arith), get_or-append s rest 0 1 (omega arith))

one_reads : (m : Message) → fine messages m ≡ true → read messages (message_bytes m) ≡ taken m
unfolding message_bytes
one_reads m h = message_written_reads_back m h

pub read_after_read : (ms : List Message) → every? (λ m. fine messages m) ms ≡ true → Reads (bytes_of ms) ms
unfolding bytes_of
read_after_read [] h = refl
read_after_read (m ∷ ms) h = rw (length-is, take-append_seam s rest, drop-append_seam s rest) (reads_m, read_after_read ms (right (fine messages m) _ h))
  where
    s : List ℕ
    s = message_bytes m

    rest : List ℕ
    rest = bytes_of ms

    reads_m : read messages s ≡ taken m
    reads_m = one_reads m (left _ _ h)

    length-is : number 2 (s ++ rest) 0 ≡ length s
    length-is = in_front s rest (measured messages s m reads_m).0 ∙ (measured messages s m reads_m).1

-- the bytes that are stored are at the front of the buffer
pub stored : (out buffer : List ℕ) → length out ≤ length buffer → take (length out) (sets buffer 0 out) ≡ out
stored out buffer h = rw (sets-eq out buffer 0 (omega arith), take-append_seam)

counted : (c : Call) (t : Turn) → Turned c t → every? (λ m. fine messages m) (written_by c t) ≡ true
    → Reads (take (outcome c t).count (outcome c t).buffer) (written_by c t)
unfolding written_by
counted c t (passed p) h = rw (p.gives, p.takes)
counted c t (took e a) h =
    rw (a.gives, a.takes, stored (bytes_of (messages_in (row_for c e))) t.buffer (leb-true _ _ a.room)) (read_after_read (messages_in (row_for c e)) (rw a.takes at h))

pub reads_back : ReadsBack
reads_back c t k = counted c t (turned c t) (step_in_range c t k)
