-- Answer, place and count are read off each result: every place is below 256, and every count is small.
use Prim.Native.Nat.{ℕ, ◌+◌, ◌*◌, ◌/◌, ◌%◌, ◌≤◌, ◌<◌}
use mathlib.Core.Path.{◌≡◌, refl, ◌∙◌, ap}
use mathlib.Core.Bool.{Bool, true, false, cond}
use mathlib.Core.List.{List, [], ◌∷◌, ◌++◌}
use mathlib.Core.Option.{Option, none, some}
use native.Mathlib.Omega.{arith}
use borrow.Author.Tests.{eqb-true, eqb-false}
use lib.Dec.{leb, eqb}
use lib.ListN.{length}
use lib.Seq.{sets}
use Rattle.records.specs.Letters.{Letter}
use Rattle.records.specs.Bodies.{Wrote, wrote, not_written, size, flat_size, flat_bytes, written}
use Rattle.records.specs.Tables.{Table, Read, taken, refused, read, write, flat, fine}
use Rattle.records.specs.Laws.{Lawful, WrongBody, wrong_size, wrong_field, wrong_together}
use Rattle.records.proofs.Laws.{length-flat_bytes}
use Rattle.records.proofs.Places.{place_is_wrong, place_only_with_four}
use Rattle.direct.specs.declared.events.Event.{Event}
use Rattle.direct.specs.declared.call.Call.{Call}
use Rattle.direct.specs.Events.{events, EventKind, event_row, setup_request, dma_report, dm_connect, dm_disconnect, expiry}
use Rattle.direct.specs.Messages.{messages, MessageKind, message_row, dm_setup_pres, dm_connect_ack, dm_release, stop, start, configure, setup_confirm, release_indication, bytes_of}
use Rattle.direct.specs.Call.{sound}
use Rattle.direct.specs.Draft.{Draft, messages_in}
use Rattle.direct.specs.Rows.{row_for}
use Rattle.direct.specs.Step.{refusal, beyond, carried, decided, when_read, step_of}
use Rattle.direct.proofs.Tables.{event_lawful, message_lawful}
use Rattle.direct.proofs.Turns.{by_tests}
use Rattle.host_direct.specs.Packing.{unpacked}
use Rattle.host_direct.specs.Entries.{word, freshened, step_on, host_step, read_word, wrote_word, checked, write_read, copied}
use Rattle.host_direct.specs.Laws.{ReadsOff, FreshReadsOff, SteppedOff, StepReadsOff, CheckedOff, CheckReadsOff, WrittenOff, CopiedOff, CopyReadsOff}
use Rattle.host_direct.proofs.Small.{step_small, event_small, message_small}

-- a result taken apart
off : (a p n : ℕ) → p < 256 → n < 65536 → ReadsOff (a * 16777216 + p * 65536 + n) a p n
off a p n small few =
    let upper : (a * 16777216 + p * 65536 + n) / 65536 ≡ a * 256 + p = omega arith in
    let middle : (a * 256 + p) % 256 ≡ p = omega arith in
    record { answers = omega arith; places = ap (λ (x : ℕ). x % 256) upper ∙ middle; counts = omega arith }

-- ---- the places

size_before : (before rest : List Letter) → size before ≤ size (before ++ rest)
size_before [] rest = omega arith
size_before (l ∷ before) rest = let h = size_before before rest in omega (arith, h)

module _ (t : Table) (ok : Lawful t) (clash : t.clash < 256) (few : (k : t.Kind) → size (t.row_of k).letters ≤ 3) where
  in_body : (k : t.Kind) (s : List ℕ) (p : ℕ) → WrongBody t k s p → p < 256
  in_body k s p (wrong_size other) = omega arith
  in_body k s p (wrong_field long w) =
      let whole : size (t.row_of k).letters ≡ size (w.before ++ (w.letter ∷ w.after)) = ap size w.whole in
      omega (arith, w.place, whole, few k, size_before w.before (w.letter ∷ w.after))
  in_body k s p (wrong_together long fit other) = clash

  place_small : (s : List ℕ) (n p : ℕ) → read t s ≡ refused n p → p < 256
  place_small s n p h = by (eqb n 4) refl
    where
      by : (b : Bool) → eqb n 4 ≡ b → p < 256
      by true e =
          let w = place_is_wrong t ok s p (h ∙ ap (λ (m : ℕ). refused m p) (eqb-true n 4 e)) in in_body w.0 s p w.1.1
      by false e = let z : p ≡ 0 = place_only_with_four t ok s n p h (eqb-false n 4 e) in omega arith

event_few : (k : EventKind) → size (event_row k).letters ≤ 3
event_few setup_request = omega arith
event_few dma_report = omega arith
event_few dm_connect = omega arith
event_few dm_disconnect = omega arith
event_few expiry = omega arith

message_few : (k : MessageKind) → size (message_row k).letters ≤ 3
message_few dm_setup_pres = omega arith
message_few dm_connect_ack = omega arith
message_few dm_release = omega arith
message_few stop = omega arith
message_few start = omega arith
message_few configure = omega arith
message_few setup_confirm = omega arith
message_few release_indication = omega arith

event_place : (s : List ℕ) (n p : ℕ) → read events s ≡ refused n p → p < 256
event_place = place_small events event_lawful (omega arith) event_few

message_place : (s : List ℕ) (n p : ℕ) → read messages s ≡ refused n p → p < 256
message_place = place_small messages message_lawful (omega arith) message_few

-- ---- the entries

pub fresh_reads_off : FreshReadsOff
unfolding freshened
fresh_reads_off s = by (eqb (length s) 7) refl
  where
    by : (b : Bool) → eqb (length s) 7 ≡ b → ReadsOff (freshened s).0 (cond b 0 1) 0 (cond b 7 0)
    by true e = rw e (off 0 0 7 (omega arith) (omega arith))
    by false e = rw e (off 1 0 0 (omega arith) (omega arith))

tests_place : (over row room : Bool) (c : Call) (d : Draft) (b : List ℕ) → (by_tests over row room c d b).place < 256
tests_place true row room c d b = omega arith
tests_place false false room c d b = omega arith
tests_place false true false c d b = omega arith
tests_place false true true c d b = omega arith

step_place : (c : Call) (e b : List ℕ) → (step_of c e b).place < 256
unfolding step_of decided carried
step_place c e b = by (sound c) (read events e) refl
  where
    by : (ok : Bool) (r : Read Event) → read events e ≡ r → (cond ok (when_read r c b) (refusal 1 c b)).place < 256
    by false r h = omega arith
    by true (refused n p) h = event_place e n p h
    by true (taken v) h = tests_place (beyond v) (row_for c v).taken (leb (length (bytes_of (messages_in (row_for c v)))) (length b)) c (row_for c v) b

pub outcome_off : (c : Call) (e b : List ℕ) → ReadsOff (word (step_of c e b).answer (step_of c e b).place (step_of c e b).count) (step_of c e b).answer (step_of c e b).place (step_of c e b).count
outcome_off c e b = let few = step_small c e b refl in off _ _ _ (step_place c e b) (omega (arith, few))

pub step_reads_off : StepReadsOff
unfolding host_step
step_reads_off s e b = by (unpacked s)
  where
    by : (o : Option Call) → SteppedOff o e b (step_on s o e b).result
    by none = off 1 0 0 (omega arith) (omega arith)
    by (some c) = outcome_off c e b

module _ (t : Table) (small : (s : List ℕ) (n p : ℕ) → read t s ≡ refused n p → p < 256) where
  check_off : CheckReadsOff t
  unfolding checked
  check_off s = by (read t s) refl
    where
      by : (r : Read t.Value) → read t s ≡ r → CheckedOff r (read_word r)
      by (taken v) h = off 0 0 0 (omega arith) (omega arith)
      by (refused n p) h = off n p 0 (small s n p h) (omega arith)

  module _ (few : (v : t.Value) → flat_size (flat t v) ≤ 7) where
    wrote_off : (a b : Bool) (n : ℕ) (x y z : List ℕ) → n ≤ 7 → WrittenOff (cond {A = Wrote × List ℕ} a (cond b (wrote n, x) (not_written 7, y)) (not_written 4, z)).0 (wrote_word (cond {A = Wrote × List ℕ} a (cond b (wrote n, x) (not_written 7, y)) (not_written 4, z)).0)
    wrote_off true true n x y z h = off 0 0 n (omega arith) (omega arith)
    wrote_off true false n x y z h = off 7 0 0 (omega arith) (omega arith)
    wrote_off false b n x y z h = off 4 0 0 (omega arith) (omega arith)

    write_off : (v : t.Value) (out : List ℕ) → WrittenOff (write t v out).0 (wrote_word (write t v out).0)
    unfolding write written
    write_off v out =
        wrote_off (fine t v) (leb (length (flat_bytes (flat t v))) (length out)) (length (flat_bytes (flat t v))) (sets out 0 (flat_bytes (flat t v))) out out (rw length-flat_bytes (few v))

    copy_off : CopyReadsOff t
    unfolding copied
    copy_off s out = by (read t s) refl
      where
        by : (r : Read t.Value) → read t s ≡ r → CopiedOff t r out (write_read t r out).0
        by (taken v) h = write_off v out
        by (refused n p) h = off n p 0 (small s n p h) (omega arith)

pub check_event_reads_off : CheckReadsOff events
check_event_reads_off = check_off events event_place

pub check_message_reads_off : CheckReadsOff messages
check_message_reads_off = check_off messages message_place

pub copy_event_reads_off : CopyReadsOff events
copy_event_reads_off = copy_off events event_place event_small

pub copy_message_reads_off : CopyReadsOff messages
copy_message_reads_off = copy_off messages message_place message_small
