-- Messages stored one after the other, and a row carried out.
use Rattle.std.proofs.Common.{ℕ, ◌+◌, ◌-◌, ◌<◌, ◌≤◌, ◌≡◌, refl, sym, ◌∙◌, ap, true, List, [], ◌∷◌, ◌++◌, append_assoc, append-nil, length, length-append, take, drop, get_or, arith, Result, Ok, Err}
use Rattle.std.proofs.lemmas.Grind.{take_at_read}
use Rattle.std.proofs.lemmas.List.{take_all, take-append-drop}
use Rattle.std.proofs.Math.Seq.{length-sets}
use borrow.Author.Tests.{lt-leb, le-leb}
use lib.Dec.{leb}
use lib.Seq.{sets}
use Rattle.records.specs.Bodies.{laid, laid_next}
use Rattle.records.specs.Tables.{flat}
use Rattle.records.proofs.Laws.{by_test, sets-append, length-flat_bytes}
use Rattle.direct.specs.declared.messages.Message.{Message}
use Rattle.direct.specs.declared.call.Call.{Call}
use Rattle.direct.specs.declared.step.Refusal.{Refusal}
use Rattle.direct.specs.declared.step.Stepped.{Stepped}
use Rattle.direct.specs.Messages.{messages, message_bytes, message_size, bytes_of, sizes_of}
use Rattle.direct.specs.Draft.{Draft, messages_in}
use Rattle.direct.specs.Step.{sent, carried, as_outcome}

-- ---- measured

pub length_message : (m : Message) → length (message_bytes m) ≡ message_size m
unfolding message_bytes message_size
length_message m = length-flat_bytes (flat messages m)

pub length-bytes_of : (ms : List Message) → length (bytes_of ms) ≡ sizes_of ms
unfolding bytes_of sizes_of
length-bytes_of [] = refl
length-bytes_of (m ∷ ms) = rw (length-append, length_message, length-bytes_of ms)

sizes_of-append : (ms ns : List Message) → sizes_of (ms ++ ns) ≡ sizes_of ms + sizes_of ns
unfolding sizes_of
sizes_of-append [] ns = omega arith
sizes_of-append (m ∷ ms) ns = let e = sizes_of-append ms ns in omega arith

bytes_of-append : (ms ns : List Message) → bytes_of (ms ++ ns) ≡ bytes_of ms ++ bytes_of ns
unfolding bytes_of
bytes_of-append [] ns = refl
bytes_of-append (m ∷ ms) ns = rw (bytes_of-append ms ns, append_assoc)

-- messages laid one after the other at the front of a buffer: the position after them, and the buffer then
pub record Laid (old : List ℕ) (ms : List Message) (at : ℕ) (new : List ℕ) : Type 0 where
  pub end : at ≡ sizes_of ms
  pub now : new ≡ sets old 0 (bytes_of ms)

pub none_laid : {b : List ℕ} → Laid b [] 0 b
unfolding sizes_of bytes_of
none_laid = record { end = refl; now = refl }

-- what a row's messages leave in a buffer, or nothing where they do not fit
module _ (ms : List Message) (next : Call) (b : List ℕ) where
  pub unsent : length b < sizes_of ms → ◌≡◌ {A = Result Stepped Refusal × List ℕ} (Err Refusal.NoRoom, b) (sent ms next b)
  unfolding sent
  unsent h = rw (length-bytes_of, lt-leb _ _ h)

  pub all_sent : (at : ℕ) (new : List ℕ) → sizes_of ms ≤ length b → Laid b ms at new → ◌≡◌ {A = Result Stepped Refusal × List ℕ} (Ok (record { count = at; call = next }), new) (sent ms next b)
  unfolding sent
  all_sent at new room l = rw (length-bytes_of, le-leb _ _ room, l.end, l.now)

-- the first i of some messages, and one more
module _ (ms : List Message) (i : ℕ) where
  module _ (d : Message) (more : i < length ms) where
    sizes_more : sizes_of (take (i + 1) ms) ≡ sizes_of (take i ms) + message_size (get_or ms i d)
    unfolding sizes_of
    sizes_more = rw ((take_at_read ms i d more).1, sizes_of-append (take i ms) (get_or ms i d ∷ [])) (omega arith)

    bytes_more : bytes_of (take (i + 1) ms) ≡ bytes_of (take i ms) ++ message_bytes (get_or ms i d)
    unfolding bytes_of
    bytes_more = rw ((take_at_read ms i d more).1, bytes_of-append (take i ms) (get_or ms i d ∷ []), append-nil)

    sizes_within : sizes_of (take i ms) + message_size (get_or ms i d) ≤ sizes_of ms
    sizes_within =
        let e : sizes_of ms ≡ sizes_of (take (i + 1) ms) + sizes_of (drop (i + 1) ms) = ap sizes_of (sym (take-append-drop (i + 1) ms)) ∙ sizes_of-append (take (i + 1) ms) (drop (i + 1) ms) in
        omega (arith, e, sizes_more)

    module _ {size room n : ℕ} (measured : room + sizes_of (take i ms) ≡ n) (its : size ≡ message_size (get_or ms i d)) where
      pub one_measured : size ≤ room → room - size + sizes_of (take (i + 1) ms) ≡ n
      one_measured h = omega (arith, measured, its, sizes_more)

      pub too_many : room < size → n < sizes_of ms
      too_many h = omega (arith, measured, its, sizes_within)

    pub one_more : (b : List ℕ) (at : ℕ) (now : List ℕ) → sizes_of ms ≤ length b → Laid b (take i ms) at now → {next : ℕ} {new : List ℕ} → ◌≡◌ {A = ℕ × List ℕ} (next, new) (laid_next (message_bytes (get_or ms i d)) now at, laid (message_bytes (get_or ms i d)) now at) → Laid b (take (i + 1) ms) next new
    unfolding laid laid_next
    one_more b at now room so_far {next} {new} l =
        let m : Message = get_or ms i d in
        let fits : at + length (message_bytes m) ≤ length now = rw (length_message, so_far.now, length-sets, so_far.end) (omega (arith, sizes_within, room)) in
        let e : ◌≡◌ {A = ℕ × List ℕ} (next, new) (at + length (message_bytes m), sets now at (message_bytes m)) = rw (le-leb (at + length (message_bytes m)) (length now) fits) at l in
        let after : 0 + length (bytes_of (take i ms)) ≡ at = rw length-bytes_of (omega (arith, so_far.end)) in
        record {
          end = ap (λ (p : ℕ × List ℕ). p.0) e ∙ rw (length_message, sizes_more, so_far.end);
          now = ap (λ (p : ℕ × List ℕ). p.1) e ∙ rw (bytes_more, sets-append (bytes_of (take i ms)) b (message_bytes m) 0, after, so_far.now);
        }

  -- all of them
  module _ (past : length ms ≤ i) where
    all_taken : take i ms ≡ ms
    all_taken = take_all i ms past

    pub all_measured : (room : ℕ) {n : ℕ} → room + sizes_of (take i ms) ≡ n → sizes_of ms ≤ n
    all_measured room measured = let e = ap sizes_of all_taken in omega (arith, e, measured)

    pub all_laid : {b new : List ℕ} {at : ℕ} → Laid b (take i ms) at new → Laid b ms at new
    all_laid l = rw all_taken at l

-- ---- a row

-- one whose messages are sent
pub row_sent : (c : Call) (b : List ℕ) (d : Draft) {row : Draft} → d ≡ row → d.taken ≡ true → {r : Result Stepped Refusal} {new : List ℕ} → ◌≡◌ {A = Result Stepped Refusal × List ℕ} (r, new) (sent (messages_in d) d.call b) → as_outcome c r new ≡ carried c row b
unfolding sent carried
row_sent c b d same taken {r} {new} s =
    ap (λ (p : Result Stepped Refusal × List ℕ). as_outcome c p.0 p.1) s ∙
    by_test (leb (length (bytes_of (messages_in d))) (length b)) (λ h. rw (← same, taken, h)) (λ h. rw (← same, taken, h))
