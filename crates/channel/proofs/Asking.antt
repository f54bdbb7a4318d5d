-- What a question, a decision and an end give back, check by check.
use Prim.Native.Nat.{ℕ, suc, ◌+◌, ◌*◌, ◌≤◌, ◌<◌}
use mathlib.Core.Path.{◌≡◌, refl, sym, ◌∙◌, ap}
use mathlib.Core.Bool.{Bool, true, false, cond}
use mathlib.Core.List.{List, [], ◌∷◌, ◌++◌}
use native.Mathlib.Omega.{arith}
use borrow.Author.Tests.{le-leb, lt-leb}
use native.Mathlib.Numerals.{add-one}
use lib.ListN.{length, get_or, drop}
use lib.Dec.{leb}
use lib.Seq.{drop-cons, sets, length-sets}
use denote.Enum.Bare.{sameb}
use Rattle.channel.specs.contracts.rooms.Wait.{the_type}
use Rattle.records.specs.declared.messages.Message.{Message}
use Rattle.records.specs.Bodies.{laid, laid_next, flat_size}
use Rattle.records.specs.Messages.{message_bytes, message_size}
use Rattle.callcontrol.specs.Writing.{bytes_of, lay_all, Laid}
use Rattle.callcontrol.proofs.Laying.{lay_fits, size-append, size_one}
use Rattle.channel.specs.declared.rooms.Wait.{Wait}
use Rattle.channel.specs.declared.rooms.Room.{Room}
use Rattle.channel.specs.Rooms.{free_room, has_number, of_call, some?, rooms_sound, all_freed, count}
use Rattle.channel.specs.Questions.{Reply, Asked, Decision, Outcome, refusal, carried, asked_of, decision_of, first_out, replied, ask_of, decide_of, reject, rejects, rejects_in, ended_of}

-- messages that do not fit, and those that do

pub too_long : (rooms next : List Room) (ms : List Message) (b : List ℕ) (n : ℕ) → n ≡ length (bytes_of ms) → length b < n → refusal 7 rooms b ≡ carried rooms next ms b
unfolding carried
too_long rooms next ms b n size short = rw (lt-leb _ _ (rw size at short))

pub fitting : (rooms next : List Room) (ms : List Message) (b after : List ℕ) (end n : ℕ) → n ≡ length (bytes_of ms) → n ≤ length b → Laid b 0 ms end after
    → ◌≡◌ {A = Outcome} (record { answer = 0; rooms = next; count = end; buffer = after }) (carried rooms next ms b)
unfolding carried
fitting rooms next ms b after end n size room laid =
    let whole = laid.is ∙ lay_fits ms 0 b (omega arith) in
    let count : end ≡ length (bytes_of ms) = let z = ap (λ (w : ℕ × List ℕ). w.0) whole in omega (arith, z) in
    rw (count, le-leb _ _ (rw size at room), ap (λ (w : ℕ × List ℕ). w.1) whole)

pub one_laid : {m : Message} {b after : List ℕ} {at end : ℕ} → ◌≡◌ {A = ℕ × List ℕ} (end, after) (laid_next (message_bytes m) b at, laid (message_bytes m) b at)
    → Laid b at (m ∷ []) end after
unfolding lay_all
one_laid e = record { is = e }

pub one_size : (m : Message) (n : ℕ) → n ≡ message_size m → n ≡ length (bytes_of (m ∷ []))
one_size m n e = e ∙ sym (size_one m)

-- what is laid leaves the buffer as long as it was

laid_same : (out b : List ℕ) (at : ℕ) → length (laid out b at) ≡ length b
unfolding laid
laid_same out b at = by (leb (at + length out) (length b))
  where
    by : (fits : Bool) → length (cond fits (sets b at out) b) ≡ length b
    by true = length-sets b at out
    by false = refl

lay_same : (ms : List Message) (at : ℕ) (b : List ℕ) → length (lay_all ms at b).1 ≡ length b
unfolding lay_all
lay_same [] at b = refl
lay_same (m ∷ ms) at b = lay_same ms (laid_next (message_bytes m) b at) (laid (message_bytes m) b at) ∙ laid_same (message_bytes m) b at

pub same_room : {b after : List ℕ} {at end : ℕ} {ms : List Message} → Laid b at ms end after → length after ≡ length b
same_room {b} {after} {at} {end} {ms} l = ap (λ (w : ℕ × List ℕ). length w.1) l.is ∙ lay_same ms at b

-- a walk over the rooms, at one of a call and at another
pub laid_on : (c : ℕ) (rooms : List Room) (k at next : ℕ) (b after : List ℕ) → k < length rooms
    → ◌≡◌ {A = ℕ × List ℕ} (next, after) (
      cond (of_call c (get_or rooms k free_room)) (laid_next (message_bytes (Message.ChannelAnswer (get_or rooms k free_room).number reject)) b at) at,
      cond (of_call c (get_or rooms k free_room)) (laid (message_bytes (Message.ChannelAnswer (get_or rooms k free_room).number reject)) b at) b,
    )
    → lay_all (rejects_in c (drop (k + 1) rooms)) next after ≡ lay_all (rejects_in c (drop k rooms)) at b
unfolding lay_all rejects
laid_on c rooms k at next b after h e =
    rw (drop-cons rooms k free_room h, add-one) (by (of_call c (get_or rooms k free_room)) e)
  where
    r : Room
    r = get_or rooms k free_room

    by : (o : Bool) → ◌≡◌ {A = ℕ × List ℕ} (next, after) (cond o (laid_next (message_bytes (Message.ChannelAnswer r.number reject)) b at) at, cond o (laid (message_bytes (Message.ChannelAnswer r.number reject)) b at) b)
        → lay_all (rejects_in c (drop (suc k) rooms)) next after ≡ lay_all (cond o (Message.ChannelAnswer r.number reject ∷ []) [] ++ rejects_in c (drop (suc k) rooms)) at b
    by true e = ap (λ (w : ℕ × List ℕ). lay_all (rejects_in c (drop (suc k) rooms)) w.0 w.1) e
    by false e = ap (λ (w : ℕ × List ℕ). lay_all (rejects_in c (drop (suc k) rooms)) w.0 w.1) e

-- nothing to write
pub silent : (rooms next : List Room) (b : List ℕ) → ◌≡◌ {A = Outcome} (record { answer = 0; rooms = next; count = 0; buffer = b }) (carried rooms next [] b)
unfolding carried bytes_of
silent rooms next b = rw (le-leb 0 (length b) (omega arith))

-- CANCEL goes out first for the cancel alone
pub out_first : (w : Wait) → first_out w ≡ cond (sameb the_type w Wait.Cancel) (Message.Cancel ∷ []) []
out_first Wait.Nobody = refl
out_first Wait.User = refl
out_first Wait.Cancel = refl

-- a question

module _ (rooms : List Room) (number call asked : ℕ) (b : List ℕ) where
  module _ (s : rooms_sound rooms ≡ true) where
    pub ask_call : 16383 < call → refusal 4 rooms b ≡ ask_of rooms number call asked b
    unfolding ask_of
    ask_call h = rw (s, lt-leb _ _ h)

    module _ (c : call ≤ 16383) where
      pub ask_unknown : Asked.Unknown ≡ asked_of asked → refusal 4 rooms b ≡ ask_of rooms number call asked b
      unfolding ask_of
      ask_unknown h = rw (s, le-leb _ _ c, ← h)

      pub ask_waits : (reply : Reply) → Asked.Is reply ≡ asked_of asked → some? (has_number number) rooms ≡ true → refusal 50 rooms b ≡ ask_of rooms number call asked b
      unfolding ask_of
      ask_waits reply h w = rw (s, le-leb _ _ c, ← h, w)

      pub ask_replied : (reply : Reply) (x : Outcome) → Asked.Is reply ≡ asked_of asked → some? (has_number number) rooms ≡ false → x ≡ replied reply rooms number call b
          → x ≡ ask_of rooms number call asked b
      unfolding ask_of
      ask_replied reply x h w g = rw (s, le-leb _ _ c, ← h, w) g

-- a decision

module _ (rooms : List Room) (number decision : ℕ) (b : List ℕ) where
  pub decide_unknown : rooms_sound rooms ≡ true → Decision.Unknown ≡ decision_of decision → refusal 4 rooms b ≡ decide_of rooms number decision b
  unfolding decide_of
  decide_unknown s h = rw (s, ← h)

-- an end

size_rejects : (c : ℕ) (r : Room) → length (bytes_of (rejects c r)) ≡ cond (of_call c r) 7 0
unfolding rejects bytes_of message_size flat_size
size_rejects c r = by (of_call c r)
  where
    by : (o : Bool) → length (bytes_of (cond o (Message.ChannelAnswer r.number reject ∷ []) [])) ≡ cond o 7 0
    by true = size_one (Message.ChannelAnswer r.number reject)
    by false = refl

pub size_rejects_in : (c : ℕ) (rooms : List Room) → length (bytes_of (rejects_in c rooms)) ≡ 7 * count (of_call c) rooms
unfolding bytes_of
size_rejects_in c [] = refl
size_rejects_in c (r ∷ rs) = by (of_call c r) (size-append (rejects c r) (rejects_in c rs)) (size_rejects c r) (size_rejects_in c rs)
  where
    by : (o : Bool) → length (bytes_of (rejects c r ++ rejects_in c rs)) ≡ length (bytes_of (rejects c r)) + length (bytes_of (rejects_in c rs)) → length (bytes_of (rejects c r)) ≡ cond o 7 0
        → length (bytes_of (rejects_in c rs)) ≡ 7 * count (of_call c) rs → length (bytes_of (rejects c r ++ rejects_in c rs)) ≡ 7 * (cond o 1 0 + count (of_call c) rs)
    by true e f again = omega arith
    by false e f again = omega arith

module _ (rooms : List Room) (c : ℕ) (b : List ℕ) where
  module _ (s : rooms_sound rooms ≡ true) where
    pub end_call : 16383 < c → refusal 4 rooms b ≡ ended_of rooms c b
    unfolding ended_of
    end_call h = rw (s, lt-leb _ _ h)

    pub end_rejects : (x : Outcome) → c ≤ 16383 → x ≡ carried rooms (all_freed c rooms) (rejects_in c rooms) b → x ≡ ended_of rooms c b
    unfolding ended_of
    end_rejects x h g = rw (s, le-leb _ _ h) g
