-- An event at every place: what is counted and laid place by place is what is counted and laid for all.
use Prim.Native.Nat.{ℕ, suc, ◌+◌, ◌-◌, ◌≤◌, ◌<◌}
use mathlib.Core.Path.{◌≡◌, refl, sym, ◌∙◌, ap}
use mathlib.Core.Bool.{Bool, true, false, cond, not, ◌||◌}
use mathlib.Core.List.{List, [], ◌∷◌, ◌++◌, append-nil, append_assoc}
use native.Mathlib.Nat.{zero-add, add-zero}
use native.Mathlib.Numerals.{add-one}
use native.Mathlib.Omega.{arith}
use borrow.Author.Tests.{eq-eqb, ne_eqb, le-leb, lt-leb, eqb-true, ltb-true, ltb-false}
use borrow.Rule.Slice.PartMut.{put_mid}
use lib.Dec.{eqb, ltb, lit≤}
use lib.ListN.{length, take, drop, set, length-append, length-drop, take-append-drop, drop_of_length-le}
use lib.Seq.{sets, sets-eq, length-sets, take_all, take-suc, take-append_seam, length-take-le, drop-cons, set_at, get_or_at}
use Rattle.records.specs.declared.events.Event.{Event}
use Rattle.records.specs.declared.messages.Message.{Message}
use Rattle.records.specs.Messages.{message_bytes}
use Rattle.records.proofs.Laws.{by_test, sets-append}
use Rattle.callcontrol.specs.declared.call.Call.{Call}
use Rattle.callcontrol.specs.Rows.{row_for}
use Rattle.callcontrol.specs.Writing.{messages_in, bytes_of}
use Rattle.callcontrol.specs.Step.{Outcome, refusal, other_call, over_transmission, decided}
use Rattle.callcontrol.proofs.Laying.{messages_small, size-append}
use Rattle.console.specs.declared.route.Aim.{Aim}
use Rattle.console.specs.declared.console.SoFar.{SoFar}
use Rattle.console.specs.Table.{no_call, call_at, some?}
use Rattle.console.specs.Route.{aim_of}
use Rattle.console.specs.Console.{behind, writes, placed, takes, part, writes_from, next_of, all_next, headed, OneMore, LaidAll, ConsoleOutcome, everywhere, refuses}
use Rattle.console.proofs.Placing.{bytes_at, taking, place_size, no_bytes, row_carried, row_missing, carried_whole, placed_refuses, placed_takes, part_whole, put_whole, stored_part}

-- ---- one place more

pub bytes-append : (ms ns : List Message) → bytes_of (ms ++ ns) ≡ bytes_of ms ++ bytes_of ns
unfolding bytes_of
bytes-append [] ns = refl
bytes-append (m ∷ ms) ns = ap (λ (z : List ℕ). message_bytes m ++ z) (bytes-append ms ns) ∙ sym (append_assoc (message_bytes m) (bytes_of ms) (bytes_of ns))

from-append : (j : ℕ) (xs ys : List Call) (e : Event) → writes_from j (xs ++ ys) e ≡ writes_from j xs e ++ writes_from (j + length xs) ys e
from-append j [] ys e = rw add-zero
from-append j (c ∷ xs) ys e =
    let n : suc j + length xs ≡ j + suc (length xs) = omega arith in
    ap (λ (z : List Message). part j c e ++ z) (from-append (suc j) xs ys e ∙ ap (λ (m : ℕ). writes_from (suc j) xs e ++ writes_from m ys e) n)
    ∙ sym (append_assoc (part j c e) (writes_from (suc j) xs e) (writes_from (j + suc (length xs)) ys e))

next-append : (xs ys : List Call) (e : Event) → all_next (xs ++ ys) e ≡ all_next xs e ++ all_next ys e
next-append [] ys e = refl
next-append (c ∷ xs) ys e = ap (λ (z : List Call). next_of e c ∷ z) (next-append xs ys e)

pub next_length : (xs : List Call) (e : Event) → length (all_next xs e) ≡ length xs
next_length [] e = refl
next_length (c ∷ xs) e = ap suc (next_length xs e)

some-append : (p : Call → Bool) (xs : List Call) (c : Call) → some? p (xs ++ c ∷ []) ≡ (p c || some? p xs)
some-append p [] c = refl
some-append p (x ∷ xs) c = ap (λ (b : Bool). p x || b) (some-append p xs c) ∙ swap (p x) (p c) (some? p xs)
  where
    swap : (a b c : Bool) → (a || (b || c)) ≡ (b || (a || c))
    swap true true c = refl
    swap true false c = refl
    swap false true c = refl
    swap false false c = refl

module _ (calls : List Call) (e : Event) where
  -- what the first k places write
  abbrev pub done : ℕ → List Message
  done k = writes_from 0 (take k calls) e

  more_of : (k : ℕ) → k < length calls → take (k + 1) calls ≡ take k calls ++ call_at calls k ∷ []
  more_of k lt = ap (λ (n : ℕ). take n calls) (add-one k) ∙ take-suc calls k no_call lt

  pub done_more : (k : ℕ) → k < length calls → done (k + 1) ≡ done k ++ part k (call_at calls k) e
  done_more k lt =
      let n : 0 + length (take k calls) ≡ k = (let l = length-take-le k calls (omega arith) in omega arith) in
      ap (λ (z : List Call). writes_from 0 z e) (more_of k lt)
      ∙ from-append 0 (take k calls) (call_at calls k ∷ []) e
      ∙ ap (λ (m : ℕ). done k ++ writes_from m (call_at calls k ∷ []) e) n
      ∙ ap (λ (z : List Message). done k ++ z) (append-nil (part k (call_at calls k) e))

  pub done_all : (k : ℕ) → length calls ≤ k → done k ≡ writes_from 0 calls e
  done_all k le = ap (λ (z : List Call). writes_from 0 z e) (take_all k calls le)

  -- the first k places write no more than all
  pub done_within : (k : ℕ) → length (bytes_of (done k)) ≤ length (bytes_of (writes_from 0 calls e))
  done_within k =
      let s : writes_from 0 calls e ≡ done k ++ writes_from (0 + length (take k calls)) (drop k calls) e =
      ap (λ (z : List Call). writes_from 0 z e) (sym (take-append-drop k calls)) ∙ from-append 0 (take k calls) (drop k calls) e in
      rw s (omega (arith, size-append (done k) (writes_from (0 + length (take k calls)) (drop k calls) e)))

-- ---- how many bytes a place writes

headed_few : (n : ℕ) → n ≤ 122 → (z : Bool) → cond z 0 (5 + n) ≤ 127
headed_few n h true = omega arith
headed_few n h false = omega arith

module _ (c : Call) (e : Event) where
  pub part_size : (k : ℕ) (t : Bool) → takes e c ≡ t → length (bytes_of (part k c e)) ≡ cond t (headed (length (bytes_at c e))) 0
  unfolding bytes_of
  part_size k true t = ap (λ (x : Bool). length (bytes_of (cond x (writes k c e) []))) t ∙ by_bytes (messages_in (row_for c e))
    where
      by_bytes : (ms : List Message) → length (bytes_of (behind k ms)) ≡ headed (length (bytes_of ms))
      by_bytes [] = refl
      by_bytes (m ∷ ms) =
          let some : length (bytes_of (m ∷ ms)) ≡ 0 → ⊥ = λ z. let w : ◌≡◌ {A = ℕ} 0 1 = cc (no_bytes (m ∷ ms) z) in omega arith in
          length-append (message_bytes (Message.Place k)) (bytes_of (m ∷ ms)) ∙ ap (λ (n : ℕ). n + length (bytes_of (m ∷ ms))) (place_size k)
          ∙ sym (ap (λ (x : Bool). cond x 0 (5 + length (bytes_of (m ∷ ms)))) (ne_eqb _ _ some))
  part_size k false t = ap (λ (x : Bool). length (bytes_of (cond x (writes k c e) []))) t

pub part_few : (k : ℕ) (c : Call) (e : Event) (t : Bool) → takes e c ≡ t → length (bytes_of (part k c e)) ≤ 127
part_few k c e true t = rw (part_size c e k true t) (headed_few (length (bytes_at c e)) (messages_small (row_for c e)) (eqb (length (bytes_at c e)) 0))
part_few k c e false t = rw (part_size c e k false t) (omega arith)

-- ---- laying

-- only BREAK and RESUME are for every place
pub every_is : (P : Event → Type 0) → P Event.Break → P Event.Resume → (e : Event) → aim_of e ≡ Aim.Every → P e
every_is P b r (Event.SetupRequest a d q s) h = cc
every_is P b r Event.SetupResponse h = cc
every_is P b r Event.ReleaseRequest h = cc
every_is P b r (Event.TxRequest k) h = cc
every_is P b r (Event.DCallProceeding i) h = cc
every_is P b r (Event.DAlert i) h = cc
every_is P b r (Event.DConnect i g d o s) h = cc
every_is P b r (Event.DConnectAcknowledge i g o) h = cc
every_is P b r (Event.DSetup i a d) h = cc
every_is P b r (Event.DInfo i u o d s) h = cc
every_is P b r (Event.DTxGranted i g) h = cc
every_is P b r (Event.DTxCeased i) h = cc
every_is P b r (Event.DTxInterrupt i g) h = cc
every_is P b r (Event.DTxWait i) h = cc
every_is P b r (Event.DTxContinue i k) h = cc
every_is P b r (Event.DCallRestore i g s o) h = cc
every_is P b r (Event.DDisconnect i) h = cc
every_is P b r (Event.DRelease i) h = cc
every_is P b r Event.ReportSent h = cc
every_is P b r Event.ReportFailed h = cc
every_is P b r Event.Break h = b
every_is P b r Event.Resume h = r
every_is P b r (Event.Expiry n) h = cc

-- they are of no call, and never over own transmission
pub ours : (c : Call) (e : Event) → aim_of e ≡ Aim.Every → other_call c e ≡ false
unfolding other_call
ours c e every = every_is (λ w. other_call c w ≡ false) refl refl e every

pub silent : (c : Call) (e : Event) → aim_of e ≡ Aim.Every → over_transmission c e ≡ false
silent c e every = every_is (λ w. over_transmission c w ≡ false) refl refl e every

headed_room : (n l : ℕ) (z : Bool) → eqb n 0 ≡ z → cond z 0 (5 + n) ≤ l → n ≤ l - 5
headed_room n l true e h = omega (arith, eqb-true n 0 e)
headed_room n l false e h = omega arith

-- a place that has room for its part has room for its messages behind the record that names it
pub part_room : (k : ℕ) (c : Call) (e : Event) (b : List ℕ) → takes e c ≡ true → length (bytes_of (part k c e)) ≤ length b
    → length (bytes_at c e) ≤ length (drop 5 b)
part_room k c e b t room =
    rw (length-drop 5 b) (headed_room (length (bytes_at c e)) (length b) (eqb (length (bytes_at c e)) 0) refl (rw (part_size c e k true t) at room))

-- where there is room, a place that takes the event writes its part, and another stays as it is
pub record Placed (k : ℕ) (c : Call) (e : Event) (b : List ℕ) (o : Outcome) : Type 0 where
  pub answer : eqb o.answer 0 ≡ takes e c
  pub call : o.call ≡ next_of e c
  pub count : o.count ≡ length (bytes_of (part k c e))
  pub buffer : o.buffer ≡ sets b 0 (bytes_of (part k c e))

module _ (k : ℕ) (c : Call) (e : Event) (b : List ℕ) (every : aim_of e ≡ Aim.Every) (room : length (bytes_of (part k c e)) ≤ length b) where
  placed_by : (t : Bool) → takes e c ≡ t → Placed k c e b (placed k c e b)
  unfolding bytes_of
  placed_by true t =
      let fits : length (bytes_at c e) ≤ length (drop 5 b) = part_room k c e b t room in
      let d : decided c e (drop 5 b) ≡ taking c e (drop 5 b) = row_carried c e (drop 5 b) (ours c e every) t (silent c e every) ∙ carried_whole c e (drop 5 b) fits in
      let w = sym (placed_takes k c e b d) in
      record {
        answer = ap (λ (o : Outcome). eqb o.answer 0) w ∙ sym t;
        call = ap (λ (o : Outcome). o.call) w ∙ ap (λ (x : Bool). cond x (row_for c e).call c) (sym t);
        count = ap (λ (o : Outcome). o.count) w ∙ ap (λ (x : Bool). length (bytes_of (cond x (writes k c e) []))) (sym t);
        buffer = ap (λ (o : Outcome). o.buffer) w ∙ ap (λ (x : Bool). sets b 0 (bytes_of (cond x (writes k c e) []))) (sym t);
      }
  placed_by false t =
      let d : decided c e (drop 5 b) ≡ refusal 6 c (drop 5 b) = row_missing c e (drop 5 b) (ours c e every) t in
      let w = sym (placed_refuses k c e b 6 (lit≤ tt) d) in
      record {
        answer = ap (λ (o : Outcome). eqb o.answer 0) w ∙ sym t;
        call = ap (λ (o : Outcome). o.call) w ∙ ap (λ (x : Bool). cond x (row_for c e).call c) (sym t);
        count = ap (λ (o : Outcome). o.count) w ∙ ap (λ (x : Bool). length (bytes_of (cond x (writes k c e) []))) (sym t);
        buffer = ap (λ (o : Outcome). o.buffer) w ∙ ap (λ (x : Bool). sets b 0 (bytes_of (cond x (writes k c e) []))) (sym t);
      }

  pub placed_part : Placed k c e b (placed k c e b)
  placed_part = placed_by (takes e c) refl

-- ---- one place's turn, behind what those in front of it write

module _
    (k : ℕ) (c : Call) (e : Event) (passed : SoFar) (own : List ℕ) (every : aim_of e ≡ Aim.Every) (room : passed.size + length (bytes_of (part k c e)) ≤ length own) {o : Outcome}
    (step : o ≡ placed k c e (take (length own - passed.size) (drop passed.size own))) where
  placing : Placed k c e (drop passed.size own) o
  placing =
      let at = passed.size in
      let fits : length (bytes_of (part k c e)) ≤ length (drop at own) = rw (length-drop at own) (omega arith) in
      let same : o ≡ placed k c e (drop at own) = step ∙ ap (λ (z : List ℕ). placed k c e z) (part_whole own at) in
      rw same (placed_part k c e (drop at own) every fits)

  pub turn_within : passed.size + o.count ≤ length own
  turn_within = let w = placing.count in omega arith

  abbrev written : List ℕ
  written = put_mid passed.size (length own - passed.size) own o.buffer

  laid_behind : written ≡ sets own passed.size (bytes_of (part k c e))
  laid_behind =
      let at = passed.size in
      put_whole own o.buffer at ∙ ap (λ (z : List ℕ). take at own ++ z) placing.buffer ∙ stored_part own (bytes_of (part k c e)) at room

  turn_by : {upto size : ℕ} → upto ≡ cond (eqb o.answer 0) (k + 1) passed.upto → size ≡ passed.size + o.count
      → (o.call ≡ next_of e c) × OneMore upto size written k c e passed own
  turn_by last behind = (
    placing.call,
    record {
      last = last ∙ ap (λ (x : Bool). cond x (k + 1) passed.upto) placing.answer;
      behind = behind ∙ ap (λ (m : ℕ). passed.size + m) placing.count;
      bytes = laid_behind;
    },
  )

  pub turn_taken : o.answer ≡ 0 → (o.call ≡ next_of e c) × OneMore (k + 1) (passed.size + o.count) written k c e passed own
  turn_taken none = turn_by (sym (ap (λ (x : Bool). cond x (k + 1) passed.upto) (eq-eqb o.answer 0 none))) refl

  pub turn_left : (o.answer ≡ 0 → ⊥) → o.count ≡ 0 → (o.call ≡ next_of e c) × OneMore passed.upto passed.size written k c e passed own
  turn_left other none = turn_by (sym (ap (λ (x : Bool). cond x (k + 1) passed.upto) (ne_eqb o.answer 0 other))) (omega arith)

-- ---- the buffer and the table where k places have been passed

pub record Putting (e : Event) (b₀ : List ℕ) (calls : List Call) (b : List ℕ) (after : List Call) (passed : SoFar) (k : ℕ) : Type 0 where
  pub bytes : b ≡ sets b₀ 0 (bytes_of (done calls e k))
  pub records : after ≡ all_next (take k calls) e ++ drop k calls
  pub taken : not (eqb passed.upto 0) ≡ some? (takes e) (take k calls)
  pub last : passed.upto ≤ k
  pub tight : (j : ℕ) → passed.upto ≡ suc j → takes e (call_at calls j) ≡ true
  pub left : (j : ℕ) → passed.upto ≤ j → j < k → takes e (call_at calls j) ≡ false
  pub position : passed.size ≡ length (bytes_of (done calls e k))
  pub within : k ≤ 8
  pub eight : length calls ≡ 8
  pub room : length (bytes_of (writes_from 0 calls e)) ≤ length b₀

pub put_none : {e : Event} {b : List ℕ} {calls : List Call} → length calls ≡ 8 → length (bytes_of (writes_from 0 calls e)) ≤ length b
    → Putting e b calls b calls (record { upto = 0; size = 0 }) 0
unfolding bytes_of
put_none eight room =
    record { bytes = refl; records = refl; taken = refl; last = omega arith; tight = λ j is. absurd (omega arith); left = λ j le lt. absurd (omega arith); position = refl; within = omega arith; eight = eight; room = room }

-- a place that takes the event is the last that does
last_taken : (t : Bool) (k upto : ℕ) → not (eqb (cond t (k + 1) upto) 0) ≡ (t || not (eqb upto 0))
last_taken true k upto = ap not (ne_eqb (k + 1) 0 (λ z. omega arith))
last_taken false k upto = refl

last_within : (t : Bool) (k upto : ℕ) → upto ≤ k → cond t (k + 1) upto ≤ k + 1
last_within true k upto le = omega arith
last_within false k upto le = omega arith

module _
    {e : Event} {b₀ : List ℕ} {calls : List Call} {b : List ℕ} {after : List Call} {passed : SoFar} {k : ℕ} (p : Putting e b₀ calls b after passed k) where
  pub same_room : length b ≡ length b₀
  same_room = ap length p.bytes ∙ length-sets b₀ 0 (bytes_of (done calls e k))

  pub as_many : length after ≡ 8
  as_many =
      let n = p.eight in
      let w = p.within in
      ap length p.records ∙ length-append (all_next (take k calls) e) (drop k calls)
      ∙ (λ i. (next_length (take k calls) e ∙ length-take-le k calls (omega arith)) i + length-drop k calls i) ∙ omega arith

  pub put_all : length calls ≤ k → LaidAll passed after b calls e b₀
  put_all le =
      let n = p.eight in
      let w = p.within in
      let all : k ≡ 8 = omega arith in
      record {
        taken = p.taken ∙ ap (λ (z : List Call). some? (takes e) z) (take_all k calls le);
        last = record { within = let l = p.last in omega arith; tight = p.tight; behind = λ j from lt. p.left j from (omega arith) };
        size = p.position ∙ ap (λ (z : List Message). length (bytes_of z)) (done_all calls e k le);
        records =
            p.records
            ∙ ap (λ (z : List Call). all_next z e ++ drop k calls) (take_all k calls le)
            ∙ ap (λ (z : List Call). all_next calls e ++ z) (drop_of_length-le calls le)
            ∙ append-nil (all_next calls e);
        bytes = p.bytes ∙ ap (λ (z : List Message). sets b₀ 0 (bytes_of z)) (done_all calls e k le);
      }

  module _ (lt : k < 8) where
    before : length (all_next (take k calls) e) ≡ k
    before = let n = p.eight in next_length (take k calls) e ∙ length-take-le k calls (omega arith)

    split : after ≡ all_next (take k calls) e ++ call_at calls k ∷ drop (suc k) calls
    split = let n = p.eight in p.records ∙ ap (λ (z : List Call). all_next (take k calls) e ++ z) (drop-cons calls k no_call (omega arith))

    -- the record that is next is the one of the table
    next_call : call_at after k ≡ call_at calls k
    next_call = ap (λ (z : List Call). call_at z k) split ∙ get_or_at (all_next (take k calls) e) (call_at calls k) (drop (suc k) calls) no_call k before

    size_more : length (bytes_of (done calls e (k + 1))) ≡ passed.size + length (bytes_of (part k (call_at calls k) e))
    size_more =
        let n = p.eight in
        ap (λ (z : List Message). length (bytes_of z)) (done_more calls e k (omega arith))
        ∙ size-append (done calls e k) (part k (call_at calls k) e)
        ∙ ap (λ (m : ℕ). m + length (bytes_of (part k (call_at calls k) e))) (sym p.position)

    -- there is room for the place that is next
    pub room_more : passed.size + length (bytes_of (part k (call_at after k) e)) ≤ length b
    room_more =
        let s = size_more in
        let w = done_within calls e (k + 1) in
        let l = same_room in
        let r = p.room in
        rw next_call (omega arith)

    module _ {upto size : ℕ} {now : List ℕ} (more : OneMore upto size now k (call_at after k) e passed b) where
      last_is : upto ≡ cond (takes e (call_at calls k)) (k + 1) passed.upto
      last_is = more.last ∙ ap (λ (c : Call). cond (takes e c) (k + 1) passed.upto) next_call

      tight_by : (t : Bool) → takes e (call_at calls k) ≡ t → (j : ℕ) → cond t (k + 1) passed.upto ≡ suc j → takes e (call_at calls j) ≡ true
      tight_by true t j is = let same : j ≡ k = omega arith in ap (λ (n : ℕ). takes e (call_at calls n)) same ∙ t
      tight_by false t j is = p.tight j is

      left_by : (t : Bool) → takes e (call_at calls k) ≡ t → (j : ℕ) → cond t (k + 1) passed.upto ≤ j → j < k + 1 → takes e (call_at calls j) ≡ false
      left_by true t j from below = absurd (omega arith)
      left_by false t j from below =
          by_test (ltb j k) (λ b. p.left j from (ltb-true j k b))
          (λ b. let l = ltb-false j k b in let same : j ≡ k = omega arith in ap (λ (n : ℕ). takes e (call_at calls n)) same ∙ t)

      pub put_more : Putting e b₀ calls now (set after k (next_of e (call_at after k))) (record { upto = upto; size = size }) (k + 1)
      put_more =
          let eight = p.eight in
          let v = bytes_of (part k (call_at calls k) e) in
          let whole : bytes_of (done calls e (k + 1)) ≡ bytes_of (done calls e k) ++ v =
          ap bytes_of (done_more calls e k (omega arith)) ∙ bytes-append (done calls e k) (part k (call_at calls k) e) in
          let same : part k (call_at after k) e ≡ part k (call_at calls k) e = ap (λ (c : Call). part k c e) next_call in
          record {
            bytes =
                more.bytes
                ∙ ap (λ (z : List Message). sets b passed.size (bytes_of z)) same
                ∙ ap (λ (z : List ℕ). sets z passed.size v) p.bytes
                ∙ ap (λ (m : ℕ). sets (sets b₀ 0 (bytes_of (done calls e k))) m v) (p.position ∙ sym (zero-add _))
                ∙ sym (sets-append (bytes_of (done calls e k)) b₀ v 0)
                ∙ ap (λ (z : List ℕ). sets b₀ 0 z) (sym whole);
            records =
                (λ i. set (split i) k (next_of e (next_call i)))
                ∙ set_at (all_next (take k calls) e) (call_at calls k) (drop (suc k) calls) (next_of e (call_at calls k)) k before
                ∙ sym
                (ap (λ (z : List Call). all_next z e ++ drop (k + 1) calls) (more_of calls e k (omega arith))
                ∙ ap (λ (z : List Call). z ++ drop (k + 1) calls) (next-append (take k calls) (call_at calls k ∷ []) e)
                ∙ append_assoc (all_next (take k calls) e) (next_of e (call_at calls k) ∷ []) (drop (k + 1) calls)
                ∙ ap (λ (m : ℕ). all_next (take k calls) e ++ next_of e (call_at calls k) ∷ drop m calls) (add-one k));
            taken =
                ap (λ (n : ℕ). not (eqb n 0)) last_is
                ∙ last_taken (takes e (call_at calls k)) k passed.upto
                ∙ ap (λ (x : Bool). takes e (call_at calls k) || x) p.taken
                ∙ sym
                (ap (λ (z : List Call). some? (takes e) z) (more_of calls e k (omega arith))
                ∙ some-append (takes e) (take k calls) (call_at calls k));
            last = rw last_is (last_within (takes e (call_at calls k)) k passed.upto p.last);
            tight = λ j is. tight_by (takes e (call_at calls k)) refl j (sym last_is ∙ is);
            left = λ j from below. left_by (takes e (call_at calls k)) refl j (rw last_is at from) below;
            position = more.behind ∙ ap (λ (z : List Message). passed.size + length (bytes_of z)) same ∙ sym size_more;
            within = omega arith;
            eight = eight;
            room = p.room;
          }

-- ---- an event at every place: the answers

pub own_fits : (calls : List Call) (e : Event) {r : SoFar} {after : List Call} {own own₀ : List ℕ} → LaidAll r after own calls e own₀
    → length (bytes_of (writes_from 0 calls e)) ≤ length own₀ → r.size ≤ length own
own_fits calls e {own = own} {own₀ = own₀} laid room =
    let n = laid.size in
    let l : length own ≡ length own₀ = ap length laid.bytes ∙ length-sets own₀ 0 (bytes_of (writes_from 0 calls e)) in
    omega arith

-- the front of our own buffer is as long as what was laid
pub front_size : (n : ℕ) (own : List ℕ) → n ≤ length own → n ≡ length (take n own)
front_size n own fits = sym (length-take-le n own fits)

pub front_within : (n : ℕ) (own b : List ℕ) → n ≤ length own → n ≤ length b → length (take n own) ≤ length b
front_within n own b fits room = let s = front_size n own fits in omega arith

module _ (calls : List Call) (e : Event) (b : List ℕ) {r : SoFar} {after : List Call} {own own₀ : List ℕ} (laid : LaidAll r after own calls e own₀) where
  none_of : r.upto ≡ 0 → some? (takes e) calls ≡ false
  none_of none = sym laid.taken ∙ ap not (eq-eqb r.upto 0 none)

  some_of : (r.upto ≡ 0 → ⊥) → some? (takes e) calls ≡ true
  some_of one = sym laid.taken ∙ ap not (ne_eqb r.upto 0 one)

  pub none_takes : r.upto ≡ 0 → refuses 6 calls b ≡ everywhere calls e b
  unfolding everywhere
  none_takes none = rw (none_of none)

  pub no_space : (r.upto ≡ 0 → ⊥) → length b < r.size → refuses 7 calls b ≡ everywhere calls e b
  unfolding everywhere
  no_space one short = rw (some_of one, lt-leb _ _ (rw laid.size at short))

  -- what is copied is what was laid
  copied : {now : List ℕ} → r.size ≤ length b → r.size ≤ length own
      → now ≡ take r.size own ++ drop r.size b
      → now ≡ sets b 0 (bytes_of (writes_from 0 calls e))
  copied room fits is =
      let v = bytes_of (writes_from 0 calls e) in
      let n = laid.size in
      let l : length own ≡ length own₀ = ap length laid.bytes ∙ length-sets own₀ 0 v in
      let front : take r.size own ≡ v =
      ap (λ (m : ℕ). take m own) n ∙ ap (λ (z : List ℕ). take (length v) z) (laid.bytes ∙ sets-eq v own₀ 0 (omega arith))
      ∙ take-append_seam v (drop (0 + length v) own₀) in
      is ∙ ap (λ (z : List ℕ). z ++ drop r.size b) front ∙ ap (λ (m : ℕ). v ++ drop m b) n
      ∙ sym (sets-eq v b 0 (omega arith) ∙ ap (λ (m : ℕ). v ++ drop m b) (zero-add (length v)))

  pub all_take : (r.upto ≡ 0 → ⊥) → r.size ≤ length b → r.size ≤ length own → {now : List ℕ}
      → now ≡ take r.size own ++ drop r.size b
      → ◌≡◌ {A = ConsoleOutcome} (record { answer = 0; place = 0; calls = after; count = r.size; buffer = now }) (everywhere calls e b)
  unfolding everywhere
  all_take one room fits is =
      rw (some_of one, le-leb _ _ (rw laid.size at room), laid.records, copied room fits is, laid.size)
