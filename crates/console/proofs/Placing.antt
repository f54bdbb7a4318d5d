-- The step of one place on a lent buffer: its part behind five bytes, and then those five.
use Prim.Native.Nat.{ℕ, ◌+◌, ◌-◌, ◌≤◌, min}
use mathlib.Core.Path.{◌≡◌, refl, sym, ◌∙◌, ap}
use mathlib.Core.Bool.{Bool, true, false, cond}
use mathlib.Core.List.{List, [], ◌∷◌, ◌++◌, append-nil, append_assoc}
use native.Mathlib.Nat.{zero-add}
use native.Mathlib.Omega.{arith}
use borrow.Author.Tests.{ne_eqb, le-leb, leb-true, ltb-true, ltb-false}
use borrow.Rule.Slice.PartMut.{put_mid}
use lib.Dec.{leb, ltb, lit≤}
use lib.ListN.{length, set, take, drop, length-append, length-drop, take-append-drop, drop_of_length-le}
use lib.Seq.{sets, length-sets, sets-eq, take_all, drop_at, drop-drop, length-take-le}
use Rattle.records.specs.declared.events.Event.{Event}
use Rattle.records.specs.declared.messages.Message.{Message}
use Rattle.records.specs.Bodies.{laid, flat_size}
use Rattle.records.specs.Tables.{flat}
use Rattle.records.specs.Messages.{messages, message_bytes}
use Rattle.records.proofs.Laws.{length-flat_bytes}
use Rattle.callcontrol.specs.declared.call.Call.{Call}
use Rattle.callcontrol.specs.Rows.{row_for}
use Rattle.callcontrol.specs.Writing.{messages_in, bytes_of}
use Rattle.callcontrol.specs.Step.{Outcome, refusal, other_call, over_transmission, carried, decided}
use Rattle.callcontrol.proofs.Laying.{messages_small}
use Rattle.std.proofs.lemmas.List.{set-get_or}
use Rattle.console.specs.Table.{no_call, call_at}
use Rattle.console.specs.Console.{ConsoleOutcome, behind, writes, placed, at_place}

-- ---- what a step that was decided is

abbrev pub bytes_at : Call → Event → List ℕ
bytes_at c e = bytes_of (messages_in (row_for c e))

abbrev pub taking : Call → Event → List ℕ → Outcome
taking c e b = record { answer = 0; place = 0; call = (row_for c e).call; count = length (bytes_at c e); buffer = sets b 0 (bytes_at c e) }

-- a refusal, with a number of the step's own, that gives everything back; or a row whose messages fit
pub data Decides (c : Call) (e : Event) (b : List ℕ) : Type 0 where
  refuses : (n : ℕ) → 5 ≤ n → decided c e b ≡ refusal n c b → Decides c e b
  takes : (row_for c e).taken ≡ true → length (bytes_at c e) ≤ length b → decided c e b ≡ taking c e b → Decides c e b

module _ (c : Call) (e : Event) (b : List ℕ) where
  abbrev rowed : Bool → Outcome
  rowed over = cond over (refusal 8 c b) (carried c (row_for c e) b)

  by_tests_lem : {other row : Bool} → other_call c e ≡ other → (row_for c e).taken ≡ row
      → decided c e b ≡ cond other (refusal 5 c b) (cond row (rowed (over_transmission c e)) (refusal 6 c b))
  unfolding decided
  by_tests_lem {other} o t =
      ap (λ (x : Bool). cond x (refusal 5 c b) (cond (row_for c e).taken (rowed (over_transmission c e)) (refusal 6 c b))) o
      ∙ ap (λ (x : Bool). cond other (refusal 5 c b) (cond x (rowed (over_transmission c e)) (refusal 6 c b))) t

  pub row_carried : other_call c e ≡ false → (row_for c e).taken ≡ true → over_transmission c e ≡ false → decided c e b ≡ carried c (row_for c e) b
  row_carried o t s = by_tests_lem o t ∙ ap rowed s

  pub row_missing : other_call c e ≡ false → (row_for c e).taken ≡ false → decided c e b ≡ refusal 6 c b
  row_missing o t = by_tests_lem o t

  pub carried_whole : length (bytes_at c e) ≤ length b → carried c (row_for c e) b ≡ taking c e b
  unfolding carried
  carried_whole room = ap (λ (x : Bool). cond x (taking c e b) (refusal 7 c b)) (le-leb _ _ room)

  by_room : (r : Bool) → leb (length (bytes_at c e)) (length b) ≡ r → (row_for c e).taken ≡ true → other_call c e ≡ false → over_transmission c e ≡ false → Decides c e b
  unfolding carried
  by_room true r t o s = takes t (leb-true _ _ r) (row_carried o t s ∙ carried_whole (leb-true _ _ r))
  by_room false r t o s =
      refuses 7 (lit≤ tt) (row_carried o t s ∙ ap (λ (x : Bool). cond x (taking c e b) (refusal 7 c b)) r)

  by_transmission : (s : Bool) → over_transmission c e ≡ s → (row_for c e).taken ≡ true → other_call c e ≡ false → Decides c e b
  by_transmission true s t o = refuses 8 (lit≤ tt) (by_tests_lem o t ∙ ap rowed s)
  by_transmission false s t o = by_room (leb (length (bytes_at c e)) (length b)) refl t o s

  by_row : (t : Bool) → (row_for c e).taken ≡ t → other_call c e ≡ false → Decides c e b
  by_row true t o = by_transmission (over_transmission c e) refl t o
  by_row false t o = refuses 6 (lit≤ tt) (row_missing o t)

  by_call : (o : Bool) → other_call c e ≡ o → Decides c e b
  unfolding decided
  by_call true o = refuses 5 (lit≤ tt) (rw o)
  by_call false o = by_row (row_for c e).taken refl o

  pub decides : Decides c e b
  decides = by_call (other_call c e) refl

  pub few : {o : Outcome} → o ≡ decided c e b → o.count ≤ 122
  few {o} is = counts decides
    where
      counts : Decides c e b → o.count ≤ 122
      counts (refuses n z d) = rw (is, d) (omega arith)
      counts (takes t f d) = rw (is, d) (messages_small (row_for c e))

-- ---- bytes and lists

four : (m : Message) → 4 ≤ length (message_bytes m)
unfolding message_bytes flat_size
four m = rw (length-flat_bytes (flat messages m)) (omega arith)

pub place_size : (k : ℕ) → length (message_bytes (Message.Place k)) ≡ 5
unfolding message_bytes flat_size
place_size k = length-flat_bytes (flat messages (Message.Place k))

-- some messages are no bytes only where there is no message
pub no_bytes : (ms : List Message) → length (bytes_of ms) ≡ 0 → ms ≡ []
unfolding bytes_of
no_bytes [] h = refl
no_bytes (m ∷ ms) h = absurd (omega (arith, h, length-append (message_bytes m) (bytes_of ms), four m))

pub behind_some : (k : ℕ) (ms : List Message) → (length (bytes_of ms) ≡ 0 → ⊥)
    → bytes_of (behind k ms) ≡ message_bytes (Message.Place k) ++ bytes_of ms
unfolding bytes_of
behind_some k [] some = absurd (some refl)
behind_some k (m ∷ ms) some = refl

-- the part of a buffer from a position on, lent and put back
pub part_whole : (b : List ℕ) (h : ℕ) → take (length b - h) (drop h b) ≡ drop h b
part_whole b h = take_all (length b - h) (drop h b) (rw (length-drop h b) (omega arith))

pub put_whole : (b y : List ℕ) (h : ℕ) → put_mid h (length b - h) b y ≡ take h b ++ y
put_whole b y h =
    let none : drop (length b - h) (drop h b) ≡ [] = drop_of_length-le (drop h b) {i = length b - h} (rw (length-drop h b) (omega arith)) in
    rw (none, append-nil y)

head_drop : (b : List ℕ) {h : ℕ} → h ≡ min (length b) 5 → drop h b ≡ drop 5 b
head_drop b {h} is = by (ltb (length b) 5) refl
  where
    by : (t : Bool) → ltb (length b) 5 ≡ t → drop h b ≡ drop 5 b
    by true e = let l = ltb-true (length b) 5 e in drop_of_length-le b {i = h} (omega arith) ∙ sym (drop_of_length-le b {i = 5} (omega arith))
    by false e = let l = ltb-false (length b) 5 e in let five : h ≡ 5 = omega arith in ap (λ (n : ℕ). drop n b) five

-- what is stored at the front
front : (l vs : List ℕ) → length vs ≤ length l → sets l 0 vs ≡ vs ++ drop (length vs) l
front l vs h = rw zero-add at (sets-eq vs l 0 (omega arith))

-- what is stored from a position on
pub stored_part : (b vs : List ℕ) (at : ℕ) → at + length vs ≤ length b → take at b ++ sets (drop at b) 0 vs ≡ sets b at vs
stored_part b vs at h =
    rw (front (drop at b) vs (rw (length-drop at b) (omega arith)), drop-drop (length vs) at b, sets-eq vs b at h, append_assoc)

-- the record that names the place goes in front of what the step has stored
lay_head : (hd bs b : List ℕ) → length hd ≡ 5 → 5 + length bs ≤ length b
    → laid hd (take 5 b ++ sets (drop 5 b) 0 bs) 0 ≡ sets b 0 (hd ++ bs)
unfolding laid
lay_head hd bs b five room =
    let front_five : length (take 5 b) ≡ 5 = length-take-le 5 b (omega arith) in
    let rest : length (sets (drop 5 b) 0 bs) ≡ length b - 5 = length-sets (drop 5 b) 0 bs ∙ length-drop 5 b in
    let all : length (take 5 b ++ sets (drop 5 b) 0 bs) ≡ length b = length-append (take 5 b) (sets (drop 5 b) 0 bs) ∙ omega arith in
    let fits : leb (0 + length hd) (length (take 5 b ++ sets (drop 5 b) 0 bs)) ≡ true = le-leb (0 + length hd) (length (take 5 b ++ sets (drop 5 b) 0 bs)) (omega arith) in
    let stored : sets (take 5 b ++ sets (drop 5 b) 0 bs) 0 hd ≡ hd ++ sets (drop 5 b) 0 bs =
    front (take 5 b ++ sets (drop 5 b) 0 bs) hd (omega arith)
    ∙ ap (λ (z : List ℕ). hd ++ z) (ap (λ (n : ℕ). drop n (take 5 b ++ sets (drop 5 b) 0 bs)) five ∙ drop_at (take 5 b) (sets (drop 5 b) 0 bs) 5 front_five) in
    let behind_it : sets (drop 5 b) 0 bs ≡ bs ++ drop (5 + length bs) b =
    front (drop 5 b) bs (rw (length-drop 5 b) (omega arith)) ∙ ap (λ (z : List ℕ). bs ++ z) (drop-drop (length bs) 5 b) in
    let both : length (hd ++ bs) ≡ 5 + length bs = length-append hd bs ∙ omega arith in
    rw (fits, stored, behind_it)
    (sym (front b (hd ++ bs) (omega arith) ∙ ap (λ (n : ℕ). (hd ++ bs) ++ drop n b) both ∙ append_assoc hd bs (drop (5 + length bs) b)))

-- ---- the step of one place

module _ (k : ℕ) (c : Call) (e : Event) (b : List ℕ) where
  pub placed_refuses : (n : ℕ) → 5 ≤ n → decided c e (drop 5 b) ≡ refusal n c (drop 5 b) → refusal n c b ≡ placed k c e b
  unfolding placed
  placed_refuses n z d = rw (d, ne_eqb n 0 (λ is. omega arith))

  pub placed_takes : decided c e (drop 5 b) ≡ taking c e (drop 5 b)
      → ◌≡◌ {A = Outcome} (record { answer = 0; place = 0; call = (row_for c e).call; count = length (bytes_of (writes k c e)); buffer = sets b 0 (bytes_of (writes k c e)) }) (placed k c e b)
  unfolding placed
  placed_takes d = rw d

  module _ {h : ℕ} (head : h ≡ min (length b) 5) {o : Outcome} (step : o ≡ decided c e (take (length b - h) (drop h b))) where
    step_behind : o ≡ decided c e (drop 5 b)
    step_behind = step ∙ ap (λ (z : List ℕ). decided c e z) (part_whole b h ∙ head_drop b head)

    put_back : put_mid h (length b - h) b (drop 5 b) ≡ b
    put_back = put_whole b (drop 5 b) h ∙ ap (λ (z : List ℕ). take h b ++ z) (sym (head_drop b head)) ∙ take-append-drop h b

    pub step_few : o.count ≤ 122
    step_few = few c e (drop 5 b) step_behind

    -- what a step gives back, its buffer put back into the whole
    abbrev step_left : Outcome → Outcome
    step_left w = record { answer = w.answer; place = w.place; call = w.call; count = w.count; buffer = put_mid h (length b - h) b w.buffer }

    abbrev given : ℕ → List ℕ → Outcome
    given n z = record { answer = 0; place = 0; call = (row_for c e).call; count = n; buffer = z }

    abbrev Unwritten : Type 0
    Unwritten = step_left o ≡ placed k c e b

    -- a refusal, and a row that writes nothing, leave the buffer
    pub unwritten : o.count ≡ 0 → Unwritten
    unfolding bytes_of
    unwritten none = by_step (decides c e (drop 5 b))
      where
        by_step : Decides c e (drop 5 b) → Unwritten
        by_step (refuses n z d) = rw (step_behind ∙ d, put_back) (placed_refuses n z d)
        by_step (takes t f d) =
            let is : o ≡ taking c e (drop 5 b) = step_behind ∙ d in
            let empty : messages_in (row_for c e) ≡ [] = no_bytes (messages_in (row_for c e)) (ap (λ (w : Outcome). w.count) (sym is) ∙ none) in
            ap (λ (w : Outcome). step_left w) is
            ∙ ap (λ (ms : List Message). given (length (bytes_of ms)) (put_mid h (length b - h) b (sets (drop 5 b) 0 (bytes_of ms)))) empty
            ∙ ap (λ (z : List ℕ). given 0 z) put_back
            ∙ sym (ap (λ (ms : List Message). given (length (bytes_of (behind k ms))) (sets b 0 (bytes_of (behind k ms)))) empty)
            ∙ placed_takes d

    abbrev Written : ℕ → List ℕ → Type 0
    Written n after = ◌≡◌ {A = Outcome} (record { answer = o.answer; place = o.place; call = o.call; count = n; buffer = after }) (placed k c e b)

    -- what a row writes stands behind the record that names the place
    pub written : {n : ℕ} {after : List ℕ} → (o.count ≡ 0 → ⊥) → n ≡ 5 + o.count
        → after ≡ laid (message_bytes (Message.Place k)) (put_mid h (length b - h) b o.buffer) 0 → Written n after
    written {n} {after} some size store = by_step (decides c e (drop 5 b))
      where
        by_step : Decides c e (drop 5 b) → Written n after
        by_step (refuses m z d) = absurd (some (ap (λ (w : Outcome). w.count) (step_behind ∙ d)))
        by_step (takes t f d) =
            let is : o ≡ taking c e (drop 5 b) = step_behind ∙ d in
            let some_bytes : length (bytes_at c e) ≡ 0 → ⊥ = λ w. some (ap (λ (w : Outcome). w.count) is ∙ w) in
            let all : bytes_of (writes k c e) ≡ message_bytes (Message.Place k) ++ bytes_at c e = behind_some k (messages_in (row_for c e)) some_bytes in
            let room : 5 + length (bytes_at c e) ≤ length b = (let l = length-drop 5 b in omega arith) in
            let five : h ≡ 5 = omega arith in
            let count : n ≡ length (bytes_of (writes k c e)) =
            size ∙ ap (λ (w : Outcome). 5 + w.count) is
            ∙ sym (ap length all ∙ length-append (message_bytes (Message.Place k)) (bytes_at c e) ∙ ap (λ (m : ℕ). m + length (bytes_at c e)) (place_size k)) in
            let after_is : after ≡ sets b 0 (bytes_of (writes k c e)) =
            store
            ∙ ap (λ (w : Outcome). laid (message_bytes (Message.Place k)) (put_mid h (length b - h) b w.buffer) 0) is
            ∙ ap (λ (z : List ℕ). laid (message_bytes (Message.Place k)) z 0)
            (put_whole b (sets (drop 5 b) 0 (bytes_at c e)) h ∙ ap (λ (m : ℕ). take m b ++ sets (drop 5 b) 0 (bytes_at c e)) five)
            ∙ lay_head (message_bytes (Message.Place k)) (bytes_at c e) b (place_size k) room
            ∙ ap (λ (z : List ℕ). sets b 0 z) (sym all) in
            rw (is, count, after_is) (placed_takes d)

-- what the console makes of it: the place's record is stored, and where it is refused it is the one that was there
module _ (k : ℕ) (calls : List Call) (e : Event) (b : List ℕ) {o : Outcome} (step : o ≡ placed k (call_at calls k) e b) where
  pub at_place_lem : ◌≡◌ {A = ConsoleOutcome} (record { answer = o.answer; place = o.place; calls = set calls k o.call; count = o.count; buffer = o.buffer }) (at_place k calls e b)
  unfolding at_place
  at_place_lem = rw step

  pub at_place_left : o.call ≡ call_at calls k
      → ◌≡◌ {A = ConsoleOutcome} (record { answer = o.answer; place = o.place; calls = calls; count = o.count; buffer = o.buffer }) (at_place k calls e b)
  at_place_left same =
      let stays : set calls k o.call ≡ calls = ap (λ (c : Call). set calls k c) same ∙ set-get_or calls k no_call in
      (λ i. record { answer = o.answer; place = o.place; calls = sym stays i; count = o.count; buffer = o.buffer }) ∙ at_place_lem
