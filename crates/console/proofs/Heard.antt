-- What a host reads behind the records that name a place is what the step's run there writes, and a turn's bytes read back as what was written.
use Prim.Native.Nat.{ℕ, zero, suc, ◌+◌, ◌-◌, ◌≤◌, ◌<◌}
use mathlib.Core.Path.{◌≡◌, refl, sym, ◌∙◌, ap}
use mathlib.Core.Bool.{Bool, true, false, cond, not}
use mathlib.Core.List.{List, [], ◌∷◌, ◌++◌, append-nil, append_assoc}
use mathlib.Core.Option.{none}
use native.Mathlib.Omega.{arith}
use borrow.Author.Tests.{eq-eqb, ne_eqb, le-leb, leb-true, eqb-false}
use lib.Dec.{eqb}
use lib.ListN.{length, drop, length-drop, get_or}
use Rattle.records.specs.declared.events.Event.{Event}
use Rattle.records.specs.declared.messages.Message.{Message}
use Rattle.records.specs.declared.messages.Message.TheVariants.{Stop, Configure, Cancel, Place}
use Rattle.records.specs.Letters.{within}
use Rattle.records.specs.Bodies.{all_fit, flat_fits}
use Rattle.records.specs.Tables.{fine}
use Rattle.records.specs.Messages.{messages}
use Rattle.callcontrol.specs.declared.call.State.{State}
use Rattle.callcontrol.specs.declared.call.Path.{Path}
use Rattle.callcontrol.specs.declared.call.Call.{Call}
use Rattle.callcontrol.specs.Call.{T301, T302, T303, T306, T308, T310, T311}
use Rattle.callcontrol.specs.Draft.{Slot, Draft, ◌▷◌, draft, no_row, go, on_path, store_id, store_mode, store_code, store_slots, store_sent, stop, start, plane, grant, grant_or_off, restart}
use Rattle.callcontrol.specs.Rows
use Rattle.callcontrol.specs.Rows.{row_for}
use Rattle.callcontrol.specs.Writing.{when, held, by_number, starting, messages_in, bytes_of}
use Rattle.callcontrol.proofs.Verbs.{verbs}
use Rattle.demands.specs.Runs.{Turn, outcome, next, run, written_by, written_in, every?}
use Rattle.demands.specs.Demands.{Kept}
use Rattle.demands.proofs.ByRow.{Row, Cell, cell, row, no_row_lem}
use Rattle.demands.proofs.Cases.{by_plane_each, by_restart, by_grant, by_grant_or_off}
use Rattle.demands.proofs.Demands.{step_in_range, step_keeps_sound}
use Rattle.demands.proofs.Facts.{and, left, right}
use Rattle.demands.proofs.ReadsBack.{read_after_read, stored}
use Rattle.demands.proofs.Turns as step-turns
use Rattle.console.specs.Route.{Route}
use Rattle.console.specs.Table.{call_at, fresh_table}
use Rattle.console.specs.Console.{behind, writes, placed, at_place, everywhere, headed}
use Rattle.console.specs.Runs.{ConsoleTurn, console_outcome, console_next, went_to, went_in, framed_from, framed, named_by, own_from, heard_in}
use Rattle.console.specs.Demands as claims
use Rattle.console.proofs.Everywhere.{part_size}
use Rattle.console.proofs.Placing.{bytes_at, Decides, decides, placed_refuses, placed_takes}
use Rattle.console.proofs.Turns.{Everywhere, everywhere_does, none_takes, no_room, all_take, Came, came, unsound, unread, routes}
use Rattle.console.proofs.Twins.{Good, good_fresh, good_next, good_run, fresh_at}
use Rattle.console.proofs.Went as Went

-- ---- no row writes a record that names a place

-- messages that name none
data Unnamed : List Message → Type 0 where
  nothing : Unnamed []
  also : {m : Message} {ms : List Message} → named_by m ≡ none → Unnamed ms → Unnamed (m ∷ ms)

both : {ms ns : List Message} → Unnamed ms → Unnamed ns → Unnamed (ms ++ ns)
both nothing v = v
both (also h u) v = also h (both u v)

whenever : (b : Bool) (m : Message) → named_by m ≡ none → Unnamed (when b m)
whenever true m h = also h nothing
whenever false m h = nothing

by_number_lem : (order : ℕ → Message) → ((n : ℕ) → named_by (order n) ≡ none) → (flags : List Bool) → Unnamed (by_number order flags)
unfolding by_number
by_number_lem order h flags =
    both (flagged T301 301) (both (flagged T302 302) (both (flagged T303 303) (both (flagged T306 306) (both (flagged T308 308) (both (flagged T310 310) (flagged T311 311))))))
  where
    flagged : (k n : ℕ) → Unnamed (when (get_or flags k false) (order n))
    flagged k n = whenever (get_or flags k false) (order n) (h n)

-- so only the U-PDU and the user primitive are to be looked at
abbrev UnnamedIn : Slot → Type 0
UnnamedIn Slot.Empty = Unit {0}
UnnamedIn (Slot.Holds m) = named_by m ≡ none

holds : (s : Slot) → UnnamedIn s → Unnamed (held s)
holds Slot.Empty u = nothing
holds (Slot.Holds m) u = also u nothing

record Plain (x : Draft) : Type 0 where
  pdu : UnnamedIn x.pdu
  user : UnnamedIn x.user

plain_writes : (x : Draft) → Plain x → Unnamed (messages_in x)
unfolding messages_in starting named_by
plain_writes x p =
    both (by_number_lem Stop (λ n. refl) x.stops)
    (both (whenever x.cancel Cancel refl)
    (both (holds x.pdu p.pdu)
    (both (by_number_lem (starting x.call.code) (λ n. refl) x.starts)
    (both (whenever (not (eqb x.configure 0)) (Configure x.configure) refl) (holds x.user p.user)))))

-- the verbs that ask about numbers leave the U-PDU as it is
module _ (x : Draft) (h : UnnamedIn x.pdu) where
  plane_pdu : (n : ℕ) → UnnamedIn (plane n x).pdu
  unfolding verbs
  plane_pdu n = by_plane_each (λ y. UnnamedIn y.pdu) n x h h

  restart_pdu : (r o : ℕ) → UnnamedIn (restart r o x).pdu
  unfolding verbs
  restart_pdu r o = by_restart (λ y. UnnamedIn y.pdu) r o x h h h

  grant_pdu : (g : ℕ) → UnnamedIn (grant g x).pdu
  unfolding verbs
  grant_pdu g = by_grant (λ y. UnnamedIn y.pdu) g x h h h h h

  grant_or_off_pdu : (g : ℕ) → UnnamedIn (grant_or_off g x).pdu
  unfolding verbs
  grant_or_off_pdu g = by_grant_or_off (λ y. UnnamedIn y.pdu) g x h h h h h h h

plain_row : {c : Call} {s : State} {w : Path} {e : Event} {x : Draft} → Row c s w e x → Plain x
unfolding verbs named_by Rows.releasing Rows.disconnected Rows.released Rows.confirmed
plain_row (Row.releases l) = record { pdu = refl; user = tt }
plain_row (Row.disconnects l i) = record { pdu = refl; user = refl }
plain_row (Row.ends l i) = record { pdu = tt; user = refl }
plain_row (Row.expires l n k t z) = record { pdu = refl; user = refl }
plain_row (Row.calls a d q s) = record { pdu = refl; user = tt }
plain_row (Row.is_called i a d) = record { pdu = tt; user = refl }
plain_row (Row.takes_back z) = record { pdu = tt; user = refl }
plain_row (Row.releases_sent z) = record { pdu = refl; user = tt }
plain_row (Row.proceeds i) = record { pdu = tt; user = refl }
plain_row (Row.alerts i) = record { pdu = tt; user = refl }
plain_row {c} (Row.connects i g d o s) =
    let x : Draft = draft c ▷ store_id i ▷ store_mode d ▷ store_code o ▷ store_slots s ▷ store_sent 1 ▷ go State.CallActive ▷ stop T302 ▷ stop T303 ▷ start T310 in
    record { pdu = grant_or_off_pdu x tt g; user = refl }
plain_row (Row.sent z) = record { pdu = tt; user = tt }
plain_row (Row.unsent z) = record { pdu = tt; user = refl }
plain_row (Row.answers z) = record { pdu = refl; user = tt }
plain_row {c} (Row.completes i g o z) =
    let x : Draft = draft c ▷ store_code o ▷ go State.CallActive ▷ stop T301 ▷ start T310 in record { pdu = grant_or_off_pdu x tt g; user = refl }
plain_row (Row.asks_to_send k z y) = record { pdu = refl; user = tt }
plain_row (Row.stops_sending k z y) = record { pdu = refl; user = tt }
plain_row (Row.asks_no_more k z y x) = record { pdu = refl; user = tt }
plain_row {c} (Row.same_mode i r o d s z) = record { pdu = restart_pdu (draft c) tt r o; user = refl }
plain_row {c} (Row.new_mode i r o d s z) = record { pdu = restart_pdu (draft c) tt r o; user = refl }
plain_row {c} (Row.granted i g) = record { pdu = grant_pdu (draft c) tt g; user = refl }
plain_row (Row.ceased i) = record { pdu = tt; user = refl }
plain_row {c} (Row.interrupted i g) = record { pdu = plane_pdu (draft c) tt (cond (eqb g 3) 2 4); user = refl }
plain_row (Row.pauses i) = record { pdu = tt; user = refl }
plain_row Row.breaks = record { pdu = tt; user = tt }
plain_row (Row.talked_out n z y) = record { pdu = refl; user = tt }
plain_row (Row.wants k z) = record { pdu = tt; user = tt }
plain_row Row.resumes = record { pdu = refl; user = tt }
plain_row {c} (Row.restored i g r o) =
    let x : Draft = draft c ▷ stop T306 ▷ on_path Path.Up in record { pdu = restart_pdu (grant g x) (grant_pdu x tt g) r o; user = refl }
plain_row Row.breaks_again = record { pdu = tt; user = tt }
plain_row {c} (Row.continues i k z) = record { pdu = plane_pdu (go State.CallActive (draft c)) tt c.kept; user = refl }
plain_row (Row.continues_off i k z) = record { pdu = tt; user = refl }
plain_row Row.breaks_paused = record { pdu = tt; user = refl }
plain_row (Row.collides i z) = record { pdu = refl; user = refl }
plain_row (Row.collides_sent i z) = record { pdu = refl; user = refl }
plain_row (Row.ends_first i z) = record { pdu = tt; user = refl }
plain_row (Row.confirms i z) = record { pdu = tt; user = refl }
plain_row (Row.end_sent z) = record { pdu = tt; user = tt }
plain_row (Row.end_unsent z) = record { pdu = tt; user = refl }
plain_row (Row.unanswered n z) = record { pdu = tt; user = refl }

row_plain : (c : Call) (e : Event) → Plain (row_for c e)
unfolding no_row
row_plain c e = by_cell (cell c e)
  where
    by_cell : {x : Draft} → Cell c c.state c.path e x → Plain x
    by_cell no_row_lem = record { pdu = tt; user = tt }
    by_cell (row r) = plain_row r

turn_unnamed : (c : Call) (t : Turn) → Unnamed (written_by c t)
unfolding written_by
turn_unnamed c t = by (step-turns.turned c t)
  where
    by : step-turns.Turned c t → Unnamed (written_by c t)
    by (step-turns.passed p) = rw p.takes nothing
    by (step-turns.took e a) = rw a.takes (plain_writes (row_for c e) (row_plain c e))

written_unnamed : (c : Call) (ts : List Turn) → Unnamed (written_in c ts)
unfolding written_in
written_unnamed c [] = nothing
written_unnamed c (t ∷ ts) = both (turn_unnamed c t) (written_unnamed (next c t) ts)

-- ---- what is read for a place

own_named : (k j : ℕ) (mine : Bool) (ms : List Message) → own_from k mine (Place j ∷ ms) ≡ own_from k (eqb j k) ms
unfolding own_from named_by
own_named k j true ms = refl
own_named k j false ms = refl

-- messages that name no place are read for k or passed over, all of them
own_unnamed : (k : ℕ) (mine : Bool) (ms ns : List Message) → Unnamed ms → own_from k mine (ms ++ ns) ≡ cond mine ms [] ++ own_from k mine ns
unfolding own_from
own_unnamed k true [] ns nothing = refl
own_unnamed k false [] ns nothing = refl
own_unnamed k true (m ∷ ms) ns (also h u) = rw h (ap (λ (z : List Message). m ∷ z) (own_unnamed k true ms ns u))
own_unnamed k false (m ∷ ms) ns (also h u) = rw h (own_unnamed k false ms ns u)

-- what is written at another place leaves what is read for k as it would be
passed_by : (k j : ℕ) (mine : Bool) (ms ns : List Message) → (j ≡ k → ⊥) → Unnamed ms → (z : List Message) → own_from k mine ns ≡ z → own_from k false ns ≡ z
    → own_from k mine (behind j ms ++ ns) ≡ z
passed_by k j mine [] ns d u z p q = p
passed_by k j mine (m ∷ ms) ns d u z p q =
    own_named k j mine ((m ∷ ms) ++ ns)
    ∙ ap (λ (b : Bool). own_from k b ((m ∷ ms) ++ ns)) (ne_eqb j k d)
    ∙ own_unnamed k false (m ∷ ms) ns u
    ∙ q

read_whole : (k : ℕ) (ms ns : List Message) → Unnamed ms → ((mine : Bool) → own_from k mine ns ≡ []) → own_from k false (behind k ms ++ ns) ≡ ms
read_whole k [] ns u none_after = none_after false
read_whole k (m ∷ ms) ns u none_after =
    own_named k k false ((m ∷ ms) ++ ns)
    ∙ ap (λ (b : Bool). own_from k b ((m ∷ ms) ++ ns)) (eq-eqb k k refl)
    ∙ own_unnamed k true (m ∷ ms) ns u
    ∙ ap (λ (z : List Message). (m ∷ ms) ++ z) (none_after true)
    ∙ append-nil (m ∷ ms)

module _ (k : ℕ) (turns : ℕ → List Turn) where
  -- the places above k write nothing for it
  above : (i : ℕ) (cs : List Call) → k < i → (mine : Bool) → own_from k mine (framed_from i cs turns) ≡ []
  unfolding own_from
  above i [] lt mine = refl
  above i (c ∷ cs) lt mine =
      passed_by k i mine (written_in c (turns i)) (framed_from (suc i) cs turns) (λ e. omega arith) (written_unnamed c (turns i)) []
      (above (suc i) cs (omega arith) mine) (above (suc i) cs (omega arith) false)

  own_here : (i n : ℕ) (cs : List Call) → i + n ≡ k → n < length cs → own_from k false (framed_from i cs turns) ≡ written_in (call_at cs n) (turns k)
  own_here i n [] is lt = absurd (omega arith)
  own_here i zero (c ∷ cs) is lt =
      let same : i ≡ k = omega arith in
      rw same (read_whole k (written_in c (turns k)) (framed_from (suc k) cs turns) (written_unnamed c (turns k)) (above (suc k) cs (omega arith)))
  own_here i (suc n) (c ∷ cs) is lt =
      let rest = own_here (suc i) n cs (omega arith) (omega arith) in
      passed_by k i false (written_in c (turns i)) (framed_from (suc i) cs turns) (λ e. omega arith) (written_unnamed c (turns i)) (written_in (call_at cs n) (turns k)) rest rest

own_turn : (calls : List Call) (t : ConsoleTurn) (k : ℕ) → k < length calls → own_from k false (framed calls t) ≡ written_in (call_at calls k) (went_to k calls t)
unfolding framed
own_turn calls t k lt = own_here k (λ j. went_to j calls t) 0 k calls (omega arith) lt

-- ---- and in a run

written-append : (c : Call) (ts us : List Turn) → written_in c (ts ++ us) ≡ written_in c ts ++ written_in (run c ts) us
unfolding written_in run
written-append c [] us = refl
written-append c (t ∷ ts) us =
    ap (λ (z : List Message). written_by c t ++ z) (written-append (next c t) ts us)
    ∙ sym (append_assoc (written_by c t) (written_in (next c t) ts) (written_in (run (next c t) ts) us))

heard_from : (calls : List Call) (ts : List ConsoleTurn) (k : ℕ) → k < 8 → Good calls → heard_in k calls ts ≡ written_in (call_at calls k) (went_in k calls ts)
unfolding heard_in went_in written_in
heard_from calls [] k lt g = refl
heard_from calls (t ∷ ts) k lt g =
    let n = g.eight in
    let c = call_at calls k in
    let later = went_in k (console_next calls t) ts in
    ap (λ (z : List Message). z ++ heard_in k (console_next calls t) ts) (own_turn calls t k (omega arith))
    ∙ ap (λ (z : List Message). written_in c (went_to k calls t) ++ z)
    (heard_from (console_next calls t) ts k lt (good_next calls t g) ∙ ap (λ (d : Call). written_in d later) (Went.record_at calls t k lt))
    ∙ sym (written-append c (went_to k calls t) later)

pub messages_at : claims.MessagesAt
messages_at ts k lt = heard_from fresh_table ts k lt good_fresh ∙ ap (λ (c : Call). written_in c (went_in k fresh_table ts)) (fresh_at k lt)

-- ---- each message of a turn is in range

abbrev Fine : List Message → Type 0
Fine ms = every? (λ m. fine messages m) ms ≡ true

fine_both : (ms ns : List Message) → Fine ms → Fine ns → Fine (ms ++ ns)
fine_both [] ns p q = q
fine_both (m ∷ ms) ns p q = and _ _ (left (fine messages m) _ p) (fine_both ms ns (right (fine messages m) _ p) q)

written_fine : (c : Call) (ts : List Turn) → Kept c → Fine (written_in c ts)
unfolding written_in next outcome
written_fine c [] k = refl
written_fine c (t ∷ ts) k = fine_both (written_by c t) _ (step_in_range c t k) (written_fine (next c t) ts (step_keeps_sound c t.event t.buffer k))

place_fine : (k : ℕ) → k < 8 → fine messages (Place k) ≡ true
unfolding fine flat_fits all_fit within
place_fine k lt = rw (le-leb 0 k (omega arith), le-leb k 7 (omega arith))

behind_fine : (k : ℕ) (ms : List Message) → k < 8 → Fine ms → Fine (behind k ms)
behind_fine k [] lt p = p
behind_fine k (m ∷ ms) lt p = and _ _ (place_fine k lt) p

framed_fine : (turns : ℕ → List Turn) (i : ℕ) (cs : List Call) → i + length cs ≤ 8 → ((n : ℕ) → n < length cs → Kept (call_at cs n)) → Fine (framed_from i cs turns)
framed_fine turns i [] le kept = refl
framed_fine turns i (c ∷ cs) le kept =
    fine_both (behind i (written_in c (turns i))) (framed_from (suc i) cs turns)
    (behind_fine i (written_in c (turns i)) (omega arith) (written_fine c (turns i) (kept 0 (omega arith))))
    (framed_fine turns (suc i) cs (omega arith) (λ n lt. kept (suc n) (omega arith)))

-- ---- the bytes that a turn counts are in the buffer

headed_fits : (n l : ℕ) (z : Bool) → eqb n 0 ≡ z → n ≤ l - 5 → cond z 0 (5 + n) ≤ l
headed_fits n l true e h = omega arith
headed_fits n l false e h = omega (arith, eqb-false n 0 e)

place_fits : (k : ℕ) (c : Call) (e : Event) (b : List ℕ) → (placed k c e b).count ≤ length b
place_fits k c e b = by (decides c e (drop 5 b))
  where
    by : Decides c e (drop 5 b) → (placed k c e b).count ≤ length b
    by (Decides.refuses n z d) = rw (← placed_refuses k c e b n z d) (omega arith)
    by (Decides.takes w f d) =
        let n = length (bytes_at c e) in
        let size : length (bytes_of (writes k c e)) ≡ headed n = sym (ap (λ (x : Bool). length (bytes_of (cond x (writes k c e) []))) w) ∙ part_size c e k true w in
        rw (← placed_takes k c e b d, size) (headed_fits n (length b) (eqb n 0) refl (rw (length-drop 5 b) at f))

turn_fits : (calls : List Call) (t : ConsoleTurn) → (console_outcome calls t).count ≤ length t.buffer
unfolding at_place
turn_fits calls t = by (came calls t)
  where
    all : (e : Event) → Everywhere calls e t.buffer → (everywhere calls e t.buffer).count ≤ length t.buffer
    all e (none_takes x d) = rw d (omega arith)
    all e (no_room x f d) = rw d (omega arith)
    all e (all_take x f d) = rw d (leb-true _ _ f)

    by : Came calls t → (console_outcome calls t).count ≤ length t.buffer
    by (unsound s o) = rw o (omega arith)
    by (unread n p s h o) = rw o (omega arith)
    by (routes e (Route.To j) s h r o) = rw o (place_fits j (call_at calls j) e t.buffer)
    by (routes e Route.Everywhere s h r o) = rw o (all e (everywhere_does calls e t.buffer))
    by (routes e (Route.Refused a) s h r o) = rw o (omega arith)

pub reads_back : claims.ReadsBack
unfolding framed
reads_back ts t =
    let calls = claims.after ts in
    let ms = framed calls t in
    let g = good_run fresh_table ts good_fresh in
    let n = g.eight in
    let w = Went.messages calls t in
    let room : length (bytes_of ms) ≤ length t.buffer = rw w.0 at (turn_fits calls t) in
    rw (w.0, w.1, stored (bytes_of ms) t.buffer room)
    (read_after_read ms (framed_fine (λ k. went_to k calls t) 0 calls (omega arith) (λ k lt. g.kept k (omega arith))))
