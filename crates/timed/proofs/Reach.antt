-- A record in reach of the step's runs: what demands proves of every run is said of it, and an expiry of a timer that runs is taken where 30 bytes
-- are lent.
use Prim.Native.Nat.{ℕ, ◌+◌, ◌*◌, ◌<◌, ◌≤◌}
use mathlib.Core.Path.{◌≡◌, refl, sym, ◌∙◌, ap}
use mathlib.Core.Bool.{Bool, true, false, cond, not, ◌&&◌, ◌||◌}
use mathlib.Core.List.{List, [], ◌∷◌, ◌++◌}
use native.Mathlib.Omega.{arith}
use borrow.Author.Tests.{leb-true, le-leb}
use lib.Dec.{leb, eqb, lit<, lit≤}
use lib.ListN.{length, get_or, replicate}
use Rattle.records.specs.declared.events.Event.TheVariants.{Expiry}
use Rattle.records.specs.declared.messages.Message.TheVariants.{ReleaseIndication}
use Rattle.records.specs.Bodies.{flat_size}
use Rattle.records.specs.Tables.{read, taken}
use Rattle.records.specs.Events.{events}
use Rattle.records.specs.Messages.{message_size}
use Rattle.timers.specs.Due.{numbers}
use Rattle.timers.specs.Bank as Bank
use Rattle.timers.proofs.Indices.{by_index}
use Rattle.callcontrol.specs.declared.call.State.{State}
use Rattle.callcontrol.specs.declared.call.Path.{Path}
use Rattle.callcontrol.specs.declared.call.Call.{Call}
use Rattle.callcontrol.specs.Call.{fresh_call, runs, T301, T302, T303, T306, T310}
use Rattle.callcontrol.specs.Draft.{Draft, ◌▷◌, draft, expired, tell, release}
use Rattle.callcontrol.specs.Rows
use Rattle.callcontrol.specs.Rows.{row_for}
use Rattle.callcontrol.specs.Writing.{messages_in, bytes_of, count_of}
use Rattle.callcontrol.specs.Step.{other_call, carried, decided, step_of}
use Rattle.callcontrol.proofs.Laying.{size_messages}
use Rattle.callcontrol.proofs.Verbs.{verbs}
use Rattle.demands.specs.Runs as Steps
use Rattle.demands.specs.Clocks.{log_in, index_of, note_messages, note_taken, note_log, running_by}
use Rattle.demands.specs.Demands.{AtRest}
use Rattle.demands.specs.Demands as demands
use Rattle.demands.proofs.Facts.{left, right}
use Rattle.demands.proofs.ByRow.{Ender, t301, t302, t303, t306, t310, Row, is_row}
use Rattle.demands.proofs.Bound.{slot, slot_size}
use Rattle.demands.proofs.Turns.{run-append, run_last, accepts}
use Rattle.demands.proofs.Sound.{always}
use Rattle.demands.proofs.Tracked.{timers_by_messages}
use Rattle.demands.proofs.Expiries.{by_messages, due_expiry}
use Rattle.demands.proofs.Timers.{Timed, up, disconnect, Clocked, reached, Few, none, one, two, three, eight, ten, ten_eleven, eleven_only, six_only, six_ten, few}
use Rattle.timed.specs.Entries.{turn_of, expiry_of}
use Rattle.timed.proofs.Expiries.{expiry_reads}

pub record Reach (c : Call) : Type 0 where
  pub turns : List Steps.Turn
  pub is : c ≡ Steps.run fresh_call turns

pub reach_more : (c : Call) → Reach c → (ts : List Steps.Turn) → Reach (Steps.run c ts)
reach_more c r ts = record { turns = r.turns ++ ts; is = ap (λ (d : Call). Steps.run d ts) r.is ∙ sym (run-append fresh_call r.turns ts) }

module _ (c : Call) (r : Reach c) where
  pub kept : demands.Kept c
  kept = rw r.is (always r.turns)

  pub clocked : Clocked c
  clocked = rw r.is (reached r.turns)

-- ---- the timers by messages, over one turn

log_append : (c : Call) (ts us : List Steps.Turn) → log_in c (ts ++ us) ≡ log_in c ts ++ log_in (Steps.run c ts) us
unfolding log_in Steps.run
log_append c [] us = refl
log_append c (t ∷ ts) us = rw (log_append (Steps.next c t) ts us)

note-append : (f : List Bool) (xs ys : List _) → note_log f (xs ++ ys) ≡ note_log (note_log f xs) ys
unfolding note_log
note-append f [] ys = refl
note-append f (x ∷ xs) ys = note-append (note_messages (note_taken f x.taken) x.written) xs ys

tracked_at : (ts : List Steps.Turn) (u : Steps.Turn)
    → note_messages (note_taken (Steps.run fresh_call ts).timers (Steps.taken_by (Steps.run fresh_call ts) u)) (Steps.written_by (Steps.run fresh_call ts) u)
    ≡ (Steps.next (Steps.run fresh_call ts) u).timers
unfolding running_by log_in note_log
tracked_at ts u =
    let c = Steps.run fresh_call ts in
    let before : note_log fresh_call.timers (log_in fresh_call ts) ≡ c.timers = timers_by_messages ts in
    let whole : note_log fresh_call.timers (log_in fresh_call (ts ++ u ∷ [])) ≡ (Steps.run fresh_call (ts ++ u ∷ [])).timers = timers_by_messages (ts ++ u ∷ []) in
    let parts : note_log fresh_call.timers (log_in fresh_call (ts ++ u ∷ [])) ≡ note_log c.timers (log_in c (u ∷ [])) =
    ap (note_log fresh_call.timers) (log_append fresh_call ts (u ∷ [])) ∙ note-append fresh_call.timers (log_in fresh_call ts) (log_in c (u ∷ []))
    ∙ ap (λ (f : List Bool). note_log f (log_in c (u ∷ []))) before in
    sym parts ∙ whole ∙ ap (λ (d : Call). d.timers) (run_last fresh_call ts u)

pub tracked : (c : Call) → Reach c → (u : Steps.Turn)
    → note_messages (note_taken c.timers (Steps.taken_by c u)) (Steps.written_by c u) ≡ (Steps.next c u).timers
tracked c r u = rw r.is (tracked_at r.turns u)

-- ---- what an expiry writes

weight : Draft → ℕ
weight x = 6 * count_of x.stops + cond x.cancel 4 0 + slot x.pdu + 7 * count_of x.starts + slot x.user

abbrev Light : Draft → Type 0
Light x = leb (weight x) 25 ≡ true

sizes : Unit {0}
unfolding weight verbs Rows.confirmed count_of message_size flat_size
sizes = tt

configured : (b : Bool) → cond b 5 0 ≤ 5
configured true = lit≤ tt
configured false = lit≤ tt

light_size : (x : Draft) → Light x → length (bytes_of (messages_in x)) ≤ 30
unfolding weight
light_size x h = omega (arith, size_messages x, slot_size x.pdu, slot_size x.user, configured (not (eqb x.configure 0)), leb-true (weight x) 25 h)

abbrev lapse : ℕ → Call → Draft
lapse k c = draft c ▷ expired k ▷ release 2 ▷ tell (ReleaseIndication 2)

abbrev lapses : ℕ → Call → Bool
lapses k c = not (runs c k) || leb (weight (lapse k c)) 25

abbrev all_lapse : Call → Bool
all_lapse c = lapses T301 c && lapses T302 c && lapses T303 c && lapses T306 c && lapses T310 c

few_lapse : {c : Call} → Few c → all_lapse c ≡ true
unfolding sizes
few_lapse none = refl
few_lapse one = refl
few_lapse two = refl
few_lapse three = refl
few_lapse eight = refl
few_lapse ten = refl
few_lapse ten_eleven = refl
few_lapse eleven_only = refl
few_lapse six_only = refl
few_lapse six_ten = refl

lapsed : (c : Call) → all_lapse c ≡ true → (m k : ℕ) → Ender m k → runs c k ≡ true → Light (lapse k c)
lapsed c h m k (t301 e) z = rw z at (let l : lapses T301 c ≡ true = search (left, right) depth 6 in l)
lapsed c h m k (t302 e) z = rw z at (let l : lapses T302 c ≡ true = search (left, right) depth 6 in l)
lapsed c h m k (t303 e) z = rw z at (let l : lapses T303 c ≡ true = search (left, right) depth 6 in l)
lapsed c h m k (t306 e) z = rw z at (let l : lapses T306 c ≡ true = search (left, right) depth 6 in l)
lapsed c h m k (t310 e) z = rw z at (let l : lapses T310 c ≡ true = search (left, right) depth 6 in l)

light : {c : Call} {s : State} {w : Path} {n : ℕ} {x : Draft} → Row c s w (Expiry n) x → Timed s w c → Light x
unfolding sizes
light {c} (Row.expires l n k t z) v = lapsed c (few_lapse (few v)) n k t z
light (Row.talked_out n z y) (up {t = true}) = refl
light (Row.talked_out n z y) (up {t = false}) = refl
light (Row.unanswered n z) disconnect = refl

pub expiry_short : (c : Call) (n : ℕ) → Reach c → (row_for c (Expiry n)).taken ≡ true → length (bytes_of (messages_in (row_for c (Expiry n)))) ≤ 30
expiry_short c n r h = light_size (row_for c (Expiry n)) (light (is_row c (Expiry n) h) (clocked c r))

-- ---- an expiry of a timer that runs

pub reads_expiry : (p : ℕ) → p < 7 → read events (expiry_of (get_or numbers p 0)) ≡ taken (Expiry (get_or numbers p 0))
unfolding Bank.index_of
reads_expiry =
    by_index (λ p. read events (expiry_of (get_or numbers p 0)) ≡ taken (Expiry (get_or numbers p 0))) (expiry_reads 301 (lit< tt)) (expiry_reads 302 (lit< tt)) (expiry_reads 303 (lit< tt))
    (expiry_reads 306 (lit< tt)) (expiry_reads 308 (lit< tt)) (expiry_reads 310 (lit< tt)) (expiry_reads 311 (lit< tt))

index_is : (p : ℕ) → p < 7 → index_of (get_or numbers p 0) ≡ p
unfolding index_of
index_is = by_index (λ p. index_of (get_or numbers p 0) ≡ p) refl refl refl refl refl refl refl

row_at : (ts : List Steps.Turn) (p : ℕ) → p < 7 → runs (Steps.run fresh_call ts) p ≡ true → (row_for (Steps.run fresh_call ts) (Expiry (get_or numbers p 0))).taken ≡ true
row_at ts p k h =
    let n = get_or numbers p 0 in
    let c = Steps.run fresh_call ts in
    let u = turn_of (expiry_of n) (replicate 32 0) in
    (accepts c u (Expiry n) (due_expiry ts u n (reads_expiry p k) (by_messages ts n ∙ rw (index_is p k) h) (lit≤ tt))).row

pub has_row : (c : Call) → Reach c → (p : ℕ) → p < 7 → runs c p ≡ true → (row_for c (Expiry (get_or numbers p 0))).taken ≡ true
has_row c r p k h = rw r.is (row_at r.turns p k (rw r.is at h))

expiry_ours : (c : Call) (n : ℕ) → other_call c (Expiry n) ≡ false
unfolding other_call
expiry_ours c n = refl

-- it is taken where 30 bytes are lent
pub expiry_taken : (c : Call) → Reach c → (p : ℕ) → p < 7 → runs c p ≡ true → (buffer : List ℕ) → 30 ≤ length buffer
    → (Steps.outcome c (turn_of (expiry_of (get_or numbers p 0)) buffer)).answer ≡ 0
unfolding Steps.outcome step_of decided carried bytes_of messages_in
expiry_taken c r p k h buffer room =
    let n = get_or numbers p 0 in
    let row = has_row c r p k h in
    let fits : leb (length (bytes_of (messages_in (row_for c (Expiry n))))) (length buffer) ≡ true = le-leb (length (bytes_of (messages_in (row_for c (Expiry n))))) (length buffer) (omega (arith, expiry_short c n r row)) in
    rw ((kept c r).meets, reads_expiry p k, expiry_ours c n, row, fits)
