-- A call writes DM-SETUP PRES at most as often as its limit says, exactly as often where nobody answers, and is back in IDLE after at most twice
-- as many turns.
use Prim.Native.Nat.{ℕ, zero, suc, ◌+◌, ◌-◌, ◌*◌, ◌<◌, ◌≤◌}
use mathlib.Core.Path.{◌≡◌, refl, sym, ◌∙◌, ap}
use mathlib.Core.Bool.{Bool, true, false, cond, not}
use mathlib.Core.List.{List, [], ◌∷◌, ◌++◌}
use mathlib.Core.Option.{some}
use native.Mathlib.Omega.{arith}
use borrow.Author.Tests.{not-true, ltb-true, ltb-false}
use lib.Dec.{ltb, eqb}
use lib.ListN.{length}
use Rattle.records.specs.Bodies.{flat_size}
use Rattle.records.specs.Tables.{taken, read}
use Rattle.records.proofs.Laws.{both}
use Rattle.direct.specs.declared.events.Event.{Event}
use Rattle.direct.specs.declared.events.Event.TheVariants.{SetupRequest, DmaReport, Expiry}
use Rattle.direct.specs.declared.messages.Message.{Message}
use Rattle.direct.specs.declared.call.State.{State}
use Rattle.direct.specs.declared.call.Call.{Call}
use Rattle.direct.specs.Events.{events}
use Rattle.direct.specs.Messages.{message_size, sizes_of}
use Rattle.direct.specs.Call.{fresh_call, state_number, sound}
use Rattle.direct.specs.Draft.{Draft, messages_in}
use Rattle.direct.specs.Rows.{asked, awaited, given_up, connected, released, again, exhausted, row_for}
use Rattle.direct.specs.Step.{beyond}
use Rattle.direct.specs.Runs.{Turn, next, run, taken_by, written_by, written_in, is_idle, count, is_dm_setup_pres, log_in, Asked, note_asked, asked_after, asked_by, note_begun, pres_after, pres_by}
use Rattle.direct.specs.Demands.{Kept, one_call, AtMostLimit, FromIdle, quiet, requested, OnlyInCalls, QuietUntilAsked, BegunInIdle, NoMoreThanAsked, expected, Waits, wait, turns_left, BackToIdle, AtMostTwice, AsOftenAsLimit}
use Rattle.direct.proofs.Situations.{sound_in_lem, row_reporting, row_waiting}
use Rattle.direct.proofs.Turns.{apart, Turned, passed, took, turned, accepts, taking, Which, asks, awaits, gives_up_lem, connects, rejects, disconnects, retries, exhausts, row_of}
use Rattle.direct.proofs.Kept.{Limits, limits, fresh_kept, reached, turn_keeps, check_limits, idle_fresh, idle_is, check_is, request_limits}
use Rattle.direct.proofs.Timers.{due_303}

-- ---- how many

abbrev pres : List Message → ℕ
pres ms = count is_dm_setup_pres ms

count-append : (ms ns : List Message) → pres (ms ++ ns) ≡ pres ms + pres ns
unfolding count
count-append [] ns = omega arith
count-append (m ∷ ms) ns = let e = count-append ms ns in omega (arith, e)

-- ---- one turn of a call: it ends and writes none, or counts what it writes

pub data Spent (c : Call) (t : Turn) : Type 0 where
  ended : is_idle (next c t) ≡ true → pres (written_by c t) ≡ 0 → Spent c t
  counted : is_idle (next c t) ≡ false → (next c t).limit ≡ c.limit → (next c t).used ≡ c.used + pres (written_by c t) → Spent c t

module _ (c : Call) (t : Turn) (busy : is_idle c ≡ false) where
  row_spends : (e : Event) (d : Draft) → Which c e d → next c t ≡ d.call → written_by c t ≡ messages_in d → Spent c t
  unfolding count asked awaited given_up connected released again exhausted
  row_spends e d (asks s) n w = apart (ap (λ (x : State). eqb (state_number x) 0) s) busy
  row_spends e d (awaits s run v) n w = counted (rw n (ap (λ (x : State). eqb (state_number x) 0) s)) (ap (λ (x : Call). x.limit) n) (rw (w, n) (omega arith))
  row_spends e d (gives_up_lem s run) n w = ended (rw n) (rw w)
  row_spends e d (connects s run a) n w = counted (rw n) (ap (λ (x : Call). x.limit) n) (rw (w, n) (omega arith))
  row_spends e d (rejects s run a) n w = ended (rw n) (rw w)
  row_spends e d (disconnects s run) n w = ended (rw n) (rw w)
  row_spends e d (retries s run m more) n w = counted (rw n (ap (λ (x : State). eqb (state_number x) 0) s)) (ap (λ (x : Call). x.limit) n) (rw (w, n))
  row_spends e d (exhausts s run m more) n w = ended (rw n) (rw w)

  spends : Spent c t
  unfolding count
  spends = by (turned c t)
    where
      by : Turned c t → Spent c t
      by (passed p) = counted (ap (λ (x : Call). is_idle x) p.leaves ∙ busy) (ap (λ (x : Call). x.limit) p.leaves) (rw (p.writes, p.leaves) (omega arith))
      by (took e a) = row_spends e (row_for c e) (row_of a) a.leaves a.writes

-- ---- the turns of a call

active_limits : (c : Call) → sound c ≡ true → c.state ≡ State.Active → Limits c
active_limits c ok s = limits c (both _ _ (both _ c.dt311 (sym (sound_in_lem c State.Active s) ∙ ok)).0).0

used_limit : (c : Call) → Kept c → is_idle c ≡ false → c.used ≤ c.limit
used_limit c k busy = by c.state refl
  where
    by : (s : State) → c.state ≡ s → c.used ≤ c.limit
    by State.Idle s = apart (ap (λ (x : State). eqb (state_number x) 0) s) busy
    by State.PresenceCheck s = (check_limits c k.meets s).left
    by State.Active s = (active_limits c k.meets s).left

-- a turn, and what the turns behind it write
with_rest : (c : Call) (t : Turn) (rest : List Message) → Kept c → is_idle c ≡ false → (is_idle (next c t) ≡ true → pres rest ≡ 0) → (is_idle (next c t) ≡ false → pres rest + (next c t).used ≤ (next c t).limit) → pres (written_by c t ++ rest) + c.used ≤ c.limit
with_rest c t rest k busy idle more = by (spends c t busy)
  where
    by : Spent c t → pres (written_by c t ++ rest) + c.used ≤ c.limit
    by (ended i z) = let e = count-append (written_by c t) rest in omega (arith, idle i, used_limit c k busy)
    by (counted i l u) = let e = count-append (written_by c t) rest in omega (arith, more i)

in_call : (c : Call) (ts : List Turn) → Kept c → is_idle c ≡ false → one_call c ts ≡ true → pres (written_in c ts) + c.used ≤ c.limit
unfolding written_in one_call count
in_call c [] k busy one = omega (arith, used_limit c k busy)
in_call c (t ∷ []) k busy one = with_rest c t [] k busy (λ i. refl) (λ i. omega (arith, used_limit (next c t) (turn_keeps c t k) i))
in_call c (t ∷ v ∷ ts) k busy one =
    let later : (not (is_idle (next c t)) ≡ true) × (one_call (next c t) (v ∷ ts) ≡ true) = both _ _ one in
    with_rest c t (written_in (next c t) (v ∷ ts)) k busy (λ i. apart i (not-true _ later.0)) (λ i. in_call (next c t) (v ∷ ts) (turn_keeps c t k) i later.1)

-- the turn that begins a call
pub record Begun (c : Call) (t : Turn) (attempts : ℕ) : Type 0 where
  pub limit : (next c t).limit ≡ attempts
  pub used : (next c t).used ≡ 1
  pub stopped : (next c t).dt303 ≡ false
  pub state : (next c t).state ≡ State.PresenceCheck
  pub writes : pres (written_by c t) ≡ 1
  pub some : 1 ≤ attempts

module _ (c : Call) (t : Turn) (k : Kept c) where
  begun : (x l m : ℕ) (d : Draft) → Which c (SetupRequest x l m) d → beyond (SetupRequest x l m) ≡ false → next c t ≡ d.call → written_by c t ≡ messages_in d → Begun c t m
  unfolding count asked
  begun x l m d (asks s) b n w =
      record {
        limit = ap (λ (y : Call). y.limit) n;
        used = ap (λ (y : Call). y.used) n;
        stopped = ap (λ (y : Call). y.dt303) n ∙ ap (λ (y : Call). y.dt303) (idle_fresh c k.meets s);
        state = ap (λ (y : Call). y.state) n;
        writes = rw w;
        some = (request_limits x l m b).0;
      }

  begins : (x l m : ℕ) → taken_by c t ≡ some (SetupRequest x l m) → Begun c t m
  begins x l m h = let a = accepts c t (SetupRequest x l m) h in begun x l m _ (row_of a) a.within a.leaves a.writes

not_idle : (c : Call) → c.state ≡ State.PresenceCheck → is_idle c ≡ false
not_idle c s = ap (λ (x : State). eqb (state_number x) 0) s

pub at_most_limit : AtMostLimit
unfolding written_in one_call
at_most_limit ts us t x l m first one = by us one
  where
    c : Call
    c = run fresh_call ts

    b : Begun c t m
    b = begins c t (reached ts) x l m first

    by : (us : List Turn) → one_call c (t ∷ us) ≡ true → pres (written_by c t ++ written_in (next c t) us) ≤ m
    by [] one = let e = count-append (written_by c t) (written_in (next c t) []) in let z : pres (written_in (next c t) []) + (next c t).used ≤ (next c t).limit = in_call (next c t) [] (turn_keeps c t (reached ts)) (not_idle (next c t) b.state) refl in omega (arith, b.limit, b.used, b.writes)
    by (u ∷ us) one =
        let e = count-append (written_by c t) (written_in (next c t) (u ∷ us)) in
        let z = in_call (next c t) (u ∷ us) (turn_keeps c t (reached ts)) (not_idle (next c t) b.state) (both (not (is_idle (next c t))) _ one).1 in
        omega (arith, b.limit, b.used, b.writes)

-- ---- outside calls nothing is written

pub only_in_calls : OnlyInCalls
unfolding asked
only_in_calls ts t idle stays = by (turned (run fresh_call ts) t)
  where
    c : Call
    c = run fresh_call ts

    st : c.state ≡ State.Idle
    st = idle_is c idle

    other : {s : State} {A : Type 0} → c.state ≡ s → (s ≡ State.Idle → ⊥) → A
    other h apart_from = absurd (apart_from (sym h ∙ st))

    check : State.PresenceCheck ≡ State.Idle → ⊥
    check e = let z : ◌≡◌ {A = ℕ} 0 1 = cc in omega arith

    row : {e : Event} {d : Draft} → Which c e d → next c t ≡ d.call → written_by c t ≡ []
    row (asks s) n = apart stays (not_idle (next c t) (ap (λ (y : Call). y.state) n))
    row (awaits s run v) n = other s check
    row (gives_up_lem s run) n = other s check
    row (connects s run a) n = other s check
    row (rejects s run a) n = other s check
    row (disconnects s run) n = other s check
    row (retries s run m more) n = other s check
    row (exhausts s run m more) n = other s check

    by : Turned c t → written_by c t ≡ []
    by (passed p) = p.writes
    by (took e a) = row (row_of a) a.leaves

-- ---- a call begins with a request

pub quiet_until_asked : QuietUntilAsked
quiet_until_asked ts t idle = by (turned c t)
  where
    c : Call
    c = run fresh_call ts

    other : {A : Type 0} → c.state ≡ State.PresenceCheck → A
    other s = apart idle (not_idle c s)

    row : {e : Event} {d : Draft} → Which c e d → taken_by c t ≡ some e → FromIdle c t
    row (asks {t = x} {l = l} {m = m} s) k = requested x l m k
    row (awaits s run v) k = other s
    row (gives_up_lem s run) k = other s
    row (connects s run a) k = other s
    row (rejects s run a) k = other s
    row (disconnects s run) k = other s
    row (retries s run m more) k = other s
    row (exhausts s run m more) k = other s

    by : Turned c t → FromIdle c t
    by (passed p) = quiet p.writes p.leaves
    by (took e a) = row (row_of a) a.takes

pub begun_in_idle : BegunInIdle
begun_in_idle ts t x l m h = by (row_of (accepts (run fresh_call ts) t (SetupRequest x l m) h))
  where
    by : {d : Draft} → Which (run fresh_call ts) (SetupRequest x l m) d → is_idle (run fresh_call ts) ≡ true
    by (asks s) = ap (λ (y : State). eqb (state_number y) 0) s

-- ---- the attempts by the log: in a call as many as the record has used, of the limit that it holds

pub record Counted (c : Call) (n : ℕ) (a : Asked) : Type 0 where
  pub most : n ≤ a.attempts
  pub used : is_idle c ≡ false → n ≡ c.used
  pub limit : is_idle c ≡ false → c.limit ≡ a.attempts

module _ (c : Call) (t : Turn) (n : ℕ) (a : Asked) (k : Kept c) (h : Counted c n a) where
  in_call_counted : is_idle c ≡ false → Counted (next c t) (n + pres (written_by c t)) a
  in_call_counted busy = by (spends c t busy)
    where
      by : Spent c t → Counted (next c t) (n + pres (written_by c t)) a
      by (ended i z) = record { most = omega (arith, h.most, z); used = λ j. apart i j; limit = λ j. apart i j }
      by (counted i l u) =
          let m = used_limit (next c t) (turn_keeps c t k) i in
          record { most = omega (arith, h.used busy, h.limit busy, l, u, m); used = λ j. omega (arith, h.used busy, u); limit = λ j. l ∙ h.limit busy }

  row_counted : {e : Event} {d : Draft} → Which c e d → taken_by c t ≡ some e → Counted (next c t) (note_begun n (some e) + pres (written_by c t)) (note_asked a (some e))
  row_counted (asks {t = x} {l = l} {m = m} s) takes =
      let b = begins c t k x l m takes in
      record { most = omega (arith, b.writes, b.some); used = λ j. omega (arith, b.writes, b.used); limit = λ j. b.limit }
  row_counted (awaits s run v) takes = in_call_counted (not_idle c s)
  row_counted (gives_up_lem s run) takes = in_call_counted (not_idle c s)
  row_counted (connects s run w) takes = in_call_counted (not_idle c s)
  row_counted (rejects s run w) takes = in_call_counted (not_idle c s)
  row_counted (disconnects s run) takes = in_call_counted (not_idle c s)
  row_counted (retries s run m more) takes = in_call_counted (not_idle c s)
  row_counted (exhausts s run m more) takes = in_call_counted (not_idle c s)

  turn_counted : Counted (next c t) (note_begun n (taken_by c t) + pres (written_by c t)) (note_asked a (taken_by c t))
  unfolding count
  turn_counted = by (turned c t)
    where
      none_more : Counted c (n + 0) a
      none_more = record { most = omega (arith, h.most); used = λ j. omega (arith, h.used j); limit = h.limit }

      by : Turned c t → Counted (next c t) (note_begun n (taken_by c t) + pres (written_by c t)) (note_asked a (taken_by c t))
      by (passed p) = rw (p.takes, p.writes, p.leaves) none_more
      by (took e w) = rw w.takes (row_counted (row_of w) w.takes)

run_counted : (c : Call) (ts : List Turn) (n : ℕ) (a : Asked) → Kept c → Counted c n a → Counted (run c ts) (pres_after n (log_in c ts)) (asked_after a (log_in c ts))
unfolding run log_in pres_after asked_after
run_counted c [] n a k h = h
run_counted c (t ∷ ts) n a k h = run_counted (next c t) ts _ _ (turn_keeps c t k) (turn_counted c t n a k h)

pub log_counted : (ts : List Turn) → Counted (run fresh_call ts) (pres_by (log_in fresh_call ts)) (asked_by (log_in fresh_call ts))
unfolding pres_by asked_by
log_counted ts =
    run_counted fresh_call ts 0 (record { target = 0; lowest = 0; attempts = 0 }) fresh_kept
    (record { most = omega arith; used = λ j. apart refl j; limit = λ j. apart refl j })

pub no_more_than_asked : NoMoreThanAsked
no_more_than_asked ts = (log_counted ts).most

-- ---- a call that nobody answers

-- what is left of it
pub record Ends (c : Call) (us : List Turn) : Type 0 where
  pub fresh : run c us ≡ fresh_call
  pub all : pres (written_in c us) + c.used ≡ c.limit

module _ (c : Call) (t : Turn) (k : Kept c) (check : c.state ≡ State.PresenceCheck) where
  -- the report "sent"
  reported : c.dt303 ≡ false → read events t.event ≡ taken (DmaReport 0) → 10 ≤ length t.buffer → (next c t ≡ (awaited c).call) × (written_by c t ≡ messages_in (awaited c))
  unfolding awaited sizes_of message_size flat_size
  reported off reads room =
      let same = row_reporting c (DmaReport 0) check off in
      let a = accepts c t (DmaReport 0) (taking c t (DmaReport 0) k.meets reads refl (ap (λ (x : Draft). x.taken) same) (rw same (omega arith))) in
      (a.leaves ∙ ap (λ (x : Draft). x.call) same, a.writes ∙ ap messages_in same)

  -- DT303's expiry
  expires : c.dt303 ≡ true → read events t.event ≡ taken (Expiry 303) → 10 ≤ length t.buffer → (b : Bool) → ltb c.used c.limit ≡ b → (next c t ≡ (cond b (again (c.used + 1) c) (exhausted c)).call) × (written_by c t ≡ messages_in (cond b (again (c.used + 1) c) (exhausted c)))
  expires run reads room b more =
      let same = row_waiting c (Expiry 303) check run ∙ ap (λ (x : Bool). cond x (again (c.used + 1) c) (exhausted c)) more in
      let a = accepts c t (Expiry 303) (due_303 c t k.meets run reads room) in
      (a.leaves ∙ ap (λ (x : Draft). x.call) same, a.writes ∙ ap messages_in same)

abbrev left_of : ℕ → ℕ → Bool → ℕ
left_of limit used run = 2 * (limit - used) + cond run 1 2

-- its last turn
finish : (c : Call) (t : Turn) (vs : List Turn) → c.used ≡ c.limit → length vs ≡ 0 → next c t ≡ fresh_call → written_by c t ≡ messages_in (exhausted c) → Ends c (t ∷ vs)
unfolding run written_in count exhausted
finish c t [] all z n w = record { fresh = n; all = rw w (omega arith) }
finish c t (v ∷ vs) all z n w = absurd (omega arith)

-- one turn of it
module _ (n : ℕ) (c : Call) (t : Turn) (us : List Turn) (k : Kept c) (s : c.state ≡ State.PresenceCheck) (reads : read events t.event ≡ taken (expected c)) (room : 10 ≤ length t.buffer) (short : length us ≡ n) (e : turns_left c ≡ suc n) (later : (next c t).state ≡ State.PresenceCheck → turns_left (next c t) ≡ n → Ends (next c t) us) where
  after : {ms : List Message} → written_by c t ≡ ms → (next c t).limit ≡ c.limit → (next c t).used ≡ c.used + pres ms → Ends (next c t) us → Ends c (t ∷ us)
  unfolding run written_in
  after {ms} w p q r = record { fresh = r.fresh; all = let x = count-append ms (written_in (next c t) us) in rw w (omega (arith, r.all)) }

  expired : (b : Bool) → ltb c.used c.limit ≡ b → c.dt303 ≡ true → Ends c (t ∷ us)
  unfolding count again exhausted
  expired true more d =
      let x = expires c t k s d (reads ∙ ap (λ (y : Bool). taken (cond y (Expiry 303) (DmaReport 0))) d) room true more in
      let under : c.used < c.limit = ltb-true _ _ more in
      let z : left_of c.limit c.used true ≡ suc n = rw d at e in
      let st : (next c t).state ≡ State.PresenceCheck = ap (λ (y : Call). y.state) x.0 ∙ s in
      let off : (next c t).dt303 ≡ false = ap (λ (y : Call). y.dt303) x.0 in
      let lim : (next c t).limit ≡ c.limit = ap (λ (y : Call). y.limit) x.0 in
      let one : (next c t).used ≡ c.used + 1 = ap (λ (y : Call). y.used) x.0 in
      after x.1 lim one (later st (rw (off, lim, one) (omega arith)))
  expired false more d =
      let x = expires c t k s d (reads ∙ ap (λ (y : Bool). taken (cond y (Expiry 303) (DmaReport 0))) d) room false more in
      let full : c.limit ≤ c.used = ltb-false _ _ more in
      let l : c.used ≤ c.limit = (check_limits c k.meets s).left in
      let z : left_of c.limit c.used true ≡ suc n = rw d at e in
      finish c t us (omega arith) (omega arith) x.0 x.1

  reports : c.dt303 ≡ false → Ends c (t ∷ us)
  unfolding count awaited
  reports d =
      let x = reported c t k s d (reads ∙ ap (λ (y : Bool). taken (cond y (Expiry 303) (DmaReport 0))) d) room in
      let z : left_of c.limit c.used false ≡ suc n = rw d at e in
      let st : (next c t).state ≡ State.PresenceCheck = ap (λ (y : Call). y.state) x.0 ∙ s in
      let on : (next c t).dt303 ≡ true = ap (λ (y : Call). y.dt303) x.0 in
      let lim : (next c t).limit ≡ c.limit = ap (λ (y : Call). y.limit) x.0 in
      let none : (next c t).used ≡ c.used + 0 = ap (λ (y : Call). y.used) x.0 ∙ omega arith in
      after x.1 lim none (later st (rw (on, lim, none) (omega arith)))

  one_turn : Ends c (t ∷ us)
  one_turn = by c.dt303 refl
    where
      by : (b : Bool) → c.dt303 ≡ b → Ends c (t ∷ us)
      by true d = expired (ltb c.used c.limit) refl d
      by false d = reports d

some_left : (c : Call) {A : Type 0} → turns_left c ≡ 0 → A
some_left c e = by c.dt303 e
  where
    by : {A : Type 0} (b : Bool) → left_of c.limit c.used b ≡ 0 → A
    by true z = absurd (omega arith)
    by false z = absurd (omega arith)

waited : (n : ℕ) (c : Call) (us : List Turn) → Kept c → c.state ≡ State.PresenceCheck → Waits c us → length us ≡ n → turns_left c ≡ n → Ends c us
waited zero c us k s w h e = some_left c e
waited (suc n) c [] k s w h e = absurd (omega arith)
waited (suc n) c (t ∷ us) k s (wait reads room rest) h e =
    one_turn n c t us k s reads room (omega arith) e (λ st left. waited n (next c t) us (turn_keeps c t k) st rest (omega arith) left)

pub back_to_idle : BackToIdle
back_to_idle ts us check w h = (waited _ (run fresh_call ts) us (reached ts) (check_is (run fresh_call ts) check) w h refl).fresh

pub at_most_twice : AtMostTwice
at_most_twice ts check = by c.dt303
  where
    c : Call
    c = run fresh_call ts

    l : Limits c
    l = check_limits c (reached ts).meets (check_is c check)

    by : (b : Bool) → left_of c.limit c.used b ≤ 2 * c.limit
    by true = omega (arith, l.begun, l.left)
    by false = omega (arith, l.begun, l.left)

pub as_often_as_limit : AsOftenAsLimit
unfolding run written_in
as_often_as_limit ts us t x l m first w h =
    let c = run fresh_call ts in
    let b = begins c t (reached ts) x l m first in
    let left : turns_left (next c t) ≡ 2 * m = rw (b.limit, b.used, b.stopped) (omega (arith, b.some)) in
    let e = waited (2 * m) (next c t) us (turn_keeps c t (reached ts)) b.state w h left in
    let a = count-append (written_by c t) (written_in (next c t) us) in
    (omega (arith, b.limit, b.used, b.writes, e.all), e.fresh)
