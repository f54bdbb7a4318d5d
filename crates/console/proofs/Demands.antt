-- Every claim about the console's runs is met.
use Prim.Native.Nat.{ℕ, ◌<◌, ◌≤◌}
use mathlib.Core.Path.{◌≡◌, refl, sym, ◌∙◌, ap}
use mathlib.Core.Bool.{Bool, true, false, cond}
use mathlib.Core.List.{List, [], ◌∷◌, ◌++◌, append-nil, append_assoc}
use mathlib.Core.Logic.{◌⊎◌, inl, inr}
use mathlib.Core.Option.{Option, none, some}
use native.Mathlib.Omega.{arith}
use borrow.Author.Tests.{leb-false}
use lib.Dec.{lit≤}
use lib.ListN.{length, drop, set}
use lib.Seq.{get_or-set_other, set-get_or}
use Rattle.records.specs.declared.events.Event.{Event}
use Rattle.records.specs.Bodies.{Found, kind_in, body_of}
use Rattle.records.specs.Tables.{Table, Read, taken, refused, or_refuse, or_place, sized, listed, known, find, read, read_among, read_as, read_body}
use Rattle.records.specs.Events.{events}
use Rattle.callcontrol.specs.declared.call.Call.{Call}
use Rattle.callcontrol.specs.Call.{fresh_call, is_idle, sound}
use Rattle.callcontrol.specs.Writing.{bytes_of}
use Rattle.callcontrol.specs.Step.{Outcome}
use Rattle.demands.specs.Runs.{Turn, outcome, run, next, told, taken_by, ends}
use Rattle.demands.specs.Demands.{Restoration, quiet}
use Rattle.demands.proofs.Facts.{apart}
use Rattle.demands.proofs.Turns as step-runs
use Rattle.demands.proofs.Demands as step-demands
use Rattle.console.specs.Table.{no_call, call_at, fresh_table, table_sound}
use Rattle.console.specs.declared.route.Aim.{Aim}
use Rattle.console.specs.Route.{Route, console_number, aim_of, route_of}
use Rattle.console.specs.Console.{ConsoleOutcome, placed, at_place, everywhere, writes_from, refuses_at, refuses, console_of}
use Rattle.console.specs.Runs.{ConsoleTurn, console_outcome, console_next, console_run, lent_behind, went_to, went_in}
use Rattle.console.specs.Demands as claims
use Rattle.console.proofs.Placing.{bytes_at, Decides, decides, placed_refuses, placed_takes}
use Rattle.console.proofs.Rooms.{written_most, break_room, resume_room}
use Rattle.console.proofs.Routing.{to_place, to_none, every_route}
use Rattle.console.proofs.Tables.{eight_of}
use Rattle.console.proofs.Turns.{Everywhere, everywhere_does, none_takes, no_room, all_take, Came, came, unsound, unread, routes, routed_is, run-append, next_at, next_is}
use Rattle.console.proofs.Twins.{Good, good_sound, good_fresh, good_run, fresh_at, idle_id}
use Rattle.console.proofs.Went as Went

-- ---- the table

pub table_sound_lem : claims.TableSound
table_sound_lem ts = good_sound (console_run fresh_table ts) (good_run fresh_table ts good_fresh)

-- ---- each place

at_run : (calls : List Call) (ts : List ConsoleTurn) (k : ℕ) → k < 8 → call_at (console_run calls ts) k ≡ run (call_at calls k) (went_in k calls ts)
unfolding console_run went_in run
at_run calls [] k lt = refl
at_run calls (t ∷ ts) k lt =
    at_run (console_next calls t) ts k lt
    ∙ ap (λ (c : Call). run c (went_in k (console_next calls t) ts)) (Went.record_at calls t k lt)
    ∙ sym (step-runs.run-append (call_at calls k) (went_to k calls t) (went_in k (console_next calls t) ts))

pub records : claims.Records
records ts k lt = at_run fresh_table ts k lt ∙ ap (λ (c : Call). run c (went_in k fresh_table ts)) (fresh_at k lt)

pub messages : claims.Messages
messages = Went.messages

-- ---- demand 3, for each place

pub told_at : claims.ToldAt
told_at ts k lt = let w = step-demands.told_by_history (claims.turns_at k ts) in (w.0, w.1 ∙ ap (λ (c : Call). c.plane) (sym (records ts k lt)))

pub went-append : (k : ℕ) (calls : List Call) (ts us : List ConsoleTurn) → went_in k calls (ts ++ us) ≡ went_in k calls ts ++ went_in k (console_run calls ts) us
unfolding went_in console_run
went-append k calls [] us = refl
went-append k calls (t ∷ ts) us =
    ap (λ (z : List Turn). went_to k calls t ++ z) (went-append k (console_next calls t) ts us)
    ∙ sym (append_assoc (went_to k calls t) (went_in k (console_next calls t) ts) (went_in k (console_run (console_next calls t) ts) us))

pub went_one : (k : ℕ) (calls : List Call) (t : ConsoleTurn) → went_in k calls (t ∷ []) ≡ went_to k calls t
unfolding went_in
went_one k calls t = append-nil (went_to k calls t)

-- what the step of one place leaves in the table
abbrev stored : List Call → ℕ → Outcome → ConsoleOutcome
stored calls j w = record { answer = w.answer; place = w.place; calls = set calls j w.call; count = w.count; buffer = w.buffer }

run_one : (calls : List Call) (t : ConsoleTurn) → console_run calls (t ∷ []) ≡ console_next calls t
unfolding console_run
run_one calls t = refl

module _ (ts us : List ConsoleTurn) (t : ConsoleTurn) (k : ℕ) (v : Turn) (went : went_to k (console_run fresh_table ts) t ≡ v ∷ []) where
  -- the step's turns at a place that has one in t
  pub split : went_in k fresh_table (ts ++ t ∷ us) ≡ went_in k fresh_table ts ++ v ∷ went_in k (console_run fresh_table (ts ++ t ∷ [])) us
  unfolding went_in
  split =
      went-append k fresh_table ts (t ∷ us)
      ∙ ap (λ (z : List Turn). went_in k fresh_table ts ++ (z ++ went_in k (console_next (console_run fresh_table ts) t) us)) went
      ∙ ap (λ (z : List Call). went_in k fresh_table ts ++ v ∷ went_in k z us) (sym (run-append fresh_table ts (t ∷ []) ∙ run_one (console_run fresh_table ts) t))

  -- and the record that t leaves there
  last_record : (lt : k < 8) → call_at (console_run fresh_table (ts ++ t ∷ [])) k ≡ next (run fresh_call (went_in k fresh_table ts)) v
  last_record lt = records (ts ++ t ∷ []) k lt ∙ ap (λ (z : List Turn). run fresh_call z) last_turns ∙ step-runs.run_last fresh_call (went_in k fresh_table ts) v
    where
      last_turns : went_in k fresh_table (ts ++ t ∷ []) ≡ went_in k fresh_table ts ++ v ∷ []
      last_turns =
          went-append k fresh_table ts (t ∷ [])
          ∙ ap (λ (z : List Turn). went_in k fresh_table ts ++ z) (went_one k (console_run fresh_table ts) t ∙ went)

pub ended_at : claims.EndedAt
ended_at ts t k v lt went is =
    last_record ts [] t k v went lt
    ∙ sym (step-runs.run_last fresh_call (went_in k fresh_table ts) v)
    ∙ step-demands.ended (went_in k fresh_table ts) v (ap (λ (c : Call). ends c v) (sym (records ts k lt)) ∙ is)

pub no_other_end_at : claims.NoOtherEndAt
no_other_end_at ts t k lt busy idle = by (Went.at_most_one (claims.after ts) t k)
  where
    stays : went_to k (claims.after ts) t ≡ [] → claims.at k (ts ++ t ∷ []) ≡ claims.at k ts
    stays went =
        records (ts ++ t ∷ []) k lt
        ∙ ap (λ (z : List Turn). run fresh_call z)
        (went-append k fresh_table ts (t ∷ []) ∙ ap (λ (z : List Turn). went_in k fresh_table ts ++ z) (went_one k (claims.after ts) t ∙ went) ∙ append-nil (went_in k fresh_table ts))
        ∙ sym (records ts k lt)

    by : (went_to k (claims.after ts) t ≡ []) ⊎ ((v : Turn) × (went_to k (claims.after ts) t ≡ v ∷ []))
        → (v : Turn) × (went_to k (claims.after ts) t ≡ v ∷ []) × (ends (claims.at k ts) v ≡ true)
    by (inl nowhere) = apart (sym (ap (λ (c : Call). is_idle c) (stays nowhere)) ∙ idle) busy
    by (inr (v, went)) = (
      v,
      went,
      ap (λ (c : Call). ends c v) (records ts k lt)
          ∙ step-demands.no_other_end (went_in k fresh_table ts) v (ap (λ (c : Call). is_idle c) (sym (records ts k lt)) ∙ busy)
          (ap (λ (c : Call). is_idle c) (step-runs.run_last fresh_call (went_in k fresh_table ts) v ∙ sym (last_record ts [] t k v went lt)) ∙ idle),
    )

module _ (ts us : List ConsoleTurn) (t : ConsoleTurn) (k : ℕ) (v : Turn) (lt : k < 8) (went : went_to k (claims.after ts) t ≡ v ∷ [])
    (broke : taken_by (claims.at k ts) v ≡ some Event.Break)
    (calm : quiet (claims.at k ts).id (claims.at k (ts ++ t ∷ [])) (went_in k (claims.after (ts ++ t ∷ [])) us) ≡ true) where
  abbrev before : List Turn
  before = went_in k fresh_table ts

  abbrev later : List Turn
  later = went_in k (claims.after (ts ++ t ∷ [])) us

  step_broke : taken_by (run fresh_call before) v ≡ some Event.Break
  step_broke = ap (λ (c : Call). taken_by c v) (sym (records ts k lt)) ∙ broke

  step_calm : quiet (run fresh_call before).id (next (run fresh_call before) v) later ≡ true
  step_calm =
      ap (λ (c : Call). quiet c.id (next (run fresh_call before) v) later) (sym (records ts k lt))
      ∙ ap (λ (c : Call). quiet (claims.at k ts).id c later) (sym (last_record ts us t k v went lt))
      ∙ calm

  stays_off : told (claims.turns_at k (ts ++ t ∷ us)) ≡ 4
  stays_off = ap (λ (z : List Turn). told z) (split ts us t k v went) ∙ step-demands.cut before later v step_broke step_calm

  module _ (w : ConsoleTurn) (x : Turn) (i g r o : ℕ) (Went-then : went_to k (claims.after (ts ++ t ∷ us)) w ≡ x ∷ [])
      (restores : taken_by (claims.at k (ts ++ t ∷ us)) x ≡ some (Event.DCallRestore i g r o)) where
    now_is : claims.at k (ts ++ t ∷ us) ≡ run fresh_call (before ++ v ∷ later)
    now_is = records (ts ++ t ∷ us) k lt ∙ ap (λ (z : List Turn). run fresh_call z) (split ts us t k v went)

    then_is : claims.at k (ts ++ t ∷ us ++ w ∷ []) ≡ run fresh_call (before ++ v ∷ later ++ x ∷ [])
    then_is =
        last_record (ts ++ t ∷ us) [] w k x Went-then lt
        ∙ ap (λ (z : List Turn). next (run fresh_call z) x) (split ts us t k v went)
        ∙ sym (step-runs.run_last fresh_call (before ++ v ∷ later) x)

    restored_record : Restoration (claims.at k ts) (claims.at k (ts ++ t ∷ us ++ w ∷ [])) i r o
    restored_record =
        let d = step-demands.restored before later v x i g r o step_broke step_calm (ap (λ (c : Call). taken_by c x) (sym now_is) ∙ restores) in
        rw (records ts k lt, then_is) d

pub cut_at : claims.CutAt
cut_at ts us t k v lt went broke calm = stays_off ts us t k v lt went broke calm

pub restored_at : claims.RestoredAt
restored_at ts us t w k v x i g r o lt went broke calm Went-then restores =
    restored_record ts us t k v lt went broke calm w x i g r o Went-then restores

-- ---- the table, in the client's words

outside : (c : Call) (b : Bool) → is_idle c ≡ b → sound c ≡ true → (c.id ≡ 0 → ⊥) → is_idle c ≡ false
outside c true idle ok has = absurd (has (idle_id c ok idle))
outside c false idle ok has = idle

pub good : (ts : List ConsoleTurn) → Good (claims.after ts)
good ts = good_run fresh_table ts good_fresh

pub no_two_hold : claims.NoTwoHold
no_two_hold ts j k jl kl d has same =
    let g = good ts in
    let c = claims.at j ts in
    let f = claims.at k ts in
    g.single j k jl kl d (outside c (is_idle c) refl (g.kept j jl).meets has) (outside f (is_idle f) refl (g.kept k kl).meets (λ z. has (same ∙ z))) same

pub one_awaits : claims.OneAwaits
one_awaits ts j k jl kl d p q z y = (good ts).single j k jl kl d p q (z ∙ sym y)

-- ---- the answers

-- a refusal that is not 1, has a place only with 4 and gives everything back; or 0, which has no place
data Answers (calls : List Call) (b : List ℕ) (o : ConsoleOutcome) : Type 0 where
  refused_with : (n p : ℕ) → 2 ≤ n → ((n ≡ 4 → ⊥) → p ≡ 0) → o ≡ refuses_at n p calls b → Answers calls b o
  took : o.answer ≡ 0 → o.place ≡ 0 → Answers calls b o

place_answers : (calls : List Call) (j : ℕ) (e : Event) (b : List ℕ) → Answers calls b (at_place j calls e b)
unfolding at_place
place_answers calls j e b = by (decides (call_at calls j) e (drop 5 b))
  where
    by : Decides (call_at calls j) e (drop 5 b) → Answers calls b (at_place j calls e b)
    by (Decides.refuses n z d) =
        refused_with n 0 (omega arith) (λ x. refl)
        (ap (λ (w : Outcome). stored calls j w) (sym (placed_refuses j (call_at calls j) e b n z d))
        ∙ ap (λ (z : List Call). refuses n z b) (set-get_or calls j no_call))
    by (Decides.takes w f d) =
        took (ap (λ (w : Outcome). w.answer) (sym (placed_takes j (call_at calls j) e b d))) (ap (λ (w : Outcome). w.place) (sym (placed_takes j (call_at calls j) e b d)))

all_answers : (calls : List Call) (e : Event) (b : List ℕ) → Everywhere calls e b → Answers calls b (everywhere calls e b)
all_answers calls e b (none_takes s d) = refused_with 6 0 (lit≤ tt) (λ x. refl) d
all_answers calls e b (no_room s f d) = refused_with 7 0 (lit≤ tt) (λ x. refl) d
all_answers calls e b (all_take s f d) = took (ap (λ (o : ConsoleOutcome). o.answer) d) (ap (λ (o : ConsoleOutcome). o.place) d)

-- a reader refuses with 2 or more, and only 4 has a place
abbrev Numbered : {A : Type 0} → Read A → Type 0
Numbered (taken v) = Unit {0}
Numbered (refused n p) = (2 ≤ n) × ((n ≡ 4 → ⊥) → p ≡ 0)

or_numbered : {A B : Type 0} (n : ℕ) → 2 ≤ n → (o : Option A) (f : A → Read B) → ((a : A) → Numbered (f a)) → Numbered (or_refuse n o f)
or_numbered n l none f g = (l, λ x. refl)
or_numbered n l (some a) f g = g a

place_numbered : {A B : Type 0} (o : Found A) (f : A → Read B) → ((a : A) → Numbered (f a)) → Numbered (or_place o f)
place_numbered (Found.is a) f g = g a
place_numbered (Found.bad_at p) f g = (lit≤ tt, λ x. absurd (x refl))

cond_numbered : {B : Type 0} (b : Bool) (v : B) (p : ℕ) → Numbered (cond b (taken v) (refused 4 p))
cond_numbered true v p = tt
cond_numbered false v p = (lit≤ tt, λ x. absurd (x refl))

known_numbered : {B : Type 0} (b : Bool) (r : Read B) → Numbered r → Numbered (cond b r (refused 3 0))
known_numbered true r h = h
known_numbered false r h = (lit≤ tt, λ x. refl)

current_numbered : {B : Type 0} (b : Bool) (r : Read B) → Numbered r → Numbered (cond b (refused 9 0) r)
current_numbered true r h = (lit≤ tt, λ x. refl)
current_numbered false r h = h

numbered : (t : Table) (s : List ℕ) → Numbered (read t s)
unfolding read read_as read_among read_body
numbered t s =
    or_numbered 2 (lit≤ tt) (kind_in s) _
    (λ n. current_numbered (listed n t.retired) _ (known_numbered (known t n t.kinds) _
    (place_numbered (sized (find t n (length s) t.kinds)) _
    (λ k. place_numbered (body_of (t.row_of k).letters s) _ (λ vs. cond_numbered (t.agrees (t.value_of k vs)) (t.value_of k vs) t.clash)))))

reader_number : (n p : ℕ) (s : List ℕ) → read events s ≡ refused n p → (2 ≤ n) × ((n ≡ 4 → ⊥) → p ≡ 0)
reader_number n p s h = rw h at (numbered events s)

answers : (calls : List Call) (t : ConsoleTurn) → table_sound calls ≡ true → Answers calls t.buffer (console_outcome calls t)
answers calls t ok = by (came calls t)
  where
    by : Came calls t → Answers calls t.buffer (console_outcome calls t)
    by (unsound s o) = absurd (let z : ◌≡◌ {A = ℕ} 0 1 = cc in omega arith)
    by (unread n p s h o) = let w = reader_number n p t.event h in refused_with n p w.0 w.1 o
    by (routes e (Route.To j) s h r o) = rw o (place_answers calls j e t.buffer)
    by (routes e Route.Everywhere s h r o) = rw o (all_answers calls e t.buffer (everywhere_does calls e t.buffer))
    by (routes e (Route.Refused a) s h r o) = refused_with (console_number a) 0 (let f = to_none calls t.place e r in omega arith) (λ x. refl) o

pub never_unsound : claims.NeverUnsound
never_unsound ts t is = by (answers (claims.after ts) t (table_sound_lem ts))
  where
    by : Answers (claims.after ts) t.buffer (console_outcome (claims.after ts) t) → ⊥
    by (refused_with n p l z o) = let m = sym (ap (λ (w : ConsoleOutcome). w.answer) o) ∙ is in omega arith
    by (took z p) = let m = sym z ∙ is in omega arith

pub placed_by_reader : claims.Placed
unfolding console_outcome console_of
placed_by_reader calls t n p ok reads = rw (ok, reads)

pub refuses_whole : claims.Refused
refuses_whole calls t n is other = by (came calls t)
  where
    same : {m p : ℕ} → console_outcome calls t ≡ refuses_at m p calls t.buffer → console_outcome calls t ≡ refuses_at n (console_outcome calls t).place calls t.buffer
    same o =
        o
        ∙ (λ i. refuses_at ((sym (ap (λ (w : ConsoleOutcome). w.answer) o) ∙ is) i) (sym (ap (λ (w : ConsoleOutcome). w.place) o) i) calls t.buffer)

    or_took : Answers calls t.buffer (console_outcome calls t) → console_outcome calls t ≡ refuses_at n (console_outcome calls t).place calls t.buffer
    or_took (refused_with m p l z o) = same o
    or_took (took z p) = absurd (other (sym is ∙ z))

    by : Came calls t → console_outcome calls t ≡ refuses_at n (console_outcome calls t).place calls t.buffer
    by (unsound s o) = same o
    by (unread m p s h o) = same o
    by (routes e r s h to o) = or_took (answers calls t s)

pub place_only_with_four : claims.PlaceOnlyWithFour
place_only_with_four calls t other = by (came calls t)
  where
    no_place : Answers calls t.buffer (console_outcome calls t) → (console_outcome calls t).place ≡ 0
    no_place (refused_with n p l z o) =
        ap (λ (w : ConsoleOutcome). w.place) o ∙ z (λ four. other (ap (λ (w : ConsoleOutcome). w.answer) o ∙ four))
    no_place (took z p) = p

    by : Came calls t → (console_outcome calls t).place ≡ 0
    by (unsound s o) = ap (λ (w : ConsoleOutcome). w.place) o
    by (unread n p s h o) = no_place (answers calls t s)
    by (routes e r s h to o) = no_place (answers calls t s)

-- ---- who is reached

pub others_stay : claims.OthersStay
unfolding at_place
others_stay calls t e j k reads to d = by (came calls t)
  where
    still : console_next calls t ≡ calls → call_at (console_next calls t) k ≡ call_at calls k
    still same = ap (λ (z : List Call). call_at z k) same

    same_route : {f : Event} {r : Route} → read events t.event ≡ taken f → route_of calls t.place f ≡ r → r ≡ Route.To j
    same_route {f} h r = let one : f ≡ e = cc in sym r ∙ ap (λ (x : Event). route_of calls t.place x) one ∙ to

    by : Came calls t → call_at (console_next calls t) k ≡ call_at calls k
    by (unsound s o) = still (next_is calls t o)
    by (unread n p s h o) = still (next_is calls t o)
    by (routes f (Route.To i) s h r o) =
        let here : i ≡ j = cc (same_route h r) in
        ap (λ (z : List Call). call_at z k) (next_is calls t o)
        ∙ get_or-set_other calls i k (placed i (call_at calls i) f t.buffer).call no_call (λ q. d (q ∙ here))
    by (routes f Route.Everywhere s h r o) = absurd (let z : ◌≡◌ {A = ℕ} 0 1 = cc (same_route h r) in omega arith)
    by (routes f (Route.Refused a) s h r o) = still (next_is calls t o)

pub all_or_none : claims.AllOrNone
all_or_none calls t e ok reads every = by (everywhere_does calls e t.buffer)
  where
    is : console_outcome calls t ≡ everywhere calls e t.buffer
    is = routed_is calls t ok reads (every_route calls t.place e every)

    by : Everywhere calls e t.buffer → claims.Reached calls t e
    by (none_takes s d) = claims.by_nobody s (is ∙ d)
    by (no_room s r d) = claims.none_for_room s (leb-false (length (bytes_of (writes_from 0 calls e))) (length t.buffer) r) (is ∙ d)
    by (all_take s r d) =
        claims.all_take s (ap (λ (o : ConsoleOutcome). o.answer) (is ∙ d))
        (λ k lt.
        let n = eight_of calls ok in ap (λ (z : List Call). call_at z k) (next_is calls t (is ∙ d)) ∙ next_at calls e k (omega arith))

-- ---- how much room to lend

all_count : (calls : List Call) (t : ConsoleTurn) (e : Event) (m : ℕ) → read events t.event ≡ taken e → aim_of e ≡ Aim.Every
    → length (bytes_of (writes_from 0 calls e)) ≤ m → (console_outcome calls t).count ≤ m
all_count calls t e m reads every most = by (came calls t)
  where
    none : {n p : ℕ} → console_outcome calls t ≡ refuses_at n p calls t.buffer → (console_outcome calls t).count ≤ m
    none o = rw o (omega arith)

    same_route : {f : Event} {r : Route} → read events t.event ≡ taken f → route_of calls t.place f ≡ r → r ≡ Route.Everywhere
    same_route {f} h r = let one : f ≡ e = cc in sym r ∙ ap (λ (x : Event). route_of calls t.place x) one ∙ every_route calls t.place e every

    all : (f : Event) → f ≡ e → console_outcome calls t ≡ everywhere calls f t.buffer → Everywhere calls f t.buffer → (console_outcome calls t).count ≤ m
    all f one o (none_takes s d) = none (o ∙ d)
    all f one o (no_room s r d) = none (o ∙ d)
    all f one o (all_take s r d) = rw (o ∙ d, one) most

    by : Came calls t → (console_outcome calls t).count ≤ m
    by (unsound s o) = none o
    by (unread n p s h o) = none o
    by (routes f (Route.To i) s h r o) = absurd (let z : ◌≡◌ {A = ℕ} 0 1 = cc (same_route h r) in omega arith)
    by (routes f Route.Everywhere s h r o) = all f (cc) o (everywhere_does calls f t.buffer)
    by (routes f (Route.Refused a) s h r o) = none o

pub break_count : claims.BreakRoom
break_count ts t reads = all_count (claims.after ts) t Event.Break 128 reads refl (break_room (claims.after ts) (good ts).eight (good ts).kept)

pub resume_count : claims.ResumeRoom
resume_count ts t reads = all_count (claims.after ts) t Event.Resume 184 reads refl (resume_room (claims.after ts) (good ts).eight (good ts).kept)

-- what one place writes is what its step counts, with five bytes in front
place_most : (ts : List ConsoleTurn) (t : ConsoleTurn) (i : ℕ) (e : Event) → i < 8 → read events t.event ≡ taken e
    → (placed i (claims.at i ts) e t.buffer).count ≤ 37
place_most ts t i e lt reads = by (decides (claims.at i ts) e (drop 5 t.buffer))
  where
    by : Decides (claims.at i ts) e (drop 5 t.buffer) → (placed i (claims.at i ts) e t.buffer).count ≤ 37
    by (Decides.refuses n z d) = rw (← placed_refuses i (claims.at i ts) e t.buffer n z d) (omega arith)
    by (Decides.takes w f d) =
        let v = lent_behind 0 t in
        let counts : (outcome (claims.at i ts) v).count ≡ length (bytes_at (claims.at i ts) e) =
        ap (λ (o : Outcome). o.count) (Went.step_decided (claims.at i ts) e v ((good ts).kept i lt).meets reads ∙ d) in
        let most : length (bytes_at (claims.at i ts) e) ≤ 32 =
        rw (← counts, records ts i lt) (step-demands.at_most_32 (claims.turns_at i ts) v) in
        rw (← placed_takes i (claims.at i ts) e t.buffer d) (written_most i (claims.at i ts) e 32 w most)

pub place_count : claims.PlaceRoom
unfolding at_place
place_count ts t e j reads to = by (came (claims.after ts) t)
  where
    none : {n p : ℕ} → console_outcome (claims.after ts) t ≡ refuses_at n p (claims.after ts) t.buffer → (console_outcome (claims.after ts) t).count ≤ 37
    none o = rw o (omega arith)

    same_route : {f : Event} {r : Route} → read events t.event ≡ taken f → route_of (claims.after ts) t.place f ≡ r → r ≡ Route.To j
    same_route {f} h r = let one : f ≡ e = cc in sym r ∙ ap (λ (x : Event). route_of (claims.after ts) t.place x) one ∙ to

    by : Came (claims.after ts) t → (console_outcome (claims.after ts) t).count ≤ 37
    by (unsound s o) = none o
    by (unread n p s h o) = none o
    by (routes f (Route.To i) s h r o) = rw o (place_most ts t i f (to_place (claims.after ts) t.place f r) h)
    by (routes f Route.Everywhere s h r o) = absurd (let z : ◌≡◌ {A = ℕ} 0 1 = cc (same_route h r) in omega arith)
    by (routes f (Route.Refused a) s h r o) = none o
