-- The keys tell what the records tell, where these are sound: who holds an identifier, who is IDLE, whether two are alike, and so where an event goes.
use Rattle.std.specs.Prelude.{Result, Ok}
use Prim.Native.Nat.{ℕ, zero, suc, ◌+◌, ◌<◌, ◌≤◌}
use mathlib.Core.Path.{◌≡◌, refl, sym, ◌∙◌, ap}
use mathlib.Core.Bool.{Bool, true, false, cond, not, ◌&&◌, ◌||◌, and-false}
use mathlib.Core.List.{List, [], ◌∷◌}
use native.Mathlib.Numerals.{add-one}
use native.Mathlib.Omega.{arith}
use borrow.Author.Tests.{ne_eqb, le-leb, lt-leb, leb-true, eqb-true}
use lib.Dec.{leb, ltb, eqb, lit≤}
use lib.ListN.{length, set}
use Rattle.records.specs.declared.events.Event.{Event}
use Rattle.records.specs.declared.events.Event.TheVariants.{SetupRequest, SetupResponse, ReleaseRequest, TxRequest, DCallProceeding, DAlert, DConnect, DConnectAcknowledge, DSetup, DInfo, DTxGranted, DTxCeased, DTxInterrupt, DTxWait, DTxContinue, DCallRestore, DDisconnect, DRelease, ReportSent, ReportFailed, Break, Resume, Expiry}
use Rattle.records.specs.Tables.{Read, taken, refused, read}
use Rattle.records.specs.Events.{events}
use Rattle.callcontrol.specs.declared.call.Call.{Call}
use Rattle.callcontrol.specs.Call.{is_idle, in_range, sound}
use Rattle.demands.proofs.Facts.{left, right}
use Rattle.demands.proofs.Ranges.{Carries, carries, connect_carries, info_carries}
use Rattle.demands.proofs.Reading.{read_fine}
use Rattle.console.specs.declared.route.Aim.{Aim}
use Rattle.console.specs.declared.route.Target.{Target}
use Rattle.console.specs.declared.route.ConsoleRefusal.{ConsoleRefusal}
use Rattle.console.specs.Table.{call_at, holds, alike, some?, every?, apart, lowest, table_sound}
use Rattle.console.specs.Route.{Route, console_place, or_else, at_named, aim_of, at_lowest_idle, outgoing, incoming, at_holder, aimed, route_of}
use Rattle.console.specs.Console.{ConsoleOutcome, refuses_at, at_place, everywhere, routed, when_read, console_of}
use Rattle.console.specs.Keys.{key_of, keys_from, lowest_key, some_key, apart_by, held_by, idle_by, at_idle_by, outgoing_by, incoming_by, at_holder_by, aimed_by, route_by, Lead, goes_to, goes_everywhere, goes_nowhere, as_lead, along, lead_by}
use Rattle.console.proofs.Places.{rest, nothing_left}
use Rattle.console.proofs.Routing.{to_place, to_all}
use Rattle.console.proofs.Tables.{sound_all}
use Rattle.console.proofs.Twins.{idle_id}

-- ---- who holds an identifier
held_by_lem : (b : Bool) (i k n : ℕ) → i ≤ 16383 → eqb (cond b (16384 + k) n) i ≡ (not b && eqb n i)
held_by_lem true i k n le = ne_eqb (16384 + k) i (λ e. omega arith)
held_by_lem false i k n le = refl

held_key : (i k : ℕ) (c : Call) → i ≤ 16383 → eqb (key_of k c) i ≡ holds i c
unfolding holds
held_key i k c le = held_by_lem (is_idle c) i k c.id le

pub holder_by : (i k : ℕ) (cs : List Call) → i ≤ 16383 → lowest (holds i) cs ≡ lowest_key (λ n. eqb n i) (keys_from k cs)
holder_by i k [] le = refl
holder_by i k (c ∷ cs) le = λ j. cond (sym (held_key i k c le) j) 0 (suc (holder_by i (suc k) cs le j))

-- ---- who is IDLE
pub id_most : (c : Call) → sound c ≡ true → c.id ≤ 16383
unfolding sound in_range
id_most c ok =
    let most : leb c.id 16383 ≡ true = search (left, right) depth 20 in
    leb-true c.id 16383 most

idle_by_lem : (b : Bool) (k n : ℕ) → n ≤ 16383 → leb 16384 (cond b (16384 + k) n) ≡ b
idle_by_lem true k n le = le-leb 16384 (16384 + k) (omega arith)
idle_by_lem false k n le = lt-leb 16384 n (omega arith)

pub lowest_idle_by : (k : ℕ) (cs : List Call) → every? sound cs ≡ true → lowest is_idle cs ≡ lowest_key (leb 16384) (keys_from k cs)
lowest_idle_by k [] ok = refl
lowest_idle_by k (c ∷ cs) ok = λ j. cond (sym (idle_by_lem (is_idle c) k c.id (id_most c (left (sound c) _ ok))) j) 0 (suc (lowest_idle_by (suc k) cs (right (sound c) _ ok) j))

-- ---- whether two are alike
none_with : (m : ℕ) (b : Bool) → eqb m 0 ≡ b → (b && (leb 1 m || false)) ≡ false
none_with m false e = refl
none_with m true e = let z = eqb-true m 0 e in ap (λ (n : ℕ). leb 1 n || false) z

some_with : (x y : Bool) → x ≡ (x && (y || true))
some_with false y = refl
some_with true false = refl
some_with true true = refl

twin_by : (a b : Bool) (j k m n : ℕ) → j < k → m ≤ 16383 → n ≤ 16383 → (a ≡ true → m ≡ 0) → (b ≡ true → n ≡ 0)
    → eqb (cond a (16384 + j) m) (cond b (16384 + k) n) ≡ (eqb m n && (leb 1 m || not a && not b))
twin_by true true j k m n lt p q y z = ne_eqb (16384 + j) (16384 + k) (λ e. omega arith) ∙ sym (λ i. eqb (y refl i) (z refl i) && (leb 1 (y refl i) || false))
twin_by true false j k m n lt p q y z = ne_eqb (16384 + j) n (λ e. omega arith) ∙ sym (ap (λ (x : ℕ). eqb x n && (leb 1 x || false)) (y refl) ∙ and-false (eqb 0 n))
twin_by false true j k m n lt p q y z = ne_eqb m (16384 + k) (λ e. omega arith) ∙ sym (ap (λ (x : ℕ). eqb m x && (leb 1 m || false)) (z refl) ∙ none_with m (eqb m 0) refl)
twin_by false false j k m n lt p q y z = some_with (eqb m n) (leb 1 m)

twin_key : (j k : ℕ) (c d : Call) → j < k → sound c ≡ true → sound d ≡ true → eqb (key_of j c) (key_of k d) ≡ alike c d
unfolding alike
twin_key j k c d lt p q = twin_by (is_idle c) (is_idle d) j k c.id d.id lt (id_most c p) (id_most d q) (idle_id c p) (idle_id d q)

some_by : (j k : ℕ) (c : Call) (ds : List Call) → j < k → sound c ≡ true → every? sound ds ≡ true → some? (alike c) ds ≡ some_key (key_of j c) (keys_from k ds)
some_by j k c [] lt p q = refl
some_by j k c (d ∷ ds) lt p q = λ i. sym (twin_key j k c d lt p (left (sound d) _ q)) i || some_by j (suc k) c ds (omega arith) p (right (sound d) _ q) i

pub apart_by_lem : (k : ℕ) (cs : List Call) → every? sound cs ≡ true → apart cs ≡ apart_by (keys_from k cs)
apart_by_lem k [] ok = refl
apart_by_lem k (c ∷ cs) ok = λ i. not (some_by k (suc k) c cs (omega arith) (left (sound c) _ ok) (right (sound c) _ ok) i) && apart_by_lem (suc k) cs (right (sound c) _ ok) i

-- ---- where an event goes

-- an event that was read carries an identifier, or none
abbrev Small : Aim → Type 0
Small (Aim.Incoming i) = i ≤ 16383
Small (Aim.Held i) = i ≤ 16383
Small Aim.Place = Unit {0}
Small Aim.Outgoing = Unit {0}
Small Aim.Every = Unit {0}

small : (e : Event) → Carries e → Small (aim_of e)
small (SetupRequest a d q s) c = tt
small SetupResponse c = tt
small ReleaseRequest c = tt
small (TxRequest k) c = tt
small (DCallProceeding i) c = c.0.1
small (DAlert i) c = c.0.1
small (DConnect i g d o s) c = (connect_carries i g d o s c).0.0.1
small (DConnectAcknowledge i g o) c = c.0.1
small (DSetup i a d) c = c.0.1
small (DInfo i r o d s) c = (info_carries i r o d s c).0.0.1
small (DTxGranted i g) c = c.0.1
small (DTxCeased i) c = c.0.1
small (DTxInterrupt i g) c = c.0.1
small (DTxWait i) c = c.0.1
small (DTxContinue i k) c = c.0.1
small (DCallRestore i g r o) c = c.0.1
small (DDisconnect i) c = c.0
small (DRelease i) c = c.0
small ReportSent c = tt
small ReportFailed c = tt
small Break c = tt
small Resume c = tt
small (Expiry n) c = tt

module _ (calls : List Call) (ok : every? sound calls ≡ true) where
  abbrev keys : List ℕ
  keys = keys_from 0 calls

  at_idle_by_lem : at_lowest_idle calls ≡ at_idle_by keys
  unfolding at_lowest_idle at_idle_by
  at_idle_by_lem = rw (lowest_idle_by 0 calls ok)

  aimed_by_lem : (a : Aim) (place : ℕ) → Small a → aimed a calls place ≡ aimed_by a keys place
  unfolding outgoing outgoing_by incoming incoming_by at_holder at_holder_by
  aimed_by_lem Aim.Place place s = refl
  aimed_by_lem Aim.Outgoing place s = rw (holder_by 0 0 calls (lit≤ tt), at_idle_by_lem)
  aimed_by_lem (Aim.Incoming i) place s = rw (holder_by i 0 calls s, at_idle_by_lem)
  aimed_by_lem (Aim.Held i) place s = rw (holder_by i 0 calls s, holder_by 0 0 calls (lit≤ tt))
  aimed_by_lem Aim.Every place s = refl

  route_by_lem : (s : List ℕ) (place : ℕ) (e : Event) → read events s ≡ taken e → route_of calls place e ≡ route_by keys place e
  unfolding route_of route_by
  route_by_lem s place e h = aimed_by_lem (aim_of e) place (small e (carries e (read_fine s e h)))

-- a refusal of where it goes has no place
abbrev NoPlace : Route → Type 0
NoPlace (Route.To k) = Unit {0}
NoPlace Route.Everywhere = Unit {0}
NoPlace (Route.Refused a) = console_place a ≡ 0

or_no_place : (k : ℕ) (r : Route) → NoPlace r → NoPlace (or_else k r)
or_no_place k r n = by (ltb k 8)
  where
    by : (b : Bool) → NoPlace (cond b (Route.To k) r)
    by true = tt
    by false = n

either_no_place : (b : Bool) (r s : Route) → NoPlace r → NoPlace s → NoPlace (cond b r s)
either_no_place true r s n m = n
either_no_place false r s n m = m

aimed_no_place : (a : Aim) (keys : List ℕ) (place : ℕ) → NoPlace (aimed_by a keys place)
unfolding at_named at_idle_by outgoing_by incoming_by at_holder_by
aimed_no_place Aim.Place keys place = or_no_place place _ refl
aimed_no_place Aim.Outgoing keys place = either_no_place (ltb (held_by 0 keys) 8) _ _ refl (or_no_place (idle_by keys) _ refl)
aimed_no_place (Aim.Incoming i) keys place = either_no_place (ltb (held_by i keys) 8) _ _ refl (or_no_place (idle_by keys) _ refl)
aimed_no_place (Aim.Held i) keys place = or_no_place (held_by i keys) _ (or_no_place (held_by 0 keys) _ refl)
aimed_no_place Aim.Every keys place = tt

pub no_place : (keys : List ℕ) (place : ℕ) (e : Event) {a : ConsoleRefusal} → Route.Refused a ≡ route_by keys place e → console_place a ≡ 0
unfolding route_by
no_place keys place e is = rw (← is) at (aimed_no_place (aim_of e) keys place)

-- what comes back by where it leads
abbrev pub goes : Lead → List Call → List ℕ → ConsoleOutcome
goes (goes_to k e) calls b = at_place k calls e b
goes (goes_everywhere e) calls b = everywhere calls e b
goes (goes_nowhere n p) calls b = refuses_at n p calls b

along_goes : (r : Route) (calls : List Call) (e : Event) (b : List ℕ) → goes (along e r) calls b ≡ routed r calls e b
along_goes (Route.To k) calls e b = refl
along_goes Route.Everywhere calls e b = refl
along_goes (Route.Refused a) calls e b = refl

-- a place is one of eight, and what goes everywhere is meant for every place
abbrev pub Fitting : Lead → Type 0
Fitting (goes_to k e) = k < 8
Fitting (goes_everywhere e) = aim_of e ≡ Aim.Every
Fitting (goes_nowhere n p) = Unit {0}

module _ (calls : List Call) (ok : table_sound calls ≡ true) (place : ℕ) (s : List ℕ) where
  read_goes : (r : Read Event) → read events s ≡ r → (b : List ℕ) → goes (lead_by (keys_from 0 calls) place r) calls b ≡ when_read r calls place b
  read_goes (taken e) h b = rw (sym (route_by_lem calls (sound_all calls ok) s place e h)) (along_goes (route_of calls place e) calls e b)
  read_goes (refused n p) h b = refl

  pub lead_goes : {l : Lead} → l ≡ lead_by (keys_from 0 calls) place (read events s) → (b : List ℕ) → goes l calls b ≡ console_of calls place s b
  unfolding console_of
  lead_goes is b = rw (is, ok) (read_goes (read events s) refl b)

  along_fits : (e : Event) (r : Route) → route_of calls place e ≡ r → Fitting (along e r)
  along_fits e (Route.To k) h = to_place calls place e h
  along_fits e Route.Everywhere h = to_all calls place e h
  along_fits e (Route.Refused a) h = tt

  read_fits : (r : Read Event) → read events s ≡ r → Fitting (lead_by (keys_from 0 calls) place r)
  read_fits (taken e) h = rw (sym (route_by_lem calls (sound_all calls ok) s place e h)) (along_fits e (route_of calls place e) refl)
  read_fits (refused n p) h = tt

  pub lead_fits : {l : Lead} → l ≡ lead_by (keys_from 0 calls) place (read events s) → Fitting l
  lead_fits is = rw is (read_fits (read events s) refl)

-- what the code knows of where the bytes lead, by the table's keys
module _ (calls : List Call) (place : ℕ) (s : List ℕ) {keys : List ℕ} (is : keys ≡ keys_from 0 calls)
    {l : Result (Target × Event) ConsoleRefusal} (leads : as_lead l ≡ lead_by keys place (read events s)) where
  pub led_by : {m : Result (Target × Event) ConsoleRefusal} → l ≡ m → as_lead m ≡ lead_by (keys_from 0 calls) place (read events s)
  led_by same = ap as_lead (sym same) ∙ leads ∙ ap (λ (ks : List ℕ). lead_by ks place (read events s)) is

  pub led_to : {t u : Target} {e : Event} → l ≡ Ok (t, e) → t ≡ u → as_lead (Ok (u, e)) ≡ lead_by (keys_from 0 calls) place (read events s)
  led_to {e = e} same to = led_by (same ∙ ap (λ (t : Target). Ok (t, e)) to)

-- ---- how the code finds them

-- the first keys are stored, where the others are 0 still
abbrev pub keys_first : ℕ → List Call → List ℕ
keys_first zero calls = 0 ∷ 0 ∷ 0 ∷ 0 ∷ 0 ∷ 0 ∷ 0 ∷ 0 ∷ []
keys_first (suc k) calls = set (keys_first k calls) k (key_of k (call_at calls k))

pub key_next : (calls : List Call) (k : ℕ) {keys : List ℕ} {n : ℕ} → keys ≡ keys_first k calls → n ≡ key_of k (call_at calls k) → set keys k n ≡ keys_first (k + 1) calls
key_next calls k before is = (λ i. set (before i) k (is i)) ∙ sym (ap (λ (n : ℕ). keys_first n calls) (add-one k))

eight : (calls : List Call) → length calls ≡ 8 → calls ≡ call_at calls 0 ∷ call_at calls 1 ∷ call_at calls 2 ∷ call_at calls 3 ∷ call_at calls 4 ∷ call_at calls 5 ∷ call_at calls 6 ∷ call_at calls 7 ∷ []
eight calls n =
    rest calls 0 (omega arith)
    ∙ ap (λ (z : List Call). call_at calls 0 ∷ z)
    (rest calls 1 (omega arith)
    ∙ ap (λ (z : List Call). call_at calls 1 ∷ z)
    (rest calls 2 (omega arith)
    ∙ ap (λ (z : List Call). call_at calls 2 ∷ z)
    (rest calls 3 (omega arith)
    ∙ ap (λ (z : List Call). call_at calls 3 ∷ z)
    (rest calls 4 (omega arith)
    ∙ ap (λ (z : List Call). call_at calls 4 ∷ z)
    (rest calls 5 (omega arith)
    ∙ ap (λ (z : List Call). call_at calls 5 ∷ z)
    (rest calls 6 (omega arith)
    ∙ ap (λ (z : List Call). call_at calls 6 ∷ z)
    (rest calls 7 (omega arith) ∙ ap (λ (z : List Call). call_at calls 7 ∷ z) (nothing_left calls 8 (omega arith)))))))))

pub all_keys : (calls : List Call) (k : ℕ) {keys : List ℕ} → keys ≡ keys_first k calls → k ≡ 8 → length calls ≡ 8 → keys ≡ keys_from 0 calls
all_keys calls k before all n = before ∙ ap (λ (m : ℕ). keys_first m calls) all ∙ sym (ap (keys_from 0) (eight calls n))
