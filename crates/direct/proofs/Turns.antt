-- What a turn does: it takes an event that has a row, and leaves the record and the bytes of that row; or it is refused, and leaves the
-- record as it was.
use Prim.Native.Nat.{ℕ, ◌+◌, ◌≤◌}
use mathlib.Core.Path.{◌≡◌, refl, ◌∙◌, ap}
use mathlib.Core.Bool.{Bool, true, false, cond}
use mathlib.Core.List.{List, [], ◌∷◌, ◌++◌}
use mathlib.Core.Option.{none, some}
use native.Mathlib.Omega.{arith}
use borrow.Author.Tests.{eqb-true, le-leb}
use lib.Dec.{leb, ltb, eqb}
use lib.ListN.{length}
use lib.Seq.{sets}
use Rattle.records.specs.Tables.{Read, taken, refused, read, fine}
use Rattle.direct.specs.declared.events.Event.{Event}
use Rattle.direct.specs.declared.events.Event.TheVariants.{SetupRequest, DmaReport, DmConnect, DmDisconnect, Expiry}
use Rattle.direct.specs.declared.call.State.{State}
use Rattle.direct.specs.declared.call.Call.{Call}
use Rattle.direct.specs.Events.{events}
use Rattle.direct.specs.Messages.{bytes_of, sizes_of}
use Rattle.direct.specs.Call.{sound}
use Rattle.direct.specs.Draft.{Draft, messages_in, no_row}
use Rattle.direct.specs.Rows.{asked, awaited, given_up, connected, released, again, exhausted, acceptable, idle, reporting, waiting, in_state, row_for}
use Rattle.direct.specs.Step.{Outcome, refusal_at, refusal, beyond, carried, decided, when_read, step_of}
use Rattle.direct.specs.Runs.{Turn, outcome, next, run, taken_by, event_in, written_by}
use Rattle.direct.proofs.Tables.{event_lawful}
use Rattle.direct.proofs.Carried.{length-bytes_of}
use Rattle.direct.proofs.Reading.{read_fine, refusal_number}

-- true is not false
pub apart : {A : Type 0} {b : Bool} → b ≡ true → b ≡ false → A
apart p q = absurd (let z : ◌≡◌ {A = ℕ} 0 1 = cc in omega arith)

-- every event agrees
pub event_fine : (s : List ℕ) (e : Event) → read events s ≡ taken e → fine events e ≡ true
event_fine = read_fine events event_lawful (λ e. refl) (λ n. refl)

-- what comes back where a row is carried out
abbrev pub accepted : Draft → List ℕ → Outcome
accepted d buffer =
    record { answer = 0; place = 0; call = d.call; count = length (bytes_of (messages_in d)); buffer = sets buffer 0 (bytes_of (messages_in d)) }

-- an event's outcome by its three tests
abbrev pub by_tests : Bool → Bool → Bool → Call → Draft → List ℕ → Outcome
by_tests over row room c d buffer =
    cond over (refusal 60 c buffer) (cond row (cond room (accepted d buffer) (refusal 7 c buffer)) (refusal 61 c buffer))

-- ---- the two things that a turn can do

pub record Accepted (c : Call) (t : Turn) (e : Event) : Type 0 where
  pub holds : sound c ≡ true
  pub reads : read events t.event ≡ taken e
  pub within : beyond e ≡ false
  pub row : (row_for c e).taken ≡ true
  pub room : leb (length (bytes_of (messages_in (row_for c e)))) (length t.buffer) ≡ true
  pub gives : outcome c t ≡ accepted (row_for c e) t.buffer
  pub takes : taken_by c t ≡ some e
  pub leaves : next c t ≡ (row_for c e).call
  pub writes : written_by c t ≡ messages_in (row_for c e)

pub record Passed (c : Call) (t : Turn) (n place : ℕ) : Type 0 where
  pub number : n ≡ 0 → ⊥
  pub gives : outcome c t ≡ refusal_at n place c t.buffer
  pub takes : taken_by c t ≡ none
  pub leaves : next c t ≡ c
  pub writes : written_by c t ≡ []

pub data Turned (c : Call) (t : Turn) : Type 0 where
  passed : {n place : ℕ} → Passed c t n place → Turned c t
  took : (e : Event) → Accepted c t e → Turned c t

same_both : {A : Type 0} (b : Bool) (x : A) → cond b x x ≡ x
same_both true x = refl
same_both false x = refl

module _ (c : Call) (t : Turn) where
  next_is : {o : Outcome} → outcome c t ≡ o → next c t ≡ o.call
  unfolding next
  next_is g = ap (λ o. o.call) g

  writes_none : taken_by c t ≡ none → written_by c t ≡ []
  unfolding written_by
  writes_none k = rw k

  writes_row : {e : Event} → taken_by c t ≡ some e → written_by c t ≡ messages_in (row_for c e)
  unfolding written_by
  writes_row k = rw k

  passes : (n place : ℕ) → (n ≡ 0 → ⊥) → outcome c t ≡ refusal_at n place c t.buffer → taken_by c t ≡ none → Turned c t
  passes n place z g k = passed (record { number = z; gives = g; takes = k; leaves = next_is g; writes = writes_none k })

  event_turned : (e : Event) (over row room : Bool) → sound c ≡ true → read events t.event ≡ taken e → beyond e ≡ over → (row_for c e).taken ≡ row →
      leb (length (bytes_of (messages_in (row_for c e)))) (length t.buffer) ≡ room →
      outcome c t ≡ by_tests over row room c (row_for c e) t.buffer → taken_by c t ≡ cond (eqb (by_tests over row room c (row_for c e) t.buffer).answer 0) (some e) none → Turned c t
  event_turned e true row room s r o w m g k = passes 60 0 (λ e. omega arith) g k
  event_turned e false false room s r o w m g k = passes 61 0 (λ e. omega arith) g k
  event_turned e false true false s r o w m g k = passes 7 0 (λ e. omega arith) g k
  event_turned e false true true s r o w m g k =
      took e (record { holds = s; reads = r; within = o; row = w; room = m; gives = g; takes = k; leaves = next_is g; writes = writes_row k })

  step_turned : (ok : Bool) (r : Read Event) → sound c ≡ ok → read events t.event ≡ r → outcome c t ≡ cond ok (when_read r c t.buffer) (refusal 1 c t.buffer) →
      taken_by c t ≡ cond (eqb (cond ok (when_read r c t.buffer) (refusal 1 c t.buffer)).answer 0) (event_in r) none → Turned c t
  unfolding decided carried
  step_turned false r s h g k = passes 1 0 (λ e. omega arith) g k
  step_turned true (refused n place) s h g k = passes n place (refusal_number events event_lawful (λ e. refl) (λ n. refl) n place t.event h).0 g (k ∙ same_both (eqb n 0) none)
  step_turned true (taken e) s h g k =
      event_turned e (beyond e) (row_for c e).taken (leb (length (bytes_of (messages_in (row_for c e)))) (length t.buffer)) s h refl refl refl g k

pub turned : (c : Call) (t : Turn) → Turned c t
unfolding outcome step_of taken_by
turned c t = step_turned c t (sound c) (read events t.event) refl refl refl refl

-- a turn that is known to take an event
pub accepts : (c : Call) (t : Turn) (e : Event) → taken_by c t ≡ some e → Accepted c t e
accepts c t e h = known (turned c t)
  where
    known : Turned c t → Accepted c t e
    known (passed p) = let x : ◌≡◌ {A = ℕ} 0 1 = cc p.takes in absurd (omega arith)
    known (took f a) = let same : f ≡ e = cc a.takes in rw same at a

-- ---- what comes of an event that was read

module _ (c : Call) (t : Turn) (e : Event) (holds : sound c ≡ true) (reads : read events t.event ≡ taken e) (within : beyond e ≡ false) where
  -- no row: 61
  pub no_row_lem : (row_for c e).taken ≡ false → outcome c t ≡ refusal 61 c t.buffer
  unfolding outcome step_of decided carried
  no_row_lem h = rw (holds, reads, within, h)

  -- a row with room: it is taken
  pub taking : (row_for c e).taken ≡ true → sizes_of (messages_in (row_for c e)) ≤ length t.buffer → taken_by c t ≡ some e
  unfolding taken_by outcome step_of decided carried
  taking h room = rw (holds, reads, within, h, length-bytes_of, le-leb _ _ room)

-- ---- runs

-- a run over two lists goes through the one and then the other
pub run-append : (c : Call) (ts us : List Turn) → run c (ts ++ us) ≡ run (run c ts) us
unfolding run
run-append c [] us = refl
run-append c (t ∷ ts) us = run-append (next c t) ts us

-- ---- which row an event has

pub data Which (c : Call) : Event → Draft → Type 0 where
  asks : {t l m : ℕ} → c.state ≡ State.Idle → Which c (SetupRequest t l m) (asked t l m c)
  awaits : {v : ℕ} → c.state ≡ State.PresenceCheck → c.dt303 ≡ false → v ≡ 0 → Which c (DmaReport v) (awaited c)
  gives_up_lem : {v : ℕ} → c.state ≡ State.PresenceCheck → c.dt303 ≡ false → Which c (DmaReport v) (given_up c)
  connects : {g : ℕ} → c.state ≡ State.PresenceCheck → c.dt303 ≡ true → acceptable c g ≡ true → Which c (DmConnect g) (connected g c)
  rejects : {g : ℕ} → c.state ≡ State.PresenceCheck → c.dt303 ≡ true → acceptable c g ≡ false → Which c (DmConnect g) (released c)
  disconnects : c.state ≡ State.PresenceCheck → c.dt303 ≡ true → Which c DmDisconnect (released c)
  retries : {n : ℕ} → c.state ≡ State.PresenceCheck → c.dt303 ≡ true → n ≡ 303 → ltb c.used c.limit ≡ true → Which c (Expiry n) (again (c.used + 1) c)
  exhausts : {n : ℕ} → c.state ≡ State.PresenceCheck → c.dt303 ≡ true → n ≡ 303 → ltb c.used c.limit ≡ false → Which c (Expiry n) (exhausted c)

module _ (c : Call) where
  in_idle : (e : Event) → c.state ≡ State.Idle → (idle c e).taken ≡ true → Which c e (idle c e)
  in_idle (SetupRequest t l m) s r = asks s
  in_idle (DmaReport v) s r = apart r refl
  in_idle (DmConnect g) s r = apart r refl
  in_idle DmDisconnect s r = apart r refl
  in_idle (Expiry n) s r = apart r refl

  in_reporting : (e : Event) → c.state ≡ State.PresenceCheck → c.dt303 ≡ false → (reporting c e).taken ≡ true → Which c e (reporting c e)
  in_reporting (SetupRequest t l m) s d r = apart r refl
  in_reporting (DmaReport v) s d r = by (eqb v 0) refl
    where
      by : (b : Bool) → eqb v 0 ≡ b → Which c (DmaReport v) (cond b (awaited c) (given_up c))
      by true h = awaits s d (eqb-true v 0 h)
      by false h = gives_up_lem s d
  in_reporting (DmConnect g) s d r = apart r refl
  in_reporting DmDisconnect s d r = apart r refl
  in_reporting (Expiry n) s d r = apart r refl

  in_waiting : (e : Event) → c.state ≡ State.PresenceCheck → c.dt303 ≡ true → (waiting c e).taken ≡ true → Which c e (waiting c e)
  in_waiting (SetupRequest t l m) s d r = apart r refl
  in_waiting (DmaReport v) s d r = apart r refl
  in_waiting (DmConnect g) s d r = by (acceptable c g) refl
    where
      by : (b : Bool) → acceptable c g ≡ b → Which c (DmConnect g) (cond b (connected g c) (released c))
      by true h = connects s d h
      by false h = rejects s d h
  in_waiting DmDisconnect s d r = disconnects s d
  in_waiting (Expiry n) s d r = by (eqb n 303) (ltb c.used c.limit) refl refl r
    where
      by : (a b : Bool) → eqb n 303 ≡ a → ltb c.used c.limit ≡ b → (cond a (cond b (again (c.used + 1) c) (exhausted c)) (no_row c)).taken ≡ true → Which c (Expiry n) (cond a (cond b (again (c.used + 1) c) (exhausted c)) (no_row c))
      by true true h k r = retries s d (eqb-true n 303 h) k
      by true false h k r = exhausts s d (eqb-true n 303 h) k
      by false b h k r = apart r refl

  in_state_lem : (e : Event) (s : State) → c.state ≡ s → (in_state s c e).taken ≡ true → Which c e (in_state s c e)
  in_state_lem e State.Idle h r = in_idle e h r
  in_state_lem e State.PresenceCheck h r = by c.dt303 refl r
    where
      by : (b : Bool) → c.dt303 ≡ b → (cond b (waiting c e) (reporting c e)).taken ≡ true → Which c e (cond b (waiting c e) (reporting c e))
      by true d r = in_waiting e h d r
      by false d r = in_reporting e h d r
  in_state_lem e State.Active h r = apart r refl

  pub which : (e : Event) → (row_for c e).taken ≡ true → Which c e (row_for c e)
  unfolding row_for
  which e r = in_state_lem e c.state refl r

-- a turn that takes an event, by its row
pub row_of : {c : Call} {t : Turn} {e : Event} → Accepted c t e → Which c e (row_for c e)
row_of {c} {t} {e} a = which c e a.row
