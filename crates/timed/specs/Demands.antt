-- What is claimed of a set over every run from new, as types. proofs/Demands.antt has a proof of each.
use Rattle.std.specs.Prelude.{ℕ, ◌+◌, ◌-◌, ◌≤◌, ◌<◌, ◌≡◌, Bool, true, false, cond, not, ◌&&◌, ◌||◌, List, [], ◌∷◌, ◌++◌, eqb, length}
use Rattle.std.proofs.Math.Option.{none, some}
use Rattle.std.proofs.lemmas.List.Edits.{sets}
use Rattle.records.specs.declared.events.Event.{Event}
use Rattle.records.specs.declared.events.Event.TheVariants.{Expiry}
use Rattle.records.specs.Tables.{read, flat}
use Rattle.records.specs.Events.{events}
use Rattle.timers.specs.Wrap.{shown, forward, is_back}
use Rattle.timers.specs.Bank.{length_in}
use Rattle.callcontrol.specs.declared.call.State.{State}
use Rattle.callcontrol.specs.declared.call.Path.{Path}
use Rattle.callcontrol.specs.declared.call.Call.{Call}
use Rattle.callcontrol.specs.Call.{fresh_call, runs, T301}
use Rattle.callcontrol.specs.Writing.{bytes_of}
use Rattle.callcontrol.specs.Step as Step
use Rattle.demands.specs.Runs as Steps
use Rattle.timed.specs.declared.set.Timed.{Timed}
use Rattle.timed.specs.Set.{new_of, is_set, table_right, first_due}
use Rattle.timed.specs.Entries.{Outcome, is_expiry, turn_of}
use Rattle.timed.specs.Times.{Begun, end, is_due, ordered, first_from, First}
use Rattle.timed.specs.Runs.{Turn, step, due, time_of, table_of, lent_to, outcome, is_taken, next, run, steps_in, taken_by, written_by, has_word, Kept, made, then, after, InReach, AllInReach}

-- (a) Record and bank stay together, whatever is handed in, lent and read

-- after every turn the bank's running timers are the record's
abbrev pub BankIsRecord : Type 0
BankIsRecord = (reading : ℕ) (ds : List Turn) → (run (new_of reading) ds).bank.running ≡ (run (new_of reading) ds).call.timers

abbrev pub StaysSet : Type 0
StaysSet = (reading : ℕ) (ds : List Turn) → is_set (run (new_of reading) ds) ≡ true

-- so 1 never comes back in a run
abbrev pub NeverNoSet : Type 0
NeverNoSet = (reading : ℕ) (ds : List Turn) (d : Turn) → (outcome (run (new_of reading) ds) d).answer ≡ 1 → ⊥

-- (h) The call is the step's

-- the record is that of the step's run over the events taken and the expiries made
abbrev pub FollowsStep : Type 0
FollowsStep = (reading : ℕ) (ds : List Turn) → (run (new_of reading) ds).call ≡ Steps.run fresh_call (steps_in (new_of reading) ds)

-- each of which the step takes
abbrev pub AllTaken : Call → List Steps.Turn → Type 0
AllTaken c [] = Unit {0}
AllTaken c (t ∷ ts) = ((Steps.outcome c t).answer ≡ 0) × AllTaken (Steps.next c t) ts

abbrev pub StepsTaken : Type 0
StepsTaken = (reading : ℕ) (ds : List Turn) → AllTaken fresh_call (steps_in (new_of reading) ds)

-- and what a turn counts and stores are the messages that the step writes in it
abbrev pub WritesStep : Type 0
WritesStep =
    (reading : ℕ) (ds : List Turn) (d : Turn) →
    ((outcome (run (new_of reading) ds) d).count ≡ length (bytes_of (written_by (run (new_of reading) ds) d)))
    × ((outcome (run (new_of reading) ds) d).buffer ≡ sets (lent_to d) 0 (bytes_of (written_by (run (new_of reading) ds) d)))

-- turns after turns make steps after steps
abbrev pub StepsAppend : Type 0
StepsAppend = (t : Timed) (ds es : List Turn) → steps_in t (ds ++ es) ≡ steps_in t ds ++ steps_in (run t ds) es

-- so what is said of every run of the step is said of a set: here that the lower layers were last told the plane of its record
abbrev pub ToldSet : Type 0
ToldSet = (reading : ℕ) (ds : List Turn) → Steps.told (steps_in (new_of reading) ds) ≡ (run (new_of reading) ds).call.plane

-- (g) After due with place 0 a step at the same reading and table is answered as callcontrol_step would answer, but for 35: never 1, 31, 32 or 34

-- what comes back of a set, as of the step
abbrev pub as_step : Outcome → Step.Outcome
as_step o = record { answer = o.answer; place = o.place; call = o.timed.call; count = o.count; buffer = o.buffer }

abbrev pub AsTheStep : Type 0
AsTheStep =
    (reading : ℕ) (ds : List Turn) (table : List ℕ) (time : ℕ) (lent event buffer : List ℕ) →
    (outcome (run (new_of reading) ds) (due table time lent)).answer ≡ 0 →
    (outcome (run (new_of reading) ds) (due table time lent)).place ≡ 0 →
    as_step (outcome (next (run (new_of reading) ds) (due table time lent)) (step table time event buffer))
    ≡ cond (is_expiry (read events event)) (Step.refusal 35 (run (new_of reading) ds).call buffer)
    (Steps.outcome (run (new_of reading) ds).call (turn_of event buffer))

-- (b) No expiry is refused: due answers 0 in every run where the table is right, the reading is not earlier and 30 bytes are lent
abbrev pub DueAnswersZero : Type 0
DueAnswersZero =
    (reading : ℕ) (ds : List Turn) (table : List ℕ) (time : ℕ) (buffer : List ℕ) →
    table_right table ≡ true →
    is_back (forward (run (new_of reading) ds).bank.last (shown time)) ≡ false →
    30 ≤ length buffer →
    (outcome (run (new_of reading) ds) (due table time buffer)).answer ≡ 0

-- and so in true time, where the reading is in reach
abbrev pub DueInReach : Type 0
DueInReach =
    (time : ℕ) (ds : List Turn) (table : List ℕ) (t : ℕ) (buffer : List ℕ) →
    AllInReach (made time) ds →
    InReach (after (made time) ds) (due table t buffer) →
    table_right table ≡ true → 30 ≤ length buffer → (outcome (after (made time) ds).timed (due table t buffer)).answer ≡ 0

-- (f) A step writes at most 32 bytes, and due at most 30
abbrev pub AtMost32 : Type 0
AtMost32 = (reading : ℕ) (ds : List Turn) (d : Turn) → (outcome (run (new_of reading) ds) d).count ≤ 32

abbrev pub DueAtMost30 : Type 0
DueAtMost30 =
    (reading : ℕ) (ds : List Turn) (table : List ℕ) (time : ℕ) (buffer : List ℕ) → (outcome (run (new_of reading) ds) (due table time buffer)).count ≤ 30

-- (c) In true time, over every run whose readings are in reach

-- where a step is taken no running timer is due, before it and after it
abbrev pub StepSettled : Type 0
StepSettled =
    (time : ℕ) (ds : List Turn) (table : List ℕ) (t : ℕ) (event buffer : List ℕ) →
    AllInReach (made time) ds →
    InReach (after (made time) ds) (step table t event buffer) →
    (outcome (after (made time) ds).timed (step table t event buffer)).answer ≡ 0 →
    (n : ℕ) → (is_due t ((after (made time) ds).clocks n) ≡ false) × (is_due t ((then (after (made time) ds) (step table t event buffer)).clocks n) ≡ false)

-- nor where due has place 0
abbrev pub DueSettled : Type 0
DueSettled =
    (time : ℕ) (ds : List Turn) (table : List ℕ) (t : ℕ) (buffer : List ℕ) →
    AllInReach (made time) ds →
    InReach (after (made time) ds) (due table t buffer) →
    (outcome (after (made time) ds).timed (due table t buffer)).answer ≡ 0 →
    (outcome (after (made time) ds).timed (due table t buffer)).place ≡ 0 →
    (n : ℕ) → is_due t ((then (after (made time) ds) (due table t buffer)).clocks n) ≡ false

-- due with place 1 expires the first of those due: its deadline is at or before the reading, so never sooner, and no other that is due comes
-- before it
abbrev pub DueFirst : Type 0
DueFirst =
    (time : ℕ) (ds : List Turn) (table : List ℕ) (t : ℕ) (buffer : List ℕ) →
    AllInReach (made time) ds →
    InReach (after (made time) ds) (due table t buffer) →
    (outcome (after (made time) ds).timed (due table t buffer)).answer ≡ 0 →
    (outcome (after (made time) ds).timed (due table t buffer)).place ≡ 1 →
    (taken_by (after (made time) ds).timed (due table t buffer) ≡ Expiry (first_due (after (made time) ds).timed (shown t)) ∷ [])
    × First (after (made time) ds).clocks t (first_due (after (made time) ds).timed (shown t))

-- so a timer that is due at a reading is not passed over: due then has place 1
abbrev pub NotPassedOver : Type 0
NotPassedOver =
    (time : ℕ) (ds : List Turn) (table : List ℕ) (t : ℕ) (buffer : List ℕ) (n : ℕ) →
    AllInReach (made time) ds →
    InReach (after (made time) ds) (due table t buffer) →
    (outcome (after (made time) ds).timed (due table t buffer)).answer ≡ 0 →
    is_due t ((after (made time) ds).clocks n) ≡ true → (outcome (after (made time) ds).timed (due table t buffer)).place ≡ 1

-- of those due that do not expire, none runs on but T310, and that only behind T311: it keeps its deadline, and goes with the next due
abbrev pub OthersStop : Type 0
OthersStop =
    (time : ℕ) (ds : List Turn) (table : List ℕ) (t : ℕ) (buffer : List ℕ) (n : ℕ) →
    AllInReach (made time) ds →
    InReach (after (made time) ds) (due table t buffer) →
    (outcome (after (made time) ds).timed (due table t buffer)).answer ≡ 0 →
    (outcome (after (made time) ds).timed (due table t buffer)).place ≡ 1 →
    is_due t ((then (after (made time) ds) (due table t buffer)).clocks n) ≡ true →
    (first_due (after (made time) ds).timed (shown t) ≡ 311)
    × (n ≡ 310)
    × ((then (after (made time) ds) (due table t buffer)).clocks n ≡ (after (made time) ds).clocks n)

-- the true times at which due makes the expiry of a timer in some turns
unfoldable pub expiries : ℕ → Kept → List Turn → List ℕ
expiries n k [] = []
expiries n k (step table time event buffer ∷ ds) = expiries n (then k (step table time event buffer)) ds
expiries n k (due table time buffer ∷ ds) =
    cond (is_taken k.timed (due table time buffer) && (eqb (outcome k.timed (due table time buffer)).place 1 && eqb (first_due k.timed (shown time)) n)) (time ∷ []) []
    ++ expiries n (then k (due table time buffer)) ds

-- and those at which due is answered with 0 and makes the expiry of no other
unfoldable pub dues : ℕ → Kept → List Turn → List ℕ
dues n k [] = []
dues n k (step table time event buffer ∷ ds) = dues n (then k (step table time event buffer)) ds
dues n k (due table time buffer ∷ ds) =
    cond (is_taken k.timed (due table time buffer) && not (eqb (outcome k.timed (due table time buffer)).place 1 && not (eqb (first_due k.timed (shown time)) n))) (time ∷ []) []
    ++ dues n (then k (due table time buffer)) ds

-- no turn stops a timer or starts it anew
abbrev pub NotOrdered : ℕ → Kept → List Turn → Type 0
NotOrdered n k [] = Unit {0}
NotOrdered n k (d ∷ ds) = (ordered n (written_by k.timed d) ≡ false) × NotOrdered n (then k d) ds

-- a timer that is neither stopped nor started anew expires at the first due at or after its deadline at which no other expires, once, and at no
-- other time
abbrev pub OnTime : Type 0
OnTime =
    (time : ℕ) (ds es : List Turn) (n : ℕ) (x : Begun) →
    AllInReach (made time) ds →
    AllInReach (after (made time) ds) es →
    (after (made time) ds).clocks n ≡ some x →
    NotOrdered n (after (made time) ds) es →
    expiries n (after (made time) ds) es ≡ first_from (end x) (dues n (after (made time) ds) es)

-- (b) and at one reading at most two expire: after two no third does
abbrev pub Expires : Kept → Turn → Type 0
Expires k d = ((outcome k.timed d).answer ≡ 0) × ((outcome k.timed d).place ≡ 1)

abbrev pub AtMostTwo : Type 0
AtMostTwo =
    (time : ℕ) (ds : List Turn) (a b c : List ℕ) (t : ℕ) (x y z : List ℕ) →
    AllInReach (made time) ds →
    AllInReach (after (made time) ds) (due a t x ∷ due b t y ∷ due c t z ∷ []) →
    Expires (after (made time) ds) (due a t x) →
    Expires (then (after (made time) ds) (due a t x)) (due b t y) →
    Expires (then (then (after (made time) ds) (due a t x)) (due b t y)) (due c t z) → ⊥

-- (d) plane 1 only while T311's last START is less than its length ago, at the last accepted reading
abbrev pub OnAir : Type 0
OnAir =
    (time : ℕ) (ds : List Turn) →
    AllInReach (made time) ds →
    (after (made time) ds).timed.call.plane ≡ 1 →
    (x : Begun) × ((after (made time) ds).clocks 311 ≡ some x) × ((after (made time) ds).last < x.at + x.long)

-- (d) and (e) In the silence of the network

-- no event of the network is taken
abbrev pub Silent : Kept → List Turn → Type 0
Silent k [] = Unit {0}
Silent k (d ∷ ds) = (has_word (taken_by k.timed d) ≡ false) × Silent (then k d) ds

-- nor is another call asked for
abbrev pub asks_anew : List Event → Bool
asks_anew [] = false
asks_anew (e ∷ es) = eqb (flat events e).kind 0x0101 || asks_anew es

abbrev pub NoneAsked : Kept → List Turn → Type 0
NoneAsked k [] = Unit {0}
NoneAsked k (d ∷ ds) = (asks_anew (taken_by k.timed d) ≡ false) × NoneAsked (then k d) ds

-- a host that keeps time: an accepted reading is at most G after the last; where it is later, due had been called at the last until nothing was
-- due; and T308 is given at most L
pub record Punctual (G L : ℕ) (k : Kept) (d : Turn) : Type 0 where
  pub gap : is_taken k.timed d ≡ true → time_of d ≤ k.last + G
  pub settled : is_taken k.timed d ≡ true → k.last < time_of d → (n : ℕ) → is_due k.last (k.clocks n) ≡ false
  pub short : length_in (table_of d) 308 0 ≤ L

abbrev pub AllPunctual : ℕ → ℕ → Kept → List Turn → Type 0
AllPunctual G L k [] = Unit {0}
AllPunctual G L k (d ∷ ds) = Punctual G L k d × AllPunctual G L (then k d) ds

-- and at the last reading of a run too
abbrev pub Settled : Kept → Type 0
Settled k = (n : ℕ) → is_due k.last (k.clocks n) ≡ false

-- (d) a simplex set is off the air at most L311 + G - 1 after the network's last word: whatever user and lower layers do after some turns, with no
-- event of the network, at each time that is less than G after the last accepted reading
abbrev pub OffAir : Type 0
OffAir =
    (time : ℕ) (ds es : List Turn) (long G now : ℕ) →
    AllInReach (made time) ds →
    AllInReach (after (made time) ds) es →
    ((x : Begun) → (after (made time) ds).clocks 311 ≡ some x → x.long ≤ long) →
    Silent (after (made time) ds) es →
    now < (after (after (made time) ds) es).last + G →
    (after (made time) ds).last + long + (G - 1) ≤ now → (after (after (made time) ds) es).timed.call.plane ≡ 1 → ⊥

-- (e) the timers that end a call and that neither the user nor the lower layers touch
abbrev pub ends_call : ℕ → Bool
ends_call n = eqb n 301 || (eqb n 302 || (eqb n 303 || eqb n 310))

-- where one of them runs, up to a time D at the latest, the call is over at D + L308 + 2(G - 1). One that lies counts as due a millisecond later
abbrev pub Outlives : Type 0
Outlives =
    (time : ℕ) (ds es : List Turn) (n D G L now : ℕ) (x : Begun) →
    AllInReach (made time) ds →
    AllInReach (after (made time) ds) es →
    ends_call n ≡ true →
    (after (made time) ds).clocks n ≡ some x →
    end x ≤ D →
    (after (made time) ds).last < D →
    Silent (after (made time) ds) es →
    NoneAsked (after (made time) ds) es →
    AllPunctual G L (after (made time) ds) es →
    Settled (after (after (made time) ds) es) →
    now < (after (after (made time) ds) es).last + G →
    D + L + ((G - 1) + (G - 1)) ≤ now → (after (after (made time) ds) es).timed.call ≡ fresh_call

-- a timer that runs was started at or before the last accepted reading
abbrev pub Started : Type 0
Started =
    (time : ℕ) (ds : List Turn) (n : ℕ) (x : Begun) →
    AllInReach (made time) ds → (after (made time) ds).clocks n ≡ some x → x.at ≤ (after (made time) ds).last

-- so a call with a limit outlives its network by at most L310[code] + L308 + 2(G - 1): from the reading at which the network's last word was
-- taken, whatever user and lower layers do
abbrev pub OutlivesNetwork : Type 0
OutlivesNetwork =
    (time : ℕ) (ds es : List Turn) (long G L now : ℕ) (x : Begun) →
    AllInReach (made time) ds →
    AllInReach (after (made time) ds) es →
    (after (made time) ds).clocks 310 ≡ some x →
    x.long ≤ long →
    1 ≤ long →
    Silent (after (made time) ds) es →
    NoneAsked (after (made time) ds) es →
    AllPunctual G L (after (made time) ds) es →
    Settled (after (after (made time) ds) es) →
    now < (after (after (made time) ds) es).last + G →
    (after (made time) ds).last + long + L + ((G - 1) + (G - 1)) ≤ now → (after (after (made time) ds) es).timed.call ≡ fresh_call

-- in silence of all only due is called
abbrev pub only_due : List Turn → Bool
only_due [] = true
only_due (step table time event buffer ∷ ds) = false
only_due (due table time buffer ∷ ds) = only_due ds

-- then T306 ends a call too
abbrev pub InSilence : Type 0
InSilence =
    (time : ℕ) (ds es : List Turn) (n D G L now : ℕ) (x : Begun) →
    AllInReach (made time) ds →
    AllInReach (after (made time) ds) es →
    (ends_call n || eqb n 306) ≡ true →
    (after (made time) ds).clocks n ≡ some x →
    end x ≤ D →
    (after (made time) ds).last < D →
    only_due es ≡ true →
    AllPunctual G L (after (made time) ds) es →
    Settled (after (after (made time) ds) es) →
    now < (after (after (made time) ds) es).last + G →
    D + L + ((G - 1) + (G - 1)) ≤ now → (after (after (made time) ds) es).timed.call ≡ fresh_call

-- and a call that is being ended is over at T308's deadline + G - 1, in silence of the network too
abbrev pub Closes : Type 0
Closes =
    (time : ℕ) (ds es : List Turn) (G L now : ℕ) (y : Begun) →
    AllInReach (made time) ds →
    AllInReach (after (made time) ds) es →
    (after (made time) ds).clocks 308 ≡ some y →
    Silent (after (made time) ds) es →
    NoneAsked (after (made time) ds) es →
    AllPunctual G L (after (made time) ds) es →
    Settled (after (after (made time) ds) es) →
    now < (after (after (made time) ds) es).last + G →
    end y + (G - 1) ≤ now → (after (after (made time) ds) es).timed.call ≡ fresh_call

-- what is left at rest, where no timer runs, is exactly: fresh; or it rings; or it is connected without a limit, with the path up in another
-- plane than 1, or broken; or it pauses without a limit
pub data Rests (c : Call) : Type 0 where
  over : c ≡ fresh_call → Rests c
  rings : c.state ≡ State.MtCallSetup → runs c T301 ≡ false → Rests c
  talks : c.state ≡ State.CallActive → c.code ≡ 0 → (c.plane ≡ 1 → ⊥) → (c.path ≡ Path.Restoring → ⊥) → Rests c
  pauses : c.state ≡ State.Wait → c.code ≡ 0 → Rests c

-- where T311 alone runs, the set is at rest at its deadline + G - 1
abbrev pub LoneRests : Type 0
LoneRests =
    (time : ℕ) (ds es : List Turn) (G now : ℕ) (x : Begun) →
    AllInReach (made time) ds →
    AllInReach (after (made time) ds) es →
    (after (made time) ds).clocks 311 ≡ some x →
    ((n : ℕ) → (n ≡ 311 → ⊥) → (after (made time) ds).clocks n ≡ none) →
    only_due es ≡ true →
    Settled (after (after (made time) ds) es) →
    now < (after (after (made time) ds) es).last + G →
    end x + (G - 1) ≤ now → Rests (after (after (made time) ds) es).timed.call

-- and where none runs, it rests for ever
abbrev pub RestsForEver : Type 0
RestsForEver =
    (time : ℕ) (ds es : List Turn) →
    AllInReach (made time) ds →
    AllInReach (after (made time) ds) es →
    ((n : ℕ) → (after (made time) ds).clocks n ≡ none) →
    only_due es ≡ true → (after (after (made time) ds) es).timed.call ≡ (after (made time) ds).timed.call

-- a host that calls due until nothing is due meets the last part of the premise by the others
abbrev pub NearForNothing : Type 0
NearForNothing = (k : Kept) (d : Turn) → Settled k → k.last ≤ time_of d → time_of d < k.last + 2147483648 → InReach k d

-- none of the seven runs
abbrev pub none_runs : List Bool
none_runs = false ∷ false ∷ false ∷ false ∷ false ∷ false ∷ false ∷ []

abbrev pub AtRest : Type 0
AtRest = (reading : ℕ) (ds : List Turn) → (run (new_of reading) ds).bank.running ≡ none_runs → Rests (run (new_of reading) ds).call

abbrev pub RestsExactly : Type 0
RestsExactly = (reading : ℕ) (ds : List Turn) → Rests (run (new_of reading) ds).call → (run (new_of reading) ds).bank.running ≡ none_runs
