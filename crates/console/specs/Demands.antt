-- What holds of every run of the console from eight fresh records, and some of it of every table, as types. proofs/Demands, Answering, Heard, Timers and EachPlace have a proof of each.
use Rattle.std.specs.Prelude.{ℕ, ◌<◌, ◌≤◌, ◌≡◌, Bool, true, false, not, List, [], ◌∷◌, ◌++◌, length, take}
use Rattle.std.proofs.Math.Option.{some}
use Rattle.std.proofs.lemmas.List.Edits.{sets}
use Rattle.records.specs.declared.events.Event.{Event}
use Rattle.records.specs.declared.events.Event.TheVariants.{ReleaseRequest, DInfo, Break, Resume, DCallRestore, Expiry}
use Rattle.records.specs.declared.messages.Message.{Message}
use Rattle.records.specs.Tables.{taken, refused, read, fine}
use Rattle.records.specs.Events.{events}
use Rattle.records.specs.Messages.{messages}
use Rattle.callcontrol.specs.declared.call.State.{State}
use Rattle.callcontrol.specs.declared.call.Path.{Path}
use Rattle.callcontrol.specs.declared.call.Call.{Call}
use Rattle.callcontrol.specs.Call.{fresh_call, is_idle, runs, transmits, T302}
use Rattle.callcontrol.specs.Writing.{bytes_of}
use Rattle.demands.specs.Runs.{Turn, outcome, run, taken_by, taken_in, written_in, every?, told, ends, is_u_disconnect, is_u_release, is_u_info}
use Rattle.demands.specs.Clocks.{log_in, running_by, runs_by}
use Rattle.demands.specs.History.{plane_by_history, id_by_history, slots_by_history, carry_none}
use Rattle.demands.specs.Demands.{Reads, Restoration, quiet, timers_in, one_call, count, OnlyDue, AtRest, limits}
use Rattle.console.specs.declared.route.Aim.{Aim}
use Rattle.console.specs.Table.{call_at, fresh_table, some?, table_sound}
use Rattle.console.specs.Route.{Route, aim_of, route_of}
use Rattle.console.specs.Console.{refuses_at, refuses, takes, writes_from, next_of}
use Rattle.console.specs.Runs.{ConsoleTurn, console_outcome, console_next, console_run, lent_behind, went_to, went_in, framed, heard_in}

-- the table after a run
abbrev pub after : List ConsoleTurn → List Call
after ts = console_run fresh_table ts

-- the record of place k after a run, and the step's turns at k in it
abbrev pub at : ℕ → List ConsoleTurn → Call
at k ts = call_at (after ts) k

abbrev pub turns_at : ℕ → List ConsoleTurn → List Turn
turns_at k ts = went_in k fresh_table ts

-- ---- the table

-- every table of a run is sound
abbrev pub TableSound : Type 0
TableSound = (ts : List ConsoleTurn) → table_sound (after ts) ≡ true

-- so 1 never comes back in a run
abbrev pub NeverUnsound : Type 0
NeverUnsound = (ts : List ConsoleTurn) (t : ConsoleTurn) → (console_outcome (after ts) t).answer ≡ 1 → ⊥

-- no two places ever hold one identifier
abbrev pub NoTwoHold : Type 0
NoTwoHold =
    (ts : List ConsoleTurn) (j k : ℕ) → j < 8 → k < 8 → (j ≡ k → ⊥) → ((at j ts).id ≡ 0 → ⊥) → (at j ts).id ≡ (at k ts).id → ⊥

-- at most one place outside IDLE has none
abbrev pub OneAwaits : Type 0
OneAwaits =
    (ts : List ConsoleTurn) (j k : ℕ) → j < 8 → k < 8 → (j ≡ k → ⊥) →
    is_idle (at j ts) ≡ false → is_idle (at k ts) ≡ false → (at j ts).id ≡ 0 → (at k ts).id ≡ 0 → ⊥

-- a refusal counts 0 bytes, changes no byte and gives every record back
abbrev pub Refused : Type 0
Refused =
    (calls : List Call) (t : ConsoleTurn) (n : ℕ) → (console_outcome calls t).answer ≡ n → (n ≡ 0 → ⊥) →
    console_outcome calls t ≡ refuses_at n (console_outcome calls t).place calls t.buffer

-- where the bytes are no event, a sound table gets the reader's number, and with 4 its place, of which records' Laws say what it is
abbrev pub Placed : Type 0
Placed =
    (calls : List Call) (t : ConsoleTurn) (n p : ℕ) → table_sound calls ≡ true → read events t.event ≡ refused n p →
    console_outcome calls t ≡ refuses_at n p calls t.buffer

-- and only 4 comes with a place
abbrev pub PlaceOnlyWithFour : Type 0
PlaceOnlyWithFour = (calls : List Call) (t : ConsoleTurn) → ((console_outcome calls t).answer ≡ 4 → ⊥) → (console_outcome calls t).place ≡ 0

-- an event for one place leaves every other record unchanged
abbrev pub OthersStay : Type 0
OthersStay =
    (calls : List Call) (t : ConsoleTurn) (e : Event) (j k : ℕ) → read events t.event ≡ taken e → route_of calls t.place e ≡ Route.To j →
    (k ≡ j → ⊥) → call_at (console_next calls t) k ≡ call_at calls k

-- BREAK and RESUME: 6 where no place would take them; else every place that would takes them or, for lack of room, none does
pub data Reached (calls : List Call) (t : ConsoleTurn) (e : Event) : Type 0 where
  by_nobody : some? (takes e) calls ≡ false → console_outcome calls t ≡ refuses 6 calls t.buffer → Reached calls t e
  none_for_room : some? (takes e) calls ≡ true → length t.buffer < length (bytes_of (writes_from 0 calls e)) → console_outcome calls t ≡ refuses 7 calls t.buffer → Reached calls t e
  all_take : some? (takes e) calls ≡ true → (console_outcome calls t).answer ≡ 0 → ((k : ℕ) → k < 8 → call_at (console_next calls t) k ≡ next_of e (call_at calls k)) → Reached calls t e

abbrev pub AllOrNone : Type 0
AllOrNone = (calls : List Call) (t : ConsoleTurn) (e : Event) → table_sound calls ≡ true → read events t.event ≡ taken e → aim_of e ≡ Aim.Every → Reached calls t e

-- ---- each place: its record and its messages are those of the step's run over the events that went to it

abbrev pub Records : Type 0
Records = (ts : List ConsoleTurn) (k : ℕ) → k < 8 → at k ts ≡ run fresh_call (turns_at k ts)

-- an event that goes to one place gets the answer of the step there, which is lent what is behind the five bytes of the record 0605
abbrev pub AnswersAt : Type 0
AnswersAt =
    (calls : List Call) (t : ConsoleTurn) (e : Event) (j : ℕ) → table_sound calls ≡ true → read events t.event ≡ taken e →
    route_of calls t.place e ≡ Route.To j → (console_outcome calls t).answer ≡ (outcome (call_at calls j) (lent_behind 0 t)).answer

-- a turn's bytes are what the places write in their turns of the step, each behind its record 0605, places rising
abbrev pub Messages : Type 0
Messages =
    (calls : List Call) (t : ConsoleTurn) →
    ((console_outcome calls t).count ≡ length (bytes_of (framed calls t))) × ((console_outcome calls t).buffer ≡ sets t.buffer 0 (bytes_of (framed calls t)))

-- over a run, what a host reads behind the records 0605 with k is what the step's run over the turns that went there writes
abbrev pub MessagesAt : Type 0
MessagesAt = (ts : List ConsoleTurn) (k : ℕ) → k < 8 → heard_in k fresh_table ts ≡ written_in fresh_call (turns_at k ts)

-- and it can read so: the bytes that a turn counts, of the buffer that it leaves, are record after record the messages of the places and those records
abbrev pub ReadsBack : Type 0
ReadsBack =
    (ts : List ConsoleTurn) (t : ConsoleTurn) →
    Reads (take (console_outcome (after ts) t).count (console_outcome (after ts) t).buffer) (framed (after ts) t)

-- ---- demand 3, for each place

abbrev pub ToldAt : Type 0
ToldAt = (ts : List ConsoleTurn) (k : ℕ) → k < 8 → (told (turns_at k ts) ≡ plane_by_history (taken_in fresh_call (turns_at k ts))) × (told (turns_at k ts) ≡ (at k ts).plane)

-- after a BREAK that place k takes, its U-plane stays off until a D-CALL RESTORE for the identifier held at the cut goes to it and is taken, or its call
-- has ended
abbrev pub CutAt : Type 0
CutAt =
    (ts us : List ConsoleTurn) (t : ConsoleTurn) (k : ℕ) (v : Turn) → k < 8 → went_to k (after ts) t ≡ v ∷ [] → taken_by (at k ts) v ≡ some Break →
    quiet (at k ts).id (at k (ts ++ t ∷ [])) (went_in k (after (ts ++ t ∷ [])) us) ≡ true →
    told (turns_at k (ts ++ t ∷ us)) ≡ 4

-- the call that a D-CALL RESTORE then restores at place k is the call that was cut there
abbrev pub RestoredAt : Type 0
RestoredAt =
    (ts us : List ConsoleTurn) (t w : ConsoleTurn) (k : ℕ) (v x : Turn) (i g r o : ℕ) → k < 8 →
    went_to k (after ts) t ≡ v ∷ [] → taken_by (at k ts) v ≡ some Break →
    quiet (at k ts).id (at k (ts ++ t ∷ [])) (went_in k (after (ts ++ t ∷ [])) us) ≡ true →
    went_to k (after (ts ++ t ∷ us)) w ≡ x ∷ [] → taken_by (at k (ts ++ t ∷ us)) x ≡ some (DCallRestore i g r o) →
    Restoration (at k ts) (at k (ts ++ t ∷ us ++ w ∷ [])) i r o

-- a turn in which the call at place k ends leaves the fresh record there
abbrev pub EndedAt : Type 0
EndedAt =
    (ts : List ConsoleTurn) (t : ConsoleTurn) (k : ℕ) (v : Turn) → k < 8 → went_to k (after ts) t ≡ v ∷ [] → ends (at k ts) v ≡ true →
    at k (ts ++ t ∷ []) ≡ fresh_call

-- and its U-plane off
abbrev pub EndedOffAt : Type 0
EndedOffAt =
    (ts : List ConsoleTurn) (t : ConsoleTurn) (k : ℕ) (v : Turn) → k < 8 → went_to k (after ts) t ≡ v ∷ [] → ends (at k ts) v ≡ true →
    told (turns_at k (ts ++ t ∷ [])) ≡ 4

-- and from any state but IDLE there is no other way to it: no other place's event empties a place
abbrev pub NoOtherEndAt : Type 0
NoOtherEndAt =
    (ts : List ConsoleTurn) (t : ConsoleTurn) (k : ℕ) → k < 8 → is_idle (at k ts) ≡ false → is_idle (at k (ts ++ t ∷ [])) ≡ true →
    (v : Turn) × (went_to k (after ts) t ≡ v ∷ []) × (ends (at k ts) v ≡ true)

-- ---- slots per frame, for each place

-- after the turn in which a call ends they are 1 again
abbrev pub EndedOneSlotAt : Type 0
EndedOneSlotAt =
    (ts : List ConsoleTurn) (t : ConsoleTurn) (k : ℕ) (v : Turn) → k < 8 → went_to k (after ts) t ≡ v ∷ [] → ends (at k ts) v ≡ true →
    (at k (ts ++ t ∷ [])).slots ≡ 1

-- outside IDLE they are what the last of the events taken there to carry some carried, by the taken events alone
abbrev pub SlottedAt : Type 0
SlottedAt = (ts : List ConsoleTurn) (k : ℕ) → k < 8 → is_idle (at k ts) ≡ false → (at k ts).slots ≡ slots_by_history (taken_in fresh_call (turns_at k ts))

-- from an IDLE record on they are 1 for as long as no event taken there carries any
abbrev pub OneSlotAt : Type 0
OneSlotAt =
    (ts us : List ConsoleTurn) (k : ℕ) → k < 8 → is_idle (at k ts) ≡ true → carry_none (taken_in (at k ts) (went_in k (after ts) us)) ≡ true →
    (at k (ts ++ us)).slots ≡ 1

-- ---- in the client's words, for each place

-- in IDLE its record is the fresh one
abbrev pub IdleIsFreshAt : Type 0
IdleIsFreshAt = (ts : List ConsoleTurn) (k : ℕ) → k < 8 → is_idle (at k ts) ≡ true → at k ts ≡ fresh_call

-- outside IDLE its identifier is the one that the network gave to its call, by the events taken there alone
abbrev pub IdentifiedAt : Type 0
IdentifiedAt = (ts : List ConsoleTurn) (k : ℕ) → k < 8 → is_idle (at k ts) ≡ false → (at k ts).id ≡ id_by_history (taken_in fresh_call (turns_at k ts))

-- it transmits (told 1 or 3) only in CALL-ACTIVE with path up, and with that identifier
abbrev pub TransmitsAt : Type 0
TransmitsAt =
    (ts : List ConsoleTurn) (k : ℕ) → k < 8 → transmits (told (turns_at k ts)) ≡ true →
    ((at k ts).state ≡ State.CallActive)
    × ((at k ts).path ≡ Path.Up)
    × ((at k ts).id ≡ id_by_history (taken_in fresh_call (turns_at k ts)))
    × ((at k ts).id ≡ 0 → ⊥)

-- every message that is read for it has each field in its range
abbrev pub WrittenInRangeAt : Type 0
WrittenInRangeAt = (ts : List ConsoleTurn) (k : ℕ) → k < 8 → every? (λ m. fine messages m) (heard_in k fresh_table ts) ≡ true

-- and is not U-INFO
abbrev pub NoUInfoAt : Type 0
NoUInfoAt = (ts : List ConsoleTurn) (k : ℕ) → k < 8 → every? (λ m. not (is_u_info m)) (heard_in k fresh_table ts) ≡ true

-- ---- how much room to lend: all or none means that a host that lends less can get 7 for ever

-- an event for one place: the step's 32 bytes, behind the five of the record that names the place
abbrev pub PlaceRoom : Type 0
PlaceRoom =
    (ts : List ConsoleTurn) (t : ConsoleTurn) (e : Event) (j : ℕ) → read events t.event ≡ taken e → route_of (after ts) t.place e ≡ Route.To j →
    (console_outcome (after ts) t).count ≤ 37

abbrev pub BreakRoom : Type 0
BreakRoom = (ts : List ConsoleTurn) (t : ConsoleTurn) → read events t.event ≡ taken Break → (console_outcome (after ts) t).count ≤ 128

abbrev pub ResumeRoom : Type 0
ResumeRoom = (ts : List ConsoleTurn) (t : ConsoleTurn) → read events t.event ≡ taken Resume → (console_outcome (after ts) t).count ≤ 184

-- and it is enough: where it is lent, 7 never comes back in a run
abbrev pub PlaceEnough : Type 0
PlaceEnough =
    (ts : List ConsoleTurn) (t : ConsoleTurn) (e : Event) (j : ℕ) → read events t.event ≡ taken e → route_of (after ts) t.place e ≡ Route.To j →
    37 ≤ length t.buffer → (console_outcome (after ts) t).answer ≡ 7 → ⊥

abbrev pub BreakEnough : Type 0
BreakEnough =
    (ts : List ConsoleTurn) (t : ConsoleTurn) → read events t.event ≡ taken Break → 128 ≤ length t.buffer → (console_outcome (after ts) t).answer ≡ 7 → ⊥

-- 184 for any event
abbrev pub Enough : Type 0
Enough = (ts : List ConsoleTurn) (t : ConsoleTurn) → 184 ≤ length t.buffer → (console_outcome (after ts) t).answer ≡ 7 → ⊥

-- ---- request 10, for each place

-- the timers that run by what a place wrote and the expiries that it took are those in its record
abbrev pub TimersByMessagesAt : Type 0
TimersByMessagesAt = (ts : List ConsoleTurn) (k : ℕ) → k < 8 → running_by (log_in fresh_call (turns_at k ts)) ≡ (at k ts).timers

-- which are those of its state
abbrev pub TimersAt : Type 0
TimersAt = (ts : List ConsoleTurn) (k : ℕ) → k < 8 → (at k ts).timers ≡ timers_in (at k ts).state (at k ts)

-- T302 only once U-SETUP is known to be sent
abbrev pub SentBeforeT302At : Type 0
SentBeforeT302At = (ts : List ConsoleTurn) (k : ℕ) → k < 8 → runs (at k ts) T302 ≡ true → (at k ts).sent ≡ 0 → ⊥

-- and none runs in IDLE
abbrev pub NoneInIdleAt : Type 0
NoneInIdleAt = (ts : List ConsoleTurn) (k : ℕ) → k < 8 → is_idle (at k ts) ≡ true → running_by (log_in fresh_call (turns_at k ts)) ≡ running_by []

-- one call writes at most one U-DISCONNECT and at most one U-RELEASE
abbrev pub AtMostOneAt : (Message → Bool) → Type 0
AtMostOneAt p =
    (ts us : List ConsoleTurn) (k : ℕ) → k < 8 → one_call (at k ts) (went_in k (after ts) us) ≡ true → count p (written_in (at k ts) (went_in k (after ts) us)) ≤ 1

abbrev pub OneUDisconnectAt : Type 0
OneUDisconnectAt = AtMostOneAt is_u_disconnect

abbrev pub OneUReleaseAt : Type 0
OneUReleaseAt = AtMostOneAt is_u_release

-- a RELEASE request and then an expiry of T308 that name a place, each taken or refused, leave the fresh record there, if 37 bytes are lent to both and
-- no turn between them goes there
abbrev pub ReleaseLeavesFreshAt : Type 0
ReleaseLeavesFreshAt =
    (ts us : List ConsoleTurn) (t u : ConsoleTurn) → t.place < 8 → u.place ≡ t.place →
    read events t.event ≡ taken ReleaseRequest →
    went_in t.place (after (ts ++ t ∷ [])) us ≡ [] →
    read events u.event ≡ taken (Expiry 308) →
    37 ≤ length t.buffer → 37 ≤ length u.buffer → at t.place (ts ++ t ∷ (us ++ u ∷ [])) ≡ fresh_call

-- an expiry that comes late, of a timer that does not run by the messages of the place that it names, is refused with 6 and changes nothing
abbrev pub LateExpiryAt : Type 0
LateExpiryAt =
    (ts : List ConsoleTurn) (t : ConsoleTurn) (n : ℕ) → t.place < 8 →
    read events t.event ≡ taken (Expiry n) →
    runs_by (log_in fresh_call (turns_at t.place ts)) n ≡ false → console_outcome (after ts) t ≡ refuses 6 (after ts) t.buffer

-- and an expiry of one that runs by them is always taken where 37 bytes are lent
abbrev pub DueExpiryAt : Type 0
DueExpiryAt =
    (ts : List ConsoleTurn) (t : ConsoleTurn) (n : ℕ) → t.place < 8 →
    read events t.event ≡ taken (Expiry n) →
    runs_by (log_in fresh_call (turns_at t.place ts)) n ≡ true → 37 ≤ length t.buffer → (console_outcome (after ts) t).answer ≡ 0

-- ---- calls end by their timers alone, T310 code 0, D-INFO over the own transmission: for each place

-- of the turns that go to a place, in each of which an expiry of a timer that runs by its messages is handed in, there are at most three
abbrev pub AtMostThreeDueAt : Type 0
AtMostThreeDueAt =
    (ts us : List ConsoleTurn) (k : ℕ) → OnlyDue (turns_at k ts) (went_in k (after ts) us) → length (went_in k (after ts) us) ≤ 3

-- and after three none runs there
abbrev pub NoneAfterThreeAt : Type 0
NoneAfterThreeAt =
    (ts us : List ConsoleTurn) (k : ℕ) → OnlyDue (turns_at k ts) (went_in k (after ts) us) → length (went_in k (after ts) us) ≡ 3 →
    running_by (log_in fresh_call (turns_at k (ts ++ us))) ≡ running_by []

-- where none runs the place is fresh, rings, or is connected without a limit
abbrev pub NoneRunsAt : Type 0
NoneRunsAt = (ts : List ConsoleTurn) (k : ℕ) → k < 8 → running_by (log_in fresh_call (turns_at k ts)) ≡ running_by [] → AtRest (at k ts)

-- no place starts T310 with code 0
abbrev pub StartsWithLimitAt : Type 0
StartsWithLimitAt = (ts : List ConsoleTurn) (k : ℕ) → k < 8 → every? limits (heard_in k fresh_table ts) ≡ true

-- and where it holds code 0 an expiry of T310 is refused with 6 and changes nothing
abbrev pub NoLimitNoExpiryAt : Type 0
NoLimitNoExpiryAt =
    (ts : List ConsoleTurn) (t : ConsoleTurn) → t.place < 8 →
    (at t.place ts).code ≡ 0 → read events t.event ≡ taken (Expiry 310) → console_outcome (after ts) t ≡ refuses 6 (after ts) t.buffer

-- while a place transmits, no turn takes D-INFO there
abbrev pub NoInfoOverSpeechAt : Type 0
NoInfoOverSpeechAt =
    (ts : List ConsoleTurn) (t : ConsoleTurn) (k : ℕ) (v : Turn) (i r o d s : ℕ) → k < 8 →
    transmits (told (turns_at k ts)) ≡ true →
    went_to k (after ts) t ≡ v ∷ [] → taken_by (at k ts) v ≡ some (DInfo i r o d s) → ⊥
