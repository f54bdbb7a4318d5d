-- What the client bought: the three demands over every run, as types. proofs/Demands.antt has a proof of each.
use Rattle.std.specs.Prelude.{ℕ, ◌+◌, ◌≤◌, ◌≡◌, Bool, true, false, cond, not, ◌&&◌, List, [], ◌∷◌, ◌++◌, leb, eqb, length, take, drop, get_or}
use Rattle.std.proofs.Math.Option.{Option, none, some}
use Rattle.std.proofs.lemmas.List.Edits.{sets}
use Rattle.records.specs.declared.events.Event.{Event}
use Rattle.records.specs.declared.events.Event.TheVariants.{SetupRequest, SetupResponse, ReleaseRequest, TxRequest, DCallProceeding, DAlert, DConnect, DConnectAcknowledge, DSetup, DInfo, DTxGranted, DTxCeased, DTxInterrupt, DTxWait, DTxContinue, DCallRestore, DDisconnect, DRelease, ReportSent, ReportFailed, Break, Resume, Expiry}
use Rattle.records.specs.declared.messages.Message.{Message}
use Rattle.records.specs.Bytes.{number}
use Rattle.records.specs.Letters.{Letter}
use Rattle.records.specs.Bodies.{Values, size, numbers_at, all_fit}
use Rattle.records.specs.Tables.{Read, taken, refused, listed, known, find, read, flat, fine}
use Rattle.records.specs.Laws.{missing, numbers}
use Rattle.records.specs.Events.{EventKind, event_row, events}
use Rattle.records.specs.Messages.{messages}
use Rattle.callcontrol.specs.declared.call.State.{State}
use Rattle.callcontrol.specs.declared.call.Path.{Path}
use Rattle.callcontrol.specs.declared.call.Call.{Call}
use Rattle.callcontrol.specs.Call.{fresh_call, sound, path_number, runs, transmits, is_idle, T301, T302, T310}
use Rattle.callcontrol.specs.Rows.{row_for}
use Rattle.callcontrol.specs.Writing.{messages_in, bytes_of}
use Rattle.callcontrol.specs.Step.{refusal, refusal_at, step_of, other_call, over_transmission}
use Rattle.demands.specs.Runs.{Turn, outcome, next, run, taken_by, taken_in, written_by, written_in, every?, is_u_disconnect, is_u_release, is_u_info, told, ends}
use Rattle.demands.specs.Examples.{turn, setup_request, d_connect}
use Rattle.demands.specs.Clocks.{log_in, running_by, runs_by}
use Rattle.demands.specs.History.{plane_by_history, id_by_history, slots_by_history, carry_none}

-- Demand 1: every turn gets an answer, the first that applies in the order 1 2 3 9 4 5 6 8 7; a refusal writes no byte and gives the record back

-- 2: under 4 bytes, or a length field that differs from the bytes
unfoldable pub wrong_length : List ℕ → Bool
wrong_length bytes = not (leb 4 (length bytes) && eqb (number 2 bytes 0) (length bytes))

-- 3: the kind's number stands in no line of the table of events, nor among the retired ones
unfoldable pub no_kind : List ℕ → Bool
no_kind bytes = missing (number 2 bytes 2) (numbers events) && not (listed (number 2 bytes 2) events.retired)

-- 9: it stands among the retired ones
unfoldable pub retired_kind : List ℕ → Bool
retired_kind bytes = listed (number 2 bytes 2) events.retired

-- 4: no line of the kind's number has the size of the body, or a field is out of its letter's range
unfoldable pub body_fits : EventKind → List ℕ → Bool
body_fits k bytes =
    eqb (length bytes) (4 + size (event_row k).letters) && all_fit (event_row k).letters (numbers_at (event_row k).letters bytes 4)

abbrev pub of_kind : (EventKind → Bool) → Option EventKind → Bool
of_kind p none = false
of_kind p (some k) = p k

unfoldable pub bad_body : List ℕ → Bool
bad_body bytes =
    known events (number 2 bytes 2) events.kinds
    && not (of_kind (λ k. body_fits k bytes) (find events (number 2 bytes 2) (length bytes) events.kinds))

abbrev pub of_event : (Event → Bool) → Read Event → Bool
of_event p (taken e) = p e
of_event p (refused m place) = false

-- where each answer of the paper's table applies, each told without a look at those before it; 5, 6, 7 and 8 speak of an event, so of bytes
-- that are one
unfoldable pub applies : ℕ → Call → List ℕ → List ℕ → Bool
applies n c bytes buffer =
    cond (eqb n 1) (not (sound c))
    (cond (eqb n 2) (wrong_length bytes)
    (cond (eqb n 3) (no_kind bytes)
    (cond (eqb n 4) (bad_body bytes)
    (cond (eqb n 5) (of_event (λ e. other_call c e) (read events bytes))
    (cond (eqb n 6) (of_event (λ e. not (row_for c e).taken) (read events bytes))
    (cond (eqb n 7) (of_event (λ e. not (leb (length (bytes_of (messages_in (row_for c e)))) (length buffer))) (read events bytes))
    (cond (eqb n 8) (of_event (λ e. over_transmission c e) (read events bytes))
    (cond (eqb n 9) (retired_kind bytes) false))))))))

-- the first of some numbers that applies, 0 if none does
abbrev pub first : (ℕ → Bool) → List ℕ → ℕ
first p [] = 0
first p (n ∷ ns) = cond (p n) n (first p ns)

-- every record, every byte string and every buffer gets the first number that applies, 9 after 3 and before 4, 8 after 6 and before 7, and 0
-- where none does
abbrev pub Answered : Type 0
Answered =
    (c : Call) (bytes buffer : List ℕ) →
    (step_of c bytes buffer).answer ≡ first (λ n. applies n c bytes buffer) (1 ∷ 2 ∷ 3 ∷ 9 ∷ 4 ∷ 5 ∷ 6 ∷ 8 ∷ 7 ∷ [])

-- a refusal counts 0 bytes, changes no byte and gives the record back
abbrev pub Refused : Type 0
Refused =
    (c : Call) (bytes buffer : List ℕ) (n : ℕ) →
    (step_of c bytes buffer).answer ≡ n → (n ≡ 0 → ⊥) → step_of c bytes buffer ≡ refusal_at n (step_of c bytes buffer).place c buffer

-- with 4 a sound record gets the reader's place, of which records' Laws say what it is
abbrev pub Placed : Type 0
Placed =
    (c : Call) (bytes buffer : List ℕ) (n place : ℕ) →
    sound c ≡ true → read events bytes ≡ refused n place → step_of c bytes buffer ≡ refusal_at n place c buffer

-- and every other answer has place 0
abbrev pub PlaceOnlyWithFour : Type 0
PlaceOnlyWithFour = (c : Call) (bytes buffer : List ℕ) → ((step_of c bytes buffer).answer ≡ 4 → ⊥) → (step_of c bytes buffer).place ≡ 0

-- a list of the logic may have any length; the record's array has seven timers
abbrev pub sized : Call → Type 0
sized c = length c.timers ≡ 7

-- a sound record with as many timers as the array
pub record Kept (c : Call) : Type 0 where
  pub size : sized c
  pub meets : sound c ≡ true

-- the fresh record is sound
abbrev pub FreshIsSound : Type 0
FreshIsSound = Kept fresh_call

-- a row gives a sound record from a sound one
abbrev pub KeepsSound : Type 0
KeepsSound = (c : Call) (e : Event) → Kept c → fine events e ≡ true → Kept (row_for c e).call

-- every step from a sound record gives a sound one, whatever bytes come and whatever is lent
abbrev pub StepKeepsSound : Type 0
StepKeepsSound = (c : Call) (bytes buffer : List ℕ) → Kept c → Kept (step_of c bytes buffer).call

-- every record of a run is sound
abbrev pub Sound : Type 0
Sound = (ts : List Turn) → sound (run fresh_call ts) ≡ true

-- so 1 never comes back in a run
abbrev pub NeverUnsound : Type 0
NeverUnsound = (ts : List Turn) (t : Turn) → (outcome (run fresh_call ts) t).answer ≡ 1 → ⊥

-- Demand 2: what is taken gives the record and the bytes of the rows

-- the answer 0 says that an event was taken
abbrev pub Zero : Type 0
Zero = (c : Call) (t : Turn) → (outcome c t).answer ≡ 0 → (e : Event) × (taken_by c t ≡ some e)

abbrev pub Taken : Type 0
Taken =
    (c : Call) (t : Turn) (e : Event) →
    taken_by c t ≡ some e →
    (read events t.event ≡ taken e)
    × (next c t ≡ (row_for c e).call)
    × ((outcome c t).count ≡ length (bytes_of (written_by c t)))
    × ((outcome c t).buffer ≡ sets t.buffer 0 (bytes_of (written_by c t)))

-- every message that a step from a sound record writes has each field in its range, and so every message of a run
abbrev pub StepInRange : Type 0
StepInRange = (c : Call) (t : Turn) → Kept c → every? (λ m. fine messages m) (written_by c t) ≡ true

abbrev pub WrittenInRange : Type 0
WrittenInRange = (ts : List Turn) → every? (λ m. fine messages m) (written_in fresh_call ts) ≡ true

-- no step from a sound record writes U-INFO
abbrev pub NoUInfo : Type 0
NoUInfo = (c : Call) (t : Turn) → Kept c → every? (λ m. not (is_u_info m)) (written_by c t) ≡ true

-- some bytes are, record after record, some messages: as many bytes as the length at the front says are read as the first, the rest as
-- the others
abbrev pub Reads : List ℕ → List Message → Type 0
Reads bytes [] = bytes ≡ []
Reads bytes (m ∷ ms) = (read messages (take (number 2 bytes 0) bytes) ≡ taken m) × Reads (drop (number 2 bytes 0) bytes) ms

-- what a step from a sound record writes reads back: the bytes that it counts, of the buffer that it leaves, are the messages of its row
abbrev pub ReadsBack : Type 0
ReadsBack = (c : Call) (t : Turn) → Kept c → Reads (take (outcome c t).count (outcome c t).buffer) (written_by c t)

-- How large a buffer to lend

-- the timers that run in a reached record: 301 302 303 306 308 310 311. IDLE none; MO-CALL-SETUP one of T302 and T303; MT-CALL-SETUP at most T301;
-- CALL-ACTIVE T310 exactly where the held code is not 0, beside it T306 exactly while restoring and T311 exactly in plane 1; WAIT T310 likewise;
-- CALL-DISCONNECT T308
unfoldable pub timers_in : State → Call → List Bool
timers_in State.Idle c = false ∷ false ∷ false ∷ false ∷ false ∷ false ∷ false ∷ []
timers_in State.MoCallSetup c = false ∷ runs c T302 ∷ not (runs c T302) ∷ false ∷ false ∷ false ∷ false ∷ []
timers_in State.MtCallSetup c = runs c T301 ∷ false ∷ false ∷ false ∷ false ∷ false ∷ false ∷ []
timers_in State.CallActive c = false ∷ false ∷ false ∷ eqb (path_number c.path) 2 ∷ false ∷ not (eqb c.code 0) ∷ eqb c.plane 1 ∷ []
timers_in State.Wait c = false ∷ false ∷ false ∷ false ∷ false ∷ not (eqb c.code 0) ∷ false ∷ []
timers_in State.CallDisconnect c = false ∷ false ∷ false ∷ false ∷ true ∷ false ∷ false ∷ []

abbrev pub Timers : Type 0
Timers = (ts : List Turn) → (run fresh_call ts).timers ≡ timers_in (run fresh_call ts).state (run fresh_call ts)

-- and T302 only once U-SETUP is known to be sent
abbrev pub SentBeforeT302 : Type 0
SentBeforeT302 = (ts : List Turn) → runs (run fresh_call ts) T302 ≡ true → (run fresh_call ts).sent ≡ 0 → ⊥

-- no turn of a run counts more than 32 bytes, whatever is handed in and lent
abbrev pub AtMost32 : Type 0
AtMost32 = (ts : List Turn) (t : Turn) → (outcome (run fresh_call ts) t).count ≤ 32

-- and one counts as many: D-CONNECT with grant 0 after a SETUP request, where 32 are lent
abbrev pub Writes32 : Type 0
Writes32 = (outcome (run fresh_call (turn setup_request 64 ∷ [])) (turn d_connect 32)).count ≡ 32

-- so 7 never comes back in a run where 32 are lent
abbrev pub Enough32 : Type 0
Enough32 = (ts : List Turn) (t : Turn) → 32 ≤ length t.buffer → (outcome (run fresh_call ts) t).answer ≡ 7 → ⊥

-- a step from any sound record, in reach or not, counts at most 52
abbrev pub AtMost52 : Type 0
AtMost52 = (c : Call) (t : Turn) → Kept c → (outcome c t).count ≤ 52

-- and one such record reaches it, out of reach of a run: plane 1 with every timer but T306 running, where D-DISCONNECT stops six
abbrev pub widest : Call
widest =
    record {
      state = State.CallActive;
      id = 21;
      address = 0;
      mode = 0;
      asked = 0;
      sent = 0;
      path = Path.Up;
      plane = 1;
      kept = 4;
      code = 3;
      slots = 1;
      timers = true ∷ true ∷ true ∷ false ∷ true ∷ true ∷ true ∷ [];
    }

abbrev pub Writes52 : Type 0
Writes52 = Kept widest × ((outcome widest (turn (6 ∷ 0 ∷ 13 ∷ 2 ∷ 21 ∷ 0 ∷ []) 52)).count ≡ 52)

-- Demand 3, told: what the lower layers were last told is what the history rule reads from the taken events alone, and is the plane of the record

abbrev pub Told : Type 0
Told = (ts : List Turn) → (told ts ≡ plane_by_history (taken_in fresh_call ts)) × (told ts ≡ (run fresh_call ts).plane)

-- Demand 3, cut: after a taken BREAK, anywhere in any run, the U-plane stays off until a D-CALL RESTORE for the identifier held at the cut is
-- taken or the call has ended

abbrev pub restores_in : ℕ → Option Event → Bool
restores_in i none = false
restores_in i (some (SetupRequest a d q s)) = false
restores_in i (some SetupResponse) = false
restores_in i (some ReleaseRequest) = false
restores_in i (some (TxRequest k)) = false
restores_in i (some (DCallProceeding j)) = false
restores_in i (some (DAlert j)) = false
restores_in i (some (DConnect j g d o s)) = false
restores_in i (some (DConnectAcknowledge j g o)) = false
restores_in i (some (DSetup j a d)) = false
restores_in i (some (DInfo j r o d s)) = false
restores_in i (some (DTxGranted j g)) = false
restores_in i (some (DTxCeased j)) = false
restores_in i (some (DTxInterrupt j g)) = false
restores_in i (some (DTxWait j)) = false
restores_in i (some (DTxContinue j k)) = false
restores_in i (some (DCallRestore j g r o)) = eqb i j
restores_in i (some (DDisconnect j)) = false
restores_in i (some (DRelease j)) = false
restores_in i (some ReportSent) = false
restores_in i (some ReportFailed) = false
restores_in i (some Break) = false
restores_in i (some Resume) = false
restores_in i (some (Expiry n)) = false

-- a turn that takes a D-CALL RESTORE for an identifier
unfoldable pub restores : ℕ → Call → Turn → Bool
restores i c t = restores_in i (taken_by c t)

-- some turns in which neither such a restoration is taken nor the call ends. A call that is released and not yet ended is quiet too
unfoldable pub quiet : ℕ → Call → List Turn → Bool
quiet i c [] = true
quiet i c (t ∷ ts) = not (restores i c t) && (not (ends c t) && quiet i (next c t) ts)

abbrev pub Cut : Type 0
Cut =
    (ts us : List Turn) (t : Turn) →
    taken_by (run fresh_call ts) t ≡ some Break →
    quiet (run fresh_call ts).id (next (run fresh_call ts) t) us ≡ true →
    told (ts ++ t ∷ us) ≡ 4

-- Demand 3, restored: the call that a D-CALL RESTORE then restores is the call that was cut, however many breaks came between

-- what the call at the cut and the restored one have in common, for a D-CALL RESTORE with i, r and o
abbrev pub Restoration : Call → Call → (i r o : ℕ) → Type 0
Restoration c d i r o =
    (i ≡ c.id)
    × (d.id ≡ c.id)
    × (d.address ≡ c.address)
    × (d.mode ≡ c.mode)
    × (d.slots ≡ c.slots)
    × (d.code ≡ cond (eqb r 1) (cond (eqb o 16) c.code o) c.code)
    × (runs d T310 ≡ cond (eqb r 1) (not (eqb d.code 0)) (runs c T310))
    × (d.state ≡ State.CallActive)
    × (d.path ≡ Path.Up)

abbrev pub Restored : Type 0
Restored =
    (ts us : List Turn) (t v : Turn) (i g r o : ℕ) →
    taken_by (run fresh_call ts) t ≡ some Break →
    quiet (run fresh_call ts).id (next (run fresh_call ts) t) us ≡ true →
    taken_by (run fresh_call (ts ++ t ∷ us)) v ≡ some (DCallRestore i g r o) →
    Restoration (run fresh_call ts) (run fresh_call (ts ++ t ∷ us ++ v ∷ [])) i r o

-- Demand 3, ended: a turn that writes RELEASE confirm, or RELEASE indication 3 or 4, leaves the fresh record, and the U-plane off

abbrev pub Ended : Type 0
Ended = (ts : List Turn) (t : Turn) → ends (run fresh_call ts) t ≡ true → run fresh_call (ts ++ t ∷ []) ≡ fresh_call

abbrev pub EndedOff : Type 0
EndedOff = (ts : List Turn) (t : Turn) → ends (run fresh_call ts) t ≡ true → told (ts ++ t ∷ []) ≡ 4

-- and from any state but IDLE there is no other way to it
abbrev pub NoOtherEnd : Type 0
NoOtherEnd =
    (ts : List Turn) (t : Turn) →
    is_idle (run fresh_call ts) ≡ false → is_idle (run fresh_call (ts ++ t ∷ [])) ≡ true → ends (run fresh_call ts) t ≡ true

-- and the slots are 1 again
abbrev pub EndedOneSlot : Type 0
EndedOneSlot = (ts : List Turn) (t : Turn) → ends (run fresh_call ts) t ≡ true → (run fresh_call (ts ++ t ∷ [])).slots ≡ 1

-- Slots per frame

-- outside IDLE the held number is the one that the last of the taken events of the call to carry some carried, 1 where none did, by the taken events
-- alone
abbrev pub Slotted : Type 0
Slotted = (ts : List Turn) → is_idle (run fresh_call ts) ≡ false → (run fresh_call ts).slots ≡ slots_by_history (taken_in fresh_call ts)

-- a call that no event gave slots has 1: from an IDLE record on, for as long as no taken event carries any
abbrev pub OneSlot : Type 0
OneSlot =
    (ts us : List Turn) →
    is_idle (run fresh_call ts) ≡ true → carry_none (taken_in (run fresh_call ts) us) ≡ true → (run fresh_call (ts ++ us)).slots ≡ 1

-- In the client's words

-- in IDLE the record has no identifier, no permission and no running timer: it is the fresh record
abbrev pub IdleIsFresh : Type 0
IdleIsFresh = (ts : List Turn) → is_idle (run fresh_call ts) ≡ true → run fresh_call ts ≡ fresh_call

-- outside IDLE the identifier is the one that the network gave to the call, by the taken events alone
abbrev pub Identified : Type 0
Identified = (ts : List Turn) → is_idle (run fresh_call ts) ≡ false → (run fresh_call ts).id ≡ id_by_history (taken_in fresh_call ts)

-- a set transmits (told 1 or 3) only in CALL-ACTIVE with path up, and with the identifier that the network gave to the call it is in
abbrev pub Transmits : Type 0
Transmits =
    (ts : List Turn) →
    transmits (told ts) ≡ true →
    ((run fresh_call ts).state ≡ State.CallActive)
    × ((run fresh_call ts).path ≡ Path.Up)
    × ((run fresh_call ts).id ≡ id_by_history (taken_in fresh_call ts))
    × ((run fresh_call ts).id ≡ 0 → ⊥)

-- No timer left behind

-- after any turns the timers that run by the messages written and the expiries taken are those in the record
abbrev pub TimersByMessages : Type 0
TimersByMessages = (ts : List Turn) → running_by (log_in fresh_call ts) ≡ (run fresh_call ts).timers

-- and none runs in IDLE
abbrev pub NoneInIdle : Type 0
NoneInIdle = (ts : List Turn) → is_idle (run fresh_call ts) ≡ true → running_by (log_in fresh_call ts) ≡ running_by []

-- turns of one call: no record between two of them is in IDLE; the first may leave IDLE, and the last may come back to it
unfoldable pub one_call : Call → List Turn → Bool
one_call c [] = true
one_call c (t ∷ []) = true
one_call c (t ∷ u ∷ us) = not (is_idle (next c t)) && one_call (next c t) (u ∷ us)

-- how many of some messages are such
abbrev pub count : (Message → Bool) → List Message → ℕ
count p [] = 0
count p (m ∷ ms) = cond (p m) 1 0 + count p ms

abbrev pub AtMostOne : (Message → Bool) → Type 0
AtMostOne p = (ts us : List Turn) → one_call (run fresh_call ts) us ≡ true → count p (written_in (run fresh_call ts) us) ≤ 1

-- one call writes at most one U-DISCONNECT and at most one U-RELEASE
abbrev pub OneUDisconnect : Type 0
OneUDisconnect = AtMostOne is_u_disconnect

abbrev pub OneURelease : Type 0
OneURelease = AtMostOne is_u_release

-- a RELEASE request and then an expiry of T308, each taken or refused, leave the fresh record, if at least 32 bytes are lent to both
abbrev pub ReleaseLeavesFresh : Type 0
ReleaseLeavesFresh =
    (ts : List Turn) (t u : Turn) →
    read events t.event ≡ taken ReleaseRequest →
    read events u.event ≡ taken (Expiry 308) →
    32 ≤ length t.buffer → 32 ≤ length u.buffer → run fresh_call (ts ++ t ∷ u ∷ []) ≡ fresh_call

-- an expiry that comes late, of a timer that does not run by the messages, is refused with 6 and changes nothing
abbrev pub LateExpiry : Type 0
LateExpiry =
    (ts : List Turn) (t : Turn) (n : ℕ) →
    read events t.event ≡ taken (Expiry n) →
    runs_by (log_in fresh_call ts) n ≡ false → outcome (run fresh_call ts) t ≡ refusal 6 (run fresh_call ts) t.buffer

-- and an expiry of one that runs by them is always taken where 32 bytes are lent
abbrev pub DueExpiry : Type 0
DueExpiry =
    (ts : List Turn) (t : Turn) (n : ℕ) →
    read events t.event ≡ taken (Expiry n) →
    runs_by (log_in fresh_call ts) n ≡ true → 32 ≤ length t.buffer → taken_by (run fresh_call ts) t ≡ some (Expiry n)

-- Calls end by their timers alone

-- some turns after others, in each of which an expiry of a timer that runs by the messages is handed in, whichever of them, with 32 bytes lent
abbrev pub OnlyDue : List Turn → List Turn → Type 0
OnlyDue ts [] = Unit {0}
OnlyDue ts (u ∷ us) =
    (n : ℕ)
    × (read events u.event ≡ taken (Expiry n))
    × (runs_by (log_in fresh_call ts) n ≡ true)
    × (32 ≤ length u.buffer)
    × OnlyDue (ts ++ u ∷ []) us

-- there are at most three of them, and after three no timer runs
abbrev pub AtMostThreeDue : Type 0
AtMostThreeDue = (ts us : List Turn) → OnlyDue ts us → length us ≤ 3

abbrev pub NoneAfterThree : Type 0
NoneAfterThree = (ts us : List Turn) → OnlyDue ts us → length us ≡ 3 → running_by (log_in fresh_call (ts ++ us)) ≡ running_by []

-- a record that waits for no timer: fresh; or it rings, MT-CALL-SETUP before the response; or it is connected without a limit, T310 code 0
pub data AtRest (c : Call) : Type 0 where
  over : c ≡ fresh_call → AtRest c
  rings : c.state ≡ State.MtCallSetup → runs c T301 ≡ false → AtRest c
  talks : c.state ≡ State.CallActive → c.code ≡ 0 → AtRest c
  pauses : c.state ≡ State.Wait → c.code ≡ 0 → AtRest c

-- and where none runs the record is at rest so
abbrev pub NoneRuns : Type 0
NoneRuns = (ts : List Turn) → running_by (log_in fresh_call ts) ≡ running_by [] → AtRest (run fresh_call ts)

-- T310 code 0

-- the numbers of a body, in the letters' order
abbrev pub numbers_in : (ls : List Letter) → Values ls → List ℕ
numbers_in [] vs = []
numbers_in (l ∷ ls) vs = vs.0 ∷ numbers_in ls vs.1

-- T310, and code 0
abbrev pub no_limit : List ℕ → Bool
no_limit ns = eqb (get_or ns 0 0) 310 && eqb (get_or ns 1 0) 0

-- a message that is no START (0602) of T310 with code 0
unfoldable pub limits : Message → Bool
limits m = not (eqb (flat messages m).kind 0x0602 && no_limit (numbers_in (flat messages m).letters (flat messages m).values))

-- no turn, from any record, starts T310 with code 0
abbrev pub StartsWithLimit : Type 0
StartsWithLimit = (c : Call) (ts : List Turn) → every? limits (written_in c ts) ≡ true

-- with code 0 held an expiry of T310 is refused with 6 and changes nothing
abbrev pub NoLimitNoExpiry : Type 0
NoLimitNoExpiry =
    (ts : List Turn) (t : Turn) →
    (run fresh_call ts).code ≡ 0 →
    read events t.event ≡ taken (Expiry 310) → outcome (run fresh_call ts) t ≡ refusal 6 (run fresh_call ts) t.buffer

-- No change of service over a speaker: while the set transmits (told 1 or 3), no turn takes D-INFO
abbrev pub NoInfoOverSpeech : Type 0
NoInfoOverSpeech =
    (ts : List Turn) (t : Turn) (i r o d s : ℕ) →
    transmits (told ts) ≡ true → taken_by (run fresh_call ts) t ≡ some (DInfo i r o d s) → ⊥
