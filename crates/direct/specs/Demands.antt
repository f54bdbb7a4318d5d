-- What is claimed of direct mode, over every run, as types. proofs/Demands.antt has a proof of each.
use Rattle.std.specs.Prelude.{ℕ, ◌+◌, ◌-◌, ◌*◌, ◌<◌, ◌≤◌, ◌≡◌, Bool, true, false, cond, not, ◌&&◌, List, [], ◌∷◌, leb, ltb, eqb, length, take, drop}
use Rattle.std.proofs.Math.Option.{Option, none, some}
use Rattle.std.proofs.lemmas.List.Edits.{sets}
use Rattle.records.specs.Bytes.{number}
use Rattle.records.specs.Bodies.{numbers_at, all_fit}
use Rattle.records.specs.Tables.{Table, Read, taken, refused, listed, known, find, read, fine}
use Rattle.records.specs.Laws.{missing, numbers, NoneShared, WrittenReadsBack, WriterReadsBack, ReadIsWrittenBack, ReadWritesBack, PlaceIsWrong, WrongHasPlace, PlaceOnlyWithFour as ReaderPlaceOnlyWithFour}
use Rattle.records.specs.Events as document01
use Rattle.records.specs.Messages as document01m
use Rattle.direct.specs.declared.events.Event.{Event}
use Rattle.direct.specs.declared.events.Event.TheVariants.{SetupRequest, DmaReport, DmConnect, DmDisconnect, Expiry}
use Rattle.direct.specs.declared.messages.Message.{Message}
use Rattle.direct.specs.declared.messages.Message.TheVariants.{DmSetupPres, DmConnectAck, DmRelease, Stop, Start, Configure, SetupConfirm, ReleaseIndication}
use Rattle.direct.specs.declared.call.Call.{Call}
use Rattle.direct.specs.Events.{events}
use Rattle.direct.specs.Messages.{messages, bytes_of}
use Rattle.direct.specs.Call.{fresh_call, sound}
use Rattle.direct.specs.Draft.{messages_in}
use Rattle.direct.specs.Rows.{row_for}
use Rattle.direct.specs.Step.{refusal, refusal_at, step_of, beyond}
use Rattle.direct.specs.Runs.{Turn, outcome, next, run, taken_by, written_by, written_in, is_idle, is_check, is_active, enters_idle, enters_active, count, every?, is_dm_setup_pres, is_setup_confirm, is_release_indication, is_closing, is_configure, is_stop, is_confirm_of, is_answer, closes, gives_up, log_in, runs_by, asked_by, pres_by}

-- The answers

-- 2: under 4 bytes, or a length field that differs from the bytes
unfoldable pub wrong_length : List ℕ → Bool
wrong_length bytes = not (leb 4 (length bytes) && eqb (number 2 bytes 0) (length bytes))

abbrev pub of_kind : {A : Type 0} → (A → Bool) → Option A → Bool
of_kind p none = false
of_kind p (some k) = p k

module _ (t : Table) where
  -- 3: the kind's number stands in no line of the table
  unfoldable pub no_kind : List ℕ → Bool
  no_kind bytes = missing (number 2 bytes 2) (numbers t)

  -- every field of the body is in its letter's range
  unfoldable pub body_fits : t.Kind → List ℕ → Bool
  body_fits k bytes = all_fit (t.row_of k).letters (numbers_at (t.row_of k).letters bytes 4)

  -- 4: no line of the kind's number has the size of the body, or a field is out of its letter's range
  unfoldable pub bad_body : List ℕ → Bool
  bad_body bytes =
      known t (number 2 bytes 2) t.kinds && not (of_kind (λ k. body_fits k bytes) (find t (number 2 bytes 2) (length bytes) t.kinds))

abbrev pub of_event : (Event → Bool) → Read Event → Bool
of_event p (taken e) = p e
of_event p (refused m place) = false

-- where each answer applies, each told without a look at those before it; 60, 61 and 7 speak of an event, so of bytes that are one
unfoldable pub applies : ℕ → Call → List ℕ → List ℕ → Bool
applies n c bytes buffer =
    cond (eqb n 1) (not (sound c))
    (cond (eqb n 2) (wrong_length bytes)
    (cond (eqb n 3) (no_kind events bytes)
    (cond (eqb n 4) (bad_body events bytes)
    (cond (eqb n 60) (of_event beyond (read events bytes))
    (cond (eqb n 61) (of_event (λ e. not (row_for c e).taken) (read events bytes))
    (cond (eqb n 7) (of_event (λ e. not (leb (length (bytes_of (messages_in (row_for c e)))) (length buffer))) (read events bytes)) false))))))

-- the first of some numbers that applies, 0 if none does
abbrev pub first : (ℕ → Bool) → List ℕ → ℕ
first p [] = 0
first p (n ∷ ns) = cond (p n) n (first p ns)

-- every record, every byte string and every buffer gets the first number that applies, and 0 where none does
abbrev pub Answered : Type 0
Answered =
    (c : Call) (bytes buffer : List ℕ) →
    (step_of c bytes buffer).answer ≡ first (λ n. applies n c bytes buffer) (1 ∷ 2 ∷ 3 ∷ 4 ∷ 60 ∷ 61 ∷ 7 ∷ [])

-- a refusal counts 0 bytes, changes no byte and gives the record back
abbrev pub Refused : Type 0
Refused =
    (c : Call) (bytes buffer : List ℕ) (n : ℕ) →
    (step_of c bytes buffer).answer ≡ n → (n ≡ 0 → ⊥) → step_of c bytes buffer ≡ refusal_at n (step_of c bytes buffer).place c buffer

-- with 2, 3 and 4 a sound record gets the reader's answer and place, of which records' Laws say what it is
abbrev pub Placed : Type 0
Placed =
    (c : Call) (bytes buffer : List ℕ) (n place : ℕ) →
    sound c ≡ true → read events bytes ≡ refused n place → step_of c bytes buffer ≡ refusal_at n place c buffer

-- and every other answer has place 0
abbrev pub PlaceOnlyWithFour : Type 0
PlaceOnlyWithFour = (c : Call) (bytes buffer : List ℕ) → ((step_of c bytes buffer).answer ≡ 4 → ⊥) → (step_of c bytes buffer).place ≡ 0

-- never 4 for the numbers of a SETUP request: any three bytes read
abbrev pub AnyByteReads : Type 0
AnyByteReads =
    (t l m : ℕ) → t < 256 → l < 256 → m < 256 →
    read events (7 ∷ 0 ∷ 0x01 ∷ 0x08 ∷ t ∷ l ∷ m ∷ []) ≡ taken (SetupRequest t l m)

-- attempts out of range, or lowest above target, get 60 from every sound record, whatever its state
abbrev pub BeyondGetsSixty : Type 0
BeyondGetsSixty =
    (c : Call) (bytes buffer : List ℕ) (t l m : ℕ) →
    sound c ≡ true → read events bytes ≡ taken (SetupRequest t l m) →
    (leb 1 m && (leb m 15 && leb l t)) ≡ false → step_of c bytes buffer ≡ refusal 60 c buffer

-- The record

-- a number of the logic may be any; the record's are bytes
pub record Kept (c : Call) : Type 0 where
  pub target : c.target < 256
  pub lowest : c.lowest < 256
  pub meets : sound c ≡ true

abbrev pub FreshIsSound : Type 0
FreshIsSound = Kept fresh_call

-- every step from a sound record gives a sound one, whatever bytes come and whatever is lent
abbrev pub StepKeepsSound : Type 0
StepKeepsSound = (c : Call) (t : Turn) → Kept c → Kept (next c t)

-- every record of a run is sound
abbrev pub Sound : Type 0
Sound = (ts : List Turn) → sound (run fresh_call ts) ≡ true

-- so 1 never comes back in a run
abbrev pub NeverUnsound : Type 0
NeverUnsound = (ts : List Turn) (t : Turn) → (outcome (run fresh_call ts) t).answer ≡ 1 → ⊥

-- in IDLE it is the fresh record
abbrev pub IdleIsFresh : Type 0
IdleIsFresh = (ts : List Turn) → is_idle (run fresh_call ts) ≡ true → run fresh_call ts ≡ fresh_call

-- What is taken

abbrev pub Zero : Type 0
Zero = (c : Call) (t : Turn) → (outcome c t).answer ≡ 0 → (e : Event) × (taken_by c t ≡ some e)

abbrev pub Taken : Type 0
Taken =
    (c : Call) (t : Turn) (e : Event) →
    taken_by c t ≡ some e →
    (read events t.event ≡ taken e)
    × (next c t ≡ (row_for c e).call)
    × ((outcome c t).count ≡ length (bytes_of (written_by c t)))
    × ((outcome c t).buffer ≡ sets t.buffer 0 (bytes_of (written_by c t)))

-- every message of a run has each field in its range
abbrev pub WrittenInRange : Type 0
WrittenInRange = (ts : List Turn) → every? (λ m. fine messages m) (written_in fresh_call ts) ≡ true

-- some bytes are, record after record, some messages: as many bytes as the length at the front says are read as the first, the rest as
-- the others
abbrev pub Reads : List ℕ → List Message → Type 0
Reads bytes [] = bytes ≡ []
Reads bytes (m ∷ ms) = (read messages (take (number 2 bytes 0) bytes) ≡ taken m) × Reads (drop (number 2 bytes 0) bytes) ms

-- what a turn of a run writes reads back: the bytes that it counts, of the buffer that it leaves, are the messages of its row
abbrev pub ReadsBack : Type 0
ReadsBack =
    (ts : List Turn) (t : Turn) →
    Reads (take (outcome (run fresh_call ts) t).count (outcome (run fresh_call ts) t).buffer) (written_by (run fresh_call ts) t)

-- both tables round-trip, both ways, and 4, which alone has a place, has that of the first field that is wrong
abbrev pub RoundTrips : Table → Type 0
RoundTrips t =
    WrittenReadsBack t × WriterReadsBack t × ReadIsWrittenBack t × ReadWritesBack t × PlaceIsWrong t × WrongHasPlace t × ReaderPlaceOnlyWithFour t

abbrev pub BothRoundTrip : Type 0
BothRoundTrip = RoundTrips events × RoundTrips messages

-- no kind of one table has a number that the other has retired
abbrev pub NoneRetired : Table → Table → Type 0
NoneRetired t u = (k : t.Kind) → listed (t.row_of k).number u.retired ≡ false

-- no kind is one of document 01's or was one, or stands for an event and a message
abbrev pub NewKinds : Type 0
NewKinds =
    NoneShared events document01.events × NoneShared events document01m.messages × NoneShared messages document01.events
    × NoneShared messages document01m.messages × NoneShared events messages
    × NoneRetired events document01.events × NoneRetired events document01m.messages × NoneRetired messages document01.events
    × NoneRetired messages document01m.messages

-- How large a buffer to lend

-- no turn counts more than 27 bytes, whatever is handed in and lent
abbrev pub AtMost27 : Type 0
AtMost27 = (c : Call) (t : Turn) → (outcome c t).count ≤ 27

-- so 7 never comes back where 27 are lent
abbrev pub Enough27 : Type 0
Enough27 = (c : Call) (t : Turn) → 27 ≤ length t.buffer → (outcome c t).answer ≡ 7 → ⊥

-- Attempts

-- turns of one call: no record between two of them is in IDLE; the first may leave IDLE, and the last may come back to it
unfoldable pub one_call : Call → List Turn → Bool
one_call c [] = true
one_call c (t ∷ []) = true
one_call c (t ∷ u ∷ us) = not (is_idle (next c t)) && one_call (next c t) (u ∷ us)

-- the call that a taken SETUP request begins, and all its turns, write DM-SETUP PRES no more often than its attempts say
abbrev pub AtMostLimit : Type 0
AtMostLimit =
    (ts us : List Turn) (t : Turn) (target lowest attempts : ℕ) →
    taken_by (run fresh_call ts) t ≡ some (SetupRequest target lowest attempts) →
    one_call (run fresh_call ts) (t ∷ us) ≡ true →
    count is_dm_setup_pres (written_in (run fresh_call ts) (t ∷ us)) ≤ attempts

-- and every DM-SETUP PRES of a run is in such turns: it is written only by the turn that takes a SETUP request and by turns outside IDLE
abbrev pub OnlyInCalls : Type 0
OnlyInCalls =
    (ts : List Turn) (t : Turn) →
    is_idle (run fresh_call ts) ≡ true → is_idle (next (run fresh_call ts) t) ≡ true → written_by (run fresh_call ts) t ≡ []

-- from IDLE a turn writes nothing and leaves the record, or it takes a SETUP request
pub data FromIdle (c : Call) (t : Turn) : Type 0 where
  quiet : written_by c t ≡ [] → next c t ≡ c → FromIdle c t
  requested : (target lowest attempts : ℕ) → taken_by c t ≡ some (SetupRequest target lowest attempts) → FromIdle c t

abbrev pub QuietUntilAsked : Type 0
QuietUntilAsked = (ts : List Turn) (t : Turn) → is_idle (run fresh_call ts) ≡ true → FromIdle (run fresh_call ts) t

-- and a SETUP request is taken in IDLE alone: a call has one
abbrev pub BegunInIdle : Type 0
BegunInIdle =
    (ts : List Turn) (t : Turn) (target lowest attempts : ℕ) →
    taken_by (run fresh_call ts) t ≡ some (SetupRequest target lowest attempts) → is_idle (run fresh_call ts) ≡ true

-- so no call writes DM-SETUP PRES more often than its attempts say, from its request to its release and up to the next request; and none is written
-- before the first
abbrev pub NoMoreThanAsked : Type 0
NoMoreThanAsked = (ts : List Turn) → pres_by (log_in fresh_call ts) ≤ (asked_by (log_in fresh_call ts)).attempts

-- the event that a call waits for while nobody answers: layer 2's report "sent", and then DT303's expiry
abbrev pub expected : Call → Event
expected c = cond c.dt303 (Expiry 303) (DmaReport 0)

-- turns that hand in nothing but that, each with 10 bytes lent at least
pub data Waits : Call → List Turn → Type 0 where
  over : {c : Call} → Waits c []
  wait : {c : Call} {t : Turn} {ts : List Turn} → read events t.event ≡ taken (expected c) → 10 ≤ length t.buffer → Waits (next c t) ts → Waits c (t ∷ ts)

-- reports "sent" and expiries alone bring a call in PRESENCE CHECK back to IDLE: two turns for each attempt that remains, and one or two for the
-- present one
abbrev pub turns_left : Call → ℕ
turns_left c = 2 * (c.limit - c.used) + cond c.dt303 1 2

abbrev pub BackToIdle : Type 0
BackToIdle =
    (ts us : List Turn) →
    is_check (run fresh_call ts) ≡ true → Waits (run fresh_call ts) us → length us ≡ turns_left (run fresh_call ts) →
    run (run fresh_call ts) us ≡ fresh_call

-- which is at most twice its limit
abbrev pub AtMostTwice : Type 0
AtMostTwice = (ts : List Turn) → is_check (run fresh_call ts) ≡ true → turns_left (run fresh_call ts) ≤ 2 * (run fresh_call ts).limit

-- and the call that nobody answers writes DM-SETUP PRES as often as its attempts say
abbrev pub AsOftenAsLimit : Type 0
AsOftenAsLimit =
    (ts us : List Turn) (t : Turn) (target lowest attempts : ℕ) →
    taken_by (run fresh_call ts) t ≡ some (SetupRequest target lowest attempts) →
    Waits (next (run fresh_call ts) t) us → length us ≡ 2 * attempts →
    (count is_dm_setup_pres (written_in (run fresh_call ts) (t ∷ us)) ≡ attempts) × (run (run fresh_call ts) (t ∷ us) ≡ fresh_call)

-- The timers

-- after any turns the timers that run by the messages written and the expiries taken are those in the record
abbrev pub TimersByMessages : Type 0
TimersByMessages =
    (ts : List Turn) → (runs_by (log_in fresh_call ts) 303 ≡ (run fresh_call ts).dt303) × (runs_by (log_in fresh_call ts) 311 ≡ (run fresh_call ts).dt311)

-- and none runs in IDLE
abbrev pub NoneInIdle : Type 0
NoneInIdle =
    (ts : List Turn) →
    is_idle (run fresh_call ts) ≡ true → (runs_by (log_in fresh_call ts) 303 ≡ false) × (runs_by (log_in fresh_call ts) 311 ≡ false)

-- STOP is written only for a running timer
abbrev pub StopsRunning : Type 0
StopsRunning =
    (ts : List Turn) (t : Turn) (n : ℕ) →
    runs_by (log_in fresh_call ts) n ≡ false → count (is_stop n) (written_by (run fresh_call ts) t) ≡ 0

-- an answer or an expiry that comes while DT303 does not run is refused with 61 and changes nothing, and so is every expiry of DT311
abbrev pub is_late : Event → Bool → Bool
is_late (SetupRequest t l m) runs = false
is_late (DmaReport v) runs = runs
is_late (DmConnect t) runs = not runs
is_late DmDisconnect runs = not runs
is_late (Expiry n) runs = not (runs && eqb n 303)

-- a report that comes while it runs too
abbrev pub Late : Type 0
Late =
    (ts : List Turn) (t : Turn) (e : Event) →
    read events t.event ≡ taken e →
    is_late e (runs_by (log_in fresh_call ts) 303) ≡ true → outcome (run fresh_call ts) t ≡ refusal 61 (run fresh_call ts) t.buffer

-- an expiry of a running DT303 is taken where 10 bytes are lent
abbrev pub DueExpiry : Type 0
DueExpiry =
    (ts : List Turn) (t : Turn) →
    read events t.event ≡ taken (Expiry 303) →
    runs_by (log_in fresh_call ts) 303 ≡ true → 10 ≤ length t.buffer → taken_by (run fresh_call ts) t ≡ some (Expiry 303)

-- and an answer where 27 are
abbrev pub DueAnswer : Type 0
DueAnswer =
    (ts : List Turn) (t : Turn) (e : Event) →
    read events t.event ≡ taken e → is_answer e ≡ true →
    runs_by (log_in fresh_call ts) 303 ≡ true → 27 ≤ length t.buffer → taken_by (run fresh_call ts) t ≡ some e

-- a report in PRESENCE CHECK is taken while DT303 does not run, where 6 are
abbrev pub DueReport : Type 0
DueReport =
    (ts : List Turn) (t : Turn) (v : ℕ) →
    read events t.event ≡ taken (DmaReport v) →
    is_check (run fresh_call ts) ≡ true → runs_by (log_in fresh_call ts) 303 ≡ false → 6 ≤ length t.buffer →
    taken_by (run fresh_call ts) t ≡ some (DmaReport v)

-- and elsewhere it is refused with 61 and changes nothing
abbrev pub ReportElsewhere : Type 0
ReportElsewhere =
    (ts : List Turn) (t : Turn) (v : ℕ) →
    read events t.event ≡ taken (DmaReport v) →
    is_check (run fresh_call ts) ≡ false → outcome (run fresh_call ts) t ≡ refusal 61 (run fresh_call ts) t.buffer

-- What the user is told

-- a turn that enters IDLE writes exactly one RELEASE indication, and no other turn writes one
abbrev pub OneIndication : Type 0
OneIndication =
    (ts : List Turn) (t : Turn) →
    count is_release_indication (written_by (run fresh_call ts) t) ≡ cond (enters_idle (run fresh_call ts) t) 1 0

-- a turn that enters ACTIVE writes exactly one SETUP confirm, and no other turn writes one
abbrev pub OneConfirm : Type 0
OneConfirm =
    (ts : List Turn) (t : Turn) →
    count is_setup_confirm (written_by (run fresh_call ts) t) ≡ cond (enters_active (run fresh_call ts) t) 1 0

-- outside IDLE the record holds target, lowest and attempts of the last SETUP request that was taken, by the log alone
abbrev pub HeldAsAsked : Type 0
HeldAsAsked =
    (ts : List Turn) →
    is_idle (run fresh_call ts) ≡ false →
    ((run fresh_call ts).target ≡ (asked_by (log_in fresh_call ts)).target)
    × ((run fresh_call ts).lowest ≡ (asked_by (log_in fresh_call ts)).lowest)
    × ((run fresh_call ts).limit ≡ (asked_by (log_in fresh_call ts)).attempts)

-- ACTIVE is entered only by an offer from lowest to target, and the SETUP confirm has its grade
abbrev pub ActiveWithin : Type 0
ActiveWithin =
    (ts : List Turn) (t : Turn) →
    enters_active (run fresh_call ts) t ≡ true →
    (g : ℕ) × ((taken_by (run fresh_call ts) t ≡ some (DmConnect g))
    × (((asked_by (log_in fresh_call ts)).lowest ≤ g)
    × ((g ≤ (asked_by (log_in fresh_call ts)).target) × (count (is_confirm_of g) (written_by (run fresh_call ts) t) ≡ 1))))

-- and an offer outside is a release
abbrev pub OutsideReleases : Type 0
OutsideReleases =
    (ts : List Turn) (t : Turn) (g : ℕ) →
    taken_by (run fresh_call ts) t ≡ some (DmConnect g) →
    (leb (asked_by (log_in fresh_call ts)).lowest g && leb g (asked_by (log_in fresh_call ts)).target) ≡ false →
    next (run fresh_call ts) t ≡ fresh_call

-- What goes to the called set and to the lower layers

-- a turn that takes an answer or an expiry writes exactly one of DM-RELEASE and DM-CONNECT ACK, and no other turn writes either
abbrev pub OneClosing : Type 0
OneClosing =
    (ts : List Turn) (t : Turn) →
    count is_closing (written_by (run fresh_call ts) t) ≡ cond (closes (taken_by (run fresh_call ts) t)) 1 0

-- a turn that enters ACTIVE writes exactly one CONFIGURE, and no other turn writes one
abbrev pub OneConfigure : Type 0
OneConfigure =
    (ts : List Turn) (t : Turn) →
    count is_configure (written_by (run fresh_call ts) t) ≡ cond (enters_active (run fresh_call ts) t) 1 0

-- a taken expiry writes DM-RELEASE first; then, where attempts remain by the log, the request's DM-SETUP PRES, and else the RELEASE indication
abbrev pub ExpiryWrites : Type 0
ExpiryWrites =
    (ts : List Turn) (t : Turn) (n : ℕ) →
    taken_by (run fresh_call ts) t ≡ some (Expiry n) →
    written_by (run fresh_call ts) t
    ≡ DmRelease ∷ cond (ltb (pres_by (log_in fresh_call ts)) (asked_by (log_in fresh_call ts)).attempts)
    (DmSetupPres (asked_by (log_in fresh_call ts)).target (asked_by (log_in fresh_call ts)).lowest)
    ReleaseIndication ∷ []

-- an offer from lowest to target that is taken enters ACTIVE, and DM-CONNECT ACK, CONFIGURE and SETUP confirm have its grade
abbrev pub WithinConnects : Type 0
WithinConnects =
    (ts : List Turn) (t : Turn) (g : ℕ) →
    taken_by (run fresh_call ts) t ≡ some (DmConnect g) →
    (leb (asked_by (log_in fresh_call ts)).lowest g && leb g (asked_by (log_in fresh_call ts)).target) ≡ true →
    (is_active (next (run fresh_call ts) t) ≡ true)
    × (written_by (run fresh_call ts) t ≡ Stop 303 ∷ DmConnectAck g ∷ Start 311 ∷ Configure g ∷ SetupConfirm g ∷ [])

-- a report of busy or unknown, and DM-DISCONNECT, where they are taken, leave the fresh record
abbrev pub GivenUpIsFresh : Type 0
GivenUpIsFresh =
    (ts : List Turn) (t : Turn) (e : Event) →
    taken_by (run fresh_call ts) t ≡ some e → gives_up e ≡ true → next (run fresh_call ts) t ≡ fresh_call

-- ACTIVE is left by no event: whatever comes, the record stays, and nothing is written
abbrev pub ActiveStays : Type 0
ActiveStays =
    (ts us : List Turn) →
    is_active (run fresh_call ts) ≡ true → (run (run fresh_call ts) us ≡ run fresh_call ts) × (written_in (run fresh_call ts) us ≡ [])
