-- Any run of events: what is taken and written along the way. Each turn has the record that the last gave back.
use Rattle.std.specs.Prelude.{ℕ, ◌+◌, Bool, true, false, cond, not, ◌&&◌, List, [], ◌∷◌, ◌++◌, eqb}
use Rattle.std.proofs.Math.Option.{Option, none, some}
use Rattle.records.specs.Tables.{Read, taken, refused, read}
use Rattle.direct.specs.declared.events.Event.{Event}
use Rattle.direct.specs.declared.events.Event.TheVariants.{SetupRequest, DmaReport, DmConnect, DmDisconnect, Expiry}
use Rattle.direct.specs.declared.messages.Message.{Message}
use Rattle.direct.specs.declared.messages.Message.TheVariants.{DmSetupPres, DmConnectAck, DmRelease, Stop, Start, Configure, SetupConfirm, ReleaseIndication}
use Rattle.direct.specs.declared.call.Call.{Call}
use Rattle.direct.specs.Events.{events}
use Rattle.direct.specs.Call.{state_number}
use Rattle.direct.specs.Draft.{messages_in}
use Rattle.direct.specs.Rows.{row_for}
use Rattle.direct.specs.Step.{Outcome, step_of}

-- any bytes handed in, any buffer lent
pub record Turn : Type 0 where
  pub event : List ℕ
  pub buffer : List ℕ

unfoldable pub outcome : Call → Turn → Outcome
outcome c t = step_of c t.event t.buffer

-- the record that a turn gives back
unfoldable pub next : Call → Turn → Call
next c t = (outcome c t).call

-- the record after some turns
unfoldable pub run : Call → List Turn → Call
run c [] = c
run c (t ∷ ts) = run (next c t) ts

abbrev pub event_in : Read Event → Option Event
event_in (taken e) = some e
event_in (refused n place) = none

-- the event that a turn takes, if its answer is 0
unfoldable pub taken_by : Call → Turn → Option Event
taken_by c t = cond (eqb (outcome c t).answer 0) (event_in (read events t.event)) none

-- the messages that a turn writes: those whose bytes the step's promise stores
abbrev pub messages_of : Call → Option Event → List Message
messages_of c none = []
messages_of c (some e) = messages_in (row_for c e)

unfoldable pub written_by : Call → Turn → List Message
written_by c t = messages_of c (taken_by c t)

-- the messages written in some turns
unfoldable pub written_in : Call → List Turn → List Message
written_in c [] = []
written_in c (t ∷ ts) = written_by c t ++ written_in (next c t) ts

-- the states

abbrev pub is_idle : Call → Bool
is_idle c = eqb (state_number c.state) 0

abbrev pub is_check : Call → Bool
is_check c = eqb (state_number c.state) 1

abbrev pub is_active : Call → Bool
is_active c = eqb (state_number c.state) 2

-- a turn that enters IDLE, and one that enters ACTIVE
abbrev pub enters_idle : Call → Turn → Bool
enters_idle c t = not (is_idle c) && is_idle (next c t)

abbrev pub enters_active : Call → Turn → Bool
enters_active c t = not (is_active c) && is_active (next c t)

-- how many of some messages are such
unfoldable pub count : (Message → Bool) → List Message → ℕ
count p [] = 0
count p (m ∷ ms) = cond (p m) 1 0 + count p ms

unfoldable pub every? : (Message → Bool) → List Message → Bool
every? p [] = true
every? p (m ∷ ms) = p m && every? p ms

abbrev pub is_dm_setup_pres : Message → Bool
is_dm_setup_pres (DmSetupPres t l) = true
is_dm_setup_pres (DmConnectAck t) = false
is_dm_setup_pres DmRelease = false
is_dm_setup_pres (Stop n) = false
is_dm_setup_pres (Start n) = false
is_dm_setup_pres (Configure t) = false
is_dm_setup_pres (SetupConfirm t) = false
is_dm_setup_pres ReleaseIndication = false

abbrev pub is_setup_confirm : Message → Bool
is_setup_confirm (DmSetupPres t l) = false
is_setup_confirm (DmConnectAck t) = false
is_setup_confirm DmRelease = false
is_setup_confirm (Stop n) = false
is_setup_confirm (Start n) = false
is_setup_confirm (Configure t) = false
is_setup_confirm (SetupConfirm t) = true
is_setup_confirm ReleaseIndication = false

abbrev pub is_release_indication : Message → Bool
is_release_indication (DmSetupPres t l) = false
is_release_indication (DmConnectAck t) = false
is_release_indication DmRelease = false
is_release_indication (Stop n) = false
is_release_indication (Start n) = false
is_release_indication (Configure t) = false
is_release_indication (SetupConfirm t) = false
is_release_indication ReleaseIndication = true

-- how an attempt is closed to the called set: DM-RELEASE, or DM-CONNECT ACK
abbrev pub is_closing : Message → Bool
is_closing (DmSetupPres t l) = false
is_closing (DmConnectAck t) = true
is_closing DmRelease = true
is_closing (Stop n) = false
is_closing (Start n) = false
is_closing (Configure t) = false
is_closing (SetupConfirm t) = false
is_closing ReleaseIndication = false

abbrev pub is_configure : Message → Bool
is_configure (DmSetupPres t l) = false
is_configure (DmConnectAck t) = false
is_configure DmRelease = false
is_configure (Stop n) = false
is_configure (Start n) = false
is_configure (Configure t) = true
is_configure (SetupConfirm t) = false
is_configure ReleaseIndication = false

-- a SETUP confirm of a grade
abbrev pub is_confirm_of : ℕ → Message → Bool
is_confirm_of g (DmSetupPres t l) = false
is_confirm_of g (DmConnectAck t) = false
is_confirm_of g DmRelease = false
is_confirm_of g (Stop n) = false
is_confirm_of g (Start n) = false
is_confirm_of g (Configure t) = false
is_confirm_of g (SetupConfirm t) = eqb t g
is_confirm_of g ReleaseIndication = false

-- a STOP of a timer
abbrev pub is_stop : ℕ → Message → Bool
is_stop n (DmSetupPres t l) = false
is_stop n (DmConnectAck t) = false
is_stop n DmRelease = false
is_stop n (Stop k) = eqb k n
is_stop n (Start k) = false
is_stop n (Configure t) = false
is_stop n (SetupConfirm t) = false
is_stop n ReleaseIndication = false

-- what the called set answers
abbrev pub is_answer : Event → Bool
is_answer (SetupRequest t l m) = false
is_answer (DmaReport v) = false
is_answer (DmConnect t) = true
is_answer DmDisconnect = true
is_answer (Expiry n) = false

-- what closes an attempt: an answer, or an expiry
abbrev pub closes : Option Event → Bool
closes none = false
closes (some (SetupRequest t l m)) = false
closes (some (DmaReport v)) = false
closes (some (DmConnect t)) = true
closes (some DmDisconnect) = true
closes (some (Expiry n)) = true

-- what gives the call up at once: a report that is not "sent", and DM-DISCONNECT
abbrev pub gives_up : Event → Bool
gives_up (SetupRequest t l m) = false
gives_up (DmaReport v) = not (eqb v 0)
gives_up (DmConnect t) = false
gives_up DmDisconnect = true
gives_up (Expiry n) = false

-- the timers by messages: read from the messages written and the expiries taken alone. A timer runs that was started, and neither stopped nor
-- expired since. It looks at no record and at no row.

-- what a turn shows outside: the event that it takes, and the messages that it writes
pub record Entry : Type 0 where
  pub taken : Option Event
  pub written : List Message

unfoldable pub log_in : Call → List Turn → List Entry
log_in c [] = []
log_in c (t ∷ ts) = record { taken = taken_by c t; written = written_by c t } ∷ log_in (next c t) ts

-- whether a timer, by its number, runs after a message
unfoldable pub note_message : ℕ → Bool → Message → Bool
note_message n b (DmSetupPres t l) = b
note_message n b (DmConnectAck t) = b
note_message n b DmRelease = b
note_message n b (Stop k) = cond (eqb k n) false b
note_message n b (Start k) = cond (eqb k n) true b
note_message n b (Configure t) = b
note_message n b (SetupConfirm t) = b
note_message n b ReleaseIndication = b

unfoldable pub note_messages : ℕ → Bool → List Message → Bool
note_messages n b [] = b
note_messages n b (m ∷ ms) = note_messages n (note_message n b m) ms

abbrev pub note_taken : ℕ → Bool → Option Event → Bool
note_taken n b none = b
note_taken n b (some (SetupRequest t l m)) = b
note_taken n b (some (DmaReport v)) = b
note_taken n b (some (DmConnect t)) = b
note_taken n b (some DmDisconnect) = b
note_taken n b (some (Expiry k)) = cond (eqb k n) false b

-- a turn's expiry comes before what it writes
unfoldable pub note_log : ℕ → Bool → List Entry → Bool
note_log n b [] = b
note_log n b (x ∷ xs) = note_log n (note_messages n (note_taken n b x.taken) x.written) xs

-- whether a timer runs after a log that begins with none running
unfoldable pub runs_by : List Entry → ℕ → Bool
runs_by xs n = note_log n false xs

-- the last SETUP request that was taken, by the log alone
pub record Asked : Type 0 where
  pub target : ℕ
  pub lowest : ℕ
  pub attempts : ℕ

abbrev pub note_asked : Asked → Option Event → Asked
note_asked a none = a
note_asked a (some (SetupRequest t l m)) = record { target = t; lowest = l; attempts = m }
note_asked a (some (DmaReport v)) = a
note_asked a (some (DmConnect t)) = a
note_asked a (some DmDisconnect) = a
note_asked a (some (Expiry n)) = a

unfoldable pub asked_after : Asked → List Entry → Asked
asked_after a [] = a
asked_after a (x ∷ xs) = asked_after (note_asked a x.taken) xs

unfoldable pub asked_by : List Entry → Asked
asked_by xs = asked_after (record { target = 0; lowest = 0; attempts = 0 }) xs

-- how often DM-SETUP PRES was written from the last SETUP request on that was taken, by the log alone
abbrev pub note_begun : ℕ → Option Event → ℕ
note_begun n none = n
note_begun n (some (SetupRequest t l m)) = 0
note_begun n (some (DmaReport v)) = n
note_begun n (some (DmConnect t)) = n
note_begun n (some DmDisconnect) = n
note_begun n (some (Expiry k)) = n

unfoldable pub pres_after : ℕ → List Entry → ℕ
pres_after n [] = n
pres_after n (x ∷ xs) = pres_after (note_begun n x.taken + count is_dm_setup_pres x.written) xs

unfoldable pub pres_by : List Entry → ℕ
pres_by xs = pres_after 0 xs
