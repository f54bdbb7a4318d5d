-- That the claims are not true for the wrong reason: calls that are accepted, rejected, unanswered and not sent, event by event. Each line says
-- what is handed in and what then shows; refused turns stand among the others and change nothing.
use Rattle.std.specs.Prelude.{ℕ, zero, suc, ◌≡◌, Bool, true, false, ◌&&◌, ◌||◌, List, [], ◌∷◌, eqb, get_or, take}
use Rattle.std.specs.Bool.{beq}
use Rattle.std.proofs.Math.Option.{some}
use Rattle.direct.specs.declared.events.Event.{Event}
use Rattle.direct.specs.declared.events.Event.TheVariants.{SetupRequest, DmaReport, DmConnect, DmDisconnect, Expiry}
use Rattle.direct.specs.declared.messages.Message.{Message}
use Rattle.direct.specs.declared.messages.Message.TheVariants.{DmSetupPres, DmConnectAck, DmRelease, Stop, Start, Configure, SetupConfirm, ReleaseIndication}
use Rattle.direct.specs.declared.call.Call.{Call}
use Rattle.direct.specs.Call.{fresh_call, state_number}
use Rattle.direct.specs.Step.{Outcome}
use Rattle.direct.specs.Runs.{Turn, outcome, next, run, taken_by, written_by, written_in, count, is_dm_setup_pres, log_in, pres_by}

-- as many bytes are lent as no step needs more than
abbrev zeros : ℕ → List ℕ
zeros zero = []
zeros (suc n) = 0 ∷ zeros n

abbrev pub turn : List ℕ → Turn
turn event = record { event = event; buffer = zeros 27 }

-- the events

abbrev pub setup_request : ℕ → ℕ → ℕ → List ℕ
setup_request t l m = 7 ∷ 0 ∷ 0x01 ∷ 0x08 ∷ t ∷ l ∷ m ∷ []

abbrev pub dma_report : ℕ → List ℕ
dma_report v = 5 ∷ 0 ∷ 0x02 ∷ 0x08 ∷ v ∷ []

abbrev pub dm_connect : ℕ → List ℕ
dm_connect t = 5 ∷ 0 ∷ 0x03 ∷ 0x08 ∷ t ∷ []

abbrev pub dm_disconnect : List ℕ
dm_disconnect = 4 ∷ 0 ∷ 0x04 ∷ 0x08 ∷ []

abbrev pub expiry303 : List ℕ
expiry303 = 6 ∷ 0 ∷ 0x05 ∷ 0x08 ∷ 47 ∷ 1 ∷ []

abbrev pub expiry311 : List ℕ
expiry311 = 6 ∷ 0 ∷ 0x05 ∷ 0x08 ∷ 55 ∷ 1 ∷ []

-- an event's bytes; then the answer, the count, the state, the attempts used and the timers of the record given back
pub record Line : Type 0 where
  pub event : List ℕ
  pub answer : ℕ
  pub count : ℕ
  pub state : ℕ
  pub used : ℕ
  pub dt303 : Bool
  pub dt311 : Bool

abbrev pub line : List ℕ → ℕ → ℕ → ℕ → ℕ → Bool → Bool → Line
line e a n s u d f = record { event = e; answer = a; count = n; state = s; used = u; dt303 = d; dt311 = f }

-- accepted at once, at the target: 27 bytes; DT311's expiry then has no row
abbrev pub accepted : List Line
accepted =
    line (setup_request 9 4 3) 0 6 1 1 false false
    ∷ line (dm_connect 9) 61 0 1 1 false false
    ∷ line (dma_report 0) 0 6 1 1 true false
    ∷ line (dma_report 0) 61 0 1 1 true false
    ∷ line (dm_connect 9) 0 27 2 1 false true
    ∷ line expiry311 61 0 2 1 false true
    ∷ line (setup_request 9 4 0) 60 0 2 1 false true
    ∷ line (setup_request 9 4 3) 61 0 2 1 false true
    ∷ []

-- accepted at the second attempt, at the lowest grade
abbrev pub reduced : List Line
reduced =
    line (setup_request 9 4 2) 0 6 1 1 false false
    ∷ line (dma_report 0) 0 6 1 1 true false
    ∷ line expiry303 0 10 1 2 false false
    ∷ line expiry303 61 0 1 2 false false
    ∷ line (dma_report 0) 0 6 1 2 true false
    ∷ line (dm_connect 4) 0 27 2 2 false true
    ∷ []

-- a grade below the lowest, and one above the target
abbrev pub below : List Line
below = line (setup_request 9 4 3) 0 6 1 1 false false ∷ line (dma_report 0) 0 6 1 1 true false ∷ line (dm_connect 3) 0 14 0 0 false false ∷ []

abbrev pub above : List Line
above = line (setup_request 9 4 3) 0 6 1 1 false false ∷ line (dma_report 0) 0 6 1 1 true false ∷ line (dm_connect 10) 0 14 0 0 false false ∷ []

-- disconnected
abbrev pub disconnected : List Line
disconnected = line (setup_request 255 0 15) 0 6 1 1 false false ∷ line (dma_report 0) 0 6 1 1 true false ∷ line dm_disconnect 0 14 0 0 false false ∷ line dm_disconnect 61 0 0 0 false false ∷ []

-- all attempts used
abbrev pub unanswered : List Line
unanswered =
    line (setup_request 9 9 2) 0 6 1 1 false false
    ∷ line (dma_report 0) 0 6 1 1 true false
    ∷ line expiry303 0 10 1 2 false false
    ∷ line (dma_report 0) 0 6 1 2 true false
    ∷ line expiry303 0 8 0 0 false false
    ∷ []

-- the channel busy, and of unknown state; attempts and grades out of range
abbrev pub busy : List Line
busy =
    line (setup_request 9 4 16) 60 0 0 0 false false
    ∷ line (setup_request 4 9 3) 60 0 0 0 false false
    ∷ line (setup_request 9 4 3) 0 6 1 1 false false
    ∷ line (dma_report 3) 4 0 1 1 false false
    ∷ line (dma_report 1) 0 4 0 0 false false
    ∷ line (setup_request 9 4 3) 0 6 1 1 false false
    ∷ line (dma_report 2) 0 4 0 0 false false
    ∷ []

-- two records are the same, by all their places
unfoldable pub same_call : Call → Call → Bool
same_call c d =
    eqb (state_number c.state) (state_number d.state) && eqb c.target d.target && eqb c.lowest d.lowest && eqb c.limit d.limit
    && eqb c.used d.used && beq c.dt303 d.dt303 && beq c.dt311 d.dt311

-- what a line says of a turn, by the record before it and its outcome; a refused turn gives the record back
unfoldable pub agrees : Line → Call → Outcome → Bool
agrees l c o =
    eqb o.answer l.answer && eqb o.count l.count && eqb (state_number o.call.state) l.state && eqb o.call.used l.used
    && beq o.call.dt303 l.dt303 && beq o.call.dt311 l.dt311 && (eqb l.answer 0 || same_call o.call c)

unfoldable pub goes_so : Call → List Line → Bool
goes_so c [] = true
goes_so c (l ∷ ls) = agrees l c (outcome c (turn l.event)) && goes_so (next c (turn l.event)) ls

abbrev pub all_go_so : List (List Line) → Bool
all_go_so [] = true
all_go_so (ls ∷ lss) = goes_so fresh_call ls && all_go_so lss

abbrev pub Stories : Type 0
Stories = all_go_so (accepted ∷ reduced ∷ below ∷ above ∷ disconnected ∷ unanswered ∷ busy ∷ []) ≡ true

-- what a turn of a story takes and writes, and how many DM-SETUP PRES its call has written by the log before it
pub record Shown : Type 0 where
  pub before : List Turn
  pub last : Turn
  pub event : Event
  pub sent : ℕ
  pub written : List Message

abbrev pub turns_of : List Line → List Turn
turns_of [] = []
turns_of (l ∷ ls) = turn l.event ∷ turns_of ls

abbrev pub shown : List Line → ℕ → Event → ℕ → List Message → Shown
shown ls n e k ms = record { before = take n (turns_of ls); last = get_or (turns_of ls) n (turn []); event = e; sent = k; written = ms }

abbrev pub Shows : Shown → Type 0
Shows x =
    (taken_by (run fresh_call x.before) x.last ≡ some x.event)
    × (pres_by (log_in fresh_call x.before) ≡ x.sent)
    × (written_by (run fresh_call x.before) x.last ≡ x.written)

-- of each in a list
abbrev pub Each : {A : Type 0} → (A → Type 0) → List A → Type 0
Each P [] = Unit {0}
Each P (x ∷ xs) = P x × Each P xs

-- a request; an expiry while attempts remain, and the last; an offer that is accepted, and one that is not; DM-DISCONNECT; busy, and unknown
abbrev pub shows : List Shown
shows =
    shown unanswered 0 (SetupRequest 9 9 2) 0 (DmSetupPres 9 9 ∷ [])
    ∷ shown unanswered 2 (Expiry 303) 1 (DmRelease ∷ DmSetupPres 9 9 ∷ [])
    ∷ shown unanswered 4 (Expiry 303) 2 (DmRelease ∷ ReleaseIndication ∷ [])
    ∷ shown accepted 4 (DmConnect 9) 1 (Stop 303 ∷ DmConnectAck 9 ∷ Start 311 ∷ Configure 9 ∷ SetupConfirm 9 ∷ [])
    ∷ shown below 2 (DmConnect 3) 1 (Stop 303 ∷ DmRelease ∷ ReleaseIndication ∷ [])
    ∷ shown disconnected 2 DmDisconnect 1 (Stop 303 ∷ DmRelease ∷ ReleaseIndication ∷ [])
    ∷ shown busy 4 (DmaReport 1) 1 (ReleaseIndication ∷ [])
    ∷ shown busy 6 (DmaReport 2) 1 (ReleaseIndication ∷ [])
    ∷ []

abbrev pub EachShown : Type 0
EachShown = Each Shows shows

-- a call that nobody answers, with each limit: DM-SETUP PRES is written as often as the limit says
abbrev pub patience : ℕ → List Turn
patience zero = []
patience (suc n) = turn (dma_report 0) ∷ turn expiry303 ∷ patience n

abbrev pub sent_by : ℕ → ℕ
sent_by m = count is_dm_setup_pres (written_in fresh_call (turn (setup_request 9 4 m) ∷ patience m))

abbrev pub up_to : ℕ → Bool
up_to zero = true
up_to (suc n) = eqb (sent_by (suc n)) (suc n) && up_to n

abbrev pub EachLimitReached : Type 0
EachLimitReached = up_to 15 ≡ true

-- and 27 bytes are reached and needed: 26 give 7
abbrev pub Needs27 : Type 0
Needs27 =
    (outcome (run fresh_call (turn (setup_request 9 4 3) ∷ turn (dma_report 0) ∷ [])) (record { event = dm_connect 9; buffer = zeros 26 })).answer ≡ 7
