-- That the demands are not true for the wrong reason: calls that are set up, cut, restored and ended, event by event. Each line says what
-- is handed in and what then shows; refused turns stand among the others and change nothing.
use Rattle.std.specs.Prelude.{ℕ, zero, suc, ◌+◌, ◌≡◌, Bool, true, false, cond, ◌&&◌, ◌||◌, List, [], ◌∷◌, ◌++◌, eqb, get_or, take, drop}
use Rattle.std.specs.Bool.{beq}
use Rattle.std.proofs.Math.Option.{some}
use Rattle.records.specs.declared.events.Event.{Event}
use Rattle.records.specs.declared.events.Event.TheVariants.{DCallRestore, Break}
use Rattle.records.specs.declared.messages.Message.{Message}
use Rattle.records.specs.declared.messages.Message.TheVariants.{USetup, URelease, Stop, Start, Configure, Cancel, ReleaseIndication, ReleaseConfirm, ModifyIndication}
use Rattle.callcontrol.specs.declared.call.Call.{Call}
use Rattle.callcontrol.specs.Call.{fresh_call, state_number, path_number, ◌⇒◌}
use Rattle.callcontrol.specs.Step.{Outcome}
use Rattle.demands.specs.Runs.{Turn, outcome, next, run, taken_by, written_by, written_in, is_u_disconnect, is_u_release, told, ends}
use Rattle.demands.specs.Demands.{quiet, applies, one_call, count, OnlyDue}
use Rattle.demands.specs.Clocks.{log_in, running_by}

-- 64 bytes are lent
abbrev zeros : ℕ → List ℕ
zeros zero = []
zeros (suc n) = 0 ∷ zeros n

abbrev pub turn : List ℕ → Turn
turn event = record { event = event; buffer = zeros 64 }

-- an event's bytes; then the answer, the state and the path of the record given back, what the lower layers were last told, and whether
-- the call has ended
pub record Line : Type 0 where
  pub event : List ℕ
  pub answer : ℕ
  pub state : ℕ
  pub path : ℕ
  pub told : ℕ
  pub ended : Bool

abbrev pub line : List ℕ → ℕ → ℕ → ℕ → ℕ → Bool → Line
line e a s p t z = record { event = e; answer = a; state = s; path = p; told = t; ended = z }

-- a call from this side, simplex, with two breaks before it is restored
abbrev pub outgoing : List Line
outgoing =
    -- SETUP request, REPORT sent, D-CONNECT: the plane goes on
    line (10 ∷ 0 ∷ 1 ∷ 1 ∷ 7 ∷ 0 ∷ 0 ∷ 0 ∷ 0 ∷ 1 ∷ []) 0 1 0 4 false
    ∷ line (4 ∷ 0 ∷ 1 ∷ 3 ∷ []) 0 1 0 4 false
    ∷ line (9 ∷ 0 ∷ 3 ∷ 2 ∷ 21 ∷ 0 ∷ 0 ∷ 0 ∷ 3 ∷ []) 0 3 0 1 false
    -- BREAK cuts it, and D-TX GRANTED does not bring it back
    ∷ line (4 ∷ 0 ∷ 3 ∷ 3 ∷ []) 0 3 1 4 false
    ∷ line (7 ∷ 0 ∷ 7 ∷ 2 ∷ 21 ∷ 0 ∷ 0 ∷ []) 6 3 1 4 false
    -- RESUME, BREAK, RESUME
    ∷ line (4 ∷ 0 ∷ 4 ∷ 3 ∷ []) 0 3 2 4 false
    ∷ line (4 ∷ 0 ∷ 3 ∷ 3 ∷ []) 0 3 1 4 false
    ∷ line (4 ∷ 0 ∷ 4 ∷ 3 ∷ []) 0 3 2 4 false
    -- D-CALL RESTORE of another call, and of this one
    ∷ line (9 ∷ 0 ∷ 12 ∷ 2 ∷ 22 ∷ 0 ∷ 0 ∷ 0 ∷ 16 ∷ []) 5 3 2 4 false
    ∷ line (9 ∷ 0 ∷ 12 ∷ 2 ∷ 21 ∷ 0 ∷ 0 ∷ 0 ∷ 16 ∷ []) 0 3 0 1 false
    -- bytes that are no record
    ∷ line (4 ∷ 0 ∷ 3 ∷ []) 2 3 0 1 false
    -- RELEASE request, REPORT sent, D-RELEASE: the call ends
    ∷ line (4 ∷ 0 ∷ 3 ∷ 1 ∷ []) 0 5 0 4 false
    ∷ line (4 ∷ 0 ∷ 1 ∷ 3 ∷ []) 0 5 0 4 false
    ∷ line (6 ∷ 0 ∷ 14 ∷ 2 ∷ 21 ∷ 0 ∷ []) 0 0 0 4 true
    ∷ []

-- a call from the other side, duplex, that is cut in a pause
abbrev pub incoming : List Line
incoming =
    -- D-SETUP, SETUP response, D-CONNECT ACKNOWLEDGE: the plane goes on
    line (11 ∷ 0 ∷ 5 ∷ 2 ∷ 255 ∷ 63 ∷ 0 ∷ 0 ∷ 0 ∷ 0 ∷ 1 ∷ []) 0 2 0 4 false
    ∷ line (4 ∷ 0 ∷ 2 ∷ 1 ∷ []) 0 2 0 4 false
    ∷ line (8 ∷ 0 ∷ 4 ∷ 2 ∷ 255 ∷ 63 ∷ 0 ∷ 0 ∷ []) 0 3 0 3 false
    -- D-TX WAIT, BREAK, RESUME, D-CALL RESTORE granted to another
    ∷ line (6 ∷ 0 ∷ 10 ∷ 2 ∷ 255 ∷ 63 ∷ []) 0 4 0 4 false
    ∷ line (4 ∷ 0 ∷ 3 ∷ 3 ∷ []) 0 3 1 4 false
    ∷ line (4 ∷ 0 ∷ 4 ∷ 3 ∷ []) 0 3 2 4 false
    ∷ line (9 ∷ 0 ∷ 12 ∷ 2 ∷ 255 ∷ 63 ∷ 3 ∷ 1 ∷ 5 ∷ []) 0 3 0 2 false
    -- T310 expires and releases the call, T308 expires and ends it
    ∷ line (6 ∷ 0 ∷ 1 ∷ 4 ∷ 54 ∷ 1 ∷ []) 0 5 0 4 false
    ∷ line (6 ∷ 0 ∷ 1 ∷ 4 ∷ 52 ∷ 1 ∷ []) 0 0 0 4 true
    ∷ []

-- a call that the network ends while it is cut; REPORT failed has no row there
abbrev pub lost : List Line
lost =
    line (11 ∷ 0 ∷ 5 ∷ 2 ∷ 9 ∷ 0 ∷ 7 ∷ 0 ∷ 0 ∷ 0 ∷ 0 ∷ []) 0 2 0 4 false
    ∷ line (4 ∷ 0 ∷ 2 ∷ 1 ∷ []) 0 2 0 4 false
    ∷ line (8 ∷ 0 ∷ 4 ∷ 2 ∷ 9 ∷ 0 ∷ 0 ∷ 3 ∷ []) 0 3 0 1 false
    ∷ line (4 ∷ 0 ∷ 3 ∷ 3 ∷ []) 0 3 1 4 false
    ∷ line (4 ∷ 0 ∷ 2 ∷ 3 ∷ []) 6 3 1 4 false
    ∷ line (6 ∷ 0 ∷ 13 ∷ 2 ∷ 9 ∷ 0 ∷ []) 0 0 0 4 true
    ∷ []

-- a call that the lower layers could not send, and one that is taken back before it is sent
abbrev pub unsent : List Line
unsent = line (10 ∷ 0 ∷ 1 ∷ 1 ∷ 7 ∷ 0 ∷ 0 ∷ 0 ∷ 0 ∷ 1 ∷ []) 0 1 0 4 false ∷ line (4 ∷ 0 ∷ 2 ∷ 3 ∷ []) 0 0 0 4 true ∷ []

abbrev pub taken_back : List Line
taken_back = line (10 ∷ 0 ∷ 1 ∷ 1 ∷ 7 ∷ 0 ∷ 0 ∷ 0 ∷ 0 ∷ 1 ∷ []) 0 1 0 4 false ∷ line (4 ∷ 0 ∷ 3 ∷ 1 ∷ []) 0 0 0 4 true ∷ []

-- a call that both sides end at once: RELEASE request before it is answered, and D-DISCONNECT before U-DISCONNECT is sent; then T310 expires late,
-- and a second call begins
abbrev pub colliding : List Line
colliding =
    line (10 ∷ 0 ∷ 1 ∷ 1 ∷ 7 ∷ 0 ∷ 0 ∷ 0 ∷ 0 ∷ 1 ∷ []) 0 1 0 4 false
    ∷ line (6 ∷ 0 ∷ 2 ∷ 2 ∷ 21 ∷ 0 ∷ []) 0 1 0 4 false
    ∷ line (4 ∷ 0 ∷ 3 ∷ 1 ∷ []) 0 5 0 4 false
    ∷ line (6 ∷ 0 ∷ 13 ∷ 2 ∷ 21 ∷ 0 ∷ []) 0 0 0 4 true
    ∷ line (6 ∷ 0 ∷ 1 ∷ 4 ∷ 54 ∷ 1 ∷ []) 6 0 0 4 false
    ∷ line (11 ∷ 0 ∷ 5 ∷ 2 ∷ 9 ∷ 0 ∷ 7 ∷ 0 ∷ 0 ∷ 0 ∷ 0 ∷ []) 0 2 0 4 false
    ∷ line (4 ∷ 0 ∷ 2 ∷ 1 ∷ []) 0 2 0 4 false
    ∷ []

-- a call of several slots: they are changed with the mode, kept over a break and its restoration, and changed alone
abbrev pub slotted : List Line
slotted =
    -- SETUP request with 2 slots; D-CONNECT without any, not granted
    line (11 ∷ 0 ∷ 1 ∷ 1 ∷ 7 ∷ 0 ∷ 0 ∷ 0 ∷ 0 ∷ 0 ∷ 2 ∷ []) 0 1 0 4 false
    ∷ line (9 ∷ 0 ∷ 3 ∷ 2 ∷ 21 ∷ 0 ∷ 1 ∷ 0 ∷ 3 ∷ []) 0 3 0 4 false
    -- D-TX GRANTED to another; D-INFO duplex with 4 slots
    ∷ line (7 ∷ 0 ∷ 7 ∷ 2 ∷ 21 ∷ 0 ∷ 3 ∷ []) 0 3 0 2 false
    ∷ line (10 ∷ 0 ∷ 6 ∷ 2 ∷ 21 ∷ 0 ∷ 0 ∷ 16 ∷ 1 ∷ 4 ∷ []) 0 3 0 4 false
    -- BREAK, RESUME, D-CALL RESTORE granted to another
    ∷ line (4 ∷ 0 ∷ 3 ∷ 3 ∷ []) 0 3 1 4 false
    ∷ line (4 ∷ 0 ∷ 4 ∷ 3 ∷ []) 0 3 2 4 false
    ∷ line (9 ∷ 0 ∷ 12 ∷ 2 ∷ 21 ∷ 0 ∷ 3 ∷ 0 ∷ 16 ∷ []) 0 3 0 2 false
    -- D-INFO duplex with 3 slots: the plane stays; with 5 slots; without any
    ∷ line (10 ∷ 0 ∷ 6 ∷ 2 ∷ 21 ∷ 0 ∷ 0 ∷ 16 ∷ 1 ∷ 3 ∷ []) 0 3 0 2 false
    ∷ line (10 ∷ 0 ∷ 6 ∷ 2 ∷ 21 ∷ 0 ∷ 0 ∷ 16 ∷ 1 ∷ 5 ∷ []) 4 3 0 2 false
    ∷ line (9 ∷ 0 ∷ 6 ∷ 2 ∷ 21 ∷ 0 ∷ 0 ∷ 16 ∷ 1 ∷ []) 0 3 0 2 false
    -- D-RELEASE
    ∷ line (6 ∷ 0 ∷ 14 ∷ 2 ∷ 21 ∷ 0 ∷ []) 0 0 0 4 true
    ∷ []

-- D-INFO over the own transmission is refused, also with T310's reset; after it the same one is taken
abbrev pub speaking : List Line
speaking =
    line (10 ∷ 0 ∷ 1 ∷ 1 ∷ 7 ∷ 0 ∷ 0 ∷ 0 ∷ 0 ∷ 1 ∷ []) 0 1 0 4 false
    ∷ line (9 ∷ 0 ∷ 3 ∷ 2 ∷ 21 ∷ 0 ∷ 0 ∷ 0 ∷ 3 ∷ []) 0 3 0 1 false
    ∷ line (9 ∷ 0 ∷ 6 ∷ 2 ∷ 21 ∷ 0 ∷ 1 ∷ 5 ∷ 1 ∷ []) 8 3 0 1 false
    ∷ line (6 ∷ 0 ∷ 1 ∷ 4 ∷ 55 ∷ 1 ∷ []) 0 3 0 4 false
    ∷ line (9 ∷ 0 ∷ 6 ∷ 2 ∷ 21 ∷ 0 ∷ 1 ∷ 5 ∷ 1 ∷ []) 0 3 0 4 false
    ∷ []

-- a duplex call without a limit: it transmits, and no timer runs; an expiry of T310 is refused
abbrev pub unlimited : List Line
unlimited =
    line (10 ∷ 0 ∷ 1 ∷ 1 ∷ 7 ∷ 0 ∷ 0 ∷ 0 ∷ 1 ∷ 1 ∷ []) 0 1 0 4 false
    ∷ line (9 ∷ 0 ∷ 3 ∷ 2 ∷ 21 ∷ 0 ∷ 0 ∷ 1 ∷ 0 ∷ []) 0 3 0 3 false
    ∷ line (6 ∷ 0 ∷ 1 ∷ 4 ∷ 54 ∷ 1 ∷ []) 6 3 0 3 false
    ∷ []

-- two records are the same, by all their fields
unfoldable pub flags : List Bool → List ℕ
flags [] = []
flags (b ∷ bs) = cond b 1 0 ∷ flags bs

unfoldable pub numbers : Call → List ℕ
numbers c =
    state_number c.state ∷ c.id ∷ c.address ∷ c.mode ∷ c.asked ∷ c.sent ∷ path_number c.path ∷ c.plane ∷ c.kept ∷ c.code ∷ c.slots ∷ flags c.timers

unfoldable pub same : List ℕ → List ℕ → Bool
same [] [] = true
same [] (n ∷ ns) = false
same (m ∷ ms) [] = false
same (m ∷ ms) (n ∷ ns) = eqb m n && same ms ns

-- what a line says of a turn, by the record before it, its outcome, and what was told; a refused turn gives the record back, and an end
-- leaves the fresh one
unfoldable pub agrees : Line → Call → Outcome → ℕ → Bool → Bool
agrees l c o p z =
    eqb o.answer l.answer
    && eqb (state_number o.call.state) l.state
    && eqb (path_number o.call.path) l.path
    && eqb p l.told
    && beq z l.ended
    && (eqb l.answer 0 || same (numbers o.call) (numbers c))
    && (l.ended ⇒ same (numbers o.call) (numbers fresh_call))

unfoldable pub goes_so : List Turn → List Line → Bool
goes_so ts [] = true
goes_so ts (l ∷ ls) =
    agrees l (run fresh_call ts) (outcome (run fresh_call ts) (turn l.event)) (told (ts ++ turn l.event ∷ [])) (ends (run fresh_call ts) (turn l.event))
    && goes_so (ts ++ turn l.event ∷ []) ls

abbrev pub stories : List (List Line)
stories = outgoing ∷ incoming ∷ lost ∷ unsent ∷ taken_back ∷ colliding ∷ slotted ∷ speaking ∷ unlimited ∷ []

-- one story after the other
abbrev pub all_go_so : List (List Line) → Bool
all_go_so [] = true
all_go_so (ls ∷ lss) = goes_so [] ls && all_go_so lss

-- the turns of some lines
abbrev pub turns_of : List Line → List Turn
turns_of [] = []
turns_of (l ∷ ls) = turn l.event ∷ turns_of ls

-- a story cut in pieces: some turns, a BREAK, some more turns, and a D-CALL RESTORE
pub record Cutting : Type 0 where
  pub turns : List Turn
  pub before : ℕ
  pub between : ℕ
  pub restoration : Event

abbrev pub cutting : List Line → ℕ → ℕ → Event → Cutting
cutting ls n m e = record { turns = turns_of ls; before = n; between = m; restoration = e }

abbrev pub before_of : Cutting → List Turn
before_of x = take x.before x.turns

abbrev pub break_of : Cutting → Turn
break_of x = get_or x.turns x.before (turn [])

abbrev pub between_of : Cutting → List Turn
between_of x = take x.between (drop (x.before + 1) x.turns)

abbrev pub restoring_of : Cutting → Turn
restoring_of x = get_or x.turns (x.before + 1 + x.between) (turn [])

-- the premises of Cut and Restored
abbrev pub Premises : Cutting → Type 0
Premises x =
    (taken_by (run fresh_call (before_of x)) (break_of x) ≡ some Break)
    × (quiet (run fresh_call (before_of x)).id (next (run fresh_call (before_of x)) (break_of x)) (between_of x) ≡ true)
    × (taken_by (run fresh_call (before_of x ++ break_of x ∷ between_of x)) (restoring_of x) ≡ some x.restoration)

-- the first break of the outgoing call, with another break and two refused turns before the restoration; its second break; the break
-- in a pause; and that of the call of several slots
abbrev pub cuttings : List Cutting
cuttings =
    cutting outgoing 3 5 (DCallRestore 21 0 0 16)
    ∷ cutting outgoing 6 2 (DCallRestore 21 0 0 16)
    ∷ cutting incoming 4 1 (DCallRestore 16383 3 1 5)
    ∷ cutting slotted 4 1 (DCallRestore 21 3 0 16)
    ∷ []

-- of each in a list
abbrev pub Each : {A : Type 0} → (A → Type 0) → List A → Type 0
Each P [] = Unit {0}
Each P (x ∷ xs) = P x × Each P xs

-- what the last turn of a story writes
pub record Ending : Type 0 where
  pub before : List Turn
  pub last : Turn
  pub written : List Message

abbrev pub ending : List Line → ℕ → List Message → Ending
ending ls n ms = record { before = take n (turns_of ls); last = get_or (turns_of ls) n (turn []); written = ms }

abbrev pub Writes : Ending → Type 0
Writes x = written_by (run fresh_call x.before) x.last ≡ x.written

-- the five ways in which a call ends: RELEASE confirm by D-RELEASE and by T308, RELEASE indication 3 and 4, and the local cancel
abbrev pub endings : List Ending
endings =
    ending outgoing 13 (Stop 308 ∷ Configure 4 ∷ ReleaseConfirm ∷ [])
    ∷ ending incoming 8 (Configure 4 ∷ ReleaseConfirm ∷ [])
    ∷ ending lost 5 (Stop 310 ∷ URelease 9 ∷ Configure 4 ∷ ReleaseIndication 3 ∷ [])
    ∷ ending unsent 1 (Stop 303 ∷ ReleaseIndication 4 ∷ [])
    ∷ ending taken_back 1 (Stop 303 ∷ Cancel ∷ ReleaseConfirm ∷ [])
    ∷ []

-- what tells the slots: U-SETUP where the request carried them, and MODIFY indication, where they change with the mode, alone, and not at all
abbrev pub tellings : List Ending
tellings =
    ending slotted 0 (USetup 7 0 0 2 ∷ Start 303 0 ∷ [])
    ∷ ending taken_back 0 (USetup 7 0 1 0 ∷ Start 303 0 ∷ [])
    ∷ ending slotted 3 (Configure 4 ∷ ModifyIndication 1 4 ∷ [])
    ∷ ending slotted 7 (Configure 2 ∷ ModifyIndication 1 3 ∷ [])
    ∷ ending slotted 9 (Configure 2 ∷ ModifyIndication 1 3 ∷ [])
    ∷ []

-- the slots that are held after some turns of a story
pub record Held : Type 0 where
  pub turns : List Turn
  pub slots : ℕ

abbrev pub holding : List Line → ℕ → ℕ → Held
holding ls n s = record { turns = take n (turns_of ls); slots = s }

abbrev pub Holds : Held → Type 0
Holds x = (run fresh_call x.turns).slots ≡ x.slots

abbrev pub slots : List Held
slots =
    holding slotted 1 2
    ∷ holding slotted 2 2
    ∷ holding slotted 4 4
    ∷ holding slotted 7 4
    ∷ holding slotted 8 3
    ∷ holding slotted 10 3
    ∷ holding slotted 11 1
    ∷ holding outgoing 3 1
    ∷ []

-- bytes to which two refusals apply at once; the first in the order of the answers is given
pub record Twice : Type 0 where
  pub bytes : List ℕ
  pub first : ℕ
  pub later : ℕ

abbrev pub twice : List ℕ → ℕ → ℕ → Twice
twice s n m = record { bytes = s; first = n; later = m }

unfoldable pub first_given : List Twice → Bool
first_given [] = true
first_given (x ∷ xs) =
    applies x.first fresh_call x.bytes []
    && applies x.later fresh_call x.bytes []
    && eqb (outcome fresh_call (record { event = x.bytes; buffer = [] })).answer x.first
    && first_given xs

-- a wrong length with an unknown kind, and with identifier 0 in D-ALERT; and another call's D-ALERT, which has no row in IDLE
abbrev pub twices : List Twice
twices =
    twice (5 ∷ 0 ∷ 9 ∷ 9 ∷ []) 2 3 ∷ twice (7 ∷ 0 ∷ 2 ∷ 2 ∷ 0 ∷ 0 ∷ []) 2 4 ∷ twice (6 ∷ 0 ∷ 2 ∷ 2 ∷ 5 ∷ 0 ∷ []) 5 6 ∷ []

-- the timers that run after some turns of a story, by the messages, as their numbers
pub record Clock : Type 0 where
  pub turns : List Turn
  pub running : List ℕ

abbrev pub clock : List Line → ℕ → List ℕ → Clock
clock ls n ns = record { turns = take n (turns_of ls); running = ns }

unfoldable pub numbers_of : List Bool → List ℕ → List ℕ
numbers_of [] ns = []
numbers_of (b ∷ bs) [] = []
numbers_of (b ∷ bs) (n ∷ ns) = cond b (n ∷ numbers_of bs ns) (numbers_of bs ns)

abbrev pub Shows : Clock → Type 0
Shows x = numbers_of (running_by (log_in fresh_call x.turns)) (301 ∷ 302 ∷ 303 ∷ 306 ∷ 308 ∷ 310 ∷ 311 ∷ []) ≡ x.running

-- timers start, are stopped, expire; two calls one after the other; a colliding release
abbrev pub clocks : List Clock
clocks =
    clock outgoing 1 (303 ∷ [])
    ∷ clock outgoing 3 (310 ∷ 311 ∷ [])
    ∷ clock outgoing 4 (310 ∷ [])
    ∷ clock outgoing 6 (306 ∷ 310 ∷ [])
    ∷ clock outgoing 12 (308 ∷ [])
    ∷ clock outgoing 14 []
    ∷ clock incoming 7 (310 ∷ [])
    ∷ clock incoming 8 (308 ∷ [])
    ∷ clock incoming 9 []
    ∷ clock colliding 2 (302 ∷ [])
    ∷ clock colliding 3 (308 ∷ [])
    ∷ clock colliding 5 []
    ∷ clock colliding 7 (301 ∷ [])
    ∷ clock unlimited 3 []
    ∷ []

-- one call writes as many of each as it may: U-DISCONNECT with the RELEASE request, U-RELEASE with the D-DISCONNECT
pub record Collides : Type 0 where
  pub whole : one_call fresh_call (take 4 (turns_of colliding)) ≡ true
  pub disconnects : count is_u_disconnect (written_in fresh_call (take 4 (turns_of colliding))) ≡ 1
  pub releases : count is_u_release (written_in fresh_call (take 4 (turns_of colliding))) ≡ 1

-- 8 and 7 apply at once, and 8 is given: D-INFO over the own transmission with no byte lent
pub record EightBeforeSeven : Type 0 where
  pub eight : applies 8 (run fresh_call (take 2 (turns_of speaking))) (9 ∷ 0 ∷ 6 ∷ 2 ∷ 21 ∷ 0 ∷ 1 ∷ 5 ∷ 1 ∷ []) [] ≡ true
  pub seven : applies 7 (run fresh_call (take 2 (turns_of speaking))) (9 ∷ 0 ∷ 6 ∷ 2 ∷ 21 ∷ 0 ∷ 1 ∷ 5 ∷ 1 ∷ []) [] ≡ true
  pub given : (outcome (run fresh_call (take 2 (turns_of speaking))) (record { event = 9 ∷ 0 ∷ 6 ∷ 2 ∷ 21 ∷ 0 ∷ 1 ∷ 5 ∷ 1 ∷ []; buffer = [] })).answer ≡ 8

-- a call that needs three expiries: T311 ends its transmission, T310 the call, and T308 the release
abbrev pub ThreeDue : Type 0
ThreeDue =
    OnlyDue (take 2 (turns_of speaking))
    (turn (6 ∷ 0 ∷ 1 ∷ 4 ∷ 55 ∷ 1 ∷ []) ∷ turn (6 ∷ 0 ∷ 1 ∷ 4 ∷ 54 ∷ 1 ∷ []) ∷ turn (6 ∷ 0 ∷ 1 ∷ 4 ∷ 52 ∷ 1 ∷ []) ∷ [])

pub record Witness : Type 0 where
  pub lines : all_go_so stories ≡ true
  pub cuts : Each Premises cuttings
  pub ends : Each Writes endings
  pub tells : Each Writes tellings
  pub holds : Each Holds slots
  pub first : first_given twices ≡ true
  pub timers : Each Shows clocks
  pub collides : Collides
  pub eight : EightBeforeSeven
  pub three : ThreeDue
