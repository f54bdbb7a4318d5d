-- That the claims are not true for the wrong reason: a run with two places at work, event by event, eight calls cut and restored at once, a call that
-- ends by its timers alone, D-INFO over a place's own transmission, a call without a limit, and a sound table out of reach where one place writes 57.
use Rattle.std.specs.Prelude.{ℕ, zero, suc, ◌≡◌, Bool, true, false, ◌&&◌, List, [], ◌∷◌, ◌++◌, eqb, length, take, drop}
use Rattle.std.proofs.Math.Option.{some}
use Rattle.records.specs.declared.events.Event.TheVariants.{Break, DCallRestore}
use Rattle.callcontrol.specs.declared.call.Call.{Call}
use Rattle.callcontrol.specs.Call.{state_number, path_number, fresh_call, is_idle, runs, transmits, T302}
use Rattle.console.specs.Table.{call_at, fresh_table, table_sound}
use Rattle.console.specs.Console.{ConsoleOutcome}
use Rattle.demands.specs.Runs.{taken_by, taken_in, told, ends}
use Rattle.demands.specs.Clocks.{log_in, running_by, runs_by}
use Rattle.demands.specs.History.{slots_by_history}
use Rattle.demands.specs.Demands.{quiet, widest, OnlyDue}
use Rattle.console.specs.Runs.{ConsoleTurn, console_outcome, console_run, lent_behind, went_to, went_in}
use Rattle.console.specs.Answers.{console_applies}

abbrev zeros : ℕ → List ℕ
zeros zero = []
zeros (suc n) = 0 ∷ zeros n

-- 184 bytes are lent
abbrev pub turn : ℕ → List ℕ → ConsoleTurn
turn place event = record { place = place; event = event; buffer = zeros 184 }

-- how a place stands: state, path, plane
pub record Stand : Type 0 where
  pub state : ℕ
  pub path : ℕ
  pub plane : ℕ

abbrev pub stand : ℕ → ℕ → ℕ → Stand
stand s p l = record { state = s; path = p; plane = l }

-- what is handed in; then the answer, the count of bytes, and how places 0 and 1 stand
pub record Line : Type 0 where
  pub place : ℕ
  pub event : List ℕ
  pub answer : ℕ
  pub count : ℕ
  pub first : Stand
  pub second : Stand

abbrev pub line : ℕ → List ℕ → ℕ → ℕ → Stand → Stand → Line
line place event answer count first second =
    record { place = place; event = event; answer = answer; count = count; first = first; second = second }

-- one transmits, is cut and restored, while the other is set up and ends; then a third rings at the other's place and is connected with three slots
abbrev pub two_calls : List Line
two_calls =
    -- SETUP request goes to the lowest IDLE place, whatever place is named; D-CONNECT to the place that has no identifier
    line 9 (10 ∷ 0 ∷ 1 ∷ 1 ∷ 7 ∷ 0 ∷ 0 ∷ 0 ∷ 0 ∷ 1 ∷ []) 0 22 (stand 1 0 4) (stand 0 0 4)
    ∷ line 9 (10 ∷ 0 ∷ 1 ∷ 1 ∷ 8 ∷ 0 ∷ 0 ∷ 0 ∷ 0 ∷ 1 ∷ []) 42 0 (stand 1 0 4) (stand 0 0 4)
    ∷ line 0 (9 ∷ 0 ∷ 3 ∷ 2 ∷ 21 ∷ 0 ∷ 0 ∷ 0 ∷ 3 ∷ []) 0 37 (stand 3 0 1) (stand 0 0 4)
    -- D-SETUP, and once more with the identifier that is then held
    ∷ line 0 (11 ∷ 0 ∷ 5 ∷ 2 ∷ 30 ∷ 0 ∷ 9 ∷ 0 ∷ 0 ∷ 0 ∷ 0 ∷ []) 0 16 (stand 3 0 1) (stand 2 0 4)
    ∷ line 0 (11 ∷ 0 ∷ 5 ∷ 2 ∷ 30 ∷ 0 ∷ 9 ∷ 0 ∷ 0 ∷ 0 ∷ 0 ∷ []) 41 0 (stand 3 0 1) (stand 2 0 4)
    -- BREAK reaches the call that is connected; SETUP response names its place
    ∷ line 0 (4 ∷ 0 ∷ 3 ∷ 3 ∷ []) 0 16 (stand 3 1 4) (stand 2 0 4)
    ∷ line 1 (4 ∷ 0 ∷ 2 ∷ 1 ∷ []) 0 18 (stand 3 1 4) (stand 2 0 4)
    ∷ line 8 (4 ∷ 0 ∷ 2 ∷ 1 ∷ []) 40 0 (stand 3 1 4) (stand 2 0 4)
    -- RESUME; D-CONNECT ACKNOWLEDGE for the one, D-CALL RESTORE for the other
    ∷ line 0 (4 ∷ 0 ∷ 4 ∷ 3 ∷ []) 0 23 (stand 3 2 4) (stand 2 0 4)
    ∷ line 0 (8 ∷ 0 ∷ 4 ∷ 2 ∷ 30 ∷ 0 ∷ 1 ∷ 2 ∷ []) 0 28 (stand 3 2 4) (stand 3 0 4)
    ∷ line 0 (9 ∷ 0 ∷ 12 ∷ 2 ∷ 21 ∷ 0 ∷ 0 ∷ 0 ∷ 16 ∷ []) 0 28 (stand 3 0 1) (stand 3 0 4)
    -- the second call ends, and the first still transmits; nobody holds 99
    ∷ line 0 (6 ∷ 0 ∷ 14 ∷ 2 ∷ 30 ∷ 0 ∷ []) 0 21 (stand 3 0 1) (stand 0 0 4)
    ∷ line 0 (6 ∷ 0 ∷ 14 ∷ 2 ∷ 99 ∷ 0 ∷ []) 5 0 (stand 3 0 1) (stand 0 0 4)
    -- SETUP request at the place that is IDLE again; D-ALERT starts T302 there, and D-CONNECT carries slots
    ∷ line 0 (10 ∷ 0 ∷ 1 ∷ 1 ∷ 8 ∷ 0 ∷ 0 ∷ 0 ∷ 0 ∷ 1 ∷ []) 0 22 (stand 3 0 1) (stand 1 0 4)
    ∷ line 0 (6 ∷ 0 ∷ 2 ∷ 2 ∷ 40 ∷ 0 ∷ []) 0 22 (stand 3 0 1) (stand 1 0 4)
    ∷ line 0 (10 ∷ 0 ∷ 3 ∷ 2 ∷ 40 ∷ 0 ∷ 0 ∷ 0 ∷ 3 ∷ 3 ∷ []) 0 37 (stand 3 0 1) (stand 3 0 1)
    ∷ []

abbrev stands : Call → Stand → Bool
stands c s = eqb (state_number c.state) s.state && (eqb (path_number c.path) s.path && eqb c.plane s.plane)

abbrev agrees : ConsoleOutcome → Line → Bool
agrees o l =
    eqb o.answer l.answer && (eqb o.count l.count && (stands (call_at o.calls 0) l.first && stands (call_at o.calls 1) l.second))

-- every line shows, each on the table that the last gave back
unfoldable pub shown : List Call → List Line → Bool
shown calls [] = true
shown calls (l ∷ ls) = agrees (console_outcome calls (turn l.place l.event)) l && shown (console_outcome calls (turn l.place l.event)).calls ls

abbrev pub TwoCalls : Type 0
TwoCalls = shown fresh_table two_calls ≡ true

-- a call that comes in at a place and transmits, with the identifier above its place
abbrev comes_in : ℕ → List ConsoleTurn
comes_in k =
    turn 0 (11 ∷ 0 ∷ 5 ∷ 2 ∷ suc k ∷ 0 ∷ 9 ∷ 0 ∷ 0 ∷ 0 ∷ 0 ∷ [])
    ∷ turn k (4 ∷ 0 ∷ 2 ∷ 1 ∷ [])
    ∷ turn 0 (8 ∷ 0 ∷ 4 ∷ 2 ∷ suc k ∷ 0 ∷ 0 ∷ 2 ∷ [])
    ∷ []

-- eight of them
abbrev pub eight_calls : List Call
eight_calls = console_run fresh_table (comes_in 0 ++ comes_in 1 ++ comes_in 2 ++ comes_in 3 ++ comes_in 4 ++ comes_in 5 ++ comes_in 6 ++ comes_in 7)

-- the room that BREAK and RESUME may want is wanted
abbrev pub RoomReached : Type 0
RoomReached =
    ((console_outcome eight_calls (turn 0 (4 ∷ 0 ∷ 3 ∷ 3 ∷ []))).count ≡ 128)
    × ((console_outcome (console_outcome eight_calls (turn 0 (4 ∷ 0 ∷ 3 ∷ 3 ∷ []))).calls (turn 0 (4 ∷ 0 ∷ 4 ∷ 3 ∷ []))).count ≡ 184)

-- ---- the premises of CutAt, RestoredAt, EndedAt, SentBeforeT302At and SlottedAt, met in the first run

abbrev turns_of : List Line → List ConsoleTurn
turns_of [] = []
turns_of (l ∷ ls) = turn l.place l.event ∷ turns_of ls

-- its turns from the m-th on, n of them, and the table after the first n
abbrev pub some_turns : ℕ → ℕ → List ConsoleTurn
some_turns m n = take n (drop m (turns_of two_calls))

abbrev pub table_at : ℕ → List Call
table_at n = console_run fresh_table (some_turns 0 n)

abbrev breaks : ConsoleTurn
breaks = turn 0 (4 ∷ 0 ∷ 3 ∷ 3 ∷ [])

abbrev restores : ConsoleTurn
restores = turn 0 (9 ∷ 0 ∷ 12 ∷ 2 ∷ 21 ∷ 0 ∷ 0 ∷ 0 ∷ 16 ∷ [])

abbrev releases : ConsoleTurn
releases = turn 0 (6 ∷ 0 ∷ 14 ∷ 2 ∷ 30 ∷ 0 ∷ [])

-- place 0 is cut by the sixth turn and restored by the eleventh, with four turns between; the call at place 1 ends with the twelfth; T302 runs there after
-- the fifteenth, and after the sixteenth the slots are 3, of the record and by the taken events
pub record PremisesMet : Type 0 where
  pub went : went_to 0 (table_at 5) breaks ≡ lent_behind 0 breaks ∷ []
  pub broke : taken_by (call_at (table_at 5) 0) (lent_behind 0 breaks) ≡ some Break
  pub calm : quiet (call_at (table_at 5) 0).id (call_at (table_at 6) 0) (went_in 0 (table_at 6) (some_turns 6 4)) ≡ true
  pub back : went_to 0 (table_at 10) restores ≡ lent_behind 0 restores ∷ []
  pub restored : taken_by (call_at (table_at 10) 0) (lent_behind 0 restores) ≡ some (DCallRestore 21 0 0 16)
  pub came : went_to 1 (table_at 11) releases ≡ lent_behind 0 releases ∷ []
  pub ended : ends (call_at (table_at 11) 1) (lent_behind 0 releases) ≡ true
  pub rings : runs (call_at (table_at 15) 1) T302 ≡ true
  pub connected : is_idle (call_at (table_at 16) 1) ≡ false
  pub slots : (call_at (table_at 16) 1).slots ≡ 3
  pub carried : slots_by_history (taken_in fresh_call (went_in 1 fresh_table (some_turns 0 16))) ≡ 3

-- ---- the premises of AtMostThreeDueAt and NoneAfterThreeAt, met by the first of the eight calls: T311 ends its transmission, T310 the call and T308 the
-- release, while another call comes in

abbrev pub expiries : List ConsoleTurn
expiries =
    turn 0 (6 ∷ 0 ∷ 1 ∷ 4 ∷ 55 ∷ 1 ∷ [])
    ∷ turn 0 (11 ∷ 0 ∷ 5 ∷ 2 ∷ 30 ∷ 0 ∷ 9 ∷ 0 ∷ 0 ∷ 0 ∷ 0 ∷ [])
    ∷ turn 0 (6 ∷ 0 ∷ 1 ∷ 4 ∷ 54 ∷ 1 ∷ [])
    ∷ turn 0 (6 ∷ 0 ∷ 1 ∷ 4 ∷ 52 ∷ 1 ∷ [])
    ∷ []

pub record ThreeDueMet : Type 0 where
  pub due : OnlyDue (went_in 0 fresh_table (comes_in 0)) (went_in 0 (console_run fresh_table (comes_in 0)) expiries)
  pub three : length (went_in 0 (console_run fresh_table (comes_in 0)) expiries) ≡ 3

-- ---- the premises of NoInfoOverSpeechAt, met at place 1 after the first run, where D-INFO gets 8; 8 comes before 7, which applies too where no byte is
-- lent

abbrev pub informs : ℕ → ConsoleTurn
informs lent = record { place = 0; event = 9 ∷ 0 ∷ 6 ∷ 2 ∷ 40 ∷ 0 ∷ 1 ∷ 5 ∷ 1 ∷ []; buffer = zeros lent }

pub record EightMet : Type 0 where
  pub transmitting : transmits (told (went_in 1 fresh_table (some_turns 0 16))) ≡ true
  pub went : went_to 1 (table_at 16) (informs 184) ≡ lent_behind 0 (informs 184) ∷ []
  pub given : (console_outcome (table_at 16) (informs 184)).answer ≡ 8
  pub eight : console_applies 8 (table_at 16) (informs 0) ≡ true
  pub seven : console_applies 7 (table_at 16) (informs 0) ≡ true
  pub before_seven : (console_outcome (table_at 16) (informs 0)).answer ≡ 8

-- ---- the premises of NoneRunsAt and NoLimitNoExpiryAt, met at place 1 by a duplex call that is connected with T310 code 0: it transmits, and by its
-- messages no timer runs, while T310 runs at place 0; an expiry of T310 gets 6 there

abbrev pub unlimited : List ConsoleTurn
unlimited =
    comes_in 0
    ++ (turn 0 (10 ∷ 0 ∷ 1 ∷ 1 ∷ 7 ∷ 0 ∷ 0 ∷ 0 ∷ 1 ∷ 1 ∷ [])
    ∷ turn 0 (9 ∷ 0 ∷ 3 ∷ 2 ∷ 21 ∷ 0 ∷ 0 ∷ 1 ∷ 0 ∷ [])
    ∷ [])

pub record NoLimitMet : Type 0 where
  pub stands_so : stands (call_at (console_run fresh_table unlimited) 1) (stand 3 0 3) ≡ true
  pub code : (call_at (console_run fresh_table unlimited) 1).code ≡ 0
  pub none_runs_lem : running_by (log_in fresh_call (went_in 1 fresh_table unlimited)) ≡ running_by []
  pub other_runs : runs_by (log_in fresh_call (went_in 0 fresh_table unlimited)) 310 ≡ true
  pub no_expiry : (console_outcome (console_run fresh_table unlimited) (turn 1 (6 ∷ 0 ∷ 1 ∷ 4 ∷ 54 ∷ 1 ∷ []))).answer ≡ 6

-- ---- a sound table, out of reach of a run, where an event for one place writes more than the 37 of any run: at place 0 the step's widest record, from
-- which D-DISCONNECT writes 52 bytes behind the record 0605

abbrev pub widest_table : List Call
widest_table = widest ∷ fresh_call ∷ fresh_call ∷ fresh_call ∷ fresh_call ∷ fresh_call ∷ fresh_call ∷ fresh_call ∷ []

abbrev pub Writes57 : Type 0
Writes57 =
    (table_sound widest_table ≡ true)
    × ((console_outcome widest_table (record { place = 0; event = 6 ∷ 0 ∷ 13 ∷ 2 ∷ 21 ∷ 0 ∷ []; buffer = zeros 57 })).count ≡ 57)
