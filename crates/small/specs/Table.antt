-- The paper's steps as one table, and the first row that fits. The names stand here as in src/table.rt, because a constant of src/ has no
-- name in the definitions. What a row must do is said by callcontrol's Rows, to which proofs/Same holds every row: one that differed from
-- src/ would be refused at `found`, one that differed from Rows at its cell there.
use Rattle.std.specs.Prelude.{ℕ, ◌+◌, ◌*◌, ◌/◌, ◌%◌, Bool, true, false, cond, not, ◌&&◌, ◌||◌, List, [], ◌∷◌, leb, eqb, get_or}
use Rattle.callcontrol.specs.declared.call.State.{State}
use Rattle.callcontrol.specs.declared.call.Path.{Path}
use Rattle.callcontrol.specs.declared.call.Call.{Call}
use Rattle.callcontrol.specs.Call.{runs, T301}
use Rattle.callcontrol.specs.Settle.{ALERT, BROKEN, CALL_ACTIVE, CANCEL, COMPLETE, CONFIRMED, ENDED, KEPT_PLANE, MO_CALL_SETUP, MODIFY_INDICATION, MT_CALL_SETUP, OVER, PLANE_2, PLANE_OFF, PROCEED, RELEASE, RELEASE_CONFIRM, RELEASE_INDICATION, RESTORING, SAME_PLANE, SENT, SETUP_CONFIRM, SETUP_INDICATION, START_301, START_302, START_303, START_306, START_310, STAY, STOP_301, STOP_302, STOP_303, STOP_306, TX_INDICATION, U_CALL_RESTORE, U_CONNECT, U_RELEASE, U_SETUP, U_TX_CEASED, U_TX_DEMAND, UP, WAIT}
use Rattle.small.specs.declared.flat.Flat.{Flat}
use Rattle.small.specs.declared.table.Situation.{Situation}
use Rattle.small.specs.Flat.{place, SETUP_REQUEST, SETUP_RESPONSE, RELEASE_REQUEST, TX_REQUEST, D_CALL_PROCEEDING, D_ALERT, D_CONNECT, D_CONNECT_ACKNOWLEDGE, D_SETUP, D_INFO, D_TX_GRANTED, D_TX_CEASED, D_TX_INTERRUPT, D_TX_WAIT, D_TX_CONTINUE, D_CALL_RESTORE, D_DISCONNECT, D_RELEASE, REPORT_SENT, REPORT_FAILED, BREAK, RESUME, EXPIRY, EXPIRY_308, EXPIRY_311}

-- where the call is

abbrev pub AT_IDLE : ℕ
AT_IDLE = 0x1000000000000

abbrev pub AT_MO : ℕ
AT_MO = 0x2000000000000

abbrev pub AT_MT : ℕ
AT_MT = 0x4000000000000

abbrev pub AT_UP : ℕ
AT_UP = 0x8000000000000

abbrev pub AT_BROKEN : ℕ
AT_BROKEN = 0x10000000000000

abbrev pub AT_RESTORING : ℕ
AT_RESTORING = 0x20000000000000

abbrev pub AT_WAIT : ℕ
AT_WAIT = 0x40000000000000

abbrev pub AT_DISCONNECT : ℕ
AT_DISCONNECT = 0x80000000000000

abbrev pub AT_CALL : ℕ
AT_CALL = AT_MO + AT_MT + AT_UP + AT_BROKEN + AT_RESTORING + AT_WAIT

abbrev pub on_path : Path → ℕ
on_path Path.Up = AT_UP
on_path Path.Broken = AT_BROKEN
on_path Path.Restoring = AT_RESTORING

abbrev pub in_state : State → Path → ℕ
in_state State.Idle p = AT_IDLE
in_state State.MoCallSetup p = AT_MO
in_state State.MtCallSetup p = AT_MT
in_state State.CallActive p = on_path p
in_state State.Wait p = AT_WAIT
in_state State.CallDisconnect p = AT_DISCONNECT

-- by the number of its bit
abbrev pub bit : Situation → ℕ
bit Situation.Idle = 48
bit Situation.Mo = 49
bit Situation.Mt = 50
bit Situation.Up = 51
bit Situation.Broken = 52
bit Situation.Restoring = 53
bit Situation.Wait = 54
bit Situation.Disconnect = 55

abbrev pub situation_of : Call → ℕ
situation_of c = in_state c.state c.path

-- the event, by its number

abbrev pub on : ℕ → ℕ
on event = event * 0x100000000000000

-- what must hold beside it, by its number in `facts_of`

abbrev pub if : ℕ → ℕ
if guard = guard * 0x2000000000000000

abbrev pub IF_UNSENT : ℕ
IF_UNSENT = if 1

abbrev pub IF_T301_STOPPED : ℕ
IF_T301_STOPPED = if 2

abbrev pub IF_T301_RUNS : ℕ
IF_T301_RUNS = if 2

abbrev pub IF_DEMAND : ℕ
IF_DEMAND = if 3

abbrev pub IF_CEASE_IN_PLANE_1 : ℕ
IF_CEASE_IN_PLANE_1 = if 4

abbrev pub IF_CEASE_ASKED : ℕ
IF_CEASE_ASKED = if 5

abbrev pub IF_CHANGES_ASKED : ℕ
IF_CHANGES_ASKED = if 6

abbrev pub IF_SAME_D : ℕ
IF_SAME_D = if 7

abbrev pub IF_G_3 : ℕ
IF_G_3 = if 7

abbrev pub IF_K_1 : ℕ
IF_K_1 = if 7

-- the facts that rows ask for: an expired timer runs; not sent; T301, which runs for D-CONNECT ACKNOWLEDGE and is stopped for SETUP response; the three of
-- TX request with path up; a TX request that changes asked; and D-INFO with the held mode, D-TX INTERRUPT with g = 3 or D-TX CONTINUE with k = 1
unfoldable pub facts_of : Call → Flat → List Bool
facts_of c f =
    cond (leb EXPIRY f.kind) (runs c (place f.timer)) true ∷
    eqb c.sent 0 ∷
    cond (eqb f.kind D_CONNECT_ACKNOWLEDGE) (runs c T301) (not (runs c T301)) ∷
    (eqb f.ask 1 && (eqb c.asked 0 && (eqb c.plane 2 || eqb c.plane 4))) ∷
    (not (eqb f.ask 1) && eqb c.plane 1) ∷
    (not (eqb f.ask 1) && eqb c.asked 1) ∷
    not (eqb c.asked f.ask) ∷
    cond (eqb f.kind D_INFO) (eqb f.mode c.mode) (cond (eqb f.kind D_TX_INTERRUPT) (eqb f.value 3) (eqb f.ask 1)) ∷
    []

-- what is stored and told, and what asked and the plane become

abbrev pub asked : ℕ → ℕ
asked rule = rule * 0x2000000

abbrev pub told : ℕ → ℕ
told value = value * 0x100000000000

abbrev pub STORE_I : ℕ
STORE_I = 0x40000000000

abbrev pub STORE_A_D : ℕ
STORE_A_D = 0x80000000000

abbrev pub ASKED_GIVEN : ℕ
ASKED_GIVEN = asked 1

abbrev pub ASKED_0 : ℕ
ASKED_0 = asked 2

abbrev pub ASKED_BY_G : ℕ
ASKED_BY_G = asked 3

abbrev pub ASKED_NEEDED : ℕ
ASKED_NEEDED = asked 4

abbrev pub ASKED_IF_TALKING : ℕ
ASKED_IF_TALKING = asked 5

abbrev pub ASKED_1 : ℕ
ASKED_1 = asked 6

abbrev pub BY_G : ℕ
BY_G = 0x7000

abbrev pub BY_G_OR_OFF : ℕ
BY_G_OR_OFF = 0x8000

abbrev pub C_1 : ℕ
C_1 = told 1

abbrev pub C_2 : ℕ
C_2 = told 2

abbrev pub C_3 : ℕ
C_3 = told 3

abbrev pub C_4 : ℕ
C_4 = told 4

abbrev pub X_4 : ℕ
X_4 = told 4

abbrev pub X_5 : ℕ
X_5 = told 5

abbrev pub X_6 : ℕ
X_6 = told 6

abbrev pub X_7 : ℕ
X_7 = told 7

abbrev pub X_8 : ℕ
X_8 = told 8

abbrev pub TELL_G : ℕ
TELL_G = told 9

abbrev pub TELL_S : ℕ
TELL_S = told 10

-- the rows, in the order of the events
unfoldable pub rows : List ℕ
rows =
    -- user events
    (AT_IDLE + on SETUP_REQUEST + MO_CALL_SETUP + STORE_A_D + ASKED_GIVEN + U_SETUP + TELL_S + START_303) ∷
    (AT_MT + on SETUP_RESPONSE + IF_T301_STOPPED + STAY + U_CONNECT + START_301) ∷
    (AT_MO + on RELEASE_REQUEST + IF_UNSENT + CANCEL + STOP_303 + RELEASE_CONFIRM + OVER) ∷
    (AT_CALL + on RELEASE_REQUEST + RELEASE + ASKED_0 + C_1) ∷
    (AT_UP + on TX_REQUEST + IF_DEMAND + STAY + U_TX_DEMAND + ASKED_1) ∷
    (AT_UP + on TX_REQUEST + IF_CEASE_IN_PLANE_1 + STAY + U_TX_CEASED + PLANE_OFF) ∷
    (AT_UP + on TX_REQUEST + IF_CEASE_ASKED + STAY + U_TX_CEASED + ASKED_0) ∷
    (AT_BROKEN + on TX_REQUEST + IF_CHANGES_ASKED + STAY + ASKED_GIVEN) ∷
    -- network events, in the order of a call
    (AT_MO + on D_CALL_PROCEEDING + STAY + STORE_I + SENT + STOP_303 + START_302 + PROCEED) ∷
    (AT_MO + on D_ALERT + STAY + STORE_I + SENT + STOP_303 + START_302 + ALERT) ∷
    (AT_MO + on D_CONNECT + CALL_ACTIVE + STORE_I + STORE_A_D + SENT + STOP_302 + STOP_303 + START_310 + BY_G_OR_OFF + ASKED_BY_G + SETUP_CONFIRM + TELL_G) ∷
    (AT_MT + on D_CONNECT_ACKNOWLEDGE + IF_T301_RUNS + CALL_ACTIVE + STOP_301 + START_310 + BY_G_OR_OFF + ASKED_BY_G + COMPLETE + TELL_G) ∷
    (AT_IDLE + on D_SETUP + MT_CALL_SETUP + STORE_I + STORE_A_D + SETUP_INDICATION) ∷
    (AT_UP + on D_INFO + IF_SAME_D + STAY + STORE_A_D + SAME_PLANE + MODIFY_INDICATION) ∷
    (AT_UP + on D_INFO + STAY + STORE_A_D + PLANE_OFF + MODIFY_INDICATION) ∷
    (AT_UP + on D_TX_GRANTED + STAY + BY_G + ASKED_BY_G + TX_INDICATION + TELL_G) ∷
    (AT_UP + on D_TX_CEASED + STAY + PLANE_OFF + TX_INDICATION + X_4) ∷
    (AT_UP + on D_TX_INTERRUPT + IF_G_3 + STAY + PLANE_2 + TX_INDICATION + X_5) ∷
    (AT_UP + on D_TX_INTERRUPT + STAY + PLANE_OFF + TX_INDICATION + X_5) ∷
    (AT_UP + on D_TX_WAIT + WAIT + PLANE_OFF + TX_INDICATION + X_6) ∷
    (AT_WAIT + on D_TX_CONTINUE + IF_K_1 + CALL_ACTIVE + KEPT_PLANE + TX_INDICATION + X_7) ∷
    (AT_WAIT + on D_TX_CONTINUE + CALL_ACTIVE + PLANE_OFF + TX_INDICATION + X_8) ∷
    (AT_RESTORING + on D_CALL_RESTORE + STAY + STOP_306 + UP + BY_G + ASKED_BY_G + TX_INDICATION + TELL_G) ∷
    (AT_DISCONNECT + on D_DISCONNECT + IF_UNSENT + CANCEL + ENDED + C_3 + U_RELEASE + STORE_I) ∷
    (AT_CALL + AT_DISCONNECT + on D_DISCONNECT + ENDED + C_3 + U_RELEASE + STORE_I) ∷
    (AT_DISCONNECT + on D_RELEASE + IF_UNSENT + CANCEL + ENDED + C_3) ∷
    (AT_DISCONNECT + on D_RELEASE + CONFIRMED) ∷
    (AT_CALL + on D_RELEASE + ENDED + C_3) ∷
    -- reports, the break of the radio link and its end
    (AT_MO + AT_DISCONNECT + on REPORT_SENT + IF_UNSENT + STAY + SENT) ∷
    (AT_MO + on REPORT_FAILED + IF_UNSENT + STOP_303 + RELEASE_INDICATION + C_4 + OVER) ∷
    (AT_DISCONNECT + on REPORT_FAILED + IF_UNSENT + CONFIRMED) ∷
    (AT_UP + on BREAK + STAY + BROKEN + PLANE_OFF + ASKED_IF_TALKING) ∷
    (AT_RESTORING + on BREAK + STAY + STOP_306 + BROKEN + PLANE_OFF) ∷
    (AT_WAIT + on BREAK + CALL_ACTIVE + BROKEN + PLANE_OFF + TX_INDICATION + X_8) ∷
    (AT_BROKEN + on RESUME + STAY + ASKED_NEEDED + RESTORING + U_CALL_RESTORE + START_306) ∷
    -- expiries
    (AT_CALL + on EXPIRY + RELEASE + ASKED_0 + C_2 + RELEASE_INDICATION) ∷
    (AT_DISCONNECT + on EXPIRY_308 + CONFIRMED) ∷
    (AT_UP + on EXPIRY_311 + STAY + U_TX_CEASED + PLANE_OFF) ∷
    []

-- a row fits
unfoldable pub fits : ℕ → ℕ → List Bool → ℕ → Bool
fits s k fs n =
    cond (eqb (n / 0x100000000000000 % 32) k) (cond (eqb (n / s % 2) 1) (get_or fs (n / 0x2000000000000000) false) false) false

-- the first that fits, 0 for none
unfoldable pub first_of : ℕ → ℕ → List Bool → List ℕ → ℕ
first_of s k fs [] = 0
first_of s k fs (n ∷ ns) = cond (fits s k fs n) n (first_of s k fs ns)
