-- An event as numbers: which one it is, and the values that it brings. A value that it does not bring is the one that the call holds;
-- slots that it does not bring are 0.
use Rattle.std.specs.Prelude.{ℕ, cond, eqb}
use Rattle.records.specs.declared.events.Event.{Event}
use Rattle.records.specs.declared.events.Event.TheVariants.{SetupRequest, SetupResponse, ReleaseRequest, TxRequest, DCallProceeding, DAlert, DConnect, DConnectAcknowledge, DSetup, DInfo, DTxGranted, DTxCeased, DTxInterrupt, DTxWait, DTxContinue, DCallRestore, DDisconnect, DRelease, ReportSent, ReportFailed, Break, Resume, Expiry}
use Rattle.callcontrol.specs.declared.call.Call.{Call}
use Rattle.callcontrol.specs.Call.{T301, T302, T303, T306, T308, T310, T311}
use Rattle.small.specs.declared.flat.Flat.{Flat}
use Rattle.small.specs.declared.flat.Timer.{Timer}

-- the events by number, in the paper's order; T308 and T311 have rows of their own

abbrev pub SETUP_REQUEST : ℕ
SETUP_REQUEST = 0

abbrev pub SETUP_RESPONSE : ℕ
SETUP_RESPONSE = 1

abbrev pub RELEASE_REQUEST : ℕ
RELEASE_REQUEST = 2

abbrev pub TX_REQUEST : ℕ
TX_REQUEST = 3

abbrev pub D_CALL_PROCEEDING : ℕ
D_CALL_PROCEEDING = 4

abbrev pub D_ALERT : ℕ
D_ALERT = 5

abbrev pub D_CONNECT : ℕ
D_CONNECT = 6

abbrev pub D_CONNECT_ACKNOWLEDGE : ℕ
D_CONNECT_ACKNOWLEDGE = 7

abbrev pub D_SETUP : ℕ
D_SETUP = 8

abbrev pub D_INFO : ℕ
D_INFO = 9

abbrev pub D_TX_GRANTED : ℕ
D_TX_GRANTED = 10

abbrev pub D_TX_CEASED : ℕ
D_TX_CEASED = 11

abbrev pub D_TX_INTERRUPT : ℕ
D_TX_INTERRUPT = 12

abbrev pub D_TX_WAIT : ℕ
D_TX_WAIT = 13

abbrev pub D_TX_CONTINUE : ℕ
D_TX_CONTINUE = 14

abbrev pub D_CALL_RESTORE : ℕ
D_CALL_RESTORE = 15

abbrev pub D_DISCONNECT : ℕ
D_DISCONNECT = 16

abbrev pub D_RELEASE : ℕ
D_RELEASE = 17

abbrev pub REPORT_SENT : ℕ
REPORT_SENT = 18

abbrev pub REPORT_FAILED : ℕ
REPORT_FAILED = 19

abbrev pub BREAK : ℕ
BREAK = 20

abbrev pub RESUME : ℕ
RESUME = 21

abbrev pub EXPIRY : ℕ
EXPIRY = 22

abbrev pub EXPIRY_308 : ℕ
EXPIRY_308 = 23

abbrev pub EXPIRY_311 : ℕ
EXPIRY_311 = 24

-- no timer's expiry
abbrev pub EXPIRY_NONE : ℕ
EXPIRY_NONE = 25

-- a timer's place, and the timer at one

abbrev pub place : Timer → ℕ
place Timer.T301 = 0
place Timer.T302 = 1
place Timer.T303 = 2
place Timer.T306 = 3
place Timer.T308 = 4
place Timer.T310 = 5
place Timer.T311 = 6

abbrev pub timer_in : ℕ → Timer
timer_in k =
    cond (eqb k 1) Timer.T302
    (cond (eqb k 2) Timer.T303 (cond (eqb k 3) Timer.T306 (cond (eqb k 4) Timer.T308 (cond (eqb k 5) Timer.T310 (cond (eqb k 6) Timer.T311 Timer.T301)))))

abbrev pub flat : ℕ → ℕ → ℕ → ℕ → ℕ → ℕ → ℕ → ℕ → ℕ → ℕ → Flat
flat kind address id mode ask value reset code slots timer =
    record { kind = kind; address = address; id = id; mode = mode; ask = ask; value = value; reset = reset; code = code; slots = slots; timer = timer_in timer }

-- an event that brings nothing, an identifier, or the place of a timer

abbrev pub bare : ℕ → Call → Flat
bare k c = flat k c.address c.id c.mode c.asked 0 0 c.code 0 0

abbrev pub named : ℕ → Call → ℕ → Flat
named k c i = flat k c.address i c.mode c.asked 0 0 c.code 0 0

abbrev pub late : ℕ → Call → ℕ → Flat
late k c t = flat k c.address c.id c.mode c.asked 0 0 c.code 0 t

unfoldable pub expired_of : Call → ℕ → Flat
expired_of c n =
    cond (eqb n 311) (late EXPIRY_311 c T311)
    (cond (eqb n 308) (late EXPIRY_308 c T308)
    (cond (eqb n 301) (late EXPIRY c T301)
    (cond (eqb n 302) (late EXPIRY c T302)
    (cond (eqb n 303) (late EXPIRY c T303)
    (cond (eqb n 306) (late EXPIRY c T306) (cond (eqb n 310) (late EXPIRY c T310) (late EXPIRY_NONE c T301)))))))

unfoldable pub flat_of : Call → Event → Flat
flat_of c (SetupRequest a d q s) = flat SETUP_REQUEST a c.id d q 0 0 c.code s 0
flat_of c SetupResponse = bare SETUP_RESPONSE c
flat_of c ReleaseRequest = bare RELEASE_REQUEST c
flat_of c (TxRequest k) = flat TX_REQUEST c.address c.id c.mode k 0 0 c.code 0 0
flat_of c (DCallProceeding i) = named D_CALL_PROCEEDING c i
flat_of c (DAlert i) = named D_ALERT c i
flat_of c (DConnect i g d o s) = flat D_CONNECT c.address i d c.asked g 0 o s 0
flat_of c (DConnectAcknowledge i g o) = flat D_CONNECT_ACKNOWLEDGE c.address i c.mode c.asked g 0 o 0 0
flat_of c (DSetup i a d) = flat D_SETUP a i d c.asked 0 0 c.code 0 0
flat_of c (DInfo i r o d s) = flat D_INFO c.address i d c.asked 0 r o s 0
flat_of c (DTxGranted i g) = flat D_TX_GRANTED c.address i c.mode c.asked g 0 c.code 0 0
flat_of c (DTxCeased i) = named D_TX_CEASED c i
flat_of c (DTxInterrupt i g) = flat D_TX_INTERRUPT c.address i c.mode c.asked g 0 c.code 0 0
flat_of c (DTxWait i) = named D_TX_WAIT c i
flat_of c (DTxContinue i k) = flat D_TX_CONTINUE c.address i c.mode k 0 0 c.code 0 0
flat_of c (DCallRestore i g r o) = flat D_CALL_RESTORE c.address i c.mode c.asked g r o 0 0
flat_of c (DDisconnect i) = named D_DISCONNECT c i
flat_of c (DRelease i) = named D_RELEASE c i
flat_of c ReportSent = bare REPORT_SENT c
flat_of c ReportFailed = bare REPORT_FAILED c
flat_of c Break = bare BREAK c
flat_of c Resume = bare RESUME c
flat_of c (Expiry n) = expired_of c n
