-- What a row's number orders: a row of the code is a sum of orders and the values that it stores, and this is the draft that it stands
-- for. The contract is in Rows; here is only how the code says it.
-- The orders stand here once more because a constant of src/ has no name in the definitions: the prover sees its number alone. One that
-- differed would be refused where its row is held to that of Rows (proofs/Settled). So would a verb on timers that differed from the one
-- of Draft: here they work on flags alone, as the code does before there is a draft.
use Rattle.std.specs.Prelude.{ℕ, ◌+◌, ◌/◌, ◌%◌, Bool, true, false, cond, not, ◌&&◌, ◌||◌, List, Option, None, Some, eqb, get_or, set}
use Rattle.records.specs.declared.messages.Message.{Message}
use Rattle.callcontrol.specs.declared.call.State.{State}
use Rattle.callcontrol.specs.declared.call.Path.{Path}
use Rattle.callcontrol.specs.declared.call.Call.{Call}
use Rattle.callcontrol.specs.declared.draft.Drafted.{Drafted}
use Rattle.callcontrol.specs.Draft.{Slot, Draft}
use Rattle.callcontrol.specs.declared.row.Row.{Row}
use Rattle.callcontrol.specs.declared.settle.Timing.{Timing}
use Rattle.callcontrol.specs.Call.{fresh_call, none, T301, T302, T303, T306, T308, T310, T311}
use Rattle.callcontrol.specs.Draft.{◌▷◌, no_row}

-- the orders

abbrev pub STAY : ℕ
STAY = 0x1

abbrev pub MO_CALL_SETUP : ℕ
MO_CALL_SETUP = 0x2

abbrev pub MT_CALL_SETUP : ℕ
MT_CALL_SETUP = 0x3

abbrev pub CALL_ACTIVE : ℕ
CALL_ACTIVE = 0x4

abbrev pub WAIT : ℕ
WAIT = 0x5

abbrev pub CALL_DISCONNECT : ℕ
CALL_DISCONNECT = 0x6

abbrev pub OVER : ℕ
OVER = 0x7

abbrev pub UP : ℕ
UP = 0x10

abbrev pub BROKEN : ℕ
BROKEN = 0x20

abbrev pub RESTORING : ℕ
RESTORING = 0x30

abbrev pub UNSENT : ℕ
UNSENT = 0x100

abbrev pub SENT : ℕ
SENT = 0x200

abbrev pub PLANE_1 : ℕ
PLANE_1 = 0x1000

abbrev pub PLANE_2 : ℕ
PLANE_2 = 0x2000

abbrev pub PLANE_3 : ℕ
PLANE_3 = 0x3000

abbrev pub PLANE_OFF : ℕ
PLANE_OFF = 0x4000

abbrev pub SAME_PLANE : ℕ
SAME_PLANE = 0x5000

abbrev pub KEPT_PLANE : ℕ
KEPT_PLANE = 0x6000

abbrev pub U_SETUP : ℕ
U_SETUP = 0x10000

abbrev pub U_CONNECT : ℕ
U_CONNECT = 0x20000

abbrev pub U_DISCONNECT : ℕ
U_DISCONNECT = 0x30000

abbrev pub U_RELEASE : ℕ
U_RELEASE = 0x40000

abbrev pub U_TX_DEMAND : ℕ
U_TX_DEMAND = 0x50000

abbrev pub U_TX_CEASED : ℕ
U_TX_CEASED = 0x60000

abbrev pub U_CALL_RESTORE : ℕ
U_CALL_RESTORE = 0x70000

abbrev pub SETUP_INDICATION : ℕ
SETUP_INDICATION = 0x100000

abbrev pub SETUP_CONFIRM : ℕ
SETUP_CONFIRM = 0x200000

abbrev pub PROCEED : ℕ
PROCEED = 0x300000

abbrev pub ALERT : ℕ
ALERT = 0x400000

abbrev pub COMPLETE : ℕ
COMPLETE = 0x500000

abbrev pub RELEASE_INDICATION : ℕ
RELEASE_INDICATION = 0x600000

abbrev pub RELEASE_CONFIRM : ℕ
RELEASE_CONFIRM = 0x700000

abbrev pub TX_INDICATION : ℕ
TX_INDICATION = 0x800000

abbrev pub MODIFY_INDICATION : ℕ
MODIFY_INDICATION = 0x900000

abbrev pub CANCEL : ℕ
CANCEL = 0x1000000

abbrev pub STOP_301 : ℕ
STOP_301 = 0x10000000

abbrev pub STOP_302 : ℕ
STOP_302 = 0x20000000

abbrev pub STOP_303 : ℕ
STOP_303 = 0x40000000

abbrev pub STOP_306 : ℕ
STOP_306 = 0x80000000

abbrev pub STOP_308 : ℕ
STOP_308 = 0x100000000

abbrev pub STOP_310 : ℕ
STOP_310 = 0x200000000

abbrev pub STOP_311 : ℕ
STOP_311 = 0x400000000

abbrev pub STOP_ALL : ℕ
STOP_ALL = 0x7f0000000

abbrev pub START_301 : ℕ
START_301 = 0x1000000000

abbrev pub START_302 : ℕ
START_302 = 0x2000000000

abbrev pub START_303 : ℕ
START_303 = 0x4000000000

abbrev pub START_306 : ℕ
START_306 = 0x8000000000

abbrev pub START_308 : ℕ
START_308 = 0x10000000000

abbrev pub START_310 : ℕ
START_310 = 0x20000000000

abbrev pub EXPIRED_301 : ℕ
EXPIRED_301 = 0x100000000000

abbrev pub EXPIRED_302 : ℕ
EXPIRED_302 = 0x200000000000

abbrev pub EXPIRED_303 : ℕ
EXPIRED_303 = 0x300000000000

abbrev pub EXPIRED_306 : ℕ
EXPIRED_306 = 0x400000000000

abbrev pub EXPIRED_308 : ℕ
EXPIRED_308 = 0x500000000000

abbrev pub EXPIRED_310 : ℕ
EXPIRED_310 = 0x600000000000

abbrev pub EXPIRED_311 : ℕ
EXPIRED_311 = 0x700000000000

-- the network has ended the call, the end that this side asked for, and this side ends the call

abbrev pub ENDED : ℕ
ENDED = STOP_ALL + PLANE_OFF + RELEASE_INDICATION + OVER

abbrev pub CONFIRMED : ℕ
CONFIRMED = STOP_ALL + PLANE_OFF + RELEASE_CONFIRM + OVER

abbrev pub RELEASE : ℕ
RELEASE = STOP_ALL + U_DISCONNECT + START_308 + PLANE_OFF + UNSENT + UP + CALL_DISCONNECT

-- whether an order of one bit is in the sum
unfoldable pub has : ℕ → ℕ → Bool
has n bit = eqb (n / bit % 2) 1

-- timers

unfoldable pub timing : List Bool → Timing
timing ts = record { running = ts; stops = none; starts = none }

unfoldable pub expire_timer : ℕ → Timing → Timing
expire_timer k t = record { running = set t.running k false; stops = t.stops; starts = t.starts }

unfoldable pub stop_timer : ℕ → Timing → Timing
stop_timer k t =
    record {
      running = set t.running k false;
      stops = set t.stops k (get_or t.running k false || get_or t.stops k false);
      starts = t.starts;
    }

unfoldable pub start_timer : ℕ → Timing → Timing
start_timer k t =
    record { running = set t.running k true; stops = set t.stops k false; starts = set t.starts k true }

unfoldable pub stop_if : Bool → ℕ → Timing → Timing
stop_if b k t = cond b (stop_timer k t) t

unfoldable pub start_if : Bool → ℕ → Timing → Timing
start_if b k t = cond b (start_timer k t) t

-- T310 with the code that is stored; 0 is no limit
unfoldable pub limit_timer : ℕ → Timing → Timing
limit_timer o t =
    record {
      running = set t.running T310 (not (eqb o 0));
      stops = set t.stops T310 (not (not (eqb o 0)) && (get_or t.running T310 false || get_or t.stops T310 false));
      starts = set t.starts T310 (not (eqb o 0));
    }

unfoldable pub limit_if : Bool → ℕ → Timing → Timing
limit_if b o t = cond b (limit_timer o t) t

-- the timer that expired: 1 to 7 in the order of their numbers, 0 for none
unfoldable pub expired_by : ℕ → Timing → Timing
expired_by n t =
    cond (eqb n 1) (expire_timer T301 t)
    (cond (eqb n 2) (expire_timer T302 t)
    (cond (eqb n 3) (expire_timer T303 t)
    (cond (eqb n 4) (expire_timer T306 t)
    (cond (eqb n 5) (expire_timer T308 t) (cond (eqb n 6) (expire_timer T310 t) (cond (eqb n 7) (expire_timer T311 t) t))))))

-- the stops, then the starts; T311 is started with plane 1
unfoldable pub ordered_by : ℕ → ℕ → Timing → Timing
ordered_by n o t =
    cond (eqb (n / STOP_301 % 0x10000) 0) t
    (t
    ▷ stop_if (has n STOP_301) T301
    ▷ stop_if (has n STOP_302) T302
    ▷ stop_if (has n STOP_303) T303
    ▷ stop_if (has n STOP_306) T306
    ▷ stop_if (has n STOP_308) T308
    ▷ stop_if (has n STOP_310) T310
    ▷ stop_if (has n STOP_311) T311
    ▷ start_if (has n START_301) T301
    ▷ start_if (has n START_302) T302
    ▷ start_if (has n START_303) T303
    ▷ start_if (has n START_306) T306
    ▷ start_if (has n START_308) T308
    ▷ limit_if (has n START_310) o)

-- a plane: plane 1 starts T311, another plane stops it; 0 is no plane, and 5 the present one once more
unfoldable pub plane_timer : ℕ → ℕ → Timing → Timing
plane_timer p configure t =
    cond (eqb p 0) t (cond (eqb p 5) t (cond (eqb configure 1) (start_timer T311 t) (stop_timer T311 t)))

unfoldable pub timing_by : ℕ → ℕ → List Bool → ℕ → Timing
timing_by n o ts configure = timing ts ▷ expired_by (n / EXPIRED_301 % 16) ▷ ordered_by n o ▷ plane_timer (n / PLANE_1 % 16) configure

-- what the call holds then

unfoldable pub configure_by : ℕ → Call → ℕ
configure_by p c = cond (eqb p 5) c.plane (cond (eqb p 6) c.kept p)

unfoldable pub plane_by : ℕ → ℕ → ℕ → ℕ
plane_by p configure held = cond (eqb p 0) held configure

unfoldable pub state_by : ℕ → State → State
state_by n held =
    cond (eqb n 2) State.MoCallSetup
    (cond (eqb n 3) State.MtCallSetup
    (cond (eqb n 4) State.CallActive (cond (eqb n 5) State.Wait (cond (eqb n 6) State.CallDisconnect held))))

unfoldable pub kept_by : ℕ → Call → ℕ
kept_by n c = cond (eqb n 1) c.kept (cond (eqb n 5) c.plane 4)

unfoldable pub path_by : ℕ → Path → Path
path_by n held = cond (eqb n 1) Path.Up (cond (eqb n 2) Path.Broken (cond (eqb n 3) Path.Restoring held))

unfoldable pub sent_by : ℕ → ℕ → ℕ
sent_by n held = cond (eqb n 1) 0 (cond (eqb n 2) 1 held)

unfoldable pub next_by : Call → Row → ℕ → List Bool → Call
next_by c r configure ts =
    cond (eqb (r.orders % 16) 7) fresh_call
    (record { state = state_by (r.orders % 16) c.state; id = r.id; address = r.address; mode = r.mode; asked = r.asked; sent = sent_by (r.orders / UNSENT % 16) c.sent; path = path_by (r.orders / UP % 16) c.path; plane = plane_by (r.orders / PLANE_1 % 16) configure c.plane; kept = kept_by (r.orders % 16) c; code = r.code; slots = r.slots; timers = ts })

-- the messages

unfoldable pub pdu_by : Row → Slot
pdu_by r =
    cond (eqb (r.orders / U_SETUP % 16) 1) (Slot.Holds (Message.USetup r.address r.mode r.asked r.value))
    (cond (eqb (r.orders / U_SETUP % 16) 2) (Slot.Holds (Message.UConnect r.id))
    (cond (eqb (r.orders / U_SETUP % 16) 3) (Slot.Holds (Message.UDisconnect r.id r.value))
    (cond (eqb (r.orders / U_SETUP % 16) 4) (Slot.Holds (Message.URelease r.id))
    (cond (eqb (r.orders / U_SETUP % 16) 5) (Slot.Holds (Message.UTxDemand r.id))
    (cond (eqb (r.orders / U_SETUP % 16) 6) (Slot.Holds (Message.UTxCeased r.id))
    (cond (eqb (r.orders / U_SETUP % 16) 7) (Slot.Holds (Message.UCallRestore r.id r.address r.asked)) Slot.Empty))))))

unfoldable pub user_by : Row → Slot
user_by r =
    cond (eqb (r.orders / SETUP_INDICATION % 16) 1) (Slot.Holds (Message.SetupIndication r.id r.address r.mode))
    (cond (eqb (r.orders / SETUP_INDICATION % 16) 2) (Slot.Holds (Message.SetupConfirm r.id r.value))
    (cond (eqb (r.orders / SETUP_INDICATION % 16) 3) (Slot.Holds Message.Proceed)
    (cond (eqb (r.orders / SETUP_INDICATION % 16) 4) (Slot.Holds Message.Alert)
    (cond (eqb (r.orders / SETUP_INDICATION % 16) 5) (Slot.Holds (Message.Complete r.value))
    (cond (eqb (r.orders / SETUP_INDICATION % 16) 6) (Slot.Holds (Message.ReleaseIndication r.value))
    (cond (eqb (r.orders / SETUP_INDICATION % 16) 7) (Slot.Holds Message.ReleaseConfirm)
    (cond (eqb (r.orders / SETUP_INDICATION % 16) 8) (Slot.Holds (Message.TxIndication r.value))
    (cond (eqb (r.orders / SETUP_INDICATION % 16) 9) (Slot.Holds (Message.ModifyIndication r.mode r.slots)) Slot.Empty))))))))

-- the draft that a row stands for, where it is one
unfoldable pub settled : Call → Row → Draft
settled c r =
    record {
      call = next_by c r (configure_by (r.orders / PLANE_1 % 16) c) (timing_by r.orders r.code c.timers (configure_by (r.orders / PLANE_1 % 16) c)).running;
      stops = (timing_by r.orders r.code c.timers (configure_by (r.orders / PLANE_1 % 16) c)).stops;
      starts = (timing_by r.orders r.code c.timers (configure_by (r.orders / PLANE_1 % 16) c)).starts;
      cancel = has r.orders CANCEL;
      pdu = pdu_by r;
      configure = configure_by (r.orders / PLANE_1 % 16) c;
      user = user_by r;
      taken = true;
    }

-- the draft that the code's stands for: the row's digits say its messages. The code makes one only where there is a row
abbrev pub as_draft : Drafted → Draft
as_draft d =
    record
    { call = d.call; stops = d.stops; starts = d.starts; cancel = has d.row.orders CANCEL; pdu = pdu_by d.row; configure = d.configure; user = user_by d.row; taken = true }

-- no row, or the draft that the row stands for
abbrev pub draft_of : Call → Option Row → Draft
draft_of c None = no_row c
draft_of c (Some r) = settled c r

-- rows that store little, as the code makes them

-- stores nothing
abbrev pub row_of : Call → ℕ → ℕ → Row
row_of c n v = record { orders = n; id = c.id; address = c.address; mode = c.mode; asked = c.asked; code = c.code; slots = c.slots; value = v }

-- stores asked
abbrev pub row_asking : Call → ℕ → ℕ → ℕ → Row
row_asking c n q v = record { orders = n; id = c.id; address = c.address; mode = c.mode; asked = q; code = c.code; slots = c.slots; value = v }

-- stores the identifier
abbrev pub row_naming : Call → ℕ → ℕ → ℕ → Row
row_naming c n i v = record { orders = n; id = i; address = c.address; mode = c.mode; asked = c.asked; code = c.code; slots = c.slots; value = v }

-- grant rule G: the plane of a grant, and what asked is then
unfoldable pub plane_granted : ℕ → ℕ → ℕ
plane_granted g d = cond (eqb g 0) (cond (eqb d 1) PLANE_3 PLANE_1) (cond (eqb g 3) PLANE_2 0)

-- G, with off for 1 and 2
unfoldable pub plane_or_off : ℕ → ℕ → ℕ
plane_or_off g d = cond (eqb g 1) PLANE_OFF (cond (eqb g 2) PLANE_OFF (plane_granted g d))

unfoldable pub asked_after : ℕ → ℕ → ℕ
asked_after g q = cond (eqb g 0) 0 (cond (eqb g 1) 0 q)

-- T310 anew, and its code then
unfoldable pub restarting : ℕ → ℕ
restarting r = cond (eqb r 1) START_310 0

unfoldable pub code_after : ℕ → ℕ → ℕ → ℕ
code_after r o held = cond (eqb r 1) (cond (eqb o 16) held o) held

-- the slots then
unfoldable pub slots_after : ℕ → ℕ → ℕ
slots_after s held = cond (eqb s 0) held s
