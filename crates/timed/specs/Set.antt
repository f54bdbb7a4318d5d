-- A set: the record of a call and its bank of timers together. What makes it one, and what a turn of the step makes of it. Record, rows and
-- messages are the paper's; that the two are kept together is the house's.
use Rattle.std.specs.Prelude.{ℕ, Bool, false, ◌&&◌, List, [], ◌∷◌, leb, length, get_or}
use Rattle.std.specs.Bool.{beq}
use Rattle.records.specs.declared.messages.Message.{Message}
use Rattle.records.specs.declared.messages.Message.TheVariants.{USetup, UConnect, UDisconnect, URelease, UInfo, UTxDemand, UTxCeased, UCallRestore, Stop, Start, Configure, Cancel, Place, ChannelAnswer, SetupIndication, SetupConfirm, Proceed, Alert, Complete, ReleaseIndication, ReleaseConfirm, TxIndication, ModifyIndication}
use Rattle.timers.specs.declared.bank.Bank.{Bank}
use Rattle.timers.specs.Due.{count_of}
use Rattle.timers.specs.Bank.{new_bank, started, keys_at, handed_at, advanced_to}
use Rattle.callcontrol.specs.Call.{fresh_call, sound}
use Rattle.demands.specs.Runs.{Turn, next, written_by}
use Rattle.timed.specs.declared.set.Timed.{Timed}

-- made with a first reading: the fresh record, and no timer runs
abbrev pub new_of : ℕ → Timed
new_of reading = record { call = fresh_call; bank = new_bank reading }

-- the same seven flags
unfoldable pub same_flags : List Bool → List Bool → Bool
same_flags a b =
    beq (get_or a 0 false) (get_or b 0 false) && beq (get_or a 1 false) (get_or b 1 false) && beq (get_or a 2 false) (get_or b 2 false)
    && beq (get_or a 3 false) (get_or b 3 false) && beq (get_or a 4 false) (get_or b 4 false)
    && beq (get_or a 5 false) (get_or b 5 false) && beq (get_or a 6 false) (get_or b 6 false)

-- a set: the record is sound, and the bank's timers are the record's
unfoldable pub is_set : Timed → Bool
is_set t = sound t.call && same_flags t.bank.running t.call.timers

-- a length is 1 to 2^30
unfoldable pub is_length : ℕ → Bool
is_length length = leb 1 length && leb length 1073741824

-- the lengths of T301 T302 T303 T306 T308 T311, and T310's for codes 1 to 15
unfoldable pub timers_right : List ℕ → Bool
timers_right lengths =
    is_length (get_or lengths 0 0) && is_length (get_or lengths 1 0) && is_length (get_or lengths 2 0) && is_length (get_or lengths 3 0)
    && is_length (get_or lengths 4 0) && is_length (get_or lengths 5 0)

unfoldable pub limits_right : List ℕ → Bool
limits_right lengths =
    is_length (get_or lengths 7 0) && is_length (get_or lengths 8 0) && is_length (get_or lengths 9 0) && is_length (get_or lengths 10 0)
    && is_length (get_or lengths 11 0) && is_length (get_or lengths 12 0) && is_length (get_or lengths 13 0) && is_length (get_or lengths 14 0)
    && is_length (get_or lengths 15 0) && is_length (get_or lengths 16 0) && is_length (get_or lengths 17 0) && is_length (get_or lengths 18 0)
    && is_length (get_or lengths 19 0) && is_length (get_or lengths 20 0) && is_length (get_or lengths 21 0)

-- the bank's table of 22 lengths. Entry 6, T310's for code 0, is not looked at: no step starts T310 with code 0
unfoldable pub table_right : List ℕ → Bool
table_right lengths = leb 22 (length lengths) && (timers_right lengths && limits_right lengths)

-- how many timers are due at a reading, and the first of them, by the bank's rule
abbrev pub due_at : Timed → ℕ → ℕ
due_at t reading = count_of (keys_at t.bank reading)

abbrev pub first_due : Timed → ℕ → ℕ
first_due t reading = get_or (handed_at t.bank reading) 0 0

-- START is done on the bank; no other message sets a deadline
unfoldable pub started_by : List ℕ → Bank → Message → Bank
started_by lengths b (USetup a d q s) = b
started_by lengths b (UConnect i) = b
started_by lengths b (UDisconnect i c) = b
started_by lengths b (URelease i) = b
started_by lengths b (UInfo i d) = b
started_by lengths b (UTxDemand i) = b
started_by lengths b (UTxCeased i) = b
started_by lengths b (UCallRestore i a q) = b
started_by lengths b (Stop n) = b
started_by lengths b (Start n o) = (started b lengths n o).bank
started_by lengths b (Configure p) = b
started_by lengths b Cancel = b
started_by lengths b (Place at) = b
started_by lengths b (ChannelAnswer n v) = b
started_by lengths b (SetupIndication i a d) = b
started_by lengths b (SetupConfirm i g) = b
started_by lengths b Proceed = b
started_by lengths b Alert = b
started_by lengths b (Complete g) = b
started_by lengths b (ReleaseIndication c) = b
started_by lengths b ReleaseConfirm = b
started_by lengths b (TxIndication x) = b
started_by lengths b (ModifyIndication d s) = b

unfoldable pub started_all : List ℕ → Bank → List Message → Bank
started_all lengths b [] = b
started_all lengths b (m ∷ ms) = started_all lengths (started_by lengths b m) ms

-- the same bank with other flags
abbrev pub with_flags : List Bool → Bank → Bank
with_flags flags b = record { last = b.last; deadlines = b.deadlines; running = flags }

-- the set at a reading: the bank accepts it, and the record's timers run on
unfoldable pub held_at : Timed → ℕ → Timed
held_at t reading = record { call = t.call; bank = with_flags t.call.timers (advanced_to t.bank reading) }

-- the set after a turn of the step at a reading: the bank accepts it, the STARTs that the turn writes count from it, and the timers of the next
-- record run
unfoldable pub turned : Timed → List ℕ → ℕ → Turn → Timed
turned t lengths reading turn =
    record {
      call = next t.call turn;
      bank = with_flags (next t.call turn).timers (started_all lengths (advanced_to t.bank reading) (written_by t.call turn));
    }
