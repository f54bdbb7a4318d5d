-- An event's numbers from one table of events and one of letters. An entry of events has the letters, four bits each and the first lowest; then the size, and the
-- kind, with a bit above it where the slots may follow; what each kind is, records' table says.
use Rattle.std.specs.Prelude.{ℕ, ◌+◌, ◌*◌, ◌-◌, ◌/◌, ◌%◌, ◌≤◌, Bool, true, cond, ◌&&◌, List, [], ◌∷◌, leb, ltb, eqb, length, get_or, set, Result, Ok, Err}
use Rattle.records.specs.Bytes.{number}
use Rattle.records.specs.Letters.{within}
use Rattle.records.specs.Bodies.{Found, is, bad_at, size, unreadable_number, unreadable_place}
use Rattle.records.specs.Tables.{Read, taken, refused, or_place}
use Rattle.records.specs.Events.{EventKind, event_row, setup_request, setup_response, release_request, tx_request, d_call_proceeding, d_alert, d_connect, d_connect_acknowledge, d_setup, d_info, d_tx_granted, d_tx_ceased, d_tx_interrupt, d_tx_wait, d_tx_continue, d_call_restore, d_disconnect, d_release, report_sent, report_failed, break, resume, expiry}
use Rattle.records.specs.declared.bodies.Unreadable.{Unreadable}
use Rattle.records.specs.declared.events.Event.{Event}
use Rattle.callcontrol.specs.declared.call.Call.{Call}
use Rattle.callcontrol.specs.Call.{T308, T311}
use Rattle.small.specs.declared.flat.Flat.{Flat}
use Rattle.small.specs.Flat.{EXPIRY, EXPIRY_308, EXPIRY_311, flat, flat_of}
use Rattle.small.specs.Entry.{spell, spelling}

-- the letters of events by number; one with an exception to its range is a letter of its own

abbrev pub A₁ : ℕ
A₁ = 1

abbrev pub A : ℕ
A = 2

abbrev pub I : ℕ
I = 3

abbrev pub I₀ : ℕ
I₀ = 4

abbrev pub N : ℕ
N = 5

abbrev pub D : ℕ
D = 6

abbrev pub Q : ℕ
Q = 7

abbrev pub K : ℕ
K = 8

abbrev pub G : ℕ
G = 9

abbrev pub R : ℕ
R = 10

abbrev pub O : ℕ
O = 11

abbrev pub O₁₆ : ℕ
O₁₆ = 12

abbrev pub S : ℕ
S = 13

-- the values of an event by place

abbrev pub ID : ℕ
ID = 0

abbrev pub ADDRESS : ℕ
ADDRESS = 1

abbrev pub MODE : ℕ
MODE = 2

abbrev pub ASK : ℕ
ASK = 3

abbrev pub VALUE : ℕ
VALUE = 4

abbrev pub RESET : ℕ
RESET = 5

abbrev pub CODE : ℕ
CODE = 6

abbrev pub TIMER : ℕ
TIMER = 7

abbrev pub SLOTS : ℕ
SLOTS = 8

-- a letter: where its value goes, how many bytes it takes, its least and its most
abbrev pub letter : ℕ → ℕ → ℕ → ℕ → ℕ
letter slot width least most = slot * 0x10000000 + width * 0x2000000 + least * 0x1000000 + most

abbrev pub unused : ℕ
unused = letter 0 1 0 0

-- the letters in the order of their numbers; which numbers a timer may have is looked at when all are read
abbrev pub letters : List ℕ
letters =
    unused ∷
    letter ADDRESS 4 1 16777215 ∷
    letter ADDRESS 4 0 16777215 ∷
    letter ID 2 1 16383 ∷
    letter ID 2 0 16383 ∷
    letter TIMER 2 0 65535 ∷
    letter MODE 1 0 1 ∷
    letter ASK 1 0 1 ∷
    letter ASK 1 0 1 ∷
    letter VALUE 1 0 3 ∷
    letter RESET 1 0 1 ∷
    letter CODE 1 0 15 ∷
    letter CODE 1 0 16 ∷
    letter SLOTS 1 1 4 ∷
    unused ∷
    unused ∷
    []

abbrev pub width_in : ℕ → ℕ
width_in e = e / 0x2000000 % 8

abbrev pub least_in : ℕ → ℕ
least_in e = e / 0x1000000 % 2

abbrev pub most_in : ℕ → ℕ
most_in e = e % 0x1000000

abbrev pub slot_in : ℕ → ℕ
slot_in e = e / 0x10000000 % 16

-- the values into their slots, or the place of the first that is wrong
unfoldable pub fill_by : ℕ → List ℕ → List ℕ → ℕ → (List ℕ → ℕ → Found (List ℕ)) → Found (List ℕ)
fill_by e v s at rest =
    cond (within (least_in e) (most_in e) (number (width_in e) s at)) (rest (set v (slot_in e) (number (width_in e) s at)) (at + width_in e)) (bad_at at)

unfoldable pub fill : List ℕ → List ℕ → List ℕ → ℕ → Found (List ℕ)
fill [] v s at = is v
fill (l ∷ ls) v s at = fill_by (get_or letters l 0) v s at (λ w next. fill ls w s next)

-- how many bytes the letters take
unfoldable pub total : List ℕ → ℕ
total [] = 0
total (l ∷ ls) = width_in (get_or letters l 0) + total ls

-- what each slot may hold
abbrev pub caps : List ℕ
caps = 0xffff ∷ 0xffffffff ∷ 0xff ∷ 0xff ∷ 0xff ∷ 0xff ∷ 0xff ∷ 0xffff ∷ 0xff ∷ []

abbrev pub Under : List ℕ → List ℕ → Type 0
Under [] cs = Unit {0}
Under (v ∷ vs) [] = ⊥
Under (v ∷ vs) (c ∷ cs) = (v ≤ c) × Under vs cs

-- the code's answer, with the values then
abbrev pub as_filled : Result Unit Unreadable → List ℕ → Read (List ℕ)
as_filled (Ok done) v = taken v
as_filled (Err u) v = refused (unreadable_number u) (unreadable_place u)

-- the definitions' answer
abbrev pub filled : Found (List ℕ) → Read (List ℕ)
filled x = or_place x taken

-- the place of a timer, 7 for none; and an expiry's number
unfoldable pub timer_place : ℕ → ℕ
timer_place n =
    cond (eqb n 301) 0
    (cond (eqb n 302) 1
    (cond (eqb n 303) 2 (cond (eqb n 306) 3 (cond (eqb n 308) 4 (cond (eqb n 310) 5 (cond (eqb n 311) 6 7))))))

unfoldable pub late_kind : ℕ → ℕ
late_kind t = cond (eqb t T308) EXPIRY_308 (cond (eqb t T311) EXPIRY_311 EXPIRY)

abbrev pub flat_by : ℕ → ℕ → List ℕ → Flat
flat_by kind timer v =
    flat kind (get_or v ADDRESS 0) (get_or v ID 0) (get_or v MODE 0) (get_or v ASK 0) (get_or v VALUE 0) (get_or v RESET 0) (get_or v CODE 0) (get_or v SLOTS 0) timer

-- what an event does not bring is as the call holds it; the timer is the first, and there are no slots
abbrev pub slots : Call → List ℕ
slots c = c.id ∷ c.address ∷ c.mode ∷ c.asked ∷ 0 ∷ 0 ∷ c.code ∷ 301 ∷ 0 ∷ []

unfoldable pub flat_at : ℕ → List ℕ → Read Flat
flat_at kind v =
    cond (eqb (timer_place (get_or v TIMER 0)) 7) (refused 4 4)
    (taken (flat_by (cond (eqb kind EXPIRY) (late_kind (timer_place (get_or v TIMER 0))) kind) (timer_place (get_or v TIMER 0)) v))

abbrev pub timed : ℕ → Found (List ℕ) → Read Flat
timed kind (is v) = flat_at kind v
timed kind (bad_at p) = refused 4 p

-- three or four letters, and the slots behind them
unfoldable pub with_slots : ℕ → ℕ
with_slots ls = cond (ltb ls 0x1000) (ls + S * 0x1000) (ls + S * 0x10000)

unfoldable pub one_more : ℕ → ℕ → ℕ → Bool
one_more entry size short = leb 0x80000000 entry && eqb size (short + 1)

-- the letters of a body of some size; 0x100000, more than any, where the event has no body of that size
unfoldable pub letters_for : ℕ → ℕ → ℕ
letters_for entry size =
    cond (eqb size (entry / 0x10000 % 16)) (entry % 0x10000)
    (cond (one_more entry size (entry / 0x10000 % 16)) (with_slots (entry % 0x10000)) 0x100000)

-- an entry's size is that of its letters, and where the slots may follow, it is one less than that of the letters with them
unfoldable pub sized_well : ℕ → Bool
sized_well entry =
    eqb (4 + total (spell 5 (entry % 0x10000))) (entry / 0x10000 % 16)
    && cond (leb 0x80000000 entry) (eqb (4 + total (spell 5 (with_slots (entry % 0x10000)))) (entry / 0x10000 % 16 + 1)) true

unfoldable pub body_for : ℕ → ℕ → Call → List ℕ → Read Flat
body_for ls kind c s = cond (eqb ls 0x100000) (refused 4 2) (timed kind (fill (spell 5 ls) (slots c) s 4))

unfoldable pub body_by : ℕ → ℕ → Call → List ℕ → Read Flat
body_by entry kind c s = body_for (letters_for entry (length s)) kind c s

-- where a kind's entry is
unfoldable pub hint_of : ℕ → ℕ
hint_of family = cond (eqb family 2) 4 (cond (eqb family 3) 18 (cond (eqb family 4) 22 0))

unfoldable pub place_of : ℕ → ℕ
place_of n = hint_of (n / 256 % 8) + n % 256

abbrev pub line : EventKind → List ℕ → ℕ
line kind ls = (event_row kind).number * 0x100000 + (4 + size (event_row kind).letters) * 0x10000 + spelling ls

abbrev pub OR_WITH_SLOTS : ℕ
OR_WITH_SLOTS = 0x80000000

-- the kind that an entry is of
abbrev pub kind_of : ℕ → ℕ
kind_of entry = entry / 0x100000 % 2048

-- the first is no kind's; the others in the paper's order
abbrev pub entries : List ℕ
entries =
    0x7ff40000 ∷
    (line setup_request (A₁ ∷ D ∷ Q ∷ []) + OR_WITH_SLOTS) ∷
    line setup_response [] ∷
    line release_request [] ∷
    line tx_request (K ∷ []) ∷
    line d_call_proceeding (I ∷ []) ∷
    line d_alert (I ∷ []) ∷
    (line d_connect (I ∷ G ∷ D ∷ O ∷ []) + OR_WITH_SLOTS) ∷
    line d_connect_acknowledge (I ∷ G ∷ O ∷ []) ∷
    line d_setup (I ∷ A ∷ D ∷ []) ∷
    (line d_info (I ∷ R ∷ O₁₆ ∷ D ∷ []) + OR_WITH_SLOTS) ∷
    line d_tx_granted (I ∷ G ∷ []) ∷
    line d_tx_ceased (I ∷ []) ∷
    line d_tx_interrupt (I ∷ G ∷ []) ∷
    line d_tx_wait (I ∷ []) ∷
    line d_tx_continue (I ∷ K ∷ []) ∷
    line d_call_restore (I ∷ G ∷ R ∷ O₁₆ ∷ []) ∷
    line d_disconnect (I₀ ∷ []) ∷
    line d_release (I₀ ∷ []) ∷
    line report_sent [] ∷
    line report_failed [] ∷
    line break [] ∷
    line resume [] ∷
    line expiry (N ∷ []) ∷
    []

-- MODIFY request, taken no more
abbrev pub RETIRED : ℕ
RETIRED = 0x105

unfoldable pub kind_by : ℕ → Call → List ℕ → Read Flat
kind_by n c s =
    cond (eqb n RETIRED) (refused 9 0)
    (cond (leb (place_of n) 23)
    (cond (eqb (kind_of (get_or entries (place_of n) 0)) n) (body_by (get_or entries (place_of n) 0) (place_of n - 1) c s) (refused 3 0))
    (refused 3 0))

-- the definitions' reading, with the event's numbers
abbrev pub flatted : Call → Read Event → Read Flat
flatted c (taken e) = taken (flat_of c e)
flatted c (refused n p) = refused n p
