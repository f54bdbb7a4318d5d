-- The eighteen places of the order of writing: which message stands at each, by its number, and with which values.
use Rattle.std.specs.Prelude.{ℕ, zero, suc, ◌+◌, ◌-◌, ◌/◌, ◌%◌, ◌^◌, ◌≡◌, Bool, false, cond, not, ◌&&◌, ◌||◌, List, [], ◌∷◌, ◌++◌, eqb, ltb, get_or, set}
use Rattle.callcontrol.specs.declared.call.Call.{Call}
use Rattle.callcontrol.specs.declared.row.Row.{Row}
use Rattle.callcontrol.specs.Settle.{has, settled}
use Rattle.small.specs.Entry.{entry_bytes, entries, U_PDUS, PRIMITIVES, STOP, START, CONFIGURE, CANCELLING, SETUP_WITH_SLOTS}

-- by the place, counted from its first
unfoldable pub timer_at : ℕ → ℕ
timer_at k =
    cond (eqb k 0) 301
    (cond (eqb k 1) 302
    (cond (eqb k 2) 303 (cond (eqb k 3) 306 (cond (eqb k 4) 308 (cond (eqb k 5) 310 (cond (eqb k 6) 311 0))))))

-- the timer's number and its code are the place's own
unfoldable pub values_for : ℕ → List ℕ → List ℕ
values_for k v = set (set v 6 (timer_at (k % 9))) 7 (cond (eqb k 14) (get_or v 0 0) 0)

-- values that differ in these two at most
pub record Alike (v w : List ℕ) : Type 0 where
  pub is : (k : ℕ) → values_for k v ≡ values_for k w

unfoldable pub place_bytes : ℕ → ℕ → List ℕ → List ℕ
place_bytes k n v = cond (eqb n 0) [] (entry_bytes (get_or entries n 0) (values_for k v))

-- so many places from one on
unfoldable pub places_from : ℕ → ℕ → (ℕ → ℕ) → List ℕ → List ℕ
places_from zero k f v = []
places_from (suc m) k f v = place_bytes k (f k) v ++ places_from m (suc k) f v

-- the number of the message that a row's digit orders
unfoldable pub number_of : ℕ → ℕ → ℕ → ℕ
number_of digit most before = cond (eqb digit 0) 0 (cond (ltb most digit) 0 (digit + before))

-- U-SETUP has an entry of its own where it carries slots
unfoldable pub pdu_of : ℕ → ℕ → ℕ
pdu_of digit value = cond (eqb digit 1 && not (eqb value 0)) SETUP_WITH_SLOTS (number_of digit U_PDUS 0)

-- what follows the STOPs: CANCEL, U-PDU, a START where one is ordered, CONFIGURE, user primitive
unfoldable pub number_after : Bool → ℕ → ℕ → ℕ → ℕ → ℕ
number_after start n value p k =
    cond (eqb k 7) (cond (has n 0x1000000) CANCELLING 0)
    (cond (eqb k 8) (pdu_of (n / 0x10000 % 16) value)
    (cond (ltb k 16) (cond start START 0) (cond (eqb k 16) (cond (not (eqb p 0)) CONFIGURE 0) (number_of (n / 0x100000 % 16) PRIMITIVES U_PDUS))))

-- the message at a place, by a row's orders, what it tells and its plane; 0 is none
unfoldable pub number_at : List Bool → List Bool → ℕ → ℕ → ℕ → ℕ → ℕ
number_at stops starts n value p k = cond (ltb k 7) (cond (get_or stops k false) STOP 0) (number_after (get_or starts (k - 9) false) n value p k)

-- the same by the orders' bits. Bit 28 and those after it stop a timer, bit 36 and those after it start one; T310 is started only with a limit and stopped
-- without, T311 goes with the plane, unless that is the present one; an expired timer did not run

unfoldable pub ordered : ℕ → ℕ → Bool
ordered n bit = eqb (n / 2 ^ bit % 2) 1

unfoldable pub tells_plane : ℕ → Bool
tells_plane n = not (eqb (n / 0x1000 % 16) 0) && not (eqb (n / 0x1000 % 16) 5)

unfoldable pub starts_at : ℕ → Bool → ℕ → ℕ → Bool → Bool
starts_at k bit code p told = cond (eqb k 6) (told && eqb p 1) (cond (eqb k 5) (bit && not (eqb code 0)) bit)

unfoldable pub stops_at : ℕ → Bool → Bool → Bool → Bool
stops_at k bit start told = cond (eqb k 6) (bit || told) (cond (eqb k 5) (bit || start) bit)

unfoldable pub ran_at : ℕ → ℕ → Bool → Bool
ran_at k n held = held && not (eqb (n / 0x100000000000 % 16) (k + 1))

unfoldable pub started : ℕ → ℕ → ℕ → ℕ → Bool
started n code p k = starts_at k (ordered n (36 + k)) code p (tells_plane n)

unfoldable pub stopped : ℕ → ℕ → Bool
stopped n k = stops_at k (ordered n (28 + k)) (ordered n (36 + k)) (tells_plane n)

unfoldable pub stop_of : ℕ → ℕ → ℕ → Bool → ℕ → Bool
stop_of n code p held k = (ran_at k n held && stopped n k) && not (started n code p k)

unfoldable pub runs_of : ℕ → ℕ → ℕ → Bool → ℕ → Bool
runs_of n code p held k = started n code p k || (ran_at k n held && not (stopped n k))

-- the timers after a place, and after so many places from one on
unfoldable pub turned : ℕ → ℕ → ℕ → ℕ → List Bool → List Bool
turned n code p k t = cond (ltb k 7) (set t k (runs_of n code p (get_or t k false) k)) t

unfoldable pub turns : ℕ → ℕ → ℕ → ℕ → ℕ → List Bool → List Bool
turns n code p zero k t = t
turns n code p (suc m) k t = turns n code p m (suc k) (turned n code p k t)

unfoldable pub number_in : ℕ → ℕ → ℕ → ℕ → List Bool → ℕ → ℕ
number_in n code value p t k =
    cond (ltb k 7) (cond (stop_of n code p (get_or t k false) k) STOP 0) (number_after (started n code p (k - 9)) n value p k)

-- a call that has ended holds no code
unfoldable pub code_of : ℕ → ℕ → ℕ
code_of n code = cond (eqb (n % 16) 7) 0 code

-- the values of a row's messages: T310's code, what the call holds then, what is told, the place's timer and its code, the plane, the slots
abbrev pub values_by : ℕ → ℕ → Row → List ℕ
values_by code plane r = code ∷ r.id ∷ r.address ∷ r.mode ∷ r.asked ∷ r.value ∷ 0 ∷ 0 ∷ plane ∷ r.slots ∷ []

-- the bytes of a row's messages
unfoldable pub bytes_by : Call → Row → List ℕ
bytes_by c r =
    places_from 18 0
    (number_at (settled c r).stops (settled c r).starts r.orders r.value (settled c r).configure)
    (values_by (settled c r).call.code (settled c r).configure r)
