-- The table of messages. An entry has the letters, four bits each and the first lowest, then the size, then the kind; what each kind is, records'
-- table says.
use Rattle.std.specs.Prelude.{ℕ, zero, suc, ◌+◌, ◌*◌, ◌/◌, ◌%◌, Bool, true, cond, ◌&&◌, List, [], ◌∷◌, ◌++◌, eqb, ltb, get_or}
use Rattle.records.specs.Bytes.{bytes}
use Rattle.records.specs.Bodies.{size}
use Rattle.records.specs.Messages.{MessageKind, message_row, u_setup, u_setup_slots, u_connect, u_disconnect, u_release, u_tx_demand, u_tx_ceased, u_call_restore, stop, start, configure, cancel, setup_indication, setup_confirm, proceed, alert, complete, release_indication, release_confirm, tx_indication, modify_indication}

-- the letters of messages by number; TOLD is what the row tells: c, g, x, or the slots of a SETUP request

abbrev pub I : ℕ
I = 1

abbrev pub A : ℕ
A = 2

abbrev pub D : ℕ
D = 3

abbrev pub Q : ℕ
Q = 4

abbrev pub TOLD : ℕ
TOLD = 5

abbrev pub N : ℕ
N = 6

abbrev pub O : ℕ
O = 7

abbrev pub P : ℕ
P = 8

abbrev pub S : ℕ
S = 9

-- how many bytes each takes
unfoldable pub width_of : ℕ → ℕ
width_of l = cond (eqb l 0) 0 (cond (eqb l I) 2 (cond (eqb l A) 4 (cond (eqb l N) 2 1)))

-- a number's letters, the most so many of them; and the number that some letters make
unfoldable pub spell : ℕ → ℕ → List ℕ
spell zero n = []
spell (suc most) n = cond (eqb n 0) [] (n % 16 ∷ spell most (n / 16))

abbrev pub spelling : List ℕ → ℕ
spelling [] = 0
spelling (l ∷ ls) = l + 16 * spelling ls

-- each is a letter
unfoldable pub spelled : List ℕ → Bool
spelled [] = true
spelled (l ∷ ls) = ltb l 10 && spelled ls

unfoldable pub body : List ℕ → List ℕ → List ℕ
body [] v = []
body (l ∷ ls) v = bytes (width_of l) (get_or v l 0) ++ body ls v

unfoldable pub entry_bytes : ℕ → List ℕ → List ℕ
entry_bytes n v = bytes 4 (n / 0x10000 % 16 + n / 0x100000 * 0x10000) ++ body (spell 4 (n % 0x10000)) v

abbrev pub line : MessageKind → List ℕ → ℕ
line kind ls = (message_row kind).number * 0x100000 + (4 + size (message_row kind).letters) * 0x10000 + spelling ls

-- how many U-PDUs and user primitives there are, and the entries behind them

abbrev pub U_PDUS : ℕ
U_PDUS = 7

abbrev pub PRIMITIVES : ℕ
PRIMITIVES = 9

abbrev pub STOP : ℕ
STOP = 17

abbrev pub START : ℕ
START = 18

abbrev pub CONFIGURE : ℕ
CONFIGURE = 19

abbrev pub CANCELLING : ℕ
CANCELLING = 20

abbrev pub SETUP_WITH_SLOTS : ℕ
SETUP_WITH_SLOTS = 21

-- none; the U-PDUs and the user primitives in the order of a row's digits; STOP, START, CONFIGURE and CANCEL; U-SETUP with slots
abbrev pub entries : List ℕ
entries =
    0 ∷
    line u_setup (A ∷ D ∷ Q ∷ []) ∷
    line u_connect (I ∷ []) ∷
    line u_disconnect (I ∷ TOLD ∷ []) ∷
    line u_release (I ∷ []) ∷
    line u_tx_demand (I ∷ []) ∷
    line u_tx_ceased (I ∷ []) ∷
    line u_call_restore (I ∷ A ∷ Q ∷ []) ∷
    line setup_indication (I ∷ A ∷ D ∷ []) ∷
    line setup_confirm (I ∷ TOLD ∷ []) ∷
    line proceed [] ∷
    line alert [] ∷
    line complete (TOLD ∷ []) ∷
    line release_indication (TOLD ∷ []) ∷
    line release_confirm [] ∷
    line tx_indication (TOLD ∷ []) ∷
    line modify_indication (D ∷ S ∷ []) ∷
    line stop (N ∷ []) ∷
    line start (N ∷ O ∷ []) ∷
    line configure (P ∷ []) ∷
    line cancel [] ∷
    line u_setup_slots (A ∷ D ∷ Q ∷ TOLD ∷ []) ∷
    []
