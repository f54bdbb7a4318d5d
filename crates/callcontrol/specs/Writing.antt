-- What one step writes: the draft's messages in the paper's order, and their bytes.
use Rattle.std.specs.Prelude.{ℕ, ◌+◌, ◌≡◌, Bool, false, cond, not, List, [], ◌∷◌, ◌++◌, eqb, get_or}
use Rattle.records.specs.declared.messages.Message.{Message}
use Rattle.records.specs.Bodies.{laid, laid_next}
use Rattle.records.specs.Messages.{message_bytes}
use Rattle.callcontrol.specs.Draft.{Slot, Draft}
use Rattle.callcontrol.specs.Call.{T301, T302, T303, T306, T308, T310, T311}

abbrev pub when : Bool → Message → List Message
when b m = cond b (m ∷ []) []

abbrev pub held : Slot → List Message
held Slot.Empty = []
held (Slot.Holds m) = m ∷ []

-- an order for each timer that is flagged, by rising number
unfoldable pub by_number : (ℕ → Message) → List Bool → List Message
by_number order flags =
    when (get_or flags T301 false) (order 301)
    ++ (when (get_or flags T302 false) (order 302)
    ++ (when (get_or flags T303 false) (order 303)
    ++ (when (get_or flags T306 false) (order 306)
    ++ (when (get_or flags T308 false) (order 308)
    ++ (when (get_or flags T310 false) (order 310) ++ when (get_or flags T311 false) (order 311))))))

-- START carries T310's code; every other timer has 0
unfoldable pub starting : ℕ → ℕ → Message
starting code n = Message.Start n (cond (eqb n 310) code 0)

-- STOPs by rising number, CANCEL, U-PDU, STARTs by rising number, CONFIGURE, user primitive
unfoldable pub messages_in : Draft → List Message
messages_in d =
    by_number Message.Stop d.stops
    ++ (when d.cancel Message.Cancel
    ++ (held d.pdu
    ++ (by_number (starting d.call.code) d.starts
    ++ (when (not (eqb d.configure 0)) (Message.Configure d.configure) ++ held d.user))))

-- messages one after the other as bytes
unfoldable pub bytes_of : List Message → List ℕ
bytes_of [] = []
bytes_of (m ∷ ms) = message_bytes m ++ bytes_of ms

-- messages stored one after the other from a position on, each where it fits: the position after them, and the buffer then
unfoldable pub lay_all : List Message → ℕ → List ℕ → ℕ × List ℕ
lay_all [] at buffer = (at, buffer)
lay_all (m ∷ ms) at buffer = lay_all ms (laid_next (message_bytes m) buffer at) (laid (message_bytes m) buffer at)

-- some messages were laid so: from a position on, up to another
pub record Laid (before : List ℕ) (at : ℕ) (ms : List Message) (end : ℕ) (after : List ℕ) : Type 0 where
  pub is : ◌≡◌ {A = ℕ × List ℕ} (end, after) (lay_all ms at before)

-- how many of the seven are flagged
unfoldable pub count_of : List Bool → ℕ
count_of flags =
    cond (get_or flags T301 false) 1 0 + cond (get_or flags T302 false) 1 0 + cond (get_or flags T303 false) 1 0 + cond (get_or flags T306 false) 1 0
    + cond (get_or flags T308 false) 1 0 + cond (get_or flags T310 false) 1 0 + cond (get_or flags T311 false) 1 0
