-- What a row orders: the next call, the timers to stop and to start, and the messages. Each verb of the rows is one definition.
use Rattle.std.specs.Prelude.{ℕ, Bool, true, false, cond, not, ◌&&◌, ◌||◌, List, eqb, get_or, set}
use Rattle.records.specs.declared.messages.Message.{Message}
use Rattle.callcontrol.specs.declared.call.State.{State}
use Rattle.callcontrol.specs.declared.call.Path.{Path}
use Rattle.callcontrol.specs.declared.call.Call.{Call}
use Rattle.callcontrol.specs.Call.{fresh_call, none, runs, T301, T302, T303, T306, T308, T310, T311}

-- a message, or none
pub data Slot : Type 0 where
  Empty : Slot
  Holds : Message → Slot

-- a list for each array of flags; and whether there is a row at all
pub record Draft : Type 0 where
  pub call : Call
  pub stops : List Bool
  pub starts : List Bool
  pub cancel : Bool
  pub pdu : Slot
  -- the plane that CONFIGURE tells, 0 where none is written
  pub configure : ℕ
  pub user : Slot
  pub taken : Bool

-- a row is read from left to right: a draft, and then what is done to it
infixl 20 ◌▷◌
abbrev pub ◌▷◌ : {A B : Type 0} → A → (A → B) → B
a ▷ f = f a

-- a row that has ordered nothing yet
unfoldable pub draft : Call → Draft
draft c =
    record
    { call = c; stops = none; starts = none; cancel = false; pdu = Slot.Empty; configure = 0; user = Slot.Empty; taken = true }

-- no row: the call as it was
unfoldable pub no_row : Call → Draft
no_row c =
    record
    { call = c; stops = none; starts = none; cancel = false; pdu = Slot.Empty; configure = 0; user = Slot.Empty; taken = false }

-- the same draft with another call
abbrev pub with : Draft → Call → Draft
with d c =
    record
    { call = c; stops = d.stops; starts = d.starts; cancel = d.cancel; pdu = d.pdu; configure = d.configure; user = d.user; taken = d.taken }

-- the call with other timers
abbrev pub timers_of : Draft → List Bool → Call
timers_of d t =
    (record { state = d.call.state; id = d.call.id; address = d.call.address; mode = d.call.mode; asked = d.call.asked; sent = d.call.sent; path = d.call.path; plane = d.call.plane; kept = d.call.kept; code = d.call.code; slots = d.call.slots; timers = t })

-- what is stored

-- another state. Leaving WAIT sets the kept plane to 4; outside WAIT it is 4 already
unfoldable pub go : State → Draft → Draft
go s d =
    with d
    (record { state = s; id = d.call.id; address = d.call.address; mode = d.call.mode; asked = d.call.asked; sent = d.call.sent; path = d.call.path; plane = d.call.plane; kept = 4; code = d.call.code; slots = d.call.slots; timers = d.call.timers })

unfoldable pub on_path : Path → Draft → Draft
on_path p d =
    with d
    (record { state = d.call.state; id = d.call.id; address = d.call.address; mode = d.call.mode; asked = d.call.asked; sent = d.call.sent; path = p; plane = d.call.plane; kept = d.call.kept; code = d.call.code; slots = d.call.slots; timers = d.call.timers })

unfoldable pub store_id : ℕ → Draft → Draft
store_id i d =
    with d
    (record { state = d.call.state; id = i; address = d.call.address; mode = d.call.mode; asked = d.call.asked; sent = d.call.sent; path = d.call.path; plane = d.call.plane; kept = d.call.kept; code = d.call.code; slots = d.call.slots; timers = d.call.timers })

unfoldable pub store_address : ℕ → Draft → Draft
store_address a d =
    with d
    (record { state = d.call.state; id = d.call.id; address = a; mode = d.call.mode; asked = d.call.asked; sent = d.call.sent; path = d.call.path; plane = d.call.plane; kept = d.call.kept; code = d.call.code; slots = d.call.slots; timers = d.call.timers })

unfoldable pub store_mode : ℕ → Draft → Draft
store_mode m d =
    with d
    (record { state = d.call.state; id = d.call.id; address = d.call.address; mode = m; asked = d.call.asked; sent = d.call.sent; path = d.call.path; plane = d.call.plane; kept = d.call.kept; code = d.call.code; slots = d.call.slots; timers = d.call.timers })

unfoldable pub store_asked : ℕ → Draft → Draft
store_asked q d =
    with d
    (record { state = d.call.state; id = d.call.id; address = d.call.address; mode = d.call.mode; asked = q; sent = d.call.sent; path = d.call.path; plane = d.call.plane; kept = d.call.kept; code = d.call.code; slots = d.call.slots; timers = d.call.timers })

unfoldable pub store_sent : ℕ → Draft → Draft
store_sent s d =
    with d
    (record { state = d.call.state; id = d.call.id; address = d.call.address; mode = d.call.mode; asked = d.call.asked; sent = s; path = d.call.path; plane = d.call.plane; kept = d.call.kept; code = d.call.code; slots = d.call.slots; timers = d.call.timers })

unfoldable pub store_code : ℕ → Draft → Draft
store_code o d =
    with d
    (record { state = d.call.state; id = d.call.id; address = d.call.address; mode = d.call.mode; asked = d.call.asked; sent = d.call.sent; path = d.call.path; plane = d.call.plane; kept = d.call.kept; code = o; slots = d.call.slots; timers = d.call.timers })

-- the slots that an event carries; 0 where its body has none, and then the held number stays
unfoldable pub store_slots : ℕ → Draft → Draft
store_slots s d =
    with d
    (record { state = d.call.state; id = d.call.id; address = d.call.address; mode = d.call.mode; asked = d.call.asked; sent = d.call.sent; path = d.call.path; plane = d.call.plane; kept = d.call.kept; code = d.call.code; slots = cond (eqb s 0) d.call.slots s; timers = d.call.timers })

-- the plane to go back to after a pause
unfoldable pub keep : ℕ → Draft → Draft
keep p d =
    with d
    (record { state = d.call.state; id = d.call.id; address = d.call.address; mode = d.call.mode; asked = d.call.asked; sent = d.call.sent; path = d.call.path; plane = d.call.plane; kept = p; code = d.call.code; slots = d.call.slots; timers = d.call.timers })

-- timers

-- STOP is written only for a running timer
unfoldable pub stop : ℕ → Draft → Draft
stop k d =
    record {
      call = timers_of d (set d.call.timers k false);
      stops = set d.stops k (runs d.call k || get_or d.stops k false);
      starts = d.starts;
      cancel = d.cancel;
      pdu = d.pdu;
      configure = d.configure;
      user = d.user;
      taken = d.taken;
    }

unfoldable pub stop_all : Draft → Draft
stop_all d = d ▷ stop T301 ▷ stop T302 ▷ stop T303 ▷ stop T306 ▷ stop T308 ▷ stop T310 ▷ stop T311

-- T310's code 0 is no limit; the other timers have one always
abbrev pub limited : ℕ → Draft → Bool
limited k d = not (eqb k T310 && eqb d.call.code 0)

-- starting a running timer writes START only, also in a row that says stop all; T310 without a limit stops instead, and STOP is written only if
-- it runs
unfoldable pub start : ℕ → Draft → Draft
start k d =
    record {
      call = timers_of d (set d.call.timers k (limited k d));
      stops = set d.stops k (not (limited k d) && (runs d.call k || get_or d.stops k false));
      starts = set d.starts k (limited k d);
      cancel = d.cancel;
      pdu = d.pdu;
      configure = d.configure;
      user = d.user;
      taken = d.taken;
    }

-- an expired timer gets no STOP
unfoldable pub expired : ℕ → Draft → Draft
expired k d = with d (timers_of d (set d.call.timers k false))

-- if r is 1, o, or the held code if o is 16, is stored, and T310 starts with it
unfoldable pub restart : ℕ → ℕ → Draft → Draft
restart r o d = cond (eqb r 1) (d ▷ store_code (cond (eqb o 16) d.call.code o) ▷ start T310) d

-- the U-plane

-- the lower layers are told the present plane once more, and T311 stays as it is
unfoldable pub same_plane : Draft → Draft
same_plane d =
    record
    { call = d.call; stops = d.stops; starts = d.starts; cancel = d.cancel; pdu = d.pdu; configure = d.call.plane; user = d.user; taken = d.taken }

-- a plane: plane 1 starts T311, another plane stops it
unfoldable pub plane : ℕ → Draft → Draft
plane p d =
    with d
    (record { state = d.call.state; id = d.call.id; address = d.call.address; mode = d.call.mode; asked = d.call.asked; sent = d.call.sent; path = d.call.path; plane = p; kept = d.call.kept; code = d.call.code; slots = d.call.slots; timers = d.call.timers })
    ▷ same_plane
    ▷ cond (eqb p 1) (start T311) (stop T311)

unfoldable pub off : Draft → Draft
off d = d ▷ plane 4

-- grant rule G: 0 gives plane 1, or 3 in duplex; 3 gives 2; 1 and 2 give no CONFIGURE. 0 and 1 clear asked; 2 and 3 keep it
unfoldable pub grant : ℕ → Draft → Draft
grant g d =
    cond (eqb g 0) (d ▷ store_asked 0 ▷ plane (cond (eqb d.call.mode 1) 3 1))
    (cond (eqb g 1) (d ▷ store_asked 0) (cond (eqb g 3) (d ▷ plane 2) d))

-- G, with off for 1 and 2
unfoldable pub grant_or_off : ℕ → Draft → Draft
grant_or_off g d = cond (eqb g 1 || eqb g 2) (d ▷ grant g ▷ off) (d ▷ grant g)

-- messages

unfoldable pub cancel : Draft → Draft
cancel d =
    record
    { call = d.call; stops = d.stops; starts = d.starts; cancel = true; pdu = d.pdu; configure = d.configure; user = d.user; taken = d.taken }

-- the U-PDU
unfoldable pub say : Message → Draft → Draft
say m d =
    record
    { call = d.call; stops = d.stops; starts = d.starts; cancel = d.cancel; pdu = Slot.Holds m; configure = d.configure; user = d.user; taken = d.taken }

-- the user primitive
unfoldable pub tell : Message → Draft → Draft
tell m d =
    record
    { call = d.call; stops = d.stops; starts = d.starts; cancel = d.cancel; pdu = d.pdu; configure = d.configure; user = Slot.Holds m; taken = d.taken }

-- MODIFY indication, with the slots that are then held
unfoldable pub tell_modified : ℕ → Draft → Draft
tell_modified m d = d ▷ tell (Message.ModifyIndication m d.call.slots)

-- the end of a call

-- the fresh record
unfoldable pub over : Draft → Draft
over d = with d fresh_call

-- this side ends the call, for a cause
unfoldable pub release : ℕ → Draft → Draft
release cause d =
    d
    ▷ stop_all
    ▷ say (Message.UDisconnect d.call.id cause)
    ▷ start T308
    ▷ off
    ▷ store_sent 0
    ▷ store_asked 0
    ▷ on_path Path.Up
    ▷ go State.CallDisconnect
