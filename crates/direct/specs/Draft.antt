-- What a row orders: the next record and the messages. Each verb of the rows is one definition.
use Rattle.std.specs.Prelude.{ℕ, Bool, true, false, List, [], ◌∷◌, ◌++◌}
use Rattle.direct.specs.declared.messages.Message.{Message}
use Rattle.direct.specs.declared.call.State.{State}
use Rattle.direct.specs.declared.call.Call.{Call}
use Rattle.direct.specs.Call.{fresh_call}

-- the next record, the messages of each group, and whether there is a row at all
pub record Draft : Type 0 where
  pub call : Call
  pub stops : List Message
  pub pdus : List Message
  pub starts : List Message
  pub configures : List Message
  pub tells : List Message
  pub taken : Bool

-- one step writes STOP, PDUs, START, CONFIGURE and what the user is told, in this order
abbrev pub messages_in : Draft → List Message
messages_in d = d.stops ++ (d.pdus ++ (d.starts ++ (d.configures ++ d.tells)))

-- a row is read from left to right: a draft, and then what is done to it
infixl 20 ◌▷◌
abbrev pub ◌▷◌ : {A B : Type 0} → A → (A → B) → B
a ▷ f = f a

-- a row that has ordered nothing yet
abbrev pub draft : Call → Draft
draft c = record { call = c; stops = []; pdus = []; starts = []; configures = []; tells = []; taken = true }

-- no row: the record as it was
abbrev pub no_row : Call → Draft
no_row c = record { call = c; stops = []; pdus = []; starts = []; configures = []; tells = []; taken = false }

-- the same draft with another record
abbrev pub with : Draft → Call → Draft
with d c =
    record
    { call = c; stops = d.stops; pdus = d.pdus; starts = d.starts; configures = d.configures; tells = d.tells; taken = d.taken }

-- what is stored

abbrev pub go : State → Draft → Draft
go s d =
    with d
    (record { state = s; target = d.call.target; lowest = d.call.lowest; limit = d.call.limit; used = d.call.used; dt303 = d.call.dt303; dt311 = d.call.dt311 })

-- the request's target, lowest grade and attempts
abbrev pub store : ℕ → ℕ → ℕ → Draft → Draft
store t l m d =
    with d
    (record { state = d.call.state; target = t; lowest = l; limit = m; used = d.call.used; dt303 = d.call.dt303; dt311 = d.call.dt311 })

-- how many attempts are used
abbrev pub attempts : ℕ → Draft → Draft
attempts n d =
    with d
    (record { state = d.call.state; target = d.call.target; lowest = d.call.lowest; limit = d.call.limit; used = n; dt303 = d.call.dt303; dt311 = d.call.dt311 })

-- the fresh record
abbrev pub over : Draft → Draft
over d = with d fresh_call

-- timers

abbrev pub timers_of : Draft → Bool → Bool → Call
timers_of d dt303 dt311 =
    (record { state = d.call.state; target = d.call.target; lowest = d.call.lowest; limit = d.call.limit; used = d.call.used; dt303 = dt303; dt311 = dt311 })

abbrev pub start_dt303 : Draft → Draft
start_dt303 d =
    record {
      call = timers_of d true d.call.dt311;
      stops = d.stops;
      pdus = d.pdus;
      starts = d.starts ++ (Message.Start 303 ∷ []);
      configures = d.configures;
      tells = d.tells;
      taken = d.taken;
    }

abbrev pub start_dt311 : Draft → Draft
start_dt311 d =
    record {
      call = timers_of d d.call.dt303 true;
      stops = d.stops;
      pdus = d.pdus;
      starts = d.starts ++ (Message.Start 311 ∷ []);
      configures = d.configures;
      tells = d.tells;
      taken = d.taken;
    }

-- said only in rows of a running DT303
abbrev pub stop_dt303 : Draft → Draft
stop_dt303 d =
    record {
      call = timers_of d false d.call.dt311;
      stops = d.stops ++ (Message.Stop 303 ∷ []);
      pdus = d.pdus;
      starts = d.starts;
      configures = d.configures;
      tells = d.tells;
      taken = d.taken;
    }

-- an expired timer gets no STOP
abbrev pub expired_dt303 : Draft → Draft
expired_dt303 d = with d (timers_of d false d.call.dt311)

-- messages

-- a PDU to the called set, after those said before
abbrev pub say : Message → Draft → Draft
say m d =
    record
    { call = d.call; stops = d.stops; pdus = d.pdus ++ (m ∷ []); starts = d.starts; configures = d.configures; tells = d.tells; taken = d.taken }

-- the lower layers carry traffic at a grade
abbrev pub configure : ℕ → Draft → Draft
configure t d =
    record {
      call = d.call;
      stops = d.stops;
      pdus = d.pdus;
      starts = d.starts;
      configures = d.configures ++ (Message.Configure t ∷ []);
      tells = d.tells;
      taken = d.taken;
    }

-- the user is told
abbrev pub tell : Message → Draft → Draft
tell m d =
    record
    { call = d.call; stops = d.stops; pdus = d.pdus; starts = d.starts; configures = d.configures; tells = d.tells ++ (m ∷ []); taken = d.taken }
