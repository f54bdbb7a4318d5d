-- The checked examples of the paper that have a star: what each gives, in one table. A row is a run of the step from the fresh record on real
-- bytes; proofs/Examples proves that every row is right.
use Rattle.std.specs.Prelude.{ℕ, Bool, true, false, not, ◌&&◌, ◌||◌, List, [], ◌∷◌, ◌≡◌, eqb, replicate}
use Rattle.records.specs.Laws.{every}
use Rattle.callcontrol.specs.declared.call.Call.{Call}
use Rattle.callcontrol.specs.Call.{fresh_call, is_idle, runs, state_number, T301, T302, T303, T306, T308, T310, T311}
use Rattle.callcontrol.specs.Step.{Outcome}
use Rattle.demands.specs.Runs.{Turn, outcome}

-- the events, as they come in: length, kind, body, each the lowest byte first

abbrev pub Bytes : Type 0
Bytes = List ℕ

-- SETUP request a 7, simplex, q 1
abbrev pub setup_request : Bytes
setup_request = 0x0a ∷ 0x00 ∷ 0x01 ∷ 0x01 ∷ 0x07 ∷ 0x00 ∷ 0x00 ∷ 0x00 ∷ 0x00 ∷ 0x01 ∷ []

-- D-CONNECT i 21, g 0, d 0, o 3
abbrev pub d_connect : Bytes
d_connect = 0x09 ∷ 0x00 ∷ 0x03 ∷ 0x02 ∷ 0x15 ∷ 0x00 ∷ 0x00 ∷ 0x00 ∷ 0x03 ∷ []

-- D-CONNECT ACKNOWLEDGE i 21, g 0, o 3
abbrev pub d_connect_acknowledge : Bytes
d_connect_acknowledge = 0x08 ∷ 0x00 ∷ 0x04 ∷ 0x02 ∷ 0x15 ∷ 0x00 ∷ 0x00 ∷ 0x03 ∷ []

-- D-SETUP a 7, simplex, with i 21, with the greatest i, and with one more
abbrev pub d_setup21 : Bytes
d_setup21 = 0x0b ∷ 0x00 ∷ 0x05 ∷ 0x02 ∷ 0x15 ∷ 0x00 ∷ 0x07 ∷ 0x00 ∷ 0x00 ∷ 0x00 ∷ 0x00 ∷ []

abbrev pub d_setup16383 : Bytes
d_setup16383 = 0x0b ∷ 0x00 ∷ 0x05 ∷ 0x02 ∷ 0xff ∷ 0x3f ∷ 0x07 ∷ 0x00 ∷ 0x00 ∷ 0x00 ∷ 0x00 ∷ []

abbrev pub d_setup16384 : Bytes
d_setup16384 = 0x0b ∷ 0x00 ∷ 0x05 ∷ 0x02 ∷ 0x00 ∷ 0x40 ∷ 0x07 ∷ 0x00 ∷ 0x00 ∷ 0x00 ∷ 0x00 ∷ []

-- D-TX INTERRUPT i 21, g 3
abbrev pub d_tx_interrupt : Bytes
d_tx_interrupt = 0x07 ∷ 0x00 ∷ 0x09 ∷ 0x02 ∷ 0x15 ∷ 0x00 ∷ 0x03 ∷ []

-- D-TX WAIT i 21
abbrev pub d_tx_wait : Bytes
d_tx_wait = 0x06 ∷ 0x00 ∷ 0x0a ∷ 0x02 ∷ 0x15 ∷ 0x00 ∷ []

-- D-TX CONTINUE i 21, k 1
abbrev pub d_tx_continue : Bytes
d_tx_continue = 0x07 ∷ 0x00 ∷ 0x0b ∷ 0x02 ∷ 0x15 ∷ 0x00 ∷ 0x01 ∷ []

-- D-RELEASE
abbrev pub d_release0 : Bytes
d_release0 = 0x06 ∷ 0x00 ∷ 0x0e ∷ 0x02 ∷ 0x00 ∷ 0x00 ∷ []

abbrev pub d_release5 : Bytes
d_release5 = 0x06 ∷ 0x00 ∷ 0x0e ∷ 0x02 ∷ 0x05 ∷ 0x00 ∷ []

-- BREAK and RESUME
abbrev pub break : Bytes
break = 0x04 ∷ 0x00 ∷ 0x03 ∷ 0x03 ∷ []

abbrev pub resume : Bytes
resume = 0x04 ∷ 0x00 ∷ 0x04 ∷ 0x03 ∷ []

-- the message in which a restoration asks: U-CALL RESTORE i 21, a 7, q
abbrev pub u_call_restore : ℕ → Bytes
u_call_restore q = 0x0b ∷ 0x00 ∷ 0x08 ∷ 0x05 ∷ 0x15 ∷ 0x00 ∷ 0x07 ∷ 0x00 ∷ 0x00 ∷ 0x00 ∷ q ∷ []

-- where an example begins: the events that lead there, and what the paper says of the record then
pub record Beginning : Type 0 where
  pub by : List Bytes
  pub is : Call → Bool

abbrev pub fresh : Beginning
fresh = record { by = []; is = is_idle }

-- MO-CALL-SETUP with T303 alone running
abbrev pub mo_call_setup : Beginning
mo_call_setup =
    record {
      by = setup_request ∷ [];
      is =
          λ c. eqb (state_number c.state) 1 && runs c T303
          && not (runs c T301 || runs c T302 || runs c T306 || runs c T308 || runs c T310 || runs c T311);
    }

-- MT-CALL-SETUP before the response, which starts T301
abbrev pub mt_call_setup : Beginning
mt_call_setup = record { by = d_setup21 ∷ []; is = λ c. eqb (state_number c.state) 2 && not (runs c T301) }

-- simplex, plane 1, i 21, asked 0
abbrev pub speaking : Beginning
speaking =
    record {
      by = setup_request ∷ d_connect ∷ [];
      is = λ c. eqb c.mode 0 && eqb c.plane 1 && eqb c.id 21 && eqb c.asked 0;
    }

-- what the last event of an example gives
pub data Gives : Type 0 where
  -- an answer, and a count of bytes
  answer : ℕ → Gives
  count : ℕ → Gives
  -- taken, and the record has this plane
  plane : ℕ → Gives
  -- taken, and a restoration is asked for with this q
  q : ℕ → Gives

-- a line of the table: where it begins, the events that come then, the bytes lent for the messages of the last, and what that gives
pub record Example : Type 0 where
  pub from : Beginning
  pub come : List Bytes
  pub last : Bytes
  pub lent : ℕ
  pub gives : Gives

abbrev pub example : Beginning → List Bytes → Bytes → ℕ → Gives → Example
example from come last lent gives = record { from = from; come = come; last = last; lent = lent; gives = gives }

abbrev pub examples : List Example
examples =
    example fresh [] d_release0 64 (answer 6) ∷
    example fresh [] d_release5 64 (answer 5) ∷
    example fresh [] d_setup16383 64 (answer 0) ∷
    example fresh [] d_setup16384 64 (answer 4) ∷
    example mt_call_setup [] d_connect_acknowledge 64 (answer 6) ∷
    example speaking [] d_tx_interrupt 64 (plane 2) ∷
    example speaking (d_tx_wait ∷ []) d_tx_continue 64 (plane 1) ∷
    example speaking (break ∷ []) resume 64 (q 1) ∷
    example speaking (d_tx_wait ∷ break ∷ []) resume 64 (q 0) ∷
    example mo_call_setup [] d_connect 32 (count 32) ∷
    example mo_call_setup [] d_connect 31 (answer 7) ∷
    []

-- the rule of the table

abbrev pub turn : Bytes → ℕ → Turn
turn event lent = record { event = event; buffer = replicate lent 0 }

-- the buffer begins with some bytes
abbrev pub begins : Bytes → Bytes → Bool
begins [] buffer = true
begins (b ∷ bs) [] = false
begins (b ∷ bs) (x ∷ xs) = eqb b x && begins bs xs

abbrev pub met : Gives → Outcome → Bool
met (answer n) o = eqb o.answer n
met (count n) o = eqb o.answer 0 && eqb o.count n
met (plane p) o = eqb o.answer 0 && eqb o.call.plane p
met (q v) o = eqb o.answer 0 && begins (u_call_restore v) o.buffer

-- each event is taken, and then something holds of the record
abbrev pub along : List Bytes → (Call → Bool) → Call → Bool
along [] then c = then c
along (e ∷ es) then c = eqb (outcome c (turn e 64)).answer 0 && along es then (outcome c (turn e 64)).call

abbrev pub right : Example → Bool
right x =
    along x.from.by
    (λ c. x.from.is c && along x.come (λ d. met x.gives (outcome d (turn x.last x.lent))) c)
    fresh_call

-- every row of the table is right
abbrev pub Starred : Type 0
Starred = every right examples ≡ true
