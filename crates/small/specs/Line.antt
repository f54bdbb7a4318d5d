-- What a row of the table says of a call and an event: the row of the first engine, with the same orders and values.
use Rattle.std.specs.Prelude.{ℕ, ◌+◌, ◌*◌, ◌/◌, ◌%◌, cond, ◌||◌, Option, None, Some, leb, eqb}
use Rattle.callcontrol.specs.declared.call.Call.{Call}
use Rattle.callcontrol.specs.declared.row.Row.{Row}
use Rattle.callcontrol.specs.Rows.{asks}
use Rattle.callcontrol.specs.Settle.{plane_granted, plane_or_off, asked_after, restarting, code_after, slots_after}
use Rattle.small.specs.declared.flat.Flat.{Flat}
use Rattle.small.specs.Flat.{EXPIRY, place}
use Rattle.small.specs.Table.{situation_of, facts_of, rows, first_of}

-- 7 is rule G, 8 the same with off for 1 and 2; every other digit is a plane of row.rt
unfoldable pub plane_by : ℕ → ℕ → ℕ → ℕ
plane_by p g d = cond (eqb p 7) (plane_granted g d) (cond (eqb p 8) (plane_or_off g d) (p * 0x1000))

unfoldable pub asked_by : ℕ → Call → Flat → ℕ
asked_by a c f =
    cond (eqb a 1) f.ask
    (cond (eqb a 2) 0
    (cond (eqb a 3) (asked_after f.value c.asked)
    (cond (eqb a 4) (asks c)
    (cond (eqb a 5) (cond (eqb c.plane 1 || eqb c.plane 3) 1 c.asked) (cond (eqb a 6) 1 c.asked)))))

-- 9 is the event's g, 10 its slots; below that the number itself
unfoldable pub value_by : ℕ → Flat → ℕ
value_by v f = cond (eqb v 9) f.value (cond (eqb v 10) f.slots v)

-- a row that starts T310 stores the event's code; else r and o tell
unfoldable pub code_by : ℕ → Call → Flat → ℕ
code_by n c f = cond (eqb (n / 0x20000000000 % 2) 1) f.code (code_after f.reset f.code c.code)

unfoldable pub expired_by : Flat → ℕ
expired_by f = cond (leb EXPIRY f.kind) (place f.timer * 0x100000000000 + 0x100000000000) 0

abbrev pub mode_by : ℕ → Call → Flat → ℕ
mode_by n c f = cond (eqb (n / 0x80000000000 % 2) 1) f.mode c.mode

-- the orders of row.rt are taken as they are, but for the digits of plane and asked
unfoldable pub orders_by : ℕ → Call → Flat → ℕ
orders_by n c f =
    expired_by f + (n % 0x1000 + n / 0x10000 % 0x200 * 0x10000 + n / 0x10000000 % 0x4000 * 0x10000000)
    + plane_by (n / 0x1000 % 16) f.value (mode_by n c f)
    + restarting f.reset

unfoldable pub row_by : ℕ → Call → Flat → Row
row_by n c f =
    record {
      orders = orders_by n c f;
      id = cond (eqb (n / 0x40000000000 % 2) 1) f.id c.id;
      address = cond (eqb (n / 0x80000000000 % 2) 1) f.address c.address;
      mode = mode_by n c f;
      asked = asked_by (n / 0x2000000 % 8) c f;
      code = code_by n c f;
      slots = slots_after f.slots c.slots;
      value = value_by (n / 0x100000000000 % 16) f;
    }

-- 0 is no row
unfoldable pub row_or : ℕ → Call → Flat → Option Row
row_or n c f = cond (eqb n 0) None (Some (row_by n c f))

unfoldable pub table_row : Call → Flat → Option Row
table_row c f = row_or (first_of (situation_of c) f.kind (facts_of c f) rows) c f
