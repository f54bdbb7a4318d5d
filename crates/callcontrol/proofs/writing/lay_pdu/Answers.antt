-- Each message is laid that the row orders, or none.
use Rattle.std.proofs.Common.{◌≡◌, ◌/◌, ◌%◌, arith}
use Rattle.callcontrol.specs.Settle.{pdu_by, U_SETUP}
use Rattle.callcontrol.proofs.Laying.{lay_one}
use Rattle.callcontrol.proofs.writing.lay_pdu.Goals as goal

pub returns-in-65536 : goal.returns-in-65536
unfolding pdu_by
returns-in-65536 c = let digit : c.args.row.orders / U_SETUP % 16 ≡ 1 = omega (arith, c.part.ensures, c.in-65536.is) in rw digit (lay_one c.lay_u_setup.ensures)

pub returns-in-131072 : goal.returns-in-131072
unfolding pdu_by
returns-in-131072 c = let digit : c.args.row.orders / U_SETUP % 16 ≡ 2 = omega (arith, c.part.ensures, c.in-131072.is) in rw digit (lay_one c.lay_u_connect.ensures)

pub returns-in-196608 : goal.returns-in-196608
unfolding pdu_by
returns-in-196608 c = let digit : c.args.row.orders / U_SETUP % 16 ≡ 3 = omega (arith, c.part.ensures, c.in-196608.is) in rw digit (lay_one c.lay_u_disconnect.ensures)

pub returns-in-262144 : goal.returns-in-262144
unfolding pdu_by
returns-in-262144 c = let digit : c.args.row.orders / U_SETUP % 16 ≡ 4 = omega (arith, c.part.ensures, c.in-262144.is) in rw digit (lay_one c.lay_u_release.ensures)

pub returns-in-327680 : goal.returns-in-327680
unfolding pdu_by
returns-in-327680 c = let digit : c.args.row.orders / U_SETUP % 16 ≡ 5 = omega (arith, c.part.ensures, c.in-327680.is) in rw digit (lay_one c.lay_u_tx_demand.ensures)

pub returns-in-393216 : goal.returns-in-393216
unfolding pdu_by
returns-in-393216 c = let digit : c.args.row.orders / U_SETUP % 16 ≡ 6 = omega (arith, c.part.ensures, c.in-393216.is) in rw digit (lay_one c.lay_u_tx_ceased.ensures)

pub returns-in-458752 : goal.returns-in-458752
unfolding pdu_by
returns-in-458752 c = let digit : c.args.row.orders / U_SETUP % 16 ≡ 7 = omega (arith, c.part.ensures, c.in-458752.is) in rw digit (lay_one c.lay_u_call_restore.ensures)
