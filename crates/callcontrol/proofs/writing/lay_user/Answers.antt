-- Each message is laid that the row orders, or none.
use Rattle.std.proofs.Common.{◌≡◌, ◌/◌, ◌%◌, arith}
use Rattle.callcontrol.specs.Settle.{user_by, SETUP_INDICATION}
use Rattle.callcontrol.proofs.Laying.{lay_one}
use Rattle.callcontrol.proofs.writing.lay_user.Goals as goal

pub returns-in-1048576 : goal.returns-in-1048576
unfolding user_by
returns-in-1048576 c = let digit : c.args.row.orders / SETUP_INDICATION % 16 ≡ 1 = omega (arith, c.part.ensures, c.in-1048576.is) in rw digit (lay_one c.lay_setup_indication.ensures)

pub returns-in-2097152 : goal.returns-in-2097152
unfolding user_by
returns-in-2097152 c = let digit : c.args.row.orders / SETUP_INDICATION % 16 ≡ 2 = omega (arith, c.part.ensures, c.in-2097152.is) in rw digit (lay_one c.lay_setup_confirm.ensures)

pub returns-in-3145728 : goal.returns-in-3145728
unfolding user_by
returns-in-3145728 c = let digit : c.args.row.orders / SETUP_INDICATION % 16 ≡ 3 = omega (arith, c.part.ensures, c.in-3145728.is) in rw digit (lay_one c.lay_proceed.ensures)

pub returns-in-4194304 : goal.returns-in-4194304
unfolding user_by
returns-in-4194304 c = let digit : c.args.row.orders / SETUP_INDICATION % 16 ≡ 4 = omega (arith, c.part.ensures, c.in-4194304.is) in rw digit (lay_one c.lay_alert.ensures)

pub returns-in-5242880 : goal.returns-in-5242880
unfolding user_by
returns-in-5242880 c = let digit : c.args.row.orders / SETUP_INDICATION % 16 ≡ 5 = omega (arith, c.part.ensures, c.in-5242880.is) in rw digit (lay_one c.lay_complete.ensures)

pub returns-in-6291456 : goal.returns-in-6291456
unfolding user_by
returns-in-6291456 c = let digit : c.args.row.orders / SETUP_INDICATION % 16 ≡ 6 = omega (arith, c.part.ensures, c.in-6291456.is) in rw digit (lay_one c.lay_release_indication.ensures)

pub returns-in-7340032 : goal.returns-in-7340032
unfolding user_by
returns-in-7340032 c = let digit : c.args.row.orders / SETUP_INDICATION % 16 ≡ 7 = omega (arith, c.part.ensures, c.in-7340032.is) in rw digit (lay_one c.lay_release_confirm.ensures)

pub returns-in-8388608 : goal.returns-in-8388608
unfolding user_by
returns-in-8388608 c = let digit : c.args.row.orders / SETUP_INDICATION % 16 ≡ 8 = omega (arith, c.part.ensures, c.in-8388608.is) in rw digit (lay_one c.lay_tx_indication.ensures)

pub returns-in-9437184 : goal.returns-in-9437184
unfolding user_by
returns-in-9437184 c = let digit : c.args.row.orders / SETUP_INDICATION % 16 ≡ 9 = omega (arith, c.part.ensures, c.in-9437184.is) in rw digit (lay_one c.lay_modify_indication.ensures)
