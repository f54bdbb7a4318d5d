-- The last reading, then a deadline more at each turn, and then a flag more.
use borrow.Author.Rules.{rules}
use mathlib.Core.Path.{◌≡◌, ◌∙◌, ap}
use mathlib.Core.Bool.{false}
use mathlib.Core.List.{append-nil}
use native.Mathlib.Omega.{arith}
use lib.ListN.{length, get_or, take}
use lib.Seq.{sets, take_all}
use Rattle.records.specs.Bytes.{bytes}
use Rattle.host.specs.Packing.{flag}
use Rattle.host.proofs.BankBytes.{four_bytes, one_byte, flag_byte, longs, deadline_put, flag_put, packed_is}
use Rattle.host.proofs.bank.pack_bank.Goals as goal

pub loop-deadline-init : goal.loop-deadline-init
loop-deadline-init c =
    let last = c.put_long-at in
    (last.auto.out ∙ c.requires, omega (arith, last.ensures.end, four_bytes c.args.bank.last), rw (append-nil (bytes 4 c.args.bank.last)) last.ensures.now)

pub put_long-at-requires-in-loop-deadline : goal.put_long-at-requires-in-loop-deadline
put_long-at-requires-in-loop-deadline c = omega (arith, c.loop-deadline.invariant.0, c.loop-deadline.invariant.1)

pub loop-deadline-preserved : goal.loop-deadline-preserved
loop-deadline-preserved c =
    let l = c.loop-deadline in
    let put = c.put_long-at-in-loop-deadline in
    let seven : length c.args.bank.deadlines ≡ 7 = search rules in (
      put.auto.out ∙ l.invariant.0,
      omega (arith, put.ensures.end, l.invariant.1, four_bytes),
      deadline_put _ _ _ _ (omega (arith, seven)) l.invariant.1 l.invariant.2 put.ensures.now,
    )

pub loop-runs-init : goal.loop-runs-init
loop-runs-init c =
    let l = c.loop-deadline in
    let d = c.args.bank.deadlines in
    let seven : length d ≡ 7 = search rules in
    let all : take l.deadline-index d ≡ d = take_all l.deadline-index d (omega (arith, seven)) in (
      l.invariant.0,
      omega (arith, l.invariant.1, l.auto.deadline-index-end),
      rw (append-nil (longs d)) (rw all at l.invariant.2),
    )

pub put_byte-at-requires : goal.put_byte-at-requires
put_byte-at-requires c = omega (arith, c.loop-runs.invariant.0, c.loop-runs.invariant.1)

pub loop-runs-preserved : goal.loop-runs-preserved
loop-runs-preserved c =
    let l = c.loop-runs in
    let put = c.put_byte-at in
    let d : length c.args.bank.deadlines ≡ 7 = search rules in
    let r : length c.args.bank.running ≡ 7 = search rules in
    let runs = get_or c.args.bank.running l.runs-index false in
    let mark : c.from.result ≡ flag runs = search rules in (
      put.auto.out ∙ l.invariant.0,
      omega (arith, put.ensures.end, l.invariant.1, one_byte),
      flag_put _ _ _ _ _ d (omega (arith, r)) l.invariant.1 l.invariant.2 (rw (mark, flag_byte runs) at put.ensures.now),
    )

pub returns : goal.returns
returns c =
    let l = c.loop-runs in
    let r = c.args.bank.running in
    let d : length c.args.bank.deadlines ≡ 7 = search rules in
    let seven : length r ≡ 7 = search rules in
    let all : take l.runs-index r ≡ r = take_all l.runs-index r (omega (arith, seven)) in
    (rw all at l.invariant.2) ∙ ap (sets c.args.s.now 0) (packed_is c.args.bank d seven)
