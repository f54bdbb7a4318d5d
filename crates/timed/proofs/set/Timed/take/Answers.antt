-- The step's refusal is passed on; where it is taken, the STARTs among the bytes that it has written are done on the bank.
use Rattle.std.proofs.Common.{◌≡◌, length, sym, rules}
use Rattle.std.proofs.Math.Seq.{length-take-le}
use Rattle.std.proofs.lemmas.Result.{err_from_is_err_and}
use Rattle.callcontrol.specs.Rows.{row_for}
use Rattle.callcontrol.specs.Writing.{messages_in}
use Rattle.timed.proofs.Taking.{refused_event, not_unsound, wrote, fits_in, taken_event}
use Rattle.timed.proofs.set.Timed.take.Goals as goal

pub returns-in_err-stepped : goal.returns-in_err-stepped
returns-in_err-stepped c =
    let p = err_from_is_err_and c.from_residual.result c.from_residual.ensures.1 in
    record {
      outcome = λ bank. rw (p.1, p.2) (refused_event _ (record c.args.self { bank = bank }) _ _ _ _ _ _ c.in_err-stepped.ensures);
      sound = rw (p.1, p.2) (not_unsound _ _ _ _ _ c.in_err-stepped.ensures);
    }

pub slice_bounds-start_all-end : goal.slice_bounds-start_all-end
slice_bounds-start_all-end c = fits_in _ _ _ _ c.in_ok-stepped.stepped c.requires.0 c.requires.1 c.in_ok-stepped.ensures

pub slice_bounds-start_all-end-2 : goal.slice_bounds-start_all-end-2
slice_bounds-start_all-end-2 c = sym (length-take-le _ _ (fits_in _ _ _ _ c.in_ok-stepped.stepped c.requires.0 c.requires.1 c.in_ok-stepped.ensures))

pub start_all-started-requires : goal.start_all-started-requires
start_all-started-requires c =
    -- a record's array has seven timers
    let seven : length c.args.self.call.timers ≡ 7 = search rules in
    (messages_in (row_for c.args.self.call c.args.event), wrote _ _ _ _ c.in_ok-stepped.stepped c.requires.0 seven c.requires.1 c.in_ok-stepped.ensures)

pub returns : goal.returns
returns c =
    let seven : length c.args.self.call.timers ≡ 7 = search rules in
    record {
      outcome = λ bank. rw c.joined.ensures (taken_event _ (record c.args.self { bank = bank }) _ _ _ _ _ _ c.in_ok-stepped.stepped c.requires.0 seven c.requires.1 c.in_ok-stepped.ensures c.start_all-started.ensures);
      sound = tt;
    }
