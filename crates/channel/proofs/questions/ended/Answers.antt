-- The checks in their order, then the rooms one after the other.
use Rattle.std.proofs.Common.{sym, ◌∙◌}
use Rattle.channel.proofs.Asking.{fitting, size_rejects_in, end_rejects}
use Rattle.channel.proofs.questions.ended.Goals as goal

pub returns : goal.returns
returns c =
    end_rejects _ _ _ (sym c.are_sound.ensures ∙ c.if-not-are_sound.false) _ c.if-call-gt-ID_MOST.false
    (rw c.freed.ensures
    (fitting _ _ _ _ _ _ _ (rw c.of_call.ensures.count (sym (size_rejects_in _ _))) c.if-buffer-of_call.false c.reject.ensures))
