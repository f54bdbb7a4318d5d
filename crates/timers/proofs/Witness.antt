-- The runs of specs/Witness, computed.
use Rattle.std.proofs.Common.{refl}
use Rattle.timers.specs.Wrap as wrap
use Rattle.timers.specs.Due as due
use Rattle.timers.specs.Bank as bank
use Rattle.timers.specs.Time as time
use Rattle.timers.specs.Witness.{shows, TwoWraps, AtTheLimit, PastTheLimit}

pub two_wraps : TwoWraps
unfolding shows time.outcome time.handed_by time.next time.is_taken time.noted time.made bank.new_bank bank.stopped bank.started bank.advanced bank.advanced_to bank.handed_at bank.keys_at bank.index_of bank.entry_of bank.length_in due.key_of due.keys_of due.count_of due.under due.greater due.below due.number_of due.handed due.staying wrap.forward wrap.signed wrap.is_back
two_wraps = refl

pub at_the_limit : AtTheLimit
unfolding time.outcome time.made bank.new_bank bank.advanced wrap.forward wrap.signed wrap.is_back
at_the_limit = refl

pub past_the_limit : PastTheLimit
unfolding time.outcome time.handed_by time.next time.run time.is_taken time.noted time.made bank.new_bank bank.started bank.advanced bank.advanced_to bank.handed_at bank.keys_at bank.index_of bank.entry_of bank.length_in due.key_of due.keys_of due.count_of due.under due.greater due.below due.number_of due.handed due.staying wrap.forward wrap.signed wrap.is_back
past_the_limit = (refl, refl)
