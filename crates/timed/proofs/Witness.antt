-- The runs of specs/Witness, computed.
use mathlib.Core.Path.{refl}
use Rattle.timers.specs.Wrap as wrap
use Rattle.timers.specs.Due as keys
use Rattle.timers.specs.Bank as bank
use Rattle.demands.specs.Runs as Steps
use Rattle.demands.proofs.Computed.{computed}
use Rattle.timed.specs.Set.{same_flags, is_set, is_length, timers_right, limits_right, table_right, started_by, started_all, held_at, turned}
use Rattle.timed.specs.Entries.{of_turn, when_ready, step_of, due_of}
use Rattle.timed.specs.Times.{noted, noted_all}
use Rattle.timed.specs.Runs.{outcome, is_taken, next, steps_by, is_word, made, then, after}
use Rattle.timed.specs.Witness.{shows, Reached, Writes32, Writes30, Earlier, TooLate, LiesTooLong, DuplexRests}

timed : Unit {0}
unfolding computed Steps.taken_in wrap.forward wrap.signed wrap.is_back keys.key_of keys.keys_of keys.count_of keys.under keys.greater keys.below keys.number_of keys.handed keys.staying bank.new_bank bank.started bank.keys_at bank.handed_at bank.advanced_to bank.index_of bank.entry_of bank.length_in same_flags is_set is_length timers_right limits_right table_right started_by started_all held_at turned of_turn when_ready step_of due_of noted noted_all outcome is_taken next steps_by is_word made then after
timed = tt

pub reached : Reached
unfolding timed shows
reached = record { t303 = refl; t302 = refl; t301 = refl; t306 = refl; t310 = refl; t308 = refl; t311 = refl; two = refl }

pub writes_32 : Writes32
unfolding timed
writes_32 = refl

pub writes_30 : Writes30
unfolding timed
writes_30 = (refl, refl)

pub earlier : Earlier
unfolding timed
earlier = (refl, refl)

pub too_late : TooLate
unfolding timed
too_late = (refl, refl, refl)

pub lies_too_long : LiesTooLong
unfolding timed
lies_too_long = (refl, refl, refl, refl, refl)

pub duplex_rests : DuplexRests
unfolding timed
duplex_rests = (refl, refl)
