-- The calls of the witness go as its lines say, by computing.
use mathlib.Core.Path.{refl}
use lib.Dec.{lit≤}
use Rattle.demands.specs.Demands.{wrong_length, no_kind, retired_kind, body_fits, bad_body, applies, restores, quiet, one_call}
use Rattle.demands.specs.Runs.{of_kind}
use Rattle.demands.specs.Clocks.{log_in, index_of, note_message, note_messages, note_expiry, note_log, running_by}
use Rattle.demands.specs.Witness.{flags, numbers, same, agrees, goes_so, first_given, numbers_of, Witness}
use Rattle.demands.proofs.Computed.{computed}

pub witness : Witness
unfolding computed log_in index_of note_message note_messages note_expiry note_log running_by numbers_of of_kind one_call goes_so first_given agrees same numbers flags restores quiet applies wrong_length no_kind retired_kind body_fits bad_body
witness =
    record {
      lines = refl;
      cuts = ((refl, refl, refl), ((refl, refl, refl), ((refl, refl, refl), ((refl, refl, refl), tt))));
      ends = (refl, (refl, (refl, (refl, (refl, tt)))));
      tells = (refl, (refl, (refl, (refl, (refl, tt)))));
      holds = (refl, (refl, (refl, (refl, (refl, (refl, (refl, (refl, tt))))))));
      first = refl;
      timers = (refl, (refl, (refl, (refl, (refl, (refl, (refl, (refl, (refl, (refl, (refl, (refl, (refl, (refl, tt))))))))))))));
      collides = record { whole = refl; disconnects = refl; releases = refl };
      eight = record { eight = refl; seven = refl; given = refl };
      three = (311, refl, refl, lit≤ tt, (310, refl, refl, lit≤ tt, (308, refl, refl, lit≤ tt, tt)));
    }
