-- The witness's run goes as its lines say, and the room that it wants is wanted, by computation.
use mathlib.Core.Path.{refl}
use lib.Dec.{lit≤}
use Rattle.demands.proofs.Computed.{computed}
use Rattle.demands.specs.Runs.{taken_in}
use Rattle.demands.specs.History.{note_slots, reads_slots, slots_by_history}
use Rattle.demands.specs.Demands.{restores, quiet}
use Rattle.demands.specs.Clocks.{log_in, index_of, note_message, note_messages, note_expiry, note_log, running_by}
use Rattle.console.specs.Table.{holds, alike, table_sound}
use Rattle.console.specs.Route.{at_named, at_lowest_idle, outgoing, incoming, at_holder, route_of}
use Rattle.console.specs.Console.{placed, at_place, everywhere, console_of}
use Rattle.console.specs.Runs.{console_outcome, console_next, console_run, went_to, went_in}
use Rattle.console.specs.Answers.{console_applies}
use Rattle.console.specs.Witness.{shown, TwoCalls, RoomReached, PremisesMet, ThreeDueMet, EightMet, NoLimitMet, Writes57}

pub two_calls : TwoCalls
unfolding shown computed holds alike table_sound at_named at_lowest_idle outgoing incoming at_holder route_of placed at_place everywhere console_of console_outcome console_next console_run
two_calls = refl

pub room_reached : RoomReached
unfolding computed holds alike table_sound at_named at_lowest_idle outgoing incoming at_holder route_of placed at_place everywhere console_of console_outcome console_next console_run
room_reached = (refl, refl)

pub premises_met : PremisesMet
unfolding computed restores quiet taken_in note_slots reads_slots slots_by_history holds alike table_sound at_named at_lowest_idle outgoing incoming at_holder route_of placed at_place everywhere console_of console_outcome console_next console_run went_to went_in
premises_met =
    record {
      went = refl;
      broke = refl;
      calm = refl;
      back = refl;
      restored = refl;
      came = refl;
      ended = refl;
      rings = refl;
      connected = refl;
      slots = refl;
      carried = refl;
    }

pub three_due_met : ThreeDueMet
unfolding computed log_in index_of note_message note_messages note_expiry note_log running_by holds alike table_sound at_named at_lowest_idle outgoing incoming at_holder route_of placed at_place everywhere console_of console_outcome console_next console_run went_to went_in
three_due_met =
    record {
      due = (311, refl, refl, lit≤ tt, (310, refl, refl, lit≤ tt, (308, refl, refl, lit≤ tt, tt)));
      three = refl;
    }

pub eight_met : EightMet
unfolding computed console_applies holds alike table_sound at_named at_lowest_idle outgoing incoming at_holder route_of placed at_place everywhere console_of console_outcome console_next console_run went_to went_in
eight_met = record { transmitting = refl; went = refl; given = refl; eight = refl; seven = refl; before_seven = refl }

pub no_limit_met : NoLimitMet
unfolding computed log_in index_of note_message note_messages note_expiry note_log running_by holds alike table_sound at_named at_lowest_idle outgoing incoming at_holder route_of placed at_place everywhere console_of console_outcome console_next console_run went_to went_in
no_limit_met = record { stands_so = refl; code = refl; none_runs_lem = refl; other_runs = refl; no_expiry = refl }

pub writes_57 : Writes57
unfolding computed holds alike table_sound at_named at_lowest_idle outgoing incoming at_holder route_of placed at_place everywhere console_of console_outcome
writes_57 = (refl, refl)
