-- The runs of specs/Witness go as their lines say.
use mathlib.Core.Path.{refl}
use Rattle.records.specs.Bytes.{bytes}
use Rattle.records.specs.Bodies.{body_bytes, flat_size, flat_bytes}
use Rattle.records.specs.Messages.{message_bytes}
use Rattle.callcontrol.specs.Writing.{bytes_of}
use Rattle.channel.specs.Rooms.{is_free, has_number, waits_for, of_call, room_fits, apart_from, rooms_sound, freed}
use Rattle.channel.specs.Questions.{carried, asked_of, decision_of, taken, ask_of, decide_of, rejects, ended_of}
use Rattle.channel.specs.Runs.{outcome, next, written_by}
use Rattle.channel.specs.Witness.{GoesSo, four_wait, at_once}

pub four_waited : GoesSo four_wait
unfolding bytes body_bytes flat_size flat_bytes message_bytes bytes_of is_free has_number waits_for of_call room_fits apart_from rooms_sound freed carried asked_of decision_of taken ask_of decide_of rejects ended_of outcome next written_by
four_waited = refl

pub answered_at_once : GoesSo at_once
unfolding bytes body_bytes flat_size flat_bytes message_bytes bytes_of is_free has_number waits_for of_call room_fits apart_from rooms_sound freed carried asked_of decision_of taken ask_of decide_of rejects ended_of outcome next written_by
answered_at_once = refl
