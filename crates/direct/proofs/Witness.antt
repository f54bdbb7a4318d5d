-- The calls of the witness go as its lines say, by computing.
use mathlib.Core.Path.{refl}
use Rattle.records.specs.Letters.{within, is_direct_timer}
use Rattle.records.specs.Bytes.{number, bytes}
use Rattle.records.specs.Bodies.{value_at, values_at, kind_in, body_of, body_bytes, flat_size, flat_bytes}
use Rattle.records.specs.Tables.{read_body, read_among, read_as, read}
use Rattle.direct.specs.Messages.{message_bytes, bytes_of}
use Rattle.direct.specs.Call.{as_fresh, in_limits, sound}
use Rattle.direct.specs.Rows.{asked, awaited, given_up, connected, released, again, exhausted, acceptable, row_for}
use Rattle.direct.specs.Step.{carried, decided, step_of}
use Rattle.direct.specs.Runs.{outcome, next, run, taken_by, written_by, written_in, count, log_in, pres_after, pres_by}
use Rattle.direct.specs.Witness.{same_call, agrees, goes_so, Stories, EachShown, EachLimitReached, Needs27}

pub stories : Stories
unfolding within is_direct_timer number bytes value_at values_at kind_in body_of body_bytes flat_size flat_bytes read_body read_among read_as read message_bytes bytes_of as_fresh in_limits sound asked awaited given_up connected released again exhausted acceptable row_for carried decided step_of outcome next same_call agrees goes_so
stories = refl

pub each_shown : EachShown
unfolding within is_direct_timer number bytes value_at values_at kind_in body_of body_bytes flat_size flat_bytes read_body read_among read_as read message_bytes bytes_of as_fresh in_limits sound asked awaited given_up connected released again exhausted acceptable row_for carried decided step_of outcome next run taken_by written_by count log_in pres_after pres_by
each_shown =
    ((refl, refl, refl), ((refl, refl, refl), ((refl, refl, refl), ((refl, refl, refl), ((refl, refl, refl), ((refl, refl, refl), ((refl, refl, refl), ((refl, refl, refl), tt))))))))

pub each_limit_reached : EachLimitReached
unfolding within is_direct_timer number bytes value_at values_at kind_in body_of body_bytes flat_size flat_bytes read_body read_among read_as read message_bytes bytes_of as_fresh in_limits sound asked awaited given_up connected released again exhausted acceptable row_for carried decided step_of outcome next taken_by written_by written_in count
each_limit_reached = refl

pub needs_27 : Needs27
unfolding within is_direct_timer number bytes value_at values_at kind_in body_of body_bytes flat_size flat_bytes read_body read_among read_as read message_bytes bytes_of as_fresh in_limits sound asked awaited given_up connected released again exhausted acceptable row_for carried decided step_of outcome next run
needs_27 = refl
