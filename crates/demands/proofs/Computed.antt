-- The definitions that a step on given bytes goes through, under one name: `unfolding computed` opens them all, for what is shown by computing.
use Rattle.records.specs.Letters.{within, is_timer}
use Rattle.records.specs.Bytes.{number, bytes}
use Rattle.records.specs.Bodies.{numbers_at, all_fit, value_at, values_at, kind_in, body_of, body_bytes, flat_size, flat_bytes}
use Rattle.records.specs.Tables.{read_body, read_among, read_as, read}
use Rattle.records.specs.Messages.{message_bytes}
use Rattle.callcontrol.specs.Call.{all_stopped, in_range, as_fresh, timers_agree, state_agrees, sound}
use Rattle.callcontrol.specs.Draft.{restart, grant, grant_or_off}
use Rattle.callcontrol.specs.Rows.{releasing, released, disconnected, timed_out, expiry, idle, mo_call_setup, mt_call_setup, demands, ceases, informed, cut, active_expiry, active_up, asks, active_broken, active_restoring, wait, confirmed, call_disconnect, active, in_state, row_for}
use Rattle.callcontrol.specs.Writing.{by_number, starting, messages_in, bytes_of}
use Rattle.callcontrol.specs.Step.{other_call, carried, decided, step_of}
use Rattle.callcontrol.proofs.Verbs.{verbs}
use Rattle.demands.specs.Runs.{outcome, next, run, taken_by, written_by, written_in, told_after, last_told, told, ends_call, ends}

unfoldable pub computed : Unit {0}
unfolding within is_timer number bytes numbers_at all_fit value_at values_at kind_in body_of body_bytes flat_size flat_bytes read_body read_among read_as read message_bytes all_stopped in_range as_fresh timers_agree state_agrees sound verbs restart grant grant_or_off releasing released disconnected timed_out expiry idle mo_call_setup mt_call_setup demands ceases informed cut active_expiry active_up asks active_broken active_restoring wait confirmed call_disconnect active in_state row_for by_number starting messages_in bytes_of other_call carried decided step_of outcome next run taken_by written_by written_in told_after last_told told ends_call ends
computed = tt
