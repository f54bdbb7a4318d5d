-- Every claim holds.
use Prim.Native.Nat.{ℕ, ◌%◌, ◌<◌}
use mathlib.Core.Path.{◌≡◌}
use mathlib.Core.Bool.{true}
use native.Mathlib.Omega.{arith}
use Rattle.records.specs.Bytes.{bytes}
use Rattle.records.specs.Bodies.{all_fit, flat_fits, body_bytes, flat_size, flat_bytes}
use Rattle.records.specs.Tables.{Table, fine}
use Rattle.records.specs.Laws as laws
use Rattle.records.proofs.RoundTrip as round
use Rattle.records.proofs.Places as places
use Rattle.direct.specs.declared.events.Event.TheVariants.{SetupRequest}
use Rattle.direct.specs.Events.{events}
use Rattle.direct.specs.Messages.{messages}
use Rattle.direct.specs.Demands as claims
use Rattle.direct.proofs.Tables.{event_lawful, message_lawful}
use Rattle.direct.proofs.Answers as Answers
use Rattle.direct.proofs.Attempts as Attempts
use Rattle.direct.proofs.Kept as Kept
use Rattle.direct.proofs.NewKinds as NewKinds
use Rattle.direct.proofs.ReadsBack as ReadsBack
use Rattle.direct.proofs.Sent as Sent
use Rattle.direct.proofs.Timers as Timers
use Rattle.direct.proofs.Told as Told

-- ---- the answers

pub answered : claims.Answered
answered = Answers.answered

pub refuses : claims.Refused
refuses = Answers.refuses

pub placed : claims.Placed
placed = Answers.placed

pub place_only_with_four : claims.PlaceOnlyWithFour
place_only_with_four = Answers.placeless

request_fine : (t l m : ℕ) → t < 256 → l < 256 → m < 256 → fine events (SetupRequest t l m) ≡ true
unfolding fine flat_fits all_fit
request_fine t l m h k j = rw (ReadsBack.byte_within t h, ReadsBack.byte_within l k, ReadsBack.byte_within m j)

pub any_byte_reads : claims.AnyByteReads
unfolding bytes body_bytes flat_size flat_bytes
any_byte_reads t l m h k j =
    let a : t % 256 ≡ t = omega arith in
    let b : l % 256 ≡ l = omega arith in
    let c : m % 256 ≡ m = omega arith in
    rw (a, b, c) at (round.written_reads_back events event_lawful (SetupRequest t l m) (request_fine t l m h k j))

pub beyond_gets_sixty : claims.BeyondGetsSixty
beyond_gets_sixty = Answers.beyond_gets_sixty

-- ---- the record

pub fresh_is_sound : claims.FreshIsSound
fresh_is_sound = Kept.fresh_kept

pub step_keeps_sound : claims.StepKeepsSound
step_keeps_sound = Kept.turn_keeps

pub run_sound : claims.Sound
run_sound = Kept.sound_runs

pub never_unsound : claims.NeverUnsound
never_unsound = Answers.never_unsound

pub idle_is_fresh : claims.IdleIsFresh
idle_is_fresh = Kept.idle_is_fresh

-- ---- what is taken and written

pub zero_is_taken : claims.Zero
zero_is_taken = Answers.zero_is_taken

pub taken_gives : claims.Taken
taken_gives = Answers.taken_gives

pub written_in_range : claims.WrittenInRange
written_in_range = ReadsBack.written_in_range

pub reads_back : claims.ReadsBack
reads_back = ReadsBack.reads_back

pub new_kinds : claims.NewKinds
new_kinds = NewKinds.new_kinds

pub at_most_27 : claims.AtMost27
at_most_27 = Answers.at_most_27

pub enough_27 : claims.Enough27
enough_27 = Answers.enough_27

-- ---- attempts

pub at_most_limit : claims.AtMostLimit
at_most_limit = Attempts.at_most_limit

pub only_in_calls : claims.OnlyInCalls
only_in_calls = Attempts.only_in_calls

pub quiet_until_asked : claims.QuietUntilAsked
quiet_until_asked = Attempts.quiet_until_asked

pub begun_in_idle : claims.BegunInIdle
begun_in_idle = Attempts.begun_in_idle

pub no_more_than_asked : claims.NoMoreThanAsked
no_more_than_asked = Attempts.no_more_than_asked

pub back_to_idle : claims.BackToIdle
back_to_idle = Attempts.back_to_idle

pub at_most_twice : claims.AtMostTwice
at_most_twice = Attempts.at_most_twice

pub as_often_as_limit : claims.AsOftenAsLimit
as_often_as_limit = Attempts.as_often_as_limit

-- ---- the timers

pub timers_by_messages : claims.TimersByMessages
timers_by_messages = Timers.timers_by_messages

pub none_in_idle : claims.NoneInIdle
none_in_idle = Timers.none_in_idle

pub stops_running : claims.StopsRunning
stops_running = Timers.stops_running

pub late : claims.Late
late = Timers.late

pub due_expiry : claims.DueExpiry
due_expiry = Timers.due_expiry

pub due_answer : claims.DueAnswer
due_answer = Timers.due_answers

pub due_report : claims.DueReport
due_report = Timers.due_report

pub report_elsewhere : claims.ReportElsewhere
report_elsewhere = Timers.report_elsewhere

-- ---- what the user is told

pub one_indication : claims.OneIndication
one_indication = Told.one_indication

pub one_confirm : claims.OneConfirm
one_confirm = Told.one_confirm

pub held_as_asked : claims.HeldAsAsked
held_as_asked = Told.held_as_asked

pub active_within : claims.ActiveWithin
active_within = Told.enters_within

pub outside_releases : claims.OutsideReleases
outside_releases = Told.outside_releases

-- ---- what goes to the called set and to the lower layers

pub one_closing : claims.OneClosing
one_closing = Sent.one_closing

pub one_configure : claims.OneConfigure
one_configure = Sent.one_configure

pub expiry_writes : claims.ExpiryWrites
expiry_writes = Sent.expiry_writes

pub within_connects : claims.WithinConnects
within_connects = Sent.within_connects

pub given_up_is_fresh : claims.GivenUpIsFresh
given_up_is_fresh = Sent.given_up_is_fresh

pub active_stays : claims.ActiveStays
active_stays = Sent.active_stays

-- ---- records' laws of any table, for direct mode's two

module _ (t : Table) (ok : laws.Lawful t) where
  round_trips : claims.RoundTrips t
  round_trips = (
    round.written_reads_back t ok,
    round.writer_reads_back t ok,
    round.read_is_written_back t ok,
    round.read_writes_back t ok,
    places.place_is_wrong t ok,
    places.wrong_has_place t ok,
    places.place_only_with_four t ok,
  )

pub both_round_trip : claims.BothRoundTrip
both_round_trip = (round_trips events event_lawful, round_trips messages message_lawful)
