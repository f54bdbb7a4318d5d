-- A proof of each claim of specs/Demands.
use Rattle.timed.specs.Demands as claims
use Rattle.timed.proofs.InTime as InTime
use Rattle.timed.proofs.OffAir as OffAir
use Rattle.timed.proofs.OnTime as OnTime
use Rattle.timed.proofs.Rest as Rest
use Rattle.timed.proofs.Served as Served
use Rattle.timed.proofs.Silence as Silence
use Rattle.timed.proofs.Together as Together

-- (a) Record and bank stay together

pub bank_is_record : claims.BankIsRecord
bank_is_record = Together.bank_is_record

pub stays_set : claims.StaysSet
stays_set = Together.stays_set

pub never_no_set : claims.NeverNoSet
never_no_set = Together.never_no_set

-- (h) The call is the step's

pub follows_step : claims.FollowsStep
follows_step = Together.follows_step

pub steps_taken : claims.StepsTaken
steps_taken = Together.steps_taken

pub writes_step : claims.WritesStep
writes_step = Together.writes_step

pub steps_append : claims.StepsAppend
steps_append = Together.steps_append

pub told_set : claims.ToldSet
told_set = Together.told_set

-- (b) No expiry is refused

pub due_answers_zero : claims.DueAnswersZero
due_answers_zero = Served.due_answers_zero

pub due_in_reach : claims.DueInReach
due_in_reach = Served.due_in_reach

pub at_most_two : claims.AtMostTwo
at_most_two = OnTime.at_most_two

-- (g) A step after due

pub as_the_step : claims.AsTheStep
as_the_step = Served.as_the_step

-- (f) How much is written

pub at_most_32 : claims.AtMost32
at_most_32 = Served.at_most_32_set

pub due_at_most_30 : claims.DueAtMost30
due_at_most_30 = Served.due_at_most_30

-- (c) In true time

pub step_settled : claims.StepSettled
step_settled = OnTime.step_settled

pub due_settled : claims.DueSettled
due_settled = OnTime.due_settled

pub due_first : claims.DueFirst
due_first = OnTime.due_first

pub not_passed_over : claims.NotPassedOver
not_passed_over = OnTime.not_passed_over

pub others_stop : claims.OthersStop
others_stop = OnTime.others_stop

pub on_time : claims.OnTime
on_time = InTime.on_time

pub near_for_nothing : claims.NearForNothing
near_for_nothing = Rest.near_for_nothing

-- (d) Off the air

pub on_air : claims.OnAir
on_air = OnTime.on_air

pub off_air : claims.OffAir
off_air = OffAir.off_air

-- (e) In silence

pub outlives : claims.Outlives
outlives = Silence.outlives

pub started : claims.Started
started = OffAir.started_so

pub outlives_network : claims.OutlivesNetwork
outlives_network = OffAir.outlives_network

pub in_silence : claims.InSilence
in_silence = Silence.in_silence

pub closes : claims.Closes
closes = Silence.closes_call

pub lone_rests : claims.LoneRests
lone_rests = Rest.lone_rests

pub rests_for_ever : claims.RestsForEver
rests_for_ever = Rest.rests_for_ever

pub at_rest : claims.AtRest
at_rest = Rest.at_rest

pub rests_exactly : claims.RestsExactly
rests_exactly = Rest.rests_exactly
