-- Bytes that are no rooms are refused; else the rooms are asked, and packed where the answer is 0.
use Rattle.channel.specs.Questions.{ended_of}
use Rattle.host.proofs.ChannelAnswers.{no_rooms, rooms_length, left_rooms, ended_few}
use Rattle.host.proofs.rooms.callcontrol_channel_ended.Goals as goal

pub returns-in_default : goal.returns-in_default
returns-in_default c = no_rooms _ _ _ c.in_default.ensures

pub leave-requires : goal.leave-requires
leave-requires c = (rooms_length _ c.in-Some.ensures, ended_few _ _ _ _ _ c.ended.ensures)

pub returns : goal.returns
returns c = let a = c.args in left_rooms _ a.out.now (λ held. ended_of held a.call a.out.now) c.ended.result c.in-Some.ensures c.ended.ensures c.leave.ensures
