-- The proofs of specs/Demands and specs/Answers.
use Rattle.channel.specs.Answers.{AnsweredInOrder}
use Rattle.channel.specs.Demands as claims
use Rattle.channel.proofs.Counting.{sound_is}
use Rattle.channel.proofs.Kept.{always}
use Rattle.channel.proofs.Once as Once
use Rattle.channel.proofs.Waiting as Waiting
use Rattle.channel.proofs.Individual as Individual
use Rattle.channel.proofs.Written as Written
use Rattle.channel.proofs.Answering as Answering

pub rooms_sound_lem : claims.RoomsSound
rooms_sound_lem ts = sound_is (claims.after ts) (always ts)

pub never_unsound : claims.NeverUnsound
never_unsound ts t = Written.sound_not_one (claims.after ts) t (rooms_sound_lem ts)

pub four_rooms : claims.FourRooms
four_rooms ts = (always ts).four

pub no_two_wait : claims.NoTwoWait
no_two_wait ts n = (always ts).once n

pub free_serves : claims.FreeServes
free_serves = Individual.free_serves

pub refused : claims.Refused
refused = Written.refused

pub answered_in_order : AnsweredInOrder
answered_in_order = Answering.answered_in_order

pub once : claims.Once
once = Once.once

pub at_once : claims.AtOnce
at_once = Individual.at_once

pub waits : claims.Waits
waits = Waiting.waits_claim

pub not_before : claims.NotBefore
not_before = Waiting.not_before_claim

pub then : claims.Then
then = Waiting.then_claim

pub individual : claims.Individual
individual = Individual.individual

pub individual_taken : claims.IndividualTaken
individual_taken = Individual.individual_taken

pub ending_pdu : claims.EndingPdu
ending_pdu = Individual.ending_pdu

pub reads_back : claims.ReadsBack
reads_back = Written.reads_back

pub at_most : claims.AtMost
at_most = Written.at_most

pub enough : claims.Enough
enough = Written.enough
