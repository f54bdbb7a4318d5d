-- What is left to test decides.
use Rattle.std.proofs.Common.{◌≡◌, length, arith, rules, drop_of_length-le}
use Rattle.channel.proofs.First.{sound_is_fitting, fitting_on}
use Rattle.channel.proofs.rooms.Rooms.are_sound.Goals as goal

pub returns-then-not-fits_before : goal.returns-then-not-fits_before
returns-then-not-fits_before c =
    let four : length c.args.self.rooms ≡ 4 = search rules in
    let on = fitting_on c.args.self.rooms c.loop-k.k (omega arith) c.fits_before.ensures in
    rw (sound_is_fitting c.args.self.rooms four, ← c.loop-k.invariant, on, c.if-not-fits_before.true)

pub returns : goal.returns
returns c =
    let four : length c.args.self.rooms ≡ 4 = search rules in
    rw (sound_is_fitting c.args.self.rooms four) (rw (drop_of_length-le c.args.self.rooms {i = c.loop-k.k} (omega arith)) at c.loop-k.invariant)
