-- Size and kind as one number of four bytes, then the body.
use Rattle.std.proofs.Common.{◌+◌, ◌*◌, ◌/◌, ◌%◌, arith}
use Rattle.records.proofs.Laws.{length-bytes, stored_then}
use Rattle.small.specs.Entry.{entry_bytes}
use Rattle.small.proofs.laying.Room.lay_entry.Goals as goal

pub lay_body-requires : goal.lay_body-requires
lay_body-requires c =
    let e = c.args.entry in
    (omega arith, omega (arith, c.requires.0, c.put.ensures.end, length-bytes 4 (e / 0x10000 % 16 + e / 0x100000 * 0x10000)), c.requires.1)

pub returns : goal.returns
unfolding entry_bytes
returns c = stored_then c.put.ensures c.lay_body.ensures
