-- Byte for byte, as the definition goes.
use borrow.Author.Rules.{rules}
use mathlib.Core.Path.{◌≡◌, ◌∙◌}
use Rattle.host.proofs.Packing.{four_of}
use mathlib.Core.Bool.{false}
use lib.ListN.{get_or}
use Rattle.records.specs.Bytes.{bytes}
use Rattle.host.specs.Packing.{flag, names, settings, running, packed}
use Rattle.host.proofs.packed.packed.Goals as goal

pub returns : goal.returns
unfolding names settings running packed bytes
returns c =
    let t = c.args.call.timers in
    let t301 : get_or c.map.result 0 0 ≡ flag (get_or t 0 false) = search rules in
    let t302 : get_or c.map.result 1 0 ≡ flag (get_or t 1 false) = search rules in
    let t303 : get_or c.map.result 2 0 ≡ flag (get_or t 2 false) = search rules in
    let t306 : get_or c.map.result 3 0 ≡ flag (get_or t 3 false) = search rules in
    let t308 : get_or c.map.result 4 0 ≡ flag (get_or t 4 false) = search rules in
    let t310 : get_or c.map.result 5 0 ≡ flag (get_or t 5 false) = search rules in
    let t311 : get_or c.map.result 6 0 ≡ flag (get_or t 6 false) = search rules in
    let four : c.to_le_bytes-2.result ≡ bytes 4 c.args.call.address = c.to_le_bytes-2.ensures ∙ four_of c.args.call.address in
    rw (c.from.ensures, c.from-2.ensures, c.to_le_bytes.ensures, four, t301, t302, t303, t306, t308, t310, t311)
