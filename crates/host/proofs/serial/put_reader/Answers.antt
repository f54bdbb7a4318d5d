-- The two stores are those of the definition.
use borrow.Author.Rules.{rules}
use mathlib.Core.Path.{◌≡◌}
use Rattle.host.specs.Packing.{flag}
use Rattle.host.proofs.serial.put_reader.Goals as goal

pub returns : goal.returns
returns c = let mark : c.from.result ≡ flag c.args.reader.stopped = search rules in rw mark
