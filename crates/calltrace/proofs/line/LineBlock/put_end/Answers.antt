-- With nothing left no line is laid.
use mathlib.Core.Path.{sym}
use mathlib.Core.List.{append-nil}
use native.Mathlib.Omega.{arith}
use borrow.Author.Tests.{eq-eqb}
use Rattle.calltrace.proofs.line.LineBlock.put_end.Goals as goal

pub returns-else-rest-gt0-clause-value : goal.returns-else-rest-gt0-clause-value
returns-else-rest-gt0-clause-value c = rw (eq-eqb c.args.rest 0 (omega (arith, c.if-rest-gt0.false))) (sym (append-nil _))
