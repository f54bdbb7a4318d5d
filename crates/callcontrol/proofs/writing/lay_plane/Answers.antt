-- Plane 0 is none; any other is told.
use borrow.Author.Tests.{eq-eqb, ne_eqb}
use Rattle.callcontrol.specs.Writing.{lay_all}
use Rattle.callcontrol.proofs.writing.lay_plane.Goals as goal

pub returns-then-plane-eq0 : goal.returns-then-plane-eq0
unfolding lay_all
returns-then-plane-eq0 c = record { is = rw (eq-eqb _ _ c.if-plane-eq0.true) }

pub returns : goal.returns
unfolding lay_all
returns c = record { is = rw (ne_eqb _ _ c.if-plane-eq0.false) c.lay_configure.ensures }
