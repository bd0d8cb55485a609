use native.Mathlib.Omega.{arith}
use borrow.Author.Tests.{eq-eqb, ne_eqb}
use Rattle.emdf_compact.specs.Words.{flagged_span}
use Rattle.emdf_compact.proofs.flagged_span.Goals as goal

pub returns-then-x-eq0 : goal.returns-then-x-eq0
unfolding flagged_span
returns-then-x-eq0 c = (rw (eq-eqb _ 0 c.if-x-eq0.true), omega arith)

pub returns : goal.returns
unfolding flagged_span
returns c = (rw (ne_eqb _ 0 c.if-x-eq0.false), omega arith)
