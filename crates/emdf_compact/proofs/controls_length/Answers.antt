use native.Mathlib.Omega.{arith}
use borrow.Author.Tests.{eq-eqb, ne_eqb}
use Rattle.emdf_compact.specs.Words.{controls_span}
use Rattle.emdf_compact.proofs.controls_length.Goals as goal

pub returns-then-x-eq1 : goal.returns-then-x-eq1
unfolding controls_span
returns-then-x-eq1 c = (rw (eq-eqb _ 1 c.if-x-eq1.true), omega arith)

pub returns-then-offset : goal.returns-then-offset
unfolding controls_span
returns-then-offset c = (rw (ne_eqb _ 1 c.if-x-eq1.false, c.if-offset.true), omega arith)

pub returns-then-x-eq0 : goal.returns-then-x-eq0
unfolding controls_span
returns-then-x-eq0 c = (rw (ne_eqb _ 1 c.if-x-eq1.false, c.if-offset.false, eq-eqb _ 0 c.if-x-eq0.true), omega arith)

pub returns : goal.returns
unfolding controls_span
returns c = (rw (ne_eqb _ 1 c.if-x-eq1.false, c.if-offset.false, ne_eqb _ 0 c.if-x-eq0.false), omega arith)
