use native.Mathlib.Omega.{arith}
use borrow.Author.Tests.{eq-eqb, ne_eqb}
use Rattle.emdf_compact.specs.Words.{variable_span, variable_ends}
use Rattle.emdf_compact.proofs.Words.{last_bit, last_more}
use Rattle.emdf_compact.proofs.variable_length.Goals as goal

pub returns-then-x-eq0 : goal.returns-then-x-eq0
unfolding variable_span variable_ends
returns-then-x-eq0 c = (rw (eq-eqb _ 0 c.if-x-eq0.true), omega arith)

pub returns-then-x-w-eq0 : goal.returns-then-x-w-eq0
unfolding variable_span variable_ends
returns-then-x-w-eq0 c = (rw (ne_eqb _ 0 c.if-x-eq0.false, last_bit, eq-eqb _ 0 c.if-x-w-eq0.true), omega arith)

pub returns-then-x-w-eq0-2 : goal.returns-then-x-w-eq0-2
unfolding variable_span variable_ends
returns-then-x-w-eq0-2 c = (rw (ne_eqb _ 0 c.if-x-eq0.false, last_bit, ne_eqb _ 0 c.if-x-w-eq0.false, last_more, eq-eqb _ 0 c.if-x-w-eq0-2.true), omega arith)

pub returns : goal.returns
unfolding variable_span variable_ends
returns c = (rw (ne_eqb _ 0 c.if-x-eq0.false, last_bit, ne_eqb _ 0 c.if-x-w-eq0.false, last_more, ne_eqb _ 0 c.if-x-w-eq0-2.false), omega arith)
