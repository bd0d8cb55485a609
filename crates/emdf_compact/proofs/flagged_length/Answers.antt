use native.Mathlib.Omega.{arith}
use borrow.Author.Tests.{eq-eqb, ne_eqb}
use Rattle.emdf_compact.specs.Words.{flagged_span, flagged_ends}
use Rattle.emdf_compact.proofs.Words.{last_bit}
use Rattle.emdf_compact.proofs.flagged_length.Goals as goal

pub returns-then-x-eq0 : goal.returns-then-x-eq0
unfolding flagged_span flagged_ends
returns-then-x-eq0 c = (rw (eq-eqb _ 0 c.if-x-eq0.true), omega arith)

pub returns-then-x-w-eq0 : goal.returns-then-x-w-eq0
unfolding flagged_span flagged_ends
returns-then-x-w-eq0 c = (rw (ne_eqb _ 0 c.if-x-eq0.false, last_bit, eq-eqb _ 0 c.if-x-w-eq0.true), omega arith)

pub returns : goal.returns
unfolding flagged_span flagged_ends
returns c = (rw (ne_eqb _ 0 c.if-x-eq0.false, last_bit, ne_eqb _ 0 c.if-x-w-eq0.false), omega arith)
