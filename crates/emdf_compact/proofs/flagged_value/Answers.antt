use borrow.Author.Tests.{eq-eqb, ne_eqb}
use Rattle.emdf_compact.specs.Words.{flagged_value}
use Rattle.emdf_compact.proofs.flagged_value.Goals as goal

pub returns-then-x-eq0 : goal.returns-then-x-eq0
unfolding flagged_value
returns-then-x-eq0 c = rw (eq-eqb _ 0 c.if-x-eq0.true)

pub returns : goal.returns
unfolding flagged_value
returns c = rw (ne_eqb _ 0 c.if-x-eq0.false)
