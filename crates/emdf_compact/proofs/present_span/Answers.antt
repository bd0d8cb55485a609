use native.Mathlib.Omega.{arith}
use Rattle.emdf_compact.specs.Words.{present_span}
use Rattle.emdf_compact.proofs.present_span.Goals as goal

pub returns-then-there : goal.returns-then-there
unfolding present_span
returns-then-there c = (rw c.if-there.true, omega arith)

pub returns-else-there : goal.returns-else-there
unfolding present_span
returns-else-there c = (rw c.if-there.false, omega arith)
