use native.Mathlib.Omega.{arith}
use mathlib.Core.Path.{sym}
use Rattle.emdf_compact.proofs.Words.{shortest-grouped}
use Rattle.emdf_compact.proofs.grouped_length.Goals as goal

pub returns-then-x-eq1 : goal.returns-then-x-eq1
returns-then-x-eq1 c = (sym (shortest-grouped _ c.if-x-eq1.true), omega arith)
