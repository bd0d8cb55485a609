use mathlib.Core.Path.{◌∙◌}
use Rattle.emdf_trials.proofs.Stored.{row-stored, rows-done}
use Rattle.emdf_trials.proofs.put_table.Goals as goal

pub loop-place-preserved : goal.loop-place-preserved
loop-place-preserved c = rw c.put_row.ensures (row-stored _ _ _ _ c.loop-place-test.true) ∙ c.loop-place.invariant

pub returns : goal.returns
returns c = rows-done _ _ _ c.loop-place-test.false ∙ c.loop-place.invariant
