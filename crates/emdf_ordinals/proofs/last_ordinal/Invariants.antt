use mathlib.Core.Path.{◌≡◌}
use Rattle.emdf_ordinals.specs.Rows.{last_ordinal, column_at}
use Rattle.emdf_ordinals.proofs.last_ordinal.Given as goal

abbrev pub invariant-loop-row : goal.invariant-loop-row
invariant-loop-row l = last_ordinal (column_at l.table l.width 0) (column_at l.table l.width l.offset) l.id l.row ≡ last_ordinal (column_at l.table l.width 0) (column_at l.table l.width l.offset) l.id l.rows
