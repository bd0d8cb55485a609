use mathlib.Core.Path.{◌≡◌}
use Prim.Native.Nat.{◌*◌}
use lib.ListN.{drop}
use lib.Seq.{sets}
use Rattle.emdf_answers.specs.Carriers.{rows_bytes}
use Rattle.emdf_trials.proofs.put_table.Given as goal

abbrev pub invariant-loop-place : goal.invariant-loop-place
invariant-loop-place l = sets l.table (l.place * 224) (rows_bytes (drop l.place l.row-items)) ≡ sets l.initial.table 0 (rows_bytes l.row-items)
