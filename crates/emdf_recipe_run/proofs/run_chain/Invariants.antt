use Prim.Native.Nat.{◌<◌}
use Rattle.emdf_recipe.specs.File.{record_count}
use Rattle.emdf_recipe.proofs.File.{above}
use Rattle.emdf_recipe_run.proofs.Runs.{Running}
use Rattle.emdf_recipe_run.proofs.run_chain.Given as goal

abbrev pub invariant-loop-i : goal.invariant-loop-i
invariant-loop-i l = Running l.start l.file l.initial.first l.initial.second l.i (record { answer = l.state; first = l.first; second = l.second }) × (l.i < 65536)

abbrev pub decreases-loop-i : goal.decreases-loop-i
decreases-loop-i l = above (record_count l.file) l.i
