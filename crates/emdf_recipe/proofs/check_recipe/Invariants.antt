use Prim.Native.Nat.{◌<◌}
use Rattle.emdf_recipe.proofs.File.{Going, above}
use Rattle.emdf_recipe.proofs.check_recipe.Given as goal

abbrev pub invariant-loop-i : goal.invariant-loop-i
invariant-loop-i l = Going l.file l.count l.i l.edits × (l.count < 65536)

abbrev pub decreases-loop-i : goal.decreases-loop-i
decreases-loop-i l = above l.count l.i
