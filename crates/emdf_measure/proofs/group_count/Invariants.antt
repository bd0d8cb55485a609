use Prim.Native.Nat.{◌+◌}
use mathlib.Core.Path.{◌≡◌}
use Rattle.emdf_format.specs.Syntax.{count_before, groups}
use Rattle.emdf_measure.proofs.group_count.Given as goal

abbrev pub invariant-loop-left : goal.invariant-loop-left
invariant-loop-left l = l.n + count_before l.left l.width l.left ≡ groups l.width l.v

abbrev pub decreases-loop-left : goal.decreases-loop-left
decreases-loop-left l = l.left
