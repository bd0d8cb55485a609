use Prim.Native.Nat.{◌<◌}
use mathlib.Core.Path.{◌≡◌}
use Rattle.emdf_format.specs.Reader.{groups_from}
use Rattle.emdf_fields.specs.Fields.{field_answer}
use Rattle.emdf_fields.proofs.groups.Given as goal

abbrev pub invariant-loop-found : goal.invariant-loop-found
invariant-loop-found l = (0 < l.left) × (field_answer l.at.end (groups_from l.width l.limit l.left l.start l.s l.at.end l.at.position) ≡ field_answer l.initial.at.end (groups_from l.width l.limit l.limit 0 l.s l.initial.at.end l.initial.at.position))

abbrev pub decreases-loop-found : goal.decreases-loop-found
decreases-loop-found l = l.left
