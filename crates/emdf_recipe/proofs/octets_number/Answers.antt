use native.Mathlib.Omega.{arith}
use Rattle.emdf_recipe.proofs.File.{window-number}
use Rattle.emdf_recipe.proofs.octets_number.Goals as goal

pub returns : goal.returns
returns c = rw c.window_at.ensures (window-number _ _ _ (omega arith))
