use native.Mathlib.Omega.{arith}
use Rattle.std.proofs.lemmas.Bool.Decides.{nat_tests}
use Rattle.emdf_measure.proofs.larger.Goals as goal

pub returns : goal.returns
returns c = grind (arith, nat_tests)
