use Rattle.std.proofs.Common.{arith}
use Rattle.std.proofs.lemmas.Bool.Decides.{nat_tests}
use Rattle.emdf_format.specs.Contents.{present_bits}
use Rattle.emdf_measure.proofs.present_bits.Goals as goal

pub returns-then-is_some : goal.returns-then-is_some
unfolding present_bits
returns-then-is_some c = grind (arith, nat_tests)

pub returns-else-is_some : goal.returns-else-is_some
unfolding present_bits
returns-else-is_some c = grind (arith, nat_tests)
