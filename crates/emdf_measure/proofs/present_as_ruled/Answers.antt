use Rattle.std.proofs.Common.{arith}
use Rattle.std.proofs.lemmas.Bool.Decides.{nat_tests}
use Rattle.emdf_format.specs.Contents.{◌&◌, iff, is_present, present_as_ruled}
use Rattle.emdf_measure.proofs.present_as_ruled.Goals as goal

pub returns-then-at_most : goal.returns-then-at_most
unfolding present_as_ruled ◌&◌ iff is_present
returns-then-at_most c = grind (arith, nat_tests)

pub returns-else-at_most : goal.returns-else-at_most
unfolding present_as_ruled ◌&◌
returns-else-at_most c = grind (arith, nat_tests)
