use Rattle.std.proofs.Common.{arith}
use Rattle.std.proofs.lemmas.Bool.Decides.{nat_tests}
use Rattle.emdf_format.specs.Contents.{◌&◌, up_to, writable_config}
use Rattle.emdf_measure.specs.Parts.{writable_controls}
use Rattle.emdf_measure.proofs.writable_controls.Goals as goal

pub returns-then-present_as_ruled-4 : goal.returns-then-present_as_ruled-4
unfolding writable_config writable_controls up_to ◌&◌
returns-then-present_as_ruled-4 c = grind (arith, nat_tests)

pub returns-else-present_as_ruled-4 : goal.returns-else-present_as_ruled-4
unfolding writable_config writable_controls up_to ◌&◌
returns-else-present_as_ruled-4 c = grind (arith, nat_tests)
