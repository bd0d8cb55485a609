use Rattle.std.proofs.Common.{arith}
use Rattle.std.proofs.lemmas.Bool.Decides.{nat_tests}
use Rattle.emdf_format.specs.Contents.{◌&◌, up_to, writable_config}
use Rattle.emdf_measure.specs.Parts.{writable_controls}
use Rattle.emdf_measure.proofs.writable_config.Goals as goal

pub returns-then-t-le1-2 : goal.returns-then-t-le1-2
unfolding writable_config writable_controls up_to ◌&◌
returns-then-t-le1-2 c = grind (arith, nat_tests)

pub returns-else-t-le1-2 : goal.returns-else-t-le1-2
unfolding writable_config writable_controls up_to ◌&◌
returns-else-t-le1-2 c = grind (arith, nat_tests)
