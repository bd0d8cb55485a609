use Rattle.std.proofs.Common.{arith}
use Rattle.std.proofs.lemmas.Bool.Decides.{nat_tests}
use Rattle.emdf_format.specs.Contents.{◌&◌}
use Rattle.emdf_measure.specs.Parts.{writable_protection}
use Rattle.emdf_measure.proofs.writable_protection.Goals as goal

pub returns-then-is_codable : goal.returns-then-is_codable
unfolding writable_protection ◌&◌
returns-then-is_codable c = grind (arith, nat_tests)

pub returns-else-is_codable : goal.returns-else-is_codable
unfolding writable_protection ◌&◌
returns-else-is_codable c = grind (arith, nat_tests)
