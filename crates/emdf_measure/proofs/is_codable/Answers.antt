use Rattle.std.proofs.Common.{arith}
use Rattle.std.proofs.lemmas.Bool.Decides.{nat_tests}
use Rattle.emdf_format.specs.Contents.{protection_code, protection_length, codable}
use Rattle.emdf_measure.proofs.is_codable.Goals as goal

pub returns-in-0 : goal.returns-in-0
unfolding codable protection_code protection_length
returns-in-0 c = grind (arith, nat_tests)

pub returns-in-0-2 : goal.returns-in-0-2
unfolding codable protection_code protection_length
returns-in-0-2 c = grind (arith, nat_tests)

pub returns-in_default : goal.returns-in_default
unfolding codable protection_code protection_length
returns-in_default c = grind (arith, nat_tests)
