use Rattle.std.proofs.Common.{arith}
use Rattle.std.proofs.lemmas.Bool.Decides.{nat_tests}
use Rattle.emdf_format.specs.Contents.{protection_code}
use Rattle.emdf_measure.proofs.protection_code.Goals as goal

pub returns-in-0 : goal.returns-in-0
unfolding protection_code
returns-in-0 c = rw c.in-0.is

pub returns-in-1 : goal.returns-in-1
unfolding protection_code
returns-in-1 c = rw c.in-1.is

pub returns-in-4 : goal.returns-in-4
unfolding protection_code
returns-in-4 c = rw c.in-4.is

pub returns-in_default : goal.returns-in_default
unfolding protection_code
returns-in_default c = grind (arith, nat_tests)
