use native.Mathlib.Omega.{arith}
use Rattle.emdf_format.specs.Contents.{protection_length}
use Rattle.emdf_container.proofs.Octets.{protection-long}
use Rattle.emdf_container.proofs.protection_length.Goals as goal

pub returns-in-0 : goal.returns-in-0
unfolding protection_length
returns-in-0 c = rw c.in-0.is

pub returns-in-1 : goal.returns-in-1
unfolding protection_length
returns-in-1 c = rw c.in-1.is

pub returns-in-2 : goal.returns-in-2
unfolding protection_length
returns-in-2 c = rw c.in-2.is

pub returns-in_default : goal.returns-in_default
unfolding protection_length
returns-in_default c = protection-long c.args.code (omega arith)
