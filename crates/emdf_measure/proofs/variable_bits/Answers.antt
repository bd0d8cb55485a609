use Rattle.std.proofs.Common.{rules}
use Rattle.emdf_format.specs.Contents.{flagged_bits}
use Rattle.emdf_measure.proofs.variable_bits.Goals as goal

pub returns : goal.returns
unfolding flagged_bits
returns c = search rules
