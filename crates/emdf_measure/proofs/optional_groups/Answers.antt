use Rattle.std.proofs.Common.{rules}
use Rattle.emdf_format.specs.Groups.{optional_groups}
use Rattle.emdf_measure.proofs.optional_groups.Goals as goal

pub returns : goal.returns
unfolding optional_groups
returns c = search rules
