use Rattle.std.proofs.Common.{rules}
use Rattle.emdf_format.specs.Contents.{when_present, up_to}
use Rattle.emdf_measure.proofs.at_most.Goals as goal

pub returns : goal.returns
unfolding when_present up_to
returns c = search rules
