use Rattle.std.proofs.Common.{rules}
use Rattle.emdf_format.specs.Profile.{table56}
use Rattle.joc_configs.proofs.table56.Goals as goal

pub returns : goal.returns
unfolding table56
returns c = search rules
