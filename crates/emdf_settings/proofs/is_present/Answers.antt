use Rattle.std.proofs.Common.{rules}
use Rattle.emdf_format.specs.Contents.{is_present}
use Rattle.emdf_settings.proofs.is_present.Goals as goal

pub returns : goal.returns
unfolding is_present
returns c = search rules
