use Rattle.std.proofs.Common.{rules}
use Rattle.emdf_format.specs.Contents.{is_one}
use Rattle.emdf_settings.proofs.is_one.Goals as goal

pub returns : goal.returns
unfolding is_one
returns c = search rules
