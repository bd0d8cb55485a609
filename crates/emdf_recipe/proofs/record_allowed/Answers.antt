use Rattle.std.proofs.Common.{rules}
use Rattle.emdf_format.specs.Contents.{◌&◌}
use Rattle.emdf_recipe.specs.File.{data_allowed, record_allowed}
use Rattle.emdf_recipe.proofs.record_allowed.Goals as goal

pub returns-then-e-ne0 : goal.returns-then-e-ne0
unfolding record_allowed data_allowed ◌&◌
returns-then-e-ne0 c = search rules

pub returns-in-Ok-Body : goal.returns-in-Ok-Body
unfolding record_allowed data_allowed ◌&◌
returns-in-Ok-Body c = search rules

pub returns-in-Ok-Drop : goal.returns-in-Ok-Drop
unfolding record_allowed data_allowed ◌&◌
returns-in-Ok-Drop c = search rules

pub returns-then-data_there : goal.returns-then-data_there
unfolding record_allowed data_allowed ◌&◌
returns-then-data_there c = search rules

pub returns-else-data_there : goal.returns-else-data_there
unfolding record_allowed data_allowed ◌&◌
returns-else-data_there c = search rules

pub returns-in-Err : goal.returns-in-Err
unfolding record_allowed data_allowed ◌&◌
returns-in-Err c = search rules
