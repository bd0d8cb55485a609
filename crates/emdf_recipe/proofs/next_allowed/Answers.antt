use Rattle.std.proofs.Common.{rules}
use Rattle.emdf_format.specs.Contents.{◌&◌}
use Rattle.emdf_recipe.specs.File.{next_allowed}
use Rattle.emdf_recipe.proofs.next_allowed.Goals as goal

pub returns-then-next-eq0 : goal.returns-then-next-eq0
unfolding next_allowed ◌&◌
returns-then-next-eq0 c = search rules

pub returns-then-i-next : goal.returns-then-i-next
unfolding next_allowed ◌&◌
returns-then-i-next c = search rules

pub returns-else-i-next : goal.returns-else-i-next
unfolding next_allowed ◌&◌
returns-else-i-next c = search rules
