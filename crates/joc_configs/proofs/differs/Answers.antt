use mathlib.Core.Path.{◌∙◌}
use Rattle.joc_configs.proofs.Profile.{equal-differ}
use Rattle.joc_configs.proofs.differs.Goals as goal

pub returns : goal.returns
returns c = c.ne.ensures ∙ equal-differ _ _
