use mathlib.Core.Path.{◌∙◌}
use Rattle.joc_configs.specs.Settings.{passes_as}
use Rattle.joc_configs.proofs.Profile.{equal-allows}
use Rattle.joc_configs.proofs.passes.Goals as goal

pub returns-then-meets_wanted : goal.returns-then-meets_wanted
unfolding passes_as
returns-then-meets_wanted c = rw (← c.meets_wanted.ensures, c.if-meets_wanted.true)

pub returns-else-meets_wanted : goal.returns-else-meets_wanted
unfolding passes_as
returns-else-meets_wanted c = rw (← c.meets_wanted.ensures, c.if-meets_wanted.false) (c.eq.ensures ∙ equal-allows _ _)
