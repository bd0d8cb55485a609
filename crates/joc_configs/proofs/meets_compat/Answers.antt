use mathlib.Core.Path.{sym, ◌∙◌}
use Rattle.emdf_format.specs.Contents.{◌&◌}
use Rattle.emdf_format.specs.Profile.{meets_profile}
use Rattle.joc_configs.proofs.meets_compat.Goals as goal
use Rattle.joc_configs.proofs.meets_compat.Goals.{then-config_passes, else-config_passes}

pub returns-then-config_passes-2 : goal.returns-then-config_passes-2
unfolding meets_profile ◌&◌
returns-then-config_passes-2 c =
    elim c.if-config_passes.branch [
      | then-config_passes w ↦ rw (← c.config_passes.ensures, w.if-config_passes.true, ← w.config_passes-then-config_passes.ensures, sym w.value-is ∙ c.if-config_passes-2.true, c.differs.ensures)
      | else-config_passes w ↦ cc (w.value-is, w.if-config_passes.false, c.if-config_passes-2.true)
    ]

pub returns-else-config_passes-2 : goal.returns-else-config_passes-2
unfolding meets_profile ◌&◌
returns-else-config_passes-2 c =
    elim c.if-config_passes.branch [
      | then-config_passes w ↦ rw (c.if-config_passes-2.false, ← c.config_passes.ensures, w.if-config_passes.true, ← w.config_passes-then-config_passes.ensures, sym w.value-is ∙ c.if-config_passes-2.false)
      | else-config_passes w ↦ rw (c.if-config_passes-2.false, ← c.config_passes.ensures, w.if-config_passes.false)
    ]
