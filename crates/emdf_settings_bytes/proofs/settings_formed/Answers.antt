use mathlib.Core.Path.{sym, ◌∙◌}
use Rattle.emdf_measure.proofs.Asked.{stop, go}
use Rattle.emdf_settings_bytes.specs.Settings.{settings_formed}
use Rattle.emdf_settings_bytes.proofs.settings_formed.Goals as goal

pub returns-then-pairs_formed : goal.returns-then-pairs_formed
unfolding settings_formed
returns-then-pairs_formed c = go _ (sym c.pairs_formed.ensures ∙ c.if-pairs_formed.true) c.pairs_formed-then-pairs_formed.ensures

pub returns-else-pairs_formed : goal.returns-else-pairs_formed
unfolding settings_formed
returns-else-pairs_formed c = c.if-pairs_formed.false ∙ stop _ (sym c.pairs_formed.ensures ∙ c.if-pairs_formed.false)
