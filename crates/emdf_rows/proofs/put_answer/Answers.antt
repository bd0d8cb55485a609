use mathlib.Core.Path.{refl, ◌∙◌}
use Rattle.emdf_rows.proofs.Stored.{words-whole}
use Rattle.emdf_rows.proofs.put_answer.Goals as goal

pub returns : goal.returns
returns c = (refl, c.put_words.ensures ∙ words-whole _ _ c.requires)
