use Rattle.emdf_container.proofs.Words.{word_value}
use Rattle.emdf_container.proofs.word_at.Goals as goal

pub returns : goal.returns
returns c = word_value _ _ c.window_at.ensures c.window_at-2.ensures
