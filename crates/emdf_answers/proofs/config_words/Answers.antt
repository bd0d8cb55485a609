use Rattle.emdf_answers.proofs.Carriers.{config-listed}
use Rattle.emdf_answers.proofs.config_words.Goals as goal

pub returns : goal.returns
returns c = let e = config-listed c.args.t in cc
