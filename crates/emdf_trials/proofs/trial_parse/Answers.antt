use Rattle.std.proofs.Common.{sym, ◌∙◌, ap, rules}
use Rattle.emdf_trials.specs.Trials.{parse_reply}
use Rattle.emdf_trials.proofs.Answers.{read_told}
use Rattle.emdf_trials.proofs.trial_parse.Goals as goal

pub returns : goal.returns
returns c = rw (sym (ap parse_reply c.parse_emdf_sync-read.ensures) ∙ sym (read_told _ c.map_err.result (search rules))) c.put_read.ensures
