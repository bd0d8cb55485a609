use Rattle.std.proofs.Common.{rules}
use mathlib.Core.Path.{sym, ◌∙◌}
use Rattle.emdf_fields.specs.Fields.{answer}
use Rattle.emdf_format.specs.Reading.{payload_config}
use Rattle.emdf_fields.proofs.Answers.{field_found, via, by_field}
use Rattle.emdf_fields.proofs.Answers.{found, by_answer, answer-refuses}
use Rattle.emdf_settings.proofs.payload_config.Goals as goal

pub returns-in_err-offset : goal.returns-in_err-offset
unfolding payload_config
returns-in_err-offset c = by_answer answer answer-refuses _ _ _ _ _ c.sample_offset.ensures c.in_err-offset.was (search rules)

pub returns-in_err-duration : goal.returns-in_err-duration
unfolding payload_config
returns-in_err-duration c = via answer _ _ _ _ _ (found _ (sym c.sample_offset.ensures ∙ c.in_ok-offset.was)) (by_answer answer answer-refuses _ _ _ _ _ c.flagged_variable.ensures c.in_err-duration.was (search rules))

pub returns-in_err-group : goal.returns-in_err-group
unfolding payload_config
returns-in_err-group c = via answer _ _ _ _ _ (found _ (sym c.sample_offset.ensures ∙ c.in_ok-offset.was)) (via answer _ _ _ _ _ (found _ (sym c.flagged_variable.ensures ∙ c.in_ok-duration.was)) (by_answer answer answer-refuses _ _ _ _ _ c.flagged_variable-2.ensures c.in_err-group.was (search rules)))

pub returns-in_err-codec : goal.returns-in_err-codec
unfolding payload_config
returns-in_err-codec c = via answer _ _ _ _ _ (found _ (sym c.sample_offset.ensures ∙ c.in_ok-offset.was)) (via answer _ _ _ _ _ (found _ (sym c.flagged_variable.ensures ∙ c.in_ok-duration.was)) (via answer _ _ _ _ _ (found _ (sym c.flagged_variable-2.ensures ∙ c.in_ok-group.was)) (by_field answer answer-refuses _ _ _ _ _ c.codec_data.ensures c.in_err-codec.was (search rules))))

pub returns-in_err-discard : goal.returns-in_err-discard
unfolding payload_config
returns-in_err-discard c = via answer _ _ _ _ _ (found _ (sym c.sample_offset.ensures ∙ c.in_ok-offset.was)) (via answer _ _ _ _ _ (found _ (sym c.flagged_variable.ensures ∙ c.in_ok-duration.was)) (via answer _ _ _ _ _ (found _ (sym c.flagged_variable-2.ensures ∙ c.in_ok-group.was)) (via answer _ _ _ _ _ (field_found _ (sym c.codec_data.ensures ∙ c.in_ok-codec.was)) (by_field answer answer-refuses _ _ _ _ _ c.read_bits.ensures c.in_err-discard.was (search rules)))))

pub returns : goal.returns
unfolding payload_config
returns c = via answer _ _ _ _ _ (found _ (sym c.sample_offset.ensures ∙ c.in_ok-offset.was)) (via answer _ _ _ _ _ (found _ (sym c.flagged_variable.ensures ∙ c.in_ok-duration.was)) (via answer _ _ _ _ _ (found _ (sym c.flagged_variable-2.ensures ∙ c.in_ok-group.was)) (via answer _ _ _ _ _ (field_found _ (sym c.codec_data.ensures ∙ c.in_ok-codec.was)) (via answer _ _ _ _ _ (field_found _ (sym c.read_bits.ensures ∙ c.in_ok-discard.was)) c.config_controls.ensures))))
