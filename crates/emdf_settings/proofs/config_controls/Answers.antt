use Rattle.std.proofs.Common.{rules}
use mathlib.Core.Path.{refl, sym, ◌∙◌}
use Rattle.emdf_fields.specs.Fields.{answer}
use Rattle.emdf_format.specs.Reader.{give}
use Rattle.emdf_format.specs.Reading.{config_controls}
use Rattle.emdf_fields.proofs.Answers.{found, by_answer, answer-refuses}
use Rattle.emdf_settings.proofs.Answers.{present-as}
use Rattle.emdf_fields.proofs.Answers.{via}
use Rattle.emdf_settings.proofs.config_controls.Goals as goal

pub returns-in_err-aligned : goal.returns-in_err-aligned
unfolding config_controls answer give
returns-in_err-aligned c = by_answer answer answer-refuses _ _ _ _ _ (present-as _ _ _ _ c.present_bits.ensures c.has_aligned.ensures) c.in_err-aligned.was (search rules)

pub returns-in_err-create : goal.returns-in_err-create
unfolding config_controls answer give
returns-in_err-create c = via answer _ _ _ _ _ (found _ (sym (present-as _ _ _ _ c.present_bits.ensures c.has_aligned.ensures) ∙ c.in_ok-aligned.was)) (by_answer answer answer-refuses _ _ _ _ _ (present-as _ _ _ _ c.present_bits-2.ensures c.is_one.ensures) c.in_err-create.was (search rules))

pub returns-in_err-remove : goal.returns-in_err-remove
unfolding config_controls answer give
returns-in_err-remove c = via answer _ _ _ _ _ (found _ (sym (present-as _ _ _ _ c.present_bits.ensures c.has_aligned.ensures) ∙ c.in_ok-aligned.was)) (via answer _ _ _ _ _ (found _ (sym (present-as _ _ _ _ c.present_bits-2.ensures c.is_one.ensures) ∙ c.in_ok-create.was)) (by_answer answer answer-refuses _ _ _ _ _ (present-as _ _ _ _ c.present_bits-3.ensures c.is_one-2.ensures) c.in_err-remove.was (search rules)))

pub returns-in_err-priority : goal.returns-in_err-priority
unfolding config_controls answer give
returns-in_err-priority c = via answer _ _ _ _ _ (found _ (sym (present-as _ _ _ _ c.present_bits.ensures c.has_aligned.ensures) ∙ c.in_ok-aligned.was)) (via answer _ _ _ _ _ (found _ (sym (present-as _ _ _ _ c.present_bits-2.ensures c.is_one.ensures) ∙ c.in_ok-create.was)) (via answer _ _ _ _ _ (found _ (sym (present-as _ _ _ _ c.present_bits-3.ensures c.is_one-2.ensures) ∙ c.in_ok-remove.was)) (by_answer answer answer-refuses _ _ _ _ _ (present-as _ _ _ _ c.present_bits-4.ensures c.has_priority-ranked.ensures) c.in_err-priority.was (search rules))))

pub returns-in_err-processing : goal.returns-in_err-processing
unfolding config_controls answer give
returns-in_err-processing c = via answer _ _ _ _ _ (found _ (sym (present-as _ _ _ _ c.present_bits.ensures c.has_aligned.ensures) ∙ c.in_ok-aligned.was)) (via answer _ _ _ _ _ (found _ (sym (present-as _ _ _ _ c.present_bits-2.ensures c.is_one.ensures) ∙ c.in_ok-create.was)) (via answer _ _ _ _ _ (found _ (sym (present-as _ _ _ _ c.present_bits-3.ensures c.is_one-2.ensures) ∙ c.in_ok-remove.was)) (via answer _ _ _ _ _ (found _ (sym (present-as _ _ _ _ c.present_bits-4.ensures c.has_priority-ranked.ensures) ∙ c.in_ok-priority.was)) (by_answer answer answer-refuses _ _ _ _ _ (present-as _ _ _ _ c.present_bits-5.ensures c.has_priority-ranked.ensures) c.in_err-processing.was (search rules)))))

pub returns : goal.returns
unfolding config_controls answer give
returns c = via answer _ _ _ _ _ (found _ (sym (present-as _ _ _ _ c.present_bits.ensures c.has_aligned.ensures) ∙ c.in_ok-aligned.was)) (via answer _ _ _ _ _ (found _ (sym (present-as _ _ _ _ c.present_bits-2.ensures c.is_one.ensures) ∙ c.in_ok-create.was)) (via answer _ _ _ _ _ (found _ (sym (present-as _ _ _ _ c.present_bits-3.ensures c.is_one-2.ensures) ∙ c.in_ok-remove.was)) (via answer _ _ _ _ _ (found _ (sym (present-as _ _ _ _ c.present_bits-4.ensures c.has_priority-ranked.ensures) ∙ c.in_ok-priority.was)) (via answer _ _ _ _ _ (found _ (sym (present-as _ _ _ _ c.present_bits-5.ensures c.has_priority-ranked.ensures) ∙ c.in_ok-processing.was)) refl))))
