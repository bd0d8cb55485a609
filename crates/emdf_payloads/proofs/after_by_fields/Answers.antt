use Rattle.std.proofs.Common.{rules}
use mathlib.Core.Path.{sym, ◌∙◌}
use Rattle.emdf_format.specs.Reader.{give}
use Rattle.emdf_format.specs.Reading.{payload_after}
use Rattle.emdf_payloads.specs.Payloads.{payload_answer}
use Rattle.emdf_fields.proofs.Answers.{field_found, found, count-found, via, here, by_field, by_answer, by_count}
use Rattle.emdf_payloads.proofs.Answers.{payload-refuses}
use Rattle.emdf_payloads.proofs.after_by_fields.Goals as goal

pub returns-in_err-config : goal.returns-in_err-config
unfolding payload_after payload_answer give
returns-in_err-config c = here payload_answer _ _ _ _ (by_answer payload_answer payload-refuses _ _ _ _ _ c.payload_config.ensures c.in_err-config.was (search rules))

pub returns-in_err-size : goal.returns-in_err-size
unfolding payload_after payload_answer give
returns-in_err-size c = here payload_answer _ _ _ _ (via payload_answer _ _ _ _ _ (found _ (sym c.payload_config.ensures ∙ c.in_ok-config.was)) (here payload_answer _ _ _ _ (by_field payload_answer payload-refuses _ _ _ _ _ c.variable_field.ensures c.in_err-size.was (search rules))))

pub returns-in_err-c3 : goal.returns-in_err-c3
unfolding payload_after payload_answer give
returns-in_err-c3 c = here payload_answer _ _ _ _ (via payload_answer _ _ _ _ _ (found _ (sym c.payload_config.ensures ∙ c.in_ok-config.was)) (here payload_answer _ _ _ _ (via payload_answer _ _ _ _ _ (field_found _ (sym c.variable_field.ensures ∙ c.in_ok-size.was)) (here payload_answer _ _ _ _ (by_count payload_answer payload-refuses _ _ _ _ _ c.skip_octets.ensures c.in_err-c3.was (search rules))))))

pub returns : goal.returns
unfolding payload_after payload_answer give
returns c = here payload_answer _ _ _ _ (via payload_answer _ _ _ _ _ (found _ (sym c.payload_config.ensures ∙ c.in_ok-config.was)) (here payload_answer _ _ _ _ (via payload_answer _ _ _ _ _ (field_found _ (sym c.variable_field.ensures ∙ c.in_ok-size.was)) (here payload_answer _ _ _ _ (via payload_answer _ _ _ _ _ (count-found _ _ (sym c.skip_octets.ensures ∙ c.in_ok-c3.was)).2 (here payload_answer _ _ _ _ (rw c.bit_trace-trace.ensures)))))))
