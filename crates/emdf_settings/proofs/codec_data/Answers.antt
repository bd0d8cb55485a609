use Rattle.std.proofs.Common.{rules}
use mathlib.Core.Path.{refl, sym, ◌∙◌}
use borrow.Author.Tests.{eq-eqb, ne_eqb}
use Rattle.emdf_format.proofs.Standing.{T_of, T-not-of}
use Rattle.emdf_format.specs.Reader.{give}
use Rattle.emdf_format.specs.Reading.{reserved, codec_data}
use Rattle.emdf_fields.specs.Fields.{field_answer}
use Rattle.emdf_fields.proofs.Answers.{field_found, field-ends, via, no_more, yes, this, that, regroup, spread, gave}
use Rattle.emdf_settings.proofs.codec_data.Goals as goal

pub returns-in_err-flag : goal.returns-in_err-flag
unfolding codec_data reserved field_answer give
returns-in_err-flag c = field-ends _ _ _ _ _ c.read_bits.ensures c.in_err-flag.was (search rules)

pub returns-then-flag-eq0 : goal.returns-then-flag-eq0
unfolding codec_data reserved field_answer give
returns-then-flag-eq0 c = via field_answer _ _ _ _ _ (field_found _ (sym c.read_bits.ensures ∙ c.in_ok-flag.was)) (spread field_answer _ _ _ _ _ _ _ (this field_answer _ _ _ _ _ _ (T_of (eq-eqb _ _ c.if-flag-eq0.true)) (gave field_answer _ _ _ _ _ refl)))

pub returns-in_err-reserved : goal.returns-in_err-reserved
unfolding codec_data reserved field_answer give
returns-in_err-reserved c = via field_answer _ _ _ _ _ (field_found _ (sym c.read_bits.ensures ∙ c.in_ok-flag.was)) (spread field_answer _ _ _ _ _ _ _ (that field_answer _ _ _ _ _ _ (T-not-of (ne_eqb _ _ c.if-flag-eq0.false)) (regroup field_answer _ _ _ _ _ _ (field-ends _ _ _ _ _ c.read_bits-2.ensures c.in_err-reserved.was (search rules)))))

pub returns-then-reserved-ne0 : goal.returns-then-reserved-ne0
unfolding codec_data reserved field_answer give
returns-then-reserved-ne0 c = via field_answer _ _ _ _ _ (field_found _ (sym c.read_bits.ensures ∙ c.in_ok-flag.was)) (spread field_answer _ _ _ _ _ _ _ (that field_answer _ _ _ _ _ _ (T-not-of (ne_eqb _ _ c.if-flag-eq0.false)) (regroup field_answer _ _ _ _ _ _ (via field_answer _ _ _ _ _ (field_found _ (sym c.read_bits-2.ensures ∙ c.in_ok-reserved.was)) (no_more field_answer _ _ _ _ _ _ (T-not-of (ne_eqb _ _ c.if-reserved-ne0.true)) refl)))))

pub returns : goal.returns
unfolding codec_data reserved field_answer give
returns c = via field_answer _ _ _ _ _ (field_found _ (sym c.read_bits.ensures ∙ c.in_ok-flag.was)) (spread field_answer _ _ _ _ _ _ _ (that field_answer _ _ _ _ _ _ (T-not-of (ne_eqb _ _ c.if-flag-eq0.false)) (regroup field_answer _ _ _ _ _ _ (via field_answer _ _ _ _ _ (field_found _ (sym c.read_bits-2.ensures ∙ c.in_ok-reserved.was)) (yes field_answer _ _ _ _ _ _ (T_of (eq-eqb _ _ c.if-reserved-ne0.false)) refl)))))
