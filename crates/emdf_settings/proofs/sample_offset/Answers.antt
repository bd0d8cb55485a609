use Rattle.std.proofs.Common.{rules}
use mathlib.Core.Path.{refl, sym, ◌∙◌}
use borrow.Author.Tests.{eq-eqb, ne_eqb}
use Rattle.emdf_format.proofs.Standing.{T_of, T-not-of}
use Rattle.emdf_format.specs.Reader.{present, flagged, give}
use Rattle.emdf_format.specs.Reading.{reserved, sample_offset_of}
use Rattle.emdf_fields.specs.Fields.{answer}
use Rattle.emdf_fields.proofs.Answers.{field_found, via, no_more, yes, this, that, regroup, gave, by_field}
use Rattle.emdf_fields.proofs.Answers.{answer-refuses}
use Rattle.emdf_settings.proofs.sample_offset.Goals as goal

pub returns-in_err-flag : goal.returns-in_err-flag
unfolding flagged present sample_offset_of reserved answer give
returns-in_err-flag c = by_field answer answer-refuses _ _ _ _ _ c.read_bits.ensures c.in_err-flag.was (search rules)

pub returns-then-flag-ne1 : goal.returns-then-flag-ne1
unfolding flagged present sample_offset_of reserved answer give
returns-then-flag-ne1 c = via answer _ _ _ _ _ (field_found _ (sym c.read_bits.ensures ∙ c.in_ok-flag.was)) (that answer _ _ _ _ _ _ (T-not-of (ne_eqb _ _ c.if-flag-ne1.true)) refl)

pub returns-in_err-value : goal.returns-in_err-value
unfolding flagged present sample_offset_of reserved answer give
returns-in_err-value c = via answer _ _ _ _ _ (field_found _ (sym c.read_bits.ensures ∙ c.in_ok-flag.was)) (this answer _ _ _ _ _ _ (T_of (eq-eqb _ _ c.if-flag-ne1.false)) (regroup answer _ _ _ _ _ _ (by_field answer answer-refuses _ _ _ _ _ c.read_bits-2.ensures c.in_err-value.was (search rules))))

pub returns-in_err-reserved : goal.returns-in_err-reserved
unfolding flagged present sample_offset_of reserved answer give
returns-in_err-reserved c = via answer _ _ _ _ _ (field_found _ (sym c.read_bits.ensures ∙ c.in_ok-flag.was)) (this answer _ _ _ _ _ _ (T_of (eq-eqb _ _ c.if-flag-ne1.false)) (regroup answer _ _ _ _ _ _ (via answer _ _ _ _ _ (field_found _ (sym c.read_bits-2.ensures ∙ c.in_ok-value.was)) (regroup answer _ _ _ _ _ _ (regroup answer _ _ _ _ _ _ (by_field answer answer-refuses _ _ _ _ _ c.read_bits-3.ensures c.in_err-reserved.was (search rules)))))))

pub returns-then-reserved-ne0 : goal.returns-then-reserved-ne0
unfolding flagged present sample_offset_of reserved answer give
returns-then-reserved-ne0 c = via answer _ _ _ _ _ (field_found _ (sym c.read_bits.ensures ∙ c.in_ok-flag.was)) (this answer _ _ _ _ _ _ (T_of (eq-eqb _ _ c.if-flag-ne1.false)) (regroup answer _ _ _ _ _ _ (via answer _ _ _ _ _ (field_found _ (sym c.read_bits-2.ensures ∙ c.in_ok-value.was)) (regroup answer _ _ _ _ _ _ (regroup answer _ _ _ _ _ _ (via answer _ _ _ _ _ (field_found _ (sym c.read_bits-3.ensures ∙ c.in_ok-reserved.was)) (no_more answer _ _ _ _ _ _ (T-not-of (ne_eqb _ _ c.if-reserved-ne0.true)) refl)))))))

pub returns : goal.returns
unfolding flagged present sample_offset_of reserved answer give
returns c = via answer _ _ _ _ _ (field_found _ (sym c.read_bits.ensures ∙ c.in_ok-flag.was)) (this answer _ _ _ _ _ _ (T_of (eq-eqb _ _ c.if-flag-ne1.false)) (regroup answer _ _ _ _ _ _ (via answer _ _ _ _ _ (field_found _ (sym c.read_bits-2.ensures ∙ c.in_ok-value.was)) (regroup answer _ _ _ _ _ _ (regroup answer _ _ _ _ _ _ (via answer _ _ _ _ _ (field_found _ (sym c.read_bits-3.ensures ∙ c.in_ok-reserved.was)) (yes answer _ _ _ _ _ _ (T_of (eq-eqb _ _ c.if-reserved-ne0.false)) (gave answer _ _ _ _ _ refl))))))))
