use Rattle.std.proofs.Common.{rules}
use mathlib.Core.Path.{refl, sym, ◌∙◌}
use borrow.Author.Tests.{eq-eqb, ne_eqb}
use Rattle.emdf_format.proofs.Standing.{T_of, T-not-of}
use Rattle.emdf_format.specs.Reader.{present, flagged, give}
use Rattle.emdf_fields.specs.Fields.{answer}
use Rattle.emdf_fields.proofs.Answers.{field_found, via, this, that, by_field}
use Rattle.emdf_fields.proofs.Answers.{answer-refuses}
use Rattle.emdf_settings.proofs.flagged_variable.Goals as goal

pub returns-in_err-flag : goal.returns-in_err-flag
unfolding flagged present answer give
returns-in_err-flag c = by_field answer answer-refuses _ _ _ _ _ c.read_bits.ensures c.in_err-flag.was (search rules)

pub returns-then-flag-ne1 : goal.returns-then-flag-ne1
unfolding flagged present answer give
returns-then-flag-ne1 c = via answer _ _ _ _ _ (field_found _ (sym c.read_bits.ensures ∙ c.in_ok-flag.was)) (that answer _ _ _ _ _ _ (T-not-of (ne_eqb _ _ c.if-flag-ne1.true)) refl)

pub returns-in_err-value : goal.returns-in_err-value
unfolding flagged present answer give
returns-in_err-value c = via answer _ _ _ _ _ (field_found _ (sym c.read_bits.ensures ∙ c.in_ok-flag.was)) (this answer _ _ _ _ _ _ (T_of (eq-eqb _ _ c.if-flag-ne1.false)) (by_field answer answer-refuses _ _ _ _ _ c.variable_field.ensures c.in_err-value.was (search rules)))

pub returns : goal.returns
unfolding flagged present answer give
returns c = via answer _ _ _ _ _ (field_found _ (sym c.read_bits.ensures ∙ c.in_ok-flag.was)) (this answer _ _ _ _ _ _ (T_of (eq-eqb _ _ c.if-flag-ne1.false)) (via answer _ _ _ _ _ (field_found _ (sym c.variable_field.ensures ∙ c.in_ok-value.was)) refl))
