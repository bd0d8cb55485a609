use Rattle.std.proofs.Common.{rules}
use mathlib.Core.Path.{refl, sym, ◌∙◌, ap}
use Rattle.emdf_format.proofs.Standing.{T_of}
use Rattle.emdf_format.specs.Reader.{present, give}
use Rattle.emdf_fields.specs.Fields.{answer}
use Rattle.emdf_fields.proofs.Answers.{field_found, via, this, that, by_field}
use Rattle.emdf_fields.proofs.Answers.{answer-refuses}
use mathlib.Core.Bool.{not}
use Rattle.emdf_settings.proofs.present_bits.Goals as goal

pub returns-then-not-there : goal.returns-then-not-there
unfolding present answer give
returns-then-not-there c = that answer _ _ _ _ _ _ (T_of (ap not c.if-not-there.true)) refl

pub returns-in_err-value : goal.returns-in_err-value
unfolding present answer give
returns-in_err-value c = this answer _ _ _ _ _ _ (T_of c.if-not-there.false) (by_field answer answer-refuses _ _ _ _ _ c.read_bits.ensures c.in_err-value.was (search rules))

pub returns : goal.returns
unfolding present answer give
returns c = this answer _ _ _ _ _ _ (T_of c.if-not-there.false) (via answer _ _ _ _ _ (field_found _ (sym c.read_bits.ensures ∙ c.in_ok-value.was)) refl)
