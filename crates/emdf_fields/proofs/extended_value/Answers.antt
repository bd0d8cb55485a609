use Rattle.std.proofs.Common.{rules}
use Prim.Native.Nat.{◌+◌, ◌^◌, ◌≤◌, ◌<◌}
use native.Mathlib.Omega.{arith}
use borrow.Author.Tests.{lt-ltb, le-ltb, eq-eqb, ne_eqb}
use mathlib.Core.Path.{refl, sym, ◌∙◌}
use Rattle.emdf_format.proofs.Standing.{T_of, T-not-of}
use Rattle.emdf_format.specs.Reader.{extended_value, give}
use Rattle.emdf_fields.specs.Fields.{field_answer}
use Rattle.emdf_fields.proofs.Answers.{field_found, field-ends, via, no_more, yes, this, that}
use Rattle.emdf_fields.proofs.extended_value.Goals as goal

pub returns-in_err-base : goal.returns-in_err-base
unfolding extended_value
returns-in_err-base c = field-ends _ _ _ _ _ c.read_bits.ensures c.in_err-base.was (search rules)

pub returns-then-base-escape : goal.returns-then-base-escape
unfolding extended_value field_answer give
returns-then-base-escape c = via field_answer _ _ _ _ _ (field_found _ (sym c.read_bits.ensures ∙ c.in_ok-base.was)) (that field_answer _ _ _ _ _ _ (T-not-of (ne_eqb _ _ (λ h. c.if-base-escape.true (h ∙ sym c.requires.1)))) refl)

pub returns-in_err-value : goal.returns-in_err-value
unfolding extended_value
returns-in_err-value c = via field_answer _ _ _ _ _ (field_found _ (sym c.read_bits.ensures ∙ c.in_ok-base.was)) (this field_answer _ _ _ _ _ _ (T_of (eq-eqb _ _ (c.if-base-escape.false ∙ c.requires.1))) (field-ends _ _ _ _ _ c.variable_field.ensures c.in_err-value.was (search rules)))

pub returns-then-base-value : goal.returns-then-base-value
unfolding extended_value field_answer give
returns-then-base-value c =
    let sum : 2 ^ 64 ≤ c.in_ok-base.base + c.in_ok-value.value = omega arith in
    via field_answer _ _ _ _ _ (field_found _ (sym c.read_bits.ensures ∙ c.in_ok-base.was)) (this field_answer _ _ _ _ _ _ (T_of (eq-eqb _ _ (c.if-base-escape.false ∙ c.requires.1))) (via field_answer _ _ _ _ _ (field_found _ (sym c.variable_field.ensures ∙ c.in_ok-value.was)) (no_more field_answer _ _ _ _ _ _ (T-not-of (le-ltb _ _ sum)) refl)))

pub returns : goal.returns
unfolding extended_value field_answer give
returns c =
    let sum : c.in_ok-base.base + c.in_ok-value.value < 2 ^ 64 = omega arith in
    via field_answer _ _ _ _ _ (field_found _ (sym c.read_bits.ensures ∙ c.in_ok-base.was)) (this field_answer _ _ _ _ _ _ (T_of (eq-eqb _ _ (c.if-base-escape.false ∙ c.requires.1))) (via field_answer _ _ _ _ _ (field_found _ (sym c.variable_field.ensures ∙ c.in_ok-value.was)) (yes field_answer _ _ _ _ _ _ (T_of (lt-ltb _ _ sum)) refl)))
