use mathlib.Core.Path.{◌≡◌, sym, ap, ◌∙◌}
use Prim.Native.Nat.{ℕ, ◌+◌}
use native.Mathlib.Omega.{arith}
use Rattle.std.proofs.Common.{rules}
use Rattle.std.specs.Prelude.{Result, Ok, Err}
use Rattle.openjoc_bitio.specs.declared.BitCursor.{BitCursor}
use Rattle.emdf_fields.specs.declared.FieldError.{FieldError}
use Rattle.emdf_fields.proofs.Answers.{variable-found, variable-ended, groups-over}
use Rattle.emdf_fields.proofs.variable_bits.Goals as goal

pub returns-in_err-value : goal.returns-in_err-value
returns-in_err-value c =
    let refused : c.from_residual.result ≡ Err c.in_err-value.field-0.0 = search rules in
    refused ∙ sym (variable-ended _ _ _ _ (sym c.variable_field.ensures ∙ c.in_err-value.was))

pub overflow_sub-groups : goal.overflow_sub-groups
overflow_sub-groups c =
    let found = variable-found _ _ _ _ (sym c.variable_field.ensures ∙ c.in_ok-value.was) in
    omega (arith, found.0)

pub returns : goal.returns
returns c =
    let found = variable-found _ _ _ _ (sym c.variable_field.ensures ∙ c.in_ok-value.was) in
    let k = c.args in
    let g = groups-over k.c.position c.in_ok-value.next.position (k.width + 1) _ (omega arith) found.0 in
    ap {B = Result (ℕ × ℕ × BitCursor) FieldError} (λ (n : ℕ). Ok (c.in_ok-value.value, n, c.in_ok-value.next)) g ∙ found.1
