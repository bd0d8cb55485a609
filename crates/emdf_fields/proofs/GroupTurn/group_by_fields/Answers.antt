use Rattle.std.proofs.Common.{rules}
use borrow.Author.Tests.{lt-ltb}
use mathlib.Core.Path.{sym, ◌∙◌}
use Prim.Native.Nat.{◌+◌, ◌^◌, ◌≤◌, ◌<◌}
use native.Mathlib.Omega.{arith}
use Rattle.emdf_format.proofs.Standing.{T_of}
use Rattle.emdf_fields.specs.Fields.{one_group, field_answer}
use Rattle.emdf_fields.proofs.Answers.{field_found, field-ends, via, yes}
use Rattle.emdf_fields.proofs.Variable.{value-overflows, rest-found}
use Rattle.emdf_fields.proofs.GroupTurn.group_by_fields.Goals as goal

pub returns-in_err-value : goal.returns-in_err-value
unfolding one_group
returns-in_err-value c = field-ends _ _ _ _ _ c.read_bits.ensures c.in_err-value.was (search rules)

pub returns-then-start-value : goal.returns-then-start-value
returns-then-start-value c =
    let large : 2 ^ 64 ≤ c.args.self.start + c.in_ok-value.value = omega arith in
    value-overflows _ _ _ _ _ _ _ (field_found _ (sym c.read_bits.ensures ∙ c.in_ok-value.was)) large

pub returns-in_err-more : goal.returns-in_err-more
unfolding one_group
returns-in_err-more c =
    let fits : c.args.self.start + c.in_ok-value.value < 2 ^ 64 = omega arith in
    via field_answer _ _ _ _ _ (field_found _ (sym c.read_bits.ensures ∙ c.in_ok-value.was)) (yes field_answer _ _ _ _ _ _ (T_of (lt-ltb _ _ fits)) (field-ends _ _ _ _ _ c.read_bits-2.ensures c.in_err-more.was (search rules)))

pub returns : goal.returns
returns c =
    let fits : c.args.self.start + c.in_ok-value.value < 2 ^ 64 = omega arith in
    let value = field_found _ (sym c.read_bits.ensures ∙ c.in_ok-value.was) in
    let flag = field_found _ (sym c.read_bits-2.ensures ∙ c.in_ok-more.was) in
    c.group_rest.ensures ∙ rest-found _ _ _ _ _ _ _ value fits flag
