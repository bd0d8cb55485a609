use Rattle.std.proofs.Common.{rules}
use mathlib.Core.Path.{refl, sym, ◌∙◌}
use lib.Dec.{lit<}
use borrow.Author.Tests.{eq-eqb, ne_eqb}
use Rattle.emdf_format.proofs.Standing.{T_of, T-not-of}
use Rattle.emdf_format.specs.Syntax.{escape}
use Rattle.emdf_format.specs.Reader.{give}
use Rattle.emdf_payloads.specs.Payloads.{next_payload, next_answer, next_step}
use Rattle.emdf_fields.proofs.Answers.{field_found, via, here, this, that, by_field}
use Rattle.emdf_payloads.proofs.Answers.{turn-refuses, turn-payload}
use Rattle.emdf_payloads.proofs.payload_by_fields.Goals as goal

pub extended_value-requires : goal.extended_value-requires
unfolding escape
extended_value-requires c = (lit< tt, refl)

pub returns-in_err-id : goal.returns-in_err-id
unfolding next_payload next_answer next_step give
returns-in_err-id c = here next_answer _ _ _ _ (by_field next_answer turn-refuses _ _ _ _ _ c.extended_value.ensures c.in_err-id.was (search rules))

pub returns-then-id-eq0 : goal.returns-then-id-eq0
unfolding next_payload next_answer next_step give
returns-then-id-eq0 c = here next_answer _ _ _ _ (via next_answer _ _ _ _ _ (field_found _ (sym c.extended_value.ensures ∙ c.in_ok-id.was)) (this next_answer _ _ _ _ _ _ (T_of (eq-eqb _ _ c.if-id-eq0.true)) refl))

pub returns : goal.returns
unfolding next_payload next_answer next_step give
returns c = here next_answer _ _ _ _ (via next_answer _ _ _ _ _ (field_found _ (sym c.extended_value.ensures ∙ c.in_ok-id.was)) (that next_answer _ _ _ _ _ _ (T-not-of (ne_eqb _ _ c.if-id-eq0.false)) (turn-payload _ _ _ _ c.payload_after.ensures)))
