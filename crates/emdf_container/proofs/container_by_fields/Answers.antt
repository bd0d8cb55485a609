use Rattle.std.proofs.Common.{rules}
use mathlib.Core.Path.{refl, sym, ◌∙◌}
use lib.Dec.{lit<}
use borrow.Author.Tests.{eq-eqb, ne_eqb}
use Rattle.emdf_format.proofs.Standing.{T_of, T-not-of}
use Rattle.emdf_format.specs.Syntax.{escape}
use Rattle.emdf_format.specs.Reading.{container}
use Rattle.emdf_container.specs.Container.{container_after, container_answer}
use Rattle.emdf_fields.proofs.Answers.{field_found, via, yes, no_more, by_field}
use Rattle.emdf_container.proofs.Ends.{container-refuses}
use Rattle.emdf_container.proofs.container_by_fields.Goals as goal

pub extended_value-requires : goal.extended_value-requires
unfolding escape
extended_value-requires c = (lit< tt, refl)

pub returns-in_err-version : goal.returns-in_err-version
unfolding container container_answer
returns-in_err-version c = by_field container_answer container-refuses _ _ _ _ _ c.extended_value.ensures c.in_err-version.was (search rules)

pub returns-then-version-ne0 : goal.returns-then-version-ne0
unfolding container container_answer
returns-then-version-ne0 c = via container_answer _ _ _ _ _ (field_found _ (sym c.extended_value.ensures ∙ c.in_ok-version.was)) (no_more container_answer _ _ _ _ _ _ (T-not-of (ne_eqb _ _ c.if-version-ne0.true)) refl)

pub extended_value-requires-2 : goal.extended_value-requires-2
unfolding escape
extended_value-requires-2 c = (lit< tt, refl)

pub returns-in_err-key : goal.returns-in_err-key
unfolding container container_answer
returns-in_err-key c = via container_answer _ _ _ _ _ (field_found _ (sym c.extended_value.ensures ∙ c.in_ok-version.was)) (yes container_answer _ _ _ _ _ _ (T_of (eq-eqb _ _ c.if-version-ne0.false)) (by_field container_answer container-refuses _ _ _ _ _ c.extended_value-2.ensures c.in_err-key.was (search rules)))

pub returns : goal.returns
unfolding container container_after container_answer
returns c = via container_answer _ _ _ _ _ (field_found _ (sym c.extended_value.ensures ∙ c.in_ok-version.was)) (yes container_answer _ _ _ _ _ _ (T_of (eq-eqb _ _ c.if-version-ne0.false)) (via container_answer _ _ _ _ _ (field_found _ (sym c.extended_value-2.ensures ∙ c.in_ok-key.was)) c.parse_payloads.ensures))
