use Rattle.std.proofs.Common.{rules}
use mathlib.Core.Bool.{Bool, not}
use mathlib.Core.Path.{refl, sym, ap, ◌∙◌}
use borrow.Author.Tests.{eq-eqb, ne_eqb}
use Rattle.emdf_format.proofs.Standing.{T_of, T-not-of}
use Rattle.emdf_format.specs.Reader.{give}
use Rattle.emdf_format.specs.Reading.{container_end}
use Rattle.emdf_format.specs.Groups.{largest_groups_of}
use Rattle.emdf_container.specs.Container.{container_of, container_answer}
use Rattle.emdf_fields.proofs.Answers.{field_found, via, yes, no_more, by_field}
use Rattle.emdf_container.proofs.Ends.{bytes-found, bytes-as, padded, by_bytes, by-padding, container-refuses, short-protection}
use Rattle.emdf_container.proofs.end_by_fields.Goals as goal

pub returns-in_err-primary_code : goal.returns-in_err-primary_code
unfolding container_end container_answer container_of give
returns-in_err-primary_code c = λ xs len gr. by_field container_answer container-refuses _ _ _ _ _ c.read_bits.ensures c.in_err-primary_code.was (search rules)

pub returns-in_err-secondary_code : goal.returns-in_err-secondary_code
unfolding container_end container_answer container_of give
returns-in_err-secondary_code c = λ xs len gr. via container_answer _ _ _ _ _ (field_found _ (sym c.read_bits.ensures ∙ c.in_ok-primary_code.was)) (by_field container_answer container-refuses _ _ _ _ _ c.read_bits-2.ensures c.in_err-secondary_code.was (search rules))

pub returns-then-primary_code-eq0 : goal.returns-then-primary_code-eq0
unfolding container_end container_answer container_of give
returns-then-primary_code-eq0 c = λ xs len gr. via container_answer _ _ _ _ _ (field_found _ (sym c.read_bits.ensures ∙ c.in_ok-primary_code.was)) (via container_answer _ _ _ _ _ (field_found _ (sym c.read_bits-2.ensures ∙ c.in_ok-secondary_code.was)) (no_more container_answer _ _ _ _ _ _ (T_of (ap (λ (t : Bool). not (not t)) (eq-eqb _ _ c.if-primary_code-eq0.true))) refl))

pub protection_bytes-requires : goal.protection_bytes-requires
protection_bytes-requires c = short-protection _ c.protection_length.ensures

pub returns-in_err-primary : goal.returns-in_err-primary
unfolding container_end container_answer container_of give
returns-in_err-primary c = λ xs len gr. via container_answer _ _ _ _ _ (field_found _ (sym c.read_bits.ensures ∙ c.in_ok-primary_code.was)) (via container_answer _ _ _ _ _ (field_found _ (sym c.read_bits-2.ensures ∙ c.in_ok-secondary_code.was)) (yes container_answer _ _ _ _ _ _ (T-not-of (ne_eqb _ _ c.if-primary_code-eq0.false)) (by_bytes container_answer container-refuses _ _ _ _ _ (bytes-as _ _ _ _ _ c.protection_bytes.ensures c.protection_length.ensures) c.in_err-primary.was (search rules))))

pub protection_bytes-requires-2 : goal.protection_bytes-requires-2
protection_bytes-requires-2 c = short-protection _ c.protection_length-2.ensures

pub returns-in_err-secondary : goal.returns-in_err-secondary
unfolding container_end container_answer container_of give
returns-in_err-secondary c = λ xs len gr. via container_answer _ _ _ _ _ (field_found _ (sym c.read_bits.ensures ∙ c.in_ok-primary_code.was)) (via container_answer _ _ _ _ _ (field_found _ (sym c.read_bits-2.ensures ∙ c.in_ok-secondary_code.was)) (yes container_answer _ _ _ _ _ _ (T-not-of (ne_eqb _ _ c.if-primary_code-eq0.false)) (via container_answer _ _ _ _ _ (bytes-found _ _ (sym (bytes-as _ _ _ _ _ c.protection_bytes.ensures c.protection_length.ensures) ∙ c.in_ok-primary.was)).2 (by_bytes container_answer container-refuses _ _ _ _ _ (bytes-as _ _ _ _ _ c.protection_bytes-2.ensures c.protection_length-2.ensures) c.in_err-secondary.was (search rules)))))

pub returns-in_err-check_padding : goal.returns-in_err-check_padding
unfolding container_end container_answer container_of give
returns-in_err-check_padding c = λ xs len gr. via container_answer _ _ _ _ _ (field_found _ (sym c.read_bits.ensures ∙ c.in_ok-primary_code.was)) (via container_answer _ _ _ _ _ (field_found _ (sym c.read_bits-2.ensures ∙ c.in_ok-secondary_code.was)) (yes container_answer _ _ _ _ _ _ (T-not-of (ne_eqb _ _ c.if-primary_code-eq0.false)) (via container_answer _ _ _ _ _ (bytes-found _ _ (sym (bytes-as _ _ _ _ _ c.protection_bytes.ensures c.protection_length.ensures) ∙ c.in_ok-primary.was)).2 (via container_answer _ _ _ _ _ (bytes-found _ _ (sym (bytes-as _ _ _ _ _ c.protection_bytes-2.ensures c.protection_length-2.ensures) ∙ c.in_ok-secondary.was)).2 (by-padding container_answer container-refuses _ _ _ _ c.check_padding.ensures c.in_err-check_padding.was (search rules))))))

pub returns : goal.returns
unfolding container_end container_answer container_of largest_groups_of give
returns c =
    let b = bytes-found _ _ (sym (bytes-as _ _ _ _ _ c.protection_bytes.ensures c.protection_length.ensures) ∙ c.in_ok-primary.was) in
    let d = bytes-found _ _ (sym (bytes-as _ _ _ _ _ c.protection_bytes-2.ensures c.protection_length-2.ensures) ∙ c.in_ok-secondary.was) in
    λ xs len gr. via container_answer _ _ _ _ _ (field_found _ (sym c.read_bits.ensures ∙ c.in_ok-primary_code.was)) (via container_answer _ _ _ _ _ (field_found _ (sym c.read_bits-2.ensures ∙ c.in_ok-secondary_code.was)) (yes container_answer _ _ _ _ _ _ (T-not-of (ne_eqb _ _ c.if-primary_code-eq0.false)) (via container_answer _ _ _ _ _ b.2 (via container_answer _ _ _ _ _ d.2 (padded container_answer _ _ _ _ c.check_padding.ensures c.in_ok-check_padding.was (λ q. rw (len, gr, b.1, d.1)))))))
