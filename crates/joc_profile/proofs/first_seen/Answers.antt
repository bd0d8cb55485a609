use Rattle.std.proofs.Common.{◌≡◌, Ok, Some, None, sym, ap, ◌∙◌, rules}
use Rattle.openjoc_bitio.proofs.Results.{some-same, none-is-not-some, err-is-not-ok}
use Rattle.emdf_format.specs.declared.PayloadRecord.{PayloadRecord}
use Rattle.joc_profile.specs.declared.Seen.TheVariants.{One}
use Rattle.joc_profile.proofs.first_seen.Goals as goal

pub returns-in-Ok-Some-default : goal.returns-in-Ok-Some-default
returns-in-Ok-Some-default c p next h =
    let was : c.next_payload.result ≡ Ok (Some c.in-Ok-Some-default.record, c.in-Ok-Some-default.field-0-1) = search rules in
    ap (λ (r : PayloadRecord). One (record { place = c.args.place; config = r.config })) (some-same (sym was ∙ c.next_payload.ensures ∙ h)).0

pub returns-in-Ok-None-default : goal.returns-in-Ok-None-default
returns-in-Ok-None-default c p next h =
    let was : c.next_payload.result ≡ Ok (None, c.in-Ok-None-default.field-0-1) = search rules in
    absurd (none-is-not-some (sym was ∙ c.next_payload.ensures ∙ h))

pub returns-in-Err : goal.returns-in-Err
returns-in-Err c p next h = absurd (err-is-not-ok (sym c.in-Err.is ∙ c.next_payload.ensures ∙ h))
