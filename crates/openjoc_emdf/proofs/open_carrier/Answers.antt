use mathlib.Core.Path.{◌≡◌, sym, ◌∙◌}
use Rattle.std.proofs.Common.{rules}
use Rattle.std.specs.Prelude.{Err}
use Rattle.openjoc_emdf.proofs.Opening.{open-refused, open-size, open-parsed}
use Rattle.openjoc_emdf.proofs.open_carrier.Goals as goal

pub returns-in_err-parsed : goal.returns-in_err-parsed
returns-in_err-parsed c =
    let z : c.from_residual.result ≡ Err c.in_err-parsed.field-0.0 = search rules in
    z ∙ sym (open-refused _ c.parse_emdf_sync.ensures c.in_err-parsed.was)

pub first_payload-requires : goal.first_payload-requires
first_payload-requires c = open-size _ c.parse_emdf_sync.ensures c.in_ok-parsed.was

pub returns : goal.returns
returns c = open-parsed _ c.parse_emdf_sync.ensures c.in_ok-parsed.was c.first_payload.ensures
