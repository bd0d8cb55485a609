use Rattle.std.proofs.Common.{◌≡◌, Ok, arith, rules}
use Rattle.emdf_records_plan.proofs.Records.{unread, too_few, enough}
use Rattle.emdf_records_plan.proofs.plan_records.Goals as goal

pub returns-in_err-parsed : goal.returns-in_err-parsed
returns-in_err-parsed c = unread _ _ c.open_carrier.ensures (search rules)

pub returns-then-rows-payloads : goal.returns-then-rows-payloads
returns-then-rows-payloads c =
    let was : c.open_carrier.result ≡ Ok (c.in_ok-parsed.parsed, c.in_ok-parsed.first) = search rules in
    too_few _ _ c.open_carrier.ensures was (omega arith)

pub returns : goal.returns
returns c =
    let was : c.open_carrier.result ≡ Ok (c.in_ok-parsed.parsed, c.in_ok-parsed.first) = search rules in
    enough _ _ c.open_carrier.ensures was (omega arith)
