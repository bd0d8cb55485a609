use Rattle.std.proofs.Common.{◌≡◌, ◌+◌, ◌-◌, Some, None, Ok, Err, sym, ap, ◌∙◌, arith, rules}
use lib.ListN.{get_elem?}
use Rattle.emdf_format.specs.declared.BodyError.TheVariants.{NoSuchPayload}
use Rattle.emdf_payloads.specs.Payloads.{step_at}
use Rattle.emdf_payloads.proofs.Walk.{skip-end}
use Rattle.emdf_bodies.proofs.Place.{span-runs, body-here, body-later, no_body, not-refused, not-skipped}
use Rattle.emdf_bodies.proofs.body_from.Goals as goal
use Rattle.emdf_bodies.proofs.body_from.Goals.{In_ok-record}

pub loop-init : goal.loop-init
loop-init c xs l =
    let z : c.args.place - 0 ≡ c.args.place = omega arith in
    record { payloads = xs; listed = l; same = ap (get_elem? xs) z }

pub returns-in_err-skipped : goal.returns-in_err-skipped
returns-in_err-skipped c xs l = absurd (not-skipped _ _ _ (c.loop.invariant xs l) c.skip_payload.ensures (search rules))

pub returns-in_err-ok_or : goal.returns-in_err-ok_or
returns-in_err-ok_or c xs l =
    let was : c.skip_payload.result ≡ Ok (None, c.in_ok-skipped.next) = search rules in
    let e : c.from_residual-in_err-ok_or.result ≡ Err NoSuchPayload = search rules in
    e ∙ no_body _ _ _ (c.loop.invariant xs l) (skip-end _ (sym c.skip_payload.ensures ∙ was))

pub loop-preserved : goal.loop-preserved
loop-preserved c xs l =
    let was : c.skip_payload.result ≡ Ok (Some c.in_ok-ok_or.field-0, c.in_ok-skipped.next) = search rules in
    let fewer : c.args.place - (c.loop.counter + 1) ≡ c.args.place - c.loop.counter - 1 = omega arith in
    rw fewer (body-later _ _ _ (c.loop.invariant xs l) c.skip_payload.ensures was (omega arith))

pub returns-in_err-step : goal.returns-in_err-step
returns-in_err-step c xs l = absurd (not-refused _ _ _ (c.loop.invariant xs l) c.next_payload.ensures (search rules))

pub returns-in_err-record : goal.returns-in_err-record
returns-in_err-record c xs l =
    let was : c.next_payload.result ≡ Ok (None, c.in_ok-step.field-0-1) = search rules in
    let e : c.from_residual-in_err-record.result ≡ Err NoSuchPayload = search rules in
    e ∙ no_body _ _ _ (c.loop.invariant xs l) (sym c.next_payload.ensures ∙ was)

-- the payload whose body it is
there : (c : In_ok-record) → step_at c.args.s.now c.loop.at ≡ Ok (Some c.in_ok-record.record, c.in_ok-step.field-0-1)
there c =
    let was : c.next_payload.result ≡ Ok (Some c.in_ok-record.record, c.in_ok-step.field-0-1) = search rules in
    sym c.next_payload.ensures ∙ was

pub body_span-requires : goal.body_span-requires
body_span-requires c =
    let (xs, l) = c.requires in
    span-runs _ _ _ (c.loop.invariant xs l) (there (goal.at.body_span-requires c).In_ok-record)

pub returns : goal.returns
returns c xs l = ap Ok c.body_span.ensures ∙ body-here _ _ _ (c.loop.invariant xs l) (there (goal.at.returns c).In_ok-record) (omega arith)
