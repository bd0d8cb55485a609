use Rattle.std.proofs.Common.{◌≡◌, ◌∙◌, length, take, Some, None, Ok, Err, sym, arith, rules}
use lib.Seq.{length-take-le}
use Rattle.emdf_payloads.specs.Payloads.{step_at}
use Rattle.emdf_records_plan.proofs.Records.{Planned, plan-is, no_plan, never-ended, never-refused}
use Rattle.emdf_records.proofs.Fill.{start, some_left, over, asked, next}
use Rattle.emdf_records.proofs.parse_emdf_sync_with_bit_trace.Goals as goal
use Rattle.emdf_records.proofs.parse_emdf_sync_with_bit_trace.Goals.{In_ok-parsed, In-Ok-Some-default}

pub returns-in_err-parsed : goal.returns-in_err-parsed
returns-in_err-parsed c =
    let e : c.from_residual.result ≡ Err c.in_err-parsed.field-0.0 = search rules in
    rw e (no_plan _ _ c.args.table.now (sym c.plan_records.ensures ∙ c.in_err-parsed.was))

plan : (c : In_ok-parsed) → Planned c.args.bytes.now (length c.args.table.now) c.in_ok-parsed.parsed c.in_ok-parsed.first
plan c = plan-is _ _ (sym c.plan_records.ensures ∙ c.in_ok-parsed.was)

pub slice_bounds-carrier-end : goal.slice_bounds-carrier-end
slice_bounds-carrier-end c = sym (length-take-le _ _ (plan (goal.at.slice_bounds-carrier-end c).In_ok-parsed).there)

pub loop-place-init : goal.loop-place-init
loop-place-init c = start _ _ (plan (goal.at.loop-place-init c).In_ok-parsed)

pub unreachable-requires : goal.unreachable-requires
unreachable-requires c =
    let d = plan (goal.at.unreachable-requires c).In_ok-parsed in
    let st = c.loop-place.invariant in
    let was : c.next_payload.result ≡ Ok (None, c.in-Ok-None-default.field-0-1) = search rules in
    never-ended _ _ st.left st.listed (some_left _ _ d st c.loop-place-test.true) (sym c.next_payload.ensures ∙ was)

pub unreachable-requires-in-Err : goal.unreachable-requires-in-Err
unreachable-requires-in-Err c =
    let st = c.loop-place.invariant in
    never-refused _ _ st.left st.listed (sym c.next_payload.ensures ∙ c.in-Err.is)

-- the payload that is put in
next_is : (c : In-Ok-Some-default) → step_at (take c.in_ok-parsed.parsed.bytes_consumed.0 c.args.bytes.now) c.loop-place.at ≡ Ok (Some c.in-Ok-Some-default.payload, c.in-Ok-Some-default.next)
next_is c =
    let was : c.next_payload.result ≡ Ok (Some c.in-Ok-Some-default.payload, c.in-Ok-Some-default.next) = search rules in
    sym c.next_payload.ensures ∙ was

pub put_row-requires : goal.put_row-requires
put_row-requires c =
    let d = plan (goal.at.put_row-requires c).In_ok-parsed in
    asked _ _ d c.loop-place.invariant (next_is (goal.at.put_row-requires c).In-Ok-Some-default) c.loop-place-test.true c.take_slot-rows.ensures.0 (omega arith)

pub loop-place-preserved : goal.loop-place-preserved
loop-place-preserved c =
    let d = plan (goal.at.loop-place-preserved c).In_ok-parsed in
    next _ _ d c.loop-place.invariant (next_is (goal.at.loop-place-preserved c).In-Ok-Some-default) c.loop-place-test.true c.take_slot-rows.ensures.0 c.take_slot-rows.ensures.1 c.put_row.ensures

pub returns : goal.returns
returns c =
    let d = plan (goal.at.returns c).In_ok-parsed in
    (d.answer, over _ _ d c.loop-place.invariant c.loop-place-test.false)
