use mathlib.Core.Path.{◌≡◌, refl, sym, ◌∙◌}
use native.Mathlib.Omega.{arith}
use Rattle.std.proofs.Common.{rules}
use Rattle.std.specs.Prelude.{Err}
use Rattle.emdf_format.specs.Groups.{larger}
use Rattle.emdf_format.specs.declared.PayloadRecord.{PayloadRecord}
use Rattle.emdf_payloads.specs.Payloads.{record_groups}
use Rattle.emdf_payload_list.proofs.Counting.{More, count-all, at-end, at-refused, at-payload, count_past, count-end, count-refused}
use Rattle.emdf_payload_list.proofs.count_payloads.Goals as goal
use Rattle.emdf_payload_list.proofs.count_payloads.Goals.{In-Some}

pub loop-passed-init : goal.loop-passed-init
loop-passed-init c = (omega arith, refl)

-- what is passed is a payload, and what is left to count is after it
more : (c : In-Some) → (r : PayloadRecord) × (larger c.loop-passed.groups (record_groups r) ≡ c.in-Some.most) × More c.loop-passed.count c.loop-passed.groups c.args.s.now c.loop-passed.at r c.in_ok-passed.next
more c =
    let (r, i, g) = count_past _ _ (rw c.in-Some.is at (sym c.in_ok-passed.ensures)) in
    (r, g, at-payload _ _ _ _ i)

pub overflow_add-count : goal.overflow_add-count
overflow_add-count c = omega (arith, (more (goal.at.overflow_add-count c).In-Some).2.onward.moves)

pub loop-passed-smaller : goal.loop-passed-smaller
loop-passed-smaller c = (more (goal.at.loop-passed-smaller c).In-Some).2.onward.less

pub loop-passed-preserved : goal.loop-passed-preserved
loop-passed-preserved c =
    let (r, g, m) = more (goal.at.loop-passed-preserved c).In-Some in
    (omega (arith, m.onward.moves), rw g at m.left ∙ c.loop-passed.invariant.1)

pub returns-in_default : goal.returns-in_default
returns-in_default c = at-end _ _ _ _ (count-end _ _ (rw c.in_default.is at (sym c.in_ok-passed.ensures))) ∙ c.loop-passed.invariant.1 ∙ count-all _ _

pub returns-in_err-passed : goal.returns-in_err-passed
returns-in_err-passed c =
    let z : c.from_residual.result ≡ Err c.in_err-passed.field-0.0 = search rules in
    z ∙ at-refused _ _ _ _ (count-refused _ _ (sym c.in_err-passed.ensures)) ∙ c.loop-passed.invariant.1 ∙ count-all _ _
