use mathlib.Core.Path.{◌≡◌, refl, sym, ◌∙◌}
use native.Mathlib.Omega.{arith}
use lib.Seq.{length-take-le}
use Rattle.std.specs.Prelude.{Err}
use Rattle.std.proofs.Common.{rules}
use Rattle.emdf_plan.proofs.Spliced.{plan-splice}
use Rattle.emdf_edit.proofs.Edited.{refused, within, room, spliced-answer}
use Rattle.emdf_edit.proofs.apply.Goals as goal

pub overflow_add-n : goal.overflow_add-n
overflow_add-n c =
    let planned = plan-splice _ _ _ _ _ _ (λ k. (c.type_inv.source k).fits) (sym c.plan_edit.ensures ∙ c.in_ok-cut.was) in
    omega (arith, planned.small)

pub slice_bounds-put_splice-end : goal.slice_bounds-put_splice-end
slice_bounds-put_splice-end c =
    let planned = plan-splice _ _ _ _ _ _ (λ k. (c.type_inv.source k).fits) (sym c.plan_edit.ensures ∙ c.in_ok-cut.was) in
    room _ _ _ _ c.args.destination.now planned

pub slice_bounds-put_splice-end-2 : goal.slice_bounds-put_splice-end-2
slice_bounds-put_splice-end-2 c =
    let planned = plan-splice _ _ _ _ _ _ (λ k. (c.type_inv.source k).fits) (sym c.plan_edit.ensures ∙ c.in_ok-cut.was) in
    sym (length-take-le _ _ (room _ _ _ _ c.args.destination.now planned))

pub put_splice-requires : goal.put_splice-requires
put_splice-requires c =
    let planned = plan-splice _ _ _ _ _ _ (λ k. (c.type_inv.source k).fits) (sym c.plan_edit.ensures ∙ c.in_ok-cut.was) in
    (within _ _ _ _ c.args.destination.now planned, length-take-le _ _ (room _ _ _ _ c.args.destination.now planned))

pub returns : goal.returns
returns c =
    let planned = plan-splice _ _ _ _ _ _ (λ k. (c.type_inv.source k).fits) (sym c.plan_edit.ensures ∙ c.in_ok-cut.was) in
    spliced-answer _ _ _ _ _ planned _ refl (λ k. search rules) (λ k. (c.type_inv.destination k).fits) c.put_splice.ensures.1

pub returns-in_err-cut : goal.returns-in_err-cut
returns-in_err-cut c =
    let h : c.from_residual.result ≡ Err c.in_err-cut.field-0.0 = search rules in
    rw h (refused _ _ _ _ _ (sym c.plan_edit.ensures ∙ c.in_err-cut.was))
