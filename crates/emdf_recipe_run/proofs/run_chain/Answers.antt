use mathlib.Core.Path.{ap, ◌∙◌}
use native.Mathlib.Omega.{arith}
use Rattle.openjoc_bitio.proofs.Bits.{value-range}
use Rattle.emdf_recipe.specs.declared.RecipeRecord.{RecipeRecord}
use Rattle.emdf_recipe.specs.File.{record_edit}
use Rattle.emdf_recipe.proofs.File.{record-small}
use Rattle.emdf_recipe_run.specs.Runs.{begun, begun_answer}
use Rattle.emdf_recipe_run.proofs.Runs.{running-start, here, rising, running-go, running-end}
use Rattle.emdf_recipe_run.proofs.run_chain.Goals as goal

pub loop-i-init : goal.loop-i-init
unfolding begun begun_answer
loop-i-init c = rw c.octets_number-i.ensures (running-start _ _ _ _ c.requires, value-range _ _ 16)

pub record_at-e-requires : goal.record_at-e-requires
record_at-e-requires c = (omega arith, c.loop-i.invariant.1)

pub change_of-change-requires : goal.change_of-change-requires
change_of-change-requires c =
    let this = here _ _ _ _ _ _ c.loop-i.invariant.0 c.loop-i-test.true in
    rw c.record_at-e.ensures (record { allowed = this.linked.allowed; near = (record-small _ _).offset })

pub run_edit-state-requires : goal.run_edit-state-requires
run_edit-state-requires c = (c.loop-i.invariant.0.lies, omega (arith, c.loop-i.invariant.0.few c.loop-i-test.true))

pub loop-i-smaller : goal.loop-i-smaller
loop-i-smaller c = rw c.record_at-e.ensures (rising _ _ _ _ _ _ c.loop-i.invariant.0 c.loop-i-test.true).falls

pub loop-i-preserved : goal.loop-i-preserved
loop-i-preserved c = (
  running-go _ _ _ _ _ _ c.loop-i.invariant.0 c.loop-i-test.true _ _ _ _ _
      (ap (λ (e : RecipeRecord). e.next) c.record_at-e.ensures)
      (c.change_of-change.ensures ∙ ap (record_edit c.args.file.now) c.record_at-e.ensures)
      c.run_edit-state.ensures,
  rw c.record_at-e.ensures (record-small _ _).next,
)

pub shape_of-first : goal.shape_of-first
shape_of-first c = c.loop-i.invariant.0.first

pub shape_of-second : goal.shape_of-second
shape_of-second c = c.loop-i.invariant.0.second

pub returns : goal.returns
returns c = running-end _ _ _ _ _ _ c.loop-i.invariant.0 c.loop-i-test.false
