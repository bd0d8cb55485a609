use mathlib.Core.Path.{◌≡◌, sym, ◌∙◌}
use Rattle.std.proofs.Common.{rules}
use Rattle.std.specs.Prelude.{Err}
use Rattle.emdf_recipe_run.proofs.Runs.{checked-edits, ran-all, refused_all}
use Rattle.emdf_recipe_run.proofs.run_recipe.Goals as goal

pub run_chain-requires : goal.run_chain-requires
run_chain-requires c = checked-edits _ _ (sym c.check_recipe.ensures ∙ c.in_ok-check_recipe.was)

pub returns : goal.returns
returns c = ran-all _ _ _ _ _ _ _ (checked-edits _ _ (sym c.check_recipe.ensures ∙ c.in_ok-check_recipe.was)) c.run_chain.ensures

pub returns-in_err-check_recipe : goal.returns-in_err-check_recipe
returns-in_err-check_recipe c =
    let h : c.from_residual.result ≡ Err c.in_err-check_recipe.field-0.0 = search rules in
    rw h (refused_all _ _ _ _ _ (sym c.check_recipe.ensures ∙ c.in_err-check_recipe.was))
