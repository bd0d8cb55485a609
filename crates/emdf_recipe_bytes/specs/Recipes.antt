-- What the exported recipe calls return and write: docs/HOST.md, 'Recipes'. Assumes nothing.
use Rattle.std.specs.Prelude.{◌≡◌, List, [], ◌∷◌, ℕ, Result, Ok, Err}
use Rattle.emdf_format.specs.declared.RecipeError.{RecipeError}
use Rattle.emdf_format.specs.Refusals.{recipe_refusal, figures_of}
use Rattle.emdf_format.specs.declared.Figures.{Figures}
use Rattle.emdf_answers.specs.Replies.{Reply, accepted_reply, refused_reply, Replies}
use Rattle.emdf_recipe.specs.File.{recipe_of}
use Rattle.emdf_recipe_run.specs.declared.RunAnswer.{RunAnswer}
use Rattle.emdf_recipe_run.specs.declared.Holder.{Holder}
use Rattle.emdf_recipe_run.specs.declared.Holder.TheVariants.{Start, First, Second}
use Rattle.emdf_recipe_run.specs.Runs.{run_of, answer_of}

-- accepted: how many edits
abbrev pub checked_figures : Result ℕ RecipeError → Figures
checked_figures (Ok n) = record { number = 0; first = n; second = 0 }
checked_figures (Err why) = figures_of (recipe_refusal why)

abbrev pub holder_number : Holder → ℕ
holder_number Start = 0
holder_number First = 1
holder_number Second = 2

-- accepted: which slice holds the carrier, its length, and how many edits were refused
abbrev pub ran_reply : Result RunAnswer RecipeError → Reply
ran_reply (Ok a) = accepted_reply (holder_number a.holder ∷ a.length.0 ∷ a.refused ∷ [])
ran_reply (Err why) = refused_reply 3 (figures_of (recipe_refusal why))

-- the number, the answer's bytes, and both buffers at exit
abbrev pub RecipeReplies : (start file a₀ b₀ : List ℕ) (r : ℕ) (answer a b : List ℕ) → Type 0
RecipeReplies start file a₀ b₀ r answer a b =
    Replies (ran_reply (answer_of (recipe_of file) (run_of (recipe_of file) start a₀ b₀).answer)) r answer
    × (a ≡ (run_of (recipe_of file) start a₀ b₀).first)
    × (b ≡ (run_of (recipe_of file) start a₀ b₀).second)
