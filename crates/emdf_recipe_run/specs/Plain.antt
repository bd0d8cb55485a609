-- A recipe's run on plain contents, which is told the list of edits and how long the two buffers are. Assumes nothing.
use Rattle.std.specs.Prelude.{List, [], ◌∷◌, ℕ}
use Rattle.emdf_format.specs.Contents.{Contents}
use Rattle.emdf_format.specs.Edits.{Edit, carrier_length, Outcome, outcome}
use Rattle.emdf_recipe.specs.File.{Recipe, edits, wrong}
use Rattle.emdf_recipe_run.specs.declared.Holder.{Holder}
use Rattle.emdf_recipe_run.specs.declared.Holder.TheVariants.{Start, First, Second}
use Rattle.emdf_recipe_run.specs.declared.RunAnswer.{RunAnswer}
use Rattle.emdf_recipe_run.specs.Runs.{counted, begun_answer}

pub record PlainRun : Type 0 where
  pub answer : RunAnswer
  pub contents : Contents

-- the length of the buffer that is next, picked by the answers so far
unfoldable pub room : Holder → ℕ → ℕ → ℕ
room Start first second = first
room First first second = second
room Second first second = first

unfoldable pub plain_edit : ℕ → ℕ → Edit → PlainRun → PlainRun
plain_edit first second e r =
    let o : Outcome = outcome r.contents (record { edit = e; room = room r.answer.holder first second }) in
    record { answer = counted r.answer o.answer; contents = o.contents }

unfoldable pub plain_edits : ℕ → ℕ → List Edit → PlainRun → PlainRun
plain_edits first second [] r = r
plain_edits first second (e ∷ es) r = plain_edits first second es (plain_edit first second e r)

unfoldable pub plain_begun : Contents → PlainRun
plain_begun c = record { answer = begun_answer (carrier_length c); contents = c }

unfoldable pub plain_recipe : Recipe → Contents → ℕ → ℕ → PlainRun
plain_recipe (edits es) c first second = plain_edits first second es (plain_begun c)
plain_recipe (wrong why) c first second = plain_begun c
