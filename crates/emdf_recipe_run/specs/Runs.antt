-- A list of edits run over two lent buffers. Assumes nothing.
use Rattle.std.specs.Prelude.{◌≡◌, List, [], ◌∷◌, ℕ, ◌+◌, ◌≤◌, length, take, Result, Ok, Err}
use Rattle.openjoc_bitio.specs.declared.ByteCount.{ByteCount}
use Rattle.emdf_format.specs.declared.RecipeError.{RecipeError}
use Rattle.emdf_format.specs.declared.EditError.{EditError}
use Rattle.emdf_format.specs.Edits.{Edit, Edited, edited}
use Rattle.emdf_recipe.specs.File.{Recipe, edits, wrong, recipe_of}
use Rattle.emdf_recipe_run.specs.declared.Holder.{Holder}
use Rattle.emdf_recipe_run.specs.declared.Holder.TheVariants.{Start, First, Second}
use Rattle.emdf_recipe_run.specs.declared.RunAnswer.{RunAnswer}

-- the answer so far, and both buffers
pub record Run : Type 0 where
  pub answer : RunAnswer
  pub first : List ℕ
  pub second : List ℕ

-- the carrier, of n bytes
unfoldable pub source : Holder → ℕ → List ℕ → List ℕ → List ℕ → List ℕ
source Start n start a b = start
source First n start a b = take n a
source Second n start a b = take n b

-- the buffer that the next edit writes into: the one that doesn't hold its source, the first where neither does
unfoldable pub target : Holder → List ℕ → List ℕ → List ℕ
target Start a b = a
target First a b = b
target Second a b = a

abbrev pub other : Holder → Holder
other Start = First
other First = Second
other Second = First

-- both buffers, with dst for the one that was written
unfoldable pub first_after : Holder → List ℕ → List ℕ → List ℕ
first_after Start dst a = dst
first_after First dst a = a
first_after Second dst a = dst

unfoldable pub second_after : Holder → List ℕ → List ℕ → List ℕ
second_after Start dst b = b
second_after First dst b = dst
second_after Second dst b = b

unfoldable pub counted : RunAnswer → Result ByteCount EditError → RunAnswer
counted r (Ok n) = record { holder = other r.holder; length = n; refused = r.refused }
counted r (Err why) = record { holder = r.holder; length = r.length; refused = r.refused + 1 }

abbrev pub held : List ℕ → Run → List ℕ
held start r = source r.answer.holder r.answer.length.0 start r.first r.second

abbrev pub aim : Run → List ℕ
aim r = target r.answer.holder r.first r.second

unfoldable pub ran_edit : List ℕ → Edit → Run → Run
ran_edit start e r =
    let o : Edited = edited e (held start r) (aim r) in
    record {
      answer = counted r.answer o.answer;
      first = first_after r.answer.holder o.destination r.first;
      second = second_after r.answer.holder o.destination r.second;
    }

unfoldable pub ran_edits : List ℕ → List Edit → Run → Run
ran_edits start [] r = r
ran_edits start (e ∷ es) r = ran_edits start es (ran_edit start e r)

unfoldable pub begun_answer : ℕ → RunAnswer
begun_answer n = record { holder = Start; length = record { 0 = n }; refused = 0 }

unfoldable pub begun : List ℕ → List ℕ → List ℕ → Run
begun start a b = record { answer = begun_answer (length start); first = a; second = b }

-- a recipe's run; one that is wrong runs no edit
unfoldable pub run_of : Recipe → List ℕ → List ℕ → List ℕ → Run
run_of (edits es) start a b = ran_edits start es (begun start a b)
run_of (wrong why) start a b = begun start a b

unfoldable pub answer_of : Recipe → RunAnswer → Result RunAnswer RecipeError
answer_of (edits es) answer = Ok answer
answer_of (wrong why) answer = Err why

-- ---- what contracts say

-- the carrier lies in its buffer
unfoldable pub Lies : Holder → ℕ → List ℕ → List ℕ → Type 0
Lies Start n a b = Unit {0}
Lies First n a b = n ≤ length a
Lies Second n a b = n ≤ length b

-- an answer and the buffers at exit are those of a run
pub record IsRun (r : Run) (answer : RunAnswer) (a b : List ℕ) : Type 0 where
  pub answered : answer ≡ r.answer
  pub first : a ≡ r.first
  pub second : b ≡ r.second

-- what the call that runs a recipe promises
pub record RecipeCalled (start file a₀ b₀ : List ℕ) (answer : Result RunAnswer RecipeError) (a b : List ℕ) : Type 0 where
  pub answered : answer ≡ answer_of (recipe_of file) (run_of (recipe_of file) start a₀ b₀).answer
  pub first : a ≡ (run_of (recipe_of file) start a₀ b₀).first
  pub second : b ≡ (run_of (recipe_of file) start a₀ b₀).second
