-- Lists in which single edits and recipes alternate: on carriers, on plain contents, and what is claimed of them. Assumes nothing.
use Rattle.std.specs.Prelude.{◌≡◌, List, [], ◌∷◌, ◌↔◌, ℕ, length, Result, Ok, Err}
use Rattle.openjoc_bitio.specs.declared.ByteCount.{ByteCount}
use Rattle.emdf_format.specs.declared.RecipeError.{RecipeError}
use Rattle.emdf_format.specs.declared.EditError.{EditError}
use Rattle.emdf_format.specs.Contents.{Contents}
use Rattle.emdf_format.specs.Reading.{Container, accepted, reading, contents_of}
use Rattle.emdf_format.specs.Edits.{Edit, Called, Call, next_source, leaves, answers, Event, event_of, outcome, Bytes, EditBytes, ReadsAs}
use Rattle.emdf_recipe.specs.File.{recipe_of, edits_of}
use Rattle.emdf_recipe_run.specs.declared.RunAnswer.{RunAnswer}
use Rattle.emdf_recipe_run.specs.Runs.{Run, source, counted, held, aim, ran_edit, begun, run_of, answer_of, RecipeCalled}
use Rattle.emdf_recipe_run.specs.Plain.{PlainRun, plain_recipe}

-- ---- a recipe is a list of calls: each edit with the buffer that it meets, as the edits before have left it

unfoldable pub calls_from : List ℕ → List Edit → Run → List Call
calls_from start [] r = []
calls_from start (e ∷ es) r = record { edit = e; destination = aim r } ∷ calls_from start es (ran_edit start e r)

-- where the carrier is, its length and the refusals, by the answers alone
unfoldable pub counted_all : RunAnswer → List (Result ByteCount EditError) → RunAnswer
counted_all r [] = r
counted_all r (answer ∷ rest) = counted_all (counted r answer) rest

abbrev pub recipe_calls : List ℕ → List ℕ → List ℕ → List ℕ → List Call
recipe_calls file start a b = calls_from start (edits_of (recipe_of file)) (begun start a b)

-- what a recipe's run is: these calls, one after another
pub record RunsItsCalls : Type 0 where
  pub claim : (file start a b : List ℕ)
      → let r = run_of (recipe_of file) start a b in
      let ts = recipe_calls file start a b in
      (held start r ≡ leaves start ts) × (r.answer ≡ counted_all (begun start a b).answer (answers start ts))

-- ---- operations, each with buffers of its own

pub data Operation : Type 0 where
  edit_call : Call → Operation
  recipe_call : (file first second : List ℕ) → Operation

pub data OperationAnswer : Type 0 where
  edit_answer : Result ByteCount EditError → OperationAnswer
  recipe_answer : Result RunAnswer RecipeError → OperationAnswer

-- ---- the plain side: all that it is told is the edit or the recipe's file, and how long the buffers are

pub data OperationEvent : Type 0 where
  edit_event : Event → OperationEvent
  recipe_event : (file : List ℕ) (first second : ℕ) → OperationEvent

unfoldable pub operation_events : List Operation → List OperationEvent
operation_events [] = []
operation_events (edit_call t ∷ os) = edit_event (event_of t) ∷ operation_events os
operation_events (recipe_call file a b ∷ os) = recipe_event file (length a) (length b) ∷ operation_events os

-- what an event answers, and the contents that it leaves
pub record OperationOutcome : Type 0 where
  pub answer : OperationAnswer
  pub contents : Contents

unfoldable pub operation_outcome : Contents → OperationEvent → OperationOutcome
operation_outcome c (edit_event e) = record { answer = edit_answer (outcome c e).answer; contents = (outcome c e).contents }
operation_outcome c (recipe_event file first second) =
    let r : PlainRun = plain_recipe (recipe_of file) c first second in
    record { answer = recipe_answer (answer_of (recipe_of file) r.answer); contents = r.contents }

unfoldable pub contents_after : Contents → List OperationEvent → Contents
contents_after c [] = c
contents_after c (e ∷ es) = contents_after (operation_outcome c e).contents es

unfoldable pub answers_of : Contents → List OperationEvent → List OperationAnswer
answers_of c [] = []
answers_of c (e ∷ es) = (operation_outcome c e).answer ∷ answers_of (operation_outcome c e).contents es

-- ---- what the scope claims of whole lists

unfoldable pub OperationsBytes : List Operation → Type 0
OperationsBytes [] = Unit {0}
OperationsBytes (edit_call t ∷ os) = EditBytes t.edit × OperationsBytes os
OperationsBytes (recipe_call file a b ∷ os) = Bytes file × OperationsBytes os

-- the carrier after a recipe's call
unfoldable pub left_by : List ℕ → Result RunAnswer RecipeError → List ℕ → List ℕ → List ℕ
left_by src (Ok r) a b = source r.holder r.length.0 src a b
left_by src (Err why) a b = src

-- a list of operations from a carrier on, each on the one that the last accepted edit wrote; the carrier left, and the answers
pub data Performed : List ℕ → List Operation → List ℕ → List OperationAnswer → Type 0 where
  none : {src : List ℕ} → Performed src [] src []
  edit : {src exit left : List ℕ} {t : Call} {os : List Operation} {answer : Result ByteCount EditError} {answers : List OperationAnswer}
      → Called t.edit src t.destination answer exit
      → Performed (next_source src answer exit) os left answers
      → Performed src (edit_call t ∷ os) left (edit_answer answer ∷ answers)
  recipe : {src file a₀ b₀ a b left : List ℕ} {os : List Operation} {answer : Result RunAnswer RecipeError} {answers : List OperationAnswer}
      → RecipeCalled src file a₀ b₀ answer a b
      → Performed (left_by src answer a b) os left answers
      → Performed src (recipe_call file a₀ b₀ ∷ os) left (recipe_answer answer ∷ answers)

-- any two carriers that are each exactly one container, any two lists of operations with buffers of any content and length
pub record EqualityOfOperations : Type 0 where
  pub claim : (s₁ s₂ : List ℕ) (k₁ k₂ : Container) (os₁ os₂ : List Operation) (left₁ left₂ : List ℕ) (answers₁ answers₂ : List OperationAnswer)
      → Bytes s₁ → Bytes s₂ → OperationsBytes os₁ → OperationsBytes os₂
      → reading s₁ ≡ accepted (length s₁) k₁ → reading s₂ ≡ accepted (length s₂) k₂
      → Performed s₁ os₁ left₁ answers₁ → Performed s₂ os₂ left₂ answers₂
      → ((left₁ ≡ left₂) ↔ (contents_after (contents_of k₁) (operation_events os₁) ≡ contents_after (contents_of k₂) (operation_events os₂)))
      × (answers₁ ≡ answers_of (contents_of k₁) (operation_events os₁))
      × ReadsAs left₁ (contents_after (contents_of k₁) (operation_events os₁))
      × (answers₂ ≡ answers_of (contents_of k₂) (operation_events os₂))
      × ReadsAs left₂ (contents_after (contents_of k₂) (operation_events os₂))
