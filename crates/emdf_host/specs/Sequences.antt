-- What the scope claims of whole lists, of the exported calls: by the numbers and bytes that they answer. Assumes nothing.
use Rattle.std.specs.Prelude.{◌≡◌, List, [], ◌∷◌, ◌↔◌, ℕ, zero, suc, length, take}
use Rattle.emdf_format.specs.Reading.{Container, accepted, reading, contents_of}
use Rattle.emdf_format.specs.Edits.{edited, Call, Bytes, ReadsAs}
use Rattle.emdf_answers.specs.Form.{words, number_at}
use Rattle.emdf_answers.specs.Replies.{Reply, two_reply}
use Rattle.emdf_answers.specs.Edits.{edited_figures, EditReplies}
use Rattle.emdf_recipe_run.specs.Operations.{Operation, edit_call, recipe_call, OperationAnswer, edit_answer, recipe_answer, operation_events, contents_after, answers_of, OperationsBytes}
use Rattle.emdf_recipe_bytes.specs.Recipes.{ran_reply, RecipeReplies}

-- where a host finds its next source: 0 says that the destination holds a carrier, and the answer's first number how long it is
unfoldable pub next_carrier : List ℕ → ℕ → List ℕ → List ℕ → List ℕ
next_carrier src zero answer exit = take (number_at answer 0) exit
next_carrier src (suc n) answer exit = src

-- after a recipe: the answer's first number says in which slice, the second how long it is
unfoldable pub slice_of : ℕ → ℕ → List ℕ → List ℕ → List ℕ → List ℕ
slice_of zero n src a b = src
slice_of (suc zero) n src a b = take n a
slice_of (suc (suc k)) n src a b = take n b

unfoldable pub held_carrier : List ℕ → ℕ → List ℕ → List ℕ → List ℕ → List ℕ
held_carrier src zero answer a b = slice_of (number_at answer 0) (number_at answer 1) src a b
held_carrier src (suc n) answer a b = src

-- what a host is told: the number that a call returns, and the answer's bytes
pub record Told : Type 0 where
  pub number : ℕ
  pub answer : List ℕ

unfoldable pub reply_of : OperationAnswer → Reply
reply_of (edit_answer a) = two_reply (edited_figures a)
reply_of (recipe_answer a) = ran_reply a

unfoldable pub told_all : List OperationAnswer → List Told
told_all [] = []
told_all (a ∷ rest) = record { number = (reply_of a).number; answer = words (reply_of a).numbers } ∷ told_all rest

-- a list of exported calls from a carrier on, each as its contract has it; the carrier left, and what the host is told
pub data HostRan : List ℕ → List Operation → List ℕ → List Told → Type 0 where
  none : {src : List ℕ} → HostRan src [] src []
  edit : {src exit answer left : List ℕ} {number : ℕ} {t : Call} {os : List Operation} {ds : List Told}
      → EditReplies (edited t.edit src t.destination) number answer exit
      → HostRan (next_carrier src number answer exit) os left ds
      → HostRan src (edit_call t ∷ os) left (record { number = number; answer = answer } ∷ ds)
  recipe : {src file a₀ b₀ a b answer left : List ℕ} {number : ℕ} {os : List Operation} {ds : List Told}
      → RecipeReplies src file a₀ b₀ number answer a b
      → HostRan (held_carrier src number answer a b) os left ds
      → HostRan src (recipe_call file a₀ b₀ ∷ os) left (record { number = number; answer = answer } ∷ ds)

-- any two carriers that are each exactly one container, any two lists of calls with buffers of any content and length
pub record EqualityOfHostCalls : Type 0 where
  pub claim : (s₁ s₂ : List ℕ) (k₁ k₂ : Container) (os₁ os₂ : List Operation) (left₁ left₂ : List ℕ) (ds₁ ds₂ : List Told)
      → Bytes s₁ → Bytes s₂ → OperationsBytes os₁ → OperationsBytes os₂
      → reading s₁ ≡ accepted (length s₁) k₁ → reading s₂ ≡ accepted (length s₂) k₂
      → HostRan s₁ os₁ left₁ ds₁ → HostRan s₂ os₂ left₂ ds₂
      → ((left₁ ≡ left₂) ↔ (contents_after (contents_of k₁) (operation_events os₁) ≡ contents_after (contents_of k₂) (operation_events os₂)))
      × (ds₁ ≡ told_all (answers_of (contents_of k₁) (operation_events os₁)))
      × ReadsAs left₁ (contents_after (contents_of k₁) (operation_events os₁))
      × (ds₂ ≡ told_all (answers_of (contents_of k₂) (operation_events os₂)))
      × ReadsAs left₂ (contents_after (contents_of k₂) (operation_events os₂))
