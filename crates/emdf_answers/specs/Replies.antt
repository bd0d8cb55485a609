-- What a carrier call returns, and the numbers that it writes: docs/HOST.md. Assumes nothing.
use Rattle.std.specs.Prelude.{◌≡◌, List, [], ◌∷◌, ℕ, zero, suc}
use Rattle.emdf_format.specs.declared.Figures.{Figures}
use Rattle.emdf_answers.specs.Form.{words}

pub record Reply : Type 0 where
  pub number : ℕ
  pub numbers : List ℕ

-- n numbers: those given, and zeros after them
unfoldable pub padded : ℕ → List ℕ → List ℕ
padded zero vs = []
padded (suc n) [] = 0 ∷ padded n []
padded (suc n) (v ∷ vs) = v ∷ padded n vs

abbrev pub accepted_reply : List ℕ → Reply
accepted_reply vs = record { number = 0; numbers = vs }

-- a refusal among n numbers: its figures, and zeros
abbrev pub refused_reply : ℕ → Figures → Reply
refused_reply n f = record { number = f.number; numbers = padded n (f.first ∷ f.second ∷ []) }

-- an answer of two numbers
abbrev pub two_reply : Figures → Reply
two_reply f = record { number = f.number; numbers = f.first ∷ f.second ∷ [] }

-- what is returned and written is the reply
abbrev pub Replies : Reply → ℕ → List ℕ → Type 0
Replies a r answer = (r ≡ a.number) × (answer ≡ words a.numbers)
