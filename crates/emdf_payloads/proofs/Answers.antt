-- What the answers of payloads say of the reading. Assumes nothing.
use mathlib.Core.Path.{◌≡◌, refl, ap, ◌∙◌}
use mathlib.Core.List.{List}
use Prim.Native.Nat.{ℕ}
use Rattle.std.specs.Prelude.{Option, Some, None, MatchOption, Result, Err}
use Rattle.std.specs.Option.{IsSomeAnd, option_map}
use Rattle.openjoc_bitio.specs.declared.BitCursor.{BitCursor}
use Rattle.emdf_format.specs.declared.PayloadRecord.{PayloadRecord}
use Rattle.emdf_format.specs.Reader.{Read, got, refused, Reader, ◌>>=◌, and_then, give}
use Rattle.emdf_format.specs.Reading.{Found as Payload}
use Rattle.emdf_format.specs.declared.EmdfError.{EmdfError}
use Rattle.emdf_payloads.specs.Payloads.{payload_answer, found, next_step, next_answer}

pub payload-refuses : (e q : ℕ) (why : EmdfError) → Err why ≡ payload_answer e (refused why q)
unfolding payload_answer
payload-refuses e q why = refl

pub turn-refuses : (e q : ℕ) (why : EmdfError) → Err why ≡ next_answer e (refused why q)
unfolding next_answer
turn-refuses e q why = refl

turn-same : (e : ℕ) (x : Read Payload) → payload_answer e x ≡ next_answer e (and_then x (λ a q. got (found a) q))
unfolding payload_answer next_answer next_step and_then
turn-same e (got x q) = refl
turn-same e (refused why q) = refl

-- a payload that is found is the turn's
pub turn-payload : {r : Result (Option PayloadRecord × BitCursor) EmdfError} (m : Reader Payload) (s : List ℕ) (e p : ℕ) → r ≡ payload_answer e (m s e p) → r ≡ next_answer e ((m >>= λ x. give (found x)) s e p)
unfolding ◌>>=◌ give
turn-payload {r} m s e p z = z ∙ go (m s e p)
  where
    go : (x : Read Payload) → payload_answer e x ≡ next_answer e (and_then x (λ a q. got (found a) q))
    go x = turn-same e x

-- what Option's map answers, of a function that answers f
pub mapped : {A B : Type 0} (f : A → B) {P : A → B → Type 0} (o : Option A) (r : Option B)
    → MatchOption o (r ≡ None) (λ x. IsSomeAnd r (P x)) → ((x : A) (y : B) → P x y → y ≡ f x) → r ≡ option_map f o
mapped f None r h is = h
mapped f (Some x) None h is = absurd h
mapped f (Some x) (Some y) h is = ap Some (is x y h)
