-- The equality of carriers, of the exported calls. Assumes nothing.
use mathlib.Core.Path.{◌≡◌, refl, ap, subst, ◌∙◌}
use mathlib.Core.Bool.{Bool, true, false}
use mathlib.Core.List.{List, [], ◌∷◌}
use Prim.Native.Nat.{ℕ, ◌^◌, ◌<◌}
use native.Mathlib.Omega.{arith}
use lib.ListN.{length}
use lib.Dec.{eqb, lit<}
use Rattle.std.specs.Prelude.{if◌then◌else◌, Result, Ok, Err}
use Rattle.openjoc_bitio.specs.declared.ByteCount.{ByteCount}
use Rattle.openjoc_bitio.specs.declared.BitError.TheVariants.{EndOfInput, InvalidWidth}
use Rattle.emdf_format.specs.declared.TruncatedPart.TheVariants as TruncatedPart
use Rattle.emdf_format.specs.declared.EmdfError.TheVariants.{TruncatedContainer, InvalidSyncword, Bit, InvalidVariableBits, VariableBitsGroupLimit, ValueOverflow, UnsupportedVersion, NonzeroReservedData, ReservedPrimaryProtectionLength, ExcessPadding, NonzeroPadding}
use Rattle.emdf_format.specs.declared.EditError.{EditError}
use Rattle.emdf_format.specs.declared.EditError.TheVariants.{Emdf, TrailingData, NoSuchPlace, NotWritable, TooLong, DestinationTooShort}
use Rattle.emdf_format.specs.Contents.{Contents}
use Rattle.emdf_format.specs.Refusals.{edit_refusal, figures_of}
use Rattle.emdf_format.specs.Reading.{Reading, accepted, refusal, reading, contents_of}
use Rattle.emdf_format.specs.Edits.{Edit, Stepped, changed, unchanged, carrier_length, step_answer, step_from, edited, next_source}
use Rattle.emdf_format.proofs.Lists.{changes}
use Rattle.emdf_answers.specs.Form.{words}
use Rattle.emdf_answers.specs.Edits.{edited_figures}
use Rattle.emdf_answers.proofs.Form.{number_read}
use Rattle.emdf_format.specs.declared.RecipeError.TheVariants.{BrokenChain, InvalidRecord}
use Rattle.emdf_recipe.specs.File.{Recipe, edits, wrong, recipe_of}
use Rattle.emdf_recipe_run.specs.declared.Holder.{Holder}
use Rattle.emdf_recipe_run.specs.declared.Holder.TheVariants.{Start, First, Second}
use Rattle.emdf_recipe_run.specs.Runs.{Run, source, counted, held, aim, ran_edit, ran_edits, begun_answer, begun, run_of, answer_of}
use Rattle.emdf_recipe_run.specs.Operations.{Operation, OperationAnswer, edit_answer, recipe_answer, left_by, Performed}
use Rattle.emdf_recipe_run.specs.Operations as Operations
use Rattle.emdf_recipe_run.proofs.Operations.{equality-of-operations}
use Rattle.emdf_recipe_bytes.specs.Recipes.{holder_number, ran_reply}
use Rattle.emdf_host.specs.Sequences.{next_carrier, slice_of, held_carrier, Told, reply_of, told_all, HostRan, none, edit, recipe, EqualityOfHostCalls}

-- ---- a carrier's length fits into the answer's first number

not-trailing : (t : Bool) (o : Stepped) {d : Contents} → (if t then o else unchanged TrailingData) ≡ changed d → o ≡ changed d
not-trailing true o h = h
not-trailing false o h = absurd (let z : ◌≡◌ {A = ℕ} 0 1 = cc in omega arith)

step_small : (r : Reading) (len : ℕ) (e : Edit) (room : ℕ) (d : Contents) → step_from r len e room ≡ changed d → carrier_length d < 2 ^ 64
unfolding step_from
step_small (accepted n k) len e room d h = omega (arith, (changes e room (contents_of k) d (not-trailing (eqb n len) _ h)).small)
step_small (refusal why) len e room d h = absurd (let z : ◌≡◌ {A = ℕ} 0 1 = cc in omega arith)

written_small : (e : Edit) (src dst : List ℕ) (n : ByteCount) → (edited e src dst).answer ≡ Ok n → n.0 < 2 ^ 64
unfolding edited step_answer
written_small e src dst n = go (step_from (reading src) (length src) e (length dst)) refl
  where
    go : (o : Stepped) → step_from (reading src) (length src) e (length dst) ≡ o → step_answer o ≡ Ok n → n.0 < 2 ^ 64
    go (changed d) f h = let z : record { 0 = carrier_length d } ≡ n = cc in rw (← z) (step_small (reading src) (length src) e (length dst) d f)
    go (unchanged why) f h = absurd (let z : ◌≡◌ {A = ℕ} 0 1 = cc in omega arith)

-- ---- no refusal has the number 0

refused-next : (why : EditError) (src answer exit : List ℕ) → next_carrier src (figures_of (edit_refusal why)).number answer exit ≡ src
unfolding next_carrier
refused-next (Emdf (TruncatedContainer TruncatedPart.Header d a)) src answer exit = refl
refused-next (Emdf (TruncatedContainer TruncatedPart.Body d a)) src answer exit = refl
refused-next (Emdf (InvalidSyncword a)) src answer exit = refl
refused-next (Emdf (Bit (EndOfInput n r))) src answer exit = refl
refused-next (Emdf (Bit (InvalidWidth w))) src answer exit = refl
refused-next (Emdf (InvalidVariableBits w l)) src answer exit = refl
refused-next (Emdf (VariableBitsGroupLimit w l)) src answer exit = refl
refused-next (Emdf ValueOverflow) src answer exit = refl
refused-next (Emdf (UnsupportedVersion v)) src answer exit = refl
refused-next (Emdf NonzeroReservedData) src answer exit = refl
refused-next (Emdf ReservedPrimaryProtectionLength) src answer exit = refl
refused-next (Emdf (ExcessPadding b)) src answer exit = refl
refused-next (Emdf NonzeroPadding) src answer exit = refl
refused-next TrailingData src answer exit = refl
refused-next NoSuchPlace src answer exit = refl
refused-next NotWritable src answer exit = refl
refused-next TooLong src answer exit = refl
refused-next (DestinationTooShort n) src answer exit = refl

-- ---- so a host goes on from the carrier that the edit left

next-same : (a : Result ByteCount EditError) (src exit : List ℕ) → ((n : ByteCount) → a ≡ Ok n → n.0 < 2 ^ 64)
    → next_carrier src (edited_figures a).number (words ((edited_figures a).first ∷ (edited_figures a).second ∷ [])) exit ≡ next_source src a exit
unfolding next_carrier next_source edited_figures
next-same (Ok n) src exit small = rw (number_read (n.0 ∷ 0 ∷ []) 0 (lit< tt) (small n refl))
next-same (Err why) src exit small = refused-next why src _ exit

-- ---- and from the one that the recipe left: in a buffer it is as short as a carrier

unfoldable Short : Holder → ℕ → Type 0
Short Start n = Unit {0}
Short First n = n < 2 ^ 64
Short Second n = n < 2 ^ 64

short-next : (p : Holder) (n : ByteCount) (m : ℕ) (answer : Result ByteCount EditError) → Short p n.0 → ((k : ByteCount) → answer ≡ Ok k → k.0 < 2 ^ 64)
    → let q = counted (record { holder = p; length = n; refused = m }) answer in Short q.holder q.length.0
unfolding counted Short
short-next Start n m (Ok k) h l = l k refl
short-next First n m (Ok k) h l = l k refl
short-next Second n m (Ok k) h l = l k refl
short-next Start n m (Err why) h l = h
short-next First n m (Err why) h l = h
short-next Second n m (Err why) h l = h

short-edits : (start : List ℕ) (es : List Edit) (r : Run) → Short r.answer.holder r.answer.length.0
    → let q = (ran_edits start es r).answer in Short q.holder q.length.0
unfolding ran_edits ran_edit
short-edits start [] r h = h
short-edits start (e ∷ es) r h =
    short-edits start es (ran_edit start e r)
    (short-next r.answer.holder r.answer.length r.answer.refused _ h (written_small e (held start r) (aim r)))

slice-same : (p : Holder) (n m : ℕ) (src a b : List ℕ) → Short p n → held_carrier src 0 (words (holder_number p ∷ n ∷ m ∷ [])) a b ≡ source p n src a b
unfolding held_carrier slice_of source Short
slice-same Start n m src a b h = rw (number_read (0 ∷ n ∷ m ∷ []) 0 (lit< tt) (lit< tt))
slice-same First n m src a b h = rw (number_read (1 ∷ n ∷ m ∷ []) 0 (lit< tt) (lit< tt), number_read (1 ∷ n ∷ m ∷ []) 1 (lit< tt) h)
slice-same Second n m src a b h = rw (number_read (2 ∷ n ∷ m ∷ []) 0 (lit< tt) (lit< tt), number_read (2 ∷ n ∷ m ∷ []) 1 (lit< tt) h)

held_same : (q : Recipe) (src a₀ b₀ a b : List ℕ)
    → let w = answer_of q (run_of q src a₀ b₀).answer in held_carrier src (ran_reply w).number (words (ran_reply w).numbers) a b ≡ left_by src w a b
unfolding answer_of run_of left_by begun begun_answer held_carrier Short
held_same (edits es) src a₀ b₀ a b =
    let r = (ran_edits src es (begun src a₀ b₀)).answer in
    slice-same r.holder r.length.0 r.refused src a b (short-edits src es (begun src a₀ b₀) tt)
held_same (wrong BrokenChain) src a₀ b₀ a b = refl
held_same (wrong InvalidRecord) src a₀ b₀ a b = refl

-- ---- lists

-- the exported calls are the library's, and tell what they answer
record Performs (src : List ℕ) (os : List Operation) (left : List ℕ) (ds : List Told) : Type 0 where
  pub answers : List OperationAnswer
  pub performed : Performed src os left answers
  pub told : ds ≡ told_all answers

tell : {number number' : ℕ} {answer answer' : List ℕ} {ds ds' : List Told} → number ≡ number' → answer ≡ answer' → ds ≡ ds'
    → ◌≡◌ {A = List Told} (record { number = number; answer = answer } ∷ ds) (record { number = number'; answer = answer' } ∷ ds')
tell e f g = rw (e, f, g)

performs : {src left : List ℕ} {os : List Operation} {ds : List Told} → HostRan src os left ds → Performs src os left ds
unfolding told_all reply_of
performs none = record { answers = []; performed = Operations.none; told = refl }
performs {left = left} (edit {src = src} {exit = exit} {answer = answer} {number = number} {t = t} {os = os} ((n, a), d) r) =
    let x = (edited t.edit src t.destination).answer in
    let p = performs r in
    let e : next_carrier src number answer exit ≡ next_source src x exit = rw (n, a) (next-same x src exit (written_small t.edit src t.destination)) in
    record {
      answers = edit_answer x ∷ p.answers;
      performed = Operations.edit (refl, d) (subst (λ (s : List ℕ). Performed s os left p.answers) e p.performed);
      told = tell n a p.told;
    }
performs {left = left} (recipe {src = src} {file = file} {a₀ = a₀} {b₀ = b₀} {a = a} {b = b} {answer = answer} {number = number} {os = os} ((n, m), f, g) r) =
    let x = answer_of (recipe_of file) (run_of (recipe_of file) src a₀ b₀).answer in
    let p = performs r in
    let e : held_carrier src number answer a b ≡ left_by src x a b = rw (n, m) (held_same (recipe_of file) src a₀ b₀ a b) in
    record {
      answers = recipe_answer x ∷ p.answers;
      performed = Operations.recipe (record { answered = refl; first = f; second = g }) (subst (λ (s : List ℕ). Performed s os left p.answers) e p.performed);
      told = tell n m p.told;
    }

pub equality-of-host-calls : EqualityOfHostCalls
equality-of-host-calls = record {
  claim = λ s₁ s₂ k₁ k₂ os₁ os₂ left₁ left₂ ds₁ ds₂ b₁ b₂ e₁ e₂ h₁ h₂ r₁ r₂.
      let p₁ = performs r₁ in
      let p₂ = performs r₂ in
      let (same, f₁, reads₁, f₂, reads₂) = equality-of-operations.claim s₁ s₂ k₁ k₂ os₁ os₂ left₁ left₂ _ _ b₁ b₂ e₁ e₂ h₁ h₂ p₁.performed p₂.performed in
      (same, p₁.told ∙ ap told_all f₁, reads₁, p₂.told ∙ ap told_all f₂, reads₂);
}
