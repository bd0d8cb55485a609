-- Laws on a run over two buffers. Assumes nothing.
use mathlib.Core.Path.{◌≡◌, refl, ap, ◌∙◌}
use mathlib.Core.List.{List, []}
use Prim.Native.Nat.{ℕ, ◌+◌, ◌<◌, ◌≤◌}
use native.Mathlib.Omega.{arith}
use lib.ListN.{length}
use Rattle.std.specs.Prelude.{Result, Ok, Err}
use Rattle.openjoc_bitio.specs.declared.ByteCount.{ByteCount}
use Rattle.emdf_format.specs.declared.EditError.{EditError}
use Rattle.emdf_format.specs.declared.RecipeError.{RecipeError}
use Rattle.emdf_format.specs.Edits.{Edit, Called}
use Rattle.emdf_format.proofs.Lists.{keeps-length, in-room}
use Rattle.emdf_recipe.specs.File.{first_index, record_count, record_at, record_edit, Recipe, edits, wrong, chain, recipe_of, edits_of, edits_after, check_answer}
use Rattle.emdf_recipe.proofs.File.{Above, rises-above, Chained, chained-on, chain-end, Whole, checked-whole}
use Rattle.emdf_recipe_run.specs.declared.Holder.{Holder}
use Rattle.emdf_recipe_run.specs.declared.Holder.TheVariants.{Start, First, Second}
use Rattle.emdf_recipe_run.specs.declared.RunAnswer.{RunAnswer}
use Rattle.emdf_recipe_run.specs.Runs.{Run, source, target, first_after, second_after, counted, held, aim, ran_edit, ran_edits, begun_answer, begun, run_of, answer_of, IsRun, Lies, RecipeCalled}

-- ---- one edit

-- a call that reads at a holder is one edit of the run
pub landed : (start : List ℕ) (e : Edit) (r : Run) (p : Holder) {answer : Result ByteCount EditError} {dst : List ℕ} → r.answer.holder ≡ p
    → Called e (source p r.answer.length.0 start r.first r.second) (target p r.first r.second) answer dst
    → IsRun (ran_edit start e r) (counted r.answer answer) (first_after p dst r.first) (second_after p dst r.second)
unfolding ran_edit
landed start e r p h c = rw (h, c.0, c.1) (record { answered = refl; first = refl; second = refl })

-- a step keeps both lengths, and the carrier in its buffer
record Kept (r q : Run) : Type 0 where
  pub first : length q.first ≡ length r.first
  pub second : length q.second ≡ length r.second
  pub lies : Lies q.answer.holder q.answer.length.0 q.first q.second
  pub few : q.answer.refused ≤ r.answer.refused + 1

counts : (s : RunAnswer) (answer : Result ByteCount EditError) → (counted s answer).refused ≤ s.refused + 1
unfolding counted
counts s (Ok n) = omega arith
counts s (Err why) = omega arith

-- where the carrier is after an edit that read at p, and wrote dst
lies_in : (p : Holder) (n : ByteCount) (m : ℕ) (answer : Result ByteCount EditError) (dst a b : List ℕ) → Lies p n.0 a b
    → ((k : ByteCount) → answer ≡ Ok k → k.0 ≤ length dst)
    → let q = counted (record { holder = p; length = n; refused = m }) answer in Lies q.holder q.length.0 (first_after p dst a) (second_after p dst b)
unfolding counted Lies first_after second_after
lies_in Start n m (Ok k) dst a b l f = f k refl
lies_in First n m (Ok k) dst a b l f = f k refl
lies_in Second n m (Ok k) dst a b l f = f k refl
lies_in Start n m (Err why) dst a b l f = l
lies_in First n m (Err why) dst a b l f = l
lies_in Second n m (Err why) dst a b l f = l

first-kept : (p : Holder) (dst a b : List ℕ) → length dst ≡ length (target p a b) → length (first_after p dst a) ≡ length a
unfolding first_after target
first-kept Start dst a b h = h
first-kept First dst a b h = refl
first-kept Second dst a b h = h

second-kept : (p : Holder) (dst a b : List ℕ) → length dst ≡ length (target p a b) → length (second_after p dst b) ≡ length b
unfolding second_after target
second-kept Start dst a b h = refl
second-kept First dst a b h = h
second-kept Second dst a b h = refl

pub kept-lengths : (start : List ℕ) (e : Edit) (r : Run) → (length (ran_edit start e r).first ≡ length r.first) × (length (ran_edit start e r).second ≡ length r.second)
unfolding ran_edit
kept-lengths start e r =
    let p = r.answer.holder in
    let h = keeps-length e (held start r) (aim r) in
    (first-kept p _ r.first r.second h, second-kept p _ r.first r.second h)

kept : (start : List ℕ) (e : Edit) (r : Run) → Lies r.answer.holder r.answer.length.0 r.first r.second → Kept r (ran_edit start e r)
unfolding ran_edit
kept start e r l =
    let h = keeps-length e (held start r) (aim r) in
    let (x, y) = kept-lengths start e r in
    record {
      first = x;
      second = y;
      lies = lies_in r.answer.holder r.answer.length r.answer.refused _ _ r.first r.second l (λ k m. rw h (in-room e (held start r) (aim r) k m));
      few = counts r.answer _;
    }

-- ---- the run, one record at a time

-- at record i, with r so far: the run from here on is the whole run
pub record Running (start s a₀ b₀ : List ℕ) (i : ℕ) (r : Run) : Type 0 where
  pub more : ℕ
  pub left : List Edit
  pub low : i ≤ record_count s
  pub chained : chain more s (record_count s) i ≡ edits left
  pub rest : ran_edits start left r ≡ run_of (recipe_of s) start a₀ b₀
  pub lies : Lies r.answer.holder r.answer.length.0 r.first r.second
  pub few : (i ≡ 0 → ⊥) → r.answer.refused < i
  pub first : length r.first ≡ length a₀
  pub second : length r.second ≡ length b₀

-- a recipe that is a list of edits
counted-so : (r : Recipe) → r ≡ edits (edits_of r) → check_answer r ≡ Ok (length (edits_of r))
unfolding edits_of edits_after
counted-so (edits es) h = let z : 0 + length es ≡ length es = omega arith in rw z
counted-so (wrong why) h = absurd (let z : ◌≡◌ {A = ℕ} 0 1 = cc in omega arith)

pub whole : (s : List ℕ) → recipe_of s ≡ edits (edits_of (recipe_of s)) → Whole s (length (edits_of (recipe_of s)))
whole s h = checked-whole s _ (counted-so (recipe_of s) h)

pub running-start : (start s a b : List ℕ) → recipe_of s ≡ edits (edits_of (recipe_of s)) → Running start s a b (first_index s) (begun start a b)
unfolding run_of begun begun_answer Lies
running-start start s a b h =
    let w = whole s h in
    record { more = record_count s; left = w.es; low = w.low; chained = w.chained; rest = rw w.whole; lies = tt; few = λ z. omega arith; first = refl; second = refl }

module _ (start s a₀ b₀ : List ℕ) (i : ℕ) (r : Run) (g : Running start s a₀ b₀ i r) (there : i ≡ 0 → ⊥) where
  pub here : Chained s (record_count s) i g.left
  here = chained-on g.more s (record_count s) i g.left there g.chained

  pub rising : Above (record_count s) i (record_at s i).next
  rising = rises-above (record_count s) i _ there g.low here.linked.rising

  pub running-on : Running start s a₀ b₀ (record_at s i).next (ran_edit start (record_edit s (record_at s i)) r)
  unfolding ran_edits
  running-on =
      let k = kept start (record_edit s (record_at s i)) r g.lies in
      record {
        more = here.more;
        left = here.rest;
        low = rising.low;
        chained = here.chained;
        rest = rw here.split at g.rest;
        lies = k.lies;
        few = λ z. let m = rising.more z in let n = g.few there in omega (arith, k.few);
        first = k.first ∙ g.first;
        second = k.second ∙ g.second;
      }

  -- what the step function answered and left
  pub running-go : (n : ℕ) (e : Edit) (answer : RunAnswer) (a b : List ℕ) → n ≡ (record_at s i).next → e ≡ record_edit s (record_at s i) → IsRun (ran_edit start e r) answer a b
      → Running start s a₀ b₀ n (record { answer = answer; first = a; second = b })
  running-go n e answer a b h k is = rw (is.answered, is.first, is.second, h, k) running-on

pub running-end : (start s a₀ b₀ : List ℕ) (i : ℕ) (r : Run) → Running start s a₀ b₀ i r → i ≡ 0 → IsRun (run_of (recipe_of s) start a₀ b₀) r.answer r.first r.second
unfolding ran_edits
running-end start s a₀ b₀ i r g h =
    let e : g.left ≡ [] = let w = rw (h, chain-end g.more s (record_count s)) at g.chained in cc in
    let q : r ≡ run_of (recipe_of s) start a₀ b₀ = rw e at g.rest in
    record { answered = ap (λ (x : Run). x.answer) q; first = ap (λ (x : Run). x.first) q; second = ap (λ (x : Run). x.second) q }

-- ---- the call

pub checked-edits : (s : List ℕ) (n : ℕ) → check_answer (recipe_of s) ≡ Ok n → recipe_of s ≡ edits (edits_of (recipe_of s))
unfolding edits_of
checked-edits s n h = let w = checked-whole s n h in rw w.whole

pub ran-all : (start s a₀ b₀ : List ℕ) (answer : RunAnswer) (a b : List ℕ) → recipe_of s ≡ edits (edits_of (recipe_of s)) → IsRun (run_of (recipe_of s) start a₀ b₀) answer a b
    → RecipeCalled start s a₀ b₀ (Ok answer) a b
unfolding answer_of
ran-all start s a₀ b₀ answer a b h is =
    record { answered = rw h (ap Ok (rw h at is.answered)); first = is.first; second = is.second }

refused-by : (r : Recipe) (why : RecipeError) → check_answer r ≡ Err why → r ≡ wrong why
unfolding edits_after
refused-by (edits es) why h = absurd (let z : ◌≡◌ {A = ℕ} 0 1 = cc in omega arith)
refused-by (wrong w) why h = cc

pub refused_all : (start s a b : List ℕ) (why : RecipeError) → check_answer (recipe_of s) ≡ Err why → RecipeCalled start s a b (Err why) a b
unfolding answer_of run_of begun
refused_all start s a b why h = let q = refused-by _ why h in record { answered = rw q; first = rw q; second = rw q }
