-- A recipe is a list of calls, and follows its plain run; so do lists in which edits and recipes alternate. Assumes nothing.
use mathlib.Core.Path.{◌≡◌, refl, ap, ◌∙◌}
use mathlib.Core.Bool.{Bool, true, false}
use mathlib.Core.List.{List, [], ◌∷◌}
use Prim.Native.Nat.{ℕ, zero, suc, ◌+◌, ◌<◌, ◌≤◌}
use native.Mathlib.Omega.{arith}
use lib.ListN.{length, get_or, take, drop, length-take, get_or-eq_default}
use lib.Seq.{get_or-take, get_or-drop}
use lib.Dec.{leb, ltb, eqb}
use borrow.Author.Tests.{ltb-true, ltb-false}
use Rattle.std.specs.Prelude.{if◌then◌else◌, Result, Ok, Err}
use Rattle.openjoc_bitio.specs.declared.ByteCount.{ByteCount}
use Rattle.emdf_format.specs.declared.EditError.{EditError}
use Rattle.emdf_format.specs.declared.RecipeError.{RecipeError}
use Rattle.emdf_format.specs.declared.RecipeError.TheVariants.{BrokenChain}
use Rattle.emdf_format.specs.Contents.{Contents}
use Rattle.emdf_format.specs.Reading.{contents_of}
use Rattle.emdf_format.specs.Edits.{Edit, Call, next_source, done, leaves, answers, event_of, carrier_length, Bytes, EditBytes}
use Rattle.emdf_format.proofs.Bytes.{length-carrier}
use Rattle.emdf_format.proofs.Lists.{Carries, carried, carries_same, reads_as, followed}
use Rattle.emdf_recipe.specs.declared.RecipeRecord.{RecipeRecord}
use Rattle.emdf_recipe.specs.declared.RecordKind.{RecordKind}
use Rattle.emdf_recipe.specs.File.{first_index, record_count, record_at, edit_asked, record_edit, link_of, Recipe, edits, wrong, prepend, follow, chain, recipe_of, edits_of}
use Rattle.emdf_recipe_run.specs.declared.Holder.{Holder}
use Rattle.emdf_recipe_run.specs.declared.Holder.TheVariants.{Start, First, Second}
use Rattle.emdf_recipe_run.specs.declared.RunAnswer.{RunAnswer}
use Rattle.emdf_recipe_run.specs.Runs.{Run, source, target, first_after, second_after, counted, held, aim, ran_edit, ran_edits, begun_answer, begun, run_of, answer_of, RecipeCalled}
use Rattle.emdf_recipe_run.specs.Plain.{PlainRun, room, plain_edit, plain_edits, plain_begun, plain_recipe}
use Rattle.emdf_recipe_run.specs.Operations.{calls_from, counted_all, RunsItsCalls, Operation, OperationAnswer, operation_events, operation_outcome, contents_after, answers_of, OperationsBytes, left_by, Performed, none, edit, recipe, EqualityOfOperations}
use Rattle.emdf_recipe_run.proofs.Runs.{kept-lengths}

-- ---- a run is the run of its calls

next-at : (p : Holder) (n : ByteCount) (m : ℕ) (answer : Result ByteCount EditError) (dst start a b : List ℕ)
    → let q = counted (record { holder = p; length = n; refused = m }) answer in
    source q.holder q.length.0 start (first_after p dst a) (second_after p dst b) ≡ next_source (source p n.0 start a b) answer dst
unfolding counted source first_after second_after next_source
next-at Start n m (Ok k) dst start a b = refl
next-at First n m (Ok k) dst start a b = refl
next-at Second n m (Ok k) dst start a b = refl
next-at Start n m (Err why) dst start a b = refl
next-at First n m (Err why) dst start a b = refl
next-at Second n m (Err why) dst start a b = refl

-- the call that an edit of the run is
abbrev call_at : Edit → Run → Call
call_at e r = record { edit = e; destination = aim r }

held_next : (start : List ℕ) (e : Edit) (r : Run) → held start (ran_edit start e r) ≡ (done (held start r) (call_at e r)).left
unfolding ran_edit done
held_next start e r = next-at r.answer.holder r.answer.length r.answer.refused _ _ start r.first r.second

held-leaves : (start : List ℕ) (es : List Edit) (r : Run) → held start (ran_edits start es r) ≡ leaves (held start r) (calls_from start es r)
unfolding ran_edits calls_from leaves
held-leaves start [] r = refl
held-leaves start (e ∷ es) r =
    held-leaves start es (ran_edit start e r) ∙ ap (λ (s : List ℕ). leaves s (calls_from start es (ran_edit start e r))) (held_next start e r)

answered-next : (start : List ℕ) (e : Edit) (r : Run) → (ran_edit start e r).answer ≡ counted r.answer (done (held start r) (call_at e r)).answer
unfolding ran_edit done
answered-next start e r = refl

counted-answers : (start : List ℕ) (es : List Edit) (r : Run) → (ran_edits start es r).answer ≡ counted_all r.answer (answers (held start r) (calls_from start es r))
unfolding ran_edits calls_from answers counted_all
counted-answers start [] r = refl
counted-answers start (e ∷ es) r =
    let q : Run = ran_edit start e r in
    counted-answers start es q
    ∙ ap (λ (s : List ℕ). counted_all q.answer (answers s (calls_from start es q))) (held_next start e r)
    ∙ ap (λ (a : RunAnswer). counted_all a (answers (done (held start r) (call_at e r)).left (calls_from start es q))) (answered-next start e r)

pub runs-its-calls : RunsItsCalls
unfolding run_of edits_of calls_from leaves answers counted_all begun begun_answer source
runs-its-calls = record { claim = λ file start a b. by (recipe_of file) start a b }
  where
    by : (q : Recipe) (start a b : List ℕ)
        → (held start (run_of q start a b) ≡ leaves start (calls_from start (edits_of q) (begun start a b)))
        × ((run_of q start a b).answer ≡ counted_all (begun start a b).answer (answers start (calls_from start (edits_of q) (begun start a b))))
    by (edits es) start a b = (held-leaves start es (begun start a b), counted-answers start es (begun start a b))
    by (wrong why) start a b = (refl, refl)

-- 22 and 23 leave both buffers
pub refused-leaves : (start file a₀ b₀ : List ℕ) {why : RecipeError} {a b : List ℕ} → RecipeCalled start file a₀ b₀ (Err why) a b → (a ≡ a₀) × (b ≡ b₀)
unfolding answer_of run_of begun
refused-leaves start file a₀ b₀ {why} {a} {b} h = by (recipe_of file) h.answered h.first h.second
  where
    by : (q : Recipe) → Err why ≡ answer_of q (run_of q start a₀ b₀).answer → a ≡ (run_of q start a₀ b₀).first → b ≡ (run_of q start a₀ b₀).second → (a ≡ a₀) × (b ≡ b₀)
    by (edits es) k l m = absurd (let z : ◌≡◌ {A = ℕ} 0 1 = cc in omega arith)
    by (wrong y) k l m = (l, m)

-- ---- a run follows its plain run

room_at : (p : Holder) (a b : List ℕ) → length (target p a b) ≡ room p (length a) (length b)
unfolding target room
room_at Start a b = refl
room_at First a b = refl
room_at Second a b = refl

-- the same answer, buffers of these lengths, and a carrier of the plain contents
record Along (start : List ℕ) (first second : ℕ) (r : Run) (p : PlainRun) : Type 0 where
  pub answered : r.answer ≡ p.answer
  pub first-long : length r.first ≡ first
  pub second-long : length r.second ≡ second
  pub carries : Carries (held start r) p.contents

along-edit : (start : List ℕ) (m n : ℕ) (e : Edit) (r : Run) (p : PlainRun) → EditBytes e → Along start m n r p → Along start m n (ran_edit start e r) (plain_edit m n e p)
unfolding plain_edit
along-edit start m n e r p b g =
    let f = followed (held start r) p.contents (call_at e r) b g.carries in
    let h : length (aim r) ≡ room p.answer.holder m n = room_at r.answer.holder r.first r.second ∙ rw (g.answered, g.first-long, g.second-long) in
    let k : event_of (call_at e r) ≡ record { edit = e; room = room p.answer.holder m n } = ap (λ (x : ℕ). record { edit = e; room = x }) h in
    let (x, y) = kept-lengths start e r in
    record {
      answered = answered-next start e r ∙ rw (f.answered, k, g.answered);
      first-long = x ∙ g.first-long;
      second-long = y ∙ g.second-long;
      carries = rw (held_next start e r, ← k) f.left;
    }

-- the octets of every edit are bytes
unfoldable AllBytes : List Edit → Type 0
AllBytes [] = Unit {0}
AllBytes (e ∷ es) = EditBytes e × AllBytes es

along-edits : (start : List ℕ) (m n : ℕ) (es : List Edit) (r : Run) (p : PlainRun) → AllBytes es → Along start m n r p
    → Along start m n (ran_edits start es r) (plain_edits m n es p)
unfolding AllBytes ran_edits plain_edits
along-edits start m n [] r p b g = g
along-edits start m n (e ∷ es) r p b g = along-edits start m n es _ _ b.1 (along-edit start m n e r p b.0 g)

along-start : (start a b : List ℕ) (c : Contents) → Carries start c → Along start (length a) (length b) (begun start a b) (plain_begun c)
unfolding begun begun_answer plain_begun source
along-start start a b c k =
    let e : length start ≡ carrier_length c = ap length k.is ∙ length-carrier c in
    record { answered = rw e; first-long = refl; second-long = refl; carries = k }

-- ---- what a recipe brings are bytes of its file

part_bytes : (f : List ℕ) (n o : ℕ) → Bytes f → Bytes (take n (drop o f))
part_bytes f n o h i = by (ltb i n) refl
  where
    by : (t : Bool) → ltb i n ≡ t → get_or (take n (drop o f)) i 0 < 256
    by true k = rw (get_or-take n (drop o f) i 0 (ltb-true _ _ k), get_or-drop o f i 0) (h (o + i))
    by false k =
        let short : length (take n (drop o f)) ≤ i = simp length-take (omega (arith, ltb-false i n k)) in
        rw (get_or-eq_default (take n (drop o f)) 0 short) (omega arith)

record-bytes : (f : List ℕ) (e : RecipeRecord) → Bytes f → EditBytes (record_edit f e)
unfolding edit_asked EditBytes
record-bytes f e h = by e.kind
  where
    by : (k : Result RecordKind ℕ) → EditBytes (edit_asked k f e)
    by (Ok RecordKind.Body) = part_bytes f e.length e.offset h
    by (Ok RecordKind.Drop) = tt
    by (Ok RecordKind.Key) = tt
    by (Err n) = tt

either-bytes : (t : Bool) (q r : Recipe) → AllBytes (edits_of q) → AllBytes (edits_of r) → AllBytes (edits_of (if t then q else r))
either-bytes true q r h k = h
either-bytes false q r h k = k

prepend-bytes : (e : Edit) (r : Recipe) → EditBytes e → AllBytes (edits_of r) → AllBytes (edits_of (prepend e r))
unfolding prepend edits_of AllBytes
prepend-bytes e (edits es) h k = (h, k)
prepend-bytes e (wrong why) h k = tt

follow-bytes : (l : Result ℕ RecipeError) (e : Edit) (rest : ℕ → Recipe) → EditBytes e → ((n : ℕ) → AllBytes (edits_of (rest n))) → AllBytes (edits_of (follow l e rest))
unfolding follow edits_of AllBytes
follow-bytes (Ok n) e rest h k = prepend-bytes e (rest n) h (k n)
follow-bytes (Err why) e rest h k = tt

chain-bytes : (more : ℕ) (f : List ℕ) (count i : ℕ) → Bytes f → AllBytes (edits_of (chain more f count i))
unfolding chain edits_of AllBytes
chain-bytes zero f count i h = either-bytes (eqb i 0) (edits []) (wrong BrokenChain) tt tt
chain-bytes (suc more) f count i h =
    let e = record_edit f (record_at f i) in
    either-bytes (eqb i 0) (edits []) (follow (link_of f count i) e (chain more f count)) tt
    (follow-bytes (link_of f count i) e (chain more f count) (record-bytes f (record_at f i) h) (λ n. chain-bytes more f count n h))

recipe-bytes : (f : List ℕ) → Bytes f → AllBytes (edits_of (recipe_of f))
unfolding recipe_of edits_of AllBytes
recipe-bytes f h =
    let all = chain (record_count f) f (record_count f) (first_index f) in
    either-bytes (leb 4 (length f)) (if leb (first_index f) (record_count f) then all else wrong BrokenChain) (wrong BrokenChain)
    (either-bytes (leb (first_index f) (record_count f)) all (wrong BrokenChain) (chain-bytes (record_count f) f (record_count f) (first_index f) h) tt)
    tt

-- ---- a recipe that is called

along-recipe : (q : Recipe) (start a b : List ℕ) (c : Contents) → AllBytes (edits_of q) → Carries start c
    → Along start (length a) (length b) (run_of q start a b) (plain_recipe q c (length a) (length b))
unfolding edits_of run_of plain_recipe
along-recipe (edits es) start a b c h k = along-edits start (length a) (length b) es _ _ h (along-start start a b c k)
along-recipe (wrong why) start a b c h k = along-start start a b c k

left-held : (q : Recipe) (start a₀ b₀ a b : List ℕ) (answer : Result RunAnswer RecipeError) → answer ≡ answer_of q (run_of q start a₀ b₀).answer
    → a ≡ (run_of q start a₀ b₀).first → b ≡ (run_of q start a₀ b₀).second → left_by start answer a b ≡ held start (run_of q start a₀ b₀)
unfolding answer_of left_by run_of begun begun_answer source
left-held (edits es) start a₀ b₀ a b answer h k l = rw (h, k, l)
left-held (wrong why) start a₀ b₀ a b answer h k l = rw h

-- ---- lists

record FollowedAll (c : Contents) (os : List Operation) (left : List ℕ) (answers : List OperationAnswer) : Type 0 where
  pub carries : Carries left (contents_after c (operation_events os))
  pub answered : answers ≡ answers_of c (operation_events os)

follow-all : {s left : List ℕ} {os : List Operation} {answers : List OperationAnswer} (c : Contents) → OperationsBytes os → Carries s c → Performed s os left answers → FollowedAll c os left answers
unfolding OperationsBytes operation_events operation_outcome contents_after answers_of done
follow-all c b k none = record { carries = k; answered = refl }
follow-all {s} c b k (edit {t = t} h hs) =
    let f = followed s c t b.0 k in
    let l = rw (← h.0, ← h.1) at f.left in
    let r = follow-all _ b.1 l hs in
    record { carries = r.carries; answered = rw (h.0, f.answered, r.answered) }
follow-all {s} c b k (recipe {file = file} {a₀ = a₀} {b₀ = b₀} h hs) =
    let g = along-recipe (recipe_of file) s a₀ b₀ c (recipe-bytes file b.0) k in
    let e = left-held (recipe_of file) s a₀ b₀ _ _ _ h.answered h.first h.second in
    let r = follow-all (plain_recipe (recipe_of file) c (length a₀) (length b₀)).contents b.1 (rw e g.carries) hs in
    record { carries = r.carries; answered = rw (h.answered, g.answered, r.answered) }

pub equality-of-operations : EqualityOfOperations
equality-of-operations = record {
  claim = λ s₁ s₂ k₁ k₂ os₁ os₂ left₁ left₂ answers₁ answers₂ b₁ b₂ e₁ e₂ h₁ h₂ p₁ p₂.
      let f₁ = follow-all (contents_of k₁) e₁ (carried s₁ k₁ b₁ h₁) p₁ in
      let f₂ = follow-all (contents_of k₂) e₂ (carried s₂ k₂ b₂ h₂) p₂ in
      (carries_same f₁.carries f₂.carries, f₁.answered, reads_as f₁.carries, f₂.answered, reads_as f₂.carries);
}
