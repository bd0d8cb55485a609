-- Laws on a recipe's file: what a link that holds says, and a chain followed record by record. Assumes nothing.
use mathlib.Core.Path.{◌≡◌, refl, sym, ap, ◌∙◌}
use mathlib.Core.Bool.{Bool, true, false}
use mathlib.Core.List.{List, [], ◌∷◌}
use Prim.Native.Nat.{ℕ, zero, suc, ◌+◌, ◌-◌, ◌*◌, ◌/◌, ◌%◌, ◌^◌, ◌<◌, ◌≤◌}
use native.Mathlib.Nat.{add-zero, mul-one}
use native.Mathlib.Omega.{arith}
use native.Mathlib.Decide.{ℕ_discrete}
use lib.ListN.{length}
use lib.Dec.{leb}
use lib.Pow.{high}
use borrow.Author.Tests.{ltb-true, leb-true, ne_eqb, le-leb}
use Rattle.std.specs.Prelude.{if◌then◌else◌, Result, Ok, Err}
use Rattle.openjoc_bitio.specs.Bits.{bits_value, window_at}
use Rattle.openjoc_bitio.proofs.Bits.{value-split, value-range}
use Rattle.emdf_format.specs.Contents.{◌&◌}
use Rattle.emdf_format.specs.Edits.{Edit}
use Rattle.emdf_format.specs.declared.RecipeError.{RecipeError}
use Rattle.emdf_format.specs.declared.RecipeError.TheVariants.{BrokenChain, InvalidRecord}
use Rattle.emdf_recipe.specs.declared.RecipeRecord.{RecipeRecord}
use Rattle.emdf_recipe.specs.declared.RecordKind.{RecordKind}
use Rattle.emdf_recipe.specs.File.{octets_number, first_index, record_count, record_at, record_edit, next_allowed, data_allowed, record_allowed, link_of, Recipe, edits, wrong, prepend, follow, chain, recipe_of, edits_after, check_answer}

-- ---- numbers

-- the first octets of a word of 64 bits
pub number-high : (s : List ℕ) (p n : ℕ) → n ≤ 8 → bits_value s p 64 / 2 ^ (64 - n * 8) ≡ bits_value s p (n * 8)
number-high s p n h =
    let e : n * 8 + (64 - n * 8) ≡ 64 = omega arith in
    ap (λ (w : ℕ). bits_value s p w / 2 ^ (64 - n * 8)) (sym e) ∙ rw (value-split s p (n * 8) (64 - n * 8)) (high (bits_value s p (n * 8)) (64 - n * 8) (value-range s (p + n * 8) (64 - n * 8)))

pub window-number : (s : List ℕ) (at n : ℕ) → n ≤ 8 → window_at s (at * 8) / 2 ^ (64 - n * 8) ≡ octets_number s at n
unfolding window_at
window-number s at n h = let z : at * 8 % 8 ≡ 0 = omega arith in rw (z, mul-one) (number-high s (at * 8) n h)

-- what a record's numbers can be
pub record Small (e : RecipeRecord) : Type 0 where
  pub next : e.next < 65536
  pub offset : e.offset < 4294967296
  pub size : e.length < 4294967296

pub record-small : (s : List ℕ) (i : ℕ) → Small (record_at s i)
unfolding record_at
record-small s i = record { next = value-range s _ 16; offset = value-range s _ 32; size = value-range s _ 32 }

-- ---- a record's questions

-- what is known of a record whose link holds
pub record Linked (s : List ℕ) (count i n : ℕ) : Type 0 where
  pub inside : 4 + 16 * i ≤ length s
  pub rising : next_allowed count i n ≡ true
  pub allowed : record_allowed (length s) (record_at s i) ≡ true
  pub next : (record_at s i).next ≡ n

three : (t u v : Bool) (m n : ℕ)
    → (if t then (if u then (if v then Ok m else Err InvalidRecord) else Err BrokenChain) else Err BrokenChain) ≡ Ok n
    → (t ≡ true) × (u ≡ true) × (v ≡ true) × (m ≡ n)
three true true true m n h = (refl, refl, refl, cc)
three true true false m n h = absurd (let z : ◌≡◌ {A = ℕ} 0 1 = cc in omega arith)
three true false v m n h = absurd (let z : ◌≡◌ {A = ℕ} 0 1 = cc in omega arith)
three false u v m n h = absurd (let z : ◌≡◌ {A = ℕ} 0 1 = cc in omega arith)

pub link-next : (s : List ℕ) (count i n : ℕ) → link_of s count i ≡ Ok n → Linked s count i n
unfolding link_of
link-next s count i n h =
    let (a, b, c, d) = three (leb (4 + 16 * i) (length s)) (next_allowed count i (record_at s i).next) (record_allowed (length s) (record_at s i)) (record_at s i).next n h in
    record { inside = leb-true _ _ a; rising = rw d at b; allowed = c; next = d }

both : (t u : Bool) → (t & u) ≡ true → (t ≡ true) × (u ≡ true)
unfolding ◌&◌
both true u h = (refl, h)
both false u h = absurd (let z : ◌≡◌ {A = ℕ} 0 1 = cc in omega arith)

otherwise : (t u : Bool) → (if t then true else u) ≡ true → t ≡ false → u ≡ true
otherwise true u h k = absurd (let z : ◌≡◌ {A = ℕ} 0 1 = cc in omega arith)
otherwise false u h k = h

-- what is known of a record that can be run: it has a kind, and a body lies in the file
pub has-kind : (n k : ℕ) (e : RecipeRecord) → record_allowed n e ≡ true → e.kind ≡ Err k → ⊥
unfolding record_allowed data_allowed
has-kind n m e h k = let y = rw k at (both _ _ h).1 in absurd (let z : ◌≡◌ {A = ℕ} 0 1 = cc in omega arith)

pub body-inside : (n : ℕ) (e : RecipeRecord) → record_allowed n e ≡ true → e.kind ≡ Ok RecordKind.Body → e.offset + e.length ≤ n
unfolding record_allowed data_allowed
body-inside n e h k = leb-true _ _ (rw k at (both _ _ h).1)

-- ---- the numbers rise, so a chain ends

-- what is left above record i; nothing once the chain has ended
unfoldable pub above : ℕ → ℕ → ℕ
above count zero = 0
above count (suc i) = count - i

-- the next number, after one that is there
pub record Above (count i n : ℕ) : Type 0 where
  pub low : n ≤ count
  pub more : (n ≡ 0 → ⊥) → i < n
  pub falls : above count n < above count i

pub rises-above : (count i n : ℕ) → (i ≡ 0 → ⊥) → i ≤ count → next_allowed count i n ≡ true → Above count i n
unfolding above next_allowed
rises-above count zero n k l h = absurd (k refl)
rises-above count (suc i) zero k l h = record { low = omega arith; more = λ z. absurd (z refl); falls = omega arith }
rises-above count (suc i) (suc n) k l h =
    let (u, v) = both _ _ (otherwise _ _ h (ne_eqb (suc n) 0 (omega arith))) in
    let p : suc i < suc n = ltb-true _ _ u in
    let q : suc n ≤ count = leb-true _ _ v in
    record { low = q; more = λ z. p; falls = omega arith }

-- ---- the chain, one record at a time: checked

-- at record i, after so many edits: what is left to check, with them, is the whole
pub record Going (s : List ℕ) (count i before : ℕ) : Type 0 where
  pub more : ℕ
  pub low : i ≤ count
  pub few : (i ≡ 0 → ⊥) → before < i
  pub enough : (i ≡ 0 → ⊥) → count < i + more
  pub rest : edits_after before (chain more s count i) ≡ check_answer (recipe_of s)

pub going_start : (s : List ℕ) → 4 ≤ length s → first_index s ≤ record_count s → Going s (record_count s) (first_index s) 0
unfolding recipe_of
going_start s h k = record { more = record_count s; low = k; few = λ z. omega arith; enough = λ z. omega arith; rest = simp (le-leb 4 (length s) h, le-leb _ _ k) }

chain-on : (more : ℕ) (s : List ℕ) (count i : ℕ) → (i ≡ 0 → ⊥)
    → chain (suc more) s count i ≡ follow (link_of s count i) (record_edit s (record_at s i)) (chain more s count)
unfolding chain
chain-on more s count i k = simp (ne_eqb i 0 k)

after-prepend : (n : ℕ) (e : Edit) (r : Recipe) → edits_after n (prepend e r) ≡ edits_after (n + 1) r
unfolding edits_after prepend
after-prepend n e (edits es) = let z : n + suc (length es) ≡ n + 1 + length es = omega arith in rw z
after-prepend n e (wrong why) = refl

module _ (s : List ℕ) (count i before : ℕ) (g : Going s count i before) (k : i ≡ 0 → ⊥) where
  pub going_on : (n : ℕ) → link_of s count i ≡ Ok n → Going s count n (before + 1)
  unfolding follow
  going_on n h = by g.more (g.enough k) g.rest
    where
      a : Above count i n
      a = rises-above count i n k g.low (link-next s count i n h).rising

      by : (more : ℕ) → count < i + more → edits_after before (chain more s count i) ≡ check_answer (recipe_of s) → Going s count n (before + 1)
      by zero e r = absurd (omega (arith, g.low))
      by (suc m) e r = record {
        more = m;
        low = a.low;
        few = λ z. let l = a.more z in omega (arith, g.few k);
        enough = λ z. let l = a.more z in omega arith;
        rest = sym (after-prepend before (record_edit s (record_at s i)) (chain m s count n)) ∙ (rw (chain-on m s count i k, h) at r);
      }

  pub going-broken : (why : RecipeError) → link_of s count i ≡ Err why → check_answer (recipe_of s) ≡ Err why
  unfolding follow edits_after
  going-broken why h = by g.more (g.enough k) g.rest
    where
      by : (more : ℕ) → count < i + more → edits_after before (chain more s count i) ≡ check_answer (recipe_of s) → check_answer (recipe_of s) ≡ Err why
      by zero e r = absurd (omega (arith, g.low))
      by (suc m) e r = sym (rw (chain-on m s count i k, h) at r)

pub chain-end : (more : ℕ) (s : List ℕ) (count : ℕ) → chain more s count 0 ≡ edits []
unfolding chain
chain-end zero s count = refl
chain-end (suc more) s count = refl

pub going_end : (s : List ℕ) (count i before : ℕ) → Going s count i before → i ≡ 0 → check_answer (recipe_of s) ≡ Ok before
unfolding edits_after
going_end s count i before g h = sym (rw (h, chain-end g.more s count, add-zero) at g.rest)

-- ---- the same, of a chain that was checked

pub record Chained (s : List ℕ) (count i : ℕ) (es : List Edit) : Type 0 where
  pub more : ℕ
  pub rest : List Edit
  pub linked : Linked s count i (record_at s i).next
  pub chained : chain more s count (record_at s i).next ≡ edits rest
  pub split : es ≡ record_edit s (record_at s i) ∷ rest

pub chained-on : (more : ℕ) (s : List ℕ) (count i : ℕ) (es : List Edit) → (i ≡ 0 → ⊥) → chain more s count i ≡ edits es → Chained s count i es
unfolding chain prepend follow
chained-on zero s count i es k h = absurd (let w = simp (ne_eqb i 0 k) at h in let z : ◌≡◌ {A = ℕ} 0 1 = cc in omega arith)
chained-on (suc m) s count i es k h = by (link_of s count i) refl (rw (chain-on m s count i k) at h)
  where
    with-next : (n : ℕ) (r : Recipe) → chain m s count n ≡ r → link_of s count i ≡ Ok n → prepend (record_edit s (record_at s i)) r ≡ edits es → Chained s count i es
    with-next n (edits rest) e l p =
        let f = link-next s count i n l in
        record { more = m; rest = rest; linked = rw f.next f; chained = rw f.next e; split = cc }
    with-next n (wrong why) e l p = absurd (let z : ◌≡◌ {A = ℕ} 0 1 = cc in omega arith)

    by : (l : Result ℕ RecipeError) → link_of s count i ≡ l → follow l (record_edit s (record_at s i)) (chain m s count) ≡ edits es → Chained s count i es
    by (Ok n) e p = with-next n (chain m s count n) refl e p
    by (Err why) e p = absurd (let z : ◌≡◌ {A = ℕ} 0 1 = cc in omega arith)

-- a recipe that was checked is a chain
pub record Whole (s : List ℕ) (n : ℕ) : Type 0 where
  pub es : List Edit
  pub size : 4 ≤ length s
  pub low : first_index s ≤ record_count s
  pub chained : chain (record_count s) s (record_count s) (first_index s) ≡ edits es
  pub whole : recipe_of s ≡ edits es
  pub count : length es ≡ n

pub checked-whole : (s : List ℕ) (n : ℕ) → check_answer (recipe_of s) ≡ Ok n → Whole s n
unfolding recipe_of edits_after
checked-whole s n h = by (leb 4 (length s)) refl (leb (first_index s) (record_count s)) refl (chain (record_count s) s (record_count s) (first_index s)) refl h
  where
    by : (t : Bool) → leb 4 (length s) ≡ t → (u : Bool) → leb (first_index s) (record_count s) ≡ u → (r : Recipe) → chain (record_count s) s (record_count s) (first_index s) ≡ r
        → edits_after 0 (if t then (if u then r else wrong BrokenChain) else wrong BrokenChain) ≡ Ok n → Whole s n
    by true a true b (edits es) c k = record { es = es; size = leb-true _ _ a; low = leb-true _ _ b; chained = c; whole = simp (a, b, c); count = let z : 0 + length es ≡ n = cc in omega arith }
    by true a true b (wrong why) c k = absurd (let z : ◌≡◌ {A = ℕ} 0 1 = cc in omega arith)
    by true a false b r c k = absurd (let z : ◌≡◌ {A = ℕ} 0 1 = cc in omega arith)
    by false a u b r c k = absurd (let z : ◌≡◌ {A = ℕ} 0 1 = cc in omega arith)

-- ---- how many may still come never shows: any bound that is large enough gives the same recipe

-- so many are enough from record i on
abbrev pub Enough : ℕ → ℕ → ℕ → Type 0
Enough count i more = (i ≡ 0 → ⊥) → count < i + more

ends : (m n : ℕ) (s : List ℕ) (count i : ℕ) → i ≡ 0 → chain m s count i ≡ chain n s count i
ends m n s count i h = rw h (chain-end m s count ∙ sym (chain-end n s count))

same-follow : (s : List ℕ) (count i : ℕ) (f g : ℕ → Recipe) → (i ≡ 0 → ⊥) → i ≤ count → ((n : ℕ) → Above count i n → f n ≡ g n)
    → follow (link_of s count i) (record_edit s (record_at s i)) f ≡ follow (link_of s count i) (record_edit s (record_at s i)) g
unfolding follow
same-follow s count i f g k l same = by (link_of s count i) refl
  where
    by : (x : Result ℕ RecipeError) → link_of s count i ≡ x → follow x (record_edit s (record_at s i)) f ≡ follow x (record_edit s (record_at s i)) g
    by (Ok n) e = ap (λ (r : Recipe). prepend (record_edit s (record_at s i)) r) (same n (rises-above count i n k l (link-next s count i n e).rising))
    by (Err why) e = refl

pub same-chain : (m n : ℕ) (s : List ℕ) (count i : ℕ) → i ≤ count → Enough count i m → Enough count i n → chain m s count i ≡ chain n s count i
same-chain zero n s count i l h k = ends zero n s count i (elim (ℕ_discrete i 0) [ yes e ↦ e | no e ↦ absurd (omega (arith, h e)) ])
same-chain (suc m) zero s count i l h k = ends (suc m) zero s count i (elim (ℕ_discrete i 0) [ yes e ↦ e | no e ↦ absurd (omega (arith, k e)) ])
same-chain (suc m) (suc n) s count i l h k = elim (ℕ_discrete i 0) [
  | yes e ↦ ends (suc m) (suc n) s count i e
  | no e ↦
      chain-on m s count i e
      ∙ same-follow s count i (chain m s count) (chain n s count) e l (λ x a. same-chain m n s count x a.low (λ z. let p = a.more z in omega (arith, h e)) (λ z. let p = a.more z in omega (arith, k e)))
      ∙ sym (chain-on n s count i e)
]
