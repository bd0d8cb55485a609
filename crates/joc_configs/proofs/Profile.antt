-- Laws of the verdict: values that differ, settings that pass, marks in a word. Assumes nothing.
use mathlib.Core.Path.{◌≡◌, refl, sym, ap, ◌∙◌}
use mathlib.Core.Bool.{Bool, true, false, not}
use mathlib.Core.List.{List, [], ◌∷◌, ◌++◌, map}
use Prim.Native.Nat.{ℕ, suc, ◌+◌, ◌*◌, ◌/◌, ◌%◌, ◌^◌, ◌≤◌, ◌<◌}
use native.Mathlib.Nat.{pow-suc}
use native.Mathlib.Omega.{arith}
use lib.Count.{ones_step}
use lib.Count.{ones as ones_in}
use lib.Dec.{eqb, lit<}
use lib.ListN.{length, get_or, take}
use lib.Seq.{length-take-le}
use Rattle.std.proofs.Math.Pow.{pow_mono}
use Rattle.std.specs.Prelude.{◌||◌, ◌&&◌, if◌then◌else◌, Option, Some, None, Ok, Err}
use Rattle.std.specs.Option.{option_eq, is_some}
use Rattle.std.specs.List.{list_all}
use Rattle.std.proofs.lemmas.List.{take_more, take_all, map-append, length-map}
use Rattle.emdf_format.specs.Contents.{◌&◌, is_present}
use Rattle.emdf_format.specs.Profile.{meets, differ, Entry, deviates, marks, deviations, allows, passes, all_pass, meets_profile, word, ones, status, judge}
use Rattle.emdf_format.specs.declared.PlacedConfig.{PlacedConfig}
use Rattle.emdf_format.specs.declared.JocValidationProfile.{JocValidationProfile}
use Rattle.emdf_format.specs.declared.JocValidationStatus.{JocValidationStatus}
use Rattle.emdf_format.specs.declared.JocProfileError.TheVariants.{Configuration}
use Rattle.emdf_format.specs.declared.JocProfileValue.{JocProfileValue}
use Rattle.joc_configs.specs.Settings.{setting_of, passes_as}
use Rattle.joc_configs.specs.declared.Setting.{Setting}
use Rattle.emdf_format.proofs.Standing.{fails, holds}

-- ---- values, compared by the language

pub equal-differ : (a b : Option ℕ) → not (option_eq eqb a b) ≡ differ a b
unfolding differ
equal-differ None None = refl
equal-differ None (Some w) = refl
equal-differ (Some v) None = refl
equal-differ (Some v) (Some w) = refl

pub equal-meets : (v : ℕ) (o : Option ℕ) → option_eq eqb o (Some v) ≡ meets (JocProfileValue.Unsigned v) o
unfolding meets
equal-meets v None = refl
equal-meets v (Some w) = refl

not_twice : (b : Bool) → b ≡ not (not b)
not_twice true = refl
not_twice false = refl

pub equal-allows : (a : Option (Option ℕ)) (o : Option ℕ) → option_eq (option_eq eqb) a (Some o) ≡ allows a o
unfolding allows
equal-allows None o = refl
equal-allows (Some x) o = not_twice (option_eq eqb x o) ∙ ap not (equal-differ x o)

is_some-present : (o : Option ℕ) → is_some o ≡ is_present o
unfolding is_present
is_some-present None = refl
is_some-present (Some v) = refl

pub is-absent : (o : Option ℕ) {r : Bool} → is_some o ≡ not r → r ≡ meets JocProfileValue.Absent o
unfolding meets
is-absent o {r} h = not_twice r ∙ ap not (sym h ∙ is_some-present o)

pub is-present : (o : Option ℕ) {r : Bool} → r ≡ is_some o → r ≡ meets JocProfileValue.Present o
unfolding meets
is-present o h = h ∙ is_some-present o

-- ---- settings that pass

abbrev pub setting_passes : Setting → Bool
setting_passes s = passes_as s.wanted s.allowed s.found

pub all-settings : (xs : List Entry) → list_all setting_passes (map setting_of xs) ≡ all_pass xs
unfolding all_pass passes passes_as ◌&◌
all-settings [] = refl
all-settings (x ∷ xs) = go (meets x.wanted x.found || allows x.allowed x.found) (all-settings xs)
  where
    go : (t : Bool) → list_all setting_passes (map setting_of xs) ≡ all_pass xs → (t && list_all setting_passes (map setting_of xs)) ≡ (t & all_pass xs)
    go true h = h
    go false h = refl

-- ---- marks in a word

-- the mark of a setting
abbrev pub setting_deviates : Setting → Bool
setting_deviates s = not (meets s.wanted s.found)

pub setting-marks : (xs : List Entry) → map setting_deviates (map setting_of xs) ≡ marks xs
unfolding marks deviates
setting-marks [] = refl
setting-marks (x ∷ xs) = ap (λ (bs : List Bool). not (meets x.wanted x.found) ∷ bs) (setting-marks xs)

pub word_within : (bs : List Bool) → word bs < 2 ^ length bs
unfolding word
word_within [] = lit< tt
word_within (b ∷ bs) = go b (word_within bs)
  where
    go : (b : Bool) → word bs < 2 ^ length bs → (if b then 1 else 0) + 2 * word bs < 2 ^ suc (length bs)
    go true h = rw pow-suc (omega arith)
    go false h = rw pow-suc (omega arith)

-- one mark more
word-more : (bs : List Bool) (b : Bool) → word (bs ++ b ∷ []) ≡ word bs + (if b then 2 ^ length bs else 0)
unfolding word
word-more [] true = refl
word-more [] false = refl
word-more (x ∷ bs) b = go b (word-more bs b)
  where
    go : (b : Bool) → word (bs ++ b ∷ []) ≡ word bs + (if b then 2 ^ length bs else 0)
        → (if x then 1 else 0) + 2 * word (bs ++ b ∷ []) ≡ (if x then 1 else 0) + 2 * word bs + (if b then 2 ^ suc (length bs) else 0)
    go true h = rw pow-suc (omega arith)
    go false h = omega arith

-- the marks of the first k settings
abbrev pub marks_before : List Setting → ℕ → List Bool
marks_before xs k = map setting_deviates (take k xs)

module _ (xs : List Setting) (k : ℕ) where
  length-before : k ≤ length xs → length (marks_before xs k) ≡ k
  length-before h = length-map (take k xs) setting_deviates ∙ length-take-le k xs h

  pub before-within : k ≤ length xs → word (marks_before xs k) < 2 ^ k
  before-within h = rw (length-before h) at (word_within (marks_before xs k))

  pub next-mark : (d : Setting) {m : Bool} {w : ℕ} → k < length xs → m ≡ meets (get_or xs k d).wanted (get_or xs k d).found
      → w ≡ word (marks_before xs k) + (if not m then 2 ^ k else 0) → w ≡ word (marks_before xs (k + 1))
  next-mark d h i e =
      let l : length (marks_before xs k) ≡ k = length-before (omega arith) in
      let t = word-more (marks_before xs k) (setting_deviates (get_or xs k d)) in
      rw (take_more xs k d h, map-append) (rw i at e ∙ sym (rw l at t))

-- the marks of a whole table
pub all-marks : (xs : List Entry) (ss : List Setting) (k : ℕ) → ss ≡ map setting_of xs → length xs ≤ k → marks_before ss k ≡ marks xs
all-marks xs ss k e h = rw (e, take_all k (map setting_of xs) (rw length-map h)) (setting-marks xs)

-- a mark's weight
pub weight : (k : ℕ) → k < 10 → ((1 * 2 ^ k) % 4294967296 ≡ 2 ^ k) × (2 ^ k ≤ 512)
weight k h = let n : k ≤ 9 = omega arith in let l : 2 ^ k ≤ 2 ^ 9 = pow_mono n in (omega arith, omega arith)

pub bit-small : (b : Bool) → (if b then 1 else 0) < 2
bit-small true = lit< tt
bit-small false = lit< tt

mark-first : (m v n : ℕ) → m < 2 → ones_in v ≡ n → ones_in (m + 2 * v) ≡ m + n
unfolding ones_in
mark-first m v n h e =
    let a : (m + 2 * v) % 2 ≡ m = omega arith in
    let d : (m + 2 * v) / 2 ≡ v = omega arith in
    ones_step (m + 2 * v) ∙ rw (a, d, e)

-- the language's count of ones is the number of marks
pub ones-word : (bs : List Bool) → ones_in (word bs) ≡ ones bs
unfolding word ones ones_in
ones-word [] = refl
ones-word (b ∷ bs) = mark-first (if b then 1 else 0) (word bs) (ones bs) (bit-small b) (ones-word bs)

-- ---- the verdict on two payloads

module _ (profile : JocValidationProfile) (most : ℕ) (o j : PlacedConfig) {m : ℕ} {t : Bool} (is : m ≡ word (deviations o.config j.config)) (met : t ≡ meets_profile profile o.config j.config) where
  pub judge-refused : not t ≡ true → Err (Configuration m (ones_in m)) ≡ judge profile most o j
  unfolding judge
  judge-refused h = rw (fails h met, is, ones-word)

  pub judge-accepted : {st : JocValidationStatus} → not t ≡ false → st ≡ status (ones_in m)
      → Ok (record { oamd = o.place; joc = j.place; deviations = m; status = st; largest_groups = most }) ≡ judge profile most o j
  unfolding judge
  judge-accepted {st} h k = rw (holds h met, k, is, ones-word)
