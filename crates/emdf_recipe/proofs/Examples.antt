-- Small files, by computation on the definitions. Assumes nothing.
use mathlib.Core.Path.{◌≡◌, refl}
use mathlib.Core.List.{List, [], ◌∷◌, ◌++◌}
use Prim.Native.Nat.{ℕ}
use Rattle.openjoc_bitio.specs.Bits.{bit_at, bits_value}
use Rattle.emdf_format.specs.Contents.{◌&◌}
use Rattle.emdf_format.specs.Edits.{body_edit, drop_edit, key_edit}
use Rattle.emdf_format.specs.declared.RecipeError.TheVariants.{BrokenChain, InvalidRecord}
use Rattle.emdf_recipe.specs.File.{kind_of, record_at, edit_asked, next_allowed, data_allowed, record_allowed, link_of, edits, wrong, prepend, follow, chain, recipe_of}

-- the head: first index and count; a record: next index, kind, zero byte, place, offset, length
abbrev head : ℕ → ℕ → List ℕ
head first count = 0 ∷ first ∷ 0 ∷ count ∷ []

abbrev entry : ℕ → ℕ → ℕ → ℕ → ℕ → ℕ → List ℕ
entry next kind z place offset size = 0 ∷ next ∷ kind ∷ z ∷ 0 ∷ 0 ∷ 0 ∷ place ∷ 0 ∷ 0 ∷ 0 ∷ offset ∷ 0 ∷ 0 ∷ 0 ∷ size ∷ []

pub record Files : Type 0 where
  pub short : recipe_of (0 ∷ 0 ∷ 0 ∷ []) ≡ wrong BrokenChain
  pub nothing : recipe_of (head 0 9) ≡ edits []
  pub first-past-count : recipe_of (head 2 1) ≡ wrong BrokenChain
  pub one-left-out : recipe_of (head 1 3 ++ entry 3 2 0 5 0 0 ++ entry 9 9 9 9 9 9 ++ entry 0 1 0 7 1 3) ≡ edits (drop_edit 5 ∷ body_edit 7 (1 ∷ 0 ∷ 3 ∷ []) ∷ [])
  pub kind-before-the-next-record : recipe_of (head 1 2 ++ entry 2 0 0 0 0 0) ≡ wrong InvalidRecord
  pub next-record-outside : recipe_of (head 1 2 ++ entry 2 2 0 0 0 0) ≡ wrong BrokenChain
  pub index-before-kind : recipe_of (head 1 2 ++ entry 1 0 0 0 0 0) ≡ wrong BrokenChain
  pub next-past-count : recipe_of (head 1 1 ++ entry 2 2 0 0 0 0) ≡ wrong BrokenChain
  pub drop-with-a-byte : recipe_of (head 1 1 ++ entry 0 2 1 0 0 0) ≡ wrong InvalidRecord
  pub drop-ignores-its-bytes : recipe_of (head 1 1 ++ entry 0 2 0 4 200 200) ≡ edits (drop_edit 4 ∷ [])
  pub body-to-the-end : recipe_of (head 1 1 ++ entry 0 1 0 4 18 2) ≡ edits (body_edit 4 (0 ∷ 2 ∷ []) ∷ [])
  pub body-past-the-end : recipe_of (head 1 1 ++ entry 0 1 0 4 19 2) ≡ wrong InvalidRecord
  pub no-body-at-the-end : recipe_of (head 1 1 ++ entry 0 1 0 4 20 0) ≡ edits (body_edit 4 [] ∷ [])
  pub no-body-past-the-end : recipe_of (head 1 1 ++ entry 0 1 0 4 21 0) ≡ wrong InvalidRecord
  pub key : recipe_of (head 1 1 ++ entry 0 3 0 4 0 8) ≡ edits (key_edit 0x0001000100000300 ∷ [])
  pub key-of-seven : recipe_of (head 1 1 ++ entry 0 3 0 4 0 7) ≡ wrong InvalidRecord

pub files : Files
unfolding bit_at bits_value ◌&◌ kind_of record_at edit_asked next_allowed data_allowed record_allowed link_of prepend follow chain recipe_of
files = record {
  short = refl;
  nothing = refl;
  first-past-count = refl;
  one-left-out = refl;
  kind-before-the-next-record = refl;
  next-record-outside = refl;
  index-before-kind = refl;
  next-past-count = refl;
  drop-with-a-byte = refl;
  drop-ignores-its-bytes = refl;
  body-to-the-end = refl;
  body-past-the-end = refl;
  no-body-at-the-end = refl;
  no-body-past-the-end = refl;
  key = refl;
  key-of-seven = refl;
}
