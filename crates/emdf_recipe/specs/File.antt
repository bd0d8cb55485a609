-- A recipe on file: records in a chain, what is asked along it, and the list of edits that it stands for. Assumes nothing.
use Rattle.std.specs.Prelude.{Bool, true, false, List, [], ◌∷◌, ℕ, zero, suc, ◌+◌, ◌-◌, ◌*◌, length, take, drop, leb, ltb, eqb, if◌then◌else◌, Result, Ok, Err}
use Rattle.openjoc_bitio.specs.Bits.{bits_value}
use Rattle.emdf_format.specs.Contents.{◌&◌}
use Rattle.emdf_format.specs.Edits.{Edit, body_edit, drop_edit, key_edit}
use Rattle.emdf_format.specs.declared.RecipeError.{RecipeError}
use Rattle.emdf_format.specs.declared.RecipeError.TheVariants.{BrokenChain, InvalidRecord}
use Rattle.emdf_recipe.specs.declared.RecipeRecord.{RecipeRecord}
use Rattle.emdf_recipe.specs.declared.RecordKind.{RecordKind}
use Rattle.emdf_recipe.specs.declared.RecordKind.TheVariants.{Body, Drop, Key}

-- the big-endian number of n octets from octet at on
abbrev pub octets_number : List ℕ → ℕ → ℕ → ℕ
octets_number s at n = bits_value s (at * 8) (n * 8)

-- ---- the head, and a record by its number from 1

abbrev pub first_index : List ℕ → ℕ
first_index s = octets_number s 0 2

abbrev pub record_count : List ℕ → ℕ
record_count s = octets_number s 2 2

abbrev pub record_start : ℕ → ℕ
record_start i = 16 * i - 12

-- the kinds that are listed; any other number stays a number
unfoldable pub kind_of : ℕ → Result RecordKind ℕ
kind_of n = if eqb n 1 then Ok Body else (if eqb n 2 then Ok Drop else (if eqb n 3 then Ok Key else Err n))

unfoldable pub record_at : List ℕ → ℕ → RecipeRecord
record_at s i = record {
  next = octets_number s (record_start i) 2;
  kind = kind_of (octets_number s (record_start i + 2) 1);
  zero = octets_number s (record_start i + 3) 1;
  place = octets_number s (record_start i + 4) 4;
  offset = octets_number s (record_start i + 8) 4;
  length = octets_number s (record_start i + 12) 4;
}

-- the edit that a record asks for; a drop has no data, a key no place. A record of no kind is refused: its edit never shows
unfoldable pub edit_asked : Result RecordKind ℕ → List ℕ → RecipeRecord → Edit
edit_asked (Ok Body) s e = body_edit e.place (take e.length (drop e.offset s))
edit_asked (Ok Drop) s e = drop_edit e.place
edit_asked (Ok Key) s e = key_edit (octets_number s e.offset 8)
edit_asked (Err n) s e = key_edit (octets_number s e.offset 8)

abbrev pub record_edit : List ℕ → RecipeRecord → Edit
record_edit s e = edit_asked e.kind s e

-- ---- what is asked of record i

-- 22: its next index is 0, or above its own and at most the count
unfoldable pub next_allowed : ℕ → ℕ → ℕ → Bool
next_allowed count i next = if eqb next 0 then true else (ltb i next & leb next count)

-- its kind is listed, a key is 8 octets, and its data lie in a file of n bytes
unfoldable pub data_allowed : Result RecordKind ℕ → ℕ → RecipeRecord → Bool
data_allowed (Ok Body) n e = leb (e.offset + e.length) n
data_allowed (Ok Drop) n e = true
data_allowed (Ok Key) n e = leb (e.offset + e.length) n & eqb e.length 8
data_allowed (Err k) n e = false

-- 23: its zero byte is zero, and its data are allowed
unfoldable pub record_allowed : ℕ → RecipeRecord → Bool
record_allowed n e = eqb e.zero 0 & data_allowed e.kind n e

-- all of it: 22 where it is not in the file, 22 of its next index, 23
unfoldable pub link_of : List ℕ → ℕ → ℕ → Result ℕ RecipeError
link_of s count i =
    if leb (4 + 16 * i) (length s)
    then (if next_allowed count i (record_at s i).next
    then (if record_allowed (length s) (record_at s i) then Ok (record_at s i).next else Err InvalidRecord)
    else Err BrokenChain)
    else Err BrokenChain

-- ---- the chain

pub data Recipe : Type 0 where
  edits : List Edit → Recipe
  wrong : RecipeError → Recipe

unfoldable pub prepend : Edit → Recipe → Recipe
prepend e (edits es) = edits (e ∷ es)
prepend e (wrong why) = wrong why

unfoldable pub follow : Result ℕ RecipeError → Edit → (ℕ → Recipe) → Recipe
follow (Ok n) e rest = prepend e (rest n)
follow (Err why) e rest = wrong why

-- the records from number i on; so many may still come, as numbers rise up to the count
unfoldable pub chain : ℕ → List ℕ → ℕ → ℕ → Recipe
chain zero s count i = if eqb i 0 then edits [] else wrong BrokenChain
chain (suc more) s count i =
    if eqb i 0 then edits [] else follow (link_of s count i) (record_edit s (record_at s i)) (chain more s count)

unfoldable pub recipe_of : List ℕ → Recipe
recipe_of s =
    if leb 4 (length s)
    then (if leb (first_index s) (record_count s) then chain (record_count s) s (record_count s) (first_index s) else wrong BrokenChain)
    else wrong BrokenChain

unfoldable pub edits_of : Recipe → List Edit
edits_of (edits es) = es
edits_of (wrong why) = []

-- ---- what a check answers: how many edits there are, after so many before them

unfoldable pub edits_after : ℕ → Recipe → Result ℕ RecipeError
edits_after n (edits es) = Ok (n + length es)
edits_after n (wrong why) = Err why

abbrev pub check_answer : Recipe → Result ℕ RecipeError
check_answer r = edits_after 0 r
