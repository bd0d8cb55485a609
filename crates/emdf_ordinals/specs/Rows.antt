-- The ordinal of a payload by the rows before its own. Assumes nothing.
use Rattle.std.specs.Prelude.{List, Bool, ℕ, zero, suc, ◌+◌, ◌*◌, ◌%◌, length, get_or, set, ltb, eqb, if◌then◌else◌}
use Rattle.openjoc_bitio.specs.Bits.{bits_value}
use Rattle.emdf_format.specs.Contents.{◌&◌}

-- ---- slots

-- an id's slot, where there are so many
abbrev pub slot_of : ℕ → ℕ
slot_of x = x % 512

-- how many of k rows there are up to the last that may have id x: a slot has the place after the last row whose id has it
unfoldable pub searched : List ℕ → ℕ → ℕ → ℕ
searched slots x k = if ltb (slot_of x) (length slots) then get_or slots (slot_of x) 0 else k

-- row k has id x
abbrev pub slots_with : List ℕ → ℕ → ℕ → List ℕ
slots_with slots x k = set slots (slot_of x) (suc k)

-- ---- rows

-- the ordinal of the last of n rows with id x, 0 where none has it
unfoldable pub last_ordinal : (ℕ → ℕ) → (ℕ → ℕ) → ℕ → ℕ → ℕ
last_ordinal id ordinal x zero = 0
last_ordinal id ordinal x (suc k) = if eqb (id k) x then ordinal k else last_ordinal id ordinal x k

-- a number of 8 octets in row k of a table, rows being width bytes long: offset bytes behind the row's start
abbrev pub column_at : List ℕ → ℕ → ℕ → ℕ → ℕ
column_at table width offset k = bits_value table ((k * width + offset) * 8) 64

-- ---- a payload that is looked for

abbrev pub is_wanted : ℕ → ℕ → ℕ → ℕ → Bool
is_wanted found x o seen = eqb found x & eqb (seen + 1) o
