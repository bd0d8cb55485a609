-- A payload's row by the rows of a table before it. Assumes nothing.
use Rattle.std.specs.Prelude.{List, [], ◌∷◌, ℕ, zero, suc}
use Rattle.emdf_format.specs.declared.PayloadRecord.{PayloadRecord}
use Rattle.emdf_format.specs.declared.PayloadRow.{PayloadRow}
use Rattle.emdf_ordinals.specs.Rows.{last_ordinal}

-- the id in row k, and its ordinal, 0 where there is no such row
unfoldable pub id_in : List PayloadRow → ℕ → ℕ
id_in [] k = 0
id_in (r ∷ rs) zero = r.payload.id
id_in (r ∷ rs) (suc k) = id_in rs k

unfoldable pub ordinal_in : List PayloadRow → ℕ → ℕ
ordinal_in [] k = 0
ordinal_in (r ∷ rs) zero = r.ordinal
ordinal_in (r ∷ rs) (suc k) = ordinal_in rs k

-- the ordinal of the last of the first n rows with id x, 0 where none has it
abbrev pub last_of : List PayloadRow → ℕ → ℕ → ℕ
last_of table x n = last_ordinal (id_in table) (ordinal_in table) x n

-- a payload's row behind these n rows
abbrev pub row_after : List PayloadRow → ℕ → PayloadRecord → PayloadRow
row_after table n p = record { payload = p; ordinal = suc (last_of table p.id n) }
