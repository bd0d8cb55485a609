-- A payload's row in a host's table. Assumes nothing.
use Rattle.std.specs.Prelude.{◌≡◌, List, ℕ, suc, ◌*◌, ◌≤◌, ◌<◌, ◌^◌, Some, Ok}
use Rattle.std.proofs.lemmas.List.Edits.{sets}
use Rattle.openjoc_bitio.specs.declared.BitCursor.{BitCursor}
use Rattle.emdf_format.specs.declared.PayloadRecord.{PayloadRecord}
use Rattle.emdf_payloads.specs.Payloads.{step_at}
use Rattle.emdf_ordinals.specs.Rows.{searched, slots_with, last_ordinal, column_at}
use Rattle.emdf_answers.specs.Form.{row_bytes, words}
use Rattle.emdf_answers.specs.Carriers.{row_words}

-- what the rows of a table say: row k's id, and its ordinal
abbrev pub id_column : List ℕ → ℕ → ℕ
id_column table = column_at table row_bytes 0

abbrev pub ordinal_column : List ℕ → ℕ → ℕ
ordinal_column table = column_at table row_bytes 216

-- the last ordinal of id x in the rows before place
abbrev pub last_in : List ℕ → List ℕ → ℕ → ℕ → ℕ
last_in table slots place x = last_ordinal (id_column table) (ordinal_column table) x (searched slots x place)

-- what is searched are rows before place, and there is room for one ordinal more
abbrev pub Searchable : List ℕ → List ℕ → ℕ → Type 0
Searchable table slots place = (x : ℕ) → (searched slots x place ≤ place) × (last_in table slots place x ≤ place)

-- a payload's row at place, with its ordinal by the rows before it
pub record PutsNumbered (table slots : List ℕ) (place : ℕ) (payload : PayloadRecord) (exit slots' : List ℕ) : Type 0 where
  pub stored : exit ≡ sets table (place * row_bytes) (words (row_words (record { payload = payload; ordinal = suc (last_in table slots place payload.id) })))
  pub taken : slots' ≡ slots_with slots payload.id place
  pub small : payload.id < 2 ^ 64
  pub fits : suc (last_in table slots place payload.id) < 2 ^ 64

-- where a payload stands at c: its row is stored, and the cursor past it is answered
abbrev pub PutsRow : List ℕ → BitCursor → List ℕ → List ℕ → ℕ → BitCursor → List ℕ → List ℕ → Type 0
PutsRow s c table slots place past exit slots' =
    (found : PayloadRecord) (next : BitCursor) → step_at s c ≡ Ok (Some found, next) → PutsNumbered table slots place found exit slots' × (past ≡ next)
