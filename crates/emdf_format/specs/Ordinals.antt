-- Which of the payloads of its id a payload is: its ordinal, from 1 in the carrier's order. Assumes nothing.
use Rattle.std.specs.Prelude.{◌≡◌, List, [], ◌∷◌, ◌↔◌, ℕ, suc, ◌≤◌, ◌<◌, get_or, take, eqb, if◌then◌else◌, Result, Ok, Err}
use Rattle.std.proofs.Math.Option.{some}
use Rattle.std.proofs.Math.ListN.{get_elem?}
use Rattle.emdf_format.specs.declared.FindError.{FindError}
use Rattle.emdf_format.specs.Types.{PayloadRow}
use Rattle.emdf_format.specs.declared.FindError.TheVariants as FindError
use Rattle.emdf_format.specs.Contents.{Payload, ◌&◌}
use Rattle.emdf_format.specs.Reading.{Found, Container, Reading, accepted, refusal, payloads_of}

-- how many of these ids are x
unfoldable pub occurrences : ℕ → List ℕ → ℕ
occurrences x [] = 0
occurrences x (y ∷ ys) = if eqb y x then suc (occurrences x ys) else occurrences x ys

-- at place k: how many of the ids up to it, itself among them, are the same
unfoldable pub ordinal_at : List ℕ → ℕ → ℕ
ordinal_at ids k = occurrences (get_or ids k 0) (take (suc k) ids)

unfoldable pub ids_of : List Payload → List ℕ
ids_of [] = []
ids_of (x ∷ xs) = x.id ∷ ids_of xs

-- ---- a table's rows

-- from place k on, in a carrier with these ids
unfoldable pub rows_from : List ℕ → ℕ → List Found → List PayloadRow
rows_from ids k [] = []
rows_from ids k (x ∷ xs) = record { payload = x.record_of; ordinal = ordinal_at ids k } ∷ rows_from ids (suc k) xs

abbrev pub ids_in : List Found → List ℕ
ids_in xs = ids_of (payloads_of xs)

unfoldable pub rows_of : List Found → List PayloadRow
rows_of xs = rows_from (ids_in xs) 0 xs

-- row k has id x and ordinal o
pub record Numbered (rs : List PayloadRow) (k x o : ℕ) : Type 0 where
  pub row : PayloadRow
  pub at : get_elem? rs k ≡ some row
  pub id : row.payload.id ≡ x
  pub ordinal : row.ordinal ≡ o

unfoldable pub row_ids : List PayloadRow → List ℕ
row_ids [] = []
row_ids (r ∷ rs) = r.payload.id ∷ row_ids rs

-- the invariant of a table's first n rows: a row's ordinal is how many rows up to it, itself among them, have its id. So an id's
-- ordinals are from 1, in the carrier's order, without gaps
pub record OrdinalsInOrder (rs : List PayloadRow) (n : ℕ) : Type 0 where
  pub counted : (k x o : ℕ) → k < n → Numbered rs k x o → o ≡ occurrences x (row_ids (take (suc k) rs))
  pub from_one : (k x o : ℕ) → k < n → Numbered rs k x o → 1 ≤ o
  pub without-gaps : (k x o : ℕ) → k < n → Numbered rs k x (suc (suc o)) → (j : ℕ) × (j < k) × Numbered rs j x (suc o)

-- ---- a payload by its id and ordinal

-- the place, where the first of these rows is at place k
unfoldable pub find_in : ℕ → ℕ → ℕ → List PayloadRow → Result ℕ FindError
find_in x o k [] = Err FindError.NoSuchOrdinal
find_in x o k (r ∷ rs) = if eqb r.payload.id x & eqb r.ordinal o then Ok k else find_in x o (suc k) rs

unfoldable pub find_payload : ℕ → ℕ → Reading → Result ℕ FindError
find_payload x o (accepted n c) = find_in x o 0 (rows_of c.found)
find_payload x o (refusal why) = Err (FindError.Emdf why)

-- of an accepted carrier: a place is answered exactly where its row has that id and ordinal, and 24 exactly where no row has
pub record FindsExactly : Type 0 where
  pub found : (n : ℕ) (c : Container) (x o k : ℕ) → (find_payload x o (accepted n c) ≡ Ok k) ↔ Numbered (rows_of c.found) k x o
  pub missing : (n : ℕ) (c : Container) (x o : ℕ) → (find_payload x o (accepted n c) ≡ Err FindError.NoSuchOrdinal) ↔ ((k : ℕ) → Numbered (rows_of c.found) k x o → ⊥)
