-- A table whose first rows have their ids and ordinals, and one row more. Assumes nothing.
use mathlib.Core.Path.{◌≡◌, refl, sym, ap, ◌∙◌}
use mathlib.Core.List.{List, [], ◌∷◌}
use Prim.Native.Nat.{ℕ, zero, suc, ◌+◌, ◌<◌, ◌≤◌}
use native.Mathlib.Decide.{dec_lt}
use native.Mathlib.Omega.{arith}
use lib.ListN.{length, get_or, set}
use Rattle.emdf_format.specs.Ordinals.{ordinal_at}
use Rattle.emdf_format.specs.declared.PayloadRecord.{PayloadRecord}
use Rattle.emdf_format.specs.declared.PayloadRow.{PayloadRow}
use Rattle.emdf_ordinals.specs.Rows.{searched}
use Rattle.emdf_ordinals.proofs.Rows.{Tracks, Numbers, last-most, ordinal-by-rows}
use Rattle.emdf_records_row.specs.Row.{id_in, ordinal_in, last_of, row_after}

-- ---- a row that is put in

there : (xs : List PayloadRow) (i : ℕ) (r : PayloadRow) → i < length xs → (id_in (set xs i r) i ≡ r.payload.id) × (ordinal_in (set xs i r) i ≡ r.ordinal)
unfolding id_in ordinal_in
there [] i r h = absurd (omega arith)
there (x ∷ xs) zero r h = (refl, refl)
there (x ∷ xs) (suc i) r h = there xs i r (omega arith)

before : (xs : List PayloadRow) (i j : ℕ) (r : PayloadRow) → j < i → (id_in (set xs i r) j ≡ id_in xs j) × (ordinal_in (set xs i r) j ≡ ordinal_in xs j)
unfolding id_in ordinal_in
before [] i j r h = (refl, refl)
before (x ∷ xs) zero j r h = absurd (omega arith)
before (x ∷ xs) (suc i) zero r h = (refl, refl)
before (x ∷ xs) (suc i) (suc j) r h = before xs i j r (omega arith)

-- ---- numbered rows

-- the first n rows of a table have these ids, and their ordinals
abbrev pub RowsNumbered : List PayloadRow → List ℕ → ℕ → Type 0
RowsNumbered xs ids n = Numbers (id_in xs) (ordinal_in xs) ids n

pub numbered-none : (xs : List PayloadRow) (ids : List ℕ) → RowsNumbered xs ids 0
numbered-none xs ids j l = absurd (omega arith)

-- the row of a payload with the ordinal at its place
abbrev pub row_at : List ℕ → ℕ → PayloadRecord → PayloadRow
row_at ids k r = record { payload = r; ordinal = ordinal_at ids k }

module _ (xs : List PayloadRow) (ids : List ℕ) (k : ℕ) (f : RowsNumbered xs ids k) (r : PayloadRecord) (own : get_or ids k 0 ≡ r.id) where
  pub numbered_next : k < length xs → RowsNumbered (set xs k (row_at ids k r)) ids (k + 1)
  numbered_next h j l = elim (dec_lt j k) [
    | yes m ↦ let b = before xs k j (row_at ids k r) m in (b.0 ∙ (f j m).0, b.1 ∙ (f j m).1)
    | no m ↦ at-end (omega arith)
  ]
    where
      at-end : k ≡ j → (id_in (set xs k (row_at ids k r)) j ≡ get_or ids j 0) × (ordinal_in (set xs k (row_at ids k r)) j ≡ ordinal_at ids j)
      at-end e = let t = there xs k (row_at ids k r) h in rw (← e) (t.0 ∙ sym own, t.1)

  module _ (slots : List ℕ) (t : Tracks slots ids k) (h : k < length ids) where
    -- what is found in the rows that are searched gives the ordinal at place k
    pub row-is-at : row_after xs (searched slots r.id k) r ≡ row_at ids k r
    row-is-at =
        let e : suc (last_of xs r.id (searched slots r.id k)) ≡ ordinal_at ids k = ap (λ (x : ℕ). suc (last_of xs x (searched slots x k))) (sym own) ∙ ordinal-by-rows (id_in xs) (ordinal_in xs) ids h t f in
        ap (λ (n : ℕ). record { payload = r; ordinal = n }) e

    pub found-most : last_of xs r.id (searched slots r.id k) ≤ k
    found-most = omega (arith, t.within r.id, last-most (id_in xs) (ordinal_in xs) ids r.id (searched slots r.id k) (omega (arith, t.within r.id)) (λ j l. f j (omega (arith, t.within r.id))))
