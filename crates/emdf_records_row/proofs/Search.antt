-- The last row with an id, as a search from behind finds it. Assumes nothing.
use mathlib.Core.Path.{◌≡◌, refl, ap}
use mathlib.Core.Bool.{Bool, true, false}
use mathlib.Core.List.{List, [], ◌∷◌, ◌++◌, reverse}
use Prim.Native.Nat.{ℕ, zero, suc, ◌+◌, ◌≤◌, ◌<◌}
use native.Mathlib.Omega.{arith}
use native.Mathlib.Numerals.{add-one}
use lib.Dec.{eqb}
use lib.ListN.{length, get_or, set, take}
use denote.Ref.{Bor}
use Rattle.std.specs.Prelude.{Option, Some, None, if◌then◌else◌, MatchOption}
use Rattle.std.specs.Option.{option_map}
use Rattle.std.specs.List.{find}
use Rattle.std.proofs.lemmas.List.{take_more, reverse-append}
use Rattle.emdf_format.specs.declared.PayloadRecord.{PayloadRecord}
use Rattle.emdf_format.specs.declared.PayloadRow.{PayloadRow}
use Rattle.emdf_ordinals.specs.Rows.{last_ordinal}
use Rattle.emdf_records_row.specs.Row.{id_in, ordinal_in, last_of, row_after}

id-there : (xs : List PayloadRow) (i : ℕ) (d : PayloadRow) → i < length xs → id_in xs i ≡ (get_or xs i d).payload.id
unfolding id_in
id-there [] i d h = absurd (omega arith)
id-there (x ∷ xs) zero d h = refl
id-there (x ∷ xs) (suc i) d h = id-there xs i d (omega arith)

ordinal-there : (xs : List PayloadRow) (i : ℕ) (d : PayloadRow) → i < length xs → ordinal_in xs i ≡ (get_or xs i d).ordinal
unfolding ordinal_in
ordinal-there [] i d h = absurd (omega arith)
ordinal-there (x ∷ xs) zero d h = refl
ordinal-there (x ∷ xs) (suc i) d h = ordinal-there xs i d (omega arith)

-- whether a row has the id
abbrev pub has_id : ℕ → PayloadRow → Bool
has_id x r = eqb r.payload.id x

-- the ordinal of the row that is found, 0 where none is
abbrev pub ordinal_or : Option PayloadRow → ℕ
ordinal_or None = 0
ordinal_or (Some r) = r.ordinal

pub last-found : (xs : List PayloadRow) (x n : ℕ) (d : PayloadRow) → n ≤ length xs → ordinal_or (find (has_id x) (reverse (take n xs))) ≡ last_of xs x n
unfolding last_ordinal
last-found xs x zero d h = refl
last-found xs x (suc n) d h =
    let e : take (suc n) xs ≡ take n xs ++ get_or xs n d ∷ [] = rw add-one at (take_more xs n d (omega arith)) in
    rw (e, reverse-append, id-there xs n d (omega arith), ordinal-there xs n d (omega arith)) (go (has_id x (get_or xs n d)) (last-found xs x n d (omega arith)))
  where
    go : (t : Bool) → ordinal_or (find (has_id x) (reverse (take n xs))) ≡ last_of xs x n
        → ordinal_or (if t then Some (get_or xs n d) else find (has_id x) (reverse (take n xs))) ≡ (if t then (get_or xs n d).ordinal else last_of xs x n)
    go true h = refl
    go false h = h

-- the number of what a search found
pub number-found : (o : Option (Bor PayloadRow)) {n : ℕ} → MatchOption o (n ≡ 0) (λ r. n ≡ r.now.ordinal) → n ≡ ordinal_or (option_map (λ r. r.now) o)
number-found None h = h
number-found (Some r) h = h

-- one more than the ordinal that is found makes the row
pub placed : (xs : List PayloadRow) (place rows : ℕ) (p : PayloadRecord) {n : ℕ} → n ≡ last_of xs p.id rows → set xs place (record { payload = p; ordinal = n + 1 }) ≡ set xs place (row_after xs rows p)
placed xs place rows p {n} e =
    let f : n + 1 ≡ suc (last_of xs p.id rows) = omega (arith, e) in
    ap (λ (m : ℕ). set xs place (record { payload = p; ordinal = m })) f
