-- What is stored piece by piece. Assumes nothing.
use mathlib.Core.Path.{◌≡◌, sym}
use mathlib.Core.List.{List, []}
use Prim.Native.Nat.{ℕ, suc, ◌+◌, ◌-◌, ◌*◌, ◌<◌, ◌≤◌}
use native.Mathlib.Omega.{arith}
use lib.ListN.{length, set, take, drop, get_or, drop_of_length-le}
use lib.Seq.{sets, drop-cons, take-nil}
use Rattle.emdf_format.specs.declared.PayloadRow.{PayloadRow}
use Rattle.emdf_format.proofs.Bytes.{sets-append}
use Rattle.emdf_answers.specs.Form.{words}
use Rattle.emdf_answers.specs.Carriers.{row_words, rows_bytes}
use Rattle.emdf_rows.proofs.Rows.{length-row}

-- ---- bytes

pub all-taken : {X : Type 0} (n i : ℕ) (xs : List X) → n ≤ i → take (n - i) (drop i xs) ≡ []
all-taken n i xs h = let a : n - i ≡ 0 = omega arith in rw a

pub all_there : {X : Type 0} (n i : ℕ) (xs : List X) → length xs ≤ i → take (n - i) (drop i xs) ≡ []
all_there n i xs h = rw (drop_of_length-le xs h) (take-nil (n - i))

pub byte-stored : (n i : ℕ) (out bytes : List ℕ) → i < n → i < length bytes → sets (set out i (get_or bytes i 0)) (i + 1) (take (n - (i + 1)) (drop (i + 1) bytes)) ≡ sets out i (take (n - i) (drop i bytes))
byte-stored n i out bytes h k =
    let a : n - i ≡ suc (n - (i + 1)) = omega arith in
    let b : i + 1 ≡ suc i = omega arith in
    rw (a, b, drop-cons bytes i 0 k)

-- ---- rows

-- the row at place i, before those after it
pub row-stored : (i : ℕ) (table : List ℕ) (rows : List PayloadRow) (d : PayloadRow) → i < length rows
    → sets (sets table (i * 224) (words (row_words (get_or rows i d)))) ((i + 1) * 224) (rows_bytes (drop (i + 1) rows)) ≡ sets table (i * 224) (rows_bytes (drop i rows))
unfolding rows_bytes
row-stored i table rows d h =
    let r = get_or rows i d in
    let e : (i + 1) * 224 ≡ i * 224 + length (words (row_words r)) = omega (arith, length-row r) in
    let s : i + 1 ≡ suc i = omega arith in
    rw (drop-cons rows i d h, e, s) (sym (sets-append table (i * 224) (words (row_words r)) (rows_bytes (drop (suc i) rows))))

pub rows-done : (i : ℕ) (table : List ℕ) (rows : List PayloadRow) → length rows ≤ i → table ≡ sets table (i * 224) (rows_bytes (drop i rows))
unfolding rows_bytes
rows-done i table rows h = rw (drop_of_length-le rows h)
