-- A table of which the first rows are lent: what the reading leaves of it. Assumes nothing.
use mathlib.Core.Path.{◌≡◌, refl}
use mathlib.Core.List.{List, [], ◌∷◌, ◌++◌, append_assoc}
use Prim.Native.Nat.{ℕ, zero, suc, ◌≤◌}
use native.Mathlib.Omega.{arith}
use lib.ListN.{length, take, drop, take-append-drop}
use lib.Seq.{length-take-le}
use borrow.Author.Tests.{le-leb, lt-leb}
use native.Mathlib.Decide.{dec_lt}
use Rattle.std.specs.Prelude.{Result}
use Rattle.openjoc_emdf.specs.declared.ParsedEmdf.{ParsedEmdf}
use Rattle.emdf_format.specs.declared.RecordsError.{RecordsError}
use Rattle.emdf_format.specs.Reading.{Reading, accepted, refusal, reading}
use Rattle.emdf_format.specs.Ordinals.{rows_of}
use Rattle.emdf_format.specs.Calls.{in_table, table_after}
use Rattle.emdf_format.specs.declared.PayloadRow.{PayloadRow}
use Rattle.emdf_records_plan.specs.Records.{records_answer, GivesRecords}

drop-append : {X : Type 0} (k : ℕ) (xs ys : List X) → k ≤ length xs → drop k (xs ++ ys) ≡ drop k xs ++ ys
drop-append zero xs ys h = refl
drop-append (suc k) [] ys h = absurd (omega arith)
drop-append (suc k) (x ∷ xs) ys h = drop-append k xs ys (omega arith)

-- the rows that are not lent stay
pub rest-stays : (before after : List PayloadRow) (x : Reading) → table_after (in_table (length before) x) before ++ after ≡ table_after (in_table (length before) x) (before ++ after)
unfolding in_table table_after
rest-stays before after (refusal why) = refl
rest-stays before after (accepted n c) =
    elim (dec_lt (length before) (length c.found)) [
      | yes h ↦ rw (lt-leb (length c.found) (length before) h)
      | no h ↦ rw (le-leb (length c.found) (length before) (omega arith), drop-append (length c.found) before after (omega arith)) (append_assoc (rows_of c.found) (drop (length c.found) before) after)
    ]

-- what the reading gives of the rows that are lent, it gives of all of them
pub whole_gives : (s : List ℕ) (xs : List PayloadRow) (rows : ℕ) {r : Result ParsedEmdf RecordsError} {ys : List PayloadRow} → rows ≤ length xs
    → GivesRecords (in_table (length (take rows xs)) (reading s)) (take rows xs) r ys
    → (r ≡ records_answer (in_table rows (reading s))) × (ys ++ drop rows xs ≡ table_after (in_table rows (reading s)) xs)
whole_gives s xs rows h g =
    let e : length (take rows xs) ≡ rows = length-take-le rows xs h in
    let f = rest-stays (take rows xs) (drop rows xs) (reading s) in
    (rw e at g.0, rw (g.1, e) (rw (take-append-drop rows xs, e) at f))
