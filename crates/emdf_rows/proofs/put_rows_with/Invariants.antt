use mathlib.Core.Path.{◌≡◌}
use mathlib.Core.List.{List}
use lib.ListN.{length}
use lib.Seq.{sets}
use Rattle.emdf_format.specs.Reading.{Found}
use Rattle.emdf_format.specs.Ordinals.{ids_in, rows_of}
use Rattle.emdf_payloads.specs.Payloads.{Listed}
use Rattle.emdf_answers.specs.Carriers.{rows_bytes}
use Rattle.emdf_rows.proofs.Rows.{Left}
use Rattle.emdf_rows.proofs.put_rows_with.Given as goal

abbrev pub invariant-loop-place : goal.invariant-loop-place
invariant-loop-place l =
    (xs : List Found) → Listed l.s l.initial.at xs → length xs ≡ l.count → Left l.s l.at (ids_in xs) l.place l.count l.table l.slots (sets l.initial.table 0 (rows_bytes (rows_of xs)))
