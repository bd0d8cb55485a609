-- What a reading that fills a table answers, and what it plans before it fills it. Assumes nothing.
use Rattle.std.specs.Prelude.{◌≡◌, List, ℕ, leb, if◌then◌else◌, Result, Ok, Err}
use Rattle.openjoc_bitio.specs.declared.BitCursor.{BitCursor}
use Rattle.emdf_format.specs.Reading.{Reading, accepted, refusal}
use Rattle.emdf_format.specs.Calls.{Records, recorded, unrecorded, table_after}
use Rattle.emdf_format.specs.declared.PayloadRow.{PayloadRow}
use Rattle.emdf_format.specs.declared.RecordsError.{RecordsError}
use Rattle.openjoc_emdf.specs.Answers.{parsed_emdf, first_payload}
use Rattle.openjoc_emdf.specs.declared.ParsedEmdf.{ParsedEmdf}

unfoldable pub records_answer : Records → Result ParsedEmdf RecordsError
records_answer (recorded n c) = Ok (parsed_emdf n c)
records_answer (unrecorded why) = Err why

-- what the call gives: its answer, and its table at exit
abbrev pub GivesRecords : Records → List PayloadRow → Result ParsedEmdf RecordsError → List PayloadRow → Type 0
GivesRecords t table answer exit = (answer ≡ records_answer t) × (exit ≡ table_after t table)

-- ---- before a row is filled

-- a carrier and its first payload, where there are rows for all
unfoldable pub rows_plan : ParsedEmdf → BitCursor → ℕ → Result (ParsedEmdf × BitCursor) RecordsError
rows_plan p first rows =
    if leb p.container.payloads rows then Ok (p, first) else Err (RecordsError.TableTooShort p.container.payloads)

unfoldable pub records_plan : ℕ → List ℕ → Reading → Result (ParsedEmdf × BitCursor) RecordsError
records_plan rows s (accepted n c) = rows_plan (parsed_emdf n c) (first_payload n s) rows
records_plan rows s (refusal why) = Err (RecordsError.Emdf why)
