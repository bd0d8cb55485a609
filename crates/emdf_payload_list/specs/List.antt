-- How many payloads there are, and the largest number of groups in them: e is the end of the cursor that was handed in. Assumes nothing.
use Rattle.std.specs.Prelude.{List, ℕ, length, Option, Some, None, Result, Ok, Err}
use Rattle.openjoc_bitio.specs.declared.BitCursor.{BitCursor}
use Rattle.emdf_format.specs.declared.PayloadRecord.{PayloadRecord}
use Rattle.emdf_format.specs.Reader.{Read, got, refused, cursor_at}
use Rattle.emdf_format.specs.Reading.{Found, payloads_of}
use Rattle.emdf_format.specs.Groups.{larger, payloads_groups}
use Rattle.emdf_format.specs.declared.EmdfError.{EmdfError}
use Rattle.emdf_payloads.specs.Payloads.{record_groups}

-- a payload that is passed, with the larger of a number of groups and its own
unfoldable pub list_step : ℕ → Result (Option PayloadRecord × BitCursor) EmdfError → Result (Option ℕ × BitCursor) EmdfError
list_step most (Ok (Some r, c)) = Ok (Some (larger most (record_groups r)), c)
list_step most (Ok (None, c)) = Ok (None, c)
list_step most (Err why) = Err why

unfoldable pub list_answer : ℕ → Read (List Found) → Result (ℕ × ℕ × BitCursor) EmdfError
list_answer e (got xs q) = Ok (length xs, payloads_groups (payloads_of xs), cursor_at e q)
list_answer e (refused why q) = Err why
