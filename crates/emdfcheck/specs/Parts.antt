-- What the parts of the program promise each other. Assumes nothing.
use Rattle.std.specs.Prelude.{◌≡◌, Bool, true, false, List, [], ℕ, ◌+◌, ◌*◌, ◌≤◌, length}
use Rattle.openjoc_bitio.specs.declared.BitCursor.{BitCursor}
use Rattle.emdf_format.specs.Reading.{Container, Reading, accepted, refusal, reading}
use Rattle.emdf_format.specs.Calls.{records_of}
use Rattle.emdf_format.specs.declared.PayloadRecord.{PayloadRecord}
use Rattle.openjoc_emdf.specs.Answers.{first_payload}
use Rattle.openjoc_emdf.specs.declared.CarrierClassification.{CarrierClassification}
use Rattle.openjoc_emdf.specs.declared.CarrierClassification.TheVariants.{NonEmdf, Parsed, TrailingData, Malformed}

abbrev pub is_non_emdf : CarrierClassification → Bool
is_non_emdf NonEmdf = true
is_non_emdf (Parsed p) = false
is_non_emdf (TrailingData n len) = false
is_non_emdf (Malformed why) = false

unfoldable pub records_in : Reading → List PayloadRecord
records_in (accepted n c) = records_of c.found
records_in (refusal why) = []

-- s is one carrier, whose payloads start at the cursor first; their lines have room from index at on, in a text of size bytes
pub record Printable (s : List ℕ) (first : BitCursor) (at size : ℕ) : Type 0 where
  pub container : Container
  pub is : reading s ≡ accepted (length s) container
  pub start : first ≡ first_payload (length s) s
  pub fit : at + 126 * length container.found ≤ size
