-- The answers of carriers, by what the definitions of emdf_format find: e is the end of the cursor that was handed in. Assumes nothing.
use Rattle.std.specs.Prelude.{List, ◌≡◌, ℕ, ◌*◌, ◌≤◌, length, take, Result, Ok, Err}
use Rattle.openjoc_bitio.specs.declared.BitCursor.{BitCursor}
use Rattle.emdf_format.specs.Reader.{extended_value}
use Rattle.emdf_format.specs.Reading.{Container, Reading, accepted, refusal, reading}
use Rattle.emdf_format.specs.Calls.{Class, non_emdf, parsed, trailing_data, malformed}
use Rattle.emdf_format.specs.declared.EmdfError.{EmdfError}
use Rattle.openjoc_emdf.specs.Types.{ParsedEmdf, CarrierClassification}
use Rattle.emdf_fields.specs.declared.FieldError.{FieldError}
use Rattle.emdf_fields.specs.Fields.{field_answer}
use Rattle.emdf_payloads.specs.Payloads.{Listed}
use Rattle.emdf_container.specs.Container.{container_of}

-- ---- the carrier, and its class

abbrev pub parsed_emdf : ℕ → Container → ParsedEmdf
parsed_emdf n c = record { container = container_of c; bytes_consumed = record { 0 = n } }

unfoldable pub parse_answer : Reading → Result ParsedEmdf EmdfError
parse_answer (accepted n c) = Ok (parsed_emdf n c)
parse_answer (refusal why) = Err why

abbrev pub reached_by : Result (ℕ × BitCursor) FieldError → BitCursor
reached_by (Ok (v, c)) = c
reached_by (Err f) = f.cursor

-- past the version, which is 0 and takes 2 bits, and past the key id, in a container of n bytes
unfoldable pub first_payload : ℕ → List ℕ → BitCursor
first_payload n s = reached_by (field_answer (n * 8) (extended_value 3 (take n s) (n * 8) 34))

unfoldable pub open_answer : List ℕ → Reading → Result (ParsedEmdf × BitCursor) EmdfError
open_answer s (accepted n c) = Ok (parsed_emdf n c, first_payload n s)
open_answer s (refusal why) = Err why

unfoldable pub class_answer : Class → CarrierClassification
class_answer non_emdf = CarrierClassification.NonEmdf
class_answer (parsed n c) = CarrierClassification.Parsed (parsed_emdf n c)
class_answer (trailing_data n len) = CarrierClassification.TrailingData (record { 0 = n }) (record { 0 = len })
class_answer (malformed why) = CarrierClassification.Malformed why

-- what an opened carrier has: its container, and the cursor at its first payload
pub record Opened (s : List ℕ) (p : ParsedEmdf) (first : BitCursor) : Type 0 where
  pub container : Container
  pub is : reading s ≡ accepted p.bytes_consumed.0 container
  pub parsed : parsed_emdf p.bytes_consumed.0 container ≡ p
  pub there : p.bytes_consumed.0 ≤ length s
  pub from : first ≡ first_payload p.bytes_consumed.0 s
  pub end : first.end ≡ p.bytes_consumed.0 * 8
  pub listed : Listed (take p.bytes_consumed.0 s) first container.found
