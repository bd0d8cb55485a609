-- What the program prints for the bytes of its input: the lines of the scope. Assumes nothing.
use Rattle.std.specs.Prelude.{ℕ, List, [], ◌∷◌, ◌++◌, length, leb, if◌then◌else◌}
use Rattle.emdf_format.specs.Reading.{Container}
use Rattle.emdf_format.specs.Refusals.{refusal_of, figures_of}
use Rattle.emdf_format.specs.Calls.{records_of, Class, non_emdf, parsed, trailing_data, malformed, classify}
use Rattle.emdf_format.specs.declared.PayloadRecord.{PayloadRecord}
use Rattle.emdf_text.specs.Lines.{ascii, decimal, line}

-- a payload's id, the four starts of id, settings, size and body, and the body's end
unfoldable pub record_line : PayloadRecord → List ℕ
record_line r =
    line
    (decimal r.id)
    (r.trace.payload_id_start_bit.0
    ∷ r.trace.config_start_bit.0
    ∷ r.trace.payload_size_start_bit.0
    ∷ r.trace.payload_body_start_bit.0
    ∷ r.trace.payload_body_end_bit.0
    ∷ [])

unfoldable pub record_lines : List PayloadRecord → List ℕ
record_lines [] = []
record_lines (r ∷ rs) = record_line r ++ record_lines rs

-- a carrier of n bytes: bytes, key id, count, and a line a payload; above 512 payloads, refusal 13 and the count
unfoldable pub parsed_lines : ℕ → Container → List ℕ
parsed_lines n c =
    if leb (length c.found) 512
    then line (ascii "parsed") (n ∷ c.key-id ∷ length c.found ∷ []) ++ record_lines (records_of c.found)
    else line (ascii "table") (13 ∷ length c.found ∷ [])

unfoldable pub class_lines : Class → List ℕ
class_lines non_emdf = line (ascii "nonemdf") []
class_lines (parsed n c) = parsed_lines n c
class_lines (trailing_data n len) = line (ascii "trailing") (n ∷ len ∷ [])
class_lines (malformed why) = line (ascii "malformed") ((figures_of (refusal_of why)).number ∷ [])

unfoldable pub output : List ℕ → List ℕ
output s = if leb (length s) 65536 then class_lines (classify s) else line (ascii "toolong") []
